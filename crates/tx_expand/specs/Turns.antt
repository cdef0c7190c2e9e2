-- One turn: a token is read, and what comes of it before another one is needed (TeX: The Program, sections 366 to 380).
use Rattle.std.specs.Prelude.{◌≡◌, ℕ, Bool, true, false, not, ◌&&◌, ◌||◌, Option, None, Some, List, [], ◌∷◌, ◌++◌, ℤ, unwrap_or, if◌then◌else◌}
use Rattle.tx_char.specs.declared.category.Cat.{Cat}
use Rattle.tx_char.specs.declared.category.Cat.TheVariants.{AlignmentTab}
use Rattle.tx_char.specs.declared.tokens.Token.{Token}
use Rattle.tx_char.specs.declared.tokens.Token.TheVariants as token
use Rattle.tx_toklist.specs.Bodies.{filled}
use Rattle.tx_toklist.specs.Macros.{Definition, Parameters, is_begin}
use Rattle.tx_pending.specs.declared.next.ColumnPart.TheVariants.{U, V}
use Rattle.tx_pending.specs.declared.next.Next.{Next}
use Rattle.tx_pending.specs.declared.next.Next.TheVariants as front
use Rattle.tx_pending.specs.Elements.{Input, Step, given_back, is_at_entry, lowered, step, unread, with_close, with_held, with_part_end, with_tokens, with_use}
use Rattle.tx_prim.specs.declared.family.AlignWord.{AlignWord}
use Rattle.tx_prim.specs.declared.family.AlignWord.TheVariants as align
use Rattle.tx_prim.specs.declared.family.EntryEnd.{EntryEnd}
use Rattle.tx_prim.specs.declared.family.EntryEnd.TheVariants as end
use Rattle.tx_prim.specs.declared.primitive.Primitive.{Primitive}
use Rattle.tx_prim.specs.declared.primitive.Primitive.TheVariants as primitive
use Rattle.tx_prim.specs.declared.expandable.Conversion.TheVariants as conversion
use Rattle.tx_prim.specs.declared.expandable.Expandable.{Expandable}
use Rattle.tx_prim.specs.declared.expandable.Expandable.TheVariants as expandable
use Rattle.tx_prim.specs.declared.expandable.MarkKind.{MarkKind}
use Rattle.tx_prim.specs.declared.expandable.Test.{Test}
use Rattle.tx_prim.specs.declared.expandable.Test.TheVariants as tests
use Rattle.tx_seen.specs.declared.error.TexError.{TexError}
use Rattle.tx_seen.specs.declared.error.TexError.TheVariants.{Undefined, InvalidCharacter, NumberOutOfRange, ExtraConditionalWord, IncompleteConditional, IncompleteText, MisplacedAlignment}
use Rattle.tx_seen.specs.declared.fed.Want.{Want}
use Rattle.tx_seen.specs.declared.fed.Want.TheVariants.{Raw, Expanded}
use Rattle.tx_seen.specs.declared.fed.Value.{Value}
use Rattle.tx_seen.specs.declared.item.Item.{Item}
use Rattle.tx_seen.specs.declared.item.Item.TheVariants.{Took}
use Rattle.tx_seen.specs.declared.meaning.Meaning.{Meaning}
use Rattle.tx_seen.specs.declared.meaning.Meaning.TheVariants as meaning
use Rattle.tx_seen.specs.declared.place.Place.{Place}
use Rattle.tx_seen.specs.declared.place.Place.TheVariants as place
use Rattle.tx_seen.specs.declared.seen.Seen.{Seen}
use Rattle.tx_seen.specs.Magnified.{magnification_in}
use Rattle.tx_seen.specs.Seen.{held}
use Rattle.tx_seen.specs.Readings.{Reading, More, Need, Done, Wrong}
use Rattle.tx_scan.specs.Integers.{byte_of}
use Rattle.tx_scan.specs.Settled.{tokens_of}
use Rattle.tx_scan.specs.Supplied.{with_values}
use Rattle.tx_cond.specs.declared.types.Conditional.{Conditional}
use Rattle.tx_cond.specs.declared.types.Conditional.TheVariants.{Testing}
use Rattle.tx_cond.specs.declared.types.Meet.{Meet}
use Rattle.tx_cond.specs.declared.types.Meet.TheVariants as meet
use Rattle.tx_cond.specs.declared.types.SkipItem.{SkipItem}
use Rattle.tx_cond.specs.declared.types.SkipItem.TheVariants.{Other}
use Rattle.tx_cond.specs.Skipping.{Passing, Inside, Ended, Refused, item_of, passing}
use Rattle.tx_cond.specs.Conditionals.{Met, decide, is_skipped, meeting}
use Rattle.tx_macro.specs.Matching as macro
use Rattle.tx_convert.specs.Fonts.{font_text}
use Rattle.tx_convert.specs.Jobs.{job_name}
use Rattle.tx_convert.specs.Meanings.{mark_text, meaning_text}
use Rattle.tx_convert.specs.Texts.{as_tokens, string_text}
use Rattle.tx_expand.specs.declared.begun.Begun.{Begun}
use Rattle.tx_expand.specs.declared.begun.Begun.TheVariants as begun
use Rattle.tx_expand.specs.declared.types.Destination.{Destination}
use Rattle.tx_expand.specs.declared.types.Destination.TheVariants as to
use Rattle.tx_expand.specs.declared.types.Expanded.{Expanded as Answer}
use Rattle.tx_expand.specs.declared.types.Expanded.TheVariants as answer
use Rattle.tx_expand.specs.declared.types.Made.{Made}
use Rattle.tx_expand.specs.declared.types.Made.TheVariants as made
use Rattle.tx_expand.specs.declared.types.Printed.{Printed}
use Rattle.tx_expand.specs.declared.types.Printed.TheVariants as printed
use Rattle.tx_expand.specs.declared.types.Scanned.{Scanned}
use Rattle.tx_expand.specs.declared.types.Scanned.TheVariants as scanned
use Rattle.tx_expand.specs.declared.types.Wanted.{Wanted}
use Rattle.tx_expand.specs.Reader.{World, Reader, Turn, Goes, Fails}
use Rattle.tx_expand.specs.Scans.{Scan, reading}
use Rattle.tx_expand.specs.Uses.{Use, comes_to, with_taken}

abbrev pub with_begun : List Begun → Reader → Reader
with_begun begun r = record r { begun = begun }

abbrev pub with_conditionals : List Conditional → Reader → Reader
with_conditionals conditionals r = record r { conditionals = conditionals }

abbrev pub with_input : Input → Reader → Reader
with_input input r = record r { input = input }

-- tokens that weren't read stand in front (section 323)
abbrev pub put : List Token → Reader → Reader
put tokens r = with_input (with_tokens r.input tokens) r

-- so do tokens that were read, to be read again (section 325)
abbrev pub put_back : List Token → Reader → Reader
put_back tokens r = with_input (given_back r.input tokens) r

-- and those that the use of a macro comes to (section 390)
abbrev pub put_use : List Token → Reader → Reader
put_use tokens r = with_input (with_use r.input tokens) r

-- so does one that \noexpand holds: where it is read again at once, it isn't expanded (section 369)
abbrev pub put_held : Token → Reader → Reader
put_held t r = with_input (with_held r.input t) r

-- \endinput: the file ends with its line (section 378)
abbrev pub put_close : Reader → Reader
put_close r = with_input (with_close r.input) r

-- one begins within those that have begun
abbrev pub begins : Begun → Reader → Turn
begins b r = Goes answer.Went (with_begun (b ∷ r.begun) r)

-- an expansion within these has ended: what \expandafter held back before it comes in front, innermost first (section 368); \span in a
-- preamble waited for it alone (section 782)
abbrev pub released_within : List Begun → Reader → Reader
released_within [] r = with_begun [] r
released_within (begun.Before t ∷ outer) r = released_within outer (put_back (t ∷ []) (with_begun outer r))
released_within (begun.Once ∷ outer) r = with_begun outer r
released_within (b ∷ outer) r = with_begun (b ∷ outer) r

-- the token that the innermost expansion holds back
abbrev pub held_back : List Begun → Option Token
held_back (begun.Before t ∷ outer) = Some t
held_back other = None

-- where no \expandafter waits, \span waits no more
abbrev pub without_once : List Begun → List Begun
without_once (begun.Once ∷ outer) = outer
without_once other = other

abbrev pub released : Reader → Reader
released r = released_within r.begun r

abbrev pub ended : Reader → Turn
ended r = Goes answer.Went (released r)

-- the same, and these tokens stand in its place
abbrev pub replaced : List Token → Reader → Turn
replaced tokens r = ended (put tokens r)

-- the same, where they were read
abbrev pub returned : List Token → Reader → Turn
returned tokens r = ended (put_back tokens r)

-- a word of the innermost conditional: while its test is read TeX puts a \relax in before the word, which is read again; else text
-- is skipped from there on, or read (sections 379 and 510)
abbrev pub met_word : Token → Reader → Option Met → Turn
met_word t r None = Fails ExtraConditionalWord
met_word t r (Some met) = by met.answer (with_conditionals met.stack r)
  where
    by : Meet → Reader → Turn
    by meet.Relax behind = returned (token.FrozenRelax ∷ t ∷ []) behind
    by meet.Skip behind = begins (begun.Skipping 0) behind
    by meet.Closed behind = ended behind

-- the innermost test has this value: its branch is read, or text is skipped (section 498)
abbrev pub decided : ℤ → Reader → Turn
decided value r =
    let conditionals : List Conditional = decide value r.conditionals in
    if is_skipped conditionals then begins (begun.Skipping 0) (with_conditionals conditionals r) else ended (with_conditionals conditionals r)

-- a name that has no meaning means \relax from now on (section 372)
abbrev pub named : List ℕ → Meaning → Reader → Turn
named name meaning.Undefined r = Goes (answer.Relaxes name) r
named name other r = Goes answer.Went r

-- a list of tokens is put in, or belongs to the text that the caller takes; a font's identifier is one of its own (sections 466
-- and 467)
abbrev pub listed : Destination → List Token → Reader → Turn
listed to.Input tokens r = replaced tokens r
listed to.Text tokens r = Goes (answer.Text tokens) (released r)

-- that of a register of \toks
abbrev pub register_listed : World → Destination → Option ℕ → Reader → Turn
register_listed w to None r = Fails NumberOutOfRange
register_listed w to (Some number) r = listed to (w.tokens (place.Toks number)) r

-- what comes of what was read
abbrev pub come : World → Made → Reader → Turn
come w (made.Puts tokens) r = replaced tokens r
come w (made.Gives tokens) r = Goes (answer.Text tokens) (released r)
come w (made.List to place) r = listed to (w.tokens place) r
come w (made.Register to n) r = register_listed w to (byte_of n) r
come w (made.Identifier to font) r = listed to (token.FontIdentifier (w.font font) ∷ []) r
come w (made.Names name) r = named name (w.meaning (token.Name name)) (released (put_back (token.Name name ∷ []) r))
come w (made.Decides value) r = decided value r
come w (made.Font font) r = replaced (as_tokens (font_text w.fonts (w.font font))) r
come w (made.Opens name) r = Goes (answer.Asks name) (with_begun (begun.Opening ∷ r.begun) r)

-- these items come to that; what wasn't needed of them is read again
abbrev pub read_on : World → Scan → Reader → Reading Made → Turn
read_on w scan r (More want) = begins (begun.Scanning scan) r
read_on w scan r (Need kind) = begins (begun.Scanning scan) r
read_on w scan r (Done made back) = come w made (put_back (tokens_of back) r)
read_on w scan r (Wrong error) = Fails error

-- an expansion reads these items
abbrev pub reads : World → Scanned → List Item → Reader → Turn
reads w what items r = read_on w (record { what = what; taken = items }) r (reading what items)

-- a token joins them, and so do the values that are needed behind it
abbrev pub joined : (Place → Value) → Scan → Seen → List Item
joined at scan t = with_values at (reading scan.what) (scan.taken ++ Took t ∷ [])

-- a begin-group token with which a parameter text ends stands in the body too, so it is as if it hadn't been read (section 394)
abbrev pub behind_begin : Bool → Input → Input
behind_begin opens input = if opens then lowered input else input

-- a token joins the use of a macro (section 389)
abbrev pub use_on : Token → Use → Reader → macro.Use → Turn
use_on t u r macro.Open = begins (begun.Use u) r
use_on t u r (macro.Fits arguments) = ended (put_use (filled u.definition.body arguments) (with_input (behind_begin (is_begin t) r.input) r))
use_on t u r (macro.Fails error) = Fails error

-- a token joins skipped text, of which it makes this (section 494)
abbrev pub skips_on : Token → Reader → Passing → Turn
skips_on t r (Inside depth) = begins (begun.Skipping depth) r
skips_on t r (Ended word) = met_word t r (meeting r.conditionals word)
skips_on t r (Refused error) = Fails error

-- such text goes on as it did behind what neither begins a conditional nor is a word of one, and isn't \outer
abbrev pub is_other : SkipItem → Bool
is_other Other = true
is_other item = false

-- which mark a meaning is that of, if it is \topmark or one of its kin
abbrev pub mark_in : Expandable → Option MarkKind
mark_in (expandable.Mark kind) = Some kind
mark_in other = None

abbrev pub mark_meant : Meaning → Option MarkKind
mark_meant (meaning.Expandable e) = mark_in e
mark_meant other = None

-- what \meaning prints: of \topmark and its kin also the tokens of the mark, if there is one (section 296)
abbrev pub mark_shown : World → MarkKind → List ℕ
mark_shown w kind = mark_text w.escape w.codes w.fonts kind (unwrap_or (w.mark kind) [])

abbrev pub meaning_shown : World → Meaning → List ℕ
meaning_shown w m = by (mark_meant m)
  where
    by : Option MarkKind → List ℕ
    by None = meaning_text w.escape w.codes w.fonts m
    by (Some kind) = mark_shown w kind

-- what is printed of a token (section 472)
abbrev pub text_of : World → Printed → Seen → List ℕ
text_of w printed.Token t = string_text w.escape w.fonts t.token
text_of w printed.Meaning t = meaning_shown w t.meaning

-- \noexpand, \string, \meaning and \ifx take a token whatever it is (sections 369, 471 and 507)
abbrev pub compares : Scanned → Bool
compares (scanned.Test tests.Same mode) = true
compares other = false

abbrev pub is_expanding : Want → Bool
is_expanding Raw = false
is_expanding Expanded = true

abbrev pub want_of : Reading Made → Want
want_of (More want) = want
want_of other = Raw

-- all else that is read off tokens wants one as it stands behind a backquote alone: a brace there is a number, and counts as if it
-- hadn't been read (section 442)
abbrev pub is_constant : Scan → Bool
is_constant scan = not (is_expanding (want_of (reading scan.what scan.taken))) && not (compares scan.what)

abbrev pub counted : Bool → Seen → Input → Input
counted constant t input = if constant then unread input t.token else input

-- an expansion takes a token within those around it
abbrev pub given_by : World → Seen → Reader → Begun → Turn
given_by w t r (begun.Use u) = use_on t.token (with_taken u t.token) r (comes_to (with_taken u t.token))
given_by w t r begun.After = begins (begun.Before t.token) r
given_by w t r (begun.Before held) = returned (held ∷ t.token ∷ []) r
given_by w t r begun.Once = returned (t.token ∷ []) r
given_by w t r begun.Hold = ended (put_held t.token r)
given_by w t r (begun.Print what) = replaced (as_tokens (text_of w what t)) r
given_by w t r (begun.Scanning scan) = reads w scan.what (joined w.value scan t) (with_input (counted (is_constant scan) t r.input) r)
given_by w t r (begun.Skipping depth) = skips_on t.token r (passing depth (item_of t.meaning))
given_by w t r begun.Opening = begins begun.Opening r

-- the innermost expansion takes a token, or the caller does
abbrev pub given_to : World → Seen → Reader → List Begun → Turn
given_to w t r [] = Goes (answer.Got t) r
given_to w t r (b ∷ outer) = given_by w t (with_begun outer r) b

-- whether an expansion reads tokens that are expanded, or skips text: each takes any number of tokens
abbrev pub scans : Begun → Bool
scans (begun.Scanning scan) = true
scans other = false

abbrev pub skips : Begun → Bool
skips (begun.Skipping depth) = true
skips other = false

-- whether the innermost one wants what stands behind a backquote
abbrev pub wants_constant : List Begun → Bool
wants_constant (begun.Scanning scan ∷ outer) = is_constant scan
wants_constant other = false

-- whether the innermost one does
abbrev pub is_scanning : List Begun → Bool
is_scanning [] = false
is_scanning (b ∷ outer) = scans b

abbrev pub is_skipping : List Begun → Bool
is_skipping [] = false
is_skipping (b ∷ outer) = skips b

-- whether an expansion is the use of a macro, and whether the innermost one is
abbrev pub matches : Begun → Bool
matches (begun.Use u) = true
matches other = false

abbrev pub is_matching : List Begun → Bool
is_matching [] = false
is_matching (b ∷ outer) = matches b

-- whether the innermost expansion takes characters as they stand, one after the other: an argument does, and skipped text
abbrev pub takes_characters : List Begun → Bool
takes_characters begun = is_matching begun || is_skipping begun

-- the magnification, where the innermost one took it last
abbrev pub magnification_by : Begun → Option ℕ
magnification_by (begun.Scanning scan) = magnification_in scan.taken
magnification_by other = None

abbrev pub magnification_taken : List Begun → Option ℕ
magnification_taken [] = None
magnification_taken (b ∷ outer) = magnification_by b

-- so does an \expandafter that waits for one: the token that it holds back
abbrev pub waits : Begun → Bool
waits begun.After = true
waits other = false

abbrev pub is_waiting : List Begun → Bool
is_waiting [] = false
is_waiting (b ∷ outer) = waits b

-- the tokens of \the belong to the text that the caller takes where it takes such, and nothing else has begun (section 478)
abbrev pub destination : Bool → List Begun → Destination
destination takes_the (b ∷ outer) = to.Input
destination true [] = to.Text
destination false [] = to.Input

-- whether an expansion reads a file's name: an \input there ends it, as it does where the caller takes one (section 378)
abbrev pub reads_file : Scanned → Bool
reads_file scanned.File = true
reads_file other = false

abbrev pub finds : Begun → Bool
finds (begun.Scanning scan) = reads_file scan.what
finds other = false

abbrev pub is_finding : List Begun → Bool
is_finding [] = false
is_finding (b ∷ outer) = finds b || is_finding outer

abbrev pub is_case : Test → Bool
is_case tests.Case = true
is_case other = false

-- a mark is put in, if there is one (section 386)
abbrev pub marked : Option (List Token) → Reader → Turn
marked None r = ended r
marked (Some tokens) r = replaced tokens r

-- the expansion of a primitive, whose token is this (section 367)
abbrev pub expands : World → Wanted → Token → Reader → Expandable → Turn
expands w wanted t r expandable.ExpandAfter = begins begun.After r
expands w wanted t r expandable.NoExpand = begins begun.Hold r
expands w wanted t r expandable.CsName = reads w scanned.Name [] r
expands w wanted t r (expandable.Convert conversion.Number) = reads w scanned.Number [] r
expands w wanted t r (expandable.Convert conversion.RomanNumeral) = reads w scanned.Roman [] r
expands w wanted t r (expandable.Convert conversion.Token) = begins (begun.Print printed.Token) r
expands w wanted t r (expandable.Convert conversion.Meaning) = begins (begun.Print printed.Meaning) r
expands w wanted t r (expandable.Convert conversion.JobName) = replaced (as_tokens (job_name r.job)) r
expands w wanted t r (expandable.Convert conversion.FontName) = reads w scanned.Font [] r
expands w wanted t r expandable.The = reads w (scanned.Quantity (destination wanted.takes_the r.begun)) [] r
expands w wanted t r expandable.Input = if wanted.names || is_finding r.begun then returned (token.FrozenRelax ∷ t ∷ []) r else reads w scanned.File [] r
expands w wanted t r expandable.EndInput = ended (put_close r)
expands w wanted t r (expandable.Test test) = reads w (scanned.Test test w.mode) [] (with_conditionals (Testing (is_case test) ∷ r.conditionals) r)
expands w wanted t r (expandable.Word word) = met_word t r (meeting r.conditionals word)
expands w wanted t r (expandable.Mark kind) = marked (w.mark kind) r

-- whether a parameter text is empty
abbrev pub is_bare : Parameters → Bool
is_bare p = is_none p.before && is_none p.delimiters
  where
    is_none : {A : Type 0} → List A → Bool
    is_none [] = true
    is_none (x ∷ xs) = false

-- a macro without anything in its parameter text is its body; the others take their arguments (section 389)
abbrev pub uses : Definition → Reader → Turn
uses m r = if is_bare m.parameters then ended (put_use (filled m.body []) r) else begins (begun.Use (record { definition = m; taken = [] })) r

-- the expansion of a token that means this; what isn't expanded is taken
abbrev pub expanded : World → Wanted → Seen → Reader → Meaning → Turn
expanded w wanted t r meaning.Undefined = Fails Undefined
expanded w wanted t r (meaning.Expandable e) = expands w wanted t.token r e
expanded w wanted t r (meaning.Macro m) = uses m r
expanded w wanted t r other = given_to w t r r.begun

-- whether a token that means this is never expanded
abbrev pub is_plain : Meaning → Bool
is_plain meaning.Undefined = false
is_plain (meaning.Expandable e) = false
is_plain (meaning.Macro m) = false
is_plain other = true

-- whether it is the caller's, however that wants it: nothing has begun
abbrev pub passes : Meaning → List Begun → Bool
passes m [] = is_plain m
passes m (b ∷ outer) = false

-- how the next token is wanted by the innermost expansion, or by the caller: what \expandafter waits for is expanded, and so is what
-- \span waits for
abbrev pub wanted_by : Wanted → List Begun → Want
wanted_by wanted [] = wanted.want
wanted_by wanted (begun.Before t ∷ outer) = Expanded
wanted_by wanted (begun.Once ∷ outer) = Expanded
wanted_by wanted (begun.Scanning scan ∷ outer) = want_of (reading scan.what scan.taken)
wanted_by wanted (b ∷ outer) = Raw

-- whether a macro is used where it comes next
abbrev pub expands_macro : Wanted → Definition → List Begun → Bool
expands_macro wanted m opened = not m.outer && is_expanding (wanted_by wanted opened)

-- the error at an \outer macro and where a file ends: text is skipped, or an argument or a text is taken (sections 336 and 338);
-- nothing begins within skipped text or an argument, whose tokens aren't expanded
abbrev pub in_text : Bool → Option TexError
in_text true = Some IncompleteText
in_text false = None

abbrev pub incomplete : Bool → List Begun → Option TexError
incomplete text (begun.Skipping depth ∷ outer) = Some IncompleteConditional
incomplete text (begun.Use m ∷ outer) = Some IncompleteText
incomplete text other = in_text text

abbrev pub takes_all : List Begun → Bool
takes_all (begun.Hold ∷ outer) = true
takes_all (begun.Print what ∷ outer) = true
takes_all (begun.Scanning scan ∷ outer) = compares scan.what
takes_all other = false

abbrev pub is_outer : Meaning → Bool
is_outer (meaning.Macro m) = m.outer
is_outer other = false

-- the error that an \outer macro is here
abbrev pub refused : Bool → Meaning → List Begun → Option TexError
refused text m opened = if is_outer m && not (takes_all opened) then incomplete text opened else None

-- a token is read: \outer is looked at first; then it is expanded, or taken
abbrev pub token_read : World → Wanted → Seen → Reader → Turn
token_read w wanted t r = by (refused wanted.text t.meaning r.begun)
  where
    by : Option TexError → Turn
    by (Some error) = Fails error
    by None = if is_expanding (wanted_by wanted r.begun) then expanded w wanted t r t.meaning else given_to w t r r.begun

-- what a token ends that is read at level 0: an entry of an alignment, whatever is open (section 342)
abbrev pub word_ends : AlignWord → Option EntryEnd
word_ends align.Cr = Some end.Cr
word_ends align.CrCr = Some end.CrCr
word_ends align.Span = Some end.Span
word_ends other = None

abbrev pub primitive_ends : Primitive → Option EntryEnd
primitive_ends (primitive.AlignWord word) = word_ends word
primitive_ends other = None

abbrev pub category_ends : Cat → Option EntryEnd
category_ends AlignmentTab = Some end.Tab
category_ends _ = None

abbrev pub entry_end : Meaning → Option EntryEnd
entry_end (meaning.Character code kind) = category_ends kind
entry_end (meaning.Command p) = primitive_ends p
entry_end other = None

abbrev pub at_entry : Bool → Option EntryEnd → Option EntryEnd
at_entry here None = None
at_entry here (Some word) = if here then Some word else None

abbrev pub entry_end_in : Input → Meaning → Option EntryEnd
entry_end_in input m = at_entry (is_at_entry input) (entry_end m)

-- a token is met: it ends an entry, or is read
abbrev pub met : World → Wanted → Seen → Reader → Turn
met w wanted t r = by (entry_end_in r.input t.meaning)
  where
    by : Option EntryEnd → Turn
    by (Some word) = Goes (answer.EndsEntry word) r
    by None = token_read w wanted t r

-- what stands for the end of a v-part where something is read that goes on up to it: a token that is neither expanded nor skipped, as
-- \cr is, and ends numbers, names and keywords
abbrev pub frozen : Seen
frozen = record { token = token.FrozenRelax; meaning = meaning.Command (primitive.AlignWord align.Cr) }

-- the end of a v-part stays in front
abbrev pub with_end : Reader → Reader
with_end r = with_input (with_part_end r.input V) r

-- the entry has ended, once nothing is open: what reads goes on up to the end of the v-part, and what \expandafter held back stands
-- before that
abbrev pub ends_part : World → Reader → List Begun → Turn
ends_part w r [] = Goes answer.PartEnded r
ends_part w r (begun.Scanning scan ∷ outer) = given_to w frozen (with_end r) (begun.Scanning scan ∷ outer)
ends_part w r other = ended (with_end r)

-- whether the caller only looks at the next token
abbrev pub peeks_at : Wanted → List Begun → Bool
peeks_at wanted [] = wanted.peeks
peeks_at wanted (b ∷ outer) = false

-- a v-part is read to its end (sections 375 and 1130): an error as at the end of a file where an argument, a text or skipped text goes
-- on, and where a token is taken whatever it is
abbrev pub part_ended : World → Wanted → Reader → Turn
part_ended w wanted r = by (incomplete wanted.text r.begun)
  where
    by : Option TexError → Turn
    by (Some error) = Fails error
    by None = if is_expanding (wanted_by wanted r.begun) || peeks_at wanted r.begun then ends_part w r r.begun else Fails MisplacedAlignment

abbrev pub front_read : World → Wanted → Reader → Next → Turn
front_read w wanted r (front.Token t) = met w wanted (record { token = t; meaning = w.meaning t }) r
front_read w wanted r (front.Held t) = met w wanted (held (record { token = t; meaning = w.meaning t })) r
front_read w wanted r front.Marker = Goes answer.Marked r
front_read w wanted r (front.PartEnd U) = Goes answer.Went r
front_read w wanted r (front.PartEnd V) = part_ended w wanted r
front_read w wanted r (front.Used false) = Goes answer.LineUsed r
front_read w wanted r (front.Used true) = Goes answer.FileUsed r
front_read w wanted r front.E1 = Fails InvalidCharacter

abbrev pub with_front : World → Wanted → Reader → Step → Turn
with_front w wanted r next = front_read w wanted (with_input next.left r) next.next

-- whether the first line of a file is awaited
abbrev pub is_opening : List Begun → Bool
is_opening (begun.Opening ∷ outer) = true
is_opening other = false

-- a turn; the first line of the file that \input opened is asked for before anything else, also behind \endinput (section 538)
abbrev pub turn : World → Wanted → Reader → Turn
turn w wanted r = if is_opening r.begun then Goes answer.LineUsed r else with_front w wanted r (step w.codes r.input)

-- the innermost file has ended
abbrev pub file_ended : Bool → Reader → Option TexError
file_ended text r = incomplete text r.begun

-- the first line of the file that \input opened stands in front, or there is none: what \expandafter held back comes before it
abbrev pub opened : Reader → Reader
opened r = by r.begun
  where
    by : List Begun → Reader
    by (begun.Opening ∷ outer) = released (with_begun outer r)
    by other = r

-- the next token is expanded once, and what comes of it is read as it stands (section 782)
abbrev pub expanding_once : Reader → Reader
expanding_once r = with_begun (begun.Once ∷ r.begun) r

-- an answer is that of a turn, and this is left; where an error comes nothing is said of what is left
abbrev pub IsTurned : Turn → Reader → Answer → Type 0
IsTurned (Goes answer left) now given = (given ≡ answer) × (now ≡ left)
IsTurned (Fails error) now given = given ≡ answer.Wrong error
