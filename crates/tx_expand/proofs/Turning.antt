-- What a turn comes to by what was read.
use Rattle.std.proofs.Common.{◌≡◌, ◌≢◌, ◌<◌, ◌≤◌, ◌+◌, ◌-◌, ℕ, zero, suc, Bool, true, false, Option, None, Some, List, [], ◌∷◌, ◌++◌, drop, take, refl, ap, sym, ◌∙◌, arith, get_or, length, Result, Ok, Err, IfOk, IsTrue, ◌↔◌}
use Rattle.std.specs.Prelude.{reverse}
use Rattle.std.proofs.lemmas.List.{reverse-append, take_all, take_more}
use Rattle.tx_char.specs.declared.category.Cat.{Cat}
use Rattle.tx_char.specs.declared.tokens.Token.{Token}
use Rattle.tx_pending.specs.declared.next.ColumnPart.{ColumnPart}
use Rattle.tx_pending.specs.declared.next.Next.{Next}
use Rattle.tx_pending.specs.declared.next.Next.TheVariants as front
use Rattle.tx_pending.specs.Elements.{Input, step}
use Rattle.tx_seen.specs.declared.error.TexError.{TexError}
use Rattle.tx_seen.specs.declared.error.TexError.TheVariants.{MisplacedAlignment}
use Rattle.tx_seen.specs.declared.fed.Fed.TheVariants as fed
use Rattle.tx_seen.specs.declared.fed.Want.TheVariants.{Raw, Expanded}
use Rattle.tx_seen.specs.declared.meaning.Meaning.{Meaning}
use Rattle.tx_seen.specs.declared.meaning.Meaning.TheVariants as meaning
use Rattle.tx_seen.specs.declared.seen.Seen.{Seen}
use Rattle.tx_seen.specs.Seen.{held}
use Rattle.tx_prim.specs.declared.expandable.Expandable.{Expandable}
use Rattle.tx_toklist.specs.Macros.{Definition}
use Rattle.tx_expand.specs.declared.types.Wanted.{Wanted}
use Rattle.tx_seen.specs.declared.item.Item.{Item}
use Rattle.tx_seen.specs.Readings.{Reading, Done, last, next}
use Rattle.tx_cond.specs.Conditionals.{meeting}
use Rattle.tx_cond.specs.Skipping.{Passing, Inside, Ended, Refused, IsPassed, item_of, passing}
use Rattle.tx_prim.specs.declared.expandable.CondWord.{CondWord}
use Rattle.tx_prim.specs.declared.family.EntryEnd.{EntryEnd}
use Rattle.tx_seen.specs.declared.fed.Value.{Value}
use Rattle.tx_seen.specs.declared.place.Place.{Place}
use Rattle.tx_expand.specs.declared.begun.Begun.{Begun}
use Rattle.tx_expand.specs.declared.begun.Begun.TheVariants as begun
use Rattle.tx_expand.specs.declared.types.Expanded.TheVariants as answer
use Rattle.tx_expand.specs.declared.types.Made.{Made}
use Rattle.tx_expand.specs.declared.types.Read.{Read}
use Rattle.tx_expand.specs.declared.types.Read.TheVariants as read
use Rattle.tx_expand.specs.declared.types.Scanned.{Scanned}
use Rattle.tx_expand.specs.declared.state.Expander.{Expander}
use Rattle.tx_expand.specs.Expanding.{reader_of}
use Rattle.tx_expand.specs.Reader.{World, Reader, Fails}
use Rattle.tx_scan.specs.Settled.{tokens_of}
use Rattle.tx_expand.specs.Scans.{Scan, reading}
use Rattle.tx_expand.specs.Taken.{IsPassedFirst, IsRead, IsReadBegun, IsReadFirst}
use Rattle.tx_expand.specs.Turns.{at_entry, begins, come, counted, ended, ends_part, entry_end_in, expanded, finds, front_read, frozen, given_to, incomplete, is_finding, is_opening, is_scanning, is_skipping, joined, met, met_word, part_ended, peeks_at, put_back, read_on, reads, refused, skips_on, takes_characters, token_read, turn, wanted_by, wants_constant, with_begun, with_end, with_input, IsTurned}

pub reads-done : (w : World) (what : Scanned) (items : List Item) (r : Reader) (m : Made) (back : List Item) → reading what items ≡ Done m back → reads w what items r ≡ come w m (put_back (tokens_of back) r)
reads-done w what items r m back is = ap (λ (read : Reading Made). read_on w (record { what = what; taken = items }) r read) is

drop-none : (n : ℕ) (items : List Item) → items ≡ [] → drop n items ≡ []
drop-none zero [] is = refl
drop-none (suc n) [] is = refl
drop-none n (item ∷ items) is = absurd (cc)

none-last : (back : ℕ) → last back [] ≡ []
none-last back = drop-none (0 - back) [] refl

-- what is whole at once
pub whole-at-once : (what : Scanned) (m : Made) (back : ℕ) → ((more : List Item) → reading what more ≡ Done m (last back [] ++ more)) → reading what [] ≡ Done m []
whole-at-once what m back k = k [] ∙ ap (λ (items : List Item). Done m (items ++ [])) (none-last back)

-- what reads tokens that are expanded, if the innermost expansion does
is-scanning : (bs : List Begun) → is_scanning bs ≡ true → (scan : Scan) × ((outer : List Begun) × (bs ≡ begun.Scanning scan ∷ outer))
is-scanning [] is = absurd (cc)
is-scanning (begun.Use u ∷ outer) is = absurd (cc)
is-scanning (begun.After ∷ outer) is = absurd (cc)
is-scanning (begun.Before t ∷ outer) is = absurd (cc)
is-scanning (begun.Once ∷ outer) is = absurd (cc)
is-scanning (begun.Hold ∷ outer) is = absurd (cc)
is-scanning (begun.Print what ∷ outer) is = absurd (cc)
is-scanning (begun.Scanning scan ∷ outer) is = (scan, (outer, refl))
is-scanning (begun.Skipping depth ∷ outer) is = absurd (cc)
is-scanning (begun.Opening ∷ outer) is = absurd (cc)

-- a token joins it
pub reads-on : {E : Type 0} (at : Place → Value) (b : Begun) (scan new : Scan) (t : Seen) (before after : Input) (given : Result Read E) → b ≡ begun.Scanning scan → IfOk given (IsRead at scan t before new after) → IfOk given (IsReadBegun at b t before (begun.Scanning new) after)
reads-on at b scan new t before after (Ok read) is k = λ other also. let same : other ≡ scan = cc in (new, (refl, rw same k))
reads-on at b scan new t before after (Err e) is k = tt

-- what a token makes of what reads; a brace that is a number counts as none
given-scan : (w : World) (t : Seen) (r : Reader) (scan : Scan) (outer : List Begun) (b : Bool) → r.begun ≡ begun.Scanning scan ∷ outer → b ≡ wants_constant r.begun → given_to w t r r.begun ≡ reads w scan.what (joined w.value scan t) (with_input (counted b t r.input) (with_begun outer r))
given-scan w t r scan outer b is constant = rw (constant, is) refl

-- more is to come
pub scanned-more : (w : World) (t : Seen) (r : Reader) (b : Bool) (new : List Begun) (after : Input) → is_scanning r.begun ≡ true → b ≡ wants_constant r.begun → IsReadFirst w.value r.begun t (counted b t r.input) new after read.More → IsTurned (given_to w t r r.begun) (record { input = after; begun = new; conditionals = r.conditionals; job = r.job }) answer.Went
scanned-more w t r b new after is constant k =
    let first = is-scanning r.begun is in
    let scan : Scan = first.0 in
    let joins = k scan first.1.0 first.1.1 in
    let goes : reads w scan.what (joined w.value scan t) (with_input (counted b t r.input) (with_begun first.1.0 r)) ≡ begins (begun.Scanning (record { what = scan.what; taken = joined w.value scan t })) (with_input (counted b t r.input) (with_begun first.1.0 r)) =
    ap (λ (read : Reading Made). read_on w (record { what = scan.what; taken = joined w.value scan t }) (with_input (counted b t r.input) (with_begun first.1.0 r)) read) joins.1.1.0.1 in
    rw (given-scan w t r scan first.1.0 b first.1.1 constant ∙ goes, joins.1.0, joins.1.1.1.0, joins.1.1.1.1) (refl, refl)

-- a token makes it whole
pub scanned-made : (w : World) (t : Seen) (r : Reader) (b : Bool) (new outer : List Begun) (after : Input) (made : Made) → is_scanning r.begun ≡ true → b ≡ wants_constant r.begun → IsReadFirst w.value r.begun t (counted b t r.input) new after (read.Made made) → outer ≡ drop 1 new → given_to w t r r.begun ≡ come w made (record { input = after; begun = outer; conditionals = r.conditionals; job = r.job })
scanned-made w t r b new outer after made is constant k rest =
    let first = is-scanning r.begun is in
    let scan : Scan = first.0 in
    let items : List Item = joined w.value scan t in
    let joins = k scan first.1.0 first.1.1 in
    let around : outer ≡ first.1.0 = rest ∙ ap (λ (bs : List Begun). drop 1 bs) joins.1.0 in
    let before : Reader = with_input (counted b t r.input) (with_begun first.1.0 r) in
    let goes : reads w scan.what items before ≡ come w made (put_back (tokens_of joins.1.1.0) before) = reads-done w scan.what items before made joins.1.1.0 joins.1.1.1.0 in
    rw (given-scan w t r scan first.1.0 b first.1.1 constant, joins.1.1.1.1, around) goes

-- it is wrong
pub scanned-wrong : (w : World) (t : Seen) (r left : Reader) (b : Bool) (new : List Begun) (after : Input) (error : TexError) → is_scanning r.begun ≡ true → b ≡ wants_constant r.begun → IsReadFirst w.value r.begun t (counted b t r.input) new after (read.Wrong error) → IsTurned (given_to w t r r.begun) left (answer.Wrong error)
scanned-wrong w t r left b new after error is constant k =
    let first = is-scanning r.begun is in
    let scan : Scan = first.0 in
    let joins = k scan first.1.0 first.1.1 in
    let fails : reads w scan.what (joined w.value scan t) (with_input (counted b t r.input) (with_begun first.1.0 r)) ≡ Fails error =
    ap (λ (read : Reading Made). read_on w (record { what = scan.what; taken = joined w.value scan t }) (with_input (counted b t r.input) (with_begun first.1.0 r)) read) joins.1.1 in
    rw (given-scan w t r scan first.1.0 b first.1.1 constant ∙ fails) refl

-- skipped text, if the innermost expansion is that
pub is-skipping : (bs : List Begun) → is_skipping bs ≡ true → (depth : ℕ) × ((outer : List Begun) × (bs ≡ begun.Skipping depth ∷ outer))
is-skipping [] is = absurd (cc)
is-skipping (begun.Use u ∷ outer) is = absurd (cc)
is-skipping (begun.After ∷ outer) is = absurd (cc)
is-skipping (begun.Before t ∷ outer) is = absurd (cc)
is-skipping (begun.Once ∷ outer) is = absurd (cc)
is-skipping (begun.Hold ∷ outer) is = absurd (cc)
is-skipping (begun.Print what ∷ outer) is = absurd (cc)
is-skipping (begun.Scanning scan ∷ outer) is = absurd (cc)
is-skipping (begun.Skipping depth ∷ outer) is = (depth, (outer, refl))
is-skipping (begun.Opening ∷ outer) is = absurd (cc)

-- what an item makes of it, by the answer
passed-word : (p : Passing) (t : Token) (r : Reader) (word : CondWord) (back left : ℕ) → IsPassed p (fed.Done word back) left → skips_on t r p ≡ met_word t r (meeting r.conditionals word)
passed-word (Inside next) t r word back left k = absurd (let is = k.0 in cc)
passed-word (Ended other) t r word back left k = let same : other ≡ word = cc in ap (λ (w : CondWord). met_word t r (meeting r.conditionals w)) same
passed-word (Refused error) t r word back left k = absurd (cc)

passed-wrong : (p : Passing) (t : Token) (r : Reader) (error : TexError) (left : ℕ) → IsPassed p (fed.Wrong error) left → skips_on t r p ≡ Fails error
passed-wrong (Inside next) t r error left k = absurd (let is = k.0 in cc)
passed-wrong (Ended word) t r error left k = absurd (cc)
passed-wrong (Refused other) t r error left k = let same : other ≡ error = cc in ap (λ (e : TexError). Fails e) same

-- a word ends it
pub skipped-word : (w : World) (t : Seen) (r : Reader) (new outer : List Begun) (word : CondWord) (back : ℕ) → is_skipping r.begun ≡ true → IsPassedFirst r.begun (item_of t.meaning) new (fed.Done word back) → outer ≡ drop 1 new → given_to w t r r.begun ≡ met_word t.token (with_begun outer r) (meeting r.conditionals word)
skipped-word w t r new outer word back is k rest =
    let first = is-skipping r.begun is in
    let passed = k first.0 first.1.0 first.1.1 in
    let around : outer ≡ first.1.0 = rest ∙ ap (λ (bs : List Begun). drop 1 bs) passed.1.0 in
    let goes : skips_on t.token (with_begun first.1.0 r) (passing first.0 (item_of t.meaning)) ≡ met_word t.token (with_begun first.1.0 r) (meeting r.conditionals word) = passed-word (passing first.0 (item_of t.meaning)) t.token (with_begun first.1.0 r) word back passed.0 passed.1.1 in
    rw (first.1.1, around) goes

-- it breaks off
pub skipped-wrong : (w : World) (t : Seen) (r left : Reader) (new : List Begun) (error : TexError) → is_skipping r.begun ≡ true → IsPassedFirst r.begun (item_of t.meaning) new (fed.Wrong error) → IsTurned (given_to w t r r.begun) left (answer.Wrong error)
skipped-wrong w t r left new error is k =
    let first = is-skipping r.begun is in
    let passed = k first.0 first.1.0 first.1.1 in
    let fails : skips_on t.token (with_begun first.1.0 r) (passing first.0 (item_of t.meaning)) ≡ Fails error = passed-wrong (passing first.0 (item_of t.meaning)) t.token (with_begun first.1.0 r) error passed.0 passed.1.1 in
    rw (first.1.1, fails) refl

-- whether a file's name is being read, place by place, the innermost last
finding-rest : (b : Begun) (outer : List Begun) (all : Bool) → finds b ≡ false → is_finding (b ∷ outer) ≡ all → is_finding outer ≡ all
finding-rest b outer all e h = rw e at h

finding-first : (b : Begun) (outer : List Begun) (all : Bool) → finds b ≡ true → is_finding (b ∷ outer) ≡ all → true ≡ all
finding-first b outer all e h = rw e at h

finding-split : (xs : List Begun) (place : ℕ) (b : Begun) → 0 < place → place ≤ length xs → b ≡ get_or xs (place - 1) b → reverse (take place xs) ≡ b ∷ reverse (take (place - 1) xs)
finding-split xs place b some within at =
    let n : place ≡ place - 1 + 1 = omega arith in
    let more : take (place - 1 + 1) xs ≡ take (place - 1) xs ++ b ∷ [] = take_more xs (place - 1) b (omega arith) ∙ ap (λ (x : Begun). take (place - 1) xs ++ x ∷ []) (sym at) in
    ap (λ (k : ℕ). reverse (take k xs)) n ∙ ap reverse more ∙ reverse-append (take (place - 1) xs) (b ∷ [])

pub finding-all : (xs : List Begun) → is_finding (reverse (take (length xs) xs)) ≡ is_finding (reverse xs)
finding-all xs = ap (λ (ys : List Begun). is_finding (reverse ys)) (take_all (length xs) xs (omega arith))

pub finding-on : (xs : List Begun) (place : ℕ) (b : Begun) (all : Bool) → 0 < place → place ≤ length xs → b ≡ get_or xs (place - 1) b → finds b ≡ false → is_finding (reverse (take place xs)) ≡ all → is_finding (reverse (take (place - 1) xs)) ≡ all
finding-on xs place b all some within at e h = finding-rest b (reverse (take (place - 1) xs)) all e (ap is_finding (sym (finding-split xs place b some within at)) ∙ h)

pub finding-here : (xs : List Begun) (place : ℕ) (b : Begun) (all : Bool) → 0 < place → place ≤ length xs → b ≡ get_or xs (place - 1) b → finds b ≡ true → is_finding (reverse (take place xs)) ≡ all → true ≡ all
finding-here xs place b all some within at e h = finding-first b (reverse (take (place - 1) xs)) all e (ap is_finding (sym (finding-split xs place b some within at)) ∙ h)

pub finding-none : (xs : List Begun) (place : ℕ) (all : Bool) → place ≤ 0 → is_finding (reverse (take place xs)) ≡ all → false ≡ all
finding-none xs zero all none h = h
finding-none xs (suc place) all none h = absurd (omega arith)

-- what isn't expanded is taken
pub taken-otherwise : (w : World) (wanted : Wanted) (t : Seen) (r : Reader) (m : Meaning) → (m ≡ meaning.Undefined → ⊥) → ((e : Expandable) → m ≡ meaning.Expandable e → ⊥) → ((d : Definition) → m ≡ meaning.Macro d → ⊥) → expanded w wanted t r m ≡ given_to w t r r.begun
taken-otherwise w wanted t r meaning.Undefined undefined expandable made = absurd (undefined refl)
taken-otherwise w wanted t r (meaning.Command primitive) undefined expandable made = refl
taken-otherwise w wanted t r (meaning.Character code category) undefined expandable made = refl
taken-otherwise w wanted t r (meaning.CharacterNumber code) undefined expandable made = refl
taken-otherwise w wanted t r (meaning.MathNumber number) undefined expandable made = refl
taken-otherwise w wanted t r (meaning.CountRegister number) undefined expandable made = refl
taken-otherwise w wanted t r (meaning.DimenRegister number) undefined expandable made = refl
taken-otherwise w wanted t r (meaning.SkipRegister number) undefined expandable made = refl
taken-otherwise w wanted t r (meaning.MuskipRegister number) undefined expandable made = refl
taken-otherwise w wanted t r (meaning.ToksRegister number) undefined expandable made = refl
taken-otherwise w wanted t r (meaning.Font number) undefined expandable made = refl
taken-otherwise w wanted t r (meaning.Expandable e) undefined expandable made = absurd (expandable e refl)
taken-otherwise w wanted t r (meaning.Macro d) undefined expandable made = absurd (made d refl)
taken-otherwise w wanted t r meaning.Held undefined expandable made = refl

-- so is what is wanted as it stands
pub taken-raw : (w : World) (wanted : Wanted) (t : Seen) (r : Reader) → refused wanted.text t.meaning r.begun ≡ None → wanted_by wanted r.begun ≡ Raw → token_read w wanted t r ≡ given_to w t r r.begun
taken-raw w wanted t r none raw = rw (none, raw) refl

-- so is each token within an argument and skipped text
pub raw-within : (wanted : Wanted) (bs : List Begun) → takes_characters bs ≡ true → wanted_by wanted bs ≡ Raw
raw-within wanted [] is = absurd (cc)
raw-within wanted (begun.Use u ∷ outer) is = refl
raw-within wanted (begun.After ∷ outer) is = absurd (cc)
raw-within wanted (begun.Before t ∷ outer) is = absurd (cc)
raw-within wanted (begun.Once ∷ outer) is = absurd (cc)
raw-within wanted (begun.Hold ∷ outer) is = absurd (cc)
raw-within wanted (begun.Print what ∷ outer) is = absurd (cc)
raw-within wanted (begun.Scanning scan ∷ outer) is = absurd (cc)
raw-within wanted (begun.Skipping depth ∷ outer) is = refl
raw-within wanted (begun.Opening ∷ outer) is = absurd (cc)

-- a turn in which the input gives a token reads it; so does one that \noexpand holds
front-turned : (w : World) (wanted : Wanted) (e : Expander) (input behind : Input) (codes : List Cat) (given : Next) → is_opening e.begun ≡ false → codes ≡ w.codes → given ≡ (step codes input).next → behind ≡ (step codes input).left → turn w wanted (reader_of e input) ≡ front_read w wanted (reader_of e behind) given
front-turned w wanted e input behind codes given closed same next left =
    rw (closed, next, left, same) refl

pub token-turned : (w : World) (wanted : Wanted) (e : Expander) (input behind : Input) (codes : List Cat) (given : Next) (t : Token) (m : Meaning) → is_opening e.begun ≡ false → codes ≡ w.codes → given ≡ (step codes input).next → behind ≡ (step codes input).left → given ≡ front.Token t → m ≡ w.meaning t → turn w wanted (reader_of e input) ≡ met w wanted (record { token = t; meaning = m }) (reader_of e behind)
token-turned w wanted e input behind codes given t m closed same next left is means =
    front-turned w wanted e input behind codes given closed same next left
    ∙ (ap (λ (n : Next). front_read w wanted (reader_of e behind) n) is
    ∙ ap (λ (x : Meaning). met w wanted (record { token = t; meaning = x }) (reader_of e behind)) (sym means))

pub held-turned : (w : World) (wanted : Wanted) (e : Expander) (input behind : Input) (codes : List Cat) (given : Next) (t : Token) (m : Meaning) (seen : Seen) → is_opening e.begun ≡ false → codes ≡ w.codes → given ≡ (step codes input).next → behind ≡ (step codes input).left → given ≡ front.Held t → m ≡ w.meaning t → seen ≡ held (record { token = t; meaning = m }) → turn w wanted (reader_of e input) ≡ met w wanted seen (reader_of e behind)
held-turned w wanted e input behind codes given t m seen closed same next left is means held_is =
    front-turned w wanted e input behind codes given closed same next left
    ∙ (ap (λ (n : Next). front_read w wanted (reader_of e behind) n) is
    ∙ (ap (λ (x : Meaning). met w wanted (held (record { token = t; meaning = x })) (reader_of e behind)) (sym means)
    ∙ ap (λ (x : Seen). met w wanted x (reader_of e behind)) (sym held_is)))

-- the end of a part of a column comes next
pub part-turned : (w : World) (wanted : Wanted) (e : Expander) (input behind : Input) (codes : List Cat) (given : Next) (part : ColumnPart) → is_opening e.begun ≡ false → codes ≡ w.codes → given ≡ (step codes input).next → behind ≡ (step codes input).left → given ≡ front.PartEnd part → turn w wanted (reader_of e input) ≡ front_read w wanted (reader_of e behind) (front.PartEnd part)
part-turned w wanted e input behind codes given part closed same next left is =
    front-turned w wanted e input behind codes given closed same next left
    ∙ ap (λ (n : Next). front_read w wanted (reader_of e behind) n) is

-- a token that ends no entry is read
pub none-ended : (w : World) (wanted : Wanted) (t : Seen) (r : Reader) → entry_end_in r.input t.meaning ≡ None → met w wanted t r ≡ token_read w wanted t r
none-ended w wanted t r none = rw none refl

-- a v-part ends where a token is wanted, as it stands, looked at or expanded, and no error comes before
pub part-misplaced : (w : World) (wanted : Wanted) (r : Reader) → incomplete wanted.text r.begun ≡ None → wanted_by wanted r.begun ≡ Raw → peeks_at wanted r.begun ≡ false → part_ended w wanted r ≡ Fails MisplacedAlignment
part-misplaced w wanted r none raw takes = rw (none, raw, takes) refl

pub part-peeked : (w : World) (wanted : Wanted) (r : Reader) → incomplete wanted.text r.begun ≡ None → wanted_by wanted r.begun ≡ Raw → peeks_at wanted r.begun ≡ true → part_ended w wanted r ≡ ends_part w r r.begun
part-peeked w wanted r none raw peeks = rw (none, raw, peeks) refl

pub part-read : (w : World) (wanted : Wanted) (r : Reader) → incomplete wanted.text r.begun ≡ None → wanted_by wanted r.begun ≡ Expanded → part_ended w wanted r ≡ ends_part w r r.begun
part-read w wanted r none expands = rw (none, expands) refl

-- something is open where a list isn't empty
pub some-begun : (b : Bool) (bs : List Begun) → (IsTrue b ↔ (bs ≡ [])) → b ≡ false → bs ≢ []
some-begun b bs tells none = λ e. let yes : b ≡ true = tells.1 e in cc

-- what reads goes on up to the end of a v-part
pub part-scanned : (w : World) (r : Reader) (bs : List Begun) → is_scanning bs ≡ true → ends_part w r bs ≡ given_to w frozen (with_end r) bs
part-scanned w r [] is = absurd (cc)
part-scanned w r (begun.Use u ∷ outer) is = absurd (cc)
part-scanned w r (begun.After ∷ outer) is = absurd (cc)
part-scanned w r (begun.Before t ∷ outer) is = absurd (cc)
part-scanned w r (begun.Once ∷ outer) is = absurd (cc)
part-scanned w r (begun.Hold ∷ outer) is = absurd (cc)
part-scanned w r (begun.Print what ∷ outer) is = absurd (cc)
part-scanned w r (begun.Scanning scan ∷ outer) is = refl
part-scanned w r (begun.Skipping depth ∷ outer) is = absurd (cc)
part-scanned w r (begun.Opening ∷ outer) is = absurd (cc)

-- what else is open ends there
pub part-over : (w : World) (r : Reader) (bs : List Begun) → bs ≢ [] → is_scanning bs ≡ false → ends_part w r bs ≡ ended (with_end r)
part-over w r [] some other = absurd (some refl)
part-over w r (begun.Use u ∷ outer) some other = refl
part-over w r (begun.After ∷ outer) some other = refl
part-over w r (begun.Before t ∷ outer) some other = refl
part-over w r (begun.Once ∷ outer) some other = refl
part-over w r (begun.Hold ∷ outer) some other = refl
part-over w r (begun.Print what ∷ outer) some other = refl
part-over w r (begun.Scanning scan ∷ outer) some other = absurd (cc)
part-over w r (begun.Skipping depth ∷ outer) some other = refl
part-over w r (begun.Opening ∷ outer) some other = refl

-- in braces, and where no entry is read, no word ends one
pub none-outside : (here : Bool) (e : Option EntryEnd) → here ≡ false → None ≡ at_entry here e
none-outside here None outside = refl
none-outside here (Some word) outside = rw outside refl

pub some-inside : (here : Bool) (e : Option EntryEnd) → here ≡ true → e ≡ at_entry here e
some-inside here None inside = refl
some-inside here (Some word) inside = rw inside refl
