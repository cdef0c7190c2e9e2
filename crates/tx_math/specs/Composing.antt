-- Characters of one family that follow one another in Ords, composed by the ligatures and kerns of their font (The TeXbook, appendix
-- G, rule 14; TeX: The Program, sections 752 and 753), and each Bin that becomes an Ord by what stands before it (rule 5; section 728).
use Rattle.std.specs.Prelude.{ℕ, zero, suc, ◌-◌, ◌*◌, ◌^◌, ◌==◌, min, Bool, true, false, ◌&&◌, not, nat_le, ℤ, pos, List, [], ◌∷◌, ◌++◌, length, Option, Some, None, option_and_then, if◌then◌else◌}
use Rattle.std.specs.Option.{option_map_or}
use Rattle.tx_tfm.specs.declared.file.Word.{Word}
use Rattle.tx_tfm.specs.declared.named.NamedFont.{NamedFont}
use Rattle.tx_tfm.specs.declared.state.FontState.{FontState}
use Rattle.tx_tfm.specs.Fonts.{font_at, has_character}
use Rattle.tx_tfm.specs.LigKern.{command_of}
use Rattle.tx_tfm.specs.Metrics.{kern_of}
use Rattle.tx_ligkern.specs.Composing.{keeps_current, keeps_next, passes}
use Rattle.tx_mlist.specs.declared.kinds.AtomKind.{AtomKind}
use Rattle.tx_mlist.specs.declared.kinds.AtomKind.TheVariants.{Ord, Op, Bin, Rel, Open, Close, Punct, Inner, Over, Under, Center, Radical, Accent}
use Rattle.tx_mlist.specs.declared.kinds.Limits.TheVariants.{Displayed}
use Rattle.tx_mlist.specs.declared.kinds.MathCharacter.{MathCharacter}
use Rattle.tx_mlist.specs.Building.{is_empty, is_ord}
use Rattle.tx_mlist.specs.Items.{MathItem, Part, atom, fraction, choice, small, material, empty, letter, packed, formula}
use Rattle.tx_math.specs.Boxes.{kern}
use Rattle.tx_math.specs.Entries.{Entry, entry_in, is_noad}
use Rattle.tx_math.specs.Parameters.{Math, family_font}
use Rattle.tx_math.specs.Styles.{size_of}

-- a Bin; and what no Bin follows: it would be the first operand's sign
abbrev pub is_bin : AtomKind → Bool
is_bin Ord = false
is_bin (Op limits) = false
is_bin Bin = true
is_bin Rel = false
is_bin Open = false
is_bin Close = false
is_bin Punct = false
is_bin Inner = false
is_bin Over = false
is_bin Under = false
is_bin Center = false
is_bin (Radical sign) = false
is_bin (Accent c) = false

abbrev pub awaits_operand : AtomKind → Bool
awaits_operand Ord = false
awaits_operand (Op limits) = true
awaits_operand Bin = true
awaits_operand Rel = true
awaits_operand Open = true
awaits_operand Close = false
awaits_operand Punct = true
awaits_operand Inner = false
awaits_operand Over = false
awaits_operand Under = false
awaits_operand Center = false
awaits_operand (Radical sign) = false
awaits_operand (Accent c) = false

-- a Bin becomes an Ord behind such an atom
abbrev pub behind_atom : AtomKind → Entry → Entry
behind_atom before e = if awaits_operand before && is_bin e.kind then record e { kind = Ord } else e

-- before the first atom a Bin becomes an Ord too
abbrev pub at_beginning : AtomKind
at_beginning = Op Displayed

-- one of the first seven classes
abbrev pub may_follow : AtomKind → Bool
may_follow Ord = true
may_follow (Op limits) = true
may_follow Bin = true
may_follow Rel = true
may_follow Open = true
may_follow Close = true
may_follow Punct = true
may_follow Inner = false
may_follow Over = false
may_follow Under = false
may_follow Center = false
may_follow (Radical sign) = false
may_follow (Accent c) = false

-- the character that a part is; and that of an atom's nucleus, whether it has scripts or not, and where it has none
abbrev pub part_letter : Part → Option MathCharacter
part_letter empty = None
part_letter (letter c) = Some c
part_letter (packed shift b) = None
part_letter (formula items) = None

abbrev pub item_letter : MathItem → Option MathCharacter
item_letter (atom kind nucleus superscript subscript) = part_letter nucleus
item_letter (fraction head above below) = None
item_letter (choice display text script script_script) = None
item_letter (small s) = None
item_letter (material i) = None

abbrev pub lone_letter : MathItem → Option MathCharacter
lone_letter (atom kind nucleus superscript subscript) = if is_empty superscript && is_empty subscript then part_letter nucleus else None
lone_letter (fraction head above below) = None
lone_letter (choice display text script script_script) = None
lone_letter (small s) = None
lone_letter (material i) = None

-- the character that begins a pair: that of an Ord without scripts; and that which ends it, of any of the first seven classes, with
-- scripts or without. What was put in so that it combines with nothing does neither
abbrev pub first_letter : Entry → Option MathCharacter
first_letter e = if is_ord e.kind && not e.joined then lone_letter e.item else None

abbrev pub second_letter : Entry → Option MathCharacter
second_letter e = if may_follow e.kind && not e.joined then item_letter e.item else None

-- a pair of characters of one family
abbrev pub in_one_family : MathCharacter → MathCharacter → Option (MathCharacter × MathCharacter)
in_one_family a b = if a.family == b.family then Some (a, b) else None

abbrev pub pair_of : Entry → Entry → Option (MathCharacter × MathCharacter)
pair_of e next = option_and_then (λ (a : MathCharacter). option_and_then (in_one_family a) (second_letter next)) (first_letter e)

-- the command of the font of a number that a pair meets; none where the font lacks the first of both
abbrev pub command_in : List FontState → ℕ → ℕ → ℕ → Option Word
command_in fonts font left right =
    if has_character fonts font left
    then option_and_then (λ (f : NamedFont). command_of f.font.file (Some left) (Some right)) (font_at fonts font)
    else None

-- the kern that a command puts in
abbrev pub kern_in : List FontState → ℕ → Word → ℤ
kern_in fonts font w = option_map_or (λ (f : NamedFont). kern_of f.font w) (font_at fonts font) (pos 0)

-- the scripts of an item, where it is an atom
abbrev pub superscript_of : MathItem → Part
superscript_of (atom kind nucleus superscript subscript) = superscript
superscript_of (fraction head above below) = empty
superscript_of (choice display text script script_script) = empty
superscript_of (small s) = empty
superscript_of (material i) = empty

abbrev pub subscript_of : MathItem → Part
subscript_of (atom kind nucleus superscript subscript) = subscript
subscript_of (fraction head above below) = empty
subscript_of (choice display text script script_script) = empty
subscript_of (small s) = empty
subscript_of (material i) = empty

-- the ligature of a command, in the family of a pair, with the scripts of an item. Both of a pair may become it, the first with no
-- scripts, since it has none, the second with its own and of its own kind; or it is one Ord with the scripts of the second
abbrev pub ligature : Word → MathCharacter → MathItem → MathItem
ligature w a item = atom Ord (letter (record a { code = w.d })) (superscript_of item) (subscript_of item)

abbrev pub ligated_as : Word → MathCharacter → Entry → Entry → Entry
ligated_as w a e scripted = record e { item = ligature w a scripted.item }

-- one that is put between both; where the command passes over it too, it combines with nothing
abbrev pub put_between : Word → MathCharacter → Entry → Entry
put_between w a e = record { style = e.style; kind = Ord; joined = passes w == 2; item = ligature w a e.item }

-- what a ligature command makes of a pair: where it keeps both, the ligature between them, else that of both which it doesn't keep
abbrev pub made_of : Word → MathCharacter → Entry → Entry → Entry
made_of w a e next =
    if keeps_current w
    then (if keeps_next w then put_between w a e else ligated_as w a next next)
    else (if keeps_next w then ligated_as w a e e else ligated_as w a e next)

abbrev pub before_if : Bool → Entry → List Entry → List Entry
before_if true e rest = e ∷ rest
before_if false e rest = rest

-- what stands in place of a pair behind a ligature command, and before the rest: what it makes, between those of both that it keeps
abbrev pub in_place : Word → MathCharacter → Entry → Entry → List Entry → List Entry
in_place w a e next rest = before_if (keeps_current w) e (made_of w a e next ∷ before_if (keeps_next w) next rest)

-- what a step gives: what is done with, the kind of the atom before the cursor, and what is still to be looked at
pub record Stepped : Type 0 where
  pub done : List Entry
  pub before : AtomKind
  pub rest : List Entry

-- the cursor goes past an entry, which stays as it is
abbrev pub kind_behind : AtomKind → Entry → AtomKind
kind_behind before e = if is_noad e.item then e.kind else before

abbrev pub passed_over : AtomKind → Entry → List Entry → Stepped
passed_over before e rest = record { done = e ∷ []; before = kind_behind before e; rest = rest }

-- it goes past a character that another one of its family follows
abbrev pub joined_over : Entry → List Entry → Stepped
joined_over e rest = record { done = (record e { joined = true }) ∷ []; before = Ord; rest = rest }

-- past the first character of a pair and a kern
abbrev pub kerned : ℤ → Entry → List Entry → Stepped
kerned size e rest = record { done = (record e { joined = true }) ∷ entry_in e.style (material (kern size)) ∷ []; before = Ord; rest = rest }

abbrev pub past_first : AtomKind → List Entry → Stepped
past_first before [] = record { done = []; before = before; rest = [] }
past_first before (e ∷ rest) = joined_over e rest

-- behind a ligature command the cursor stays, or goes past the first entry
abbrev pub moved_on : Word → AtomKind → List Entry → Stepped
moved_on w before entries = if passes w == 0 then record { done = []; before = before; rest = entries } else past_first before entries

abbrev pub ligated : Word → AtomKind → MathCharacter → Entry → List Entry → Stepped
ligated w before a e [] = joined_over e []
ligated w before a e (next ∷ rest) = moved_on w before (in_place w a e next rest)

-- one step at a pair, by the command that it meets
abbrev pub by_command : Math → ℕ → AtomKind → MathCharacter → Option Word → Entry → List Entry → Stepped
by_command m font before a None e rest = joined_over e rest
by_command m font before a (Some w) e rest =
    if nat_le 128 w.c then kerned (kern_in m.fonts font w) e rest else ligated w before a e rest

abbrev pub in_font : Math → ℕ → AtomKind → MathCharacter × MathCharacter → Entry → List Entry → Stepped
in_font m font before pair e rest = by_command m font before pair.0 (command_in m.fonts font pair.0.code pair.1.code) e rest

-- one step: at an entry that begins a pair with the next one, or begins none
abbrev pub pair_in : Entry → List Entry → Option (MathCharacter × MathCharacter)
pair_in e [] = None
pair_in e (next ∷ rest) = pair_of e next

abbrev pub at_pair : Math → AtomKind → Option (MathCharacter × MathCharacter) → Entry → List Entry → Stepped
at_pair m before None e rest = passed_over before e rest
at_pair m before (Some pair) e rest = in_font m (family_font m (size_of e.style) pair.0.family) before pair e rest

abbrev pub step_of : Math → AtomKind → Entry → List Entry → Stepped
step_of m before e rest = at_pair m before (pair_in e rest) e rest

unfoldable pub step : Math → AtomKind → Entry → List Entry → Stepped
step m before e rest = step_of m before (behind_atom before e) rest

-- so many steps at most
unfoldable pub composed_within : ℕ → Math → AtomKind → List Entry → List Entry
composed_within zero m before entries = entries
composed_within (suc n) m before [] = []
composed_within (suc n) m before (e ∷ rest) =
    (step m before e rest).done ++ composed_within n m (step m before e rest).before (step m before e rest).rest

-- no font that is read has pairs that meet more than a thousand ligature commands; each puts in one character at most, and each other
-- step goes past one. Counts end at 2^64-1
abbrev pub steps_for : ℕ → ℕ
steps_for count = min (suc (min (2001 * count) (2 ^ 64 - 1))) (2 ^ 64 - 1)

unfoldable pub most_steps : List Entry → ℕ
most_steps entries = steps_for (length entries)

unfoldable pub composed : Math → List Entry → List Entry
composed m entries = composed_within (most_steps entries) m at_beginning entries
