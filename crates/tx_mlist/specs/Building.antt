-- How lists of mathematics are built (TeX: The Program, part 48; The TeXbook, chapter 26).
use Rattle.std.specs.Prelude.{ℕ, ◌-◌, ◌/◌, ◌%◌, ◌==◌, nat_le, Bool, true, false, ◌&&◌, not, ℤ, pos, int_lt, unsigned_abs, List, [], ◌∷◌, ◌++◌, length, slice_get, Option, Some, None, Result, Ok, Err, if◌then◌else◌}
use Rattle.std.specs.Option.{option_map_or}
use Rattle.tx_mlist.specs.declared.above.Above.{Above}
use Rattle.tx_mlist.specs.declared.error.MlistError.{MlistError}
use Rattle.tx_mlist.specs.declared.error.MlistError.TheVariants.{TooDeep}
use Rattle.tx_mlist.specs.declared.kinds.AtomKind.{AtomKind}
use Rattle.tx_mlist.specs.declared.kinds.AtomKind.TheVariants.{Ord, Op, Bin, Rel, Open, Close, Punct, Inner, Over, Under, Center, Radical, Accent}
use Rattle.tx_mlist.specs.declared.kinds.Delimiter.{Delimiter}
use Rattle.tx_mlist.specs.declared.kinds.FractionHead.{FractionHead}
use Rattle.tx_mlist.specs.declared.kinds.Limits.{Limits}
use Rattle.tx_mlist.specs.declared.kinds.Limits.TheVariants.{Displayed}
use Rattle.tx_mlist.specs.declared.kinds.MathCharacter.{MathCharacter}
use Rattle.tx_mlist.specs.declared.kinds.Place.{Place}
use Rattle.tx_mlist.specs.declared.kinds.Place.TheVariants.{Nucleus, Superscript, Subscript}
use Rattle.tx_mlist.specs.declared.plain.PlainNoad.TheVariants.{Left, Right}
use Rattle.tx_mlist.specs.Items.{MathItem, Part, atom, fraction, choice, small, material, empty, letter, packed, formula, gathered}
use Rattle.tx_mlist.specs.Counts.{depth_of}

-- a mathcode is 4096 times a class, 256 times a family and a character; for class 7 the family is \fam, if that is one (section 1151)
abbrev pub is_family : ℤ → Bool
is_family fam = not (int_lt fam (pos 0)) && int_lt fam (pos 16)

abbrev pub family_of : ℤ → ℕ → ℕ
family_of fam code = if nat_le 28672 code && is_family fam then unsigned_abs fam else code / 256 % 16

abbrev pub letter_of : ℤ → ℕ → MathCharacter
letter_of fam code = record { family = family_of fam code; code = code % 256 }

-- a delimiter by its number: its class counts no more, and behind it stand the families and codes of the small and the large character
-- (section 1160)
abbrev pub character_by : ℕ → ℕ → MathCharacter
character_by family code = record { family = family % 16; code = code % 256 }

abbrev pub delimiter_of : ℕ → Delimiter
delimiter_of number = record { small = character_by (number / 1048576) (number / 4096); large = character_by (number / 256) number }

-- a fraction beside its lists whose line is so thick, and which has no delimiters (section 1182)
abbrev pub plain_head : Option ℤ → FractionHead
plain_head thickness = record { thickness = thickness; left = delimiter_of 0; right = delimiter_of 0 }

-- the kind of the atom of a class; one of class 7 is an Ord (section 1155)
abbrev pub kind_of : ℕ → AtomKind
kind_of class =
    if class == 1 then Op Displayed
    else if class == 2 then Bin
    else if class == 3 then Rel
    else if class == 4 then Open
    else if class == 5 then Close
    else if class == 6 then Punct
    else Ord

-- an Ord, an Op, and an atom with an accent
abbrev pub is_ord : AtomKind → Bool
is_ord Ord = true
is_ord (Op limits) = false
is_ord Bin = false
is_ord Rel = false
is_ord Open = false
is_ord Close = false
is_ord Punct = false
is_ord Inner = false
is_ord Over = false
is_ord Under = false
is_ord Center = false
is_ord (Radical sign) = false
is_ord (Accent c) = false

abbrev pub is_op : AtomKind → Bool
is_op Ord = false
is_op (Op limits) = true
is_op Bin = false
is_op Rel = false
is_op Open = false
is_op Close = false
is_op Punct = false
is_op Inner = false
is_op Over = false
is_op Under = false
is_op Center = false
is_op (Radical sign) = false
is_op (Accent c) = false

abbrev pub is_accent : AtomKind → Bool
is_accent Ord = false
is_accent (Op limits) = false
is_accent Bin = false
is_accent Rel = false
is_accent Open = false
is_accent Close = false
is_accent Punct = false
is_accent Inner = false
is_accent Over = false
is_accent Under = false
is_accent Center = false
is_accent (Radical sign) = false
is_accent (Accent c) = true

abbrev pub is_empty : Part → Bool
is_empty empty = true
is_empty (letter c) = false
is_empty (packed shift b) = false
is_empty (formula items) = false

-- an atom that has nothing yet
abbrev pub bare : AtomKind → MathItem
bare kind = atom kind empty empty empty

-- the part at a place of an atom, and the atom with another part there
abbrev pub part_at : Place → Part → Part → Part → Part
part_at Nucleus nucleus superscript subscript = nucleus
part_at Superscript nucleus superscript subscript = superscript
part_at Subscript nucleus superscript subscript = subscript

abbrev pub atom_with : Place → Part → AtomKind → Part → Part → Part → MathItem
atom_with Nucleus part kind nucleus superscript subscript = atom kind part superscript subscript
atom_with Superscript part kind nucleus superscript subscript = atom kind nucleus part subscript
atom_with Subscript part kind nucleus superscript subscript = atom kind nucleus superscript part

-- the last item of a list, and a list with its last item changed
abbrev pub last_of : List MathItem → Option MathItem
last_of list = slice_get list (length list - 1)

abbrev pub with_last : (MathItem → MathItem) → List MathItem → List MathItem
with_last change [] = []
with_last change (item ∷ []) = change item ∷ []
with_last change (item ∷ next ∷ rest) = item ∷ with_last change (next ∷ rest)

-- what is read for a place stands there in the last item, which is an atom
abbrev pub with_part : Place → Part → MathItem → MathItem
with_part place part (atom kind nucleus superscript subscript) = atom_with place part kind nucleus superscript subscript
with_part place part (fraction head above below) = fraction head above below
with_part place part (choice display text script script_script) = choice display text script script_script
with_part place part (small s) = small s
with_part place part (material i) = material i

abbrev pub filled : Place → Part → List MathItem → List MathItem
filled place part list = with_last (with_part place part) list

-- a script is one of the last item, if this is an atom, else of an Ord with nothing, which is put behind it (section 1176); it is the
-- second one of an atom that has one there
abbrev pub is_atom : MathItem → Bool
is_atom (atom kind nucleus superscript subscript) = true
is_atom (fraction head above below) = false
is_atom (choice display text script script_script) = false
is_atom (small s) = false
is_atom (material i) = false

abbrev pub for_script : List MathItem → List MathItem
for_script list = if option_map_or is_atom (last_of list) false then list else list ++ bare Ord ∷ []

abbrev pub has_part : Place → MathItem → Bool
has_part place (atom kind nucleus superscript subscript) = not (is_empty (part_at place nucleus superscript subscript))
has_part place (fraction head above below) = false
has_part place (choice display text script script_script) = false
has_part place (small s) = false
has_part place (material i) = false

abbrev pub is_second : Place → List MathItem → Bool
is_second place list = option_map_or (has_part place) (last_of list) false

-- \limits and its kin tell where the limits of the last item stand, which has to be an Op (section 1159)
abbrev pub is_operator : MathItem → Bool
is_operator (atom kind nucleus superscript subscript) = is_op kind
is_operator (fraction head above below) = false
is_operator (choice display text script script_script) = false
is_operator (small s) = false
is_operator (material i) = false

abbrev pub ends_with_operator : List MathItem → Bool
ends_with_operator list = option_map_or is_operator (last_of list) false

abbrev pub with_limits : Limits → MathItem → MathItem
with_limits limits (atom kind nucleus superscript subscript) = if is_op kind then atom (Op limits) nucleus superscript subscript else atom kind nucleus superscript subscript
with_limits limits (fraction head above below) = fraction head above below
with_limits limits (choice display text script script_script) = choice display text script script_script
with_limits limits (small s) = small s
with_limits limits (material i) = material i

abbrev pub limited : Limits → List MathItem → List MathItem
limited limits list = with_last (with_limits limits) list

-- a list as one that a noad has: 509 lists at most stand in one another in it
abbrev pub inner : List MathItem → Result (List MathItem) MlistError
inner list = if nat_le (depth_of (gathered list)) 509 then Ok list else Err TooDeep

-- what comes of the end of a list: the fraction of what stands above a line, if one came, and of what stands below it (section 1184)
abbrev pub fraction_over : Above → Result (List MathItem) MlistError → Result (List MathItem) MlistError
fraction_over above (Err e) = Err e
fraction_over above (Ok below) = Ok (fraction above.head (gathered above.numerator) (gathered below) ∷ [])

abbrev pub finished : Option Above → List MathItem → Result (List MathItem) MlistError
finished None list = Ok list
finished (Some above) list = fraction_over above (inner list)

-- the part that a group gives: the nucleus of an Ord that has no scripts and is alone in it, else all of it as a formula (section 1186)
abbrev pub lone_nucleus : MathItem → Option Part
lone_nucleus (atom kind nucleus superscript subscript) = if is_ord kind && (is_empty superscript && is_empty subscript) then Some nucleus else None
lone_nucleus (fraction head above below) = None
lone_nucleus (choice display text script script_script) = None
lone_nucleus (small s) = None
lone_nucleus (material i) = None

abbrev pub nucleus_in : List MathItem → Option Part
nucleus_in [] = None
nucleus_in (item ∷ []) = lone_nucleus item
nucleus_in (item ∷ next ∷ rest) = None

abbrev pub as_formula : Result (List MathItem) MlistError → Result Part MlistError
as_formula (Err e) = Err e
as_formula (Ok list) = Ok (formula (gathered list))

abbrev pub part_or : Option Part → Result Part MlistError → Result Part MlistError
part_or None all = all
part_or (Some part) all = Ok part

abbrev pub part_of_group : List MathItem → Result Part MlistError
part_of_group list = part_or (nucleus_in list) (as_formula (inner list))

-- but an accent that is alone in the group stands itself in place of the Ord whose nucleus the group is (sections 1186 and 1187)
abbrev pub if_accent : AtomKind → MathItem → Option MathItem
if_accent kind item = if is_accent kind then Some item else None

abbrev pub accented : MathItem → Option MathItem
accented (atom kind nucleus superscript subscript) = if_accent kind (atom kind nucleus superscript subscript)
accented (fraction head above below) = None
accented (choice display text script script_script) = None
accented (small s) = None
accented (material i) = None

abbrev pub lone_accent : List MathItem → Option MathItem
lone_accent [] = None
lone_accent (item ∷ []) = accented item
lone_accent (item ∷ next ∷ rest) = None

abbrev pub is_ordinary : MathItem → Bool
is_ordinary (atom kind nucleus superscript subscript) = is_ord kind
is_ordinary (fraction head above below) = false
is_ordinary (choice display text script script_script) = false
is_ordinary (small s) = false
is_ordinary (material i) = false

abbrev pub ends_with_ord : List MathItem → Bool
ends_with_ord list = option_map_or is_ordinary (last_of list) false

abbrev pub is_nucleus : Place → Bool
is_nucleus Nucleus = true
is_nucleus Superscript = false
is_nucleus Subscript = false

abbrev pub accent_for : Place → List MathItem → List MathItem → Option MathItem
accent_for place group list = if is_nucleus place && ends_with_ord list then lone_accent group else None

-- another item in place of the last one
abbrev pub replaced : MathItem → List MathItem → List MathItem
replaced item list = with_last (λ (last : MathItem). item) list

-- what a group gives, in the list where it is the part of the last item at this place
abbrev pub filled_by : Place → List MathItem → Result Part MlistError → Result (List MathItem) MlistError
filled_by place list (Err e) = Err e
filled_by place list (Ok part) = Ok (filled place part list)

abbrev pub grouped_by : Place → Option MathItem → List MathItem → List MathItem → Result (List MathItem) MlistError
grouped_by place None group list = filled_by place list (part_of_group group)
grouped_by place (Some item) group list = Ok (replaced item list)

abbrev pub grouped : Place → List MathItem → List MathItem → Result (List MathItem) MlistError
grouped place group list = grouped_by place (accent_for place group list) group list

-- \left and \right with the list between them are the nucleus of an Inner (section 1191)
abbrev pub between : Delimiter → Delimiter → List MathItem → List MathItem
between left right list = (small (Left left) ∷ list) ++ small (Right right) ∷ []

abbrev pub as_inner : Result Part MlistError → Result MathItem MlistError
as_inner (Err e) = Err e
as_inner (Ok part) = Ok (atom Inner part empty empty)

abbrev pub delimited : Delimiter → Delimiter → List MathItem → Result MathItem MlistError
delimited left right list = as_inner (as_formula (inner (between left right list)))
