-- A list of mathematics as a horizontal list (The TeXbook, appendix G; TeX: The Program, sections 720, 725 to 760 and 1195). Errors
-- come, and characters that their fonts lack are told, in the order in which the items are gone through.
use Rattle.std.specs.Prelude.{ℕ, zero, suc, Bool, false, not, ◌++◌, ◌&&◌, true, ℤ, pos, ◌+ℤ◌, ◌-ℤ◌, List, [], ◌∷◌, Option, Some, None, Result, Ok, Err, if◌then◌else◌}
use Rattle.tx_num.specs.Glue.{zero_glue}
use Rattle.tx_node.specs.declared.plain.KernKind.TheVariants.{Explicit}
use Rattle.tx_node.specs.declared.plain.Plain.TheVariants as horizontal
use Rattle.tx_node.specs.declared.character.Character.{Character as CharacterItem}
use Rattle.tx_node.specs.Items.{Item, plain, PackedBox, box_item}
use Rattle.std.specs.Int.{int_max}
use Rattle.tx_tfm.specs.declared.state.FontState.{FontState}
use Rattle.tx_mlist.specs.declared.kinds.AtomKind.{AtomKind}
use Rattle.tx_mlist.specs.declared.kinds.AtomKind.TheVariants.{Ord, Op, Bin, Rel, Open, Close, Punct, Inner, Over, Under, Center, Radical, Accent}
use Rattle.tx_mlist.specs.declared.kinds.FractionHead.{FractionHead}
use Rattle.tx_mlist.specs.declared.kinds.Limits.{Limits}
use Rattle.tx_mlist.specs.declared.kinds.MathCharacter.{MathCharacter}
use Rattle.tx_mlist.specs.declared.plain.PlainNoad.{PlainNoad}
use Rattle.tx_mlist.specs.declared.plain.PlainNoad.TheVariants.{Style, Nonscript, Glue, Kern, Left, Right}
use Rattle.tx_mlist.specs.Building.{is_empty}
use Rattle.tx_mlist.specs.Items.{MathItem, MathItems, Part, atom, fraction, choice, small, material, empty, letter, packed, formula, gathered, listed}
use Rattle.tx_mlist.specs.Counts.{depth_of}
use Rattle.tx_math.specs.declared.error.MathError.{MathError}
use Rattle.tx_math.specs.declared.error.MathError.TheVariants.{FewParameters}
use Rattle.tx_math.specs.declared.formula.Formula.{Formula}
use Rattle.tx_math.specs.declared.nucleus.Nucleus.{Nucleus}
use Rattle.tx_math.specs.declared.operators.OperatorBox.{OperatorBox}
use Rattle.tx_math.specs.declared.params.MathParams.{MathParams}
use Rattle.tx_math.specs.declared.signs.AccentPlace.{AccentPlace}
use Rattle.tx_math.specs.Accents.{accent_box, accent_place, place_on, skew_of}
use Rattle.tx_math.specs.Boxes.{cleaned_list, hbox, stored}
use Rattle.tx_math.specs.Characters.{fetched, letter_nucleus, no_nucleus}
use Rattle.tx_math.specs.Classes.{kind_before}
use Rattle.tx_math.specs.Composing.{composed}
use Rattle.tx_math.specs.Entries.{Entry, entries_of}
use Rattle.tx_math.specs.Fences.{fences_of}
use Rattle.tx_math.specs.Fractions.{even_boxes, fraction_of, thickness_of}
use Rattle.tx_math.specs.Lines.{overlined, underlined, vcentred}
use Rattle.tx_math.specs.Mu.{math_glue, math_kern}
use Rattle.tx_math.specs.Operators.{about_axis, evened, has_limits, in_display, limits_of, narrowed, operator_correction, widest}
use Rattle.tx_math.specs.Outcomes.{Telling, and_then, checked, given, passed}
use Rattle.tx_math.specs.Parameters.{Math, has_all_parameters}
use Rattle.tx_math.specs.Radicals.{radical}
use Rattle.tx_math.specs.Scripts.{first_shifts, scripts_item, spaced_script, subscript_item, superscript_item}
use Rattle.tx_math.specs.Spacing.{Piece, noad, fence, restyled, lone, spaced, spaces_of}
use Rattle.tx_math.specs.Styles.{cramped, denominator_style, numerator_style, subscript_style, superscript_style}

-- how the lists in a list are set: in a style, without penalties
abbrev pub Inward : Type 0
Inward = ℕ → List MathItem → Telling (List Item)

-- a character as a nucleus, behind which one of its family stands or not, and which has a subscript or not
unfoldable pub fetched_nucleus : Math → ℕ → Bool → Bool → MathCharacter → Telling Nucleus
fetched_nucleus m style joined subscripted c = and_then (fetched m style c) (λ found. given (letter_nucleus m joined subscripted found))

-- a part by itself, as a list in a style
abbrev pub part_list : Inward → Math → ℕ → Part → Telling (List Item)
part_list inward m style empty = given []
part_list inward m style (letter c) = and_then (fetched_nucleus m style false false c) (λ n. given n.nodes)
part_list inward m style (packed shift b) = given (box_item shift b ∷ [])
part_list inward m style (formula items) = inward style (listed items)

-- a part in a box (section 720)
unfoldable pub cleaned : Inward → Math → ℕ → Part → Telling PackedBox
cleaned inward m style part = and_then (part_list inward m style part) (λ list. checked (cleaned_list m list))

-- a box as a nucleus
abbrev pub box_nucleus : ℤ → PackedBox → Nucleus
box_nucleus shift b = record {
  nodes = box_item shift b ∷ [];
  edges = Some (int_max (b.head.height -ℤ shift) (pos 0), int_max (b.head.depth +ℤ shift) (pos 0));
  offset = pos 0;
}

-- a list in a box of its own, as a nucleus
unfoldable pub list_nucleus : Math → List Item → Result Nucleus MathError
list_nucleus m list = passed (hbox m list) (λ b. Ok (box_nucleus (pos 0) b))

-- the nucleus of an atom, behind which a character of its family stands or not, and which has a subscript or not (section 754)
abbrev pub nucleus_of : Inward → Math → ℕ → Bool → Bool → Part → Telling Nucleus
nucleus_of inward m style joined subscripted empty = given no_nucleus
nucleus_of inward m style joined subscripted (letter c) = fetched_nucleus m style joined subscripted c
nucleus_of inward m style joined subscripted (packed shift b) = given (box_nucleus shift b)
nucleus_of inward m style joined subscripted (formula items) = and_then (inward style (listed items)) (λ list. checked (list_nucleus m list))

-- the box of a script (sections 757 and 758)
unfoldable pub script_of : Math → List Item → Result PackedBox MathError
script_of m list = passed (cleaned_list m list) (spaced_script m)

unfoldable pub script_box : Inward → Math → ℕ → Part → Telling PackedBox
script_box inward m style part = and_then (part_list inward m style part) (λ list. checked (script_of m list))

-- a nucleus with scripts behind it
abbrev pub behind_nucleus : Nucleus → Result Item MathError → Result (List Item) MathError
behind_nucleus n item = passed item (λ i. Ok (n.nodes ++ i ∷ []))

abbrev pub with_subscript : Math → ℕ → Nucleus → PackedBox → Result (List Item) MathError
with_subscript m style n x = behind_nucleus n (subscript_item m style (first_shifts m style n.edges) x)

abbrev pub with_superscript : Math → ℕ → Nucleus → PackedBox → Result (List Item) MathError
with_superscript m style n x = behind_nucleus n (superscript_item m style (first_shifts m style n.edges) x)

abbrev pub with_both : Math → ℕ → Nucleus → PackedBox → PackedBox → Result (List Item) MathError
with_both m style n x y = behind_nucleus n (scripts_item m style n.offset (first_shifts m style n.edges) x y)

-- what stands behind a nucleus: nothing, a script, or one above the other; the superscript is set first (sections 754 and 756)
abbrev pub subscript_alone : Inward → Math → ℕ → Nucleus → Part → Telling (List Item)
subscript_alone inward m style n sub = and_then (script_box inward m (subscript_style style) sub) (λ x. checked (with_subscript m style n x))

abbrev pub superscript_alone : Inward → Math → ℕ → Nucleus → Part → Telling (List Item)
superscript_alone inward m style n sup = and_then (script_box inward m (superscript_style style) sup) (λ x. checked (with_superscript m style n x))

abbrev pub both_scripts : Inward → Math → ℕ → Nucleus → Part → Part → Telling (List Item)
both_scripts inward m style n sup sub =
    and_then (script_box inward m (superscript_style style) sup) (λ x.
    and_then (script_box inward m (subscript_style style) sub) (λ y. checked (with_both m style n x y)))

unfoldable pub with_scripts : Inward → Math → ℕ → Part → Part → Nucleus → Telling (List Item)
with_scripts inward m style sup sub n =
    if is_empty sup
    then (if is_empty sub then given n.nodes else subscript_alone inward m style n sub)
    else (if is_empty sub then superscript_alone inward m style n sup else both_scripts inward m style n sup sub)

-- an atom whose nucleus is put into a box of another kind: in which style, which box, and with its scripts
abbrev pub boxing_style : AtomKind → ℕ → ℕ
boxing_style Ord style = style
boxing_style (Op limits) style = style
boxing_style Bin style = style
boxing_style Rel style = style
boxing_style Open style = style
boxing_style Close style = style
boxing_style Punct style = style
boxing_style Inner style = style
boxing_style Over style = cramped style
boxing_style Under style = style
boxing_style Center style = style
boxing_style (Radical sign) style = cramped style
boxing_style (Accent c) style = style

abbrev pub remade : Math → ℕ → AtomKind → PackedBox → Result PackedBox MathError
remade m style Ord x = Ok x
remade m style (Op limits) x = Ok x
remade m style Bin x = Ok x
remade m style Rel x = Ok x
remade m style Open x = Ok x
remade m style Close x = Ok x
remade m style Punct x = Ok x
remade m style Inner x = Ok x
remade m style Over x = overlined m style x
remade m style Under x = underlined m style x
remade m style Center x = vcentred m style x
remade m style (Radical sign) x = radical m style sign x
remade m style (Accent c) x = Ok x

unfoldable pub remade_nucleus : Math → ℕ → AtomKind → List Item → Result Nucleus MathError
remade_nucleus m style kind list = passed (cleaned_list m list) (λ x. passed (remade m style kind x) (λ b. Ok (box_nucleus (pos 0) b)))

unfoldable pub boxed_list : Inward → Math → ℕ → AtomKind → Part → Part → Part → Telling (List Item)
boxed_list inward m style kind nucleus sup sub =
    and_then (part_list inward m (boxing_style kind style) nucleus) (λ list.
    and_then (checked (remade_nucleus m style kind list)) (with_scripts inward m style sup sub))

-- an operator whose nucleus is a character: this is put into a box, which is centred about the axis, and its correction is kept
-- (section 749). None where it is none
abbrev pub operator_box : Math → ℕ → ℤ → PackedBox → Result OperatorBox MathError
operator_box m style correction x =
    passed (stored (about_axis m style x)) (λ shift. Ok (record { shift = shift; inner = x; correction = correction }))

unfoldable pub operator_by : Math → ℕ → Bool → Option CharacterItem → Result OperatorBox MathError
operator_by m style narrow found =
    passed (cleaned_list m (letter_nucleus m false false found).nodes) (λ x.
    passed (narrowed narrow (operator_correction m found) x) (operator_box m style (operator_correction m found)))

abbrev pub operator_of : Math → ℕ → Bool → Part → Telling (Option OperatorBox)
operator_of m style narrow empty = given None
operator_of m style narrow (letter c) =
    and_then (fetched m style c) (λ found. and_then (checked (operator_by m style narrow (in_display m style found))) (λ operator. given (Some operator)))
operator_of m style narrow (packed shift b) = given None
operator_of m style narrow (formula items) = given None

-- the nucleus then is that box
abbrev pub part_or : Part → Option OperatorBox → Part
part_or nucleus None = nucleus
part_or nucleus (Some operator) = packed operator.shift operator.inner

abbrev pub correction_of : Option OperatorBox → ℤ
correction_of None = pos 0
correction_of (Some operator) = operator.correction

-- with its limits above and below it; the upper one is set first (section 750)
unfoldable pub limits_box : Math → ℕ → ℤ → Bool → Bool → PackedBox → PackedBox → PackedBox → Telling (List Item)
limits_box m style correction has_upper has_lower x y z =
    and_then (evened m (widest x y z) x y z) (λ boxes.
    and_then (checked (limits_of m style correction has_upper has_lower (widest x y z) boxes)) (λ b. given (box_item (pos 0) b ∷ [])))

unfoldable pub limits_below : Inward → Math → ℕ → Part → Part → Part → Option OperatorBox → PackedBox → Telling (List Item)
limits_below inward m style nucleus sup sub operator x =
    and_then (cleaned inward m style (part_or nucleus operator)) (λ y.
    and_then (cleaned inward m (subscript_style style) sub) (λ z.
    limits_box m style (correction_of operator) (not (is_empty sup)) (not (is_empty sub)) x y z))

unfoldable pub limits_list : Inward → Math → ℕ → Part → Part → Part → Option OperatorBox → Telling (List Item)
limits_list inward m style nucleus sup sub operator =
    and_then (cleaned inward m (superscript_style style) sup) (limits_below inward m style nucleus sup sub operator)

-- with them behind it, as scripts
abbrev pub offset_by : ℤ → Nucleus → Nucleus
offset_by offset n = record n { offset = offset }

unfoldable pub scripted_operator : Inward → Math → ℕ → Part → Part → Part → Option OperatorBox → Telling (List Item)
scripted_operator inward m style nucleus sup sub operator =
    and_then (nucleus_of inward m style false false (part_or nucleus operator)) (λ n. with_scripts inward m style sup sub (offset_by (correction_of operator) n))

unfoldable pub limited : Inward → Math → ℕ → Part → Part → Part → Telling (List Item)
limited inward m style nucleus sup sub = and_then (operator_of m style false nucleus) (limits_list inward m style nucleus sup sub)

unfoldable pub unlimited : Inward → Math → ℕ → Part → Part → Part → Telling (List Item)
unlimited inward m style nucleus sup sub =
    and_then (operator_of m style (not (is_empty sub)) nucleus) (scripted_operator inward m style nucleus sup sub)

abbrev pub operator_list : Inward → Math → ℕ → Limits → Part → Part → Part → Telling (List Item)
operator_list inward m style limits nucleus sup sub =
    if has_limits limits style then limited inward m style nucleus sup sub else unlimited inward m style nucleus sup sub

-- an atom of any other kind
unfoldable pub scripted : Inward → Math → ℕ → Bool → Part → Part → Part → Telling (List Item)
scripted inward m style joined nucleus sup sub =
    and_then (nucleus_of inward m style joined (not (is_empty sub)) nucleus) (with_scripts inward m style sup sub)

-- an atom with an accent. The kern that moves the accent is that of a nucleus that is a character; this is fetched for it first
-- (section 741), and nothing is left of the nucleus where its font lacks it (section 722): None then
abbrev pub skew_if : Math → Option CharacterItem → Option ℤ
skew_if m None = None
skew_if m (Some c) = Some (skew_of m c)

abbrev pub nucleus_skew : Math → ℕ → Part → Telling (Option ℤ)
nucleus_skew m style empty = given (Some (pos 0))
nucleus_skew m style (letter c) = and_then (fetched m style c) (λ found. given (skew_if m found))
nucleus_skew m style (packed shift b) = given (Some (pos 0))
nucleus_skew m style (formula items) = given (Some (pos 0))

-- below the accent, as a nucleus
unfoldable pub accent_nucleus : Math → AccentPlace → PackedBox → Result Nucleus MathError
accent_nucleus m p x = passed (accent_box m p x) (λ b. Ok (box_nucleus (pos 0) b))

-- scripts of a character stand below the accent with it, as an Ord has them; those of all else stand behind the accent (section 742)
abbrev pub is_letter : Part → Bool
is_letter empty = false
is_letter (letter c) = true
is_letter (packed shift b) = false
is_letter (formula items) = false

abbrev pub takes_scripts : Part → Part → Part → Bool
takes_scripts nucleus sup sub = is_letter nucleus && not (is_empty sup && is_empty sub)

unfoldable pub scripted_box : Inward → Math → ℕ → Part → Part → Part → Telling PackedBox
scripted_box inward m style nucleus sup sub =
    and_then (scripted inward m style false nucleus sup sub) (λ list. checked (cleaned_list m list))

unfoldable pub accent_with : Inward → Math → ℕ → Part → Part → Part → AccentPlace → PackedBox → Telling (List Item)
accent_with inward m style nucleus sup sub p x =
    and_then (scripted_box inward m style nucleus sup sub) (λ grown.
    and_then (checked (accent_nucleus m (place_on p x grown) grown)) (λ n. given n.nodes))

unfoldable pub accent_before : Inward → Math → ℕ → Part → Part → AccentPlace → PackedBox → Telling (List Item)
accent_before inward m style sup sub p x = and_then (checked (accent_nucleus m p x)) (with_scripts inward m style sup sub)

abbrev pub accent_on : Inward → Math → ℕ → Part → Part → Part → AccentPlace → PackedBox → Telling (List Item)
accent_on inward m style nucleus sup sub p x =
    if takes_scripts nucleus sup sub then accent_with inward m style nucleus sup sub p x else accent_before inward m style sup sub p x

-- moved by so much; or on nothing, with all scripts behind it
unfoldable pub accent_moved : Inward → Math → ℕ → Part → Part → Part → CharacterItem → ℤ → Telling (List Item)
accent_moved inward m style nucleus sup sub c skew =
    and_then (cleaned inward m (cramped style) nucleus) (λ x. accent_on inward m style nucleus sup sub (accent_place m c skew x) x)

unfoldable pub accent_alone : Inward → Math → ℕ → Part → Part → CharacterItem → Telling (List Item)
accent_alone inward m style sup sub c =
    and_then (checked (cleaned_list m [])) (λ x. accent_before inward m style sup sub (accent_place m c (pos 0) x) x)

abbrev pub accent_skewed : Inward → Math → ℕ → Part → Part → Part → CharacterItem → Option ℤ → Telling (List Item)
accent_skewed inward m style nucleus sup sub c None = accent_alone inward m style sup sub c
accent_skewed inward m style nucleus sup sub c (Some skew) = accent_moved inward m style nucleus sup sub c skew

-- where the accent's font has it; without it the atom is an Ord (section 738)
unfoldable pub accent_over : Inward → Math → ℕ → Part → Part → Part → CharacterItem → Telling (List Item)
accent_over inward m style nucleus sup sub c =
    and_then (nucleus_skew m style nucleus) (accent_skewed inward m style nucleus sup sub c)

abbrev pub accent_by : Inward → Math → ℕ → Part → Part → Part → Option CharacterItem → Telling (List Item)
accent_by inward m style nucleus sup sub None = scripted inward m style false nucleus sup sub
accent_by inward m style nucleus sup sub (Some c) = accent_over inward m style nucleus sup sub c

unfoldable pub accented : Inward → Math → ℕ → MathCharacter → Part → Part → Part → Telling (List Item)
accented inward m style c nucleus sup sub = and_then (fetched m style c) (accent_by inward m style nucleus sup sub)

abbrev pub atom_list : Inward → Math → ℕ → Bool → AtomKind → Part → Part → Part → Telling (List Item)
atom_list inward m style joined Ord nucleus sup sub = scripted inward m style joined nucleus sup sub
atom_list inward m style joined (Op limits) nucleus sup sub = operator_list inward m style limits nucleus sup sub
atom_list inward m style joined Bin nucleus sup sub = scripted inward m style joined nucleus sup sub
atom_list inward m style joined Rel nucleus sup sub = scripted inward m style joined nucleus sup sub
atom_list inward m style joined Open nucleus sup sub = scripted inward m style joined nucleus sup sub
atom_list inward m style joined Close nucleus sup sub = scripted inward m style joined nucleus sup sub
atom_list inward m style joined Punct nucleus sup sub = scripted inward m style joined nucleus sup sub
atom_list inward m style joined Inner nucleus sup sub = scripted inward m style joined nucleus sup sub
atom_list inward m style joined Over nucleus sup sub = boxed_list inward m style Over nucleus sup sub
atom_list inward m style joined Under nucleus sup sub = boxed_list inward m style Under nucleus sup sub
atom_list inward m style joined Center nucleus sup sub = boxed_list inward m style Center nucleus sup sub
atom_list inward m style joined (Radical sign) nucleus sup sub = boxed_list inward m style (Radical sign) nucleus sup sub
atom_list inward m style joined (Accent c) nucleus sup sub = accented inward m style c nucleus sup sub

-- a fraction (section 743)
unfoldable pub lined_up : Math → ℕ → ℤ → FractionHead → PackedBox → PackedBox → Telling (List Item)
lined_up m style thickness head x z =
    and_then (even_boxes m x z) (λ boxes.
    and_then (checked (fraction_of m style thickness head boxes.0 boxes.1)) (λ b. given (box_item (pos 0) b ∷ [])))

unfoldable pub fraction_items : Inward → Math → ℕ → FractionHead → MathItems → MathItems → Telling (List Item)
fraction_items inward m style head above below =
    and_then (cleaned inward m (numerator_style style) (formula above)) (λ x.
    and_then (cleaned inward m (denominator_style style) (formula below)) (λ z.
    lined_up m style (thickness_of m style head.thickness) head x z))

-- glue and kerns that are told in mu; \nonscript is glue of no size; \left is an Open, \right a Close
abbrev pub small_piece : Math → ℕ → PlainNoad → Result Piece MathError
small_piece m style (Style changed) = Ok (restyled changed)
small_piece m style Nonscript = Ok (lone (plain (horizontal.Glue zero_glue)))
small_piece m style (Glue g) = passed (math_glue m style g) (λ glue. Ok (lone (plain (horizontal.Glue glue))))
small_piece m style (Kern size) = passed (math_kern m style size) (λ width. Ok (lone (plain (horizontal.Kern Explicit width))))
small_piece m style (Left d) = Ok (fence Open d)
small_piece m style (Right d) = Ok (fence Close d)

-- what an entry of this kind becomes. No choice is among the entries of a list
abbrev pub piece_of : Inward → Math → AtomKind → Entry → MathItem → Telling Piece
piece_of inward m kind e (atom own nucleus sup sub) =
    and_then (atom_list inward m e.style e.joined kind nucleus sup sub) (λ list. given (noad kind list))
piece_of inward m kind e (fraction head above below) =
    and_then (fraction_items inward m e.style head above below) (λ list. given (noad Ord list))
piece_of inward m kind e (choice display text script script_script) = given (restyled e.style)
piece_of inward m kind e (small s) = checked (small_piece m e.style s)
piece_of inward m kind e (material i) = given (lone i)

abbrev pub piece_as : Inward → Math → AtomKind → Entry → Telling Piece
piece_as inward m kind e = piece_of inward m kind e e.item

abbrev pub pieces_of : Inward → Math → List Entry → Telling (List Piece)
pieces_of inward m [] = given []
pieces_of inward m (e ∷ rest) =
    and_then (piece_as inward m (kind_before e rest) e) (λ piece. and_then (pieces_of inward m rest) (λ more. given (piece ∷ more)))

-- the two passes of mlist_to_hlist (sections 726, 727 and 760): each item is set, and then spaces and penalties stand between them
unfoldable pub converted : Inward → Math → ℕ → Bool → List Entry → Telling (List Item)
converted inward m style penalties entries =
    and_then (pieces_of inward m (composed m entries)) (λ pieces.
    checked (spaced m penalties (fences_of m style pieces) (spaces_of style None) pieces))

-- a list in a style, in which lists stand in one another so many levels deep at most
unfoldable pub list_in : ℕ → Math → Bool → ℕ → List MathItem → Telling (List Item)
list_in zero m penalties style list = given []
list_in (suc levels) m penalties style list = converted (list_in levels m false) m style penalties (entries_of style (gathered list))

-- how the lists in it are set
abbrev pub inward : ℕ → Math → Inward
inward levels m = list_in levels m false

-- as many levels as there are
abbrev pub levels_of : List MathItem → ℕ
levels_of list = suc (depth_of (gathered list))

-- a formula, and what is told of it. The symbol and extension fonts of all sizes need their parameters, whether they are used or not
abbrev pub formula_of : List Item × List ℕ → Formula
formula_of made = record { nodes = made.0; report = made.1 }

abbrev pub told_formula : Result (List Item × List ℕ) MathError → Result Formula MathError
told_formula outcome = passed outcome (λ made. Ok (formula_of made))

abbrev pub math_with : List FontState → MathParams → Math
math_with fonts params = record { fonts = fonts; params = params }

abbrev pub hlist : Math → ℕ → Bool → List MathItem → Result Formula MathError
hlist m style penalties list =
    if has_all_parameters m then told_formula (list_in (levels_of list) m penalties style list []) else Err FewParameters
