-- Items are equal only where what they are made of is.
use Rattle.std.proofs.Common.{◌≡◌, ◌↔◌, ℕ, ◌<◌, List, [], ◌∷◌, length, get_or, refl, sym, ap, ◌∙◌, arith, IsTrue}
use Rattle.std.proofs.Common.{Bool, false}
use Rattle.std.proofs.lemmas.List.{get_or-map}
use Rattle.tx_node.specs.declared.node.Node.{Node as NodeItem}
use Rattle.tx_node.specs.Items.{Item}
use Rattle.tx_node.specs.Nodes.{item_of}
use Rattle.tx_mlist.specs.declared.noad.Atom.{Atom as AtomFields}
use Rattle.tx_mlist.specs.declared.noad.Choice.{Choice as ChoiceFields}
use Rattle.tx_mlist.specs.declared.noad.Field.{Field}
use Rattle.tx_mlist.specs.declared.noad.Field.TheVariants.{Empty, Character, Packed, Formula}
use Rattle.tx_mlist.specs.declared.noad.Fraction.{Fraction as FractionFields}
use Rattle.tx_mlist.specs.declared.noad.Noad.{Noad}
use Rattle.tx_mlist.specs.declared.plain.PlainNoad.TheVariants.{Nonscript}
use Rattle.tx_mlist.specs.Items.{MathItem, Part, atom, fraction, choice, small, material, empty, letter, packed, formula, gathered, listed}
use Rattle.tx_mlist.specs.Noads.{atom_of, choice_of, fraction_of, math_of, mlist_of, part_of}

pub list-back : (list : List MathItem) → listed (gathered list) ≡ list
list-back [] = refl
list-back (item ∷ rest) = ap (λ xs. item ∷ xs) (list-back rest)

abbrev field_from : Part → Field
field_from empty = Empty
field_from (letter c) = Character c
field_from (packed shift b) = Packed shift b
field_from (formula items) = Formula (listed items)

field-back : (f : Field) → field_from (part_of f) ≡ f
field-back Empty = refl
field-back (Character c) = refl
field-back (Packed shift b) = refl
field-back (Formula list) = ap (λ xs. Formula xs) (list-back list)

-- the atom, fraction or choice that an item is, and another's of other items
abbrev atom_from : AtomFields → MathItem → AtomFields
atom_from other (atom kind nucleus superscript subscript) =
    record { kind = kind; nucleus = field_from nucleus; superscript = field_from superscript; subscript = field_from subscript }
atom_from other (fraction head above below) = other
atom_from other (choice display text script script_script) = other
atom_from other (small s) = other
atom_from other (material i) = other

abbrev fraction_from : FractionFields → MathItem → FractionFields
fraction_from other (atom kind nucleus superscript subscript) = other
fraction_from other (fraction head above below) = record { head = head; numerator = listed above; denominator = listed below }
fraction_from other (choice display text script script_script) = other
fraction_from other (small s) = other
fraction_from other (material i) = other

abbrev choice_from : ChoiceFields → MathItem → ChoiceFields
choice_from other (atom kind nucleus superscript subscript) = other
choice_from other (fraction head above below) = other
choice_from other (choice display text script script_script) =
    record { display = listed display; text = listed text; script = listed script; script_script = listed script_script }
choice_from other (small s) = other
choice_from other (material i) = other

atom-back : (other a : AtomFields) → atom_from other (atom_of a) ≡ a
atom-back other a =
    λ i. record { kind = a.kind; nucleus = field-back a.nucleus i; superscript = field-back a.superscript i; subscript = field-back a.subscript i }

fraction-back : (other f : FractionFields) → fraction_from other (fraction_of f) ≡ f
fraction-back other f = λ i. record { head = f.head; numerator = list-back f.numerator i; denominator = list-back f.denominator i }

choice-back : (other c : ChoiceFields) → choice_from other (choice_of c) ≡ c
choice-back other c =
    λ i. record { display = list-back c.display i; text = list-back c.text i; script = list-back c.script i; script_script = list-back c.script_script i }

-- they are equal as items where they are equal
pub same-atoms : {x y : MathItem} {told : Bool} (a b : AtomFields) → x ≡ atom_of a → y ≡ atom_of b → (IsTrue told ↔ (a ≡ b)) → (IsTrue told ↔ (x ≡ y))
same-atoms a b x_is y_is same = (
  (λ t. x_is ∙ ap atom_of (same.0 t) ∙ sym y_is),
  (λ e. same.1 (sym (atom-back a a) ∙ ap (atom_from a) (sym x_is ∙ e ∙ y_is) ∙ atom-back a b)),
)

pub same-fractions : {x y : MathItem} {told : Bool} (a b : FractionFields) → x ≡ fraction_of a → y ≡ fraction_of b
    → (IsTrue told ↔ (a ≡ b)) → (IsTrue told ↔ (x ≡ y))
same-fractions a b x_is y_is same = (
  (λ t. x_is ∙ ap fraction_of (same.0 t) ∙ sym y_is),
  (λ e. same.1 (sym (fraction-back a a) ∙ ap (fraction_from a) (sym x_is ∙ e ∙ y_is) ∙ fraction-back a b)),
)

pub same-choices : {x y : MathItem} {told : Bool} (a b : ChoiceFields) → x ≡ choice_of a → y ≡ choice_of b
    → (IsTrue told ↔ (a ≡ b)) → (IsTrue told ↔ (x ≡ y))
same-choices a b x_is y_is same = (
  (λ t. x_is ∙ ap choice_of (same.0 t) ∙ sym y_is),
  (λ e. same.1 (sym (choice-back a a) ∙ ap (choice_from a) (sym x_is ∙ e ∙ y_is) ∙ choice-back a b)),
)

-- one node, as a list, is equal to another where their items are equal
abbrev first_item : Item → List Item → Item
first_item other [] = other
first_item other (item ∷ rest) = item

pub same-single : (a b : NodeItem) {xs ys : List Item} {told : Bool} → xs ≡ item_of a ∷ [] → ys ≡ item_of b ∷ [] → (IsTrue told ↔ (xs ≡ ys)) → (IsTrue told ↔ (item_of a ≡ item_of b))
same-single a b xs_is ys_is same = (
  (λ t. ap (first_item (item_of a)) (sym xs_is ∙ same.0 t ∙ ys_is)),
  (λ e. same.1 (xs_is ∙ ap (λ item. item ∷ []) e ∙ sym ys_is)),
)

-- equal lists have equal items at a place
pub same-items : (xs ys : List Noad) (i : ℕ) (d e : Noad) → i < length xs → i < length ys → mlist_of xs ≡ mlist_of ys → math_of (get_or xs i d) ≡ math_of (get_or ys i e)
same-items xs ys i d e h k same =
    sym (get_or-map math_of xs i d (small Nonscript) h) ∙ ap (λ list. get_or list i (small Nonscript)) same
    ∙ get_or-map math_of ys i e (small Nonscript) k

pub differ : (xs ys : List Noad) (i : ℕ) {x y : Noad} {told : Bool} → i < length xs → length xs ≡ length ys → x ≡ get_or xs i x → y ≡ get_or ys i y → told ≡ false
    → (math_of x ≡ math_of y → IsTrue told) → mlist_of xs ≡ mlist_of ys → IsTrue false
differ xs ys i {x} {y} h long x_is y_is isnt same equal =
    sym isnt ∙ same (ap math_of x_is ∙ same-items xs ys i x y h (omega (arith, h, long)) equal ∙ ap math_of (sym y_is))
