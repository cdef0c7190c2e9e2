-- Items are equal only where what they are made of is.
use Rattle.std.proofs.Common.{◌≡◌, ◌↔◌, ℕ, ℤ, pos, ◌<◌, List, [], ◌∷◌, length, get_or, refl, sym, ap, ◌∙◌, arith, IsTrue}
use Rattle.std.proofs.Common.{Bool, false}
use Rattle.std.proofs.lemmas.List.{get_or-map}
use Rattle.tx_num.specs.Glue.{GlueSpec}
use Rattle.tx_node.specs.declared.head.BoxHead.{BoxHead}
use Rattle.tx_node.specs.declared.node.BoxLeaders.{BoxLeaders}
use Rattle.tx_node.specs.declared.node.Discretionary.{Discretionary}
use Rattle.tx_node.specs.declared.node.Insertion.{Insertion}
use Rattle.tx_node.specs.declared.node.Node.{Node}
use Rattle.tx_node.specs.declared.plain.Leaders.{Leaders}
use Rattle.tx_node.specs.declared.plain.LeadersKind.{LeadersKind}
use Rattle.tx_node.specs.declared.rule.Rule.{Rule}
use Rattle.tx_node.specs.declared.plain.Plain.TheVariants.{Penalty}
use Rattle.tx_node.specs.Nodes.{item_of, list_of}
use Rattle.tx_node.specs.Items.{Item, plain, shared, boxed, discretionary, adjustment, insertion, box_leaders, Items, none, more, PackedBox, items_of, box_item, leaders_item}

-- the items of a box, as a list
abbrev pub list_from : Items → List Item
list_from none = []
list_from (more item rest) = item ∷ list_from rest

pub list-back : (list : List Item) → list_from (items_of list) ≡ list
list-back [] = refl
list-back (item ∷ rest) = ap (λ xs. item ∷ xs) (list-back rest)

abbrev box_part : PackedBox → Item → PackedBox
box_part other (plain p) = other
box_part other (shared s) = other
box_part other (discretionary head pre post) = other
box_part other (adjustment inner) = other
box_part other (insertion head inner) = other
box_part other (box_leaders head repeated inner) = other
box_part other (boxed shift head inner) = record { head = head; list = list_from inner }

back : (shift : ℤ) (a : PackedBox) → box_part a (box_item shift a) ≡ a
back shift a = ap (λ xs. record { head = a.head; list = xs }) (list-back a.list)

pub same-box : (s t : ℤ) (a b : PackedBox) → box_item s a ≡ box_item t b → a ≡ b
same-box s t a b e = sym (back s a) ∙ ap (box_part a) e ∙ ap (λ xs. record { head = b.head; list = xs }) (list-back b.list)

-- equal lists have equal items at a place
pub same-items : (xs ys : List Node) (i : ℕ) (d e : Node) → i < length xs → i < length ys → list_of xs ≡ list_of ys → item_of (get_or xs i d) ≡ item_of (get_or ys i e)
same-items xs ys i d e h k same =
    sym (get_or-map item_of xs i d (plain (Penalty (pos 0))) h) ∙ ap (λ list. get_or list i (plain (Penalty (pos 0)))) same
    ∙ get_or-map item_of ys i e (plain (Penalty (pos 0))) k

pub differ : (xs ys : List Node) (i : ℕ) {x y : Node} {told : Bool} → i < length xs → length xs ≡ length ys → x ≡ get_or xs i x → y ≡ get_or ys i y → told ≡ false
    → (item_of x ≡ item_of y → IsTrue told) → list_of xs ≡ list_of ys → IsTrue false
differ xs ys i {x} {y} h long x_is y_is isnt same equal =
    sym isnt ∙ same (ap item_of x_is ∙ same-items xs ys i x y h (omega (arith, h, long)) equal ∙ ap item_of (sym y_is))

abbrev leaders_of : LeadersKind → GlueSpec → Rule → Leaders
leaders_of kind glue rule = record { kind = kind; glue = glue; rule = rule }

-- leaders of one kind and glue are equal where their rules are
pub same-leaders : (a b : Leaders) {told : Bool} → a.kind ≡ b.kind → a.glue ≡ b.glue → (IsTrue told ↔ (a.rule ≡ b.rule)) → (IsTrue told ↔ (a ≡ b))
same-leaders a b kinds glues rules = (
  (λ t. ap (λ kind. leaders_of kind a.glue a.rule) kinds ∙ ap (λ glue. leaders_of b.kind glue a.rule) glues ∙ ap (λ rule. leaders_of b.kind b.glue rule) (rules.0 t)),
  (λ e. rules.1 (ap (λ (l : Leaders). l.rule) e)),
)

abbrev packed_of : BoxHead → List Item → PackedBox
packed_of head list = record { head = head; list = list }

-- boxes of one head are equal where their lists are
pub same-lists : (a b : PackedBox) {xs ys : List Item} {told : Bool} → xs ≡ a.list → ys ≡ b.list → a.head ≡ b.head → (IsTrue told ↔ (xs ≡ ys)) → (IsTrue told ↔ (a ≡ b))
same-lists a b xs_is ys_is heads lists = (
  (λ t. ap (λ head. packed_of head a.list) heads ∙ ap (λ list. packed_of b.head list) (sym xs_is ∙ lists.0 t ∙ ys_is)),
  (λ e. lists.1 (xs_is ∙ ap (λ (box : PackedBox). box.list) e ∙ sym ys_is)),
)

-- boxes that are shifted by the same are equal as items where they are equal
pub same-boxes : {x y : Item} {told : Bool} (s t : ℤ) (a b : PackedBox) → x ≡ box_item s a → y ≡ box_item t b → s ≡ t → (IsTrue told ↔ (a ≡ b)) → (IsTrue told ↔ (x ≡ y))
same-boxes s t a b x_is y_is shifts same = (
  (λ told. x_is ∙ ap (λ shift. box_item shift a) shifts ∙ ap (box_item t) (same.0 told) ∙ sym y_is),
  (λ e. same.1 (same-box s t a b (sym x_is ∙ e ∙ y_is))),
)

-- the list of an adjustment, the parts of an insertion, of a discretionary and of leaders of a box, and another's of other items
abbrev adjustment_part : Item → List Item
adjustment_part (plain p) = []
adjustment_part (shared s) = []
adjustment_part (boxed shift head inner) = []
adjustment_part (discretionary head pre post) = []
adjustment_part (adjustment inner) = list_from inner
adjustment_part (insertion head inner) = []
adjustment_part (box_leaders head repeated inner) = []

abbrev insertion_part : Insertion → Item → Insertion
insertion_part other (plain p) = other
insertion_part other (shared s) = other
insertion_part other (boxed shift head inner) = other
insertion_part other (discretionary head pre post) = other
insertion_part other (adjustment inner) = other
insertion_part other (insertion head inner) = record { head = head; list = list_from inner }
insertion_part other (box_leaders head repeated inner) = other

abbrev discretionary_part : Discretionary → Item → Discretionary
discretionary_part other (plain p) = other
discretionary_part other (shared s) = other
discretionary_part other (boxed shift head inner) = other
discretionary_part other (discretionary head pre post) = record { head = head; before = list_from pre; behind = list_from post }
discretionary_part other (adjustment inner) = other
discretionary_part other (insertion head inner) = other
discretionary_part other (box_leaders head repeated inner) = other

abbrev leaders_part : BoxLeaders → Item → BoxLeaders
leaders_part other (plain p) = other
leaders_part other (shared s) = other
leaders_part other (boxed shift head inner) = other
leaders_part other (discretionary head pre post) = other
leaders_part other (adjustment inner) = other
leaders_part other (insertion head inner) = other
leaders_part other (box_leaders head repeated inner) = record { head = head; inner = record { head = repeated; list = list_from inner } }

abbrev insertion_item : Insertion → Item
insertion_item n = insertion n.head (items_of n.list)

abbrev discretionary_item : Discretionary → Item
discretionary_item d = discretionary d.head (items_of d.before) (items_of d.behind)

insertion-back : (other n : Insertion) → insertion_part other (insertion_item n) ≡ n
insertion-back other n = ap (λ xs. record { head = n.head; list = xs }) (list-back n.list)

discretionary-back : (other d : Discretionary) → discretionary_part other (discretionary_item d) ≡ d
discretionary-back other d =
    ap (λ xs. record { head = d.head; before = xs; behind = list_from (items_of d.behind) }) (list-back d.before)
    ∙ ap (λ xs. record { head = d.head; before = d.before; behind = xs }) (list-back d.behind)

leaders-back : (other l : BoxLeaders) → leaders_part other (leaders_item l.head l.inner) ≡ l
leaders-back other l = ap (λ xs. record { head = l.head; inner = record { head = l.inner.head; list = xs } }) (list-back l.inner.list)

-- they are equal as items where they are equal
pub same-adjustments : {x y : Item} {told : Bool} (a b : List Item) → x ≡ adjustment (items_of a) → y ≡ adjustment (items_of b)
    → (IsTrue told ↔ (a ≡ b)) → (IsTrue told ↔ (x ≡ y))
same-adjustments a b x_is y_is same = (
  (λ t. x_is ∙ ap (λ list. adjustment (items_of list)) (same.0 t) ∙ sym y_is),
  (λ e. same.1 (sym (list-back a) ∙ ap adjustment_part (sym x_is ∙ e ∙ y_is) ∙ list-back b)),
)

pub same-insertions : {x y : Item} {told : Bool} (a b : Insertion) → x ≡ insertion_item a → y ≡ insertion_item b
    → (IsTrue told ↔ (a ≡ b)) → (IsTrue told ↔ (x ≡ y))
same-insertions a b x_is y_is same = (
  (λ t. x_is ∙ ap insertion_item (same.0 t) ∙ sym y_is),
  (λ e. same.1 (sym (insertion-back a a) ∙ ap (insertion_part a) (sym x_is ∙ e ∙ y_is) ∙ insertion-back a b)),
)

pub same-discretionaries : {x y : Item} {told : Bool} (a b : Discretionary) → x ≡ discretionary_item a → y ≡ discretionary_item b
    → (IsTrue told ↔ (a ≡ b)) → (IsTrue told ↔ (x ≡ y))
same-discretionaries a b x_is y_is same = (
  (λ t. x_is ∙ ap discretionary_item (same.0 t) ∙ sym y_is),
  (λ e. same.1 (sym (discretionary-back a a) ∙ ap (discretionary_part a) (sym x_is ∙ e ∙ y_is) ∙ discretionary-back a b)),
)

pub same-box-leaders : {x y : Item} {told : Bool} (a b : BoxLeaders) → x ≡ leaders_item a.head a.inner → y ≡ leaders_item b.head b.inner
    → (IsTrue told ↔ (a ≡ b)) → (IsTrue told ↔ (x ≡ y))
same-box-leaders a b x_is y_is same = (
  (λ t. x_is ∙ ap (λ (l : BoxLeaders). leaders_item l.head l.inner) (same.0 t) ∙ sym y_is),
  (λ e. same.1 (sym (leaders-back a a) ∙ ap (leaders_part a) (sym x_is ∙ e ∙ y_is) ∙ leaders-back a b)),
)
