-- A rule's sides and sizes, one after another: the steps that the definition allows are never too few.
use Rattle.std.proofs.Common.{◌≡◌, ℕ, zero, suc, ◌<◌, ◌≤◌, ◌&&◌, Bool, true, false, cond, not, Option, Some, None, List, [], ◌∷◌, length, codes, refl, arith}
use Rattle.tx_char.specs.Character.{character}
use Rattle.tx_seen.specs.declared.item.Item.{Item}
use Rattle.tx_seen.specs.declared.item.Item.TheVariants.{Took, Gave}
use Rattle.tx_node.specs.declared.rule.Rule.{Rule}
use Rattle.tx_seen.specs.Seen.{is_undefined, is_space, is_key}
use Rattle.tx_seen.specs.Readings.{Reading, More, Need, Done, Wrong, next}
use Rattle.tx_scan.specs.Keywords.{letters, begins_with, keyword}
use Rattle.tx_scan.specs.Dimensions.{dimension, lengths}
use Rattle.tx_rule.specs.declared.scans.Side.{Side}
use Rattle.tx_rule.specs.declared.scans.Side.TheVariants.{Width, Height, Depth}
use Rattle.tx_rule.specs.Rules.{letters_of, side_begun_by, side_if, named_side, side_named, side_or_end, sides_by, with_side, rule_sides}
use Rattle.tx_rule.proofs.Leaves.{Leaves, leaves-dimension}

-- where a word is there, fewer items than so many are behind it
abbrev IsThere : ℕ → Reading Bool → Type 0
IsThere n (More want) = Unit {0}
IsThere n (Need kind) = Unit {0}
IsThere n (Done true rest) = length rest < n
IsThere n (Done false rest) = Unit {0}
IsThere n (Wrong error) = Unit {0}

there-if : (n : ℕ) (b : Bool) (x y : Reading Bool) → IsThere n x → IsThere n y → IsThere n (cond b x y)
there-if n true x y p q = p
there-if n false x y p q = q

there-more : (m n : ℕ) (reading : Reading Bool) → m ≤ n → IsThere m reading → IsThere n reading
there-more m n (More want) h l = tt
there-more m n (Need kind) h l = tt
there-more m n (Done true rest) h l = omega arith
there-more m n (Done false rest) h l = tt
there-more m n (Wrong error) h l = tt

there-letters : (word : List ℕ) (whole items : List Item) (n : ℕ) → length items < n → IsThere n (letters word whole items)
there-letters [] whole items n h = h
there-letters (c ∷ word) whole [] n h = tt
there-letters (c ∷ word) whole (Gave v ∷ rest) n h = tt
there-letters (c ∷ word) whole (Took t ∷ rest) n h =
    there-if n (is_undefined t) _ _ tt (there-if n (is_key c t) _ _ (there-letters word whole rest n (omega arith)) tt)

there-first : (c : ℕ) (word : List ℕ) (whole items : List Item) → IsThere (length items) (letters (c ∷ word) whole items)
there-first c word whole [] = tt
there-first c word whole (Gave v ∷ rest) = tt
there-first c word whole (Took t ∷ rest) =
    there-if _ (is_undefined t) _ _ tt (there-if _ (is_key c t) _ _ (there-letters word whole rest _ (omega arith)) tt)

there-keyword : (c : ℕ) (word : List ℕ) (items : List Item) → IsThere (length items) (keyword (c ∷ word) items)
there-keyword c word [] = tt
there-keyword c word (Gave v ∷ rest) = tt
there-keyword c word (Took t ∷ rest) =
    there-if _ (is_space t && not (begins_with (c ∷ word) t)) _ _
    (there-more (length rest) (length (Took t ∷ rest)) (keyword (c ∷ word) rest) (omega arith) (there-keyword c word rest))
    (there-first c word (Took t ∷ rest) (Took t ∷ rest))

there-side : (side : Side) (items : List Item) → IsThere (length items) (keyword (letters_of side) items)
there-side Width items = there-keyword (character "w") (codes "idth") items
there-side Height items = there-keyword (character "h") (codes "eight") items
there-side Depth items = there-keyword (character "d") (codes "epth") items

-- where a side is named, fewer items than so many are behind it
abbrev Names : ℕ → Reading (Option Side) → Type 0
Names n (More want) = Unit {0}
Names n (Need kind) = Unit {0}
Names n (Done None rest) = Unit {0}
Names n (Done (Some side) rest) = length rest < n
Names n (Wrong error) = Unit {0}

names-if : (n : ℕ) (b : Bool) (x y : Reading (Option Side)) → Names n x → Names n y → Names n (cond b x y)
names-if n true x y p q = p
names-if n false x y p q = q

names-more : (m n : ℕ) (reading : Reading (Option Side)) → m ≤ n → Names m reading → Names n reading
names-more m n (More want) h l = tt
names-more m n (Need kind) h l = tt
names-more m n (Done None rest) h l = tt
names-more m n (Done (Some side) rest) h l = omega arith
names-more m n (Wrong error) h l = tt

names-there : (n : ℕ) (side : Side) (reading : Reading Bool) → IsThere n reading → Names n (next reading (side_if side))
names-there n side (More want) h = tt
names-there n side (Need kind) h = tt
names-there n side (Done true rest) h = h
names-there n side (Done false rest) h = tt
names-there n side (Wrong error) h = tt

names-begun : (side : Option Side) (items : List Item) → Names (length items) (named_side side items)
names-begun None items = tt
names-begun (Some side) items = names-there (length items) side (keyword (letters_of side) items) (there-side side items)

names-side : (items : List Item) → Names (length items) (side_named items)
names-side [] = tt
names-side (Gave v ∷ rest) = tt
names-side (Took t ∷ rest) =
    names-if _ (is_undefined t) _ _ tt
    (names-if _ (is_space t) _ _ (names-more (length rest) (length (Took t ∷ rest)) (side_named rest) (omega arith) (names-side rest))
    (names-begun (side_begun_by t) (Took t ∷ rest)))

next-same : {A B : Type 0} (m : ℕ) (reading : Reading A) (f g : A → List Item → Reading B) → Leaves m reading → ((a : A) (rest : List Item) → length rest ≤ m → f a rest ≡ g a rest) → next reading f ≡ next reading g
next-same m (More want) f g l h = refl
next-same m (Need kind) f g l h = refl
next-same m (Done a rest) f g l h = h a rest l
next-same m (Wrong error) f g l h = refl

sides-same : (m : ℕ) (rule : Rule) (reading : Reading (Option Side)) (f g : Rule → List Item → Reading Rule) → Names m reading → ((rule : Rule) (rest : List Item) → length rest < m → f rule rest ≡ g rule rest) → next reading (side_or_end f rule) ≡ next reading (side_or_end g rule)
sides-same m rule (More want) f g l h = refl
sides-same m rule (Need kind) f g l h = refl
sides-same m rule (Done None rest) f g l h = refl
sides-same m rule (Done (Some side) rest) f g l h =
    next-same (length rest) (dimension lengths rest) (λ measure behind. f (with_side rule side measure.size) behind) (λ measure behind. g (with_side rule side measure.size) behind) (leaves-dimension lengths rest)
    (λ measure behind b. h (with_side rule side measure.size) behind (omega arith))
sides-same m rule (Wrong error) f g l h = refl

sides-enough : (m n : ℕ) (rule : Rule) (items : List Item) → length items < m → length items < n → sides_by m rule items ≡ sides_by n rule items
sides-enough zero n rule items p q = absurd (omega arith)
sides-enough (suc m) zero rule items p q = absurd (omega arith)
sides-enough (suc m) (suc n) rule items p q =
    sides-same (length items) rule (side_named items) (sides_by m) (sides_by n) (names-side items)
    (λ rule rest h. sides-enough m n rule rest (omega arith) (omega arith))

-- a side may be named, and behind its size the rule goes on
pub rule-sides : (rule : Rule) (items : List Item) → next (side_named items) (side_or_end rule_sides rule) ≡ rule_sides rule items
rule-sides rule items =
    sides-same (length items) rule (side_named items) rule_sides (sides_by (length items)) (names-side items)
    (λ rule rest h. sides-enough (suc (length rest)) (length items) rule rest (omega arith) h)
