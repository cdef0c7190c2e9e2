-- The name that \let defines, and the value of an assignment, as parts of it.
use Rattle.std.proofs.Common.{◌≡◌, ℕ, Bool, List, [], ◌∷◌, ◌++◌, Result, IfOk, refl, ap, ◌∙◌, arith}
use Rattle.tx_seen.specs.declared.error.TexError.{TexError}
use Rattle.tx_seen.specs.declared.place.Place.{Place}
use Rattle.tx_seen.specs.declared.seen.Seen.{Seen}
use Rattle.tx_seen.specs.declared.item.Item.{Item}
use Rattle.tx_seen.specs.declared.item.Item.TheVariants.{Took}
use Rattle.tx_seen.specs.declared.fed.Kind.{Kind}
use Rattle.tx_seen.specs.declared.fed.Want.{Want}
use Rattle.tx_seen.specs.declared.fed.Want.TheVariants.{Raw}
use Rattle.tx_seen.specs.declared.fed.Fed.{Fed}
use Rattle.tx_seen.specs.declared.fed.Fed.TheVariants as fed
use Rattle.tx_seen.specs.Readings.{next}
use Rattle.tx_scan.specs.declared.scans.IntScan.{IntScan}
use Rattle.tx_scan.specs.declared.scans.DimenScan.{DimenScan}
use Rattle.tx_scan.specs.declared.scans.EqualsScan.{EqualsScan}
use Rattle.tx_scan.specs.declared.scans.NameScan.{NameScan}
use Rattle.tx_scan.specs.Grammars.{equals, name}
use Rattle.tx_scan.specs.GrammarRests.{held_none, equals_rest, name_rest, IsEqualsFed, IsNameFed}
use Rattle.tx_scan.specs.IntegerRests as integers
use Rattle.tx_scan.specs.DimensionRests as sizes
use Rattle.tx_scan.proofs.Composing.{more-next, need-next, done-next, none-back}
use Rattle.tx_assign.specs.declared.scan.AssignScan.{AssignScan}
use Rattle.tx_assign.specs.declared.scan.AssignStage.TheVariants as stage
use Rattle.tx_assign.specs.declared.types.Purpose.{Purpose}
use Rattle.tx_assign.specs.Assignments.{given, let_behind_name, sized, value, valued}
use Rattle.tx_assign.specs.Rests.{rest, held, told, IsAssigning, IsBehind}
use Rattle.tx_assign.proofs.Numbers.{one-kept}
use Rattle.tx_assign.proofs.Steps.{same-behind}

-- the name
pub name-more : (old : AssignScan) (scan : NameScan) (t : Seen) (want : Want) → old.stage ≡ stage.LetName → IsNameFed scan t (fed.More want) → IsAssigning 0 (λ more. next (name (Took t ∷ more)) let_behind_name) t old (fed.More want)
name-more old scan t want s k =
    more-next name_rest held_none rest held 0 0 (λ more. name (Took t ∷ more)) let_behind_name t scan old want (k []) (rw s refl) (λ item more. rw s refl)

pub name-wrong : (new : AssignScan) (scan : NameScan) (t : Seen) (error : TexError) → IsNameFed scan t (fed.Wrong error) → IsAssigning 0 (λ more. next (name (Took t ∷ more)) let_behind_name) t new (fed.Wrong error)
name-wrong new scan t error k = λ more. ap (λ r. next r let_behind_name) (k [] more)

pub name-done : (old mid new : AssignScan) (scan : NameScan) (t : Seen) (p : Place) (back : ℕ) (answer : Fed (Unit {0})) → IsNameFed scan t (fed.Done p back) → mid ≡ record old { place = p } → new ≡ record mid { stage = stage.LetBehindName } → answer ≡ fed.More Raw → IsAssigning 0 (λ more. next (name (Took t ∷ more)) let_behind_name) t new answer
name-done old mid new scan t p back answer k m n a =
    done-next name_rest held_none rest held 0 0 (λ more. name (Took t ∷ more)) let_behind_name t scan new p back (told new answer) (k [])
    (none-back (λ items. IsAssigning 0 (λ more. let_behind_name p (items ++ more)) t new answer) back t (omega (arith, (k []).0))
    (rw (n, m, a) (refl, refl, λ item more. refl)))

-- the optional `=`
pub equals-more : (old : AssignScan) (scan : EqualsScan) (purpose : Purpose) (t : Seen) (want : Want) → IsEqualsFed scan t (fed.More want) → IsAssigning 0 (λ more. given purpose old.place (Took t ∷ more)) t (record old { stage = stage.Equals purpose }) (fed.More want)
equals-more old scan purpose t want k =
    more-next equals_rest held_none rest held 1 0 (λ more. equals (Took t ∷ more)) (λ _ rest. value purpose old.place rest) t scan (record old { stage = stage.Equals purpose }) want (k []) refl (λ item more. refl)

pub equals-wrong : (new : AssignScan) (scan : EqualsScan) (purpose : Purpose) (p : Place) (t : Seen) (error : TexError) → IsEqualsFed scan t (fed.Wrong error) → IsAssigning 0 (λ more. given purpose p (Took t ∷ more)) t new (fed.Wrong error)
equals-wrong new scan purpose p t error k = λ more. ap (λ r. next r (λ _ rest. value purpose p rest)) (k [] more)

pub equals-ends : (new : AssignScan) (scan : EqualsScan) (purpose : Purpose) (p : Place) (t : Seen) (found : Bool) (back : ℕ) (answer : Fed (Unit {0})) → IsEqualsFed scan t (fed.Done found back) → back ≡ 0 → IsAssigning 0 (λ more. value purpose p more) t new answer → IsAssigning 0 (λ more. given purpose p (Took t ∷ more)) t new answer
equals-ends new scan purpose p t found back answer k e later =
    done-next equals_rest held_none rest held 1 0 (λ more. equals (Took t ∷ more)) (λ _ rest. value purpose p rest) t scan new found back (told new answer) (k [])
    (none-back (λ items. IsAssigning 0 (λ more. value purpose p (items ++ more)) t new answer) back t e later)

pub equals-ends-before : {E : Type 0} (new : AssignScan) (scan : EqualsScan) (purpose : Purpose) (p : Place) (t : Seen) (found : Bool) (back : ℕ) (answer : Result (Fed (Unit {0})) E) → IsEqualsFed scan t (fed.Done found back) → (back ≡ 0 → ⊥) → IfOk answer (IsBehind (λ more. value purpose p (Took t ∷ more)) t new) → IfOk answer (IsBehind (λ more. given purpose p (Took t ∷ more)) t new)
equals-ends-before new scan purpose p t found back answer k e later =
    same-behind (λ more. given purpose p (Took t ∷ more)) (λ more. value purpose p (Took t ∷ more)) t new answer
    (λ more. ap (λ r. next r (λ _ rest. value purpose p rest)) ((k []).1 more) ∙ ap (λ (items : List Item). value purpose p (items ++ more)) (one-kept back t e)) later

-- a number
pub integer-more : (old : AssignScan) (scan : IntScan) (purpose : Purpose) (t : Seen) (want : Want) → integers.IsFed old.integer t scan (fed.More want) → (behind : List Item) → IsAssigning (integers.most old.integer) (λ more. next (integers.rest old.integer behind (Took t) more) (valued purpose old.place)) t (record old { stage = stage.Integer purpose; integer = scan }) (fed.More want)
integer-more old scan purpose t want k = λ behind.
    more-next integers.rest integers.held rest held (integers.most old.integer) (integers.most old.integer) (λ more. integers.rest old.integer behind (Took t) more) (valued purpose old.place) t scan (record old { stage = stage.Integer purpose; integer = scan }) want
    (k behind) (k behind).1 (λ item more. refl)

pub integer-need : (old : AssignScan) (scan : IntScan) (purpose : Purpose) (t : Seen) (kind : Kind) → integers.IsFed old.integer t scan (fed.Need kind) → (behind : List Item) → IsAssigning (integers.most old.integer) (λ more. next (integers.rest old.integer behind (Took t) more) (valued purpose old.place)) t (record old { stage = stage.Integer purpose; integer = scan }) (fed.Need kind)
integer-need old scan purpose t kind k = λ behind.
    need-next integers.rest integers.held rest held (integers.most old.integer) (integers.most old.integer) (λ more. integers.rest old.integer behind (Took t) more) (valued purpose old.place) t scan (record old { stage = stage.Integer purpose; integer = scan }) kind
    (k behind) (k behind).1 (λ item more. refl)

pub integer-wrong : (old new : AssignScan) (scan : IntScan) (purpose : Purpose) (t : Seen) (error : TexError) → integers.IsFed old.integer t scan (fed.Wrong error) → (behind : List Item) → IsAssigning (integers.most old.integer) (λ more. next (integers.rest old.integer behind (Took t) more) (valued purpose old.place)) t new (fed.Wrong error)
integer-wrong old new scan purpose t error k = λ behind more. ap (λ r. next r (valued purpose old.place)) (k behind more)

-- a size
pub size-more : (old : AssignScan) (scan : DimenScan) (purpose : Purpose) (t : Seen) (want : Want) → sizes.IsFed old.size t scan (fed.More want) → (behind : List Item) → IsAssigning (sizes.most old.size) (λ more. next (sizes.rest old.size behind (Took t) more) (sized purpose old.place)) t (record old { stage = stage.Size purpose; size = scan }) (fed.More want)
size-more old scan purpose t want k = λ behind.
    more-next sizes.rest sizes.held rest held (sizes.most old.size) (sizes.most old.size) (λ more. sizes.rest old.size behind (Took t) more) (sized purpose old.place) t scan (record old { stage = stage.Size purpose; size = scan }) want
    (k behind) (k behind).1 (λ item more. refl)

pub size-need : (old : AssignScan) (scan : DimenScan) (purpose : Purpose) (t : Seen) (kind : Kind) → sizes.IsFed old.size t scan (fed.Need kind) → (behind : List Item) → IsAssigning (sizes.most old.size) (λ more. next (sizes.rest old.size behind (Took t) more) (sized purpose old.place)) t (record old { stage = stage.Size purpose; size = scan }) (fed.Need kind)
size-need old scan purpose t kind k = λ behind.
    need-next sizes.rest sizes.held rest held (sizes.most old.size) (sizes.most old.size) (λ more. sizes.rest old.size behind (Took t) more) (sized purpose old.place) t scan (record old { stage = stage.Size purpose; size = scan }) kind
    (k behind) (k behind).1 (λ item more. refl)

pub size-wrong : (old new : AssignScan) (scan : DimenScan) (purpose : Purpose) (t : Seen) (error : TexError) → sizes.IsFed old.size t scan (fed.Wrong error) → (behind : List Item) → IsAssigning (sizes.most old.size) (λ more. next (sizes.rest old.size behind (Took t) more) (sized purpose old.place)) t new (fed.Wrong error)
size-wrong old new scan purpose t error k = λ behind more. ap (λ r. next r (sized purpose old.place)) (k behind more)
