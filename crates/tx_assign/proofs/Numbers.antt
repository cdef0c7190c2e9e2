-- The number of a register, and a number or a size that is given, as parts of an assignment.
use Rattle.std.proofs.Common.{◌≡◌, ◌≤◌, ◌+◌, ℕ, zero, suc, ℤ, List, [], ◌∷◌, ◌++◌, Option, Result, Ok, Err, IfOk, refl, ap, ◌∙◌, lit≤, arith}
use Rattle.tx_prim.specs.declared.family.Numbered.{Numbered}
use Rattle.tx_prim.specs.declared.family.Operation.{Operation}
use Rattle.tx_seen.specs.declared.error.TexError.{TexError}
use Rattle.tx_seen.specs.declared.seen.Seen.{Seen}
use Rattle.tx_seen.specs.declared.item.Item.{Item}
use Rattle.tx_seen.specs.declared.item.Item.TheVariants.{Took}
use Rattle.tx_seen.specs.declared.fed.Kind.{Kind}
use Rattle.tx_seen.specs.declared.fed.Value.{Value}
use Rattle.tx_seen.specs.declared.fed.Want.{Want}
use Rattle.tx_seen.specs.declared.fed.Fed.{Fed}
use Rattle.tx_seen.specs.declared.fed.Fed.TheVariants as fed
use Rattle.tx_seen.specs.Readings.{Reading, next}
use Rattle.tx_scan.specs.declared.scans.DimenScan.{DimenScan}
use Rattle.tx_scan.specs.declared.scans.IntScan.{IntScan}
use Rattle.tx_scan.specs.Rests.{kept, IsAnswer, IsEnd, IsFedBy}
use Rattle.tx_scan.specs.Supplied.{NeedsFewer, NeedsNoMore}
use Rattle.tx_scan.specs.IntegerRests as integers
use Rattle.tx_scan.specs.DimensionRests as sizes
use Rattle.tx_scan.proofs.Answering.{fed-part, same-answer}
use Rattle.tx_scan.proofs.Behind.{read-one}
use Rattle.tx_scan.proofs.Composing.{more-next, need-next, done-next, end-next, none-back}
use Rattle.tx_scan.proofs.Mappings.{same-read}
use Rattle.tx_scan.proofs.Mosts.{most-integer, most-size}
use Rattle.tx_assign.specs.declared.scan.AssignScan.{AssignScan}
use Rattle.tx_assign.specs.declared.scan.AssignStage.TheVariants as stage
use Rattle.tx_assign.specs.declared.types.Assignment.{Assignment}
use Rattle.tx_assign.specs.Assignments.{behind_number}
use Rattle.tx_assign.specs.Rests.{rest, held, told, IsAssigning, IsBehind, IsFed, WaitsIfNeeded}

-- this token is behind it
pub one-kept : (back : ℕ) (t : Seen) → (back ≡ 0 → ⊥) → kept back t ≡ Took t ∷ []
one-kept zero t some = absurd (some refl)
one-kept (suc n) t some = refl

-- numbers and sizes hold one token at most
pub few-held : (old scan : IntScan) (t : Seen) (wanted : Kind) → integers.IsFed old t scan (fed.Need wanted) → integers.held scan ≤ 1
few-held old scan t wanted k = omega (arith, (k []).1, most-integer old)

pub few-held-size : (old scan : DimenScan) (t : Seen) (wanted : Kind) → sizes.IsFed old t scan (fed.Need wanted) → sizes.held scan ≤ 1
few-held-size old scan t wanted k = omega (arith, (k []).1, most-size old)

pub few-given : (old scan : IntScan) (v : Value) (wanted : Kind) → integers.held old ≤ 1 → integers.IsGiven old v scan (fed.Need wanted) → integers.held scan ≤ 1
few-given old scan v wanted h k = omega (arith, h, (k [] (omega arith)).1)

-- what ends an assignment waits for no value, and needs none
pub end-waits : (reading : List Item → Reading Assignment) (back : ℕ) (new : AssignScan) (answer : Fed (Unit {0})) → IsEnd reading back (told new answer) → WaitsIfNeeded new answer
end-waits reading back new (fed.More want) k = tt
end-waits reading back new (fed.Need kind) k = absurd k
end-waits reading back new (fed.Done value count) k = tt
end-waits reading back new (fed.Wrong error) k = tt

pub end-needs : (few most : ℕ) (reading : List Item → Reading Assignment) (back : ℕ) (new : AssignScan) (answer : Fed (Unit {0})) → IsEnd reading back (told new answer) → NeedsNoMore few most answer
end-needs few most reading back new (fed.More want) k = absurd k
end-needs few most reading back new (fed.Need kind) k = absurd k
end-needs few most reading back new (fed.Done value count) k = tt
end-needs few most reading back new (fed.Wrong error) k = tt

pub end-fewer : (few most : ℕ) (reading : List Item → Reading Assignment) (back : ℕ) (new : AssignScan) (answer : Fed (Unit {0})) → IsEnd reading back (told new answer) → NeedsFewer few most answer
end-fewer few most reading back new (fed.More want) k = absurd k
end-fewer few most reading back new (fed.Need kind) k = absurd k
end-fewer few most reading back new (fed.Done value count) k = tt
end-fewer few most reading back new (fed.Wrong error) k = tt

-- a value ends an assignment
pub end-all : {S A : Type 0} (part : S → List Item → Item → List Item → Reading A) (part_held : S → ℕ) (few : ℕ) (reading : List Item → List Item → Reading A) (on : A → List Item → Reading Assignment) (t : Seen) (scan : S) (new : AssignScan) (value passed : A) (back : ℕ) (answer : Fed (Unit {0})) → ((behind : List Item) → IsAnswer part part_held few (reading behind) t scan (fed.Done value back)) → passed ≡ value → IsEnd (on passed) back (told new answer) → (behind : List Item) → IsAssigning few (λ more. next (reading behind more) on) t new answer
end-all part part_held few reading on t scan new value passed back answer k f e = λ behind.
    done-next part part_held rest held few few (reading behind) on t scan new value back (told new answer) (k behind) (end-next rest held few (on value) t back new (told new answer) (k behind).0 (rw f at e))

-- the number of a register
pub number-more : (old : AssignScan) (scan : IntScan) (kind : Numbered) (operation : Option Operation) (t : Seen) (want : Want) → old.stage ≡ stage.Number kind operation → integers.IsFed old.integer t scan (fed.More want) → IsFedBy rest held old t (record old { integer = scan }) (fed.More want)
number-more old scan kind operation t want s k =
    fed-part rest held old (record old { integer = scan }) 1 t (fed.More want) (lit≤ tt) (λ behind. rw s
    (more-next integers.rest integers.held rest held (integers.most old.integer) 1 (λ more. integers.rest old.integer behind (Took t) more) (behind_number operation kind) t scan (record old { integer = scan; stage = stage.Number kind operation }) want
    (k behind) (k behind).1 (λ item more. refl)))

pub number-need : (old : AssignScan) (scan : IntScan) (kind : Numbered) (operation : Option Operation) (t : Seen) (wanted : Kind) → old.stage ≡ stage.Number kind operation → integers.IsFed old.integer t scan (fed.Need wanted) → IsFedBy rest held old t (record old { integer = scan }) (fed.Need wanted)
number-need old scan kind operation t wanted s k =
    fed-part rest held old (record old { integer = scan }) 1 t (fed.Need wanted) (lit≤ tt) (λ behind. rw s
    (need-next integers.rest integers.held rest held (integers.most old.integer) 1 (λ more. integers.rest old.integer behind (Took t) more) (behind_number operation kind) t scan (record old { integer = scan; stage = stage.Number kind operation }) wanted
    (k behind) (few-held old.integer scan t wanted k) (λ item more. refl)))

pub number-wrong : (old new : AssignScan) (scan : IntScan) (kind : Numbered) (operation : Option Operation) (t : Seen) (error : TexError) → old.stage ≡ stage.Number kind operation → integers.IsFed old.integer t scan (fed.Wrong error) → IsFedBy rest held old t new (fed.Wrong error)
number-wrong old new scan kind operation t error s k = λ behind h more. rw s (ap (λ r. next r (behind_number operation kind)) (k behind more))

pub number-ends : (old new : AssignScan) (scan : IntScan) (kind : Numbered) (operation : Option Operation) (t : Seen) (n m : ℤ) (back : ℕ) (answer : Fed (Unit {0})) → old.stage ≡ stage.Number kind operation → integers.IsFed old.integer t scan (fed.Done n back) → back ≡ 0 → m ≡ n → IsAssigning 0 (λ more. behind_number operation kind m more) t new answer → IsFed old t new answer
number-ends old new scan kind operation t n m back answer s k e f later =
    fed-part rest held old new 0 t (told new answer) (omega arith) (λ behind.
    same-answer rest held 0 (λ more. rest old behind (Took t) more) (λ more. next (integers.rest old.integer behind (Took t) more) (behind_number operation kind)) t new (told new answer) (λ more. rw s refl)
    (done-next integers.rest integers.held rest held (integers.most old.integer) 0 (λ more. integers.rest old.integer behind (Took t) more) (behind_number operation kind) t scan new n back (told new answer) (k behind)
    (none-back (λ items. IsAssigning 0 (λ more. behind_number operation kind n (items ++ more)) t new answer) back t e (rw f at later))))

pub number-ends-before : {E : Type 0} (old new : AssignScan) (scan : IntScan) (kind : Numbered) (operation : Option Operation) (t : Seen) (n m : ℤ) (back : ℕ) (answer : Result (Fed (Unit {0})) E) → old.stage ≡ stage.Number kind operation → integers.IsFed old.integer t scan (fed.Done n back) → (back ≡ 0 → ⊥) → m ≡ n → IfOk answer (IsBehind (λ more. behind_number operation kind m (Took t ∷ more)) t new) → IfOk answer (IsFed old t new)
number-ends-before old new scan kind operation t n m back (Ok answer) s k e f later = λ behind h.
    same-read rest held (held old + 1) (λ more. rest old behind (Took t) more) (λ more. behind_number operation kind n (Took t ∷ more)) (behind ++ Took t ∷ []) new (told new answer)
    (λ more. rw s (ap (λ r. next r (behind_number operation kind)) ((k behind).1 more) ∙ ap (λ (items : List Item). behind_number operation kind n (items ++ more)) (one-kept back t e)))
    (read-one rest held (held old) (λ more. behind_number operation kind n (Took t ∷ more)) behind t new (told new answer) (rw f at later))
number-ends-before old new scan kind operation t n m back (Err error) s k e f later = tt
