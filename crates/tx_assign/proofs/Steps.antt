-- Steps of the scan of an assignment.
use Rattle.std.proofs.Common.{◌≡◌, ◌≤◌, ◌+◌, ℕ, zero, suc, ℤ, true, false, List, [], ◌∷◌, ◌++◌, length, Option, Some, Result, Ok, Err, IfOk, refl, ap, sym, ◌∙◌, arith}
use Rattle.tx_seen.specs.declared.place.Place.{Place}
use Rattle.tx_seen.specs.declared.seen.Seen.{Seen}
use Rattle.tx_seen.specs.declared.item.Item.{Item}
use Rattle.tx_seen.specs.declared.item.Item.TheVariants.{Took, Gave}
use Rattle.tx_seen.specs.declared.fed.Fed.{Fed}
use Rattle.tx_seen.specs.declared.fed.Fed.TheVariants as fed
use Rattle.tx_prim.specs.declared.family.Numbered.{Numbered}
use Rattle.tx_prim.specs.declared.family.Operation.{Operation}
use Rattle.tx_seen.specs.Places.{is_muglue, place_of}
use Rattle.tx_seen.specs.Seen.{is_undefined}
use Rattle.tx_seen.specs.Readings.{Answers, Reading, Done, next, ending, last}
use Rattle.tx_scan.specs.declared.scans.IntScan.{IntScan}
use Rattle.tx_scan.specs.declared.scans.DimenScan.{DimenScan}
use Rattle.tx_scan.specs.declared.scans.GlueScan.{GlueScan}
use Rattle.tx_seen.specs.declared.fed.Value.{Value}
use Rattle.tx_scan.specs.Rests.{IsGivenBy, IsRead, kept}
use Rattle.tx_scan.specs.Integers.{integer, byte_of}
use Rattle.tx_scan.specs.Dimensions.{dimension, lengths}
use Rattle.tx_scan.specs.IntegerRests as integers
use Rattle.tx_scan.specs.DimensionRests as sizes
use Rattle.tx_scan.specs.Glues.{glue}
use Rattle.tx_scan.specs.GlueRests as glues
use Rattle.tx_scan.proofs.Answering.{answer-part, ending-all, fed-answers, fed-part, same-answer}
use Rattle.tx_scan.proofs.Behind.{behind-answers, given-behind, read-one}
use Rattle.tx_scan.proofs.Mappings.{same-read}
use Rattle.tx_assign.specs.declared.scan.AssignScan.{AssignScan}
use Rattle.tx_assign.specs.declared.scan.AssignStage.{AssignStage}
use Rattle.tx_assign.specs.declared.scan.AssignStage.TheVariants as stage
use Rattle.tx_assign.specs.declared.types.Assigning.{Assigning}
use Rattle.tx_assign.specs.declared.types.Assignment.{Assignment}
use Rattle.tx_assign.specs.declared.types.Purpose.{Purpose}
use Rattle.tx_assign.specs.declared.types.Variable.{Variable}
use Rattle.tx_assign.specs.declared.types.Variable.TheVariants.{Standing}
use Rattle.tx_assign.specs.Beginnings.{variable_of, is_changeable}
use Rattle.tx_assign.specs.Targets.{takes_glue, takes_list, takes_size}
use Rattle.tx_assign.specs.Assignments.{arithmetic, assignment, behind_number, behind_place, elastic, left_side, list_value, number_value, sized, value, valued}
use Rattle.tx_assign.specs.Rests.{rest, held, made, told, HasTaken, IsAssigning, IsBehind, IsFed, IsGiven, IsSeldom}

-- what a stage reads of a token is what reading on gives
pub fed-at : {E : Type 0} (few : ℕ) (reading : List Item → Reading Assignment) (old new : AssignScan) (t : Seen) (answer : Result (Fed (Unit {0})) E) → few ≤ 1 → ((behind more : List Item) → rest old behind (Took t) more ≡ reading more) → IfOk answer (IsAssigning few reading t new) → IfOk answer (IsFed old t new)
fed-at few reading old new t (Ok answer) h same k =
    fed-part rest held old new few t (told new answer) h (λ behind. same-answer rest held few (λ more. rest old behind (Took t) more) reading t new (told new answer) (same behind) k)
fed-at few reading old new t (Err e) h same k = tt

pub fed-at-all : {E : Type 0} (few : ℕ) (reading : List Item → List Item → Reading Assignment) (old new : AssignScan) (t : Seen) (answer : Result (Fed (Unit {0})) E) → few ≤ 1 → ((behind more : List Item) → rest old behind (Took t) more ≡ reading behind more) → IfOk answer (λ a. (behind : List Item) → IsAssigning few (reading behind) t new a) → IfOk answer (IsFed old t new)
fed-at-all few reading old new t (Ok answer) h same k =
    fed-part rest held old new few t (told new answer) h (λ behind. same-answer rest held few (λ more. rest old behind (Took t) more) (reading behind) t new (told new answer) (same behind) (k behind))
fed-at-all few reading old new t (Err e) h same k = tt

pub fed-behind : {E : Type 0} (reading : List Item → Reading Assignment) (old new : AssignScan) (t : Seen) (answer : Result (Fed (Unit {0})) E) → ((behind more : List Item) → rest old behind (Took t) more ≡ reading more) → IfOk answer (IsBehind reading t new) → IfOk answer (IsFed old t new)
fed-behind reading old new t (Ok answer) same k = λ behind h.
    same-read rest held (held old + 1) (λ more. rest old behind (Took t) more) reading (behind ++ Took t ∷ []) new (told new answer) (same behind) (read-one rest held (held old) reading behind t new (told new answer) k)
fed-behind reading old new t (Err e) same k = tt

-- an answer that says so of this token
pub to-behind : (few : ℕ) (reading : List Item → Reading Assignment) (t : Seen) (new : AssignScan) (answer : Fed (Unit {0})) → few ≤ 1 → IsAssigning few reading t new answer → IsBehind reading t new answer
to-behind few reading t new answer h k = answer-part rest held few 0 reading [] t new (told new answer) h k

pub same-behind : {E : Type 0} (reading other : List Item → Reading Assignment) (t : Seen) (new : AssignScan) (answer : Result (Fed (Unit {0})) E) → ((more : List Item) → reading more ≡ other more) → IfOk answer (IsBehind other t new) → IfOk answer (IsBehind reading t new)
same-behind reading other t new (Ok answer) same k = same-read rest held 1 reading other (Took t ∷ []) new (told new answer) same k
same-behind reading other t new (Err e) same k = tt

-- where nothing is held or given back
none-kept : (n : ℕ) (t : Seen) → n ≤ 0 → kept n t ≡ ending n []
none-kept zero t h = refl
none-kept (suc n) t h = absurd (omega (arith, h))

pub to-none : (reading : List Item → Reading Assignment) (t : Seen) (new : AssignScan) (answer : Fed (Unit {0})) → IsAssigning 0 reading t new answer → IsRead rest held 0 reading [] new (told new answer)
to-none reading t new (fed.More want) k =
    (k.0, omega (arith, k.1), λ item more. k.2 item more ∙ ap (λ (items : List Item). rest new items item more) (sym (ending-all {A = Item} (held new) [] (omega arith))))
to-none reading t new (fed.Need kind) k =
    (k.0, k.1, λ item more. k.2 item more ∙ ap (λ (items : List Item). rest new items item more) (none-kept (held new) t k.1))
to-none reading t new (fed.Done value back) k =
    (k.0, λ more. k.1 more ∙ ap (λ (items : List Item). Done (made new) (items ++ more)) (none-kept back t k.0))
to-none reading t new (fed.Wrong error) k = k

-- a value by its kind
value-glue : (purpose : Purpose) (p : Place) (items : List Item) → takes_glue purpose p ≡ true → number_value purpose p items ≡ next (glue (is_muglue p) items) (elastic purpose p)
value-glue purpose p items e = rw e refl

value-size : (purpose : Purpose) (p : Place) (items : List Item) → takes_glue purpose p ≡ false → takes_size purpose p ≡ true → number_value purpose p items ≡ next (dimension lengths items) (sized purpose p)
value-size purpose p items g e = rw (g, e) refl

value-integer : (purpose : Purpose) (p : Place) (items : List Item) → takes_glue purpose p ≡ false → takes_size purpose p ≡ false → number_value purpose p items ≡ next (integer items) (valued purpose p)
value-integer purpose p items g e = rw (g, e) refl

pub value-number : (purpose : Purpose) (p : Place) (t : Seen) (new : AssignScan) (answer : Fed (Unit {0})) → takes_list purpose p ≡ false → IsAssigning 0 (λ more. number_value purpose p more) t new answer → IsAssigning 0 (λ more. value purpose p more) t new answer
value-number purpose p t new answer e k =
    same-answer rest held 0 (λ more. value purpose p more) (λ more. number_value purpose p more) t new (told new answer) (λ more. rw e refl) k

pub value-listed : (purpose : Purpose) (p : Place) (t : Seen) (new : AssignScan) (answer : Fed (Unit {0})) → takes_list purpose p ≡ true → IsAssigning 0 (λ more. list_value p (Took t ∷ more)) t new answer → IsBehind (λ more. value purpose p (Took t ∷ more)) t new answer
value-listed purpose p t new answer e k =
    same-read rest held 1 (λ more. value purpose p (Took t ∷ more)) (λ more. list_value p (Took t ∷ more)) (Took t ∷ []) new (told new answer) (λ more. rw e refl)
    (to-behind 0 (λ more. list_value p (Took t ∷ more)) t new answer (omega arith) k)

pub value-numbered : {E : Type 0} (purpose : Purpose) (p : Place) (t : Seen) (new : AssignScan) (answer : Result (Fed (Unit {0})) E) → takes_list purpose p ≡ false → IfOk answer (IsBehind (λ more. number_value purpose p (Took t ∷ more)) t new) → IfOk answer (IsBehind (λ more. value purpose p (Took t ∷ more)) t new)
value-numbered purpose p t new answer e k = same-behind (λ more. value purpose p (Took t ∷ more)) (λ more. number_value purpose p (Took t ∷ more)) t new answer (λ more. rw e refl) k

-- the place of a number
pub number-placed : (operation : Option Operation) (kind : Numbered) (n : ℤ) (b : ℕ) (p : Place) (t : Seen) (new : AssignScan) (answer : Fed (Unit {0})) → byte_of n ≡ Some b → p ≡ place_of kind b → IsAssigning 0 (λ more. behind_place operation p more) t new answer → IsAssigning 0 (λ more. behind_number operation kind n more) t new answer
number-placed operation kind n b p t new answer e f k = rw e (rw f at k)

pub number-placed-before : {E : Type 0} (operation : Option Operation) (kind : Numbered) (n : ℤ) (b : ℕ) (p : Place) (t : Seen) (new : AssignScan) (answer : Result (Fed (Unit {0})) E) → byte_of n ≡ Some b → p ≡ place_of kind b → IfOk answer (IsBehind (λ more. behind_place operation p (Took t ∷ more)) t new) → IfOk answer (IsBehind (λ more. behind_number operation kind n (Took t ∷ more)) t new)
number-placed-before operation kind n b p t new answer e f k = rw e (rw f at k)

pub side-placed : (operation : Operation) (side : Variable) (p q : Place) (t : Seen) (new : AssignScan) (answer : Fed (Unit {0})) → side ≡ Standing p → q ≡ p → IsAssigning 0 (λ more. behind_place (Some operation) q more) t new answer → IsAssigning 0 (λ more. left_side (Some operation) side more) t new answer
side-placed operation side p q t new answer e f k = rw e (rw f at k)

-- the value by a scan of which nothing is read
pub value-by-glue : {E : Type 0} (purpose : Purpose) (p : Place) (scan : GlueScan) (t : Seen) (new : AssignScan) (answer : Result (Fed (Unit {0})) E) → takes_glue purpose p ≡ true → scan ≡ glues.begun_glue (is_muglue p) → IfOk answer (λ a. (behind : List Item) → length behind ≤ glues.held scan → IsRead rest held (glues.held scan + 1) (λ more. next (glues.rest scan behind (Took t) more) (elastic purpose p)) (behind ++ Took t ∷ []) new (told new a)) → IfOk answer (IsBehind (λ more. number_value purpose p (Took t ∷ more)) t new)
value-by-glue purpose p scan t new (Ok answer) e b k =
    same-read rest held 1 (λ more. number_value purpose p (Took t ∷ more)) (λ more. next (glue (is_muglue p) (Took t ∷ more)) (elastic purpose p)) (Took t ∷ []) new (told new answer) (λ more. value-glue purpose p (Took t ∷ more) e) ((rw b at k) [] (omega arith))
value-by-glue purpose p scan t new (Err error) e b k = tt

pub value-by-size : {E : Type 0} (purpose : Purpose) (p : Place) (scan : DimenScan) (t : Seen) (new : AssignScan) (answer : Result (Fed (Unit {0})) E) → takes_glue purpose p ≡ false → takes_size purpose p ≡ true → scan ≡ sizes.begun_size lengths → IfOk answer (λ a. (behind : List Item) → IsAssigning (sizes.most scan) (λ more. next (sizes.rest scan behind (Took t) more) (sized purpose p)) t new a) → IfOk answer (IsBehind (λ more. number_value purpose p (Took t ∷ more)) t new)
value-by-size purpose p scan t new (Ok answer) g e b k =
    same-read rest held 1 (λ more. number_value purpose p (Took t ∷ more)) (λ more. next (dimension lengths (Took t ∷ more)) (sized purpose p)) (Took t ∷ []) new (told new answer) (λ more. value-size purpose p (Took t ∷ more) g e)
    (to-behind 0 (λ more. next (dimension lengths (Took t ∷ more)) (sized purpose p)) t new answer (omega arith) ((rw b at k) []))
value-by-size purpose p scan t new (Err error) g e b k = tt

pub value-by-integer : {E : Type 0} (purpose : Purpose) (p : Place) (scan : IntScan) (t : Seen) (new : AssignScan) (answer : Result (Fed (Unit {0})) E) → takes_glue purpose p ≡ false → takes_size purpose p ≡ false → scan ≡ integers.begun_integer → IfOk answer (λ a. (behind : List Item) → IsAssigning (integers.most scan) (λ more. next (integers.rest scan behind (Took t) more) (valued purpose p)) t new a) → IfOk answer (IsBehind (λ more. number_value purpose p (Took t ∷ more)) t new)
value-by-integer purpose p scan t new (Ok answer) g e b k =
    same-read rest held 1 (λ more. number_value purpose p (Took t ∷ more)) (λ more. next (integer (Took t ∷ more)) (valued purpose p)) (Took t ∷ []) new (told new answer) (λ more. value-integer purpose p (Took t ∷ more) g e)
    (to-behind 0 (λ more. next (integer (Took t ∷ more)) (valued purpose p)) t new answer (omega arith) ((rw b at k) []))
value-by-integer purpose p scan t new (Err error) g e b k = tt

-- what \advance changes
pub operand-side : (operation : Operation) (side : Variable) (t : Seen) (new : AssignScan) (answer : Fed (Unit {0})) → is_undefined t ≡ false → variable_of t.meaning ≡ Some side → is_changeable side ≡ true → IsAssigning 0 (λ more. left_side (Some operation) side more) t new answer → IsAssigning 0 (λ more. arithmetic operation (Took t ∷ more)) t new answer
operand-side operation side t new answer u v h k =
    same-answer rest held 0 (λ more. arithmetic operation (Took t ∷ more)) (λ more. left_side (Some operation) side more) t new (told new answer) (λ more. rw (u, v, h) refl) k

-- a value that is given behind one token at most
pub given-behind-ok : {E : Type 0} (old new : AssignScan) (v : Value) (t : Seen) (answer : Result (Fed (Unit {0})) E) → held old ≤ 1 → IfOk answer (λ a. IsGivenBy rest held old v new (told new a)) → IfOk answer (IsGiven old v t new)
given-behind-ok old new v t (Ok answer) h k = given-behind rest held old new v t (told new answer) h k
given-behind-ok old new v t (Err e) h k = tt

-- the answer, with what the scan has made, is what reading gives of all that was taken
pub took-answers : {E : Type 0} (assigning : Assigning) (old new : AssignScan) (taken : List Item) (t : Seen) (answer : Result (Fed (Unit {0})) E) → HasTaken assigning old taken → IfOk answer (IsFed old t new) → IfOk answer (λ fed. Answers (assignment assigning) (HasTaken assigning) (taken ++ Took t ∷ []) new (told new fed))
took-answers assigning old new taken t (Ok answer) h k = fed-answers rest held (assignment assigning) old new taken t (told new answer) h k
took-answers assigning old new taken t (Err e) h k = tt

pub gave-answers : {E : Type 0} (assigning : Assigning) (old new : AssignScan) (taken : List Item) (v : Value) (t : Seen) (answer : Result (Fed (Unit {0})) E) → HasTaken assigning old taken → held old ≤ 1 → last 1 taken ≡ Took t ∷ [] → IfOk answer (IsGiven old v t new) → IfOk answer (λ fed. Answers (assignment assigning) (HasTaken assigning) (taken ++ Gave v ∷ []) new (told new fed))
gave-answers assigning old new taken v t (Ok answer) h few l k = behind-answers rest held (assignment assigning) old new taken v t (told new answer) h few l k
gave-answers assigning old new taken v t (Err e) h few l k = tt

-- a stage that few tokens meet
pub seldom : (s : AssignStage) → ((kind : Numbered) (operation : Option Operation) → s ≡ stage.Number kind operation → ⊥) → ((purpose : Purpose) → s ≡ stage.Equals purpose → ⊥) → ((purpose : Purpose) → s ≡ stage.Integer purpose → ⊥) → IsSeldom s
seldom (stage.Number kind operation) n e i = n kind operation refl
seldom (stage.Equals purpose) n e i = e purpose refl
seldom (stage.Integer purpose) n e i = i purpose refl
seldom _ n e i = tt
