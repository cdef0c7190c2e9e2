-- The values that numbers in an assignment wait for.
use Rattle.std.proofs.Common.{◌≡◌, ◌≤◌, ◌+◌, ℕ, zero, suc, ℤ, List, [], ◌∷◌, ◌++◌, length, Option, Result, Ok, Err, IfOk, refl, ap, sym, ◌∙◌, arith}
use Rattle.tx_prim.specs.declared.family.Numbered.{Numbered}
use Rattle.tx_prim.specs.declared.family.Operation.{Operation}
use Rattle.tx_seen.specs.declared.error.TexError.{TexError}
use Rattle.tx_seen.specs.declared.seen.Seen.{Seen}
use Rattle.tx_seen.specs.declared.item.Item.{Item}
use Rattle.tx_seen.specs.declared.item.Item.TheVariants.{Took, Gave}
use Rattle.tx_seen.specs.declared.fed.Kind.{Kind}
use Rattle.tx_seen.specs.declared.fed.Value.{Value}
use Rattle.tx_seen.specs.declared.fed.Want.{Want}
use Rattle.tx_seen.specs.declared.fed.Fed.{Fed}
use Rattle.tx_seen.specs.declared.fed.Fed.TheVariants as fed
use Rattle.tx_num.specs.Glue.{GlueSpec}
use Rattle.tx_seen.specs.declared.place.Place.{Place}
use Rattle.tx_seen.specs.Readings.{Reading, Done, ending, next}
use Rattle.tx_scan.specs.declared.scans.IntScan.{IntScan}
use Rattle.tx_scan.specs.Rests.{IsEnd, IsFedBy, IsGivenBy, IsPassed, IsRead, kept}
use Rattle.tx_scan.specs.IntegerRests as integers
use Rattle.tx_scan.specs.declared.scans.GlueScan.{GlueScan}
use Rattle.tx_scan.specs.GlueRests as glues
use Rattle.tx_scan.proofs.Answering.{same-passed}
use Rattle.tx_scan.proofs.Behind.{length-kept}
use Rattle.tx_scan.proofs.Mappings.{mapped-read, read-none, same-read}
use Rattle.tx_assign.specs.declared.scan.AssignScan.{AssignScan}
use Rattle.tx_assign.specs.declared.scan.AssignStage.TheVariants as stage
use Rattle.tx_assign.specs.declared.types.Assignment.{Assignment}
use Rattle.tx_scan.specs.declared.scans.DimenScan.{DimenScan}
use Rattle.tx_scan.specs.declared.scans.Measure.{Measure}
use Rattle.tx_scan.specs.DimensionRests as sizes
use Rattle.tx_assign.specs.declared.types.Purpose.{Purpose}
use Rattle.tx_assign.specs.Assignments.{behind_number, elastic, sized, valued}
use Rattle.tx_assign.specs.Targets.{change_by_glue}
use Rattle.tx_assign.specs.Rests.{rest, held, told, IsAssigning, IsBehind, IsFed, IsGiven}
use Rattle.tx_assign.proofs.Steps.{to-none}

-- the assignment of glue
abbrev glued : Purpose → Place → GlueSpec → Assignment
glued purpose place g = record { place = place; change = change_by_glue purpose g }

one-held : (back held : ℕ) → (back ≡ 0 → ⊥) → back ≡ held → held ≤ 1 → held ≡ 1
one-held zero held some same few = absurd (some refl)
one-held (suc back) held some same few = omega (arith, same, few)

-- the value that the number of a register waits for
pub number-more : (old : AssignScan) (scan : IntScan) (kind : Numbered) (operation : Option Operation) (v : Value) (want : Want) → old.stage ≡ stage.Number kind operation → integers.IsGiven old.integer v scan (fed.More want) → IsGivenBy rest held old v (record old { integer = scan }) (fed.More want)
number-more old scan kind operation v want s k = λ behind short. rw s (
  ap (λ r. next r (behind_number operation kind)) (k behind (rw s at short)).0,
  (k behind (rw s at short)).1,
  λ item more. ap (λ r. next r (behind_number operation kind)) ((k behind (rw s at short)).2 item more),
)

pub number-need : (old : AssignScan) (scan : IntScan) (kind : Numbered) (operation : Option Operation) (v : Value) (wanted : Kind) → old.stage ≡ stage.Number kind operation → integers.IsGiven old.integer v scan (fed.Need wanted) → IsGivenBy rest held old v (record old { integer = scan }) (fed.Need wanted)
number-need old scan kind operation v wanted s k = λ behind short. rw s (
  ap (λ r. next r (behind_number operation kind)) (k behind (rw s at short)).0,
  (k behind (rw s at short)).1,
  λ item more. ap (λ r. next r (behind_number operation kind)) ((k behind (rw s at short)).2 item more),
)

pub number-wrong : (old new : AssignScan) (scan : IntScan) (kind : Numbered) (operation : Option Operation) (v : Value) (error : TexError) → old.stage ≡ stage.Number kind operation → integers.IsGiven old.integer v scan (fed.Wrong error) → IsGivenBy rest held old v new (fed.Wrong error)
number-wrong old new scan kind operation v error s k = λ behind short more. rw s (ap (λ r. next r (behind_number operation kind)) (k behind (rw s at short) more))

pub number-ends : (old new : AssignScan) (scan : IntScan) (kind : Numbered) (operation : Option Operation) (v : Value) (t : Seen) (n m : ℤ) (back : ℕ) (answer : Fed (Unit {0})) → old.stage ≡ stage.Number kind operation → integers.IsGiven old.integer v scan (fed.Done n back) → back ≡ 0 → m ≡ n → ((t : Seen) → IsAssigning 0 (λ more. behind_number operation kind m more) t new answer) → IsGiven old v t new answer
number-ends old new scan kind operation v t n m back answer s k none f later =
    let same : back ≡ integers.held old.integer = (k [] (omega arith)).0 in
    let zero_held : integers.held old.integer ≡ 0 = sym same ∙ none in
    rw s
    (same-read rest held (integers.held old.integer) (λ more. next (integers.rest old.integer (kept (integers.held old.integer) t) (Gave v) more) (behind_number operation kind)) (λ more. behind_number operation kind n more) (kept (integers.held old.integer) t) new (told new answer)
    (λ more. ap (λ r. next r (behind_number operation kind)) ((k (kept (integers.held old.integer) t) (length-kept (integers.held old.integer) t)).1 more) ∙ ap (λ (i : ℕ). behind_number operation kind n (kept i t ++ more)) zero_held)
    (read-none rest held (integers.held old.integer) (λ more. behind_number operation kind n more) (kept (integers.held old.integer) t) new (told new answer)
    (to-none (λ more. behind_number operation kind n more) t new answer (rw f at (later t)))))

pub number-ends-before : {E : Type 0} (old new : AssignScan) (scan : IntScan) (kind : Numbered) (operation : Option Operation) (v : Value) (t : Seen) (n m : ℤ) (back : ℕ) (answer : Result (Fed (Unit {0})) E) → old.stage ≡ stage.Number kind operation → integers.IsGiven old.integer v scan (fed.Done n back) → (back ≡ 0 → ⊥) → m ≡ n → held old ≤ 1 → IfOk answer (IsBehind (λ more. behind_number operation kind m (Took t ∷ more)) t new) → IfOk answer (IsGiven old v t new)
number-ends-before old new scan kind operation v t n m back (Ok answer) s k some f few later =
    let short : integers.held old.integer ≤ 1 = rw s at few in
    let same : back ≡ integers.held old.integer = (k [] (omega arith)).0 in
    let one : integers.held old.integer ≡ 1 = one-held back (integers.held old.integer) some same short in
    rw (s, one)
    (same-read rest held 1 (λ more. next (integers.rest old.integer (Took t ∷ []) (Gave v) more) (behind_number operation kind)) (λ more. behind_number operation kind n (Took t ∷ more)) (Took t ∷ []) new (told new answer)
    (λ more. ap (λ r. next r (behind_number operation kind)) ((k (Took t ∷ []) (rw one (omega arith))).1 more))
    (rw f at later))
number-ends-before old new scan kind operation v t n m back (Err error) s k some f few later = tt

-- the value that a size waits for
pub size-more : (old : AssignScan) (scan : DimenScan) (purpose : Purpose) (v : Value) (want : Want) → old.stage ≡ stage.Size purpose → IsGivenBy sizes.rest sizes.held old.size v scan (fed.More want) → IsGivenBy rest held old v (record old { size = scan }) (fed.More want)
size-more old scan purpose v want s k = λ behind short. rw s (
  ap (λ r. next r (sized purpose old.place)) (k behind (rw s at short)).0,
  (k behind (rw s at short)).1,
  λ item more. ap (λ r. next r (sized purpose old.place)) ((k behind (rw s at short)).2 item more),
)

pub size-need : (old : AssignScan) (scan : DimenScan) (purpose : Purpose) (v : Value) (kind : Kind) → old.stage ≡ stage.Size purpose → IsGivenBy sizes.rest sizes.held old.size v scan (fed.Need kind) → IsGivenBy rest held old v (record old { size = scan }) (fed.Need kind)
size-need old scan purpose v kind s k = λ behind short. rw s (
  ap (λ r. next r (sized purpose old.place)) (k behind (rw s at short)).0,
  (k behind (rw s at short)).1,
  λ item more. ap (λ r. next r (sized purpose old.place)) ((k behind (rw s at short)).2 item more),
)

pub size-wrong : (old new : AssignScan) (scan : DimenScan) (purpose : Purpose) (v : Value) (error : TexError) → old.stage ≡ stage.Size purpose → IsGivenBy sizes.rest sizes.held old.size v scan (fed.Wrong error) → IsGivenBy rest held old v new (fed.Wrong error)
size-wrong old new scan purpose v error s k = λ behind short more. rw s (ap (λ r. next r (sized purpose old.place)) (k behind (rw s at short) more))

-- an answer that ends a value, with the tokens behind it
end-passed : (reading : List Item → Reading Assignment) (behind : List Item) (back : ℕ) (new : AssignScan) (answer : Fed Assignment) → IsEnd reading back answer → IsPassed rest held (λ more. reading (behind ++ more)) behind back new answer
end-passed reading behind back new (fed.More want) k = absurd k
end-passed reading behind back new (fed.Need kind) k = absurd k
end-passed reading behind back new (fed.Done value count) k = (k.0, λ more. k.1 (behind ++ more))
end-passed reading behind back new (fed.Wrong error) k = λ more. k (behind ++ more)

pub size-done : (old new : AssignScan) (scan : DimenScan) (purpose : Purpose) (v : Value) (measure : Measure) (back : ℕ) (answer : Fed (Unit {0})) → old.stage ≡ stage.Size purpose → IsGivenBy sizes.rest sizes.held old.size v scan (fed.Done measure back) → IsEnd (λ more. sized purpose old.place measure more) back (told new answer) → IsGivenBy rest held old v new (told new answer)
size-done old new scan purpose v measure back answer s k e = λ behind short.
    same-passed rest held (λ more. rest old behind (Gave v) more) (λ more. sized purpose old.place measure (behind ++ more)) behind (held old) back new (told new answer)
    (λ more. rw s (ap (λ r. next r (sized purpose old.place)) ((k behind (rw s at short)).1 more))) (rw s (sym (k behind (rw s at short)).0))
    (end-passed (sized purpose old.place measure) behind back new (told new answer) e)

-- the value that a number waits for that is assigned
pub integer-done : (old new : AssignScan) (scan : IntScan) (purpose : Purpose) (v : Value) (n m : ℤ) (back : ℕ) (answer : Fed (Unit {0})) → old.stage ≡ stage.Integer purpose → integers.IsGiven old.integer v scan (fed.Done n back) → m ≡ n → IsEnd (λ more. valued purpose old.place m more) back (told new answer) → IsGivenBy rest held old v new (told new answer)
integer-done old new scan purpose v n m back answer s k f e = λ behind short.
    same-passed rest held (λ more. rest old behind (Gave v) more) (λ more. valued purpose old.place n (behind ++ more)) behind (held old) back new (told new answer)
    (λ more. rw s (ap (λ r. next r (valued purpose old.place)) ((k behind (rw s at short)).1 more))) (rw s (sym (k behind (rw s at short)).0))
    (end-passed (valued purpose old.place n) behind back new (told new answer) (rw f at e))

-- glue, of whatever is read
pub glue-more : (old : AssignScan) (scan : GlueScan) (purpose : Purpose) (most : ℕ) (reading : List Item → Reading GlueSpec) (tokens : List Item) (want : Want) → IsRead glues.rest glues.held most reading tokens scan (fed.More want) → IsRead rest held most (λ more. next (reading more) (elastic purpose old.place)) tokens (record old { stage = stage.Glue purpose; glue = scan }) (fed.More want)
glue-more old scan purpose most reading tokens want k =
    mapped-read glues.rest glues.held rest held (glued purpose old.place) most reading tokens scan (record old { stage = stage.Glue purpose; glue = scan }) (fed.More want) (λ behind item more. refl) refl k

pub glue-need : (old : AssignScan) (scan : GlueScan) (purpose : Purpose) (most : ℕ) (reading : List Item → Reading GlueSpec) (tokens : List Item) (kind : Kind) → IsRead glues.rest glues.held most reading tokens scan (fed.Need kind) → IsRead rest held most (λ more. next (reading more) (elastic purpose old.place)) tokens (record old { stage = stage.Glue purpose; glue = scan }) (fed.Need kind)
glue-need old scan purpose most reading tokens kind k =
    mapped-read glues.rest glues.held rest held (glued purpose old.place) most reading tokens scan (record old { stage = stage.Glue purpose; glue = scan }) (fed.Need kind) (λ behind item more. refl) refl k

pub glue-wrong : (new : AssignScan) (scan : GlueScan) (purpose : Purpose) (p : Place) (most : ℕ) (reading : List Item → Reading GlueSpec) (tokens : List Item) (error : TexError) → IsRead glues.rest glues.held most reading tokens scan (fed.Wrong error) → IsRead rest held most (λ more. next (reading more) (elastic purpose p)) tokens new (fed.Wrong error)
glue-wrong new scan purpose p most reading tokens error k = λ more. ap (λ r. next r (elastic purpose p)) (k more)

end-read : (reading other : List Item → Reading Assignment) (most : ℕ) (tokens : List Item) (back : ℕ) (new : AssignScan) (answer : Fed Assignment) → back ≤ most → ((more : List Item) → reading more ≡ other (ending back tokens ++ more)) → IsEnd other back answer → IsRead rest held most reading tokens new answer
end-read reading other most tokens back new (fed.More want) h same k = absurd k
end-read reading other most tokens back new (fed.Need kind) h same k = absurd k
end-read reading other most tokens back new (fed.Done value count) h same k =
    (omega (arith, h, k.0), λ more. same more ∙ (k.1 (ending back tokens ++ more) ∙ ap (λ (n : ℕ). Done value (ending n tokens ++ more)) (sym k.0)))
end-read reading other most tokens back new (fed.Wrong error) h same k = λ more. same more ∙ k (ending back tokens ++ more)

pub glue-done : (new : AssignScan) (scan : GlueScan) (purpose : Purpose) (p : Place) (most : ℕ) (reading : List Item → Reading GlueSpec) (tokens : List Item) (g : GlueSpec) (back : ℕ) (answer : Fed (Unit {0})) → IsRead glues.rest glues.held most reading tokens scan (fed.Done g back) → IsEnd (λ more. elastic purpose p g more) back (told new answer) → IsRead rest held most (λ more. next (reading more) (elastic purpose p)) tokens new (told new answer)
glue-done new scan purpose p most reading tokens g back answer k e =
    end-read (λ more. next (reading more) (elastic purpose p)) (λ more. elastic purpose p g more) most tokens back new (told new answer) k.0 (λ more. ap (λ r. next r (elastic purpose p)) (k.1 more)) e

pub glue-ends : (new : AssignScan) (old scan : GlueScan) (purpose : Purpose) (p : Place) (t : Seen) (g : GlueSpec) (back : ℕ) (answer : Fed (Unit {0})) → IsFedBy glues.rest glues.held old t scan (fed.Done g back) → IsEnd (λ more. elastic purpose p g more) back (told new answer) → (behind : List Item) → length behind ≤ glues.held old → IsRead rest held (glues.held old + 1) (λ more. next (glues.rest old behind (Took t) more) (elastic purpose p)) (behind ++ Took t ∷ []) new (told new answer)
glue-ends new old scan purpose p t g back answer k e = λ behind h.
    glue-done new scan purpose p (glues.held old + 1) (λ more. glues.rest old behind (Took t) more) (behind ++ Took t ∷ []) g back answer (k behind h) e

pub glue-fed : {E : Type 0} (old new : AssignScan) (purpose : Purpose) (t : Seen) (answer : Result (Fed (Unit {0})) E) → old.stage ≡ stage.Glue purpose → IfOk answer (λ a. (behind : List Item) → length behind ≤ glues.held old.glue → IsRead rest held (glues.held old.glue + 1) (λ more. next (glues.rest old.glue behind (Took t) more) (elastic purpose old.place)) (behind ++ Took t ∷ []) new (told new a)) → IfOk answer (IsFed old t new)
glue-fed old new purpose t (Ok answer) s k = λ behind h. rw s (k behind (rw s at h))
glue-fed old new purpose t (Err error) s k = tt
