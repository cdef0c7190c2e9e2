-- A rule, part by part.
use Rattle.std.proofs.Common.{◌≡◌, ◌≤◌, ◌<◌, ◌+◌, ℕ, zero, suc, true, false, Some, List, [], ◌∷◌, ◌++◌, length, refl, ap, sym, subst, ◌∙◌, arith}
use Rattle.tx_node.specs.declared.rule.Rule.{Rule}
use Rattle.tx_seen.specs.declared.fed.Fed.{Fed}
use Rattle.tx_seen.specs.declared.fed.Fed.TheVariants as fed
use Rattle.tx_seen.specs.declared.fed.Kind.{Kind}
use Rattle.tx_seen.specs.declared.fed.Value.{Value}
use Rattle.tx_seen.specs.declared.fed.Want.{Want}
use Rattle.tx_seen.specs.declared.fed.Want.TheVariants.{Expanded}
use Rattle.tx_seen.specs.declared.error.TexError.{TexError}
use Rattle.tx_seen.specs.declared.item.Item.{Item}
use Rattle.tx_seen.specs.declared.item.Item.TheVariants.{Took, Gave}
use Rattle.tx_seen.specs.declared.seen.Seen.{Seen}
use Rattle.tx_seen.specs.Seen.{is_undefined, is_space}
use Rattle.tx_seen.specs.Readings.{Reading, Done, next, ending}
use Rattle.tx_scan.specs.declared.scans.Measure.{Measure}
use Rattle.tx_scan.specs.declared.scans.DimenScan.{DimenScan}
use Rattle.tx_scan.specs.declared.scans.KeyScan.{KeyScan}
use Rattle.tx_scan.specs.Rests.{IsRead, IsFedBy, IsGivenBy, kept, IsGivenBehind}
use Rattle.tx_scan.specs.DimensionRests as dimens
use Rattle.tx_scan.specs.DimensionRests.{rest as dimen_rest, held as dimen_held}
use Rattle.tx_scan.specs.Supplied.{NeedsFewer, NeedsNoMore}
use Rattle.tx_scan.specs.Keywords.{begun_word}
use Rattle.tx_rule.specs.declared.scans.Side.{Side}
use Rattle.tx_rule.specs.declared.scans.Side.TheVariants as side
use Rattle.tx_rule.specs.declared.scans.RulePart.TheVariants as rule
use Rattle.tx_rule.specs.declared.scans.RuleScan.{RuleScan}
use Rattle.tx_rule.specs.Rules.{letters_of, side_begun_by, side_or_none, named_side, side_named, side_or_end, with_side, rule_sides}
use Rattle.tx_rule.specs.Rests.{rule_part_rest, rule_part_held, rule_rest, rule_held, rule_needed, IsNameFed, IsRuleFed}
use Rattle.tx_scan.proofs.Mappings.{same-read}
use Rattle.tx_scan.proofs.Mosts.{most-size}
use Rattle.tx_scan.proofs.Behind.{given-behind, length-kept, read-one}
use Rattle.tx_rule.proofs.Sides.{rule-sides}

-- what stands behind the size of a side
abbrev pub behind_size : Rule → Side → Measure → List Item → Reading Rule
behind_size r side measure rest = rule_sides (with_side r side measure.size) rest

-- a size goes on
pub size-more : (old : RuleScan) (scan : DimenScan) (side : Side) (t : Seen) (want : Want) → old.part ≡ rule.Size side → IsFedBy dimen_rest dimen_held old.size t scan (fed.More want) → IsFedBy rule_rest rule_held old t (record old { size = scan }) (fed.More want)
size-more old scan side t want part k = λ behind short. rw part (
  ap (λ r. next r (behind_size old.rule side)) (k behind (rw part at short)).0,
  (k behind (rw part at short)).1,
  λ item more. ap (λ r. next r (behind_size old.rule side)) ((k behind (rw part at short)).2 item more),
)

pub size-need : (old : RuleScan) (scan : DimenScan) (side : Side) (t : Seen) (kind : Kind) → old.part ≡ rule.Size side → IsFedBy dimen_rest dimen_held old.size t scan (fed.Need kind) → IsFedBy rule_rest rule_held old t (record old { size = scan }) (fed.Need kind)
size-need old scan side t kind part k = λ behind short. rw part (
  ap (λ r. next r (behind_size old.rule side)) (k behind (rw part at short)).0,
  (k behind (rw part at short)).1,
  λ item more. ap (λ r. next r (behind_size old.rule side)) ((k behind (rw part at short)).2 item more),
)

pub size-wrong : (old new : RuleScan) (scan : DimenScan) (side : Side) (t : Seen) (error : TexError) → old.part ≡ rule.Size side → IsFedBy dimen_rest dimen_held old.size t scan (fed.Wrong error) → IsFedBy rule_rest rule_held old t new (fed.Wrong error)
size-wrong old new scan side t error part k = λ behind short more. rw part (ap (λ r. next r (behind_size old.rule side)) (k behind (rw part at short) more))

-- a size that is whole, behind which another side may be named
whole-on : (behind : List Item) (new : RuleScan) (reading : List Item → Reading Rule) (most : ℕ) → new.part ≡ rule.Start → ((more : List Item) → reading more ≡ rule_sides new.rule more) → IsRead rule_rest rule_held most reading behind new (fed.More Expanded)
whole-on behind new reading most part all =
    (all [], rw part (omega arith), λ item more. all (item ∷ more) ∙ ap (λ p. rule_part_rest p new (ending (rule_part_held p new) behind) item more) (sym part))

pub size-whole : (old new : RuleScan) (scan : DimenScan) (side : Side) (measure : Measure) (t : Seen) (back : ℕ) → old.part ≡ rule.Size side → dimens.IsFed old.size t scan (fed.Done measure back) → back ≡ 0 → new.rule ≡ with_side old.rule side measure.size → new.part ≡ rule.Start → IsFedBy rule_rest rule_held old t new (fed.More Expanded)
size-whole old new scan side measure t back part k none same start = λ behind short.
    whole-on (behind ++ Took t ∷ []) new (λ more. rule_rest old behind (Took t) more) (rule_held old + 1) start
    (λ more.
    ap (λ p. rule_part_rest p old behind (Took t) more) part
    ∙ (ap (λ r. next r (behind_size old.rule side)) ((k behind).1 more)
    ∙ (ap (λ (n : ℕ). rule_sides (with_side old.rule side measure.size) (kept n t ++ more)) none
    ∙ ap (λ r. rule_sides r more) (sym same))))

one-kept : (back : ℕ) (t : Seen) → (back ≡ 0 → ⊥) → kept back t ≡ Took t ∷ []
one-kept zero t e = absurd (e refl)
one-kept (suc n) t e = refl

-- behind which this token stands
pub size-before : (old new : RuleScan) (scan : DimenScan) (side : Side) (measure : Measure) (t : Seen) (back : ℕ) (answer : Fed Rule) → old.part ≡ rule.Size side → dimens.IsFed old.size t scan (fed.Done measure back) → (back ≡ 0 → ⊥) → IsRead rule_rest rule_held 1 (λ more. rule_sides (with_side old.rule side measure.size) (Took t ∷ more)) (Took t ∷ []) new answer → IsFedBy rule_rest rule_held old t new answer
size-before old new scan side measure t back answer part k one later = λ behind short.
    same-read rule_rest rule_held (rule_held old + 1) (λ more. rule_rest old behind (Took t) more) (λ more. rule_sides (with_side old.rule side measure.size) (Took t ∷ more)) (behind ++ Took t ∷ []) new answer
    (λ more.
    ap (λ p. rule_part_rest p old behind (Took t) more) part
    ∙ (ap (λ r. next r (behind_size old.rule side)) ((k behind).1 more)
    ∙ ap (λ (items : List Item). rule_sides (with_side old.rule side measure.size) (items ++ more)) (one-kept back t one)))
    (read-one rule_rest rule_held (rule_held old) (λ more. rule_sides (with_side old.rule side measure.size) (Took t ∷ more)) behind t new answer later)

-- how many values it needs
pub size-needs-more : (old : RuleScan) (scan : DimenScan) (side : Side) (want : Want) → old.part ≡ rule.Size side → NeedsNoMore {A = Measure} (dimens.more_needed old.size) (dimens.more_needed scan) (fed.More want) → NeedsNoMore {A = Rule} (rule_needed old) (rule_needed (record old { size = scan })) (fed.More want)
size-needs-more old scan side want part k = rw part k

pub size-needs : (old : RuleScan) (scan : DimenScan) (side : Side) (kind : Kind) → old.part ≡ rule.Size side → NeedsNoMore {A = Measure} (dimens.more_needed old.size) (dimens.more_needed scan) (fed.Need kind) → NeedsNoMore {A = Rule} (rule_needed old) (rule_needed (record old { size = scan })) (fed.Need kind)
size-needs old scan side kind part k = rw part k

pub whole-needs : (old : ℕ) (new : RuleScan) (want : Want) → new.part ≡ rule.Start → NeedsNoMore {A = Rule} old (rule_needed new) (fed.More want)
whole-needs old new want start = rw start (omega arith)

pub size-waits : (old : RuleScan) (scan : DimenScan) (side : Side) (t : Seen) (kind : Kind) → old.part ≡ rule.Size side → dimens.IsFed old.size t scan (fed.Need kind) → IsRuleFed (record old { size = scan }) (fed.Need kind)
size-waits old scan side t kind part k =
    let few : dimens.most old.size ≤ 1 = most-size old.size in
    let held : dimen_held scan ≤ dimens.most old.size = (k []).1 in
    rw part (tt, omega (arith, few, held))

-- the value that a size waits for
pub given-more : (old : RuleScan) (scan : DimenScan) (side : Side) (v : Value) (t : Seen) (want : Want) → old.part ≡ rule.Size side → rule_held old ≤ 1 → IsGivenBy dimen_rest dimen_held old.size v scan (fed.More want) → IsGivenBehind rule_rest rule_held old v t (record old { size = scan }) (fed.More want)
given-more old scan side v t want part few k =
    let fits = given-behind dimen_rest dimen_held old.size scan v t (fed.More want) (rw part at few) k in
    rw part (ap (λ r. next r (behind_size old.rule side)) fits.0, fits.1, λ item more. ap (λ r. next r (behind_size old.rule side)) (fits.2 item more))

pub given-need : (old : RuleScan) (scan : DimenScan) (side : Side) (v : Value) (t : Seen) (kind : Kind) → old.part ≡ rule.Size side → rule_held old ≤ 1 → IsGivenBy dimen_rest dimen_held old.size v scan (fed.Need kind) → IsGivenBehind rule_rest rule_held old v t (record old { size = scan }) (fed.Need kind)
given-need old scan side v t kind part few k =
    let fits = given-behind dimen_rest dimen_held old.size scan v t (fed.Need kind) (rw part at few) k in
    rw part (ap (λ r. next r (behind_size old.rule side)) fits.0, fits.1, λ item more. ap (λ r. next r (behind_size old.rule side)) (fits.2 item more))

pub given-wrong : (old new : RuleScan) (scan : DimenScan) (side : Side) (v : Value) (t : Seen) (error : TexError) → old.part ≡ rule.Size side → rule_held old ≤ 1 → IsGivenBy dimen_rest dimen_held old.size v scan (fed.Wrong error) → IsGivenBehind rule_rest rule_held old v t new (fed.Wrong error)
given-wrong old new scan side v t error part few k =
    let fits = given-behind dimen_rest dimen_held old.size scan v t (fed.Wrong error) (rw part at few) k in
    rw part (λ more. ap (λ r. next r (behind_size old.rule side)) (fits more))

-- behind it nothing is held
pub given-whole : (old new : RuleScan) (scan : DimenScan) (side : Side) (measure : Measure) (v : Value) (t : Seen) (back : ℕ) → old.part ≡ rule.Size side → IsGivenBy dimen_rest dimen_held old.size v scan (fed.Done measure back) → back ≡ 0 → new.rule ≡ with_side old.rule side measure.size → new.part ≡ rule.Start → IsGivenBehind rule_rest rule_held old v t new (fed.More Expanded)
given-whole old new scan side measure v t back part k none same start =
    let fits = k (kept (dimen_held old.size) t) (length-kept (dimen_held old.size) t) in
    let held : dimen_held old.size ≡ 0 = sym fits.0 ∙ none in
    rw part
    (whole-on (kept (dimen_held old.size) t) new (λ more. next (dimen_rest old.size (kept (dimen_held old.size) t) (Gave v) more) (behind_size old.rule side)) (dimen_held old.size) start
    (λ more.
    ap (λ r. next r (behind_size old.rule side)) (fits.1 more)
    ∙ (ap (λ (n : ℕ). rule_sides (with_side old.rule side measure.size) (kept n t ++ more)) held
    ∙ ap (λ r. rule_sides r more) (sym same))))

-- or this token is
given-held : (n : ℕ) (old new : RuleScan) (side : Side) (measure : Measure) (v : Value) (t : Seen) (answer : Fed Rule) → n ≡ 1 → ((more : List Item) → dimen_rest old.size (kept n t) (Gave v) more ≡ Done measure (kept n t ++ more)) → IsRead rule_rest rule_held 1 (λ more. rule_sides (with_side old.rule side measure.size) (Took t ∷ more)) (Took t ∷ []) new answer → IsRead rule_rest rule_held n (λ more. next (dimen_rest old.size (kept n t) (Gave v) more) (behind_size old.rule side)) (kept n t) new answer
given-held zero old new side measure v t answer one whole later = absurd (omega (arith, one))
given-held (suc zero) old new side measure v t answer one whole later =
    same-read rule_rest rule_held 1 (λ more. next (dimen_rest old.size (Took t ∷ []) (Gave v) more) (behind_size old.rule side)) (λ more. rule_sides (with_side old.rule side measure.size) (Took t ∷ more)) (Took t ∷ []) new answer
    (λ more. ap (λ r. next r (behind_size old.rule side)) (whole more)) later
given-held (suc (suc n)) old new side measure v t answer one whole later = absurd (omega (arith, one))

pub given-before : (old new : RuleScan) (scan : DimenScan) (side : Side) (measure : Measure) (v : Value) (t : Seen) (back : ℕ) (answer : Fed Rule) → old.part ≡ rule.Size side → rule_held old ≤ 1 → IsGivenBy dimen_rest dimen_held old.size v scan (fed.Done measure back) → (back ≡ 0 → ⊥) → IsRead rule_rest rule_held 1 (λ more. rule_sides (with_side old.rule side measure.size) (Took t ∷ more)) (Took t ∷ []) new answer → IsGivenBehind rule_rest rule_held old v t new answer
given-before old new scan side measure v t back answer part few k some later =
    let fits = k (kept (dimen_held old.size) t) (length-kept (dimen_held old.size) t) in
    let held : back ≡ dimen_held old.size = fits.0 in
    let short : dimen_held old.size ≤ 1 = rw part at few in
    let one : dimen_held old.size ≡ 1 = omega (arith, held, short, some) in
    rw part (given-held (dimen_held old.size) old new side measure v t answer one (λ more. fits.1 more) later)

pub given-fewer-more : (old : RuleScan) (scan : DimenScan) (side : Side) (want : Want) → old.part ≡ rule.Size side → NeedsFewer {A = Measure} (dimens.more_needed old.size) (dimens.more_needed scan) (fed.More want) → NeedsFewer {A = Rule} (rule_needed old) (rule_needed (record old { size = scan })) (fed.More want)
given-fewer-more old scan side want part k = rw part k

pub given-fewer : (old : RuleScan) (scan : DimenScan) (side : Side) (kind : Kind) → old.part ≡ rule.Size side → NeedsFewer {A = Measure} (dimens.more_needed old.size) (dimens.more_needed scan) (fed.Need kind) → NeedsFewer {A = Rule} (rule_needed old) (rule_needed (record old { size = scan })) (fed.Need kind)
given-fewer old scan side kind part k = rw part k

pub whole-fewer : (old : ℕ) (new : RuleScan) (want : Want) → new.part ≡ rule.Start → NeedsFewer {A = Rule} old (rule_needed new) (fed.More want)
whole-fewer old new want start = rw start (omega arith)

pub given-waits : (old : RuleScan) (scan : DimenScan) (side : Side) (v : Value) (kind : Kind) → old.part ≡ rule.Size side → rule_held old ≤ 1 → IsGivenBy dimen_rest dimen_held old.size v scan (fed.Need kind) → IsRuleFed (record old { size = scan }) (fed.Need kind)
given-waits old scan side v kind part few k =
    let short : dimen_held old.size ≤ 1 = rw part at few in
    let same : dimen_held scan ≡ dimen_held old.size = (k [] (omega arith)).1 in
    rw part (tt, omega (arith, short, same))

-- the first token where a side may be named
named-by : (r : Rule) (t : Seen) (more : List Item) → rule_sides r (Took t ∷ more) ≡ next (side_named (Took t ∷ more)) (side_or_end rule_sides r)
named-by r t more = sym (rule-sides r (Took t ∷ more))

pub start-space : (r : Rule) (t : Seen) (more : List Item) → is_undefined t ≡ false → is_space t ≡ true → rule_sides r (Took t ∷ more) ≡ rule_sides r more
start-space r t more u s = named-by r t more ∙ (rw (u, s) refl ∙ rule-sides r more)

named-after : (side : Side) (t : Seen) (more : List Item) → is_undefined t ≡ false → is_space t ≡ false → side_begun_by t ≡ Some side → side_named (Took t ∷ more) ≡ side_or_none side (Took t ∷ more)
named-after side t more u s b =
    let first : side_named (Took t ∷ more) ≡ named_side (side_begun_by t) (Took t ∷ more) = simp (u, s) refl in
    first ∙ ap (λ begun. named_side begun (Took t ∷ more)) b

pub start-letter : (r : Rule) (t : Seen) (side : Side) (more : List Item) → is_undefined t ≡ false → is_space t ≡ false → side_begun_by t ≡ Some side → rule_sides r (Took t ∷ more) ≡ next (side_or_none side (Took t ∷ more)) (side_or_end rule_sides r)
start-letter r t side more u s b =
    let begun : side_named (Took t ∷ more) ≡ side_or_none side (Took t ∷ more) = named-after side t more u s b in
    named-by r t more ∙ ap (λ reading. next reading (side_or_end rule_sides r)) begun

pub side-letters : (side : Side) → 0 < length (letters_of side)
side-letters side.Width = omega arith
side-letters side.Height = omega arith
side-letters side.Depth = omega arith

-- spaces go on
pub start-on : (scan : RuleScan) (t : Seen) → scan.part ≡ rule.Start → is_undefined t ≡ false → is_space t ≡ true → IsRead rule_rest rule_held 1 (λ more. rule_sides scan.rule (Took t ∷ more)) (Took t ∷ []) scan (fed.More Expanded)
start-on scan t part u s = (
  start-space scan.rule t [] u s,
  rw part (omega arith),
  λ item more. start-space scan.rule t (item ∷ more) u s ∙ ap (λ p. rule_part_rest p scan (ending (rule_part_held p scan) (Took t ∷ [])) item more) (sym part),
)

-- the first letter of a name
pub start-named : (r : Rule) (t : Seen) (side : Side) (key : KeyScan) (new : RuleScan) (answer : Fed Rule) → is_undefined t ≡ false → is_space t ≡ false → side_begun_by t ≡ Some side → key ≡ begun_word → IsNameFed side key r t new answer → IsRead rule_rest rule_held 1 (λ more. rule_sides r (Took t ∷ more)) (Took t ∷ []) new answer
start-named r t side key new answer u s b same k =
    let first : IsNameFed side begun_word r t new answer = subst (λ key. IsNameFed side key r t new answer) same k in
    let h : length {A = Item} [] ≤ 0 = omega arith in
    same-read rule_rest rule_held 1 (λ more. rule_sides r (Took t ∷ more)) (λ more. next (side_or_none side (Took t ∷ more)) (side_or_end rule_sides r)) (Took t ∷ []) new answer
    (λ more. start-letter r t side more u s b) (first [] h)

-- the parts of a rule, as its scan
pub name-part : (old : RuleScan) (side : Side) (key : KeyScan) (t : Seen) (new : RuleScan) (answer : Fed Rule) → old.part ≡ rule.Name side key → IsNameFed side key old.rule t new answer → IsFedBy rule_rest rule_held old t new answer
name-part old side key t new answer part k = rw part k
