-- Glue, part by part.
use Rattle.std.proofs.Common.{◌≡◌, inl, inr, ◌≤◌, ◌<◌, ◌+◌, ℕ, zero, suc, Bool, true, false, cond, List, [], ◌∷◌, ◌++◌, length, drop, codes, refl, ap, sym, ◌∙◌, arith, length-append}
use Rattle.tx_num.specs.Glue.{GlueSpec}
use Rattle.tx_seen.specs.declared.error.TexError.{TexError}
use Rattle.tx_seen.specs.declared.error.TexError.TheVariants.{Undefined}
use Rattle.tx_seen.specs.declared.fed.Fed.{Fed}
use Rattle.tx_seen.specs.declared.fed.Fed.TheVariants as fed
use Rattle.tx_seen.specs.declared.fed.Kind.{Kind}
use Rattle.tx_seen.specs.declared.fed.Value.{Value}
use Rattle.tx_seen.specs.declared.fed.Want.{Want}
use Rattle.tx_seen.specs.declared.fed.Want.TheVariants.{Expanded}
use Rattle.tx_seen.specs.declared.item.Item.{Item}
use Rattle.tx_seen.specs.declared.item.Item.TheVariants.{Took, Gave}
use Rattle.tx_seen.specs.declared.seen.Seen.{Seen}
use Rattle.tx_seen.specs.Seen.{is_undefined, is_space, is_key}
use Rattle.tx_seen.specs.Readings.{Reading, More, Done, Wrong, next, ending}
use Rattle.tx_scan.specs.declared.scans.DimenScan.{DimenScan}
use Rattle.tx_scan.specs.declared.scans.GluePart.{GluePart}
use Rattle.tx_scan.specs.declared.scans.GluePart.TheVariants as part
use Rattle.tx_scan.specs.declared.scans.GlueScan.{GlueScan}
use Rattle.tx_scan.specs.declared.scans.GlueStage.TheVariants as stage
use Rattle.tx_scan.specs.declared.scans.KeyScan.{KeyScan}
use Rattle.tx_scan.specs.declared.scans.Measure.{Measure}
use Rattle.tx_scan.specs.declared.scans.MinusScan.{MinusScan}
use Rattle.tx_scan.specs.declared.scans.PlusScan.{PlusScan}
use Rattle.tx_scan.specs.DimensionRests as sizes
use Rattle.tx_scan.specs.Glues.{elastics, with_size, stretch_if, shrink_if, shrinking, stretching}
use Rattle.tx_scan.specs.GlueRests.{behind_size, elastic, stretch_or_end, plus_rest, minus_rest, held_on, stage_rest, rest, held, more_needed, IsWaiting}
use Rattle.tx_scan.specs.Keywords.{letters, word_rest, rest as key_rest, held as key_held, IsSpelled, IsGone, IsReadOn}
use Rattle.tx_scan.specs.Rests.{IsRead, IsFedBy, IsGivenBy, IsGivenBehind, kept}
use Rattle.tx_scan.specs.Supplied.{NeedsFewer, NeedsNoMore}
use Rattle.tx_scan.proofs.Answering.{ending-all, ending-none}
use Rattle.tx_scan.proofs.Behind.{given-behind, length-kept, read-one}
use Rattle.tx_scan.proofs.Keys.{plus-letter}
use Rattle.tx_scan.proofs.Mappings.{read-none, same-read}
use Rattle.tx_scan.proofs.Mosts.{most-size}

abbrev plus : List ℕ
plus = codes "plus"

abbrev minus : List ℕ
minus = codes "minus"

-- a word of which so much is read
abbrev read_so : ℕ → KeyScan
read_so read = record { read = read }

-- the letters of a word, whatever is given back where they break off
alike : {B : Type 0} (u k : Bool) (a b : Reading Bool) (one other : List Item) (f g : Bool → List Item → Reading B) → next a f ≡ next b g → f false one ≡ g false other → next (cond u (Wrong Undefined) (cond k a (Done false one))) f ≡ next (cond u (Wrong Undefined) (cond k b (Done false other))) g
alike true k a b one other f g x y = refl
alike false true a b one other f g x y = x
alike false false a b one other f g x y = y

letters-alike : {B : Type 0} (word : List ℕ) (one other items : List Item) (f g : Bool → List Item → Reading B) → ((rest : List Item) → f true rest ≡ g true rest) → f false one ≡ g false other → next (letters word one items) f ≡ next (letters word other items) g
letters-alike [] one other items f g found broken = found items
letters-alike (c ∷ word) one other [] f g found broken = refl
letters-alike (c ∷ word) one other (Gave v ∷ rest) f g found broken = broken
letters-alike (c ∷ word) one other (Took t ∷ rest) f g found broken =
    alike (is_undefined t) (is_key c t) (letters word one rest) (letters word other rest) one other f g (letters-alike word one other rest f g found broken) broken

-- a token that `minus` doesn't begin with
ends-at : (mu : Bool) (g : GlueSpec) (t : Seen) (more : List Item) → is_undefined t ≡ false → is_space t ≡ false → is_key 109 t ≡ false → shrinking mu g (Took t ∷ more) ≡ Done g (Took t ∷ more)
ends-at mu g t more u s k = rw (s, u, k) refl

skips-at : (mu : Bool) (g : GlueSpec) (t : Seen) (more : List Item) → is_space t ≡ true → is_key 109 t ≡ false → shrinking mu g (Took t ∷ more) ≡ shrinking mu g more
skips-at mu g t more s k = rw (s, k) refl

-- all tokens that are held
all-of : (m : ℕ) (behind : List Item) (t : Seen) → length behind + 1 ≤ m → ending m (behind ++ Took t ∷ []) ≡ behind ++ Took t ∷ []
all-of m behind t h =
    let long : length (behind ++ Took t ∷ []) ≡ length behind + 1 = length-append behind (Took t ∷ []) in
    ending-all m (behind ++ Took t ∷ []) (omega (arith, long, h))

-- `plus` goes on
abbrev Goes : Bool → GlueSpec → ℕ → ℕ → List Item → Seen → ℕ → Want → Type 0
Goes mu g n r behind t s want =
    (plus_rest mu g n r behind (Took t) [] ≡ More want) × ((item : Item) (more : List Item) → plus_rest mu g n r behind (Took t) (item ∷ more) ≡ plus_rest mu g (held_on n s t) s (ending (held_on n s t) (behind ++ Took t ∷ [])) item more)

held-on : (mu : Bool) (g : GlueSpec) (n r s : ℕ) (behind : List Item) (t : Seen) (want : Want) → length behind ≤ suc n → suc n ≤ r → s ≡ r + 1 → IsRead (key_rest plus) key_held (r + 1) (λ more. word_rest plus r behind (Took t) more) (behind ++ Took t ∷ []) (read_so s) (fed.More want) → Goes mu g (suc n) r behind t s want
held-on mu g n r s behind t want short fits next_one here = (
  ap (λ x. next x (stretch_or_end mu g)) here.0,
  λ item more.
      ap (λ x. next x (stretch_or_end mu g)) (here.2 item more)
      ∙ ap (λ (items : List Item). next (word_rest plus s items item more) (stretch_or_end mu g)) (all-of s behind t (omega (arith, short, fits, next_one)) ∙ sym (all-of (suc (suc n)) behind t (omega (arith, short)))),
)

spaces-on : (mu : Bool) (g : GlueSpec) (r : ℕ) (t : Seen) (want : Want) → IsRead (key_rest plus) key_held (r + 1) (λ more. word_rest plus r [] (Took t) more) (Took t ∷ []) (read_so 0) (fed.More want) → Goes mu g 0 r [] t 0 want
spaces-on mu g r t want here = (ap (λ x. next x (stretch_if mu g)) here.0, λ item more. ap (λ x. next x (stretch_if mu g)) (here.2 item more))

first-on : (mu : Bool) (g : GlueSpec) (r s : ℕ) (t : Seen) (want : Want) (b : Bool) → is_space t ≡ b → is_undefined t ≡ false → is_key 109 t ≡ false → IsRead (key_rest plus) key_held (r + 1) (λ more. word_rest plus r [] (Took t) more) (Took t ∷ []) (read_so (suc s)) (fed.More want) → Goes mu g 0 r [] t (suc s) want
first-on mu g r s t want true e u k here = (
  ap (λ x. next x (stretch_if mu g)) here.0,
  λ item more.
      ap (λ x. next x (stretch_if mu g)) (here.2 item more)
      ∙ (ap (λ (items : List Item). next (word_rest plus (suc s) items item more) (stretch_if mu g)) (all-of (suc s) [] t (omega arith))
      ∙ rw e (letters-alike (drop (suc s) plus) (Took t ∷ item ∷ more) (item ∷ more) (item ∷ more) (stretch_if mu g) (stretch_if mu g) (λ rest. refl) (skips-at mu g t (item ∷ more) e k))),
)
first-on mu g r s t want false e u k here = (
  ap (λ x. next x (stretch_if mu g)) here.0,
  λ item more.
      ap (λ x. next x (stretch_if mu g)) (here.2 item more)
      ∙ (ap (λ (items : List Item). next (word_rest plus (suc s) items item more) (stretch_if mu g)) (all-of (suc s) [] t (omega arith))
      ∙ rw e (letters-alike (drop (suc s) plus) (Took t ∷ item ∷ more) (Took t ∷ item ∷ more) (item ∷ more) (stretch_if mu g) (stretch_or_end mu g) (λ rest. refl) (ends-at mu g t (item ∷ more) u e k))),
)

letter-on : (mu : Bool) (g : GlueSpec) (r s : ℕ) (t : Seen) (want : Want) → suc s ≤ 3 → IsSpelled plus (read_so r) t (read_so (suc s)) (fed.More want) → IsRead (key_rest plus) key_held (r + 1) (λ more. word_rest plus r [] (Took t) more) (Took t ∷ []) (read_so (suc s)) (fed.More want) → Goes mu g 0 r [] t (suc s) want
letter-on mu g r s t want few (inl p) here = absurd (omega (arith, p.1))
letter-on mu g r s t want few (inr q) here =
    first-on mu g r s t want (is_space t) refl q.1.0 (plus-letter r q.1.1.0 (drop (r + 1) plus) t (omega (arith, few, q.0)) q.1.1.1.0 q.1.1.1.1) here

held-letter : (mu : Bool) (g : GlueSpec) (n r s : ℕ) (behind : List Item) (t : Seen) (want : Want) → length behind ≤ suc n → suc n ≤ r → IsSpelled plus (read_so r) t (read_so s) (fed.More want) → IsRead (key_rest plus) key_held (r + 1) (λ more. word_rest plus r behind (Took t) more) (behind ++ Took t ∷ []) (read_so s) (fed.More want) → Goes mu g (suc n) r behind t s want
held-letter mu g n r s behind t want short fits (inl p) here = absurd (omega (arith, p.0, fits))
held-letter mu g n r s behind t want short fits (inr q) here = held-on mu g n r s behind t want short fits q.0 here

plus-goes : (mu : Bool) (g : GlueSpec) (n r s : ℕ) (behind : List Item) (t : Seen) (want : Want) → length behind ≤ n → n ≤ r → s ≤ 3 → IsFedBy (key_rest plus) key_held (read_so r) t (read_so s) (fed.More want) → IsSpelled plus (read_so r) t (read_so s) (fed.More want) → Goes mu g n r behind t s want
plus-goes mu g (suc n) r s behind t want short fits few k spelled = held-letter mu g n r s behind t want short fits spelled (k behind (omega (arith, short, fits)))
plus-goes mu g zero r s (item ∷ behind) t want short fits few k spelled = absurd (omega (arith, short))
plus-goes mu g zero r zero [] t want short fits few k spelled = spaces-on mu g r t want (k [] (omega arith))
plus-goes mu g zero r (suc s) [] t want short fits few k spelled = letter-on mu g r s t want few spelled (k [] (omega arith))

if-few : (b : Bool) → cond b 0 1 ≤ 1
if-few true = omega arith
if-few false = omega arith

held-few : (n s : ℕ) (t : Seen) → held_on n s t ≤ n + 1
held-few (suc n) s t = omega arith
held-few zero zero t = omega arith
held-few zero (suc s) t = if-few (is_space t)

-- what answers the letters of `plus`
abbrev PlusFed : Bool → GlueSpec → ℕ → ℕ → Seen → GlueScan → Fed GlueSpec → Type 0
PlusFed mu g n r t new answer = (behind : List Item) → length behind ≤ n → IsRead rest held (n + 1) (λ more. plus_rest mu g n r behind (Took t) more) (behind ++ Took t ∷ []) new answer

pub plus-more : (mu : Bool) (g : GlueSpec) (n r s m : ℕ) (t : Seen) (want : Want) (word : PlusScan) (new : GlueScan) → new.stage ≡ stage.Plus word → word.read ≡ s → word.held ≡ m → new.mu ≡ mu → new.glue ≡ g → m ≡ held_on n s t → n ≤ r → s < 4 → IsFedBy (key_rest plus) key_held (read_so r) t (read_so s) (fed.More want) → IsSpelled plus (read_so r) t (read_so s) (fed.More want) → PlusFed mu g n r t new (fed.More want)
plus-more mu g n r s m t want word new at reads holds in_mu so_far now fits few k spelled = λ behind short.
    let goes : Goes mu g n r behind t s want = plus-goes mu g n r s behind t want short fits (omega (arith, few)) k spelled in
    let most : held_on n s t ≤ n + 1 = held-few n s t in
    let same : (behind : List Item) (item : Item) (more : List Item) → rest new behind item more ≡ plus_rest mu g m s behind item more = λ behind item more. rw (at, reads, holds, in_mu, so_far) refl in
    let count : held new ≡ m = rw at holds in (
      goes.0,
      rw (count, now) most,
      λ item more.
          goes.1 item more
          ∙ (ap (λ (i : ℕ). plus_rest mu g i s (ending i (behind ++ Took t ∷ [])) item more) (sym now)
          ∙ (sym (same (ending m (behind ++ Took t ∷ [])) item more)
          ∙ ap (λ (i : ℕ). rest new (ending i (behind ++ Took t ∷ [])) item more) (sym count))),
    )

if-within : (b : Bool) (s : ℕ) → cond b 0 1 ≤ suc s
if-within true s = omega arith
if-within false s = omega arith

-- no more are held than are read
pub held-within : (n r s : ℕ) (t : Seen) (want : Want) → n ≤ r → IsSpelled plus (read_so r) t (read_so s) (fed.More want) → held_on n s t ≤ s
held-within (suc n) r s t want fits (inl p) = absurd (omega (arith, p.0, fits))
held-within (suc n) r s t want fits (inr q) = omega (arith, q.0, fits)
held-within zero r zero t want fits spelled = omega arith
held-within zero r (suc s) t want fits spelled = if-within (is_space t) s

-- how many they are by what is there
pub held-more : (n read : ℕ) (t : Seen) → 0 < n → n + 1 ≡ held_on n read t
held-more zero read t h = absurd (omega (arith, h))
held-more (suc n) read t h = omega arith

pub held-none : (n read : ℕ) (t : Seen) → n ≤ 0 → read ≡ 0 → 0 ≡ held_on n read t
held-none zero zero t h e = refl
held-none zero (suc read) t h e = absurd (omega (arith, e))
held-none (suc n) read t h e = absurd (omega (arith, h))

pub held-space : (n read : ℕ) (t : Seen) → n ≤ 0 → (read ≡ 0 → ⊥) → is_space t ≡ true → 0 ≡ held_on n read t
held-space zero zero t h e s = absurd (e refl)
held-space zero (suc read) t h e s = rw s refl
held-space (suc n) read t h e s = absurd (omega (arith, h))

pub held-first : (n read : ℕ) (t : Seen) → n ≤ 0 → (read ≡ 0 → ⊥) → is_space t ≡ false → 1 ≡ held_on n read t
held-first zero zero t h e s = absurd (e refl)
held-first zero (suc read) t h e s = rw s refl
held-first (suc n) read t h e s = absurd (omega (arith, h))

-- the word is there
found-at : (mu : Bool) (g : GlueSpec) (n r back : ℕ) (behind : List Item) (t : Seen) (more : List Item) → length behind ≤ n → n ≤ r → back ≡ 0 → ((behind : List Item) → length behind ≤ r → word_rest plus r behind (Took t) more ≡ Done true (ending back (behind ++ Took t ∷ []) ++ more)) → plus_rest mu g n r behind (Took t) more ≡ elastic part.Stretch mu g more
found-at mu g zero r back [] t more short fits none k =
    ap (λ x. next x (stretch_if mu g)) (k [] (omega arith)) ∙ ap (λ (i : ℕ). elastic part.Stretch mu g (ending i (Took t ∷ []) ++ more)) none
found-at mu g zero r back (item ∷ behind) t more short fits none k = absurd (omega (arith, short))
found-at mu g (suc n) r back behind t more short fits none k =
    ap (λ x. next x (stretch_or_end mu g)) (k behind (omega (arith, short, fits)))
    ∙ (ap (λ (i : ℕ). elastic part.Stretch mu g (ending i (behind ++ Took t ∷ []) ++ more)) none
    ∙ ap (λ (items : List Item). elastic part.Stretch mu g (items ++ more)) (ending-none (behind ++ Took t ∷ [])))

plus-found : (mu : Bool) (g : GlueSpec) (n r back : ℕ) (t : Seen) (key : KeyScan) (new : GlueScan) (answer : Fed GlueSpec) → n ≤ r → IsFedBy (key_rest plus) key_held (read_so r) t key (fed.Done true back) → back ≡ 0 → IsRead rest held 0 (λ more. elastic part.Stretch mu g more) [] new answer → PlusFed mu g n r t new answer
plus-found mu g n r back t key new answer fits k none later = λ behind short.
    same-read rest held (n + 1) (λ more. plus_rest mu g n r behind (Took t) more) (λ more. elastic part.Stretch mu g more) (behind ++ Took t ∷ []) new answer
    (λ more. found-at mu g n r back behind t more short fits none (λ behind h. (k behind h).1 more))
    (read-none rest held (n + 1) (λ more. elastic part.Stretch mu g more) (behind ++ Took t ∷ []) new answer later)

-- it breaks off at this token, and `minus` may begin
passed-at : (mu : Bool) (g : GlueSpec) (r back : ℕ) (t : Seen) (more : List Item) → 1 ≤ back → word_rest plus r [] (Took t) more ≡ Done false (ending back (Took t ∷ []) ++ more) → plus_rest mu g 0 r [] (Took t) more ≡ minus_rest mu g 0 [] (Took t) more
passed-at mu g r back t more some k =
    ap (λ x. next x (stretch_if mu g)) k ∙ ap (λ (items : List Item). shrinking mu g (items ++ more)) (all-of back [] t (omega (arith, some)))

passed-read : (mu : Bool) (g : GlueSpec) (r back : ℕ) (behind : List Item) (t : Seen) (new : GlueScan) (answer : Fed GlueSpec) → length behind ≤ 0 → 1 ≤ back → ((more : List Item) → word_rest plus r [] (Took t) more ≡ Done false (ending back (Took t ∷ []) ++ more)) → IsRead rest held 1 (λ more. minus_rest mu g 0 [] (Took t) more) (Took t ∷ []) new answer → IsRead rest held 1 (λ more. plus_rest mu g 0 r behind (Took t) more) (behind ++ Took t ∷ []) new answer
passed-read mu g r back [] t new answer short some k later =
    same-read rest held 1 (λ more. plus_rest mu g 0 r [] (Took t) more) (λ more. minus_rest mu g 0 [] (Took t) more) (Took t ∷ []) new answer
    (λ more. passed-at mu g r back t more some (k more)) later
passed-read mu g r back (item ∷ behind) t new answer short some k later = absurd (omega (arith, short))

plus-passed : (mu : Bool) (g : GlueSpec) (n r back : ℕ) (t : Seen) (key : KeyScan) (new : GlueScan) (answer : Fed GlueSpec) → n ≡ 0 → IsFedBy (key_rest plus) key_held (read_so r) t key (fed.Done false back) → back ≡ r + 1 → ((behind : List Item) → length behind ≤ 0 → IsRead rest held 1 (λ more. minus_rest mu g 0 behind (Took t) more) (behind ++ Took t ∷ []) new answer) → PlusFed mu g n r t new answer
plus-passed mu g zero r back t key new answer none k all later = λ behind short.
    passed-read mu g r back behind t new answer short (omega (arith, all)) (λ more. (k [] (omega arith)).1 more) (later [] (omega arith))
plus-passed mu g (suc n) r back t key new answer none k all later = absurd (omega (arith, none))

-- it breaks off, and the glue ends before its letters
ended-at : (mu : Bool) (g : GlueSpec) (n r back : ℕ) (behind : List Item) (t : Seen) (more : List Item) → length behind ≤ suc n → suc n ≤ r → back ≡ r + 1 → word_rest plus r behind (Took t) more ≡ Done false (ending back (behind ++ Took t ∷ []) ++ more) → plus_rest mu g (suc n) r behind (Took t) more ≡ Done g (ending (suc n + 1) (behind ++ Took t ∷ []) ++ more)
ended-at mu g n r back behind t more short fits all k =
    ap (λ x. next x (stretch_or_end mu g)) k
    ∙ ap (λ (items : List Item). Done g (items ++ more)) (all-of back behind t (omega (arith, short, fits, all)) ∙ sym (all-of (suc n + 1) behind t (omega (arith, short))))

plus-ended : (mu : Bool) (g : GlueSpec) (n r m back : ℕ) (t : Seen) (key : KeyScan) (new : GlueScan) → (n ≡ 0 → ⊥) → n ≤ r → m ≡ n + 1 → IsFedBy (key_rest plus) key_held (read_so r) t key (fed.Done false back) → back ≡ r + 1 → PlusFed mu g n r t new (fed.Done g m)
plus-ended mu g zero r m back t key new some fits count k all = absurd (some refl)
plus-ended mu g (suc n) r m back t key new some fits count k all = λ behind short. (
  omega (arith, count),
  λ more.
      ended-at mu g n r back behind t more short fits all ((k behind (omega (arith, short, fits))).1 more)
      ∙ ap (λ (i : ℕ). Done g (ending i (behind ++ Took t ∷ []) ++ more)) (sym count),
)

-- it is wrong
wrong-at : (mu : Bool) (g : GlueSpec) (n r : ℕ) (behind : List Item) (t : Seen) (error : TexError) (more : List Item) → length behind ≤ n → n ≤ r → ((behind : List Item) → length behind ≤ r → word_rest plus r behind (Took t) more ≡ Wrong error) → plus_rest mu g n r behind (Took t) more ≡ Wrong error
wrong-at mu g zero r behind t error more short fits k = ap (λ x. next x (stretch_if mu g)) (k [] (omega arith))
wrong-at mu g (suc n) r behind t error more short fits k = ap (λ x. next x (stretch_or_end mu g)) (k behind (omega (arith, short, fits)))

pub plus-wrong : (mu : Bool) (g : GlueSpec) (n r : ℕ) (t : Seen) (key : KeyScan) (error : TexError) (new : GlueScan) → n ≤ r → IsFedBy (key_rest plus) key_held (read_so r) t key (fed.Wrong error) → PlusFed mu g n r t new (fed.Wrong error)
plus-wrong mu g n r t key error new fits k = λ behind short more. wrong-at mu g n r behind t error more short fits (λ behind h. k behind h more)

-- what answers the letters of `minus`
abbrev MinusFed : Bool → GlueSpec → ℕ → Seen → GlueScan → Fed GlueSpec → Type 0
MinusFed mu g r t new answer = (behind : List Item) → length behind ≤ r → IsRead rest held (r + 1) (λ more. minus_rest mu g r behind (Took t) more) (behind ++ Took t ∷ []) new answer

pub minus-more : (mu : Bool) (g : GlueSpec) (r s : ℕ) (t : Seen) (want : Want) (word : MinusScan) (new : GlueScan) → new.stage ≡ stage.Minus word → word.read ≡ s → new.mu ≡ mu → new.glue ≡ g → IsFedBy (key_rest minus) key_held (read_so r) t (read_so s) (fed.More want) → MinusFed mu g r t new (fed.More want)
minus-more mu g r s t want word new at reads in_mu so_far k = λ behind short.
    let same : (behind : List Item) (item : Item) (more : List Item) → rest new behind item more ≡ minus_rest mu g s behind item more = λ behind item more. rw (at, reads, in_mu, so_far) refl in
    let count : held new ≡ s = rw at reads in (
      ap (λ x. next x (shrink_if mu g)) (k behind short).0,
      rw count (k behind short).1,
      λ item more.
          ap (λ x. next x (shrink_if mu g)) ((k behind short).2 item more)
          ∙ (sym (same (ending s (behind ++ Took t ∷ [])) item more)
          ∙ ap (λ (i : ℕ). rest new (ending i (behind ++ Took t ∷ [])) item more) (sym count)),
    )

minus-found : (mu : Bool) (g : GlueSpec) (r back : ℕ) (t : Seen) (key : KeyScan) (new : GlueScan) (answer : Fed GlueSpec) → IsFedBy (key_rest minus) key_held (read_so r) t key (fed.Done true back) → back ≡ 0 → IsRead rest held 0 (λ more. elastic part.Shrink mu g more) [] new answer → MinusFed mu g r t new answer
minus-found mu g r back t key new answer k none later = λ behind short.
    same-read rest held (r + 1) (λ more. minus_rest mu g r behind (Took t) more) (λ more. elastic part.Shrink mu g more) (behind ++ Took t ∷ []) new answer
    (λ more.
    ap (λ x. next x (shrink_if mu g)) ((k behind short).1 more)
    ∙ (ap (λ (i : ℕ). elastic part.Shrink mu g (ending i (behind ++ Took t ∷ []) ++ more)) none
    ∙ ap (λ (items : List Item). elastic part.Shrink mu g (items ++ more)) (ending-none (behind ++ Took t ∷ []))))
    (read-none rest held (r + 1) (λ more. elastic part.Shrink mu g more) (behind ++ Took t ∷ []) new answer later)

minus-ended : (mu : Bool) (g : GlueSpec) (r back : ℕ) (t : Seen) (key : KeyScan) (new : GlueScan) → IsFedBy (key_rest minus) key_held (read_so r) t key (fed.Done false back) → MinusFed mu g r t new (fed.Done g back)
minus-ended mu g r back t key new k = λ behind short. ((k behind short).0, λ more. ap (λ x. next x (shrink_if mu g)) ((k behind short).1 more))

pub minus-wrong : (mu : Bool) (g : GlueSpec) (r : ℕ) (t : Seen) (key : KeyScan) (error : TexError) (new : GlueScan) → IsFedBy (key_rest minus) key_held (read_so r) t key (fed.Wrong error) → MinusFed mu g r t new (fed.Wrong error)
minus-wrong mu g r t key error new k = λ behind short more. ap (λ x. next x (shrink_if mu g)) (k behind short more)

-- what stands behind a size
abbrev on_size : GlueScan → GluePart → Measure → List Item → Reading GlueSpec
on_size old part = behind_size part old.mu old.glue

pub size-more : (old : GlueScan) (scan : DimenScan) (p : GluePart) (t : Seen) (want : Want) → old.stage ≡ stage.Size p → IsFedBy sizes.rest sizes.held old.size t scan (fed.More want) → IsFedBy rest held old t (record old { size = scan }) (fed.More want)
size-more old scan p t want s k = λ behind short. rw s (
  ap (λ r. next r (on_size old p)) (k behind (rw s at short)).0,
  (k behind (rw s at short)).1,
  λ item more. ap (λ r. next r (on_size old p)) ((k behind (rw s at short)).2 item more),
)

pub size-need : (old : GlueScan) (scan : DimenScan) (p : GluePart) (t : Seen) (kind : Kind) → old.stage ≡ stage.Size p → IsFedBy sizes.rest sizes.held old.size t scan (fed.Need kind) → IsFedBy rest held old t (record old { size = scan }) (fed.Need kind)
size-need old scan p t kind s k = λ behind short. rw s (
  ap (λ r. next r (on_size old p)) (k behind (rw s at short)).0,
  (k behind (rw s at short)).1,
  λ item more. ap (λ r. next r (on_size old p)) ((k behind (rw s at short)).2 item more),
)

pub size-wrong : (old new : GlueScan) (scan : DimenScan) (p : GluePart) (t : Seen) (error : TexError) → old.stage ≡ stage.Size p → IsFedBy sizes.rest sizes.held old.size t scan (fed.Wrong error) → IsFedBy rest held old t new (fed.Wrong error)
size-wrong old new scan p t error s k = λ behind short more. rw s (ap (λ r. next r (on_size old p)) (k behind (rw s at short) more))

sized-at : (old : GlueScan) (p : GluePart) (measure : Measure) (behind : List Item) (item : Item) (more some : List Item) → old.stage ≡ stage.Size p → sizes.rest old.size behind item more ≡ Done measure some → rest old behind item more ≡ on_size old p measure some
sized-at old p measure behind item more some s e = ap (λ x. stage_rest x old behind item more) s ∙ ap (λ r. next r (on_size old p)) e

pub size-whole : (old new : GlueScan) (scan : DimenScan) (p : GluePart) (measure : Measure) (t : Seen) (back : ℕ) (answer : Fed GlueSpec) → old.stage ≡ stage.Size p → sizes.IsFed old.size t scan (fed.Done measure back) → back ≡ 0 → IsRead rest held 0 (λ more. on_size old p measure more) [] new answer → IsFedBy rest held old t new answer
size-whole old new scan p measure t back answer s k none later = λ behind short.
    same-read rest held (held old + 1) (λ more. rest old behind (Took t) more) (λ more. on_size old p measure more) (behind ++ Took t ∷ []) new answer
    (λ more. sized-at old p measure behind (Took t) more (kept back t ++ more) s ((k behind).1 more) ∙ ap (λ (n : ℕ). on_size old p measure (kept n t ++ more)) none)
    (read-none rest held (held old + 1) (λ more. on_size old p measure more) (behind ++ Took t ∷ []) new answer later)

one-kept : (back : ℕ) (t : Seen) → (back ≡ 0 → ⊥) → kept back t ≡ Took t ∷ []
one-kept zero t e = absurd (e refl)
one-kept (suc n) t e = refl

pub size-before : (old new : GlueScan) (scan : DimenScan) (p : GluePart) (measure : Measure) (t : Seen) (back : ℕ) (answer : Fed GlueSpec) → old.stage ≡ stage.Size p → sizes.IsFed old.size t scan (fed.Done measure back) → (back ≡ 0 → ⊥) → IsRead rest held 1 (λ more. on_size old p measure (Took t ∷ more)) (Took t ∷ []) new answer → IsFedBy rest held old t new answer
size-before old new scan p measure t back answer s k some later = λ behind short.
    same-read rest held (held old + 1) (λ more. rest old behind (Took t) more) (λ more. on_size old p measure (Took t ∷ more)) (behind ++ Took t ∷ []) new answer
    (λ more. sized-at old p measure behind (Took t) more (kept back t ++ more) s ((k behind).1 more) ∙ ap (λ (items : List Item). on_size old p measure (items ++ more)) (one-kept back t some))
    (read-one rest held (held old) (λ more. on_size old p measure (Took t ∷ more)) behind t new answer later)

-- the value that a size waits for
pub given-more : (old : GlueScan) (scan : DimenScan) (p : GluePart) (v : Value) (t : Seen) (want : Want) → old.stage ≡ stage.Size p → held old ≤ 1 → IsGivenBy sizes.rest sizes.held old.size v scan (fed.More want) → IsGivenBehind rest held old v t (record old { size = scan }) (fed.More want)
given-more old scan p v t want s few k =
    let fits = given-behind sizes.rest sizes.held old.size scan v t (fed.More want) (rw s at few) k in
    rw s (ap (λ r. next r (on_size old p)) fits.0, fits.1, λ item more. ap (λ r. next r (on_size old p)) (fits.2 item more))

pub given-need : (old : GlueScan) (scan : DimenScan) (p : GluePart) (v : Value) (t : Seen) (kind : Kind) → old.stage ≡ stage.Size p → held old ≤ 1 → IsGivenBy sizes.rest sizes.held old.size v scan (fed.Need kind) → IsGivenBehind rest held old v t (record old { size = scan }) (fed.Need kind)
given-need old scan p v t kind s few k =
    let fits = given-behind sizes.rest sizes.held old.size scan v t (fed.Need kind) (rw s at few) k in
    rw s (ap (λ r. next r (on_size old p)) fits.0, fits.1, λ item more. ap (λ r. next r (on_size old p)) (fits.2 item more))

pub given-wrong : (old new : GlueScan) (scan : DimenScan) (p : GluePart) (v : Value) (t : Seen) (error : TexError) → old.stage ≡ stage.Size p → held old ≤ 1 → IsGivenBy sizes.rest sizes.held old.size v scan (fed.Wrong error) → IsGivenBehind rest held old v t new (fed.Wrong error)
given-wrong old new scan p v t error s few k =
    let fits = given-behind sizes.rest sizes.held old.size scan v t (fed.Wrong error) (rw s at few) k in
    rw s (λ more. ap (λ r. next r (on_size old p)) (fits more))

given-none : (n : ℕ) (old new : GlueScan) (p : GluePart) (measure : Measure) (v : Value) (t : Seen) (answer : Fed GlueSpec) → n ≡ 0 → ((more : List Item) → sizes.rest old.size (kept n t) (Gave v) more ≡ Done measure (kept n t ++ more)) → IsRead rest held 0 (λ more. on_size old p measure more) [] new answer → IsRead rest held n (λ more. next (sizes.rest old.size (kept n t) (Gave v) more) (on_size old p)) (kept n t) new answer
given-none zero old new p measure v t answer none whole later =
    same-read rest held 0 (λ more. next (sizes.rest old.size [] (Gave v) more) (on_size old p)) (λ more. on_size old p measure more) [] new answer
    (λ more. ap (λ r. next r (on_size old p)) (whole more)) later
given-none (suc n) old new p measure v t answer none whole later = absurd (omega (arith, none))

given-one : (n : ℕ) (old new : GlueScan) (p : GluePart) (measure : Measure) (v : Value) (t : Seen) (answer : Fed GlueSpec) → n ≡ 1 → ((more : List Item) → sizes.rest old.size (kept n t) (Gave v) more ≡ Done measure (kept n t ++ more)) → IsRead rest held 1 (λ more. on_size old p measure (Took t ∷ more)) (Took t ∷ []) new answer → IsRead rest held n (λ more. next (sizes.rest old.size (kept n t) (Gave v) more) (on_size old p)) (kept n t) new answer
given-one zero old new p measure v t answer one whole later = absurd (omega (arith, one))
given-one (suc zero) old new p measure v t answer one whole later =
    same-read rest held 1 (λ more. next (sizes.rest old.size (Took t ∷ []) (Gave v) more) (on_size old p)) (λ more. on_size old p measure (Took t ∷ more)) (Took t ∷ []) new answer
    (λ more. ap (λ r. next r (on_size old p)) (whole more)) later
given-one (suc (suc n)) old new p measure v t answer one whole later = absurd (omega (arith, one))

pub given-whole : (old new : GlueScan) (scan : DimenScan) (p : GluePart) (measure : Measure) (v : Value) (t : Seen) (back : ℕ) (answer : Fed GlueSpec) → old.stage ≡ stage.Size p → IsGivenBy sizes.rest sizes.held old.size v scan (fed.Done measure back) → back ≡ 0 → IsRead rest held 0 (λ more. on_size old p measure more) [] new answer → IsGivenBehind rest held old v t new answer
given-whole old new scan p measure v t back answer s k none later =
    let fits = k (kept (sizes.held old.size) t) (length-kept (sizes.held old.size) t) in
    let count : sizes.held old.size ≡ 0 = sym fits.0 ∙ none in
    rw s (given-none (sizes.held old.size) old new p measure v t answer count (λ more. fits.1 more) later)

pub given-before : (old new : GlueScan) (scan : DimenScan) (p : GluePart) (measure : Measure) (v : Value) (t : Seen) (back : ℕ) (answer : Fed GlueSpec) → old.stage ≡ stage.Size p → held old ≤ 1 → IsGivenBy sizes.rest sizes.held old.size v scan (fed.Done measure back) → (back ≡ 0 → ⊥) → IsRead rest held 1 (λ more. on_size old p measure (Took t ∷ more)) (Took t ∷ []) new answer → IsGivenBehind rest held old v t new answer
given-before old new scan p measure v t back answer s few k some later =
    let fits = k (kept (sizes.held old.size) t) (length-kept (sizes.held old.size) t) in
    let count : back ≡ sizes.held old.size = fits.0 in
    let short : sizes.held old.size ≤ 1 = rw s at few in
    let one : sizes.held old.size ≡ 1 = omega (arith, count, short, some) in
    rw s (given-one (sizes.held old.size) old new p measure v t answer one (λ more. fits.1 more) later)

-- how many values it needs
pub size-needs-more : (old : GlueScan) (scan : DimenScan) (p : GluePart) (want : Want) → old.stage ≡ stage.Size p → NeedsNoMore {A = Measure} (sizes.more_needed old.size) (sizes.more_needed scan) (fed.More want) → NeedsNoMore {A = GlueSpec} (more_needed old) (more_needed (record old { size = scan })) (fed.More want)
size-needs-more old scan p want s k = rw s k

pub size-needs : (old : GlueScan) (scan : DimenScan) (p : GluePart) (kind : Kind) → old.stage ≡ stage.Size p → NeedsNoMore {A = Measure} (sizes.more_needed old.size) (sizes.more_needed scan) (fed.Need kind) → NeedsNoMore {A = GlueSpec} (more_needed old) (more_needed (record old { size = scan })) (fed.Need kind)
size-needs old scan p kind s k = rw s k

pub given-fewer-more : (old : GlueScan) (scan : DimenScan) (p : GluePart) (want : Want) → old.stage ≡ stage.Size p → NeedsFewer {A = Measure} (sizes.more_needed old.size) (sizes.more_needed scan) (fed.More want) → NeedsFewer {A = GlueSpec} (more_needed old) (more_needed (record old { size = scan })) (fed.More want)
given-fewer-more old scan p want s k = rw s k

pub given-fewer : (old : GlueScan) (scan : DimenScan) (p : GluePart) (kind : Kind) → old.stage ≡ stage.Size p → NeedsFewer {A = Measure} (sizes.more_needed old.size) (sizes.more_needed scan) (fed.Need kind) → NeedsFewer {A = GlueSpec} (more_needed old) (more_needed (record old { size = scan })) (fed.Need kind)
given-fewer old scan p kind s k = rw s k

-- where it waits for a value
pub size-waits : (old : GlueScan) (scan : DimenScan) (p : GluePart) (t : Seen) (kind : Kind) → old.stage ≡ stage.Size p → sizes.IsFed old.size t scan (fed.Need kind) → IsWaiting (record old { size = scan }) (fed.Need kind)
size-waits old scan p t kind s k =
    let few : sizes.most old.size ≤ 1 = most-size old.size in
    let count : sizes.held scan ≤ sizes.most old.size = (k []).1 in
    rw s (tt, omega (arith, few, count))

pub given-waits : (old : GlueScan) (scan : DimenScan) (p : GluePart) (v : Value) (kind : Kind) → old.stage ≡ stage.Size p → held old ≤ 1 → IsGivenBy sizes.rest sizes.held old.size v scan (fed.Need kind) → IsWaiting (record old { size = scan }) (fed.Need kind)
given-waits old scan p v kind s few k =
    let short : sizes.held old.size ≤ 1 = rw s at few in
    let same : sizes.held scan ≡ sizes.held old.size = (k [] (omega arith)).1 in
    rw s (tt, omega (arith, short, same))

pub none-waits : (new : GlueScan) (answer : Fed GlueSpec) → NeedsFewer 0 (more_needed new) answer → IsWaiting new answer
none-waits new (fed.More want) k = tt
none-waits new (fed.Need kind) k = absurd (omega (arith, k))
none-waits new (fed.Done g back) k = tt
none-waits new (fed.Wrong error) k = tt

-- a word that is there, or breaks off
abbrev Word : List ℕ → ℕ → Seen → KeyScan → Bool → ℕ → Type 0
Word word r t key found back = IsFedBy (key_rest word) key_held (read_so r) t key (fed.Done found back)

pub plus-there : (mu : Bool) (g : GlueSpec) (n r back : ℕ) (found : Bool) (t : Seen) (key : KeyScan) (new : GlueScan) (answer : Fed GlueSpec) → n ≤ r → r < 4 → found ≡ true → Word plus r t key found back → (r < length plus → IsReadOn plus key (fed.Done found back)) → IsRead rest held 0 (λ more. elastic part.Stretch mu g more) [] new answer → PlusFed mu g n r t new answer
plus-there mu g n r back true t key new answer fits few is k reading later = plus-found mu g n r back t key new answer fits k (reading (omega (arith, few))) later
plus-there mu g n r back false t key new answer fits few is k reading later = absurd (cc)

pub plus-gone : (mu : Bool) (g : GlueSpec) (n r back : ℕ) (found : Bool) (t : Seen) (key : KeyScan) (new : GlueScan) (answer : Fed GlueSpec) → n ≡ 0 → found ≡ false → Word plus r t key found back → IsGone plus (read_so r) t key (fed.Done found back) → ((behind : List Item) → length behind ≤ 0 → IsRead rest held 1 (λ more. minus_rest mu g 0 behind (Took t) more) (behind ++ Took t ∷ []) new answer) → PlusFed mu g n r t new answer
plus-gone mu g n r back false t key new answer none is k gone later = plus-passed mu g n r back t key new answer none k gone later
plus-gone mu g n r back true t key new answer none is k gone later = absurd (cc)

pub plus-over : (mu : Bool) (g : GlueSpec) (n r m back : ℕ) (found : Bool) (t : Seen) (key : KeyScan) (new : GlueScan) → (n ≡ 0 → ⊥) → n ≤ r → m ≡ n + 1 → found ≡ false → Word plus r t key found back → IsGone plus (read_so r) t key (fed.Done found back) → PlusFed mu g n r t new (fed.Done g m)
plus-over mu g n r m back false t key new some fits count is k gone = plus-ended mu g n r m back t key new some fits count k gone
plus-over mu g n r m back true t key new some fits count is k gone = absurd (cc)

pub minus-there : (mu : Bool) (g : GlueSpec) (r back : ℕ) (found : Bool) (t : Seen) (key : KeyScan) (new : GlueScan) (answer : Fed GlueSpec) → r < 5 → found ≡ true → Word minus r t key found back → (r < length minus → IsReadOn minus key (fed.Done found back)) → IsRead rest held 0 (λ more. elastic part.Shrink mu g more) [] new answer → MinusFed mu g r t new answer
minus-there mu g r back true t key new answer few is k reading later = minus-found mu g r back t key new answer k (reading (omega (arith, few))) later
minus-there mu g r back false t key new answer few is k reading later = absurd (cc)

pub minus-over : (mu : Bool) (g : GlueSpec) (r back : ℕ) (found : Bool) (t : Seen) (key : KeyScan) (new : GlueScan) → found ≡ false → Word minus r t key found back → MinusFed mu g r t new (fed.Done g back)
minus-over mu g r back false t key new is k = minus-ended mu g r back t key new k
minus-over mu g r back true t key new is k = absurd (cc)

-- what follows a size, of which nothing is read yet
pub size-begun : (p : GluePart) (mu : Bool) (g : GlueSpec) (new : GlueScan) → new.stage ≡ stage.Size p → new.size ≡ sizes.begun_size (elastics mu) → new.mu ≡ mu → new.glue ≡ g → IsRead rest held 0 (λ more. elastic p mu g more) [] new (fed.More Expanded)
size-begun p mu g new s b m e = (refl, rw (s, b) (omega arith), λ item more. rw (s, b, m, e) refl)

pub size-begun-needs : (p : GluePart) (mu : Bool) (new : GlueScan) → new.stage ≡ stage.Size p → new.size ≡ sizes.begun_size (elastics mu) → NeedsFewer {A = GlueSpec} 0 (more_needed new) (fed.More Expanded)
size-begun-needs p mu new s b = rw (s, b) (omega arith)

pub plus-begun : (mu : Bool) (g : GlueSpec) (measure : Measure) (word : PlusScan) (new : GlueScan) → new.stage ≡ stage.Plus word → word.read ≡ 0 → word.held ≡ 0 → new.mu ≡ mu → new.glue ≡ with_size part.Width g measure → IsRead rest held 0 (λ more. behind_size part.Width mu g measure more) [] new (fed.More Expanded)
plus-begun mu g measure word new s r h m e = (refl, rw (s, h) (omega arith), λ item more. rw (s, h, r, m, e) refl)

pub minus-begun : (mu : Bool) (g : GlueSpec) (measure : Measure) (word : MinusScan) (new : GlueScan) → new.stage ≡ stage.Minus word → word.read ≡ 0 → new.mu ≡ mu → new.glue ≡ with_size part.Stretch g measure → IsRead rest held 0 (λ more. behind_size part.Stretch mu g measure more) [] new (fed.More Expanded)
minus-begun mu g measure word new s r m e = (refl, rw (s, r) (omega arith), λ item more. rw (s, r, m, e) refl)

pub shrunk-so : (mu : Bool) (g after : GlueSpec) (measure : Measure) (new : GlueScan) → after ≡ with_size part.Shrink g measure → IsRead rest held 0 (λ more. behind_size part.Shrink mu g measure more) [] new (fed.Done after 0)
shrunk-so mu g after measure new e = (omega arith, λ more. ap (λ x. Done x more) (sym e))

-- what follows it begins with this token
pub plus-first : (mu : Bool) (g after : GlueSpec) (measure : Measure) (t : Seen) (new : GlueScan) (answer : Fed GlueSpec) → after ≡ with_size part.Width g measure → ((behind : List Item) → length behind ≤ 0 → IsRead rest held 1 (λ more. plus_rest mu after 0 0 behind (Took t) more) (behind ++ Took t ∷ []) new answer) → IsRead rest held 1 (λ more. behind_size part.Width mu g measure (Took t ∷ more)) (Took t ∷ []) new answer
plus-first mu g after measure t new answer e k =
    same-read rest held 1 (λ more. behind_size part.Width mu g measure (Took t ∷ more)) (λ more. plus_rest mu after 0 0 [] (Took t) more) (Took t ∷ []) new answer
    (λ more. ap (λ x. stretching mu x (Took t ∷ more)) (sym e)) (k [] (omega arith))

pub minus-first : (mu : Bool) (g after : GlueSpec) (measure : Measure) (t : Seen) (new : GlueScan) (answer : Fed GlueSpec) → after ≡ with_size part.Stretch g measure → ((behind : List Item) → length behind ≤ 0 → IsRead rest held 1 (λ more. minus_rest mu after 0 behind (Took t) more) (behind ++ Took t ∷ []) new answer) → IsRead rest held 1 (λ more. behind_size part.Stretch mu g measure (Took t ∷ more)) (Took t ∷ []) new answer
minus-first mu g after measure t new answer e k =
    same-read rest held 1 (λ more. behind_size part.Stretch mu g measure (Took t ∷ more)) (λ more. minus_rest mu after 0 [] (Took t) more) (Took t ∷ []) new answer
    (λ more. ap (λ x. shrinking mu x (Took t ∷ more)) (sym e)) (k [] (omega arith))

pub shrunk-before : (mu : Bool) (g after : GlueSpec) (measure : Measure) (t : Seen) (new : GlueScan) → after ≡ with_size part.Shrink g measure → IsRead rest held 1 (λ more. behind_size part.Shrink mu g measure (Took t ∷ more)) (Took t ∷ []) new (fed.Done after 1)
shrunk-before mu g after measure t new e = (omega arith, λ more. ap (λ x. Done x (Took t ∷ more)) (sym e))
