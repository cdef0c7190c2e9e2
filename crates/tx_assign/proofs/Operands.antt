-- An optional `by` and the value behind it.
use Rattle.std.proofs.Common.{◌≡◌, ◌⊎◌, inl, inr, ◌≤◌, ℕ, zero, suc, Bool, true, false, List, [], ◌∷◌, ◌++◌, drop, length, Option, Some, Result, Ok, Err, IfOk, refl, ap, ◌∙◌, ◌&&◌, not, arith}
use Rattle.std.specs.Prelude.{codes, if◌then◌else◌}
use Rattle.tx_prim.specs.declared.family.Operation.{Operation}
use Rattle.tx_seen.specs.declared.error.TexError.{TexError}
use Rattle.tx_seen.specs.declared.fed.Fed.{Fed}
use Rattle.tx_seen.specs.declared.fed.Fed.TheVariants as fed
use Rattle.tx_seen.specs.declared.fed.Want.{Want}
use Rattle.tx_seen.specs.declared.item.Item.{Item}
use Rattle.tx_seen.specs.declared.item.Item.TheVariants.{Took, Gave}
use Rattle.tx_seen.specs.declared.place.Place.{Place}
use Rattle.tx_seen.specs.Places.{is_muglue}
use Rattle.tx_seen.specs.declared.seen.Seen.{Seen}
use Rattle.tx_seen.specs.Seen.{is_key, is_space, is_undefined}
use Rattle.tx_seen.specs.declared.fed.Want.TheVariants.{Expanded}
use Rattle.tx_seen.specs.declared.error.TexError.TheVariants.{MissingNumber, Undefined}
use Rattle.tx_seen.specs.Readings.{Reading, More, Done, Wrong, next, ending}
use Rattle.tx_scan.specs.declared.scans.KeyScan.{KeyScan}
use Rattle.tx_scan.specs.Keywords.{letters, word_rest, rest, held, begun_word, IsGone}
use Rattle.tx_scan.specs.Rests.{IsFedBy}
use Rattle.tx_scan.proofs.Answering.{same-answer, ending-all}
use Rattle.tx_assign.specs.declared.scan.AssignScan.{AssignScan}
use Rattle.tx_assign.specs.declared.scan.AssignStage.TheVariants as stage
use Rattle.tx_assign.specs.declared.types.Assignment.{Assignment}
use Rattle.tx_assign.specs.declared.types.Purpose.TheVariants.{Compute}
use Rattle.tx_scan.specs.Dimensions.{dimension, lengths}
use Rattle.tx_scan.specs.Glues.{glue}
use Rattle.tx_scan.specs.Integers.{integer}
use Rattle.tx_seen.specs.declared.fed.Value.{Value}
use Rattle.tx_assign.specs.declared.types.Purpose.{Purpose}
use Rattle.tx_assign.specs.Targets.{takes_glue, takes_list, takes_size}
use Rattle.tx_assign.specs.Assignments.{elastic, list_value, value, valued, sized, operand, behind_place}
use Rattle.tx_assign.specs.Rests.{by_rest, behind_by, IsAssigning, IsBehind}
use Rattle.tx_assign.specs.Rests as rests
use Rattle.tx_assign.proofs.Steps.{same-behind}

abbrev pub by : List ℕ
by = codes "by"

-- both readings go on alike
alike : (u k : Bool) (e a b d f : Reading Bool) (on off : Bool → List Item → Reading Assignment) → next e on ≡ next e off → next a on ≡ next b off → next d on ≡ next f off → next (if u then e else (if k then a else d)) on ≡ next (if u then e else (if k then b else f)) off
alike true k e a b d f on off x y z = x
alike false true e a b d f on off x y z = y
alike false false e a b d f on off x y z = z

-- the letters behind a b, which begins no value
behind-letter : (operation : Operation) (p : Place) (read : ℕ) (word : List ℕ) (t : Seen) (whole some items : List Item) → is_key 98 t ≡ true → next (letters word (Took t ∷ whole) items) (operand operation p) ≡ next (letters word some items) (behind_by (suc read) operation p)
behind-letter operation p read [] t whole some items h = refl
behind-letter operation p read (c ∷ word) t whole some [] h = refl
behind-letter operation p read (c ∷ word) t whole some (Gave v ∷ rest) h = rw h refl
behind-letter operation p read (c ∷ word) t whole some (Took s ∷ rest) h =
    alike (is_undefined s) (is_key c s) (Wrong Undefined) (letters word (Took t ∷ whole) rest) (letters word some rest) (Done false (Took t ∷ whole)) (Done false some) (operand operation p) (behind_by (suc read) operation p) refl
    (behind-letter operation p read word t whole some rest h) (rw h refl)

-- behind a b the next token ends the word
no-more-if : (u k : Bool) (xs ys : List Item) (want : Want) → (if u then Wrong Undefined else (if k then Done true xs else Done false ys)) ≡ More want → ⊥
no-more-if true k xs ys want e = absurd (cc)
no-more-if false true xs ys want e = absurd (cc)
no-more-if false false xs ys want e = absurd (cc)

no-more : (read : ℕ) (t : Seen) (want : Want) → word_rest by (suc read) [] (Took t) [] ≡ More want → ⊥
no-more zero t want e = no-more-if (is_undefined t) (is_key 121 t) [] (Took t ∷ []) want e
no-more (suc zero) t want e = absurd (cc)
no-more (suc (suc read)) t want e = absurd (cc)

-- a word that breaks off at once doesn't begin with this token
no-letter-if : (s u k : Bool) (d : Reading Bool) (xs : List Item) → (if s && not k then More Expanded else (if u then Wrong Undefined else (if k then More Expanded else d))) ≡ Done false xs → k ≡ false
no-letter-if s u false d xs e = refl
no-letter-if true true true d xs e = absurd (cc)
no-letter-if true false true d xs e = absurd (cc)
no-letter-if false true true d xs e = absurd (cc)
no-letter-if false false true d xs e = absurd (cc)

no-letter : (t : Seen) (xs : List Item) → word_rest by 0 [] (Took t) [] ≡ Done false xs → is_key 98 t ≡ false
no-letter t xs e = no-letter-if (is_space t) (is_undefined t) (is_key 98 t) (Done false (Took t ∷ [])) xs e

-- a b is read
is-letter : (now : ℕ) (t : Seen) → (suc now ≡ 0) ⊎ (is_key 98 t ≡ true) → is_key 98 t ≡ true
is-letter now t (inl e) = absurd (omega (arith, e))
is-letter now t (inr e) = e

-- the word goes on
goes-on : (operation : Operation) (p : Place) (read now : ℕ) (t : Seen) (want : Want) → word_rest by read [] (Took t) [] ≡ More want → ((item : Item) (more : List Item) → word_rest by read [] (Took t) (item ∷ more) ≡ word_rest by now (ending now (Took t ∷ [])) item more) → (read ≡ 0 → (now ≡ 0) ⊎ (is_key 98 t ≡ true)) → (item : Item) (more : List Item) → next (word_rest by read [] (Took t) (item ∷ more)) (behind_by read operation p) ≡ next (word_rest by now [] item more) (behind_by now operation p)
goes-on operation p (suc read) now t want e k g item more = absurd (no-more read t want e)
goes-on operation p zero zero t want e k g item more = ap (λ r. next r (operand operation p)) (k item more)
goes-on operation p zero (suc now) t want e k g item more =
    ap (λ r. next r (operand operation p)) (k item more ∙ ap (λ (xs : List Item). letters (drop (suc now) by) (xs ++ item ∷ more) (item ∷ more)) (ending-all (suc now) (Took t ∷ []) (omega arith)))
    ∙ behind-letter operation p now (drop (suc now) by) t (item ∷ more) (item ∷ more) (item ∷ more) (is-letter now t (g refl))

-- what an answer to the letter of a `by` says
on-true : (read : ℕ) (operation : Operation) (p : Place) (more : List Item) → behind_by read operation p true more ≡ value (Compute operation) p more
on-true zero operation p more = refl
on-true (suc read) operation p more = refl

pub by-more : (old : AssignScan) (word now : KeyScan) (operation : Operation) (t : Seen) (want : Want) → IsFedBy (rest by) held word t now (fed.More want) → IsGone by word t now (fed.More want) → IsAssigning 0 (λ more. by_rest word operation old.place (Took t) more) t (record old { stage = stage.By operation now }) (fed.More want)
by-more old word now operation t want k g =
    let read = k [] (omega arith) in (
      ap (λ r. next r (behind_by word.read operation old.place)) read.0,
      refl,
      goes-on operation old.place word.read now.read t want read.0 read.2 g,
    )

pub by-wrong : (new : AssignScan) (word now : KeyScan) (operation : Operation) (p : Place) (t : Seen) (error : TexError) → IsFedBy (rest by) held word t now (fed.Wrong error) → IsAssigning 0 (λ more. by_rest word operation p (Took t) more) t new (fed.Wrong error)
by-wrong new word now operation p t error k = λ more. ap (λ r. next r (behind_by word.read operation p)) (k [] (omega arith) more)

pub by-ends : (new : AssignScan) (word now : KeyScan) (operation : Operation) (p : Place) (t : Seen) (found : Bool) (back : ℕ) (answer : Fed (Unit {0})) → IsFedBy (rest by) held word t now (fed.Done found back) → found ≡ true → back ≡ 0 → IsAssigning 0 (λ more. value (Compute operation) p more) t new answer → IsAssigning 0 (λ more. by_rest word operation p (Took t) more) t new answer
by-ends new word now operation p t found back answer k e none later =
    same-answer rests.rest rests.held 0 (λ more. by_rest word operation p (Took t) more) (λ more. value (Compute operation) p more) t new (rests.told new answer)
    (λ more. ap (λ r. next r (behind_by word.read operation p)) ((k [] (omega arith)).1 more ∙ ap (λ (b : Bool). Done b (ending back (Took t ∷ []) ++ more)) e) ∙ on-true word.read operation p (ending back (Took t ∷ []) ++ more) ∙ ap (λ (n : ℕ). value (Compute operation) p (ending n (Took t ∷ []) ++ more)) none)
    later

one-back : (back : ℕ) (t : Seen) → (back ≡ 0 → ⊥) → ending back (Took t ∷ []) ≡ Took t ∷ []
one-back zero t h = absurd (h refl)
one-back (suc back) t h = ending-all (suc back) (Took t ∷ []) (omega arith)

pub by-before : {E : Type 0} (new : AssignScan) (word now : KeyScan) (operation : Operation) (p : Place) (t : Seen) (found : Bool) (back : ℕ) (answer : Result (Fed (Unit {0})) E) → IsFedBy (rest by) held word t now (fed.Done found back) → found ≡ true → (back ≡ 0 → ⊥) → IfOk answer (IsBehind (λ more. value (Compute operation) p (Took t ∷ more)) t new) → IfOk answer (IsBehind (λ more. by_rest word operation p (Took t) more) t new)
by-before new word now operation p t found back (Ok answer) k e some later =
    same-behind {E = ⊥} (λ more. by_rest word operation p (Took t) more) (λ more. value (Compute operation) p (Took t ∷ more)) t new (Ok answer)
    (λ more. ap (λ r. next r (behind_by word.read operation p)) ((k [] (omega arith)).1 more ∙ ap (λ (b : Bool). Done b (ending back (Took t ∷ []) ++ more)) e) ∙ on-true word.read operation p (ending back (Took t ∷ []) ++ more) ∙ ap (λ (xs : List Item). value (Compute operation) p (xs ++ more)) (one-back back t some))
    later
by-before new word now operation p t found back (Err error) k e some later = tt

-- no letter of it is there
none-there : (operation : Operation) (p : Place) (read : ℕ) (t : Seen) → read ≡ 0 → ((more : List Item) → word_rest by read [] (Took t) more ≡ Done false (Took t ∷ more)) → (more : List Item) → next (word_rest by read [] (Took t) more) (behind_by read operation p) ≡ value (Compute operation) p (Took t ∷ more)
none-there operation p (suc read) t e k more = absurd (omega (arith, e))
none-there operation p zero t e k more = ap (λ r. next r (operand operation p)) (k more) ∙ rw (no-letter t (Took t ∷ []) (k [])) refl

pub by-none : {E : Type 0} (new : AssignScan) (word now : KeyScan) (operation : Operation) (p : Place) (t : Seen) (found : Bool) (back : ℕ) (answer : Result (Fed (Unit {0})) E) → IsFedBy (rest by) held word t now (fed.Done found back) → IsGone by word t now (fed.Done found back) → found ≡ false → back ≡ 1 → IfOk answer (IsBehind (λ more. value (Compute operation) p (Took t ∷ more)) t new) → IfOk answer (IsBehind (λ more. by_rest word operation p (Took t) more) t new)
by-none new word now operation p t true back answer k g e one later = absurd (cc)
by-none new word now operation p t false back (Ok answer) k g e one later =
    same-behind {E = ⊥} (λ more. by_rest word operation p (Took t) more) (λ more. value (Compute operation) p (Took t ∷ more)) t new (Ok answer)
    (none-there operation p word.read t (omega (arith, g, one)) (λ more. (k [] (omega arith)).1 more ∙ ap (λ (xs : List Item). Done false (xs ++ more)) (one-back back t (λ z. omega (arith, z, one)))))
    later
by-none new word now operation p t false back (Err error) k g e one later = tt

-- an optional `by` of which nothing is read
pub by-begun : (o : Option Operation) (operation : Operation) (old new : AssignScan) (word : KeyScan) (t : Seen) (answer : Fed (Unit {0})) → o ≡ Some operation → word ≡ begun_word → new ≡ record old { stage = stage.By operation word } → answer ≡ fed.More Expanded → IsAssigning 0 (λ more. behind_place o old.place more) t new answer
by-begun o operation old new word t answer e w n a = rw (e, n, a, w) (refl, refl, λ item more. refl)

pub by-first : {E : Type 0} (o : Option Operation) (operation : Operation) (p : Place) (word : KeyScan) (t : Seen) (new : AssignScan) (answer : Result (Fed (Unit {0})) E) → o ≡ Some operation → word ≡ begun_word → IfOk answer (IsBehind (λ more. by_rest word operation p (Took t) more) t new) → IfOk answer (IsBehind (λ more. behind_place o p (Took t ∷ more)) t new)
by-first o operation p word t new answer e w k = rw e (rw w at k)

-- no value is needed there
given-if : (l g b : Bool) (purpose : Purpose) (p : Place) (v : Value) (more : List Item) → (if l then list_value p (Gave v ∷ more) else (if g then next (glue (is_muglue p) (Gave v ∷ more)) (elastic purpose p) else (if b then next (dimension lengths (Gave v ∷ more)) (sized purpose p) else next (integer (Gave v ∷ more)) (valued purpose p)))) ≡ Wrong MissingNumber
given-if true g b purpose p v more = refl
given-if false true b purpose p v more = refl
given-if false false true purpose p v more = refl
given-if false false false purpose p v more = refl

value-given : (purpose : Purpose) (p : Place) (v : Value) (more : List Item) → value purpose p (Gave v ∷ more) ≡ Wrong MissingNumber
value-given purpose p v more = given-if (takes_list purpose p) (takes_glue purpose p) (takes_size purpose p) purpose p v more

letters-given : (read : ℕ) (word : List ℕ) (operation : Operation) (p : Place) (v : Value) (more : List Item) → next (letters word (Gave v ∷ more) (Gave v ∷ more)) (behind_by (suc read) operation p) ≡ Wrong MissingNumber
letters-given read [] operation p v more = value-given (Compute operation) p v more
letters-given read (c ∷ word) operation p v more = refl

word-given : (read : ℕ) (operation : Operation) (p : Place) (v : Value) (more : List Item) → next (word_rest by read [] (Gave v) more) (behind_by read operation p) ≡ Wrong MissingNumber
word-given zero operation p v more = value-given (Compute operation) p v more
word-given (suc read) operation p v more = letters-given read (drop (suc read) by) operation p v more

pub by-given : (scan : AssignScan) (operation : Operation) (word : KeyScan) (v : Value) → scan.stage ≡ stage.By operation word → (behind : List Item) → length behind ≤ rests.held scan → (more : List Item) → rests.rest scan behind (Gave v) more ≡ Wrong MissingNumber
by-given scan operation word v s = λ behind short more. rw s (word-given word.read operation scan.place v more)

-- it breaks off behind its b
broken : (operation : Operation) (p : Place) (read : ℕ) (found : Bool) (xs : List Item) → (read ≡ 0 → ⊥) → found ≡ false → behind_by read operation p found xs ≡ Wrong MissingNumber
broken operation p zero found xs h e = absurd (h refl)
broken operation p (suc read) true xs h e = absurd (cc)
broken operation p (suc read) false xs h e = refl

pub by-broken : (new : AssignScan) (word now : KeyScan) (operation : Operation) (p : Place) (t : Seen) (back : ℕ) → IsFedBy (rest by) held word t now (fed.Done false back) → IsGone by word t now (fed.Done false back) → (back ≡ 1 → ⊥) → IsAssigning 0 (λ more. by_rest word operation p (Took t) more) t new (fed.Wrong MissingNumber)
by-broken new word now operation p t back k g more-than-one = λ more.
    ap (λ r. next r (behind_by word.read operation p)) ((k [] (omega arith)).1 more)
    ∙ broken operation p word.read false (ending back (Took t ∷ []) ++ more) (λ e. more-than-one (omega (arith, g, e))) refl
