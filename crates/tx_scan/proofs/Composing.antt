-- A scan as a part of a longer one.
use Rattle.std.proofs.Common.{◌≡◌, ◌≤◌, ℕ, zero, suc, List, [], ◌∷◌, ◌++◌, refl, ap, ◌∙◌, arith}
use Rattle.tx_seen.specs.declared.seen.Seen.{Seen}
use Rattle.tx_seen.specs.declared.item.Item.{Item}
use Rattle.tx_seen.specs.declared.item.Item.TheVariants.{Took}
use Rattle.tx_seen.specs.declared.fed.Fed.{Fed}
use Rattle.tx_seen.specs.declared.fed.Fed.TheVariants as fed
use Rattle.tx_seen.specs.declared.fed.Kind.{Kind}
use Rattle.tx_seen.specs.declared.fed.Want.{Want}
use Rattle.tx_seen.specs.Readings.{Reading, next}
use Rattle.tx_scan.specs.Rests.{kept, IsAnswer, IsEnd}
use Rattle.tx_scan.proofs.Answering.{same-answer}

-- more tokens may be held
pub answer-most : {S A : Type 0} (rest : S → List Item → Item → List Item → Reading A) (held : S → ℕ) (few most : ℕ) (reading : List Item → Reading A) (t : Seen) (new : S) (answer : Fed A) → few ≤ most → IsAnswer rest held few reading t new answer → IsAnswer rest held most reading t new answer
answer-most rest held few most reading t new (fed.More want) h k = k
answer-most rest held few most reading t new (fed.Need kind) h k = (k.0, omega (arith, h, k.1), k.2)
answer-most rest held few most reading t new (fed.Done value back) h k = (omega (arith, h, k.0), k.1)
answer-most rest held few most reading t new (fed.Wrong error) h k = k

-- the part goes on
pub more-next : {S T A B : Type 0} (part : S → List Item → Item → List Item → Reading A) (part_held : S → ℕ) (whole : T → List Item → Item → List Item → Reading B) (held : T → ℕ) (few most : ℕ) (reading : List Item → Reading A) (on : A → List Item → Reading B) (t : Seen) (scan : S) (new : T) (want : Want) → IsAnswer part part_held few reading t scan (fed.More want) → held new ≡ 0 → ((item : Item) (more : List Item) → next (part scan [] item more) on ≡ whole new [] item more) → IsAnswer whole held most (λ more. next (reading more) on) t new (fed.More want)
more-next part part_held whole held few most reading on t scan new want k h same = (
  ap (λ r. next r on) k.0,
  h,
  λ item more. ap (λ r. next r on) (k.2 item more) ∙ same item more,
)

pub need-next : {S T A B : Type 0} (part : S → List Item → Item → List Item → Reading A) (part_held : S → ℕ) (whole : T → List Item → Item → List Item → Reading B) (held : T → ℕ) (few most : ℕ) (reading : List Item → Reading A) (on : A → List Item → Reading B) (t : Seen) (scan : S) (new : T) (kind : Kind) → IsAnswer part part_held few reading t scan (fed.Need kind) → held new ≤ most → ((item : Item) (more : List Item) → next (part scan (kept (part_held scan) t) item more) on ≡ whole new (kept (held new) t) item more) → IsAnswer whole held most (λ more. next (reading more) on) t new (fed.Need kind)
need-next part part_held whole held few most reading on t scan new kind k h same = (
  ap (λ r. next r on) k.0,
  h,
  λ item more. ap (λ r. next r on) (k.2 item more) ∙ same item more,
)

-- the part has ended, and what is behind it goes on with the tokens that it gives back
pub done-next : {S T A B : Type 0} (part : S → List Item → Item → List Item → Reading A) (part_held : S → ℕ) (whole : T → List Item → Item → List Item → Reading B) (held : T → ℕ) (few most : ℕ) (reading : List Item → Reading A) (on : A → List Item → Reading B) (t : Seen) (scan : S) (new : T) (value : A) (back : ℕ) (answer : Fed B) → IsAnswer part part_held few reading t scan (fed.Done value back) → IsAnswer whole held most (λ more. on value (kept back t ++ more)) t new answer → IsAnswer whole held most (λ more. next (reading more) on) t new answer
done-next part part_held whole held few most reading on t scan new value back answer k later =
    same-answer whole held most (λ more. next (reading more) on) (λ more. on value (kept back t ++ more)) t new answer (λ more. ap (λ r. next r on) (k.1 more)) later

-- no token, or this one
pub none-back : (P : List Item → Type 0) (back : ℕ) (t : Seen) → back ≡ 0 → P [] → P (kept back t)
none-back P back t e p = rw e p

pub one-back : (P : List Item → Type 0) (back : ℕ) (t : Seen) → (back ≡ 0 → ⊥) → P (Took t ∷ []) → P (kept back t)
one-back P zero t e p = absurd (e refl)
one-back P (suc n) t e p = p

-- the whole ends where the part does
pub end-next : {T B : Type 0} (whole : T → List Item → Item → List Item → Reading B) (held : T → ℕ) (most : ℕ) (reading : List Item → Reading B) (t : Seen) (back : ℕ) (new : T) (answer : Fed B) → back ≤ most → IsEnd reading back answer → IsAnswer whole held most (λ more. reading (kept back t ++ more)) t new answer
end-next whole held most reading t back new (fed.More want) h k = absurd k
end-next whole held most reading t back new (fed.Need kind) h k = absurd k
end-next whole held most reading t back new (fed.Done value n) h k = (rw k.0 h, λ more. rw k.0 (k.1 (kept back t ++ more)))
end-next whole held most reading t back new (fed.Wrong error) h k = λ more. k (kept back t ++ more)
