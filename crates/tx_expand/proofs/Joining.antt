-- What takes a token where it stands: the use of a macro, and skipped text.
use Rattle.std.proofs.Common.{◌≡◌, ℕ, zero, suc, Bool, true, false, List, [], ◌∷◌, refl, ap, subst, sym, ◌∙◌, Result, Ok, Err, IfOk}
use Rattle.tx_char.specs.declared.category.Cat.{Cat}
use Rattle.tx_char.specs.declared.tokens.Token.{Token}
use Rattle.tx_char.specs.declared.tokens.Token.TheVariants.{Character}
use Rattle.tx_cond.specs.declared.types.Conditional.{Conditional}
use Rattle.tx_cond.specs.declared.types.SkipItem.{SkipItem}
use Rattle.tx_cond.specs.declared.types.SkipItem.TheVariants.{If, Word, Other, Outer, EndOfFile}
use Rattle.tx_cond.specs.Skipping.{Inside, item_of, passing}
use Rattle.tx_seen.specs.declared.seen.Seen.{Seen}
use Rattle.tx_expand.specs.declared.begun.Begun.{Begun}
use Rattle.tx_expand.specs.declared.begun.Begun.TheVariants as begun
use Rattle.tx_expand.specs.declared.state.Expander.{Expander}
use Rattle.tx_expand.specs.declared.types.Expanded.TheVariants as answer
use Rattle.tx_expand.specs.Expanding.{reader}
use Rattle.tx_expand.specs.Reader.{Goes, Reader, Turn, World}
use Rattle.tx_expand.specs.Steps.{HasJoined}
use Rattle.tx_expand.specs.Taken.{HasTakenIn, HasUseJoined, IsJoinedBegun, IsJoinedFirst, IsTakenIn, IsUseJoined, character}
use Rattle.tx_expand.specs.Turns.{given_to, is_matching, is_opening, is_other, is_skipping, magnification_taken, skips_on, token_read, use_on, with_begun, IsTurned}
use Rattle.tx_expand.specs.Uses.{Use, with_taken}
use Rattle.tx_expand.proofs.Turning.{is-skipping}

-- the use of a macro, if the innermost expansion is one
is-matching : (bs : List Begun) → is_matching bs ≡ true → (u : Use) × ((outer : List Begun) × (bs ≡ begun.Use u ∷ outer))
is-matching [] is = absurd (cc)
is-matching (begun.Use u ∷ outer) is = (u, (outer, refl))
is-matching (begun.After ∷ outer) is = absurd (cc)
is-matching (begun.Before t ∷ outer) is = absurd (cc)
is-matching (begun.Once ∷ outer) is = absurd (cc)
is-matching (begun.Hold ∷ outer) is = absurd (cc)
is-matching (begun.Print what ∷ outer) is = absurd (cc)
is-matching (begun.Scanning scan ∷ outer) is = absurd (cc)
is-matching (begun.Skipping depth ∷ outer) is = absurd (cc)
is-matching (begun.Opening ∷ outer) is = absurd (cc)

-- a token joins it, or doesn't
pub joins-by : {E : Type 0} (b : Begun) (u new : Use) (t : Token) (given : Result Bool E) → b ≡ begun.Use u → IfOk given (λ joined. HasJoined u t joined new) → IfOk given (λ joined. IsJoinedBegun b t joined (begun.Use new))
joins-by b u new t (Ok joined) is k = λ other also. let same : other ≡ u = cc in (new, (refl, rw same k))
joins-by b u new t (Err e) is k = tt

joined-so : (bs new : List Begun) (t : Token) (joined : Bool) → is_matching bs ≡ true → IsJoinedFirst bs t joined new → HasUseJoined bs t joined new
joined-so bs new t true is k =
    let first = is-matching bs is in
    let left = k first.0 first.1.0 first.1.1 in
    record { usage = first.0; outer = first.1.0; was = first.1.1; open_still = left.1.1.0; is = left.1.0 ∙ ap (λ (u : Use). begun.Use u ∷ first.1.0) left.1.1.1 }
joined-so bs new t false is k =
    let first = is-matching bs is in
    let left = k first.0 first.1.0 first.1.1 in
    left.1.0 ∙ ap (λ (u : Use). begun.Use u ∷ first.1.0) left.1.1 ∙ sym first.1.1

pub joined-first : {E : Type 0} (bs new : List Begun) (t : Token) (given : Result Bool E) → is_matching bs ≡ true → IfOk given (λ joined. IsJoinedFirst bs t joined new) → IfOk given (λ joined. HasUseJoined bs t joined new)
joined-first bs new t (Ok joined) is k = joined-so bs new t joined is k
joined-first bs new t (Err e) is k = tt

-- a turn of a token that has joined goes on
pub joined-turned : (w : World) (t : Seen) (r : Reader) (new : List Begun) (joined : Bool) → joined ≡ true → HasUseJoined r.begun t.token joined new → IsTurned (given_to w t r r.begun) (with_begun new r) answer.Went
joined-turned w t r new true is k =
    let goes : given_to w t r r.begun ≡ Goes answer.Went (with_begun new r) =
    ap (given_to w t r) k.was
    ∙ ap (use_on t.token (with_taken k.usage t.token) (with_begun k.outer r)) k.open_still
    ∙ ap (λ (bs : List Begun). Goes answer.Went (with_begun bs r)) (sym k.is) in
    subst (λ (turn : Turn). IsTurned turn (with_begun new r) answer.Went) (sym goes) (refl, refl)
joined-turned w t r new false is k = absurd (cc)

-- where none has, all is as it was
pub not-joined : (old new : List Begun) (t : Token) (joined : Bool) → joined ≡ false → HasUseJoined old t joined new → new ≡ old
not-joined old new t true is k = absurd (cc)
not-joined old new t false is k = k

-- a character joins the use of a macro
use-character : (old new : Expander) (code : ℕ) (kind : Cat) → IsUseJoined old.begun (Character code kind) new.begun → new.conditionals ≡ old.conditionals → new.job ≡ old.job → IsTakenIn old (character code kind) new
use-character old new code kind k conditionals job = record {
  opening = ap is_opening k.was;
  reads = λ w wanted input.
      ap (λ (bs : List Begun). token_read w wanted (character code kind) (reader bs input old.conditionals old.job)) k.was
      ∙ ap (use_on (Character code kind) (with_taken k.usage (Character code kind)) (reader k.outer input old.conditionals old.job)) k.open_still
      ∙ ap (λ (bs : List Begun). Goes answer.Went (reader bs input old.conditionals old.job)) (sym k.is)
      ∙ ap (λ (cs : List Conditional). Goes answer.Went (reader new.begun input cs old.job)) (sym conditionals)
      ∙ ap (λ (name : List ℕ). Goes answer.Went (reader new.begun input new.conditionals name)) (sym job);
  silent = ap magnification_taken k.is;
}

pub use-taken : {E : Type 0} (old new : Expander) (code : ℕ) (kind : Cat) (given : Result Bool E) → new.conditionals ≡ old.conditionals → new.job ≡ old.job → IfOk given (λ joined. HasUseJoined old.begun (Character code kind) joined new.begun) → IfOk given (λ taken. HasTakenIn old (character code kind) taken new)
use-taken old new code kind (Ok true) conditionals job k = use-character old new code kind k conditionals job
use-taken old new code kind (Ok false) conditionals job k = λ input.
    ap (λ (bs : List Begun). reader bs input new.conditionals new.job) k
    ∙ ap (λ (cs : List Conditional). reader old.begun input cs new.job) conditionals
    ∙ ap (λ (name : List ℕ). reader old.begun input old.conditionals name) job
use-taken old new code kind (Err e) conditionals job k = tt

-- skipped text goes on behind a character
passes-other : (depth : ℕ) → passing depth Other ≡ Inside depth
passes-other zero = refl
passes-other (suc depth) = refl

other-is : (item : SkipItem) → is_other item ≡ true → item ≡ Other
other-is If is = absurd (cc)
other-is (Word word) is = absurd (cc)
other-is Other is = refl
other-is Outer is = absurd (cc)
other-is EndOfFile is = absurd (cc)

-- and behind any token that is nothing to it
pub skipped-other : (w : World) (t : Seen) (r : Reader) (item : SkipItem) → is_skipping r.begun ≡ true → item ≡ item_of t.meaning → is_other item ≡ true → IsTurned (given_to w t r r.begun) (with_begun r.begun r) answer.Went
skipped-other w t r item is item_is other =
    let first = is-skipping r.begun is in
    let same : item_of t.meaning ≡ Other = sym item_is ∙ other-is item other in
    let goes : given_to w t r r.begun ≡ Goes answer.Went (with_begun r.begun r) =
    ap (given_to w t r) first.1.1
    ∙ ap (λ (found : SkipItem). skips_on t.token (with_begun first.1.0 r) (passing first.0 found)) same
    ∙ ap (skips_on t.token (with_begun first.1.0 r)) (passes-other first.0)
    ∙ ap (λ (bs : List Begun). Goes answer.Went (with_begun bs r)) (sym first.1.1) in
    subst (λ (turn : Turn). IsTurned turn (with_begun r.begun r) answer.Went) (sym goes) (refl, refl)

pub skip-taken : (old : Expander) (code : ℕ) (kind : Cat) → is_skipping old.begun ≡ true → IsTakenIn old (character code kind) old
skip-taken old code kind is =
    let first = is-skipping old.begun is in
    record {
      opening = ap is_opening first.1.1;
      reads = λ w wanted input.
          ap (λ (bs : List Begun). token_read w wanted (character code kind) (reader bs input old.conditionals old.job)) first.1.1
          ∙ ap (skips_on (Character code kind) (reader first.1.0 input old.conditionals old.job)) (passes-other first.0)
          ∙ ap (λ (bs : List Begun). Goes answer.Went (reader bs input old.conditionals old.job)) (sym first.1.1);
      silent = ap magnification_taken first.1.1;
    }
