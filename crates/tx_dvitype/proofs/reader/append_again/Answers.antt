use Rattle.std.proofs.Common.{◌≡◌, ℕ, zero, suc, ◌-◌, ◌<◌, List, ◌++◌, sym, ap, ◌∙◌, arith, append_assoc}
use Rattle.std.proofs.lemmas.List.{append-nil}
use Rattle.tx_dvitype.specs.Files.{all_bytes, again_below, numbered_as}
use Rattle.tx_dvitype.proofs.reader.append_again.Goals as goal

-- the definitions below a bound begin with those below the next lower one's number
step : (n : ℕ) (definitions : List (List ℕ)) → 0 < n → again_below n definitions ≡ all_bytes (numbered_as (n - 1) definitions) ++ again_below (n - 1) definitions
unfolding again_below
step zero definitions h = absurd (omega arith)
step (suc n) definitions h =
    let same : n ≡ suc n - 1 = omega arith in
    λ i. all_bytes (numbered_as (same i) definitions) ++ again_below (same i) definitions

pub loop-below-preserved : goal.loop-below-preserved
loop-below-preserved c =
    let below : ℕ = c.loop-below.below in
    let rest : List ℕ = again_below (below - 1) c.args.definitions.now in (
      omega arith,
      ap (λ file. file ++ rest) c.in_ok-append_numbered.ensures
          ∙ append_assoc c.loop-below.file (all_bytes (numbered_as (below - 1) c.args.definitions.now)) rest
          ∙ ap (λ bytes. c.loop-below.file ++ bytes) (sym (step below c.args.definitions.now (omega arith))) ∙ c.loop-below.invariant.1,
    )

pub returns : goal.returns
unfolding again_below
returns c =
    let none : 0 ≡ c.loop-below.below = omega arith in
    sym (append-nil c.loop-below.file) ∙ ap (λ n. c.loop-below.file ++ again_below n c.args.definitions.now) none ∙ c.loop-below.invariant.1
