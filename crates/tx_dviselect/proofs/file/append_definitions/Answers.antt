use Rattle.std.proofs.Common.{◌≡◌, ℕ, zero, suc, ◌-◌, ◌<◌, List, ◌++◌, sym, ap, ◌∙◌, arith, append_assoc}
use Rattle.std.specs.List.{flat_map}
use Rattle.std.proofs.lemmas.List.{append-nil}
use Rattle.tx_dvi.specs.declared.font.FontDefinition.{FontDefinition}
use Rattle.tx_dvi.specs.Dvi.{definition_bytes, definitions_below, numbered}
use Rattle.tx_dviselect.proofs.file.append_definitions.Goals as goal

-- the definitions below a bound begin with those below the next lower one's number
step : (n : ℕ) (fonts : List FontDefinition) → 0 < n → definitions_below n fonts ≡ flat_map definition_bytes (numbered (n - 1) fonts) ++ definitions_below (n - 1) fonts
unfolding definitions_below
step zero fonts h = absurd (omega arith)
step (suc n) fonts h =
    let same : n ≡ suc n - 1 = omega arith in
    λ i. flat_map definition_bytes (numbered (same i) fonts) ++ definitions_below (same i) fonts

pub loop-below-preserved : goal.loop-below-preserved
loop-below-preserved c =
    let below : ℕ = c.loop-below.below in
    let rest : List ℕ = definitions_below (below - 1) c.args.fonts.now in (
      omega arith,
      ap (λ file. file ++ rest) c.in_ok-append_numbered.ensures
          ∙ append_assoc c.loop-below.file (flat_map definition_bytes (numbered (below - 1) c.args.fonts.now)) rest
          ∙ ap (λ bytes. c.loop-below.file ++ bytes) (sym (step below c.args.fonts.now (omega arith))) ∙ c.loop-below.invariant.1,
    )

pub returns : goal.returns
unfolding definitions_below
returns c =
    let none : 0 ≡ c.loop-below.below = omega arith in
    sym (append-nil c.loop-below.file) ∙ ap (λ n. c.loop-below.file ++ definitions_below n c.args.fonts.now) none ∙ c.loop-below.invariant.1
