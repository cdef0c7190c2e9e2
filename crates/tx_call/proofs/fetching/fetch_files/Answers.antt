use Rattle.std.proofs.Common.{◌≡◌, ◌+◌, ◌++◌, ◌∷◌, [], suc, ℕ, List, refl, sym, ap, ◌∙◌, subst, take, arith}
use Rattle.std.proofs.Math.Seq.{take-suc}
use Rattle.std.proofs.lemmas.List.{take_all}
use Rattle.tx_bytes.specs.Files.{Files}
use Rattle.std.specs.Prelude.{Option}
use Rattle.tx_call.specs.Fetching.{Fetches}
use Rattle.tx_call.proofs.ListedFiles.{AreFetched, none_fetched, one_more, all_fetched, not_among_item}
use Rattle.tx_call.proofs.fetching.fetch_files.Goals as goal

pub loop-name-init : goal.loop-name-init
loop-name-init g c = record { fetched = none_fetched _ _ c.new-files.ensures; kept = refl; counted = refl }

pub loop-name-preserved : goal.loop-name-preserved
loop-name-preserved g c =
    let i = c.loop-name.name-index in
    let names = c.args.names.now in
    let before : AreFetched (g.S.Source.holds c.args.source.now) (take i names) c.loop-name.files = c.loop-name.invariant.fetched in
    let one : Fetches (g.S.Source.holds c.args.source.now) c.loop-name.files c.name-item.result c.fetch_into.new.files =
    subst (λ (h : Option Files). Fetches h c.loop-name.files c.name-item.result c.fetch_into.new.files) c.loop-name.invariant.kept c.in_ok-fetch_into.ensures.fetched in
    let one_up : i + 1 ≡ suc i = omega arith in
    let next : take (i + 1) names ≡ take i names ++ c.name-item.result ∷ [] =
    ap (λ n. take n names) one_up ∙ take-suc names i c.name-item.result (omega arith) ∙ ap (λ n. take i names ++ n ∷ []) (sym c.name-item.is) in
    record {
      fetched = subst (λ (done : List (List ℕ)). AreFetched (g.S.Source.holds c.args.source.now) done c.fetch_into.new.files) (sym next)
          (one_more _ (take i names) c.name-item.result _ _ (not_among_item names i c.name-item.result c.requires (omega arith) c.name-item.is) before one);
      kept = c.in_ok-fetch_into.ensures.holds ∙ c.loop-name.invariant.kept;
      counted = c.in_ok-fetch_into.ensures.causes ∙ c.loop-name.invariant.counted;
    }

pub returns-clause-files : goal.returns-clause-files
returns-clause-files g c =
    all_fetched _ c.args.names.now _
    (subst (λ (done : List (List ℕ)). AreFetched (g.S.Source.holds c.args.source.now) done c.loop-name.files) (take_all c.loop-name.name-index c.args.names.now (omega arith)) c.loop-name.invariant.fetched)
