use Rattle.std.proofs.Common.{◌≡◌, ◌-ℤ◌, ◌∙◌, ap, subst, IfOk, to_z-of_z}
use Rattle.tx_pack.specs.declared.types.Packed.{Packed}
use Rattle.tx_pack.specs.Packing.{packed, packed_as, head_of, along}
use Rattle.tx_pack.specs.Verdicts.{verdict_of}
use Rattle.tx_pack.proofs.Runs.{set-fits}
use Rattle.tx_pack.proofs.packing.packed.Goals as goal

pub packed_as-requires-clause-is_box : goal.packed_as-requires-clause-is_box
packed_as-requires-clause-is_box c = record {
  nesting = c.requires.nesting;
  is_set = c.head_of-head.ensures.is_set;
  sums = set-fits c.args.direction c.head_of-head.result.setting c.args.list c.head_of-head.ensures.is_set c.requires.has_sums;
}

pub returns : goal.returns
unfolding packed
returns c =
    let size = to_z-of_z c.ranges.size in
    let heads = c.head_of-head.ensures.value ∙ ap (λ n. head_of c.args.direction c.args.sums.now n) size in
    let verdicts = c.verdict_for-verdict.ensures ∙ ap (λ n. verdict_of c.args.params.now c.args.list c.args.sums.now (n -ℤ along c.args.direction c.args.sums.now)) size in
    let P : Packed → Type 0 = λ x. IfOk c.packed_as.result (λ made. made ≡ x) in
    subst P (λ i. packed_as c.args.direction c.args.list c.args.params.now (heads i) (verdicts i)) c.packed_as.ensures
