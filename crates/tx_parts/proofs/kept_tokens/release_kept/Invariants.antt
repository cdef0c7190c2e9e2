use Rattle.std.proofs.Common.{◌≡◌, [], length}
use Rattle.tx_pending.specs.Elements.{given_back}
use Rattle.tx_parts.specs.KeptTokens.{kept_tokens, left_after}
use Rattle.tx_parts.proofs.kept_tokens.release_kept.Given as goal

-- the tokens that are kept still stand before those that are in front again
abbrev pub invariant-loop-token : goal.invariant-loop-token
invariant-loop-token l = record {
  left : left_after l.groups l.after_groups ≡ left_after l.groups l.initial.after_groups;
  input : given_back l.input (kept_tokens l.groups l.after_groups []) ≡ given_back l.initial.input (kept_tokens l.groups l.initial.after_groups []);
}

abbrev pub decreases-loop-token : goal.decreases-loop-token
decreases-loop-token l = length l.after_groups
