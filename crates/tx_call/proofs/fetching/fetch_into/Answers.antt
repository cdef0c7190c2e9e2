use Rattle.std.proofs.Common.{◌≡◌, rules, ℕ, List, Some, None, subst}
use Rattle.std.specs.Prelude.{IfSome}
use Rattle.tx_bytes.specs.Files.{content}
use Rattle.tx_call.proofs.fetching.fetch_into.Goals as goal

pub returns-in_ok-put-in-Found-clause-fetched : goal.returns-in_ok-put-in-Found-clause-fetched
returns-in_ok-put-in-Found-clause-fetched g c = record {
  answer = Some c.in-Found.bytes;
  are_told = subst (λ (name : List ℕ). IfSome (g.S.Source.holds c.args.source.now) (λ held. content held name ≡ Some c.in-Found.bytes)) c.as_slice.ensures.bytes c.in-Found.ensures.gives;
  files_are = search rules;
}

pub returns-in-Absent-clause-fetched : goal.returns-in-Absent-clause-fetched
returns-in-Absent-clause-fetched g c = record {
  answer = None;
  are_told = subst (λ (name : List ℕ). IfSome (g.S.Source.holds c.args.source.now) (λ held. content held name ≡ None)) c.as_slice.ensures.bytes c.in-Absent.ensures.gives;
  files_are = search rules;
}
