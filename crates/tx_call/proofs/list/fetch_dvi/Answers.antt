use Rattle.std.proofs.Common.{◌≡◌, ℕ, List, Some, None, refl, subst}
use Rattle.std.specs.Prelude.{IfSome}
use Rattle.tx_bytes.specs.Files.{content}
use Rattle.tx_call.specs.Listing.{IsListed, listed_as}
use Rattle.tx_call.proofs.list.fetch_dvi.Goals as goal

pub returns-in_ok-read_dvi-in-Found-clause-read : goal.returns-in_ok-read_dvi-in-Found-clause-read
returns-in_ok-read_dvi-in-Found-clause-read g c = record {
  bytes = Some c.in-Found.bytes;
  are_told = subst (λ (name : List ℕ). IfSome (g.S.Source.holds c.args.source.now) (λ held. content held name ≡ Some c.in-Found.bytes)) c.as_slice.ensures.bytes c.in-Found.ensures.gives;
  reading = subst (λ (bytes : List ℕ). c.in_ok-read_dvi-in-Found.field-0 ≡ listed_as (Some bytes)) c.as_slice-in-Found.ensures c.in_ok-read_dvi-in-Found.ensures.read;
  is_so = subst (λ (bytes : List ℕ). IsListed (Some bytes) c.in_ok-read_dvi-in-Found.field-0) c.as_slice-in-Found.ensures c.in_ok-read_dvi-in-Found.ensures.is;
}

pub returns-in-Absent-clause-read : goal.returns-in-Absent-clause-read
returns-in-Absent-clause-read g c = record {
  bytes = None;
  are_told = subst (λ (name : List ℕ). IfSome (g.S.Source.holds c.args.source.now) (λ held. content held name ≡ None)) c.as_slice.ensures.bytes c.in-Absent.ensures.gives;
  reading = refl;
  is_so = tt;
}
