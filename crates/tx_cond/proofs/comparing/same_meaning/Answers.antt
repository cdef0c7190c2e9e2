use Rattle.std.proofs.Common.{◌≡◌, ◌↔◌, IsTrue, Bool, true, false, refl}
use Rattle.tx_seen.specs.declared.meaning.Meaning.{Meaning}
use Rattle.tx_cond.specs.Alike.{same_meaning, same-tells}
use Rattle.tx_cond.proofs.comparing.same_meaning.Goals as goal

told : (r s : Bool) (a b : Meaning) → (IsTrue r ↔ (a ≡ b)) → same_meaning a b ≡ s → r ≡ s
told true true a b h e = refl
told true false a b h e = let here : same_meaning a b ≡ true = (same-tells a b).1 (h.0 refl) in cc
told false true a b h e = h.1 ((same-tells a b).0 e)
told false false a b h e = refl

pub returns : goal.returns
returns c = told c.same.result (same_meaning c.args.one.now.meaning c.args.other.now.meaning) c.args.one.now.meaning c.args.other.now.meaning c.same.ensures refl
