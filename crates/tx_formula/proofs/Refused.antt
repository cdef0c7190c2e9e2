-- What a `?` answers where there is an error.
use Rattle.std.proofs.Common.{◌≡◌, Result, Ok, Err, IsErrAnd, subst, sym}

-- what is so of an error is so of the result that has it
pub on-err : {T E : Type 0} (r : Result T E) (e : E) (IsSo : Result T E → Type 0) → IsErrAnd r (λ x. x ≡ e) → IsSo (Err e) → IsSo r
on-err (Ok value) e IsSo same so = absurd same
on-err (Err x) e IsSo same so = subst (λ y. IsSo (Err y)) (sym same) so
