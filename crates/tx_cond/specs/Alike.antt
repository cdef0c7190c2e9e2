-- Whether two meanings are the same, as \ifx tells it (TeX: The Program, sections 507 and 508): the same primitive, character or
-- register; or macros with the same parameter text and body, both \long or not, and both \outer or not.
use Rattle.std.specs.Prelude.{◌≡◌, Bool, true}
use Rattle.tx_list.specs.Same as same
use Rattle.tx_seen.specs.declared.meaning.Meaning.{Meaning}
use Rattle.tx_seen.specs.contracts.meaning.Meaning as meaning

-- meanings are the same where their codes are
unfoldable pub same_meaning : Meaning → Meaning → Bool
same_meaning a b = same.same_by meaning.the_row.coded a b

-- so it tells exactly whether they are equal
pub same-tells : (a b : Meaning) → (same_meaning a b ≡ true → a ≡ b) × (a ≡ b → same_meaning a b ≡ true)
unfolding same_meaning
same-tells a b = same.same-tells meaning.the_row.coded a b
