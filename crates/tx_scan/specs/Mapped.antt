-- What becomes of an answer with what was read.
use Rattle.std.specs.Prelude.{ℕ, List, Result, Ok, Err}
use Rattle.tx_seen.specs.declared.error.TexError.{TexError}
use Rattle.tx_seen.specs.declared.fed.Fed.{Fed}
use Rattle.tx_seen.specs.declared.fed.Fed.TheVariants as fed
use Rattle.tx_seen.specs.declared.item.Item.{Item}
use Rattle.tx_seen.specs.Readings.{Reading, Done, Wrong}

abbrev pub mapped : {A B : Type 0} → (A → B) → Fed A → Fed B
mapped f (fed.More want) = fed.More want
mapped f (fed.Need kind) = fed.Need kind
mapped f (fed.Done value back) = fed.Done (f value) back
mapped f (fed.Wrong error) = fed.Wrong error

-- what is made of a value, which may be an error
abbrev pub done_if : {A : Type 0} → Result A TexError → List Item → Reading A
done_if (Ok value) rest = Done value rest
done_if (Err error) rest = Wrong error

abbrev pub fed_if : {A : Type 0} → Result A TexError → ℕ → Fed A
fed_if (Ok value) back = fed.Done value back
fed_if (Err error) back = fed.Wrong error

abbrev pub settled : {A B : Type 0} → (A → Result B TexError) → Fed A → Fed B
settled f (fed.More want) = fed.More want
settled f (fed.Need kind) = fed.Need kind
settled f (fed.Done value back) = fed_if (f value) back
settled f (fed.Wrong error) = fed.Wrong error
