-- What a fetch adds to a set of files.
use Rattle.std.specs.Prelude.{◌≡◌, ℕ, List, Option, IfSome}
use Rattle.tx_bytes.specs.Files.{Files, content}
use Rattle.tx_call.specs.Outcome.{with_file}

-- the set has got the file of this name, if there is one: the one that the source holds, if it tells what it holds
pub record Fetches (holds : Option Files) (files : Files) (name : List ℕ) (files' : Files) : Type 0 where
  pub answer : Option (List ℕ)
  pub are_told : IfSome holds (λ held. content held name ≡ answer)
  pub files_are : files' ≡ with_file files name answer
