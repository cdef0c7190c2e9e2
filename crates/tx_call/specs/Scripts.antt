-- What is read of the script that the words name.
use Rattle.std.specs.Prelude.{◌≡◌, ℕ, List, [], Option, Some, None, IfSome}
use Rattle.tx_bytes.specs.Files.{Files, content}
use Rattle.tx_script.specs.declared.command.Command.{Command}
use Rattle.tx_script.specs.declared.error.Rule.TheVariants.{File}
use Rattle.tx_script.specs.Text.{IsTextOf, IsRefusal}
use Rattle.tx_call.specs.declared.scripted.Scripted.{Scripted}
use Rattle.tx_call.specs.declared.scripted.Scripted.TheVariants.{Plays, Refused}

-- the one reading of a script's file: the commands of which its bytes are the text, or why there are none
abbrev pub IsReading : Option (List ℕ) → Scripted → Type 0
IsReading None scripted = scripted ≡ Refused 0 File
IsReading (Some bytes) (Plays commands) = IsTextOf bytes commands
IsReading (Some bytes) (Refused place rule) = IsRefusal bytes place rule

-- the file of this name, which is the source's if it tells what it holds, is read so, and in no other way
pub record ReadsFile (holds : Option Files) (name : List ℕ) (scripted : Scripted) : Type 0 where
  pub bytes : Option (List ℕ)
  pub are_told : IfSome holds (λ held. content held name ≡ bytes)
  pub reading : IsReading bytes scripted
  pub only : (other : Scripted) → IsReading bytes other → other ≡ scripted

-- where no script is named, there are no commands
abbrev pub Reads : Option Files → Option (List ℕ) → Scripted → Type 0
Reads holds None scripted = scripted ≡ Plays []
Reads holds (Some name) scripted = ReadsFile holds name scripted

-- what is read of the script is so; where trouble came before it was read, whatever could be read is so
pub data ForScript (holds : Option Files) (script : Option (List ℕ)) (IsSo : Scripted → Type 0) : Type 0 where
  Read : (scripted : Scripted) → Reads holds script scripted → IsSo scripted → ForScript holds script IsSo
  Unread : ((scripted : Scripted) → IsSo scripted) → ForScript holds script IsSo

-- a script's file that is absent, or whose bytes are no script's text
abbrev pub HasNoScript : Option (List ℕ) → Type 0
HasNoScript None = Unit {0}
HasNoScript (Some bytes) = (commands : List Command) → IsTextOf bytes commands → ⊥

-- the words name a script, and its file, which is the source's if it tells what it holds, is none
pub record NamesNoScript (holds : Option Files) (script : Option (List ℕ)) : Type 0 where
  pub name : List ℕ
  pub named : script ≡ Some name
  pub bytes : Option (List ℕ)
  pub are_told : IfSome holds (λ held. content held name ≡ bytes)
  pub none : HasNoScript bytes

-- the same, of a source that tells what it holds
pub record HoldsNoScript (holds : Option Files) (script : Option (List ℕ)) : Type 0 where
  pub held : Files
  pub told : holds ≡ Some held
  pub name : List ℕ
  pub named : script ≡ Some name
  pub none : HasNoScript (content held name)
