-- A row of the table while it is filled: a command of the program counts for a right piece where none was met before.
use Rattle.std.specs.Prelude.{◌≡◌, ◌≢◌, ℕ, ◌<◌, Bool, true, false, Some, [], get_or, nat_lt, if◌then◌else◌}
use Rattle.tx_tfm.specs.declared.file.Word.{Word}
use Rattle.tx_tfm.specs.declared.ligatures.Filling.{Filling}
use Rattle.tx_tfm.specs.Table.{entry_of}

-- whether a command for a right piece was met
abbrev pub is_met : Filling → ℕ → Bool
is_met f k = get_or f.met k false

-- before the first command
pub record IsNew (f : Filling) : Type 0 where
  pub met : (k : ℕ) → k < 256 → is_met f k ≡ false
  pub row : f.row ≡ []

-- after a command: its right piece is met, and has it as its entry if it is the first one and no kern
pub record Takes (old : Filling) (w : Word) (new : Filling) : Type 0 where
  pub met : is_met new w.b ≡ true
  pub again : is_met old w.b ≡ true → entry_of new.row w.b ≡ entry_of old.row w.b
  pub first : is_met old w.b ≡ false → entry_of new.row w.b ≡ (if nat_lt w.c 128 then Some w else entry_of old.row w.b)
  pub other_met : (k : ℕ) → k ≢ w.b → is_met new k ≡ is_met old k
  pub other_entry : (k : ℕ) → k ≢ w.b → entry_of new.row k ≡ entry_of old.row k
