-- How a list of changes is taken back.
use Rattle.tx_bytes.specs.Files.{Files}
use Rattle.tx_files.specs.Edits.{restored, CanRestore}
use Rattle.tx_files.specs.declared.before.Before.{Before}
use Rattle.tx_files.specs.declared.before.Before.TheVariants.{One, All}

-- the files as they were: one edit is undone, or they were kept
abbrev pub taken_back : Files → Before → Files
taken_back files (One name undo) = restored files name undo
taken_back files (All before) = before

-- files of which that can be had without memory
abbrev pub CanTakeBack : Files → Before → Type 0
CanTakeBack files (One name undo) = CanRestore files name undo
CanTakeBack files (All before) = Unit {0}
