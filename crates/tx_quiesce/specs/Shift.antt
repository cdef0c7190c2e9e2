-- Open files that stand behind an edit move with it; and how a run ends on the files as they are.
use Rattle.std.specs.Prelude.{◌≡◌, true, List, map, if◌then◌else◌}
use Rattle.std.specs.Str.{bytes_eq}
use Rattle.tx_bytes.specs.Files.{Files}
use Rattle.tx_files.specs.declared.edit.Edit.{Edit}
use Rattle.tx_files.specs.Shift.{shifted, CanShift}
use Rattle.tx_machine.specs.declared.types.OpenFile.{OpenFile}
use Rattle.tx_machine.specs.declared.types.End.{End as RunEnd}
use Rattle.tx_machine.specs.declared.types.End.TheVariants.{End, Error, Budget, PageLimit}
use Rattle.tx_machine.specs.Opens.{innermost}
use Rattle.tx_machine.specs.Run.{error_at}

-- an open file, read up to a place behind the edit if it is the edited one
abbrev pub shifted_file : Edit → OpenFile → OpenFile
shifted_file e file = if bytes_eq file.name e.name then record file { offset = shifted e file.offset } else file

abbrev pub shifted_opens : Edit → List OpenFile → List OpenFile
shifted_opens e opens = map (shifted_file e) opens

-- what is moved stands behind the edit, and an offset still tells of it
abbrev pub CanShiftFile : Edit → OpenFile → Type 0
CanShiftFile e file = bytes_eq file.name e.name ≡ true → CanShift e file.offset

-- an end by an error is in the line of the innermost open file that its bytes make up now
abbrev pub end_now : Files → List OpenFile → RunEnd → RunEnd
end_now files opens End = End
end_now files opens (Error code name line) = error_at files code (innermost opens)
end_now files opens Budget = Budget
end_now files opens PageLimit = PageLimit
