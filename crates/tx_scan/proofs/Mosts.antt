-- Scans of numbers hold one token at most.
use Rattle.std.proofs.Common.{◌≤◌, lit≤}
use Rattle.tx_scan.specs.declared.scans.IntScan.{IntScan}
use Rattle.tx_scan.specs.declared.scans.IntStage.{IntStage}
use Rattle.tx_scan.specs.declared.scans.IntStage.TheVariants as int
use Rattle.tx_scan.specs.declared.scans.DimenScan.{DimenScan}
use Rattle.tx_scan.specs.declared.scans.DimenStage.{DimenStage}
use Rattle.tx_scan.specs.declared.scans.DimenStage.TheVariants as dimen
use Rattle.tx_scan.specs.IntegerRests as integers
use Rattle.tx_scan.specs.DimensionRests as sizes

integer-stage : (s : IntStage) → integers.stage_most s ≤ 1
integer-stage int.Signs = lit≤ tt
integer-stage (int.FirstDigit radix) = lit≤ tt
integer-stage (int.Digits constant) = lit≤ tt
integer-stage int.Character = lit≤ tt
integer-stage (int.AfterCharacter code) = lit≤ tt
integer-stage (int.Font sought) = lit≤ tt
integer-stage (int.Given held) = lit≤ tt

pub most-integer : (scan : IntScan) → integers.most scan ≤ 1
most-integer scan = integer-stage scan.stage

size-stage : (s : DimenStage) → sizes.stage_most s ≤ 1
size-stage dimen.Signs = lit≤ tt
size-stage (dimen.FirstDigit radix) = lit≤ tt
size-stage (dimen.Digits constant) = lit≤ tt
size-stage (dimen.Fraction whole) = lit≤ tt
size-stage dimen.Character = lit≤ tt
size-stage (dimen.AfterCharacter code) = lit≤ tt
size-stage dimen.Coefficient = lit≤ tt
size-stage (dimen.Quantity amount) = lit≤ tt
size-stage (dimen.Mathematical amount) = lit≤ tt
size-stage (dimen.Unit whole) = lit≤ tt
size-stage (dimen.Name whole letters) = lit≤ tt
size-stage (dimen.Magnification whole) = lit≤ tt
size-stage (dimen.TrueUnit whole portion) = lit≤ tt
size-stage (dimen.AfterUnit whole unit) = lit≤ tt
size-stage (dimen.AfterFil whole order) = lit≤ tt
size-stage (dimen.FontUnit whole size held) = lit≤ tt

pub most-size : (scan : DimenScan) → sizes.most scan ≤ 1
most-size scan = size-stage scan.stage
