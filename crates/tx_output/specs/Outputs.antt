-- What becomes of a page that was fired (TeX: The Program, sections 1012, 1015, 1017 and 1023 to 1028).
use Rattle.std.specs.Prelude.{Bool, true, false, ◌&&◌, nat_lt, ◌^◌, ◌-◌, ℤ, pos, unsigned_abs, int_lt, List, [], ◌++◌, length, ◌==◌, Option, Some, None, Result, Ok, Err, if◌then◌else◌}
use Rattle.tx_char.specs.declared.tokens.Token.{Token}
use Rattle.tx_node.specs.Items.{Item}
use Rattle.tx_pack.specs.declared.types.Goal.TheVariants.{To}
use Rattle.tx_pack.specs.declared.types.PackError.{PackError}
use Rattle.tx_pack.specs.declared.types.PackError.TheVariants as packing
use Rattle.tx_pack.specs.declared.types.PackParams.{PackParams}
use Rattle.tx_pack.specs.declared.types.Packed.{Packed}
use Rattle.tx_pack.specs.Packing.{vpacked}
use Rattle.tx_pagebuilder.specs.declared.fired.Fired.{Fired}
use Rattle.tx_output.specs.declared.begun.Begun.{Begun}
use Rattle.tx_output.specs.declared.begun.Begun.TheVariants.{Ship, Read}
use Rattle.tx_output.specs.declared.error.OutputError.{OutputError}
use Rattle.tx_output.specs.declared.error.OutputError.TheVariants.{OccupiedPageBox, SizeOutOfRange, TooDeep, TooManyDeadCycles, UnbalancedOutput, OutOfMemory}
use Rattle.tx_output.specs.declared.waiting.Waiting.{Waiting}

-- what errors of packing are to an output
abbrev pub of_packing : PackError → OutputError
of_packing packing.SizeOutOfRange = SizeOutOfRange
of_packing packing.TooDeep = TooDeep
of_packing packing.OutOfMemory = OutOfMemory

abbrev pub is_dimension : ℤ → Bool
is_dimension size = nat_lt (unsigned_abs size) (2 ^ 30)

-- the parameters of packing that a page's box has (section 1017); nothing is told of it
abbrev pub silent : PackParams
silent = record { badness = pos 10000; fuzz = pos (2 ^ 30 - 1); overfull_rule = pos 0 }

abbrev pub untold : Result Packed PackError → Result Packed OutputError
untold (Err e) = Err (of_packing e)
untold (Ok packed) = Ok (record packed { report = [] })

-- the box of a page: its list, as high as its goal was at the best break, at most as deep as its \maxdepth
unfoldable pub page_box : List Item → ℤ → ℤ → Result Packed OutputError
page_box list goal maxdepth =
    if is_dimension goal && is_dimension maxdepth then untold (vpacked list (To goal) maxdepth silent) else Err SizeOutOfRange

-- it is shipped where \output has no tokens; else they read it, unless \deadcycles has come to \maxdeadcycles (sections 1012 and 1023 to
-- 1025)
abbrev pub begun_with : Bool → ℤ → ℤ → Packed → Result Begun OutputError
begun_with true dead max_dead packed = Ok (Ship packed)
begun_with false dead max_dead packed = if int_lt dead max_dead then Ok (Read packed) else Err TooManyDeadCycles

abbrev pub begun_by : Bool → ℤ → ℤ → Result Packed OutputError → Result Begun OutputError
begun_by is_empty dead max_dead (Err e) = Err e
begun_by is_empty dead max_dead (Ok packed) = begun_with is_empty dead max_dead packed

abbrev pub has_none : List Token → Bool
has_none tokens = length tokens == 0

-- first \box255 has to be void (section 1015)
abbrev pub begun : Fired → List Token → ℤ → ℤ → Bool → Result Begun OutputError
begun fired output dead max_dead void255 =
    if void255 then begun_by (has_none output) dead max_dead (page_box fired.list fired.goal fired.maxdepth) else Err OccupiedPageBox

-- what is contributed behind an output: what was held over, what \output built, and what remained of the contributions (sections 1023
-- and 1026)
abbrev pub joined : Option Waiting → List Item → List Item
joined None built = built
joined (Some waiting) built = waiting.held ++ built ++ waiting.rest

-- \output has to end where its tokens end, and \box255 has to be void again (sections 1027 and 1028)
abbrev pub finished : Option Waiting → List Item → Bool → Bool → Result (List Item) OutputError
finished waiting built at_end void255 = if at_end && void255 then Ok (joined waiting built) else Err UnbalancedOutput
