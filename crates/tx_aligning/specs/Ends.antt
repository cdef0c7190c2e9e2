-- Alignments end (TeX: The Program, sections 800 and 812).
use Rattle.std.specs.Prelude.{pos, List, [], ◌∷◌, Option, Some, Result, Ok, Err}
use Rattle.tx_align.specs.declared.error.AlignError.{AlignError}
use Rattle.tx_box.specs.Building.{across}
use Rattle.tx_command.specs.declared.types.Head.TheVariants.{Fresh}
use Rattle.tx_eqtb.specs.declared.groups.GroupKind.{GroupKind}
use Rattle.tx_eqtb.specs.declared.groups.GroupKind.TheVariants as group
use Rattle.tx_eqtb.specs.declared.table.Table.{Table}
use Rattle.tx_eqtb.specs.Stack.{kind_of}
use Rattle.tx_pack.specs.declared.types.PackParams.{PackParams}
use Rattle.tx_seen.specs.declared.error.TexError.TheVariants.{ExtraGroupEnd, MisplacedAlignment}
use Rattle.tx_state.specs.Groups.{closing}
use Rattle.tx_state.specs.Outcomes.{Outcome, Leaves, fails}
use Rattle.tx_state.specs.State.{TexState}
use Rattle.tx_tabular.specs.declared.alignment.Alignment.{Alignment}
use Rattle.tx_tabular.specs.Ending.{Finished, finishing}
use Rattle.tx_state.specs.Standing.{at_level, in_mode}
use Rattle.tx_aligning.specs.Preambles.{error_of, popped}

-- how its preamble is packed: no rule is put behind it
abbrev pub params_of : Table → PackParams
params_of table = record (across table) { overfull_rule = pos 0 }

abbrev pub ended_to : TexState → Alignment → List Alignment → Result Finished AlignError → Outcome
ended_to s a outer (Err error) = fails (error_of error)
ended_to s a outer (Ok left) =
    Leaves (record (in_mode (record s { lists = left.lists })) { head = Fresh; alignments = outer; reader = at_level a.outer s.reader }) left.report

abbrev pub ended_in : TexState → List Alignment → Outcome
ended_in s [] = fails MisplacedAlignment
ended_in s (a ∷ outer) = ended_to (popped s outer) a outer (finishing (params_of s.table.table) s.lists a)

-- the groups of its entries and its own end before
abbrev pub ended_with : TexState → Option GroupKind → Outcome
ended_with s (Some group.Align) = ended_in (closing s) s.alignments
ended_with s other = fails ExtraGroupEnd

abbrev pub ending_with : TexState → Option GroupKind → Outcome
ending_with s (Some group.Entry) = ended_with (closing s) (kind_of (closing s).table)
ending_with s other = fails ExtraGroupEnd

abbrev pub ending : TexState → Outcome
ending s = ending_with s (kind_of s.table)
