-- What comes of a command of boxes.
use Rattle.std.specs.Prelude.{Option, Some, None, Result, Ok, Err}
use Rattle.tx_eqtb.specs.declared.eqtb.Eqtb.{Eqtb}
use Rattle.tx_node.specs.Items.{PackedBox}
use Rattle.tx_prim.specs.declared.family.LeadersKind.{LeadersKind}
use Rattle.tx_seen.specs.declared.error.TexError.{TexError}
use Rattle.tx_box.specs.declared.parts.Done.{Done}
use Rattle.tx_box.specs.declared.parts.Done.TheVariants.{Whole, Due, Leads, Wrong}
use Rattle.tx_box.specs.declared.parts.Lists.{Lists}
use Rattle.tx_box.specs.declared.parts.Work.{Work}

-- the lists and the table behind it, the work that is due then, and the leaders with the box that they repeat, whose glue is to follow
pub record Left : Type 0 where
  pub lists : Lists
  pub table : Eqtb
  pub due : Option Work
  pub leads : Option (LeadersKind × PackedBox)

-- that, or an error
abbrev pub Effect : Type 0
Effect = Result Left TexError

abbrev pub leaves : Lists → Eqtb → Effect
leaves lists table = Ok (record { lists = lists; table = table; due = None; leads = None })

abbrev pub leaves_due : Lists → Eqtb → Work → Effect
leaves_due lists table work = Ok (record { lists = lists; table = table; due = Some work; leads = None })

abbrev pub leaves_leading : Lists → Eqtb → LeadersKind → PackedBox → Effect
leaves_leading lists table kind b = Ok (record { lists = lists; table = table; due = None; leads = Some (kind, b) })

-- what an answer says came of it, where the lists and the table are these now
abbrev pub told : Done → Lists → Eqtb → Effect
told Whole lists table = leaves lists table
told (Due work) lists table = leaves_due lists table work
told (Leads kind b) lists table = leaves_leading lists table kind b
told (Wrong error) lists table = Err error
