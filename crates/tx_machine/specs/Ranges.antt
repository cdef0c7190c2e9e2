-- The dates and limits that a run may be given.
use Rattle.std.specs.Prelude.{◌≤◌, ◌<◌}
use Rattle.tx_machine.specs.declared.types.Date.{Date}
use Rattle.tx_machine.specs.declared.types.Limits.{Limits}

pub record IsDate (date : Date) : Type 0 where
  pub year : (1 ≤ date.year) × (date.year ≤ 9999)
  pub month : (1 ≤ date.month) × (date.month ≤ 12)
  pub day : (1 ≤ date.day) × (date.day ≤ 31)
  pub minutes : date.minutes < 1440

pub record AreLimits (limits : Limits) : Type 0 where
  pub budget : (1 ≤ limits.budget) × (limits.budget ≤ 1000000000)
  pub pages : (1 ≤ limits.pages) × (limits.pages ≤ 10000)
  pub keep : (1 ≤ limits.keep) × (limits.keep ≤ 10000)
