-- Groups begin and end, and what \aftergroup keeps is read behind them (TeX: The Program, sections 269 to 284 and 326).
use Rattle.std.specs.Prelude.{◌≡◌, Bool, true, false, nat_lt, [], length, if◌then◌else◌}
use Rattle.tx_eqtb.specs.declared.groups.GroupKind.{GroupKind}
use Rattle.tx_eqtb.specs.Stack.{opened, closed}
use Rattle.tx_expand.specs.Turns.{put_back}
use Rattle.tx_seen.specs.declared.error.TexError.TheVariants.{TooManyGroups}
use Rattle.tx_parts.specs.KeptTokens.{kept_tokens, left_after}
use Rattle.tx_state.specs.State.{TexState}
use Rattle.tx_state.specs.Outcomes.{Outcome, fails, leaves}

-- a group, if fewer than 255 are open
abbrev pub opening : TexState → GroupKind → TexState → Outcome
opening s kind inside =
    if nat_lt (length s.table.groups) 255 then leaves (record inside { table = opened s.table kind }) else fails TooManyGroups

-- whether one could be opened, and what it leaves then
abbrev pub IsOpened : GroupKind → TexState → Bool → TexState → Type 0
IsOpened kind s true new = (nat_lt (length s.table.groups) 255 ≡ true) × (new ≡ record s { table = opened s.table kind })
IsOpened kind s false new = nat_lt (length s.table.groups) 255 ≡ false

-- closing the innermost group brings back what it changed, and what \aftergroup keeps for it is read next (section 326)
abbrev pub closing : TexState → TexState
closing s =
    record s {
      table = closed s.table;
      after_groups = left_after (length s.table.groups) s.after_groups;
      reader = put_back (kept_tokens (length s.table.groups) s.after_groups []) s.reader;
    }
