-- Where \output's tokens end (TeX: The Program, section 1026).
use Rattle.std.specs.Prelude.{Bool, true, false}
use Rattle.tx_pending.specs.declared.next.Next.{Next}
use Rattle.tx_pending.specs.declared.next.Next.TheVariants.{Marker}

-- \output's tokens end with their marker
abbrev pub is_marker : Next → Bool
is_marker Marker = true
is_marker _ = false
