-- What a mode keeps beside its list (TeX: The Program, sections 211 to 216).
use Rattle.std.specs.Prelude.{ℕ, ℤ, pos, neg_ℤ, Option, Some, None}
use Rattle.tx_prim.specs.declared.modes.Mode.{Mode}
use Rattle.tx_prim.specs.declared.modes.Mode.TheVariants as mode
use Rattle.tx_nest.specs.Factors.{plain_factor}
use Rattle.tx_nest.specs.declared.state.ModeState.{ModeState}
use Rattle.tx_nest.specs.declared.state.ModeState.TheVariants.{Vertical, InternalVertical, Horizontal, RestrictedHorizontal, Math, DisplayMath}

-- \prevdepth where no leading is to come, -1000pt
abbrev pub ignore_depth : ℤ
ignore_depth = neg_ℤ (pos 65536000)

-- what a mode keeps when its list begins (sections 1083 and 1091)
abbrev pub begun : Mode → ModeState
begun mode.Vertical = Vertical ignore_depth
begun mode.InternalVertical = InternalVertical ignore_depth
begun mode.Horizontal = Horizontal plain_factor
begun mode.RestrictedHorizontal = RestrictedHorizontal plain_factor
begun mode.Math = Math
begun mode.DisplayMath = DisplayMath

-- the mode
abbrev pub mode_of : ModeState → Mode
mode_of (Vertical depth) = mode.Vertical
mode_of (InternalVertical depth) = mode.InternalVertical
mode_of (Horizontal factor) = mode.Horizontal
mode_of (RestrictedHorizontal factor) = mode.RestrictedHorizontal
mode_of Math = mode.Math
mode_of DisplayMath = mode.DisplayMath

-- \prevdepth, which vertical modes have
abbrev pub prev_depth : ModeState → Option ℤ
prev_depth (Vertical depth) = Some depth
prev_depth (InternalVertical depth) = Some depth
prev_depth (Horizontal factor) = None
prev_depth (RestrictedHorizontal factor) = None
prev_depth Math = None
prev_depth DisplayMath = None

-- \spacefactor, which horizontal modes have
abbrev pub space_factor : ModeState → Option ℕ
space_factor (Vertical depth) = None
space_factor (InternalVertical depth) = None
space_factor (Horizontal factor) = Some factor
space_factor (RestrictedHorizontal factor) = Some factor
space_factor Math = None
space_factor DisplayMath = None

-- another \prevdepth, in vertical modes
abbrev pub with_prev_depth : ModeState → ℤ → ModeState
with_prev_depth (Vertical old) depth = Vertical depth
with_prev_depth (InternalVertical old) depth = InternalVertical depth
with_prev_depth (Horizontal factor) depth = Horizontal factor
with_prev_depth (RestrictedHorizontal factor) depth = RestrictedHorizontal factor
with_prev_depth Math depth = Math
with_prev_depth DisplayMath depth = DisplayMath

-- another \spacefactor, in horizontal modes
abbrev pub with_space_factor : ModeState → ℕ → ModeState
with_space_factor (Vertical depth) factor = Vertical depth
with_space_factor (InternalVertical depth) factor = InternalVertical depth
with_space_factor (Horizontal old) factor = Horizontal factor
with_space_factor (RestrictedHorizontal old) factor = RestrictedHorizontal factor
with_space_factor Math factor = Math
with_space_factor DisplayMath factor = DisplayMath

-- behind a box \prevdepth is its depth, and spaces are as wide as at the beginning (section 1076)
abbrev pub behind_box : ModeState → ℤ → ModeState
behind_box (Vertical old) depth = Vertical depth
behind_box (InternalVertical old) depth = InternalVertical depth
behind_box (Horizontal factor) depth = Horizontal plain_factor
behind_box (RestrictedHorizontal factor) depth = RestrictedHorizontal plain_factor
behind_box Math depth = Math
behind_box DisplayMath depth = DisplayMath

-- behind a rule no leading is to come (section 1056)
abbrev pub behind_rule : ModeState → ModeState
behind_rule state = behind_box state ignore_depth
