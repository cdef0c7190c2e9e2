-- The leading between the lines of a vertical list (TeX: The Program, section 679; The TeXbook, chapter 12).
use Rattle.std.specs.Prelude.{ℤ, ◌-ℤ◌, int_lt, int_le, nat_le, unsigned_abs, Option, Some, None, Result, Ok, Err, if◌then◌else◌}
use Rattle.tx_num.specs.Glue.{GlueSpec}
use Rattle.tx_num.specs.Limits.{limit}
use Rattle.tx_num.specs.declared.limits.Range.TheVariants.{Dimen}
use Rattle.tx_nest.specs.declared.leading.LeadingParams.{LeadingParams}
use Rattle.tx_nest.specs.declared.leading.NestError.{NestError}
use Rattle.tx_nest.specs.declared.leading.NestError.TheVariants.{SizeOutOfRange}
use Rattle.tx_nest.specs.States.{ignore_depth}

-- glue with another width, which has to be a dimension
abbrev pub widened : GlueSpec → ℤ → Result (Option GlueSpec) NestError
widened g width = if nat_le (unsigned_abs width) (limit Dimen) then Ok (Some (record g { width = width })) else Err SizeOutOfRange

-- \baselineskip less the depth above and the height below; \lineskip where that is less than \lineskiplimit
abbrev pub leading_by : LeadingParams → ℤ → Result (Option GlueSpec) NestError
leading_by params distance = if int_lt distance params.line_skip_limit then Ok (Some params.line_skip) else widened params.baseline_skip distance

-- the leading before a box so high, below so much depth; none where \prevdepth is -1000pt or less
abbrev pub leading : LeadingParams → ℤ → ℤ → Result (Option GlueSpec) NestError
leading params prev_depth height =
    if int_le prev_depth ignore_depth then Ok None else leading_by params (params.baseline_skip.width -ℤ prev_depth -ℤ height)

-- lists that aren't vertical have none
abbrev pub leading_behind : LeadingParams → Option ℤ → ℤ → Result (Option GlueSpec) NestError
leading_behind params None height = Ok None
leading_behind params (Some prev_depth) height = leading params prev_depth height
