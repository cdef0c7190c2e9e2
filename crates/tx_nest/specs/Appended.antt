-- What stands in a list behind what it had (TeX: The Program, sections 1056 and 1076).
use Rattle.std.specs.Prelude.{ℤ, List, [], ◌∷◌, ◌++◌, Option, Some, None, Result, Ok, Err}
use Rattle.tx_num.specs.Glue.{GlueSpec}
use Rattle.tx_node.specs.declared.plain.Plain.TheVariants.{Glue}
use Rattle.tx_node.specs.declared.plain.Shared.TheVariants as large
use Rattle.tx_node.specs.declared.rule.Rule.{Rule}
use Rattle.tx_node.specs.Items.{Item, plain, shared, box_item, PackedBox}
use Rattle.tx_nest.specs.declared.leading.LeadingParams.{LeadingParams}
use Rattle.tx_nest.specs.declared.leading.NestError.{NestError}
use Rattle.tx_nest.specs.declared.list.ModeList.{ModeList}
use Rattle.tx_nest.specs.States.{prev_depth, behind_box, behind_rule}
use Rattle.tx_nest.specs.Leading.{leading_behind}

-- a list with leading, if there is any
abbrev pub with_leading : List Item → Option GlueSpec → List Item
with_leading nodes None = nodes
with_leading nodes (Some g) = nodes ++ plain (Glue g) ∷ []

-- a box stands behind its leading
abbrev pub below : ModeList → ℤ → PackedBox → Result (Option GlueSpec) NestError → Result ModeList NestError
below list shift b (Err e) = Err e
below list shift b (Ok leading) =
    Ok (record list { state = behind_box list.state b.head.depth; nodes = with_leading list.nodes leading ++ box_item shift b ∷ [] })

-- a box that is shifted by so much, with leading before it where the list is vertical
abbrev pub box_appended : LeadingParams → ModeList → ℤ → PackedBox → Result ModeList NestError
box_appended params list shift b = below list shift b (leading_behind params (prev_depth list.state) b.head.height)

-- a rule, which has no leading
abbrev pub rule_appended : ModeList → Rule → ModeList
rule_appended list rule = record list { state = behind_rule list.state; nodes = list.nodes ++ shared (large.Rule rule) ∷ [] }
