-- How a paragraph's list ends before it is broken (TeX: The Program, section 816).
use Rattle.std.specs.Prelude.{pos, List, [], ◌∷◌, ◌++◌, Option, None, Some, is_some}
use Rattle.std.specs.Prelude.{Bool, false, ◌-◌, length, take, slice_get, if◌then◌else◌}
use Rattle.tx_num.specs.Glue.{GlueSpec}
use Rattle.tx_node.specs.declared.plain.Plain.TheVariants.{Penalty, Glue}
use Rattle.tx_node.specs.Items.{Item, plain}
use Rattle.tx_node.specs.Sizes.{glue_of_item}

-- an item is glue, by itself or of leaders
abbrev pub is_glue : Option Item → Bool
is_glue None = false
is_glue (Some item) = is_some (glue_of_item item)

-- a list without its last item, if that is glue
abbrev pub without_last_glue : List Item → List Item
without_last_glue list =
    if is_glue (slice_get list (length list - 1)) then take (length list - 1) list else list

-- a penalty that forbids a break, and \parfillskip, come instead
abbrev pub ending : GlueSpec → List Item
ending par_fill_skip = plain (Penalty (pos 10000)) ∷ plain (Glue par_fill_skip) ∷ []

abbrev pub ended : GlueSpec → List Item → List Item
ended par_fill_skip list = without_last_glue list ++ ending par_fill_skip
