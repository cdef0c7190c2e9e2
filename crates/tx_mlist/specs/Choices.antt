-- \mathchoice: an item with four lists, which are read one after the other (TeX: The Program, sections 1171 to 1174).
use Rattle.std.specs.Prelude.{List}
use Rattle.tx_prim.specs.declared.family.MathStyle.{MathStyle}
use Rattle.tx_prim.specs.declared.family.MathStyle.TheVariants.{Display, Text, Script, ScriptScript}
use Rattle.tx_mlist.specs.Building.{with_last}
use Rattle.tx_mlist.specs.Items.{MathItem, MathItems, atom, fraction, choice, small, material, nothing, gathered}

-- the item before its lists are read
abbrev pub no_choice : MathItem
no_choice = choice nothing nothing nothing nothing

-- the item with another list for a style
abbrev pub choice_by : MathStyle → MathItems → MathItems → MathItems → MathItems → MathItems → MathItem
choice_by Display list display text script script_script = choice list text script script_script
choice_by Text list display text script script_script = choice display list script script_script
choice_by Script list display text script script_script = choice display text list script_script
choice_by ScriptScript list display text script script_script = choice display text script list

abbrev pub choice_with : MathStyle → MathItems → MathItem → MathItem
choice_with style list (atom kind nucleus superscript subscript) = atom kind nucleus superscript subscript
choice_with style list (fraction head above below) = fraction head above below
choice_with style list (choice display text script script_script) = choice_by style list display text script script_script
choice_with style list (small s) = small s
choice_with style list (material i) = material i

-- the list that is read for a style stands there in the last item, which is a choice
abbrev pub chosen : MathStyle → List MathItem → List MathItem → List MathItem
chosen style list items = with_last (choice_with style (gathered list)) items
