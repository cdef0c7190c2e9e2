-- What items are to hyphenation (TeX: The Program, sections 866 and 896 to 899).
use Rattle.std.specs.Prelude.{Bool, true, false}
use Rattle.tx_node.specs.declared.plain.KernKind.{KernKind}
use Rattle.tx_node.specs.declared.plain.KernKind.TheVariants.{Accent, Implicit, Explicit, MathOn, MathOff}
use Rattle.tx_node.specs.declared.plain.Plain.{Plain}
use Rattle.tx_node.specs.declared.plain.Plain.TheVariants as p
use Rattle.tx_node.specs.declared.plain.Shared.{Shared}
use Rattle.tx_node.specs.declared.plain.Shared.TheVariants as s
use Rattle.tx_node.specs.Items.{Item, plain, shared, boxed, discretionary, adjustment, insertion, box_leaders}
use Rattle.tx_hyphenate.specs.declared.kind.Kind.{Kind}
use Rattle.tx_hyphenate.specs.declared.kind.Kind.TheVariants.{Characters, Kern, Special, Glue, Ends, Other}

-- a kern that isn't a font's is one of \kern or \accent, or stands at one end of a formula
abbrev pub kern_kind : KernKind → Kind
kern_kind Implicit = Kern
kern_kind Accent = Ends
kern_kind Explicit = Ends
kern_kind MathOn = Other
kern_kind MathOff = Other

abbrev pub plain_kind : Plain → Kind
plain_kind (p.Kern origin size) = kern_kind origin
plain_kind (p.Glue g) = Glue
plain_kind (p.Penalty n) = Ends
plain_kind (p.Character c) = Characters

-- whether items stand in a formula behind this one, where they do before it or not
abbrev pub is_formula_behind_kern : Bool → KernKind → Bool
is_formula_behind_kern formula Implicit = formula
is_formula_behind_kern formula Accent = formula
is_formula_behind_kern formula Explicit = formula
is_formula_behind_kern formula MathOn = true
is_formula_behind_kern formula MathOff = false

abbrev pub is_formula_behind_plain : Bool → Plain → Bool
is_formula_behind_plain formula (p.Kern origin size) = is_formula_behind_kern formula origin
is_formula_behind_plain formula (p.Glue g) = formula
is_formula_behind_plain formula (p.Penalty n) = formula
is_formula_behind_plain formula (p.Character c) = formula

abbrev pub is_formula_behind : Bool → Item → Bool
is_formula_behind formula (plain item) = is_formula_behind_plain formula item
is_formula_behind formula (shared item) = formula
is_formula_behind formula (boxed shift head inner) = formula
is_formula_behind formula (discretionary head before behind) = formula
is_formula_behind formula (adjustment inner) = formula
is_formula_behind formula (insertion head inner) = formula
is_formula_behind formula (box_leaders head repeated inner) = formula

abbrev pub shared_kind : Shared → Kind
shared_kind (s.Rule r) = Other
shared_kind (s.Leaders l) = Glue
shared_kind (s.Special text) = Special
shared_kind (s.Ligature l) = Characters
shared_kind (s.Mark text) = Ends

abbrev pub kind : Item → Kind
kind (plain item) = plain_kind item
kind (shared item) = shared_kind item
kind (boxed shift head inner) = Other
kind (discretionary head before behind) = Other
kind (adjustment inner) = Ends
kind (insertion head inner) = Ends
kind (box_leaders head repeated inner) = Glue
