-- Kerns, which wait until it is known whether glue comes behind them (TeX: The Program, section 1000).
use Rattle.std.specs.Prelude.{Option, Some, None}
use Rattle.tx_node.specs.declared.plain.Plain.{Plain}
use Rattle.tx_node.specs.declared.plain.Plain.TheVariants.{Kern, Glue, Penalty, Character}
use Rattle.tx_node.specs.Items.{Item, plain, shared, boxed, discretionary, adjustment, insertion, box_leaders}
use Rattle.tx_pagebuilder.specs.declared.kern.Kern.{Kern as KernOf}

-- the kern that an item is
abbrev pub plain_kern : Plain → Option KernOf
plain_kern (Kern kind size) = Some (record { kind = kind; size = size })
plain_kern (Glue g) = None
plain_kern (Penalty n) = None
plain_kern (Character c) = None

abbrev pub kern_of : Item → Option KernOf
kern_of (plain p) = plain_kern p
kern_of (shared s) = None
kern_of (boxed shift head inner) = None
kern_of (discretionary head before behind) = None
kern_of (adjustment inner) = None
kern_of (insertion head inner) = None
kern_of (box_leaders head repeated inner) = None

abbrev pub kern_item : KernOf → Item
kern_item kern = plain (Kern kern.kind kern.size)
