-- A code of pages: a proof tells them apart by it.
use Rattle.std.specs.Prelude.{List, Option, refl}
use Rattle.std.specs.Coded.{Coded, code_by, coded×, coded_list, coded_option}
use Rattle.tx_node.specs.Codes.{item_code}
use Rattle.tx_node.specs.Items.{Item}
use Rattle.tx_pagebuilder.specs.declared.class.Class.{Class}
use Rattle.tx_pagebuilder.specs.contracts.class.Class as class_of
use Rattle.tx_pagebuilder.specs.declared.kern.Kern.{Kern}
use Rattle.tx_pagebuilder.specs.contracts.kern.Kern as kern
use Rattle.tx_pagebuilder.specs.declared.measures.Measures.{Measures}
use Rattle.tx_pagebuilder.specs.contracts.measures.Measures as measures
use Rattle.tx_pagebuilder.specs.Pages.{Page}

abbrev pub page_code : Coded Page
page_code = code_by (List Item × (Option Kern × (List Class × Measures)))
    (coded× (coded_list item_code) (coded× (coded_option kern.the_row.coded) (coded× (coded_list class_of.the_row.coded) measures.the_row.coded)))
    (λ p. (p.nodes, (p.waiting, (p.classes, p.measures))))
    (λ q. record { nodes = q.0; waiting = q.1.0; classes = q.1.1.0; measures = q.1.1.1 })
    (λ _. refl)
