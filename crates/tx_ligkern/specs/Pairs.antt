-- What a pair of a word meets (TeX: The Program, section 1040).
use Rattle.std.specs.Prelude.{ℕ, Bool, true, false, nat_lt, if◌then◌else◌, Option, Some, None, List, [], ◌∷◌}
use Rattle.tx_tfm.specs.declared.file.Word.{Word}
use Rattle.tx_tfm.specs.declared.metrics.Metrics.{Metrics}
use Rattle.tx_tfm.specs.LigKern.{command_of}
use Rattle.tx_tfm.specs.Metrics.{kern_of}
use Rattle.tx_ligkern.specs.declared.item.LigItem.{LigItem}
use Rattle.tx_ligkern.specs.declared.item.LigItem.TheVariants as items
use Rattle.tx_ligkern.specs.declared.pair.Met.{Met}
use Rattle.tx_ligkern.specs.declared.pair.Met.TheVariants.{Nothing, Kern, Ligature}

-- by its command
abbrev pub met_by : Metrics → Option Word → Met
met_by m None = Nothing
met_by m (Some w) = if nat_lt w.c 128 then Ligature else Kern (kern_of m w)

-- what a pair meets in a font
abbrev pub met_of : Metrics → Option ℕ → Option ℕ → Met
met_of m left right = met_by m (command_of m.file left right)

-- whether that is a ligature command
abbrev pub is_ligature : Met → Bool
is_ligature Nothing = false
is_ligature (Kern size) = false
is_ligature Ligature = true

-- the kern that is put in
abbrev pub kern_in : Met → List LigItem
kern_in Nothing = []
kern_in (Kern size) = items.Kern size ∷ []
kern_in Ligature = []
