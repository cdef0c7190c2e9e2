-- Scans that keep nothing read on as what they read.
use Rattle.std.specs.Prelude.{ℕ, ◌∷◌, List, Bool}
use Rattle.tx_seen.specs.declared.fed.Fed.{Fed}
use Rattle.tx_seen.specs.declared.place.Place.{Place}
use Rattle.tx_seen.specs.declared.seen.Seen.{Seen}
use Rattle.tx_seen.specs.declared.item.Item.{Item}
use Rattle.tx_seen.specs.declared.item.Item.TheVariants.{Took}
use Rattle.tx_seen.specs.Readings.{Reading}
use Rattle.tx_scan.specs.declared.scans.EqualsScan.{EqualsScan}
use Rattle.tx_scan.specs.declared.scans.BraceScan.{BraceScan}
use Rattle.tx_scan.specs.declared.scans.NameScan.{NameScan}
use Rattle.tx_scan.specs.declared.scans.FontScan.{FontScan}
use Rattle.tx_seen.specs.declared.place.FontName.{FontName}
use Rattle.tx_scan.specs.FontNames.{font}
use Rattle.tx_scan.specs.Grammars.{equals, left_brace, name}
use Rattle.tx_scan.specs.Rests.{HasTakenBy, IsAnswer}

-- such a scan holds no token
abbrev pub held_none : {S : Type 0} → S → ℕ
held_none scan = 0

abbrev pub equals_rest : EqualsScan → List Item → Item → List Item → Reading Bool
equals_rest scan behind item more = equals (item ∷ more)

abbrev pub HasTakenEquals : EqualsScan → List Item → Type 0
HasTakenEquals scan taken = HasTakenBy equals_rest held_none equals scan taken

abbrev pub IsEqualsFed : EqualsScan → Seen → Fed Bool → Type 0
IsEqualsFed scan t answer = (behind : List Item) → IsAnswer equals_rest held_none 1 (λ more. equals_rest scan behind (Took t) more) t scan answer

abbrev pub brace_rest : BraceScan → List Item → Item → List Item → Reading (Unit {0})
brace_rest scan behind item more = left_brace (item ∷ more)

abbrev pub HasTakenBrace : BraceScan → List Item → Type 0
HasTakenBrace scan taken = HasTakenBy brace_rest held_none left_brace scan taken

abbrev pub IsBraceFed : BraceScan → Seen → Fed (Unit {0}) → Type 0
IsBraceFed scan t answer = (behind : List Item) → IsAnswer brace_rest held_none 0 (λ more. brace_rest scan behind (Took t) more) t scan answer

abbrev pub name_rest : NameScan → List Item → Item → List Item → Reading Place
name_rest scan behind item more = name (item ∷ more)

abbrev pub HasTakenName : NameScan → List Item → Type 0
HasTakenName scan taken = HasTakenBy name_rest held_none name scan taken

abbrev pub IsNameFed : NameScan → Seen → Fed Place → Type 0
IsNameFed scan t answer = (behind : List Item) → IsAnswer name_rest held_none 0 (λ more. name_rest scan behind (Took t) more) t scan answer

abbrev pub font_rest : FontScan → List Item → Item → List Item → Reading FontName
font_rest scan behind item more = font (item ∷ more)

abbrev pub HasTakenFont : FontScan → List Item → Type 0
HasTakenFont scan taken = HasTakenBy font_rest held_none font scan taken

abbrev pub IsFontFed : FontScan → Seen → Fed FontName → Type 0
IsFontFed scan t answer = (behind : List Item) → IsAnswer font_rest held_none 0 (λ more. font_rest scan behind (Took t) more) t scan answer
