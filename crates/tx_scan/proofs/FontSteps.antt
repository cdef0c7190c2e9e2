-- Steps of the scan of a quantity where a font is needed.
use Rattle.std.proofs.Common.{◌≡◌, ◌≤◌, ℕ, ◌∷◌, [], List, refl, ap, arith}
use Rattle.tx_seen.specs.declared.error.TexError.{TexError}
use Rattle.tx_seen.specs.declared.fed.Fed.TheVariants as fed
use Rattle.tx_seen.specs.declared.fed.Kind.TheVariants.{Quantity}
use Rattle.tx_seen.specs.declared.fed.Value.{Value}
use Rattle.tx_seen.specs.declared.fed.Want.{Want}
use Rattle.tx_seen.specs.declared.item.Item.{Item}
use Rattle.tx_seen.specs.declared.item.Item.TheVariants.{Took}
use Rattle.tx_seen.specs.declared.place.FontName.{FontName}
use Rattle.tx_seen.specs.declared.seen.Seen.{Seen}
use Rattle.tx_seen.specs.Readings.{Reading, Done, next}
use Rattle.tx_scan.specs.declared.scans.FontScan.{FontScan}
use Rattle.tx_scan.specs.declared.scans.FontSought.{FontSought}
use Rattle.tx_scan.specs.declared.scans.QuantityScan.{QuantityScan}
use Rattle.tx_scan.specs.declared.scans.QuantityStage.TheVariants as stage
use Rattle.tx_scan.specs.FontNames.{font, place_of_font}
use Rattle.tx_scan.specs.GrammarRests.{IsFontFed}
use Rattle.tx_scan.specs.Quantities.{value_at}
use Rattle.tx_scan.specs.QuantityRests.{IsFed}

abbrev on_value : FontSought → FontName → List Item → Reading Value
on_value what = λ f rest. value_at (place_of_font what f) rest

pub value-more : (old : QuantityScan) (what : FontSought) (t : Seen) (scan : FontScan) (want : Want) → old.stage ≡ stage.Font what → IsFontFed scan t (fed.More want) → IsFed old t old (fed.More want)
value-more old what t scan want s k = λ behind. rw s (
  ap (λ r. next r (on_value what)) (k []).0,
  refl,
  λ item more. ap (λ r. next r (on_value what)) ((k []).2 item more),
)

pub value-done : (old new : QuantityScan) (what : FontSought) (t : Seen) (scan : FontScan) (f : FontName) (back : ℕ) → old.stage ≡ stage.Font what → IsFontFed scan t (fed.Done f back) → new ≡ record old { stage = stage.Given 0 } → IsFed old t new (fed.Need (Quantity (place_of_font what f)))
value-done old new what t scan f back s k e = λ behind.
    let few : back ≤ 0 = (k []).0 in
    let none : back ≡ 0 = omega (arith, few) in
    let stands : (more : List Item) → font (Took t ∷ more) ≡ Done f more = λ more. rw none at ((k []).1 more) in
    rw (s, e) (
      ap (λ r. next r (on_value what)) (stands []),
      omega arith,
      λ item more. ap (λ r. next r (on_value what)) (stands (item ∷ more)),
    )

pub value-wrong : (old new : QuantityScan) (what : FontSought) (t : Seen) (scan : FontScan) (error : TexError) → old.stage ≡ stage.Font what → IsFontFed scan t (fed.Wrong error) → IsFed old t new (fed.Wrong error)
value-wrong old new what t scan error s k = λ behind more. rw s (ap (λ r. next r (on_value what)) (k [] more))
