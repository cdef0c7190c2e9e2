-- The page of a box, by the tests that were made.
use Rattle.std.proofs.Common.{◌≡◌, ℕ, ◌<◌, ◌≤◌, Bool, true, false, cond, nat_le, List, length, Result, Ok, Err, refl, sym, ap, ◌∙◌, arith}
use Rattle.std.proofs.lemmas.Bool.{le-leb}
use Rattle.std.proofs.lemmas.Bool.Decides.{leb_tells}
use Rattle.tx_dvi.specs.Page.{Page}
use Rattle.tx_node.specs.Items.{PackedBox}
use Rattle.tx_ship.specs.declared.params.ShipParams.{ShipParams}
use Rattle.tx_ship.specs.declared.error.ShipError.{ShipError}
use Rattle.tx_ship.specs.declared.error.ShipError.TheVariants.{SizeTooLarge, OutsidePage, BodyTooLong}
use Rattle.tx_dvi.specs.Meaning.{ReaderFonts}
use Rattle.tx_tfm.specs.declared.state.FontState.{FontState}
use Rattle.tx_ship.specs.Commands.{Pen, written_of}
use Rattle.tx_ship.specs.Registers.{registered}
use Rattle.tx_ship.specs.Within.{page_lies}
use Rattle.tx_ship.specs.Pages.{sizes_fit, page_of, page_of_body, page_made, page_with}

module _ (fonts : List FontState) (b : PackedBox) (params : ShipParams) where
  -- what is written of the page
  abbrev all_written : List ℕ × Pen
  all_written = written_of fonts params.defined b params.hoffset params.voffset

  abbrev tested : Bool → Bool → List ℕ × Pen → Result Page ShipError
  tested fit lie written = cond fit (cond lie (page_of_body b params written) (Err OutsidePage)) (Err SizeTooLarge)

  page-of : (fit lie : Bool) → sizes_fit b params ≡ fit → page_lies b params.hoffset params.voffset ≡ lie → page_of fonts b params ≡ tested fit lie all_written
  unfolding page_of
  page-of fit lie e f = λ i. tested (e i) (f i) all_written

  pub too-large : sizes_fit b params ≡ false → page_of fonts b params ≡ Err SizeTooLarge
  too-large e = page-of false (page_lies b params.hoffset params.voffset) e refl

  pub outside : sizes_fit b params ≡ true → page_lies b params.hoffset params.voffset ≡ false → page_of fonts b params ≡ Err OutsidePage
  outside e f = page-of true false e f

  pub too-long : (body : List ℕ) → sizes_fit b params ≡ true → page_lies b params.hoffset params.voffset ≡ true → body ≡ registered all_written.0 → 200000 < length body
      → page_of fonts b params ≡ Err BodyTooLong
  too-long body e f is long =
      page-of true true e f ∙ ap (λ bytes. cond (nat_le (length bytes) 200000) (Ok (page_with b params all_written)) (Err BodyTooLong)) (sym is)
      ∙ ap (λ short. cond short (Ok (page_with b params all_written)) (Err BodyTooLong)) (gt-leb long)
    where
      gt-leb : 200000 < length body → nat_le (length body) 200000 ≡ false
      gt-leb h = grind (arith, leb_tells)

  -- the page, by the bytes and the definitions that were written
  pub page-is : (body : List ℕ) (known : ReaderFonts) → sizes_fit b params ≡ true → page_lies b params.hoffset params.voffset ≡ true → body ≡ registered all_written.0 → known ≡ all_written.1.fonts → length body ≤ 200000
      → page_of fonts b params ≡ Ok (page_made b params body known.defined)
  page-is body known e f is known_is short =
      page-of true true e f ∙ ap (λ bytes. cond (nat_le (length bytes) 200000) (Ok (page_with b params all_written)) (Err BodyTooLong)) (sym is)
      ∙ ap (λ short. cond short (Ok (page_with b params all_written)) (Err BodyTooLong)) (le-leb _ _ short)
      ∙ (λ i. Ok (page_made b params (sym is i) (sym known_is i).defined))
