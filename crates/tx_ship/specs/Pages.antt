-- What a box that is shipped brings to the DVI file (TeX: The Program, sections 638 to 644).
use Rattle.std.specs.Prelude.{ℕ, Bool, ◌&&◌, nat_le, int_le, ℤ, pos, ◌+ℤ◌, ◌≤ℤ◌, unsigned_abs, List, length, Result, Ok, Err, if◌then◌else◌}
use Rattle.std.specs.Int.{int_max}
use Rattle.tx_dvi.specs.declared.font.FontDefinition.{FontDefinition}
use Rattle.tx_dvi.specs.declared.page.DateParameters.{DateParameters}
use Rattle.tx_dvi.specs.Page.{Page}
use Rattle.tx_node.specs.Items.{PackedBox}
use Rattle.tx_tfm.specs.declared.state.FontState.{FontState}
use Rattle.tx_ship.specs.declared.params.ShipParams.{ShipParams}
use Rattle.tx_ship.specs.declared.error.ShipError.{ShipError}
use Rattle.tx_ship.specs.declared.error.ShipError.TheVariants.{SizeTooLarge, OutsidePage, BodyTooLong}
use Rattle.tx_ship.specs.Commands.{Pen, written_of, level_inside}
use Rattle.tx_ship.specs.Registers.{registered}
use Rattle.tx_ship.specs.Within.{page_lies}

-- sizes of a page end at 2^30-1
abbrev pub fits : ℤ → Bool
fits size = int_le size (pos 1073741823)

-- how high and how wide a page is
abbrev pub page_height : PackedBox → ShipParams → ℤ
page_height b params = params.voffset +ℤ b.head.height +ℤ b.head.depth

abbrev pub page_width : PackedBox → ShipParams → ℤ
page_width b params = params.hoffset +ℤ b.head.width

abbrev pub sizes_fit : PackedBox → ShipParams → Bool
sizes_fit b params = (fits b.head.height && fits b.head.depth) && (fits (page_height b params) && fits (page_width b params))

-- the date that the parameters are
abbrev pub date_of : ShipParams → DateParameters
date_of params = record { year = params.year; month = params.month; day = params.day; time = params.time }

-- the page with these commands, which define these fonts
abbrev pub page_made : PackedBox → ShipParams → List ℕ → List FontDefinition → Page
page_made b params body fonts = record {
  body = body;
  fonts = fonts;
  counts = params.counts;
  height = int_max (pos 0) (page_height b params);
  width = int_max (pos 0) (page_width b params);
  nesting = level_inside b;
  mag = unsigned_abs params.mag;
  date = date_of params;
}

-- the page whose commands are these: its body has their movements by the registers
abbrev pub page_with : PackedBox → ShipParams → List ℕ × Pen → Page
page_with b params written = page_made b params (registered written.0) written.1.fonts.defined

-- a body has at most 200,000 bytes
abbrev pub page_of_body : PackedBox → ShipParams → List ℕ × Pen → Result Page ShipError
page_of_body b params written = if nat_le (length (registered written.0)) 200000 then Ok (page_with b params written) else Err BodyTooLong

-- the page of a box, or the first thing that keeps it from being one
unfoldable pub page_of : List FontState → PackedBox → ShipParams → Result Page ShipError
page_of fonts b params =
    if sizes_fit b params
    then (
    if page_lies b params.hoffset params.voffset
    then page_of_body b params (written_of fonts params.defined b params.hoffset params.voffset)
    else Err OutsidePage
    ) else Err SizeTooLarge

-- the range of \mag
pub record IsMag (mag : ℤ) : Type 0 where
  pub least : pos 1 ≤ℤ mag
  pub most : mag ≤ℤ pos 32768
