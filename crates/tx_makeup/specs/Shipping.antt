-- What a page takes from the table, and what is shipped of a box (TeX: The Program, sections 638 to 644).
use Rattle.std.specs.Prelude.{ℕ, ℤ, List, [], ◌∷◌, ◌++◌, map, Option, Some, Result, Ok, Err, if◌then◌else◌}
use Rattle.tx_dvi.specs.declared.font.FontDefinition.{FontDefinition}
use Rattle.tx_dvi.specs.Page.{Page}
use Rattle.tx_node.specs.Items.{PackedBox}
use Rattle.tx_prim.specs.declared.integer.IntegerParameter.TheVariants.{Mag, Year, Month, Day, Time}
use Rattle.tx_prim.specs.declared.dimension.DimensionParameter.TheVariants.{Hoffset, Voffset}
use Rattle.tx_seen.specs.declared.error.TexError.{TexError}
use Rattle.tx_seen.specs.declared.error.TexError.TheVariants.{SizeOutOfRange, BadMagnification}
use Rattle.tx_seen.specs.declared.place.Place.TheVariants.{Count, Dimension, Integer}
use Rattle.tx_eqtb.specs.declared.table.Table.{Table}
use Rattle.tx_eqtb.specs.Table.{number_at}
use Rattle.tx_expand.specs.Values.{may_magnify}
use Rattle.tx_ship.specs.declared.error.ShipError.{ShipError}
use Rattle.tx_ship.specs.declared.params.ShipParams.{ShipParams}
use Rattle.tx_ship.specs.Pages as ship
use Rattle.tx_tfm.specs.declared.state.FontState.{FontState}

abbrev pub count : Table → ℕ → ℤ
count table n = number_at table (Count n)

abbrev pub counts : Table → List ℤ
counts table =
    count table 0 ∷ count table 1 ∷ count table 2 ∷ count table 3 ∷ count table 4 ∷ count table 5 ∷ count table 6 ∷ count table 7
    ∷ count table 8 ∷ count table 9 ∷ []

-- \mag
abbrev pub magnification_in : Table → ℤ
magnification_in table = number_at table (Integer Mag)

-- what the page takes: the fonts that earlier pages define, and from the table \count0 to \count9, the offsets, the magnification, the date
abbrev pub ship_params : Table → List ℕ → ShipParams
ship_params table defined = record {
  defined = defined;
  counts = counts table;
  hoffset = number_at table (Dimension Hoffset);
  voffset = number_at table (Dimension Voffset);
  mag = magnification_in table;
  year = number_at table (Integer Year);
  month = number_at table (Integer Month);
  day = number_at table (Integer Day);
  time = number_at table (Integer Time);
}

-- the page of a box, with these fonts, of which earlier pages define those of these numbers
abbrev pub page_of : List FontState → List ℕ → Table → PackedBox → Result Page ShipError
page_of fonts defined table box = ship.page_of fonts box (ship_params table defined)

-- the fonts that the pages up to this one define
abbrev pub defined_by : List ℕ → Page → List ℕ
defined_by defined page = defined ++ map (λ (f : FontDefinition). f.number) page.fonts

-- what is shipped of a box: its page, the magnification that pages have from then on, and the fonts that the pages up to it define
pub record Sent : Type 0 where
  pub page : Page
  pub magnification : Option ℤ
  pub defined : List ℕ

-- a page of a box, with the magnification
abbrev pub sent_with : List ℕ → ℤ → Result Page ShipError → Result Sent TexError
sent_with defined mag (Err e) = Err SizeOutOfRange
sent_with defined mag (Ok page) = Ok (record { page = page; magnification = Some mag; defined = defined_by defined page })

-- shipping a box: the magnification has to be one, and that of the first page
abbrev pub sending : List FontState → Option ℤ → List ℕ → Table → PackedBox → Result Sent TexError
sending fonts first defined table box =
    if may_magnify first (magnification_in table)
    then sent_with defined (magnification_in table) (page_of fonts defined table box)
    else Err BadMagnification
