-- A page of a run by itself, and what it brought to the transcript.
use Rattle.std.specs.Prelude.{ℕ, zero, suc, ◌-◌, List, take, slice_get, Option, None, option_map}
use Rattle.tx_dviselect.specs.Alone.{page_file}
use Rattle.tx_dvi.specs.Dvi.{fonts_of}
use Rattle.tx_dvi.specs.Page.{Page}

-- what stands in a list, counted from 1; None where nothing does
abbrev pub nth_of : {T : Type 0} → List T → ℕ → Option T
nth_of xs zero = None
nth_of xs (suc k) = slice_get xs k

-- the page of a number, counted from 1, as a DVI file of its own; None where there is none
abbrev pub page_of : List Page → ℕ → Option (List ℕ)
page_of pages number = option_map (page_file (fonts_of (take (number - 1) pages))) (nth_of pages number)

-- the piece of a page
abbrev pub piece_of : List (List ℕ) → ℕ → Option (List ℕ)
piece_of pieces number = nth_of pieces number
