-- A page as a DVI file of its own (the DVI standard; TeX: The Program, sections 585 to 588).
use Rattle.std.specs.Prelude.{◌≡◌, ℕ, ℤ, negsuc, List, [], ◌∷◌, ◌++◌, map, Some}
use Rattle.std.specs.List.{flat_map, All}
use Rattle.tx_dvi.specs.declared.font.FontDefinition.{FontDefinition}
use Rattle.tx_dvi.specs.Dvi.{bop, eop, post, four_bytes, units, definition_bytes, definitions_below, sizes_bytes, dvi, IsDefinable}
use Rattle.tx_dvi.specs.Meaning.{Widths, Contents, meaning}
use Rattle.tx_dvi.specs.Page.{Page}
use Rattle.tx_dviselect.specs.Uses.{borrowed}

-- the page with those fonts defined at its beginning that it uses of earlier ones
abbrev pub alone : List FontDefinition → Page → Page
alone earlier page = record page {
  body = flat_map definition_bytes (borrowed earlier page.body) ++ page.body;
  fonts = borrowed earlier page.body ++ page.fonts;
}

-- its file, which has no other page
abbrev pub page_file : List FontDefinition → Page → List ℕ
page_file earlier page = dvi (alone earlier page ∷ [])

-- the page's bytes in it, with these fonts defined at its beginning, and the postamble, where these are all fonts
abbrev pub page_bytes : Page → List FontDefinition → List ℕ
page_bytes page fonts = bop ∷ flat_map four_bytes page.counts ++ four_bytes (negsuc 0) ++ flat_map definition_bytes fonts ++ page.body ++ eop ∷ []

abbrev pub post_bytes : ℤ → Page → List FontDefinition → List ℕ
post_bytes place page fonts = post ∷ four_bytes place ++ units page.mag ++ sizes_bytes (page ∷ []) ++ definitions_below 256 fonts

-- the numbers of fonts
abbrev pub numbers : List FontDefinition → List ℕ
numbers fonts = map (λ (font : FontDefinition). font.number) fonts

-- no two fonts have one number
abbrev pub AreApart : List FontDefinition → Type 0
AreApart [] = Unit {0}
AreApart (font ∷ fonts) = All (λ (other : FontDefinition). other.number ≡ font.number → ⊥) fonts × AreApart fonts

-- What a page means behind pages that define these fonts it means alone, and there it defines those besides that it uses of them.
abbrev pub MeansTheSame : Widths → List FontDefinition → Page → Type 0
MeansTheSame widths earlier page =
    (contents : Contents) → All IsDefinable earlier → AreApart earlier
    → meaning widths (numbers earlier) page.body ≡ Some contents
    → meaning widths [] (alone earlier page).body ≡ Some (record contents { fonts = borrowed earlier page.body ++ contents.fonts })
