-- The definition of the DVI file at a page that was worked out by hand.
use Rattle.std.proofs.Common.{◌≡◌, [], ◌∷◌, ◌++◌, refl, lit<}
use Rattle.std.specs.Prelude.{pos, negsuc, replicate, codes, drop}
use Rattle.std.specs.Fmt.{signed_decimal}
use Rattle.std.proofs.lemmas.Fmt.{decimal-digits_of}
use Rattle.tx_dvi.specs.Page.{Page}
use Rattle.tx_dvi.specs.Dvi.{dvi, all_definitions, four_bytes, two_bytes, unsigned_bytes, definition_bytes, definitions_below}

-- a rule of 2pt by 1pt, shipped on 17 May 2024 at 9:30
abbrev page : Page
page = record {
  body = 159 ∷ 2 ∷ 0 ∷ 0 ∷ 132 ∷ 0 ∷ 2 ∷ 0 ∷ 0 ∷ 0 ∷ 1 ∷ 0 ∷ 0 ∷ [];
  fonts = [];
  counts = replicate 10 (pos 0);
  height = pos 131072;
  width = pos 65536;
  nesting = 0;
  mag = 1000;
  date = record { year = pos 2024; month = pos 5; day = pos 17; time = pos 570 };
}

-- minus one is four bytes of ones
four_bytes-minus_one : four_bytes (negsuc 0) ≡ 255 ∷ 255 ∷ 255 ∷ 255 ∷ []
unfolding four_bytes
four_bytes-minus_one = refl

year : signed_decimal (pos 2024) ≡ codes "2024"
year = decimal-digits_of 2024 (lit< tt) (lit< tt)

-- its file: preamble, bop, body, eop, postamble
dvi-page : dvi (page ∷ []) ≡
    (247 ∷ 2 ∷ 1 ∷ 131 ∷ 146 ∷ 192 ∷ 28 ∷ 59 ∷ 0 ∷ 0 ∷ 0 ∷ 0 ∷ 3 ∷ 232 ∷ 27 ∷ codes " TeX output 2024.05.17:0930")
    ++ (139 ∷ replicate 40 0 ++ 255 ∷ 255 ∷ 255 ∷ 255 ∷ [])
    ++ (159 ∷ 2 ∷ 0 ∷ 0 ∷ 132 ∷ 0 ∷ 2 ∷ 0 ∷ 0 ∷ 0 ∷ 1 ∷ 0 ∷ 0 ∷ 140 ∷ [])
    ++ (248 ∷ 0 ∷ 0 ∷ 0 ∷ 42 ∷ 1 ∷ 131 ∷ 146 ∷ 192 ∷ 28 ∷ 59 ∷ 0 ∷ 0 ∷ 0 ∷ 0 ∷ 3 ∷ 232 ∷ 0 ∷ 2 ∷ 0 ∷ 0 ∷ 0 ∷ 1 ∷ 0 ∷ 0 ∷ 0 ∷ 0 ∷ 0 ∷ 1 ∷ [])
    ++ (249 ∷ 0 ∷ 0 ∷ 0 ∷ 101 ∷ 2 ∷ 223 ∷ 223 ∷ 223 ∷ 223 ∷ [])
unfolding four_bytes two_bytes definitions_below
dvi-page = rw year refl

-- a character a of the font t at 10pt, which is the first font; the file of Knuth's TeX has the same bytes
abbrev font_page : Page
font_page = record page {
  body = 159 ∷ 2 ∷ 128 ∷ 0 ∷ 243 ∷ 0 ∷ 0 ∷ 0 ∷ 0 ∷ 0 ∷ 0 ∷ 10 ∷ 0 ∷ 0 ∷ 0 ∷ 10 ∷ 0 ∷ 0 ∷ 0 ∷ 1 ∷ 116 ∷ 171 ∷ 97 ∷ [];
  fonts = record { number = 0; checksum = 0; size = 655360; design_size = 655360; name = 116 ∷ [] } ∷ [];
}

-- its postamble begins at byte 111, and ends with the definition of the font
post-font : drop 111 (dvi (font_page ∷ [])) ≡
    (248 ∷ 0 ∷ 0 ∷ 0 ∷ 42 ∷ 1 ∷ 131 ∷ 146 ∷ 192 ∷ 28 ∷ 59 ∷ 0 ∷ 0 ∷ 0 ∷ 0 ∷ 3 ∷ 232 ∷ 0 ∷ 2 ∷ 0 ∷ 0 ∷ 0 ∷ 1 ∷ 0 ∷ 0 ∷ 0 ∷ 0 ∷ 0 ∷ 1 ∷ [])
    ++ (243 ∷ 0 ∷ 0 ∷ 0 ∷ 0 ∷ 0 ∷ 0 ∷ 10 ∷ 0 ∷ 0 ∷ 0 ∷ 10 ∷ 0 ∷ 0 ∷ 0 ∷ 1 ∷ 116 ∷ [])
    ++ (249 ∷ 0 ∷ 0 ∷ 0 ∷ 111 ∷ 2 ∷ 223 ∷ 223 ∷ 223 ∷ 223 ∷ 223 ∷ [])
unfolding four_bytes two_bytes unsigned_bytes definition_bytes definitions_below
post-font = rw year refl

-- the same font at 5pt, which is the second one: the postamble has it before the first, whichever page comes first
abbrev small_page : Page
small_page = record font_page { fonts = record { number = 1; checksum = 0; size = 327680; design_size = 655360; name = 116 ∷ [] } ∷ [] }

fonts-back : all_definitions (font_page ∷ small_page ∷ []) ≡
    (243 ∷ 1 ∷ 0 ∷ 0 ∷ 0 ∷ 0 ∷ 0 ∷ 5 ∷ 0 ∷ 0 ∷ 0 ∷ 10 ∷ 0 ∷ 0 ∷ 0 ∷ 1 ∷ 116 ∷ [])
    ++ (243 ∷ 0 ∷ 0 ∷ 0 ∷ 0 ∷ 0 ∷ 0 ∷ 10 ∷ 0 ∷ 0 ∷ 0 ∷ 10 ∷ 0 ∷ 0 ∷ 0 ∷ 1 ∷ 116 ∷ [])
unfolding unsigned_bytes definition_bytes definitions_below
fonts-back = refl
