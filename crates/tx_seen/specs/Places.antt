-- Places of the table.
use Rattle.std.specs.Prelude.{ℕ, Bool, true, false, not, ◌||◌}
use Rattle.tx_prim.specs.declared.family.Numbered.{Numbered}
use Rattle.tx_prim.specs.declared.family.Numbered.TheVariants as number
use Rattle.tx_prim.specs.declared.family.ItemKind.TheVariants as item
use Rattle.tx_prim.specs.declared.family.PageQuantity.TheVariants as page
use Rattle.tx_prim.specs.Glues.{is_in_mu}
use Rattle.tx_seen.specs.declared.place.Place.{Place}
use Rattle.tx_seen.specs.declared.place.Place.TheVariants as place

-- the register or the code with this number
abbrev pub place_of : Numbered → ℕ → Place
place_of number.Count n = place.Count n
place_of number.Dimen n = place.Dimen n
place_of number.Skip n = place.Skip n
place_of number.Muskip n = place.Muskip n
place_of number.Toks n = place.Toks n
place_of number.Category n = place.Category n
place_of (number.Code code) n = place.Code code n
place_of (number.Size side) n = place.BoxSize side n

-- whether a size stands at a place
abbrev pub is_size : Place → Bool
is_size (place.Dimen n) = true
is_size (place.Dimension parameter) = true
is_size (place.BoxSize side n) = true
is_size (place.Last item.Kern) = true
is_size place.PrevDepth = true
is_size (place.FontDimen font n) = true
is_size (place.FontSize size) = true
is_size (place.Page page.InsertPenalties) = false
is_size (place.Page quantity) = true
is_size other = false

-- whether glue stands there, told in mu or in all other units
abbrev pub is_glue : Place → Bool
is_glue (place.Skip n) = true
is_glue (place.Glue parameter) = not (is_in_mu parameter)
is_glue (place.Last item.Skip) = true
is_glue other = false

abbrev pub is_muglue : Place → Bool
is_muglue (place.Muskip n) = true
is_muglue (place.Glue parameter) = is_in_mu parameter
is_muglue other = false

-- whether what stands there is a size or has one, as glue has a width
abbrev pub has_size : Place → Bool
has_size place = is_size place || is_glue place || is_muglue place

-- whether a list of tokens stands there
abbrev pub is_list : Place → Bool
is_list (place.Toks n) = true
is_list (place.Tokens parameter) = true
is_list other = false
