-- The definitions, evaluated on commands that were worked out by hand.
use Rattle.std.proofs.Common.{◌≡◌, ℕ, List, [], ◌∷◌, ◌++◌, map, pos, neg_ℤ, refl, codes}
use Rattle.tx_char.specs.Category.{initial_category}
use Rattle.tx_char.specs.Character.{character}
use Rattle.tx_char.specs.declared.category.Cat.TheVariants.{BeginGroup}
use Rattle.tx_char.specs.declared.tokens.Token.TheVariants as token
use Rattle.tx_prim.specs.declared.family.BoxKind.TheVariants.{Horizontal}
use Rattle.tx_prim.specs.declared.family.BoxSource.TheVariants as source
use Rattle.tx_prim.specs.declared.family.Numbered.TheVariants.{Count}
use Rattle.tx_prim.specs.declared.family.BreakText.TheVariants as text
use Rattle.tx_shape.specs.declared.types.Opener.TheVariants as opener
use Rattle.tx_prim.specs.declared.family.ShiftKind.TheVariants.{Raise}
use Rattle.tx_prim.specs.declared.family.UnboxKind.TheVariants.{VerticalCopy}
use Rattle.tx_prim.specs.declared.primitive.Primitive.{Primitive}
use Rattle.tx_prim.specs.declared.primitive.Primitive.TheVariants as primitive
use Rattle.tx_seen.specs.declared.error.TexError.TheVariants.{MissingBeginGroup, MissingBox, NumberOutOfRange}
use Rattle.tx_seen.specs.declared.fed.Value.TheVariants.{Int}
use Rattle.tx_seen.specs.declared.item.Item.{Item}
use Rattle.tx_seen.specs.declared.item.Item.TheVariants.{Took, Gave}
use Rattle.tx_seen.specs.declared.meaning.Meaning.TheVariants as meaning
use Rattle.tx_seen.specs.Readings.{Done, Wrong}
use Rattle.tx_shape.specs.declared.types.BoxContext.TheVariants.{Append, Register, Ship}
use Rattle.tx_shape.specs.declared.types.BoxGoal.TheVariants.{Natural, To, Spread}
use Rattle.tx_shape.specs.declared.types.BoxRead.TheVariants.{Begin, Copy, Last}
use Rattle.tx_shape.specs.declared.types.Shaped.TheVariants as shaped
use Rattle.tx_shape.specs.declared.types.Shaping.TheVariants as shaping
use Rattle.tx_shape.specs.Shapes.{shape}

-- characters as INITEX reads them
abbrev plain : List ℕ → List Item
plain text = map (λ c. Took (record { token = token.Character c (initial_category c); meaning = meaning.Character c (initial_category c) })) text

-- a name that means this primitive
abbrev named : List ℕ → Primitive → Item
named name primitive = Took (record { token = token.Name name; meaning = meaning.Command primitive })

-- this character, where it begins a group
abbrev begins : ℕ → Item
begins c = Took (record { token = token.Character c BeginGroup; meaning = meaning.Character c BeginGroup })

abbrev hbox : Item
hbox = named (codes "hbox") (primitive.Box Horizontal)

a_size : shape (shaping.Box Horizontal) (plain (codes " to 3pt ") ++ begins (character "{") ∷ plain (codes "x")) ≡ Done (shaped.Box (Begin Horizontal (To (pos 196608))) (Append (pos 0))) (plain (codes "x"))
a_size = refl

a_size_more : shape shaping.Shipout (hbox ∷ plain (codes "SPREAD-1pt") ++ begins (character "{") ∷ []) ≡ Done (shaped.Box (Begin Horizontal (Spread (neg_ℤ (pos 65536)))) Ship) []
a_size_more = refl

no_size : shape (shaping.Box Horizontal) (named (codes "relax") primitive.Relax ∷ begins (character "{") ∷ []) ≡ Done (shaped.Box (Begin Horizontal Natural) (Append (pos 0))) []
no_size = refl

a_word_that_comes_late : shape (shaping.Box Horizontal) (named (codes "relax") primitive.Relax ∷ plain (codes "to3pt") ++ begins (character "{") ∷ []) ≡ Wrong MissingBeginGroup
a_word_that_comes_late = refl

a_word_that_breaks_off : shape (shaping.Box Horizontal) (plain (codes "sprxad1pt") ++ begins (character "{") ∷ []) ≡ Wrong MissingBeginGroup
a_word_that_breaks_off = refl

-- its letters are read anew
a_word_that_begins_a_group : shape (shaping.Box Horizontal) (begins (character "s") ∷ plain (codes "prx")) ≡ Done (shaped.Box (Begin Horizontal Natural) (Append (pos 0))) (plain (codes "prx"))
a_word_that_begins_a_group = refl

a_register : shape shaping.SetBox (plain (codes "1 = ") ++ hbox ∷ begins (character "{") ∷ []) ≡ Done (shaped.Box (Begin Horizontal Natural) (Register 1)) []
a_register = refl

-- whose number stands in another one, behind which the box is read before that number is known
a_value_that_is_needed : shape shaping.SetBox (named (codes "count") (primitive.Numbered Count) ∷ plain (codes "2") ++ named (codes "copy") (primitive.BoxFrom source.Copy) ∷ Gave (Int (pos 7)) ∷ plain (codes "3.")) ≡ Done (shaped.Box (Copy 3) (Register 7)) (plain (codes "."))
a_value_that_is_needed = refl

no_register : shape (shaping.From source.Register) (plain (codes "256 ")) ≡ Wrong NumberOutOfRange
no_register = refl

a_box_that_is_raised : shape (shaping.Shift Raise) (plain (codes "2pt") ++ named (codes "lastbox") (primitive.BoxFrom source.Last) ∷ []) ≡ Done (shaped.Box Last (Append (neg_ℤ (pos 131072)))) []
a_box_that_is_raised = refl

no_box : shape (shaping.Shift Raise) (plain (codes "2pt x")) ≡ Wrong MissingBox
no_box = refl

a_list : shape (shaping.Unbox VerticalCopy) (plain (codes "`a x")) ≡ Done (shaped.Unbox VerticalCopy 97) (plain (codes "x"))
a_list = refl

a_penalty : shape shaping.Penalty (plain (codes "-10000.")) ≡ Done (shaped.Penalize (neg_ℤ (pos 10000))) (plain (codes "."))
a_penalty = refl

a_depth : shape shaping.PrevDepth (plain (codes "=-1000pt.")) ≡ Done (shaped.SetDepth (neg_ℤ (pos 65536000))) (plain (codes "."))
a_depth = refl

a_count_of_lines : shape shaping.PrevGraf (plain (codes "=-7.")) ≡ Done (shaped.SetPrevGraf (neg_ℤ (pos 7))) (plain (codes "."))
a_count_of_lines = refl

a_shape_of_two_lines : shape shaping.ParShape (plain (codes "=2 3pt")) ≡ Done (shaped.BeginShape (pos 2)) (plain (codes "3pt"))
a_shape_of_two_lines = refl

a_text_of_a_discretionary : shape (shaping.Open (opener.Break text.Before)) (plain (codes " x")) ≡ Wrong MissingBeginGroup
a_text_of_a_discretionary = refl
