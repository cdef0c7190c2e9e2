-- What assignments give values, and in what ranges (The TeXbook, chapter 24; TeX: The Program, sections 1224 to 1240).
use Rattle.std.specs.Prelude.{ℕ, ℤ, pos, neg_ℤ, Bool, false, ◌&&◌, ◌||◌, ◌∷◌, [], int_le, unsigned_abs, slice_index_or}
use Rattle.tx_char.specs.declared.category.Cat.{Cat}
use Rattle.tx_char.specs.declared.category.Cat.TheVariants as category
use Rattle.tx_prim.specs.declared.family.CharacterCode.TheVariants.{LowerCase, UpperCase, SpaceFactor, Math, Delimiter}
use Rattle.tx_prim.specs.declared.family.Operation.TheVariants.{Advance, Multiply, Divide}
use Rattle.tx_prim.specs.declared.family.Shorthand.{Shorthand}
use Rattle.tx_prim.specs.declared.family.Shorthand.TheVariants as shorthand
use Rattle.tx_seen.specs.declared.place.Place.{Place}
use Rattle.tx_seen.specs.declared.place.Place.TheVariants as place
use Rattle.tx_seen.specs.declared.meaning.Meaning.{Meaning}
use Rattle.tx_seen.specs.declared.meaning.Meaning.TheVariants as meaning
use Rattle.tx_num.specs.Glue.{GlueSpec}
use Rattle.tx_seen.specs.Places.{is_glue, is_list, is_muglue, is_size}
use Rattle.tx_eqtb.specs.declared.entry.Entry.{Entry}
use Rattle.tx_eqtb.specs.declared.entry.Entry.TheVariants.{Means, InCategory, Number, Glue}
use Rattle.tx_assign.specs.declared.types.Bounds.{Bounds}
use Rattle.tx_assign.specs.declared.types.Change.{Change}
use Rattle.tx_assign.specs.declared.types.Change.TheVariants as change
use Rattle.tx_assign.specs.declared.types.Purpose.{Purpose}
use Rattle.tx_assign.specs.declared.types.Purpose.TheVariants.{Set, Define, Compute, Copy}

-- whether the value of an assignment is a size: what multiplies or divides is a number
abbrev pub takes_size : Purpose → Place → Bool
takes_size Set place = is_size place
takes_size (Define kind) place = false
takes_size (Compute Advance) place = is_size place
takes_size (Compute Multiply) place = false
takes_size (Compute Divide) place = false
takes_size Copy place = false

-- whether it is glue
abbrev pub takes_glue : Purpose → Place → Bool
takes_glue Set place = is_glue place || is_muglue place
takes_glue (Define kind) place = false
takes_glue (Compute Advance) place = is_glue place || is_muglue place
takes_glue (Compute Multiply) place = false
takes_glue (Compute Divide) place = false
takes_glue Copy place = false

-- whether it is a list of tokens
abbrev pub takes_list : Purpose → Place → Bool
takes_list Set place = is_list place
takes_list (Define kind) place = false
takes_list (Compute operation) place = false
takes_list Copy place = false

abbrev bounds : ℤ → ℤ → Bounds
bounds least greatest = record { least = least; greatest = greatest }

-- all integers, and those up to a number
abbrev all_integers : Bounds
all_integers = bounds (neg_ℤ (pos 2147483647)) (pos 2147483647)

abbrev up_to : ℕ → Bounds
up_to n = bounds (pos 0) (pos n)

-- the numbers that may stand at a place
abbrev pub place_bounds : Place → Bounds
place_bounds (place.Category code) = up_to 15
place_bounds (place.Code LowerCase code) = up_to 255
place_bounds (place.Code UpperCase code) = up_to 255
place_bounds (place.Code SpaceFactor code) = up_to 32767
place_bounds (place.Code Math code) = up_to 32768
place_bounds (place.Code Delimiter code) = bounds (neg_ℤ (pos 2147483647)) (pos 16777215)
place_bounds other = all_integers

-- the numbers that a name may stand for
abbrev pub name_bounds : Shorthand → Bounds
name_bounds shorthand.CountRegister = up_to 255
name_bounds shorthand.DimenRegister = up_to 255
name_bounds shorthand.SkipRegister = up_to 255
name_bounds shorthand.MuskipRegister = up_to 255
name_bounds shorthand.ToksRegister = up_to 255
name_bounds shorthand.Character = up_to 255
name_bounds shorthand.MathCharacter = up_to 32767

-- the numbers that a purpose takes, at a place
abbrev pub purpose_bounds : Purpose → Place → Bounds
purpose_bounds Set place = place_bounds place
purpose_bounds (Define kind) place = name_bounds kind
purpose_bounds (Compute operation) place = all_integers
purpose_bounds Copy place = up_to 255

abbrev pub is_within : Bounds → ℤ → Bool
is_within b n = int_le b.least n && int_le n b.greatest

-- the category of a number, 0 to 15
abbrev pub category_numbered : ℕ → Cat
category_numbered n = slice_index_or (
    category.Escape ∷ category.BeginGroup ∷ category.EndGroup ∷ category.MathShift ∷ category.AlignmentTab ∷ category.EndOfLine
    ∷ category.Parameter ∷ category.Superscript ∷ category.Subscript ∷ category.Ignored ∷ category.Space ∷ category.Letter
    ∷ category.Other ∷ category.Active ∷ category.Comment ∷ category.Invalid ∷ []) n category.Other

-- a number as it stands at a place
abbrev pub entry_at : Place → ℤ → Entry
entry_at (place.Category code) n = InCategory (category_numbered (unsigned_abs n))
entry_at other n = Number n

-- what a name means that stands for a number
abbrev pub meaning_by : Shorthand → ℤ → Meaning
meaning_by shorthand.CountRegister n = meaning.CountRegister (unsigned_abs n)
meaning_by shorthand.DimenRegister n = meaning.DimenRegister (unsigned_abs n)
meaning_by shorthand.SkipRegister n = meaning.SkipRegister (unsigned_abs n)
meaning_by shorthand.MuskipRegister n = meaning.MuskipRegister (unsigned_abs n)
meaning_by shorthand.ToksRegister n = meaning.ToksRegister (unsigned_abs n)
meaning_by shorthand.Character n = meaning.CharacterNumber (unsigned_abs n)
meaning_by shorthand.MathCharacter n = meaning.MathNumber (unsigned_abs n)

-- what becomes of a place by a number
abbrev pub change_by : Purpose → Place → ℤ → Change
change_by Set place n = change.Set (entry_at place n)
change_by (Define kind) place n = change.Set (Means (meaning_by kind n))
change_by (Compute operation) place n = change.Compute operation n
change_by Copy at n = change.Copy (place.Toks (unsigned_abs n))

-- what becomes of it by a size
abbrev pub change_by_size : Purpose → ℤ → Change
change_by_size Set size = change.Set (Number size)
change_by_size (Define kind) size = change.Set (Number size)
change_by_size (Compute operation) size = change.Compute operation size
change_by_size Copy size = change.Set (Number size)

-- what becomes of it by glue
abbrev pub change_by_glue : Purpose → GlueSpec → Change
change_by_glue Set g = change.Set (Glue g)
change_by_glue (Define kind) g = change.Set (Glue g)
change_by_glue (Compute operation) g = change.Add g
change_by_glue Copy g = change.Set (Glue g)
