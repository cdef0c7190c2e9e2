-- The definitions at characters of a small font, worked by hand (TeX: The Program, sections 706 to 714 and 740).
use Rattle.std.proofs.Common.{◌≡◌, ℕ, ℤ, pos, Bool, true, false, List, [], ◌∷◌, Some, None, Result, Ok, Err, refl}
use Rattle.tx_node.specs.declared.head.Direction.TheVariants.{Horizontal, Vertical}
use Rattle.tx_node.specs.declared.plain.Plain.TheVariants.{Character}
use Rattle.tx_node.specs.Items.{Item, PackedBox, plain, box_item}
use Rattle.tx_tfm.specs.declared.file.Word.{Word}
use Rattle.tx_tfm.specs.Format.{word_at}
use Rattle.tx_tfm.specs.Scaling.{scaled}
use Rattle.tx_delim.specs.declared.error.DelimError.{DelimError}
use Rattle.tx_delim.specs.declared.error.DelimError.TheVariants.{SizeOutOfRange}
use Rattle.tx_delim.specs.declared.search.Search.{Search}
use Rattle.tx_delim.specs.Boxes.{empty_box, head_of, sized_box}
use Rattle.tx_delim.specs.Delimiters.{delimiter_box}
use Rattle.tx_delim.specs.Fitting.{fitting, fitting_within}
use Rattle.tx_delim.specs.Searching.{along, beginning, recipe_in, searched}
use Rattle.tx_delim.specs.Stacking.{least_steps, least_tallness, repeats, stack_box, stack_depth, stack_list, stack_of, stack_tallness, step_tallness, upper_part}
use Rattle.tx_delim.proofs.Lettered.{fonts, pt}

abbrev found : ℕ → ℤ → Bool → Search
found code tall over = record { found = Some (record { font = 1; code = code }); tall = tall; over = over }

-- a is tall enough for 4pt; for more b is, which is 8pt tall; for still more c is taken, which has a recipe
first-enough : searched fonts (pt 4) 1 97 beginning ≡ found 97 (pt 4) true
unfolding word_at scaled along fitting_within sized_box least_tallness step_tallness least_steps stack_tallness stack_depth upper_part stack_list stack_of
first-enough = refl

second-enough : searched fonts (pt 6) 1 97 beginning ≡ found 98 (pt 8) true
unfolding word_at scaled along fitting_within sized_box least_tallness step_tallness least_steps stack_tallness stack_depth upper_part stack_list stack_of
second-enough = refl

recipe-taken : searched fonts (pt 9) 1 97 beginning ≡ found 99 (pt 8) true
unfolding word_at scaled along fitting_within sized_box least_tallness step_tallness least_steps stack_tallness stack_depth upper_part stack_list stack_of
recipe-taken = refl

-- l is the tallest so far, and none is looked at behind a search that is over; z isn't there, nor anything in \nullfont
tallest : searched fonts (pt 6) 1 108 beginning ≡ found 108 (pt 5) false
unfolding word_at scaled along fitting_within sized_box least_tallness step_tallness least_steps stack_tallness stack_depth upper_part stack_list stack_of
tallest = refl

over-already : searched fonts (pt 6) 1 97 (found 109 (pt 8) true) ≡ found 109 (pt 8) true
unfolding word_at scaled along fitting_within sized_box least_tallness step_tallness least_steps stack_tallness stack_depth upper_part stack_list stack_of
over-already = refl

shorter : searched fonts (pt 9) 1 108 (found 109 (pt 8) false) ≡ found 109 (pt 8) false
unfolding word_at scaled along fitting_within sized_box least_tallness step_tallness least_steps stack_tallness stack_depth upper_part stack_list stack_of
shorter = refl

not-there : searched fonts (pt 6) 1 122 beginning ≡ beginning
unfolding word_at scaled along fitting_within sized_box least_tallness step_tallness least_steps stack_tallness stack_depth upper_part stack_list stack_of
not-there = refl

in-nullfont : searched fonts (pt 6) 0 97 beginning ≡ beginning
unfolding word_at scaled along fitting_within sized_box least_tallness step_tallness least_steps stack_tallness stack_depth upper_part stack_list stack_of
in-nullfont = refl

-- the recipes of c, with a middle, and of d, without one: 9pt and 5pt tall at least, 4pt and 2pt more with each repetition
abbrev with_middle : Word
with_middle = record { a = 101; b = 102; c = 103; d = 104 }

abbrev without_middle : Word
without_middle = record { a = 101; b = 0; c = 103; d = 104 }

recipe-c : recipe_in fonts 1 99 ≡ Some with_middle
unfolding word_at scaled along fitting_within sized_box least_tallness step_tallness least_steps stack_tallness stack_depth upper_part stack_list stack_of
recipe-c = refl

recipe-d : recipe_in fonts 1 100 ≡ Some without_middle
unfolding word_at scaled along fitting_within sized_box least_tallness step_tallness least_steps stack_tallness stack_depth upper_part stack_list stack_of
recipe-d = refl

repeats-none : repeats fonts 1 with_middle (pt 9) ≡ 0
unfolding word_at scaled along fitting_within sized_box least_tallness step_tallness least_steps stack_tallness stack_depth upper_part stack_list stack_of
repeats-none = refl

repeats-once : repeats fonts 1 with_middle (pos 589825) ≡ 1
unfolding word_at scaled along fitting_within sized_box least_tallness step_tallness least_steps stack_tallness stack_depth upper_part stack_list stack_of
repeats-once = refl

repeats-thrice : repeats fonts 1 with_middle (pt 20) ≡ 3
unfolding word_at scaled along fitting_within sized_box least_tallness step_tallness least_steps stack_tallness stack_depth upper_part stack_list stack_of
repeats-thrice = refl

repeats-four : repeats fonts 1 without_middle (pt 12) ≡ 4
unfolding word_at scaled along fitting_within sized_box least_tallness step_tallness least_steps stack_tallness stack_depth upper_part stack_list stack_of
repeats-four = refl

-- a piece that is so wide, also with its italic correction, so high and deep
abbrev piece : ℕ → ℤ → ℤ → ℤ → ℤ → Item
piece code width full height depth = box_item (pos 0) (record {
  head = head_of Horizontal full height depth;
  list = plain (Character (record { font = 1; code = code; width = width; height = height; depth = depth })) ∷ [];
})

abbrev e : Item
e = piece 101 (pt 5) (pt 5) (pt 2) (pt 0)

abbrev f : Item
f = piece 102 (pt 5) (pt 5) (pt 2) (pt 2)

abbrev g : Item
g = piece 103 (pt 5) (pt 5) (pt 1) (pt 2)

abbrev h : Item
h = piece 104 (pt 5) (pt 6) (pt 1) (pt 1)

abbrev stack : ℤ → ℤ → List Item → Result PackedBox DelimError
stack height depth list = Ok (record { head = head_of Vertical (pt 6) height depth; list = list })

-- c as tall as 10pt is 13pt tall: the top is 2pt high, all else is depth; d as tall as 6pt is 7pt tall
stack-c : delimiter_box fonts (pt 10) (pos 0) (Some (record { font = 1; code = 99 })) ≡ stack (pt 2) (pt 11) (e ∷ h ∷ f ∷ h ∷ g ∷ [])
unfolding word_at scaled along fitting_within sized_box least_tallness step_tallness least_steps stack_tallness stack_depth upper_part stack_list stack_of
stack-c = refl

stack-d : delimiter_box fonts (pt 6) (pos 0) (Some (record { font = 1; code = 100 })) ≡ stack (pt 2) (pt 5) (e ∷ h ∷ g ∷ [])
unfolding word_at scaled along fitting_within sized_box least_tallness step_tallness least_steps stack_tallness stack_depth upper_part stack_list stack_of
stack-d = refl

-- without a top the uppermost repetition is as high as the stack; a stack as tall as 2^31sp is no box
no-top : stack_box fonts 1 (record { a = 0; b = 0; c = 103; d = 104 }) (pt 5) ≡ stack (pt 1) (pt 4) (h ∷ g ∷ [])
unfolding word_at scaled along fitting_within sized_box least_tallness step_tallness least_steps stack_tallness stack_depth upper_part stack_list stack_of
no-top = refl

too-tall : stack_box fonts 1 with_middle (pos 2147483648) ≡ Err SizeOutOfRange
unfolding word_at scaled along fitting_within sized_box least_tallness step_tallness least_steps stack_tallness stack_depth upper_part stack_list stack_of
too-tall = refl

-- b is as wide as with its italic correction, and no delimiter is an empty box
character-b : delimiter_box fonts (pt 6) (pos 0) (Some (record { font = 1; code = 98 }))
    ≡ Ok (record { head = head_of Horizontal (pt 7) (pt 5) (pt 3); list = plain (Character (record { font = 1; code = 98; width = pt 6; height = pt 5; depth = pt 3 })) ∷ [] })
unfolding word_at scaled along fitting_within sized_box least_tallness step_tallness least_steps stack_tallness stack_depth upper_part stack_list stack_of
character-b = refl

no-delimiter : delimiter_box fonts (pt 6) (pos 78643) None ≡ Ok (empty_box (pos 78643))
no-delimiter = refl

-- above 6pt the accent i becomes j, above 9pt k, and above 4pt it stays
accent-j : fitting fonts (pt 6) 1 105 ≡ 106
unfolding word_at scaled along fitting_within sized_box least_tallness step_tallness least_steps stack_tallness stack_depth upper_part stack_list stack_of
accent-j = refl

accent-k : fitting fonts (pt 9) 1 105 ≡ 107
unfolding word_at scaled along fitting_within sized_box least_tallness step_tallness least_steps stack_tallness stack_depth upper_part stack_list stack_of
accent-k = refl

accent-i : fitting fonts (pt 4) 1 105 ≡ 105
unfolding word_at scaled along fitting_within sized_box least_tallness step_tallness least_steps stack_tallness stack_depth upper_part stack_list stack_of
accent-i = refl
