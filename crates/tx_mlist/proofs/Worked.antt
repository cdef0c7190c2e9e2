-- The definitions of how lists are built, at small ones that were worked by hand (The TeXbook, chapters 17, 18 and 26).
use Rattle.std.proofs.Common.{◌≡◌, ℕ, pos, negsuc, true, false, [], ◌∷◌, None, Some, Ok, refl}
use Rattle.std.specs.Prelude.{◌/◌}
use Rattle.tx_mlist.specs.declared.kinds.AtomKind.TheVariants.{Ord, Op, Bin, Rel, Open, Inner, Accent}
use Rattle.tx_mlist.specs.declared.kinds.Delimiter.{Delimiter}
use Rattle.tx_mlist.specs.declared.kinds.Limits.TheVariants.{Displayed, Always}
use Rattle.tx_mlist.specs.declared.kinds.MathCharacter.{MathCharacter}
use Rattle.tx_mlist.specs.declared.kinds.Place.TheVariants.{Nucleus, Superscript, Subscript}
use Rattle.tx_mlist.specs.declared.plain.PlainNoad.TheVariants.{Left, Right}
use Rattle.tx_mlist.specs.Building.{letter_of, delimiter_of, plain_head, kind_of, bare, for_script, is_second, filled, limited, ends_with_operator, finished, part_of_group, grouped, delimited}
use Rattle.tx_mlist.specs.Items.{MathItem, atom, fraction, small, empty, letter, formula, nothing, followed}

abbrev character : ℕ → ℕ → MathCharacter
character family code = record { family = family; code = code }

abbrev x : MathItem
x = atom Ord (letter (character 1 120)) empty empty

-- "7161 is an a, a variable of family 1, which \fam0 takes from family 0, and \fam-1 and \fam16 from its own
letter_a : letter_of (negsuc 0) 29025 ≡ character 1 97
letter_a = refl

letter_a_roman : letter_of (pos 0) 29025 ≡ character 0 97
letter_a_roman = refl

letter_a_beyond : letter_of (pos 16) 29025 ≡ character 1 97
letter_a_beyond = refl

-- "2200 is the minus of family 2, a Bin, whichever \fam is; "303D, a Rel; "1352, an Op; "4028, an Open; "7161, an Ord
minus : letter_of (pos 0) 8704 ≡ character 2 0
minus = refl

kind_of_minus : kind_of (8704 / 4096) ≡ Bin
kind_of_minus = refl

kind_of_equals : kind_of (12349 / 4096) ≡ Rel
kind_of_equals = refl

kind_of_integral : kind_of (4946 / 4096) ≡ Op Displayed
kind_of_integral = refl

kind_of_parenthesis : kind_of (16424 / 4096) ≡ Open
kind_of_parenthesis = refl

kind_of_a : kind_of (29025 / 4096) ≡ Ord
kind_of_a = refl

-- $x^2$: the superscript is the x's, and is not the second; then $x^2^2$ has a second one, and $x^2_2$ none
squared : filled Superscript (letter (character 0 50)) (for_script (x ∷ [])) ≡ atom Ord (letter (character 1 120)) (letter (character 0 50)) empty ∷ []
squared = refl

first_superscript : is_second Superscript (x ∷ []) ≡ false
first_superscript = refl

second_superscript : is_second Superscript (atom Ord (letter (character 1 120)) (letter (character 0 50)) empty ∷ []) ≡ true
second_superscript = refl

first_subscript : is_second Subscript (atom Ord (letter (character 1 120)) (letter (character 0 50)) empty ∷ []) ≡ false
first_subscript = refl

-- $_2$: the subscript is that of an Ord with nothing
lone_subscript : filled Subscript (letter (character 0 50)) (for_script []) ≡ atom Ord empty empty (letter (character 0 50)) ∷ []
lone_subscript = refl

-- $x\mathop{}\limits$, and $x\limits$, which is an error
limits : limited Always (x ∷ atom (Op Displayed) (formula nothing) empty empty ∷ []) ≡ x ∷ atom (Op Always) (formula nothing) empty empty ∷ []
limits = refl

limits_of_ord : ends_with_operator (x ∷ []) ≡ false
limits_of_ord = refl

-- $x\over x$ is a fraction, $x\atop$ too; $x$ is none
abbrev no_delimiter : Delimiter
no_delimiter = record { small = character 0 0; large = character 0 0 }

over_x : finished (Some (record { head = plain_head None; numerator = x ∷ [] })) (x ∷ []) ≡ Ok (fraction (plain_head None) (followed x nothing) (followed x nothing) ∷ [])
over_x = refl

atop_nothing : finished (Some (record { head = plain_head (Some (pos 0)); numerator = x ∷ [] })) [] ≡ Ok (fraction (plain_head (Some (pos 0))) (followed x nothing) nothing ∷ [])
atop_nothing = refl

no_fraction : finished None (x ∷ []) ≡ Ok (x ∷ [])
no_fraction = refl

-- {x} is x itself; {xx}, {} and {\mathbin x} are formulas
braced : part_of_group (x ∷ []) ≡ Ok (letter (character 1 120))
braced = refl

braced_pair : part_of_group (x ∷ x ∷ []) ≡ Ok (formula (followed x (followed x nothing)))
braced_pair = refl

braced_nothing : part_of_group [] ≡ Ok (formula nothing)
braced_nothing = refl

braced_bin : part_of_group (atom Bin (letter (character 1 120)) empty empty ∷ []) ≡ Ok (formula (followed (atom Bin (letter (character 1 120)) empty empty) nothing))
braced_bin = refl

-- "4028300, \delimiter's left parenthesis of plain TeX: small character "28 of family 0, large character 0 of family 3; the number 0 is
-- no delimiter
parenthesis : delimiter_of 67273472 ≡ record { small = character 0 40; large = character 3 0 }
parenthesis = refl

full_stop : delimiter_of 0 ≡ no_delimiter
full_stop = refl

-- {\mathaccent"7013 x} is the accent itself, also with a script in it, but not as a superscript, nor where something stands beside it
abbrev hat_x : MathItem
hat_x = atom (Accent (character 0 19)) (letter (character 1 120)) (letter (character 0 50)) empty

hat_alone : grouped Nucleus (hat_x ∷ []) (x ∷ bare Ord ∷ []) ≡ Ok (x ∷ hat_x ∷ [])
hat_alone = refl

hat_above : grouped Superscript (hat_x ∷ []) (x ∷ []) ≡ Ok (atom Ord (letter (character 1 120)) (formula (followed hat_x nothing)) empty ∷ [])
hat_above = refl

hat_beside : grouped Nucleus (hat_x ∷ x ∷ []) (bare Ord ∷ []) ≡ Ok (atom Ord (formula (followed hat_x (followed x nothing))) empty empty ∷ [])
hat_beside = refl

hat_in_bin : grouped Nucleus (hat_x ∷ []) (bare Bin ∷ []) ≡ Ok (atom Bin (formula (followed hat_x nothing)) empty empty ∷ [])
hat_in_bin = refl

-- \left.x\right. is an Inner
left_x : delimited no_delimiter no_delimiter (x ∷ [])
    ≡ Ok (atom Inner (formula (followed (small (Left no_delimiter)) (followed x (followed (small (Right no_delimiter)) nothing)))) empty empty)
left_x = refl
