-- The definitions, evaluated on commands that were worked out by hand.
use Rattle.std.proofs.Common.{◌≡◌, ℕ, true, false, Some, None, List, [], ◌∷◌, ◌++◌, map, pos, neg_ℤ, refl, codes}
use Rattle.tx_char.specs.declared.tokens.Token.TheVariants as token
use Rattle.tx_char.specs.declared.category.Cat.TheVariants.{BeginGroup}
use Rattle.tx_char.specs.Category.{initial_category}
use Rattle.tx_prim.specs.declared.primitive.Primitive.{Primitive}
use Rattle.tx_prim.specs.declared.primitive.Primitive.TheVariants as primitive
use Rattle.tx_prim.specs.declared.family.BoxSource.TheVariants.{Split}
use Rattle.tx_prim.specs.declared.family.CodedKind.TheVariants as coded
use Rattle.tx_prim.specs.declared.family.DelimiterUse.TheVariants.{Left}
use Rattle.tx_prim.specs.declared.family.BreakText.TheVariants.{Behind}
use Rattle.tx_shape.specs.declared.types.BoxContext.TheVariants.{Append}
use Rattle.tx_shape.specs.declared.types.Opener.TheVariants as opener
use Rattle.tx_prim.specs.declared.family.Numbered.TheVariants as number
use Rattle.tx_prim.specs.declared.family.Operation.TheVariants.{Advance}
use Rattle.tx_prim.specs.declared.family.Prefix.TheVariants.{Global}
use Rattle.tx_prim.specs.declared.family.RuleKind.TheVariants.{Vertical as Vertical_rule}
use Rattle.tx_prim.specs.declared.family.Shorthand.TheVariants as shorthand
use Rattle.tx_prim.specs.declared.family.SizeKind.TheVariants.{Kern}
use Rattle.tx_prim.specs.declared.family.TextUse.TheVariants.{Patterns}
use Rattle.tx_prim.specs.declared.modes.Mode.TheVariants.{Vertical, RestrictedHorizontal, Math}
use Rattle.tx_prim.specs.Table.{line_of}
use Rattle.tx_seen.specs.declared.error.TexError.TheVariants.{MissingUnit, NumberOutOfRange, NoAssignment, NotAllowed, MissingDelimiter}
use Rattle.tx_seen.specs.declared.fed.Kind.TheVariants.{Quantity}
use Rattle.tx_seen.specs.declared.fed.Value.TheVariants.{Int}
use Rattle.tx_seen.specs.declared.item.Item.{Item}
use Rattle.tx_seen.specs.declared.item.Item.TheVariants.{Took, Gave}
use Rattle.tx_seen.specs.declared.meaning.Meaning.TheVariants as meaning
use Rattle.tx_seen.specs.declared.place.Place.TheVariants.{Count, Dimen, Name}
use Rattle.tx_seen.specs.Readings.{Need, Done, Wrong}
use Rattle.tx_eqtb.specs.declared.entry.Entry.TheVariants.{Number, Means}
use Rattle.tx_assign.specs.declared.types.Change.TheVariants.{Set, Compute}
use Rattle.tx_command.specs.declared.types.Command.TheVariants as command
use Rattle.tx_command.specs.declared.types.Head.TheVariants.{Fresh, Prefixed, Defining, Shaping, Opening, Delimiting, Accenting}
use Rattle.tx_command.specs.declared.types.Delimiting.TheVariants.{First}
use Rattle.tx_command.specs.declared.types.Prefixes.{Prefixes}
use Rattle.tx_command.specs.declared.types.SizeUse.TheVariants.{Item as An_item, Shape}
use Rattle.tx_command.specs.Commands.{command as read}

-- characters as INITEX reads them
abbrev plain : List ℕ → List Item
plain text = map (λ c. Took (record { token = token.Character c (initial_category c); meaning = meaning.Character c (initial_category c) })) text

-- a name that means this primitive
abbrev named : List ℕ → Primitive → Item
named name primitive = Took (record { token = token.Name name; meaning = meaning.Command primitive })

abbrev a_begin_group : Item
a_begin_group = Took (record { token = token.Character 123 BeginGroup; meaning = meaning.Character 123 BeginGroup })

abbrev unprefixed : Prefixes
unprefixed = record { global = false; long = false; outer = false }

a_rule : read RestrictedHorizontal Fresh (named (codes "vrule") (primitive.Rule Vertical_rule) ∷ plain (codes "width 1pt height 2pt depth 0pt.")) ≡ Done (command.Rule Vertical_rule (record { width = Some (pos 65536); height = Some (pos 131072); depth = Some (pos 0) })) (plain (codes "."))
unfolding line_of
a_rule = refl

a_side_that_breaks_off : read RestrictedHorizontal Fresh (named (codes "vrule") (primitive.Rule Vertical_rule) ∷ plain (codes " heigho")) ≡ Done (command.Rule Vertical_rule (record { width = Some (pos 26214); height = None; depth = None })) (plain (codes "heigho"))
unfolding line_of
a_side_that_breaks_off = refl

a_kern_in_a_vertical_list : read Vertical Fresh (named (codes "kern") (primitive.Sized Kern) ∷ plain (codes "1pt ")) ≡ Done (command.Sized (An_item Kern) (pos 65536)) []
unfolding line_of
a_kern_in_a_vertical_list = refl

-- \end stands on the pages alone, where it is read again
the_end : read Vertical Fresh (named (codes "end") primitive.End ∷ plain (codes "x")) ≡ Done command.End (named (codes "end") primitive.End ∷ plain (codes "x"))
unfolding line_of
the_end = refl

an_end_in_a_box : read RestrictedHorizontal Fresh (named (codes "end") primitive.End ∷ []) ≡ Wrong NotAllowed
unfolding line_of
an_end_in_a_box = refl

a_split : read Vertical Fresh (named (codes "vsplit") (primitive.BoxFrom Split) ∷ plain (codes "7 to2pt ")) ≡ Done (command.SplitBox 7 (pos 131072) (Append (pos 0))) []
unfolding line_of
a_split = refl

a_split_without_to : read Vertical Fresh (named (codes "vsplit") (primitive.BoxFrom Split) ∷ plain (codes "7 2pt")) ≡ Wrong MissingUnit
unfolding line_of
a_split_without_to = refl

an_insert : read Vertical Fresh (named (codes "insert") primitive.Insert ∷ plain (codes "254 ") ++ a_begin_group ∷ plain (codes "x")) ≡ Done (command.Open (opener.Insert 254)) (plain (codes "x"))
unfolding line_of
an_insert = refl

an_insert_of_no_class : read Vertical Fresh (named (codes "insert") primitive.Insert ∷ plain (codes "255 ")) ≡ Wrong NumberOutOfRange
unfolding line_of
an_insert_of_no_class = refl

a_register : read Vertical Fresh (named (codes "count") (primitive.Numbered number.Count) ∷ plain (codes "1=5x")) ≡ Done (command.Assign (record { place = Count 1; change = Set (Number (pos 5)) })) (plain (codes "x"))
unfolding line_of
a_register = refl

-- the number of a register that stands in another one
a_value_that_is_needed : read Vertical Fresh (named (codes "count") (primitive.Numbered number.Count) ∷ named (codes "count") (primitive.Numbered number.Count) ∷ plain (codes "7=")) ≡ Need (Quantity (Count 7))
unfolding line_of
a_value_that_is_needed = refl

its_value : read Vertical Fresh ((named (codes "count") (primitive.Numbered number.Count) ∷ named (codes "count") (primitive.Numbered number.Count) ∷ plain (codes "7=")) ++ Gave (Int (pos 3)) ∷ plain (codes "12 ")) ≡ Done (command.Assign (record { place = Count 3; change = Set (Number (pos 12)) })) []
unfolding line_of
its_value = refl

a_prefix : read Vertical Fresh (named (codes "global") (primitive.Prefix Global) ∷ []) ≡ Done (command.Prefix Global) []
unfolding line_of
a_prefix = refl

an_advance : read Vertical (Prefixed (record { global = true; long = false; outer = false })) (named (codes "advance") (primitive.Arithmetic Advance) ∷ named (codes "count") (primitive.Numbered number.Count) ∷ plain (codes "12 by-3 ")) ≡ Done (command.Assign (record { place = Count 12; change = Compute Advance (neg_ℤ (pos 3)) })) []
an_advance = refl

a_dimension : read RestrictedHorizontal Fresh (named (codes "dimen") (primitive.Numbered number.Dimen) ∷ plain (codes "7 .5pt ")) ≡ Done (command.Assign (record { place = Dimen 7; change = Set (Number (pos 32768)) })) []
unfolding line_of
a_dimension = refl

a_name_that_is_defined : read Vertical Fresh (named (codes "chardef") (primitive.Shorthand shorthand.Character) ∷ named (codes "a") primitive.Relax ∷ []) ≡ Done (command.Define (Name (codes "a")) shorthand.Character) []
unfolding line_of
a_name_that_is_defined = refl

its_number : read Vertical (Defining unprefixed (Name (codes "a")) shorthand.Character) (plain (codes "=65 ")) ≡ Done (command.Assign (record { place = Name (codes "a"); change = Set (Means (meaning.CharacterNumber 65)) })) []
its_number = refl

a_category_of_16 : read Vertical Fresh (named (codes "catcode") (primitive.Numbered number.Category) ∷ plain (codes "`x=16 ")) ≡ Wrong NumberOutOfRange
unfolding line_of
a_category_of_16 = refl

a_space_behind_a_prefix : read Vertical (Prefixed (record { global = true; long = false; outer = false })) (plain (codes " ")) ≡ Done command.Nothing []
a_space_behind_a_prefix = refl

a_letter_behind_a_prefix : read Vertical (Prefixed (record { global = true; long = false; outer = false })) (plain (codes "x")) ≡ Wrong NoAssignment
a_letter_behind_a_prefix = refl

-- behind \ignorespaces: what ends the spaces is read again, but for what \noexpand holds
spaces_before_a_letter : read Vertical Fresh (named (codes "ignorespaces") primitive.IgnoreSpaces ∷ plain (codes "  x")) ≡ Done command.Nothing (plain (codes "x"))
unfolding line_of
spaces_before_a_letter = refl

spaces_before_a_held_name : read Vertical Fresh (named (codes "ignorespaces") primitive.IgnoreSpaces ∷ plain (codes "  ") ++ Took (record { token = token.Name (codes "a"); meaning = meaning.Held }) ∷ plain (codes "x")) ≡ Done command.Nothing (plain (codes "x"))
unfolding line_of
spaces_before_a_held_name = refl

-- what follows \parshape and its number, and \discretionary and its first text
a_size_of_a_line : read Vertical (Shaping unprefixed 3 (pos 0 ∷ [])) (plain (codes "2pt -1pt")) ≡ Done (command.Sized Shape (pos 131072)) (plain (codes "-1pt"))
a_size_of_a_line = refl

a_second_text : read RestrictedHorizontal (Opening (opener.Break Behind)) (plain (codes " ") ++ a_begin_group ∷ plain (codes "x")) ≡ Done (command.Open (opener.Break Behind)) (plain (codes "x"))
a_second_text = refl

-- \patterns is an assignment, and no definition
patterns_behind_global : read Vertical (Prefixed (record { global = true; long = false; outer = false })) (named (codes "patterns") (primitive.Text Patterns) ∷ []) ≡ Done (command.BeginText Patterns) []
patterns_behind_global = refl

patterns_behind_long : read Vertical (Prefixed (record { global = false; long = true; outer = false })) (named (codes "patterns") (primitive.Text Patterns) ∷ []) ≡ Wrong NoAssignment
patterns_behind_long = refl

a_full_stop_as_a_delimiter : read Math (Delimiting (First Left)) (plain (codes ".b")) ≡ Done (command.Character 46) (plain (codes "b"))
a_full_stop_as_a_delimiter = refl

a_number_as_a_delimiter : read Math (Delimiting (First Left)) (named (codes "delimiter") (primitive.Coded coded.Delimiter) ∷ plain (codes "16 b")) ≡ Done (command.Coded coded.Delimiter (pos 16)) (plain (codes "b"))
a_number_as_a_delimiter = refl

a_brace_is_no_delimiter : read Math (Delimiting (First Left)) (a_begin_group ∷ []) ≡ Wrong MissingDelimiter
a_brace_is_no_delimiter = refl

a_letter_below_an_accent : read RestrictedHorizontal (Accenting unprefixed) (plain (codes "eb")) ≡ Done (command.Character 101) (plain (codes "b"))
a_letter_below_an_accent = refl

an_accent_before_a_brace : read RestrictedHorizontal (Accenting unprefixed) (a_begin_group ∷ plain (codes "e")) ≡ Done command.EndAccent (a_begin_group ∷ plain (codes "e"))
an_accent_before_a_brace = refl

setbox_behind_an_accent : read RestrictedHorizontal (Accenting (record unprefixed { global = true })) (named (codes "setbox") primitive.SetBox ∷ []) ≡ Wrong NotAllowed
setbox_behind_an_accent = refl
