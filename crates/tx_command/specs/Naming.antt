-- Whether the name of a file is being read, item by item.
use Rattle.std.specs.Prelude.{◌==◌, ◌||◌, Bool, true, false, not, List, fold, if◌then◌else◌}
use Rattle.tx_char.specs.Character.{character}
use Rattle.tx_seen.specs.declared.item.Item.{Item}
use Rattle.tx_seen.specs.declared.item.Item.TheVariants.{Took, Gave}
use Rattle.tx_seen.specs.declared.meaning.Meaning.{Meaning}
use Rattle.tx_seen.specs.declared.meaning.Meaning.TheVariants.{Character}
use Rattle.tx_seen.specs.declared.seen.Seen.{Seen}
use Rattle.tx_seen.specs.Seen.{is_other, is_space, is_undefined}
use Rattle.tx_command.specs.declared.naming.NamePart.{NamePart}
use Rattle.tx_command.specs.declared.naming.NamePart.TheVariants.{Equals, Blank, Name, Over}

-- whether a token is a character of a file's name: one that is no blank
abbrev pub is_named_by : Meaning → Bool
is_named_by (Character code category) = not (code == character " ")
is_named_by other = false

abbrev pub is_named : Seen → Bool
is_named t = is_named_by t.meaning

-- what is read behind a token, by what it is a part of
abbrev pub behind_name : Seen → NamePart
behind_name t = if is_undefined t || (is_space t || not (is_named t)) then Over else Name

abbrev pub behind_blank : Seen → NamePart
behind_blank t = if is_space t then Blank else behind_name t

abbrev pub behind_equals : Seen → NamePart
behind_equals t = if is_undefined t then Over else if is_space t then Equals else if is_other (character "=") t then Blank else behind_blank t

abbrev pub behind_token : NamePart → Seen → NamePart
behind_token Equals t = behind_equals t
behind_token Blank t = behind_blank t
behind_token Name t = behind_name t
behind_token Over t = Over

abbrev pub behind : NamePart → Item → NamePart
behind part (Gave v) = Over
behind part (Took t) = behind_token part t

-- and behind all of these items
abbrev pub part_behind : List Item → NamePart
part_behind items = fold behind Equals items

-- whether it is the name
abbrev pub is_name : NamePart → Bool
is_name Equals = false
is_name Blank = true
is_name Name = true
is_name Over = false
