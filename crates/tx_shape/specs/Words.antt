-- The letters of `to` and `spread`, and what follows where they break off and are read anew (TeX: The Program, sections 403, 407 and
-- 645).
use Rattle.std.specs.Prelude.{ℕ, ◌+◌, ◌||◌, Option, Some, None, if◌then◌else◌}
use Rattle.tx_char.specs.Character.{character}
use Rattle.tx_seen.specs.declared.seen.Seen.{Seen}
use Rattle.tx_seen.specs.Seen.{is_space, is_relax, is_begin_group}
use Rattle.tx_shape.specs.declared.words.Word.{Word}
use Rattle.tx_shape.specs.declared.words.Word.TheVariants.{T, S, Sp, Spr, Spre, Sprea}
use Rattle.tx_shape.specs.declared.words.Lost.{Lost}
use Rattle.tx_shape.specs.declared.words.Lost.TheVariants.{Spread, Brace, Begun, Bare}

-- how many letters are read
abbrev pub place_of : Word → ℕ
place_of T = 1
place_of S = 1
place_of Sp = 2
place_of Spr = 3
place_of Spre = 4
place_of Sprea = 5

-- the letter that comes next
abbrev pub expected : Word → ℕ
expected T = character "o"
expected S = character "p"
expected Sp = character "r"
expected Spr = character "e"
expected Spre = character "a"
expected Sprea = character "d"

-- what is read with that letter, unless the word is whole then
abbrev pub longer : Word → Option Word
longer T = None
longer S = Some Sp
longer Sp = Some Spr
longer Spr = Some Spre
longer Spre = Some Sprea
longer Sprea = None

-- how many letters stand behind the begin-group token among them
abbrev pub behind_group : Lost → ℕ
behind_group Spread = 0
behind_group Brace = 0
behind_group (Begun behind) = behind
behind_group Bare = 0

-- what a letter is where a begin-group token is to be: it is skipped, or is it, or is none
abbrev pub lost_by : Seen → Lost
lost_by t = if is_space t || is_relax t then Brace else if is_begin_group t then Begun 0 else Bare

-- where `spread` may come first, a space is skipped for that
abbrev pub lost_to : Seen → Lost
lost_to t = if is_space t then Spread else lost_by t

-- with one letter more
abbrev pub lost_behind : Lost → Seen → Lost
lost_behind Spread t = Spread
lost_behind Brace t = lost_by t
lost_behind (Begun behind) t = Begun (behind + 1)
lost_behind Bare t = Bare
