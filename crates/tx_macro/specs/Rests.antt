-- What is still to be read of a use and of one argument at each stage, in the words of the whole.
use Rattle.std.specs.Prelude.{◌≡◌, ℕ, Bool, List, [], ◌∷◌, ◌++◌, ◌-◌, ◌<◌, length, take, drop, slice_index_or}
use Rattle.tx_char.specs.declared.tokens.Token.{Token}
use Rattle.tx_toklist.specs.Macros.{Definition}
use Rattle.tx_macro.specs.Stages.{Taking, Part, Undelimited, Group, Delimited, Stage, Before, Within, Over, Step, Goes, Takes, Breaks, Next, Continues, Ends, Stops}
use Rattle.tx_macro.specs.Agreement.{IsTable}
use Rattle.tx_macro.specs.Arguments.{Taken, Argument, Broken, undelimited, group, delimited}
use Rattle.tx_macro.specs.Matching.{Use, Open, Fits, Fails, behind, arguments, use_of}

-- the rest of an argument, of whose parameter this is the delimiter
abbrev pub part_rest : Bool → List Token → Part → List Token → Taken
part_rest long delimiter Undelimited tokens = undelimited long tokens
part_rest long delimiter (Group g) tokens = group long g.depth g.inside tokens
part_rest long delimiter (Delimited s) tokens = delimited long delimiter (take (length s.met - s.agreed) s.met) s.agreed s.depth (take s.agreed delimiter ++ tokens)

-- the rest of an argument behind a step
abbrev pub step_rest : Bool → List Token → Step → List Token → Taken
step_rest long delimiter (Goes part) tokens = part_rest long delimiter part tokens
step_rest long delimiter (Takes text) tokens = Argument text tokens
step_rest long delimiter (Breaks error) tokens = Broken error

-- the last tokens of a delimited argument that was met agree with the first ones of its delimiter, fewer than all,
-- and none do in a group; and the table is the delimiter's
pub record IsTaking (delimiter : List Token) (s : Taking) : Type 0 where
  pub table : IsTable delimiter s.borders (length delimiter)
  pub fewer : s.agreed < length delimiter
  pub agrees : s.met ≡ take (length s.met - s.agreed) s.met ++ take s.agreed delimiter
  pub outside : 0 < s.depth → s.agreed ≡ 0

abbrev pub IsPart : List Token → Part → Type 0
IsPart delimiter Undelimited = delimiter ≡ []
IsPart delimiter (Group g) = delimiter ≡ []
IsPart delimiter (Delimited s) = IsTaking delimiter s

abbrev pub IsStep : List Token → Step → Type 0
IsStep delimiter (Goes part) = IsPart delimiter part
IsStep delimiter _ = Unit {0}

-- the delimiter behind the parameter that comes behind so many others
abbrev pub delimiter_behind : ℕ → Definition → List Token
delimiter_behind count m = slice_index_or m.parameters.delimiters count []

-- the arguments behind these ones
abbrev pub others : Definition → List (List Token) → List Token → Use
others m taken tokens = arguments m.long taken (drop (length taken) m.parameters.delimiters) tokens

-- the rest of a use
abbrev pub use_rest : Definition → Stage → List Token → Use
use_rest m (Before met) tokens = use_of m (take met m.parameters.before ++ tokens)
use_rest m (Within taken part) tokens = behind (λ text rest. others m (taken ++ text ∷ []) rest) (part_rest m.long (delimiter_behind (length taken) m) part tokens)
use_rest m Over tokens = Open

-- the rest of a use behind one more token
abbrev pub next_rest : Definition → Next → List Token → Use
next_rest m (Continues stage) tokens = use_rest m stage tokens
next_rest m (Ends taken) tokens = Fits taken
next_rest m (Stops error) tokens = Fails error

-- something more is to come
abbrev pub IsStage : Definition → Stage → Type 0
IsStage m (Before met) = met < length m.parameters.before
IsStage m (Within taken part) = (length taken < length m.parameters.delimiters) × IsPart (delimiter_behind (length taken) m) part
IsStage m Over = ⊥

abbrev pub IsNext : Definition → Next → Type 0
IsNext m (Continues stage) = IsStage m stage
IsNext m _ = Unit {0}
