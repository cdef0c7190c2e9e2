-- How the use of a macro stands among tokens (The TeXbook, chapter 20).
use Rattle.std.specs.Prelude.{◌≡◌, ◌≢◌, ℕ, ◌<◌, Bool, true, List, [], ◌∷◌, ◌++◌, ◌&&◌, ◌==◌, not, length, drop, take, IsTrue}
use Rattle.std.specs.List.{list_all}
use Rattle.tx_char.specs.declared.tokens.Token.{Token}
use Rattle.tx_toklist.specs.Macros.{Definition, is_begin, is_end}
use Rattle.tx_macro.specs.Tokens.{is_space}
use Rattle.tx_macro.specs.Arguments.{common, depth_after, is_balanced, is_refused, level, without_braces}

-- no \par but in the arguments of a \long macro
abbrev pub is_free : Bool → List Token → Bool
is_free long text = list_all (λ t. not (is_refused long t)) text

-- no \par in groups, but in the arguments of a \long macro
abbrev pub is_allowed : Bool → ℕ → List Token → Bool
is_allowed long depth [] = true
is_allowed long depth (t ∷ rest) = not (is_refused long t && not (depth == 0)) && is_allowed long (level depth t) rest

-- a token that is an argument by itself
abbrev pub is_single : Bool → Token → Bool
is_single long t = not (is_space t) && (not (is_begin t) && (not (is_end t) && not (is_refused long t)))

-- before the end of the text with which these tokens begin, the delimiter stands nowhere outside of groups
abbrev pub IsShortest : List Token → List Token → List Token → Type 0
IsShortest delimiter text tokens = (k : ℕ) → k < length text → depth_after 0 (take k text) ≡ 0 → common delimiter (drop k tokens) ≢ length delimiter

-- an argument of a parameter with this delimiter stands at the beginning of these tokens; this is the argument, and
-- those are behind it
pub data IsArgument (long : Bool) : List Token → List Token → List Token → List Token → Type 0 where
  -- with no delimiter it is the first token but for spaces
  Single : (spaces : List Token) (t : Token) (rest : List Token) → IsTrue (list_all is_space spaces) → IsTrue (is_single long t) → IsArgument long [] (spaces ++ t ∷ rest) (t ∷ []) rest
  -- or what is between the braces of a group
  Braced : (spaces : List Token) (opening : Token) (text : List Token) (closing : Token) (rest : List Token) → IsTrue (list_all is_space spaces) → IsTrue (is_begin opening) → IsTrue (is_balanced text) → IsTrue (is_free long text) → IsTrue (is_end closing) → IsArgument long [] (spaces ++ opening ∷ (text ++ closing ∷ rest)) text rest
  -- else it is what stands before the first delimiter outside of groups, without its braces if it is one group
  Delimited : (d : Token) (delimiter text rest : List Token) → IsTrue (is_balanced text) → IsTrue (is_allowed long 0 text) → IsShortest (d ∷ delimiter) text (text ++ (d ∷ delimiter ++ rest)) → IsArgument long (d ∷ delimiter) (text ++ (d ∷ delimiter ++ rest)) (without_braces text) rest

-- so do arguments of parameters with these delimiters, one behind the other
pub data AreArguments (long : Bool) : List (List Token) → List Token → List (List Token) → List Token → Type 0 where
  Without : (rest : List Token) → AreArguments long [] rest [] rest
  With : (delimiter : List Token) (delimiters : List (List Token)) (tokens text behind : List Token) (texts : List (List Token)) (rest : List Token) → IsArgument long delimiter tokens text behind → AreArguments long delimiters behind texts rest → AreArguments long (delimiter ∷ delimiters) tokens (text ∷ texts) rest

-- a use with these arguments: the tokens before the first parameter, and then the arguments
abbrev pub IsUse : Definition → List Token → List (List Token) → List Token → Type 0
IsUse m tokens texts rest = (behind : List Token) × ((tokens ≡ m.parameters.before ++ behind) × AreArguments m.long m.parameters.delimiters behind texts rest)
