-- The arguments of macros (The TeXbook, chapter 20; TeX: The Program, sections 389 to 399).
use Rattle.std.specs.Prelude.{ℕ, zero, suc, Bool, true, false, List, [], ◌∷◌, ◌++◌, ◌-◌, ◌&&◌, ◌==◌, max, not, length, drop, take, if◌then◌else◌}
use Rattle.tx_char.specs.declared.tokens.Token.{Token}
use Rattle.tx_toklist.specs.Macros.{is_begin, is_end}
use Rattle.tx_seen.specs.declared.error.TexError.{TexError}
use Rattle.tx_seen.specs.declared.error.TexError.TheVariants.{ParagraphInArgument, GroupEndInArgument}
use Rattle.tx_macro.specs.Tokens.{same_token, is_space, is_par}

-- how many groups are open behind a token, by how many are before it
abbrev pub level : ℕ → Token → ℕ
level depth t = if is_begin t then suc depth else if is_end t then depth - 1 else depth

-- how many groups are open at the end of a list, by how many are at its beginning
abbrev pub depth_after : ℕ → List Token → ℕ
depth_after depth [] = depth
depth_after depth (t ∷ rest) = depth_after (level depth t) rest

-- no group ends in a list that doesn't begin in it or before it
abbrev pub stays_open : ℕ → List Token → Bool
stays_open depth [] = true
stays_open depth (t ∷ rest) = not (is_end t && depth == 0) && stays_open (level depth t) rest

-- in a balanced list each group that begins ends, and the reverse
abbrev pub is_balanced : List Token → Bool
is_balanced tokens = stays_open 0 tokens && depth_after 0 tokens == 0

-- the group that begins a list ends at the list's last token, and not before
abbrev pub closes_last : ℕ → List Token → Bool
closes_last depth [] = false
closes_last depth (t ∷ []) = is_end t && depth == 1
closes_last depth (t ∷ u ∷ rest) = not (is_end t && depth == 1) && closes_last (level depth t) (u ∷ rest)

-- a balanced list is one group if its first token begins a group that its last one ends: {a}{b} is none
abbrev pub is_one_group : List Token → Bool
is_one_group [] = false
is_one_group (t ∷ rest) = is_begin t && closes_last 1 rest

-- an argument loses its braces if it is one group
abbrev pub without_braces : List Token → List Token
without_braces text = if is_one_group text then take (length text - 2) (drop 1 text) else text

-- how many tokens at their beginning two lists have in common
abbrev pub common : List Token → List Token → ℕ
common [] tokens = 0
common (d ∷ delimiter) [] = 0
common (d ∷ delimiter) (t ∷ rest) = if same_token d t then suc (common delimiter rest) else 0

-- one argument by the tokens that are there: they end before it does; or it is this one, and those are left; or they
-- break off with the error of this number
pub data Taken : Type 0 where
  Unfinished : Taken
  Argument : List Token → List Token → Taken
  Broken : TexError → Taken

-- \par may stand in the arguments of a \long macro alone
abbrev pub is_refused : Bool → Token → Bool
is_refused long t = is_par t && not long

-- the rest of a group, of which these tokens are behind its begin, and in which this many further groups are open
abbrev pub group : Bool → ℕ → List Token → List Token → Taken
group long depth inside [] = Unfinished
group long depth inside (t ∷ rest) =
    if is_refused long t then Broken ParagraphInArgument
    else if is_end t && depth == 0 then Argument inside rest
    else group long (level depth t) (inside ++ t ∷ []) rest

-- an undelimited argument: spaces are skipped; then it is one token, or one group without its braces
abbrev pub undelimited : Bool → List Token → Taken
undelimited long [] = Unfinished
undelimited long (t ∷ rest) =
    if is_space t then undelimited long rest
    else if is_begin t then group long 0 [] rest
    else if is_end t then Broken GroupEndInArgument
    else if is_refused long t then Broken ParagraphInArgument
    else Argument (t ∷ []) rest

-- a delimited argument, of which this text is taken, and in which this many groups are open: outside of groups the
-- delimiter ends it where it first stands. A \par is refused, unless it stands outside of groups among
-- tokens that agree with a beginning of the delimiter; so many of the tokens to come are known to agree with one.
abbrev pub delimited : Bool → List Token → List Token → ℕ → ℕ → List Token → Taken
delimited long delimiter text agreed depth [] = Unfinished
delimited long delimiter text agreed (suc depth) (t ∷ rest) =
    if is_refused long t then Broken ParagraphInArgument
    else delimited long delimiter (text ++ t ∷ []) 0 (level (suc depth) t) rest
delimited long delimiter text agreed zero (t ∷ rest) =
    if common delimiter (t ∷ rest) == length delimiter then Argument (without_braces text) (drop (length delimiter) (t ∷ rest))
    else if common delimiter (t ∷ rest) == length (t ∷ rest) then Unfinished
    else if is_refused long t && max agreed (common delimiter (t ∷ rest)) == 0 then Broken ParagraphInArgument
    else if is_end t then Broken GroupEndInArgument
    else delimited long delimiter (text ++ t ∷ []) (max agreed (common delimiter (t ∷ rest)) - 1) (level 0 t) rest

-- the argument of a parameter with these tokens behind it
abbrev pub argument : Bool → List Token → List Token → Taken
argument long [] tokens = undelimited long tokens
argument long (d ∷ delimiter) tokens = delimited long (d ∷ delimiter) [] 0 0 tokens
