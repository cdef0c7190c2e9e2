-- What \aftergroup keeps (TeX: The Program, section 326).
use Rattle.std.specs.Prelude.{ℕ, ◌==◌, List, [], ◌∷◌, Option, Some, None, if◌then◌else◌}
use Rattle.tx_char.specs.declared.tokens.Token.{Token}
use Rattle.tx_parts.specs.declared.parts.KeptToken.{KeptToken}

-- what \aftergroup keeps for the end of the innermost of so many groups, the last of those that are left
abbrev pub kept_for : List KeptToken → ℕ → Option Token
kept_for [] groups = None
kept_for (kept ∷ more) groups = if kept.groups == groups then Some kept.token else None

-- all of it, the first first, before these tokens; and what is left behind it
abbrev pub kept_tokens : ℕ → List KeptToken → List Token → List Token
kept_tokens groups [] tokens = tokens
kept_tokens groups (kept ∷ more) tokens = if kept.groups == groups then kept_tokens groups more (kept.token ∷ tokens) else tokens

abbrev pub left_after : ℕ → List KeptToken → List KeptToken
left_after groups [] = []
left_after groups (kept ∷ more) = if kept.groups == groups then left_after groups more else kept ∷ more
