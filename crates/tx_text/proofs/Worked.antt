-- Worked cases: what Knuth's TeX makes of these texts, and its errors (run by tex -ini).
use Rattle.std.proofs.Common.{◌≡◌, ℕ, true, false, List, [], ◌∷◌, Some, None, Result, Ok, Err, refl}
use Rattle.std.specs.Prelude.{codes, cond}
use Rattle.std.specs.Str.{bytes_eq as same_text}
use Rattle.tx_char.specs.declared.category.Cat.TheVariants.{BeginGroup, EndGroup, Letter, Other, Parameter, Space}
use Rattle.tx_char.specs.declared.tokens.Token.{Token}
use Rattle.tx_char.specs.declared.tokens.Token.TheVariants as token
use Rattle.tx_prim.specs.declared.primitive.Primitive.TheVariants.{Relax}
use Rattle.tx_seen.specs.declared.error.TexError.{TexError}
use Rattle.tx_seen.specs.declared.error.TexError.TheVariants.{BadParameter, MissingBeginGroup, Undefined}
use Rattle.tx_seen.specs.declared.meaning.Meaning.{Meaning}
use Rattle.tx_seen.specs.declared.meaning.Meaning.TheVariants as meaning
use Rattle.tx_seen.specs.declared.seen.Seen.{Seen}
use Rattle.tx_text.specs.declared.stages.Stage.TheVariants as stage
use Rattle.tx_text.specs.declared.stages.TextStage.TheVariants.{Ended}
use Rattle.tx_text.specs.Definitions.{Defining, no_definition, puts, takes}
use Rattle.tx_text.specs.Absorbed.{Absorbing, absorbs, no_text}

name : List ℕ → Token
name n = token.Name n

abbrev letter : ℕ → Token
letter c = token.Character c Letter

abbrev other : ℕ → Token
other c = token.Character c Other

-- `{`, `}`, `#`, and `!` with the category of #
abbrev left : Token
left = token.Character 123 BeginGroup

abbrev right : Token
right = token.Character 125 EndGroup

abbrev sign : Token
sign = token.Character 35 Parameter

abbrev mark : Token
mark = token.Character 33 Parameter

-- \h is let to #, \l to `{`, \r to `}`; \relax has its meaning; all other names have none
abbrev h : Token
h = token.Name (codes "h")

abbrev l : Token
l = token.Name (codes "l")

abbrev r : Token
r = token.Name (codes "r")

abbrev means : Token → Meaning
means (token.Name n) =
    cond (same_text n (codes "h")) (meaning.Character 35 Parameter) (
    cond (same_text n (codes "l")) (meaning.Character 123 BeginGroup) (
    cond (same_text n (codes "r")) (meaning.Character 125 EndGroup) (
    cond (same_text n (codes "relax")) (meaning.Command Relax) meaning.Undefined)))
means (token.Character c category) = meaning.Character c category
means token.FrozenRelax = meaning.Command Relax
means (token.FontIdentifier font) = meaning.Font font

abbrev seen : Token → Seen
seen t = record { token = t; meaning = means t }

-- a definition behind these tokens
abbrev go : {A : Type 0} → Result A TexError → (A → Result A TexError) → Result A TexError
go (Ok next) on = on next
go (Err e) on = Err e

abbrev reads : Defining → List Token → Result Defining TexError
reads d [] = Ok d
reads d (t ∷ ts) = go (takes d (seen t) d.stage) (λ next. reads next ts)

-- a text behind these tokens
abbrev absorbed : Absorbing → List Token → Result Absorbing TexError
absorbed a [] = Ok a
absorbed a (t ∷ ts) = go (absorbs a (seen t) a.stage) (λ next. absorbed next ts)

abbrev defined : List Token → Result Defining TexError
defined ts = reads (no_definition false) ts

-- #1.#2.{(#2#1)}
swapped : defined (sign ∷ other 49 ∷ other 46 ∷ sign ∷ other 50 ∷ other 46 ∷ left ∷ other 40 ∷ sign ∷ other 50 ∷ sign ∷ other 49 ∷ other 41 ∷ right ∷ []) ≡ Ok (record {
  expanded = false;
  parameters = record { before = []; delimiters = (other 46 ∷ []) ∷ (other 46 ∷ []) ∷ [] };
  signs = 35 ∷ 35 ∷ [];
  body = record { tokens = other 40 ∷ other 41 ∷ []; slots = record { before = 1; number = 2 } ∷ record { before = 1; number = 1 } ∷ [] };
  closing = None;
  stage = stage.Whole;
})
swapped = refl

-- x#{y}: the begin-group token delimits, and stands at the body's end
begun_by_group : defined (letter 120 ∷ sign ∷ left ∷ letter 121 ∷ right ∷ []) ≡ Ok (record {
  expanded = false;
  parameters = record { before = letter 120 ∷ left ∷ []; delimiters = [] };
  signs = [];
  body = record { tokens = letter 121 ∷ left ∷ []; slots = [] };
  closing = Some left;
  stage = stage.Whole;
})
begun_by_group = refl

-- \h1y!2{\h1-\h#!\h!2}: what means # is one, and the second of two stands for itself
signs_by_meaning : defined (h ∷ other 49 ∷ letter 121 ∷ mark ∷ other 50 ∷ left ∷ h ∷ other 49 ∷ other 45 ∷ h ∷ sign ∷ mark ∷ h ∷ mark ∷ other 50 ∷ right ∷ []) ≡ Ok (record {
  expanded = false;
  parameters = record { before = []; delimiters = (letter 121 ∷ []) ∷ [] ∷ [] };
  signs = 35 ∷ 33 ∷ [];
  body = record { tokens = other 45 ∷ sign ∷ h ∷ []; slots = record { before = 0; number = 1 } ∷ record { before = 3; number = 2 } ∷ [] };
  closing = None;
  stage = stage.Whole;
})
signs_by_meaning = refl

-- \l#1\r{\l{#1}\r}: names that mean braces are none here
names_for_braces : defined (l ∷ sign ∷ other 49 ∷ r ∷ left ∷ l ∷ left ∷ sign ∷ other 49 ∷ right ∷ r ∷ right ∷ []) ≡ Ok (record {
  expanded = false;
  parameters = record { before = l ∷ []; delimiters = (r ∷ []) ∷ [] };
  signs = 35 ∷ [];
  body = record { tokens = l ∷ left ∷ right ∷ r ∷ []; slots = record { before = 2; number = 1 } ∷ [] };
  closing = None;
  stage = stage.Whole;
})
names_for_braces = refl

-- what \the gives isn't looked at, in the body of \edef
given_as_it_is : puts (record (no_definition true) { stage = stage.Body 0 }) (sign ∷ left ∷ mark ∷ right ∷ []) ≡ record (no_definition true) { body = record { tokens = sign ∷ left ∷ mark ∷ right ∷ []; slots = [] }; stage = stage.Body 0 }
given_as_it_is = refl

-- #2: parameters come in their order
second_first : defined (sign ∷ other 50 ∷ []) ≡ Err BadParameter
second_first = refl

-- #1#2..#9#1: a tenth one
tenth : defined (sign ∷ other 49 ∷ sign ∷ other 50 ∷ sign ∷ other 51 ∷ sign ∷ other 52 ∷ sign ∷ other 53 ∷ sign ∷ other 54 ∷ sign ∷ other 55 ∷ sign ∷ other 56 ∷ sign ∷ other 57 ∷ sign ∷ other 49 ∷ []) ≡ Err BadParameter
tenth = refl

-- #1#}: an end-group token behind #, and #1} without one
end_behind_sign : defined (sign ∷ other 49 ∷ sign ∷ right ∷ []) ≡ Err BadParameter
end_behind_sign = refl

end_in_parameters : defined (sign ∷ other 49 ∷ right ∷ []) ≡ Err MissingBeginGroup
end_in_parameters = refl

-- #1{#2}, {#0} and {#x}: no such parameter
unused : defined (sign ∷ other 49 ∷ left ∷ sign ∷ other 50 ∷ []) ≡ Err BadParameter
unused = refl

zeroth : defined (left ∷ sign ∷ other 48 ∷ []) ≡ Err BadParameter
zeroth = refl

no_number : defined (left ∷ sign ∷ letter 120 ∷ []) ≡ Err BadParameter
no_number = refl

-- \relax \l a#\r{b}\l}, as \toks takes it
text_taken : absorbed (no_text false) (token.Character 32 Space ∷ token.Name (codes "relax") ∷ l ∷ letter 97 ∷ sign ∷ r ∷ left ∷ letter 98 ∷ right ∷ l ∷ right ∷ []) ≡ Ok (record { expanded = false; tokens = letter 97 ∷ sign ∷ r ∷ left ∷ letter 98 ∷ right ∷ l ∷ []; stage = Ended })
text_taken = refl

no_brace : absorbed (no_text false) (letter 120 ∷ []) ≡ Err MissingBeginGroup
no_brace = refl

nothing_meant : absorbed (no_text false) (token.Name (codes "q") ∷ []) ≡ Err Undefined
nothing_meant = refl
