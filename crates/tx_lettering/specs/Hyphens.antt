-- The texts of \patterns and \hyphenation as words, and what they add (TeX: The Program, sections 934 to 940 and 960 to 963).
use Rattle.std.specs.Prelude.{ℕ, Bool, false, List, [], ◌∷◌, Option, None, Some, Result, Ok, Err, if◌then◌else◌}
use Rattle.tx_char.specs.declared.category.Cat.TheVariants as category
use Rattle.tx_char.specs.declared.tokens.Token.{Token}
use Rattle.tx_eqtb.specs.declared.table.Table.{Table}
use Rattle.tx_eqtb.specs.Table.{token_meaning}
use Rattle.tx_lettering.specs.declared.hyphens.TextSign.{TextSign}
use Rattle.tx_lettering.specs.declared.hyphens.TextSign.TheVariants.{Letter, Blank, Wrong}
use Rattle.tx_seen.specs.declared.meaning.Meaning.{Meaning}
use Rattle.tx_seen.specs.declared.meaning.Meaning.TheVariants.{Character, CharacterNumber}
use Rattle.tx_prim.specs.declared.family.TextUse.{TextUse}
use Rattle.tx_prim.specs.declared.family.TextUse.TheVariants as purposes
use Rattle.tx_seen.specs.declared.error.TexError.TheVariants.{BadHyphenation}
use Rattle.tx_paragraph.specs.Hyphens.{lower_codes}
use Rattle.tx_state.specs.Ended.{assigned}
use Rattle.tx_state.specs.State.{TexState}
use Rattle.tx_hyphen.specs.Rules.{Rules}
use Rattle.tx_hyphenate.specs.declared.known.Hyphenation.{Hyphenation}
use Rattle.tx_hyphenate.specs.Texts.{with_exceptions, with_patterns}
use Rattle.tx_state.specs.Outcomes.{Outcome, fails, leaves}

-- what a token is in such a text, by what it means: a letter or another character stands for itself, a space ends a word, and names of
-- \chardef may stand in \hyphenation alone
abbrev pub sign_of : Bool → Meaning → TextSign
sign_of numbers (Character code category.Letter) = Letter code
sign_of numbers (Character code category.Other) = Letter code
sign_of numbers (Character code category.Space) = Blank
sign_of numbers (CharacterNumber code) = if numbers then Letter code else Wrong
sign_of numbers _ = Wrong

-- words with one more sign before them
abbrev pub with_letter : ℕ → List (List ℕ) → List (List ℕ)
with_letter code [] = (code ∷ []) ∷ []
with_letter code (word ∷ words) = (code ∷ word) ∷ words

abbrev pub with_sign : TextSign → Option (List (List ℕ)) → Option (List (List ℕ))
with_sign sign None = None
with_sign (Letter code) (Some words) = Some (with_letter code words)
with_sign Blank (Some words) = Some ([] ∷ words)
with_sign Wrong (Some words) = None

-- the words of a text, some of them empty; None where a token may not stand in it
abbrev pub words_of : Table → Bool → List Token → Option (List (List ℕ))
words_of table numbers [] = Some ([] ∷ [])
words_of table numbers (token ∷ tokens) = with_sign (sign_of numbers (token_meaning table token)) (words_of table numbers tokens)

-- \patterns and \hyphenation: what is known of hyphenation grows, whatever groups are open (sections 934 and 1252)
abbrev pub learned : {E : Type 0} → TexState → Result Rules E → Outcome
learned s (Err e) = fails BadHyphenation
learned s (Ok rules) = leaves (assigned (record s { hyphenation = record s.hyphenation { hyphens = rules } }))

abbrev pub patterning : TexState → Option (List (List ℕ)) → Outcome
patterning s None = fails BadHyphenation
patterning s (Some texts) = learned s (with_patterns (lower_codes s.table.table) s.hyphenation.hyphens texts)

abbrev pub excepting : TexState → Option (List (List ℕ)) → Outcome
excepting s None = fails BadHyphenation
excepting s (Some words) = learned s (with_exceptions (lower_codes s.table.table) s.hyphenation.hyphens words)

-- no pattern can be added any more once a paragraph began its second pass (section 960)
abbrev pub is_late : Hyphenation → TextUse → Bool
is_late known purposes.Patterns = known.used
is_late known _ = false
