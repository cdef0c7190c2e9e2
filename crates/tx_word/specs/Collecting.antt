-- How a horizontal mode collects words (TeX: The Program, sections 1030 to 1038): characters of the current font that follow one
-- another are a word, until another command begins. Expansion doesn't end it, nor does the number behind \char; the font can't
-- change within it.
use Rattle.std.specs.Prelude.{◌≡◌, ℕ, Bool, true, false, List, [], ◌∷◌, ◌++◌, Option, Some, None, if◌then◌else◌, IfSome}
use Rattle.std.specs.List.{All}
use Rattle.tx_node.specs.Items.{Item}
use Rattle.tx_tfm.specs.declared.state.FontState.{FontState}
use Rattle.tx_tfm.specs.Fonts.{has_character}
use Rattle.tx_word.specs.declared.accent.Accent.{Accent}
use Rattle.tx_word.specs.declared.open.OpenWord.{OpenWord}
use Rattle.tx_word.specs.Composed.{word_list}
use Rattle.tx_word.specs.Points.{hyphen_of}

-- the fonts of a run, the word that is open at the end of the list that is being built, and the accent that waits for the character
-- below it, if there are such
pub record Collecting : Type 0 where
  pub fonts : List FontState
  pub word : Option OpenWord
  pub accent : Option Accent

-- the characters of the open word are in its font
abbrev pub IsOpen : List FontState → OpenWord → Type 0
IsOpen fonts word = All (λ c. has_character fonts word.font c ≡ true) word.chars

abbrev pub AreCollecting : List FontState → Option OpenWord → Type 0
AreCollecting fonts word = IfSome word (IsOpen fonts)

-- the font of the next character: that of the open word, which is the current one, or the current font where no word is open
abbrev pub font_of : Option OpenWord → ℕ → ℕ
font_of None font = font
font_of (Some word) font = word.font

-- a character more
abbrev pub joined : Option OpenWord → ℕ → ℕ → OpenWord
joined None font code = record { font = font; chars = code ∷ [] }
joined (Some word) font code = record word { chars = word.chars ++ code ∷ [] }

-- a word of a paragraph allows breaks behind the hyphen character of its font, and one within a box nowhere
abbrev pub breaking : List FontState → ℕ → Bool → Option ℕ
breaking fonts font in_paragraph = if in_paragraph then hyphen_of fonts font else None

-- what a word puts into the list where it ends. The boundary before it counts. That behind it counts too, but where a character
-- ends it that the font lacks, since the pair with that character is no pair with the boundary
abbrev pub ended_of : List FontState → Option OpenWord → Bool → Bool → List Item
ended_of fonts None in_paragraph right = []
ended_of fonts (Some word) in_paragraph right = word_list fonts word.font word.chars true right (breaking fonts word.font in_paragraph)

abbrev pub ended : Collecting → Bool → Bool → List Item
ended words in_paragraph right = ended_of words.fonts words.word in_paragraph right

-- no word is open any more
abbrev pub without_word : Collecting → Collecting
without_word words = record words { word = None }

-- what comes of a character: what stands in the list behind it, the fonts with the word that is open then, and the number of the
-- font that lacks the character, which is told of
pub record Collected : Type 0 where
  pub items : List Item
  pub words : Collecting
  pub lacking : Option ℕ

abbrev pub collected : Collecting → Bool → ℕ → ℕ → Collected
collected words in_paragraph font code =
    if has_character words.fonts (font_of words.word font) code
    then record { items = []; words = record words { word = Some (joined words.word font code) }; lacking = None }
    else record { items = ended words in_paragraph false; words = without_word words; lacking = Some (font_of words.word font) }
