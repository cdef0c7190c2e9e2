-- That an assembled file is one, by the commands of its pages; and what the commands of the pages of a file mean.
use Rattle.std.specs.Prelude.{◌≡◌, ℕ, List, [], ◌∷◌, ◌++◌, length, map, Some, FitsSigned}
use Rattle.std.specs.Int.{w32}
use Rattle.std.specs.List.{All}
use Rattle.tx_dvitype.specs.declared.reader.ReadPage.{ReadPage}
use Rattle.tx_dvitype.specs.Grammar.{AreBytes, Command, Lead, PageText, commands_bytes, fonts_in}
use Rattle.tx_dvitype.specs.Partial.{no_widths}
use Rattle.tx_dvi.specs.declared.font.FontDefinition.{FontDefinition}
use Rattle.tx_dvi.specs.declared.placed.Placed.{Placed}
use Rattle.tx_dvi.specs.Meaning.{Contents, Reader, meaning, page_start}
use Rattle.tx_dvi.specs.Page.{Page}

-- The body of a page are commands that may stand on one, where fonts of these numbers are defined. They define the fonts of the page, and
-- this is met on it. It has ten numbers of 32 bits.
pub record IsReadable (known : List ℕ) (page : Page) (placed : List Placed) : Type 0 where
  pub commands : List Command
  pub end : Reader
  pub are_bytes : AreBytes page.body
  pub body : page.body ≡ commands_bytes commands
  pub lead : Lead commands (page_start known) end
  pub level : end.stack ≡ []
  pub fonts : page.fonts ≡ fonts_in commands
  pub met : placed ≡ end.met
  pub ten : length page.counts ≡ 10
  pub counts : All (FitsSigned w32) page.counts

-- so page after page
abbrev pub AreReadable : List ℕ → List Page → List (List Placed) → Type 0
AreReadable known [] [] = Unit {0}
AreReadable known (page ∷ pages) (placed ∷ others) = (readable : IsReadable known page placed) × AreReadable readable.end.fonts.known pages others
AreReadable known _ _ = ⊥

-- what is read of them
abbrev pub read_pages : List Page → List (List Placed) → List ReadPage
read_pages (page ∷ pages) (placed ∷ others) = record { counts = page.counts; placed = placed } ∷ read_pages pages others
read_pages _ _ = []

-- What is read of pages is what their commands mean to a reader of DVI files, where characters have no width and the fonts of the pages
-- before each are defined.
abbrev pub AreMeant : List ℕ → List PageText → List ReadPage → Type 0
AreMeant known [] [] = Unit {0}
AreMeant known (page ∷ pages) (read ∷ others) =
    (contents : Contents) × (meaning no_widths known (commands_bytes page.commands) ≡ Some contents) × (read.placed ≡ contents.placed)
    × AreMeant (known ++ map (λ (font : FontDefinition). font.number) contents.fonts) pages others
AreMeant known _ _ = ⊥
