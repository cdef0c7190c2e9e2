-- What is said of a DVI file: a line for each page, and one for each thing that is met on it.
use Rattle.std.specs.Prelude.{◌≡◌, ℕ, ◌+◌, ℤ, List, [], ◌∷◌, ◌++◌, length, codes, Option, Some, None, Result, Ok, Err, IfSome}
use Rattle.std.specs.Fmt.{decimal, signed_decimal}
use Rattle.tx_bytes.specs.Files.{Files, content}
use Rattle.tx_io.specs.Output.{Piece, Say}
use Rattle.tx_dvitype.specs.declared.error.DviRule.{DviRule}
use Rattle.tx_dvitype.specs.declared.error.DviRule.TheVariants.{File}
use Rattle.tx_dvi.specs.declared.placed.Placed.{Placed}
use Rattle.tx_dvi.specs.declared.placed.Placed.TheVariants.{Lettered, Ruled, Noted}
use Rattle.tx_dvitype.specs.declared.reader.ReadPage.{ReadPage}
use Rattle.tx_dvitype.specs.Files.{Broken, dvi_file}
use Rattle.tx_dvitype.specs.Grammar.{IsDviFile, IsRefusal}
use Rattle.tx_dvitype.specs.Rules.{number_of}
use Rattle.tx_call.specs.declared.listed.Listed.{Listed}
use Rattle.tx_call.specs.declared.listed.Listed.TheVariants.{Brings, Stops}

-- numbers, each behind a space
abbrev pub counts_text : List ℤ → List ℕ
counts_text [] = []
counts_text (count ∷ counts) = codes " " ++ signed_decimal count ++ counts_text counts

-- the line of a page: its number, counted from 1, and its ten numbers
unfoldable pub page_line : ℕ → List ℤ → List ℕ
page_line number counts = codes "page " ++ decimal number ++ codes ":" ++ counts_text counts ++ codes "\n"

-- how far right and down something lies, and the end of its line
abbrev pub at_text : ℤ → ℤ → List ℕ
at_text h v = codes " at " ++ signed_decimal h ++ codes " " ++ signed_decimal v ++ codes "\n"

-- the line of a character by its code and font, of a rule by its height and width, and of a special by how many bytes it has
unfoldable pub placed_line : Placed → List ℕ
placed_line (Lettered c) = codes "char " ++ decimal c.code ++ codes " font " ++ decimal c.font ++ at_text c.h c.v
placed_line (Ruled r) = codes "rule " ++ signed_decimal r.height ++ codes " " ++ signed_decimal r.width ++ at_text r.h r.v
placed_line (Noted s) = codes "special " ++ decimal (length s.text) ++ codes " bytes" ++ at_text s.h s.v

abbrev pub placed_lines : List Placed → List (List ℕ)
placed_lines [] = []
placed_lines (placed ∷ others) = placed_line placed ∷ placed_lines others

-- the lines of the page of this number, and of pages that are numbered from it on
abbrev pub page_lines : ℕ → ReadPage → List (List ℕ)
page_lines number page = page_line number page.counts ∷ placed_lines page.placed

abbrev pub pages_lines : ℕ → List ReadPage → List (List ℕ)
pages_lines number [] = []
pages_lines number (page ∷ pages) = page_lines number page ++ pages_lines (number + 1) pages

-- each line is said by itself
abbrev pub said_lines : List (List ℕ) → List Piece
said_lines [] = []
said_lines (line ∷ lines) = Say line ∷ said_lines lines

-- the line where the file isn't one
unfoldable pub dvi_refusal_line : ℕ → DviRule → List ℕ
dvi_refusal_line place rule = codes "dvi refused at " ++ decimal place ++ codes ", rule " ++ decimal (number_of rule) ++ codes "\n"

-- what is read of a file, which may be absent
abbrev pub as_listed : Result (List ReadPage) Broken → Listed
as_listed (Ok pages) = Brings pages
as_listed (Err broken) = Stops broken.place broken.rule

abbrev pub listed_as : Option (List ℕ) → Listed
listed_as None = Stops 0 File
listed_as (Some bytes) = as_listed (dvi_file bytes)

-- what bytes are listed as: the pages of the DVI file that they are, or else why they are none
abbrev pub IsListed : Option (List ℕ) → Listed → Type 0
IsListed None (Brings pages) = ⊥
IsListed None (Stops place rule) = Unit {0}
IsListed (Some bytes) (Brings pages) = IsDviFile bytes pages
IsListed (Some bytes) (Stops place rule) = IsRefusal bytes place rule

-- the file of this name, which is the source's if it tells what it holds, is read so
pub record ReadsDvi (holds : Option Files) (name : List ℕ) (listed : Listed) : Type 0 where
  pub bytes : Option (List ℕ)
  pub are_told : IfSome holds (λ held. content held name ≡ bytes)
  pub reading : listed ≡ listed_as bytes
  pub is_so : IsListed bytes listed

-- a file that is absent, or whose bytes are no DVI file
abbrev pub HasNoPages : Option (List ℕ) → Type 0
HasNoPages None = Unit {0}
HasNoPages (Some bytes) = (pages : List ReadPage) → IsDviFile bytes pages → ⊥

-- the words name a DVI file, and that, which is the source's if it tells what it holds, is none
pub record NamesNoDvi (holds : Option Files) (asked : Option (List ℕ)) : Type 0 where
  pub name : List ℕ
  pub named : asked ≡ Some name
  pub bytes : Option (List ℕ)
  pub are_told : IfSome holds (λ held. content held name ≡ bytes)
  pub none : HasNoPages bytes

-- the same, of a source that tells what it holds
pub record HoldsNoDvi (holds : Option Files) (asked : Option (List ℕ)) : Type 0 where
  pub held : Files
  pub told : holds ≡ Some held
  pub name : List ℕ
  pub named : asked ≡ Some name
  pub none : HasNoPages (content held name)
