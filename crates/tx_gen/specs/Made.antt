-- The files that are made of a seed and a number of pages.
use Rattle.std.specs.Prelude.{ℕ}
use Rattle.tx_script.specs.Text.{text}
use Rattle.tx_gen.specs.declared.made.Made.{Made}
use Rattle.tx_gen.specs.Book.{book_of}
use Rattle.tx_gen.specs.Edits.{commands_of}
use Rattle.tx_gen.specs.Font.{font_file}

-- the document, the metrics of its font, and the script
abbrev pub generated : ℕ → ℕ → Made
generated seed pages = record { book = book_of seed pages; font = font_file; script = text (commands_of seed pages) }
