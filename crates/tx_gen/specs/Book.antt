-- A document of any number of pages, which is made by draws: words of two letters, in lines and pages.
use Rattle.std.specs.Prelude.{ℕ, zero, suc, ◌+◌, List, [], ◌∷◌, ◌++◌, length, codes}
use Rattle.tx_gen.specs.Draws.{next, drawn, with_more, times}

-- a letter, a (97) or b
abbrev pub letter : ℕ → ℕ
letter state = 97 + drawn 2 state

abbrev pub letter_text : ℕ → List ℕ × ℕ
letter_text state = (letter state ∷ [], next state)

-- a word has one to six letters
unfoldable pub word : ℕ → List ℕ × ℕ
word state = times (1 + drawn 6 state) letter_text (next state)

abbrev pub spaced_word : ℕ → List ℕ × ℕ
spaced_word state = with_more (codes " ", state) word

-- what was made, with a text behind it
abbrev pub ending : List ℕ × ℕ → List ℕ → List ℕ × ℕ
ending made text = (made.0 ++ text, made.1)

-- a line is ten words, with one space between each two
unfoldable pub line : ℕ → List ℕ × ℕ
line state = ending (with_more (word state) (times 9 spaced_word)) (codes "\n")

-- a page is a paragraph of six lines, and what fills and ends the page
unfoldable pub page : ℕ → List ℕ × ℕ
page state = ending (times 6 line state) (codes "\n\\vfill\\penalty-10000\n")

-- the line before the first page: braces, the sizes of lines and pages, and the font
unfoldable pub opening : List ℕ
opening = codes "\\catcode`\\{=1 \\catcode`\\}=2 \\hsize=200pt \\vsize=100pt \\parfillskip=0pt plus 1fil \\font\\f=gen \\f\n"

-- the document up to the end of so many pages; the first draw is made in the state that the seed is
abbrev pub begun : ℕ → ℕ → List ℕ
begun seed pages = opening ++ (times pages page seed).0

-- the whole document
abbrev pub book_of : ℕ → ℕ → List ℕ
book_of seed pages = begun seed pages ++ codes "\\end\n"

-- where a page begins, counted from 0, and where the first ones do, so many
abbrev pub page_start : ℕ → ℕ → ℕ
page_start seed number = length (begun seed number)

abbrev pub page_starts : ℕ → ℕ → List ℕ
page_starts seed zero = []
page_starts seed (suc pages) = page_starts seed pages ++ page_start seed pages ∷ []
