-- How long the parts of a document are at most.
use Rattle.std.proofs.Common.{◌≡◌, ℕ, zero, suc, ◌+◌, ◌*◌, ◌<◌, ◌≤◌, List, ◌++◌, length, arith, length-append}
use Rattle.std.specs.Prelude.{codes}
use Rattle.tx_gen.specs.Draws.{next, drawn, times}
use Rattle.tx_gen.specs.Book.{letter_text, word, spaced_word, line, page, opening, page_start}

length-times : (making : ℕ → List ℕ × ℕ) (most : ℕ) → ((state : ℕ) → length (making state).0 ≤ most) → (count state : ℕ) → length (times count making state).0 ≤ count * most
unfolding times
length-times making most each zero state = omega arith
length-times making most each (suc count) state =
    let front : List ℕ × ℕ = times count making state in
    let before : length front.0 ≤ count * most = length-times making most each count state in
    let one : length (making front.1).0 ≤ most = each front.1 in
    let all : length (front.0 ++ (making front.1).0) ≡ length front.0 + length (making front.1).0 = length-append front.0 (making front.1).0 in
    omega (arith, before, one, all)

length-letter : (state : ℕ) → length (letter_text state).0 ≤ 1
length-letter state = omega arith

length-word : (state : ℕ) → length (word state).0 ≤ 6
unfolding word
length-word state =
    let less : drawn 6 state < 6 = omega arith in
    let letters : length (times (1 + drawn 6 state) letter_text (next state)).0 ≤ (1 + drawn 6 state) * 1 = length-times letter_text 1 length-letter (1 + drawn 6 state) (next state) in
    omega (arith, less, letters)

length-spaced : (state : ℕ) → length (spaced_word state).0 ≤ 7
length-spaced state = omega (arith, length-word state)

length-line : (state : ℕ) → length (line state).0 ≤ 70
unfolding line
length-line state =
    let first : List ℕ = (word state).0 in
    let others : List ℕ = (times 9 spaced_word (word state).1).0 in
    let some : length others ≤ 9 * 7 = length-times spaced_word 7 length-spaced 9 (word state).1 in
    omega (arith, length-word state, some, length-append first others, length-append (first ++ others) (codes "\n"))

length-page : (state : ℕ) → length (page state).0 ≤ 442
unfolding page
length-page state =
    let lines : List ℕ = (times 6 line state).0 in
    let some : length lines ≤ 6 * 70 = length-times line 70 length-line 6 state in
    omega (arith, some, length-append lines (codes "\n\\vfill\\penalty-10000\n"))

-- the document has less than 450 bytes a page
pub start-within : (seed number : ℕ) → page_start seed number ≤ 96 + number * 442
unfolding opening
start-within seed number =
    let pages : List ℕ = (times number page seed).0 in
    let some : length pages ≤ number * 442 = length-times page 442 length-page number seed in
    omega (arith, some, length-append opening pages)
