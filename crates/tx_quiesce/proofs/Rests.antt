-- The line that begins at a place of a file hangs on the bytes behind the place alone.
use Rattle.std.proofs.Common.{◌≡◌, ℕ, ◌+◌, ◌-◌, ◌<◌, ◌≤◌, Bool, true, false, cond, List, [], ◌∷◌, length, take, drop, position, Option, Some, None, refl, sym, ap, ◌∙◌, arith, nat_le, nat_lt, length-drop}
use Rattle.std.specs.List.{position_or_len}
use Rattle.std.proofs.lemmas.Bool.{leb-true, leb-false, le-leb, lt-leb, ltb-true}
use Rattle.tx_bytes.specs.Files.{Files}
use Rattle.tx_files.specs.declared.line.NextLine.{NextLine}
use Rattle.tx_files.specs.declared.line.NextLine.TheVariants.{Line as LineTo, End as AtEnd}
use Rattle.tx_files.specs.Lines.{is_line_feed, line_ending, next_line_at}
use Rattle.tx_files.specs.declared.reads.Note.{Note}
use Rattle.tx_files.specs.declared.reads.Sight.{Sight}
use Rattle.tx_files.specs.declared.reads.Sight.TheVariants.{Line as LineSeen, End as EndSeen}
use Rattle.tx_machine.specs.declared.types.OpenFile.{OpenFile}
use Rattle.tx_event.specs.declared.types.Reply.TheVariants.{Line, Ended}
use Rattle.tx_machine.specs.Notes.{line_notes, line_sight}
use Rattle.tx_machine.specs.Opens.{Answered, bytes_of, moved_to, reading, reading_on}

-- how long the line is that some bytes begin with, and whether it ends with LF; no byte makes no line
abbrev pub line_by : ℕ → Option ℕ → Option (ℕ × Bool)
line_by size None = Some (size, false)
line_by size (Some at) = Some (at + 1, true)

abbrev pub first_line : List ℕ → Option (ℕ × Bool)
first_line rest = cond (nat_le (length rest) 0) None (line_by (length rest) (position is_line_feed rest))

abbrev pub line_from : ℕ → Option (ℕ × Bool) → NextLine
line_from from None = AtEnd
line_from from (Some line) = LineTo (from + line.0) line.1

pub next-line : (bytes : List ℕ) (from : ℕ) → next_line_at bytes from ≡ line_from from (first_line (drop from bytes))
next-line bytes from = by (nat_le (length bytes) from) refl
  where
    rest : List ℕ
    rest = drop from bytes

    left : length rest ≡ length bytes - from
    left = length-drop from bytes

    line : (found : Option ℕ) → from < length bytes → line_ending from (length bytes) found ≡ line_from from (line_by (length rest) found)
    line None inside = let whole : length bytes ≡ from + length rest = (let is = left in omega arith) in ap (λ n. LineTo n false) whole
    line (Some at) inside = let sum : from + at + 1 ≡ from + (at + 1) = omega arith in ap (λ n. LineTo n true) sum

    by : (b : Bool) → nat_le (length bytes) from ≡ b
        → cond b AtEnd (line_ending from (length bytes) (position is_line_feed rest)) ≡ line_from from (cond (nat_le (length rest) 0) None (line_by (length rest) (position is_line_feed rest)))
    by true is =
        let past : length bytes ≤ from = leb-true _ _ is in
        let none : length rest ≤ 0 = (let size = left in omega arith) in
        ap (λ b. line_from from (cond b None (line_by (length rest) (position is_line_feed rest)))) (sym (le-leb _ _ none))
    by false is =
        let inside : from < length bytes = leb-false _ _ is in
        let some : 0 < length rest = (let size = left in omega arith) in
        line (position is_line_feed rest) inside ∙ ap (λ b. line_from from (cond b None (line_by (length rest) (position is_line_feed rest)))) (sym (lt-leb _ _ some))

-- the line lies within the bytes
pub line-within : (rest : List ℕ) (line : ℕ × Bool) → first_line rest ≡ Some line → line.0 ≤ length rest
line-within rest line is = by (nat_le (length rest) 0) is
  where
    part : Option (ℕ × Bool) → ℕ
    part None = 0
    part (Some it) = it.0

    found : (b : Bool) → nat_lt (position_or_len is_line_feed rest) (length rest) ≡ b → line_by (length rest) (cond b (Some (position_or_len is_line_feed rest)) None) ≡ Some line → line.0 ≤ length rest
    found true inside here =
        let below : position_or_len is_line_feed rest < length rest = ltb-true _ _ inside in
        let same : position_or_len is_line_feed rest + 1 ≡ line.0 = ap (λ (o : Option (ℕ × Bool)). part o) here in omega arith
    found false inside here = let same : length rest ≡ line.0 = ap (λ (o : Option (ℕ × Bool)). part o) here in omega arith

    by : (b : Bool) → cond b None (line_by (length rest) (position is_line_feed rest)) ≡ Some line → line.0 ≤ length rest
    by true here = absurd (let none : None ≡ Some line = here in cc)
    by false here = found (nat_lt (position_or_len is_line_feed rest) (length rest)) refl here

-- the answer to the ask for a line, and what it shows, by the bytes behind the offset
abbrev pub read_by : List OpenFile → OpenFile → List ℕ → Option (ℕ × Bool) → Answered
read_by opens file rest None = record { reply = Ended; opens = opens }
read_by opens file rest (Some line) = record { reply = Line (take line.0 rest); opens = moved_to opens file (file.offset + line.0) }

abbrev pub sight_by : ℕ → Option (ℕ × Bool) → Sight
sight_by from None = EndSeen
sight_by from (Some line) = cond line.1 (LineSeen (from + line.0)) EndSeen

pub reading-is : (files : Files) (opens : List OpenFile) (file : OpenFile)
    → reading files opens (Some file) ≡ read_by opens file (drop file.offset (bytes_of files file.name)) (first_line (drop file.offset (bytes_of files file.name)))
reading-is files opens file = ap (reading_on opens file (bytes_of files file.name)) (next-line (bytes_of files file.name) file.offset) ∙ by (first_line (drop file.offset (bytes_of files file.name)))
  where
    by : (line : Option (ℕ × Bool)) → reading_on opens file (bytes_of files file.name) (line_from file.offset line) ≡ read_by opens file (drop file.offset (bytes_of files file.name)) line
    by None = refl
    by (Some line) =
        let length_is : file.offset + line.0 - file.offset ≡ line.0 = omega arith in
        ap (λ n. record { reply = Line (take n (drop file.offset (bytes_of files file.name))); opens = moved_to opens file (file.offset + line.0) }) length_is

pub notes-are : (files : Files) (file : OpenFile) → line_notes files (Some file) ≡ record { name = file.name; sight = sight_by file.offset (first_line (drop file.offset (bytes_of files file.name))) } ∷ []
notes-are files file =
    ap {B = List Note} (λ line. record { name = file.name; sight = line_sight line } ∷ []) (next-line (bytes_of files file.name) file.offset)
    ∙ by (first_line (drop file.offset (bytes_of files file.name)))
  where
    sight : (from n : ℕ) (lf : Bool) → line_sight (LineTo (from + n) lf) ≡ cond lf (LineSeen (from + n)) EndSeen
    sight from n true = refl
    sight from n false = refl

    by : (line : Option (ℕ × Bool)) → ◌≡◌ {A = List Note} (record { name = file.name; sight = line_sight (line_from file.offset line) } ∷ []) (record { name = file.name; sight = sight_by file.offset line } ∷ [])
    by None = refl
    by (Some line) = ap {B = List Note} (λ s. record { name = file.name; sight = s } ∷ []) (sight file.offset line.0 line.1)
