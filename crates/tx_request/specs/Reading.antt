-- Reading the line with which a request begins, as a function: each element gives what it reads and the bytes after it, or where
-- reading ends; and what follows the line.
use Rattle.std.specs.Prelude.{ℕ, zero, suc, nat_eq, nat_le, if◌then◌else◌, List, [], ◌∷◌, codes, Option, Some, None, option_map, Ok}
use Rattle.std.specs.List.{starts_with}
use Rattle.tx_files.specs.declared.edit.Edit.{Edit as FileEdit}
use Rattle.tx_files.specs.declared.edit.Change.{Change}
use Rattle.tx_files.specs.declared.edit.Change.TheVariants.{Edit, Remove}
use Rattle.tx_script.specs.Reading.{Read, ◌>>=◌, begins_with, change_word_at, count_at, file_place_at, further_number, literal_at, name_at, number_at, put_at, scan, whole_number, with_byte, word_at}
use Rattle.tx_script.specs.declared.element.ChangeWord.{ChangeWord}
use Rattle.tx_script.specs.declared.element.ChangeWord.TheVariants as changing
use Rattle.tx_script.specs.declared.element.CommandWord.{CommandWord}
use Rattle.tx_script.specs.declared.element.CommandWord.TheVariants as commands
use Rattle.tx_script.specs.declared.command.Command.TheVariants.{Change as Lone, Batch, Save, Locate}
use Rattle.tx_script.specs.declared.error.Rule.TheVariants.{Word, Number, LineFeed, Page as PageRule}
use Rattle.tx_request.specs.declared.head.EditLine.{EditLine}
use Rattle.tx_request.specs.declared.head.ChangeLine.{ChangeLine}
use Rattle.tx_request.specs.declared.head.ChangeLine.TheVariants as lines
use Rattle.tx_request.specs.declared.head.Head.{Head}
use Rattle.tx_request.specs.declared.head.Head.TheVariants as heads
use Rattle.tx_request.specs.declared.head.RequestWord.{RequestWord}
use Rattle.tx_request.specs.declared.head.RequestWord.TheVariants as words
use Rattle.tx_request.specs.declared.request.Request.{Request}
use Rattle.tx_request.specs.declared.request.Request.TheVariants.{Command, File, Page, Log, LogOf}
use Rattle.tx_request.specs.Requests.{most_bytes}

-- the word for the transcript, of the whole of it or of what a page brought, or one that begins a command of a script
abbrev pub other_word_at : List ℕ → Read RequestWord
other_word_at bytes =
    if starts_with nat_eq bytes (codes "log\n")
    then (literal_at Word (codes "log\n") bytes >>= λ rest. Ok (words.Log, rest))
    else if starts_with nat_eq bytes (codes "log")
    then (literal_at Word (codes "log ") bytes >>= λ rest. Ok (words.LogOf, rest))
    else (word_at bytes >>= λ word. Ok (words.Command word.0, word.1))

-- the word that begins a request, and a space, or for the whole transcript LF
unfoldable pub request_word_at : List ℕ → Read RequestWord
request_word_at bytes =
    if begins_with 102 bytes
    then (literal_at Word (codes "file ") bytes >>= λ rest. Ok (words.File, rest))
    else if begins_with 112 bytes
    then (literal_at Word (codes "page ") bytes >>= λ rest. Ok (words.Page, rest))
    else other_word_at bytes

-- the number of a page and LF
unfoldable pub page_at : List ℕ → Read ℕ
page_at bytes = scan PageRule 10 whole_number further_number None bytes

-- a number of bytes that a file may have, with one byte more
abbrev pub if_fitting : Option ℕ → Option ℕ
if_fitting None = None
if_fitting (Some size) = if nat_le size most_bytes then Some size else None

abbrev pub with_size : Option ℕ → ℕ → Option ℕ
with_size number byte = if_fitting (with_byte number byte)

abbrev pub further_size : Option ℕ → ℕ → Option (Option ℕ)
further_size known byte = option_map Some (with_size known byte)

-- how many bytes are put in, and a space
unfoldable pub size_at : List ℕ → Read ℕ
size_at bytes = scan Number 32 whole_number further_size None bytes

-- the line of an edit, after its word
unfoldable pub edit_line_at : List ℕ → Read EditLine
edit_line_at bytes = do
  place ← number_at bytes
  removed ← number_at place.1
  size ← size_at removed.1
  name ← name_at size.1
  Ok (record { name = name.0; place = place.0; removed = removed.0; size = size.0 }, name.1)

-- the line of a change, after its word, and with it
unfoldable pub change_rest_at : ChangeWord → List ℕ → Read ChangeLine
change_rest_at changing.Edit bytes = edit_line_at bytes >>= λ e. Ok (lines.Edit e.0, e.1)
change_rest_at changing.Remove bytes = name_at bytes >>= λ name. Ok (lines.Remove name.0, name.1)

unfoldable pub change_line_at : List ℕ → Read ChangeLine
change_line_at bytes = change_word_at bytes >>= λ word. change_rest_at word.0 word.1

-- the line of a lone change
abbrev pub lone_at : ChangeWord → List ℕ → Read Head
lone_at word bytes = change_rest_at word bytes >>= λ line. Ok (heads.Change line.0, line.1)

-- the line of a script's command, after its word
unfoldable pub command_rest_at : CommandWord → List ℕ → Read Head
command_rest_at commands.Edit bytes = lone_at changing.Edit bytes
command_rest_at commands.Remove bytes = lone_at changing.Remove bytes
command_rest_at commands.Batch bytes = count_at bytes >>= λ count. Ok (heads.Batch count.0, count.1)
command_rest_at commands.Save bytes = name_at bytes >>= λ name. Ok (heads.Save name.0, name.1)
command_rest_at commands.Locate bytes = file_place_at bytes >>= λ at. Ok (heads.Locate at.0, at.1)

-- the line of a request, after its word, and with it
unfoldable pub rest_at : RequestWord → List ℕ → Read Head
rest_at (words.Command word) bytes = command_rest_at word bytes
rest_at words.File bytes = do
  size ← size_at bytes
  name ← name_at size.1
  Ok (heads.File size.0 name.0, name.1)
rest_at words.Page bytes = page_at bytes >>= λ k. Ok (heads.Page k.0, k.1)
rest_at words.Log bytes = Ok (heads.Log, bytes)
rest_at words.LogOf bytes = page_at bytes >>= λ k. Ok (heads.LogOf k.0, k.1)

unfoldable pub head_at : List ℕ → Read Head
head_at bytes = request_word_at bytes >>= λ word. rest_at word.0 word.1

-- so many bytes, and LF
unfoldable pub bytes_at : ℕ → List ℕ → Read (List ℕ)
bytes_at size bytes = do
  put ← put_at size bytes
  rest ← literal_at LineFeed (10 ∷ []) put.1
  Ok (put.0, rest)

-- what follows the line of an edit, of a change, and of so many changes with their lines
unfoldable pub edit_behind : EditLine → List ℕ → Read FileEdit
edit_behind line bytes = bytes_at line.size bytes >>= λ put. Ok (record { name = line.name; place = line.place; removed = line.removed; put = put.0 }, put.1)

unfoldable pub change_behind : ChangeLine → List ℕ → Read Change
change_behind (lines.Edit line) bytes = edit_behind line bytes >>= λ e. Ok (Edit e.0, e.1)
change_behind (lines.Remove name) bytes = Ok (Remove name, bytes)

unfoldable pub change_at : List ℕ → Read Change
change_at bytes = change_line_at bytes >>= λ line. change_behind line.0 line.1

unfoldable pub changes_at : ℕ → List ℕ → Read (List Change)
changes_at zero bytes = Ok ([], bytes)
changes_at (suc n) bytes = do
  c ← change_at bytes
  changes ← changes_at n c.1
  Ok (c.0 ∷ changes.0, changes.1)

-- what follows the line of a request, and all of one
unfoldable pub request_behind : Head → List ℕ → Read Request
request_behind (heads.Change line) bytes = change_behind line bytes >>= λ c. Ok (Command (Lone c.0), c.1)
request_behind (heads.Batch count) bytes = changes_at count bytes >>= λ changes. Ok (Command (Batch changes.0), changes.1)
request_behind (heads.Save name) bytes = Ok (Command (Save name), bytes)
request_behind (heads.Locate at) bytes = Ok (Command (Locate at), bytes)
request_behind (heads.File size name) bytes = bytes_at size bytes >>= λ put. Ok (File (record { name = name; contents = put.0 }), put.1)
request_behind (heads.Page k) bytes = Ok (Page k, bytes)
request_behind heads.Log bytes = Ok (Log, bytes)
request_behind (heads.LogOf k) bytes = Ok (LogOf k, bytes)

unfoldable pub request_at : List ℕ → Read Request
request_at bytes = head_at bytes >>= λ head. request_behind head.0 head.1
