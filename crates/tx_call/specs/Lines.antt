-- What is said of a run.
use Rattle.std.specs.Prelude.{ℕ, List, [], ◌++◌, length, codes, Option, Some, None}
use Rattle.std.specs.Fmt.{decimal}
use Rattle.tx_script.specs.Numbers.{number_of}
use Rattle.tx_script.specs.declared.error.Rule.{Rule}
use Rattle.tx_checkpoint.specs.declared.located.Located.{Located}
use Rattle.tx_checkpoint.specs.declared.located.Located.TheVariants.{Page, After, Nowhere}
use Rattle.tx_session.specs.declared.report.Report.{Report}
use Rattle.tx_machine.specs.declared.types.End.{End as RunEnd}
use Rattle.tx_machine.specs.declared.types.End.TheVariants.{End, Error, Budget, PageLimit}

-- where an error is; nothing where no file is open
abbrev pub place_text : Option (List ℕ) → ℕ → List ℕ
place_text None line = []
place_text (Some name) line = codes " at " ++ name ++ codes " line " ++ decimal line

-- how a run ended
abbrev pub end_text : RunEnd → List ℕ
end_text End = codes "end"
end_text (Error code name line) = codes "error " ++ decimal code ++ place_text name line
end_text Budget = codes "budget"
end_text PageLimit = codes "page limit"

-- the line of a run: how many pages it has, and its end
unfoldable pub run_line : ℕ → RunEnd → List ℕ
run_line pages end = codes "run: " ++ decimal pages ++ codes " pages, " ++ end_text end ++ codes "\n"

-- what the line of each edit begins with: its number among the edits, counted from 1
abbrev pub edit_text : ℕ → List ℕ
edit_text number = codes "edit " ++ decimal number ++ codes ": "

-- the lines of an edit that was made, of one that goes past the end of its file, of a batch of which a change does, and of an
-- edit that memory refused
unfoldable pub edit_line : ℕ → Report → RunEnd → List ℕ
edit_line number report end =
    edit_text number ++ decimal report.pages ++ codes " pages, resumed " ++ decimal report.resumed ++ codes ", formatted " ++ decimal report.formatted
    ++ codes ", reused " ++ decimal report.reused ++ codes ", " ++ end_text end ++ codes "\n"

unfoldable pub outside_line : ℕ → ℕ → List ℕ
outside_line number len = edit_text number ++ codes "outside, file has " ++ decimal len ++ codes " bytes\n"

unfoldable pub batch_outside_line : ℕ → ℕ → ℕ → List ℕ
batch_outside_line number index len = edit_text number ++ codes "change " ++ decimal index ++ codes " outside, file has " ++ decimal len ++ codes " bytes\n"

unfoldable pub memory_line : ℕ → List ℕ
memory_line number = edit_text number ++ codes "memory\n"

-- by which page a place is first read, in a document of so many pages
abbrev pub located_text : ℕ → Located → List ℕ
located_text pages (Page k) = codes "page " ++ decimal k
located_text pages After = codes "after page " ++ decimal pages
located_text pages Nowhere = codes "none"

-- the line of a place that is asked for, with its number among these, counted from 1
unfoldable pub locate_line : ℕ → ℕ → Located → List ℕ
locate_line number pages at = codes "locate " ++ decimal number ++ codes ": " ++ located_text pages at ++ codes "\n"

-- the line where the words aren't those of a call
abbrev pub refusal_line : List ℕ
refusal_line = codes "words refused\n"

-- the line where the file that they name as the script isn't one
unfoldable pub script_refusal_line : ℕ → Rule → List ℕ
script_refusal_line place rule = codes "script refused at " ++ decimal place ++ codes ", rule " ++ decimal (number_of rule) ++ codes "\n"

-- the line of a request to save what there is
unfoldable pub saved_line : List ℕ → List ℕ
saved_line name = codes "saved " ++ name ++ codes "\n"

-- the line of bytes that are no request
unfoldable pub request_refusal_line : Rule → List ℕ
request_refusal_line rule = codes "request refused, rule " ++ decimal (number_of rule) ++ codes "\n"

-- what the answers of a page and of the transcript begin with
unfoldable pub page_head : ℕ → List ℕ
page_head number = codes "page " ++ decimal number ++ codes ": "

abbrev pub log_head : List ℕ
log_head = codes "log: "

-- bytes behind such a beginning, and how many they are; or that there are none
unfoldable pub bytes_text : List ℕ → Option (List ℕ) → List ℕ
bytes_text head None = head ++ codes "none\n"
bytes_text head (Some bytes) = head ++ decimal (length bytes) ++ codes " bytes\n" ++ bytes ++ codes "\n"

-- the line of a page for which there was no memory
unfoldable pub page_memory_line : ℕ → List ℕ
page_memory_line number = codes "page " ++ decimal number ++ codes ": memory\n"

-- the line of a document that was made: its pages, and the edits of its script, which are as many
unfoldable pub gen_line : ℕ → List ℕ
gen_line pages = codes "gen: " ++ decimal pages ++ codes " pages, " ++ decimal pages ++ codes " edits\n"

-- what --version says
abbrev pub version_line : List ℕ
version_line = codes "vortex 0.2.0\n"

-- what `help` says: what the program is, its commands, and its statuses
unfoldable pub help_text : List ℕ
help_text = codes "vortex: TeX, written as DVI, and kept ready for edits.\n\nUsage: vortex COMMAND\n\n  run             formats a document, and again after each edit of a script\n  gen             makes a document of many pages, and a script for it\n  list            says what the pages of a DVI file bring\n  serve           formats a document, and answers requests as they come in\n  help [COMMAND]  says this, or how a command is called\n  -h, --help      says this, and behind a command how that is called\n  -V, --version   says the version\n\nFor example, in the folder examples/edits:\n\n  vortex run --date 2024-5-17-570 --out a --script edits main.tex\n\nStatuses: 0 all is done; 1 all is done, but a run ended by an error or a limit;\n2 the words, the script or the DVI file are refused; 3 a file can't be read;\n4 something can't be said or saved; 5 an edit goes past the end of its file;\n6 no memory is left.\nWhat went wrong, and what would mend it, is told on standard error.\n"

-- what `help run` says: how `run` is called
unfoldable pub run_help_text : List ℕ
run_help_text = codes "Usage: vortex run --date Y-M-D-T --out NAME [OPTIONS] MAIN [FILE..]\n\nFormats MAIN, says how many pages it has and how it ended, carries out the\ncommands of a script, and saves the pages as NAME.dvi, if there is one, and the\ntranscript as NAME.log. Files are those of the folder in which it is called; a\nname has 1 to 255 characters of ASCII and no space.\n\n  --date Y-M-D-T  the date that TeX sees, T in minutes since midnight, 0 to 1439\n  --out NAME      the name of what is saved\n  --script EDITS  a file of commands: edits and others, told below\n  --budget N      what a page may cost, in steps of TeX, 1 to 1000000000 (1000000)\n  --pages N       a run ends when it has N pages, 1 to 10000 (1000)\n  --keep N        1 to 10000 (10000); it has no effect, all states are kept\n  -h, --help      says this\n\nFor example, in the folder examples/edits:\n\n  vortex run --date 2024-5-17-570 --out a --script edits main.tex\n\nThe commands of a script:\n\n  edit PLACE REMOVED N FILE  takes REMOVED bytes out of FILE behind the first\n                             PLACE, and puts N bytes there: those behind this\n                             line, where a line feed follows them\n  remove FILE                takes FILE away\n  batch N                    makes the N edits and removals behind it together\n  locate PLACE FILE          says by which page that place is first read\n  save NAME                  saves what there is by then, NAME.dvi and NAME.log\n\nThis script takes 2 bytes out of main.tex behind the first 99, puts 3 others\nthere, and saves what there is then as b.dvi and b.log:\n\n  edit 99 2 3 main.tex\n  100\n  save b\n\nThe statuses are those that vortex --help tells.\n"

-- what `help gen` says: how `gen` is called
unfoldable pub gen_help_text : List ℕ
gen_help_text = codes "Usage: vortex gen SEED PAGES\n\nMakes a document of many pages, for runs of any size: book.tex, gen.tfm, the\nmetrics of its font, and gen.vtx, a script with an edit for each page. They are\nsaved in the folder in which it is called, over files of these names. The same\nSEED makes the same files.\n\n  SEED            0 to 4294967295\n  PAGES           1 to 1000\n  -h, --help      says this\n\nFor example:\n\n  vortex gen 1 100\n  vortex run --date 2024-5-17-570 --out a --script gen.vtx book.tex gen.tfm\n\nThe statuses are those that vortex --help tells.\n"

-- what `help list` says: how `list` is called
unfoldable pub list_help_text : List ℕ
list_help_text = codes "Usage: vortex list FILE\n\nSays of each page of the DVI file FILE its number and the ten numbers that it\nhas, and then of each character, rule and special that is met on it, in the order\nof the file, where it lies: how many sp to the right and down from the origin. A\nDVI file doesn't tell how wide characters are, so they have no width here. FILE\nis of the folder in which it is called.\n\n  char C font F at H V      the character of code C of the font of number F\n  rule A B at H V           a rule, A high and B wide, in sp\n  special N bytes at H V    a special of so many bytes\n  -h, --help                says this\n\nFor example:\n\n  vortex list a.dvi\n\nThe statuses are those that vortex --help tells.\n"

-- what `help serve` says: how `serve` is called
unfoldable pub serve_help_text : List ℕ
serve_help_text = codes "Usage: vortex serve --date Y-M-D-T [OPTIONS] MAIN [FILE..]\n\nFormats MAIN, says how many pages it has and how it ended, and then answers the\nrequests that come on standard input, one after the other, until it ends: so an\neditor has the pages of a document that is being typed. Files are those of the\nfolder in which it is called, as they are then.\n\n  --date Y-M-D-T  the date that TeX sees, T in minutes since midnight, 0 to 1439\n  --budget N      what a page may cost, in steps of TeX, 1 to 1000000000 (1000000)\n  --pages N       a run ends when it has N pages, 1 to 10000 (1000)\n  --keep N        1 to 10000 (10000); it has no effect, all states are kept\n  -h, --help      says this\n\nThe requests, and what is said of each:\n\n  edit, remove, batch, locate  as in a script; the line that it says there\n  save NAME                    as in a script; saved NAME\n  file N FILE                  from then on FILE has the N bytes behind this\n                               line, where a line feed follows them; the line\n                               of the edit that does it\n  page K                       page K as a DVI file: page K: N bytes, then those\n                               and a line feed; page K: none if there is none\n  log                          the transcript: log: N bytes, then those and a\n                               line feed\n  log K                        the same of what page K brought to it\n\nAnything else is refused, and the next request begins behind the next line feed.\nFor example, where page 1 is asked for after a letter was put in front:\n\n  edit 0 0 1 main.tex\n  a\n  page 1\n\nThe statuses are those that vortex --help tells.\n"
