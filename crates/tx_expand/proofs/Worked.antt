-- Worked cases of expansion, as Knuth's TeX has them.
use Rattle.std.proofs.Common.{◌≡◌, ℕ, zero, suc, true, false, List, [], ◌∷◌, ◌++◌, Option, None, Some, refl, map, pos}
use Rattle.std.specs.Prelude.{codes, cond}
use Rattle.std.specs.Str.{bytes_eq as same_text}
use Rattle.tx_char.specs.declared.category.Cat.TheVariants.{AlignmentTab, BeginGroup, EndGroup, Letter, Other, Space}
use Rattle.tx_char.specs.declared.tokens.Token.{Token}
use Rattle.tx_char.specs.declared.tokens.Token.TheVariants as token
use Rattle.tx_toklist.specs.Macros.{Definition}
use Rattle.tx_pending.specs.declared.next.ColumnPart.TheVariants.{U, V}
use Rattle.tx_pending.specs.Elements.{Given, PartEnd, outside}
use Rattle.tx_prim.specs.declared.family.EntryEnd.TheVariants as end
use Rattle.tx_prim.specs.declared.modes.Mode.TheVariants.{Vertical}
use Rattle.tx_prim.specs.declared.expandable.Expandable.TheVariants as x
use Rattle.tx_prim.specs.declared.expandable.Test.TheVariants as tests
use Rattle.tx_prim.specs.declared.expandable.Conversion.TheVariants as kind
use Rattle.tx_prim.specs.declared.expandable.CondWord.TheVariants as word
use Rattle.tx_prim.specs.declared.expandable.MarkKind.{MarkKind}
use Rattle.tx_prim.specs.declared.expandable.MarkKind.TheVariants as mark
use Rattle.tx_prim.specs.Expandables.{name_of}
use Rattle.tx_prim.specs.declared.primitive.Primitive.TheVariants.{Relax, EndCsName, Numbered}
use Rattle.tx_seen.specs.declared.error.TexError.{TexError}
use Rattle.tx_seen.specs.declared.error.TexError.TheVariants.{Undefined, MissingNumber, NumberOutOfRange, ExtraConditionalWord, BadName, IncompleteText, IncompleteConditional}
use Rattle.tx_seen.specs.declared.fed.Value.TheVariants.{Int}
use Rattle.tx_seen.specs.declared.fed.Want.TheVariants.{Expanded}
use Rattle.tx_prim.specs.declared.family.Numbered.TheVariants.{Count, Toks}
use Rattle.tx_seen.specs.declared.meaning.Meaning.{Meaning}
use Rattle.tx_seen.specs.declared.meaning.Meaning.TheVariants as meaning
use Rattle.tx_convert.specs.Texts.{as_tokens}
use Rattle.tx_expand.specs.declared.types.Expanded.{Expanded as Answer}
use Rattle.tx_expand.specs.declared.types.Expanded.TheVariants as answer
use Rattle.tx_expand.specs.declared.types.Wanted.{Wanted}
use Rattle.tx_expand.specs.Reader.{World, Reader, Turn, Goes, Fails}
use Rattle.tx_expand.specs.Turns.{file_ended, opened, turn}

abbrev cs : List ℕ → Token
cs name = token.Name name

abbrev letter : ℕ → Token
letter c = token.Character c Letter

abbrev other : ℕ → Token
other c = token.Character c Other

-- \a expands to xy; \b#1 to #1#1
abbrev macro_a : Definition
macro_a = record { parameters = record { before = []; delimiters = [] }; signs = []; body = record { tokens = letter 120 ∷ letter 121 ∷ []; slots = [] }; long = false; outer = false }

abbrev macro_b : Definition
macro_b = record { parameters = record { before = []; delimiters = [] ∷ [] }; signs = 35 ∷ []; body = record { tokens = []; slots = record { before = 0; number = 1 } ∷ record { before = 0; number = 1 } ∷ [] }; long = false; outer = false }

-- \n expands to 2 and a space
abbrev macro_n : Definition
macro_n = record { parameters = record { before = []; delimiters = [] }; signs = []; body = record { tokens = other 50 ∷ token.Character 32 Space ∷ []; slots = [] }; long = false; outer = false }

-- \c expands to \a; \o is \outer
abbrev macro_c : Definition
macro_c = record { parameters = record { before = []; delimiters = [] }; signs = []; body = record { tokens = token.Name (codes "a") ∷ []; slots = [] }; long = false; outer = false }

abbrev macro_o : Definition
macro_o = record { parameters = record { before = []; delimiters = [] }; signs = []; body = record { tokens = []; slots = [] }; long = false; outer = true }

abbrev named_by : List ℕ → Meaning
named_by n =
    cond (same_text n (codes "a")) (meaning.Macro macro_a) (
    cond (same_text n (codes "b")) (meaning.Macro macro_b) (
    cond (same_text n (codes "c")) (meaning.Macro macro_c) (
    cond (same_text n (codes "n")) (meaning.Macro macro_n) (
    cond (same_text n (codes "o")) (meaning.Macro macro_o) (
    cond (same_text n (codes "or")) (meaning.Expandable (x.Word word.Or)) (
    cond (same_text n (codes "ifcase")) (meaning.Expandable (x.Test tests.Case)) (
    cond (same_text n (codes "input")) (meaning.Expandable x.Input) (
    cond (same_text n (codes "expandafter")) (meaning.Expandable x.ExpandAfter) (
    cond (same_text n (codes "noexpand")) (meaning.Expandable x.NoExpand) (
    cond (same_text n (codes "csname")) (meaning.Expandable x.CsName) (
    cond (same_text n (codes "endcsname")) (meaning.Command EndCsName) (
    cond (same_text n (codes "romannumeral")) (meaning.Expandable (x.Convert kind.RomanNumeral)) (
    cond (same_text n (codes "if")) (meaning.Expandable (x.Test tests.Character)) (
    cond (same_text n (codes "iftrue")) (meaning.Expandable (x.Test tests.True)) (
    cond (same_text n (codes "iffalse")) (meaning.Expandable (x.Test tests.False)) (
    cond (same_text n (codes "ifnum")) (meaning.Expandable (x.Test tests.Number)) (
    cond (same_text n (codes "else")) (meaning.Expandable (x.Word word.Else)) (
    cond (same_text n (codes "fi")) (meaning.Expandable (x.Word word.Fi)) (
    cond (same_text n (codes "string")) (meaning.Expandable (x.Convert kind.Token)) (
    cond (same_text n (codes "meaning")) (meaning.Expandable (x.Convert kind.Meaning)) (
    cond (same_text n (codes "number")) (meaning.Expandable (x.Convert kind.Number)) (
    cond (same_text n (codes "jobname")) (meaning.Expandable (x.Convert kind.JobName)) (
    cond (same_text n (codes "the")) (meaning.Expandable x.The) (
    cond (same_text n (codes "endinput")) (meaning.Expandable x.EndInput) (
    cond (same_text n (codes "ifx")) (meaning.Expandable (x.Test tests.Same)) (
    cond (same_text n (codes "count")) (meaning.Command (Numbered Count)) (
    cond (same_text n (codes "toks")) (meaning.Command (Numbered Toks)) (
    cond (same_text n (codes "topmark")) (meaning.Expandable (x.Mark mark.Top)) (
    cond (same_text n (codes "firstmark")) (meaning.Expandable (x.Mark mark.First)) (
    cond (same_text n (codes "botmark")) (meaning.Expandable (x.Mark mark.Bottom)) (
    cond (same_text n (codes "relax")) (meaning.Command Relax) meaning.Undefined)))))))))))))))))))))))))))))))

abbrev means : Token → Meaning
means (token.Name n) = named_by n
means (token.Character c category) = meaning.Character c category
means token.FrozenRelax = meaning.Command Relax
means (token.FontIdentifier font) = meaning.Font font

-- the first mark is t\relax, the last one \a; there is no other
abbrev marks : MarkKind → Option (List Token)
marks mark.Top = None
marks mark.First = Some (letter 116 ∷ token.Name (codes "relax") ∷ [])
marks mark.Bottom = Some (token.Name (codes "a") ∷ [])
marks mark.SplitFirst = None
marks mark.SplitBottom = None

abbrev around : World
around = record { meaning = means; value = λ p. Int (pos 7); tokens = λ p. token.Name (codes "a") ∷ []; mark = marks; codes = []; escape = Some 92; fonts = []; font = λ f. 0; mode = Vertical }

abbrev reads : List Token → Reader
reads tokens = record { input = record { elements = map Given tokens; closing = false; level = outside }; begun = []; conditionals = []; job = codes "texput.tex" }

abbrev wants : Wanted
wants = record { want = Expanded; text = false; takes_the = false; names = false; peeks = false }

-- the caller takes a text
abbrev wants_text : Wanted
wants_text = record { want = Expanded; text = true; takes_the = true; names = false; peeks = false }

-- what the caller gets in so many turns, up to the end of the input, a file that is asked for, or an error
data Output : Type 0 where
  All : List Token → Output
  Opens : List Token → List ℕ → Output
  Stopped : List Token → TexError → Output

abbrev more : List Token → Output → Output
more before (All ts) = All (before ++ ts)
more before (Opens ts file) = Opens (before ++ ts) file
more before (Stopped ts e) = Stopped (before ++ ts) e

abbrev followed : Answer → Output → Output
followed (answer.Got t) later = more (t.token ∷ []) later
followed (answer.Text ts) later = more ts later
followed answer.Went later = later
followed (answer.Relaxes name) later = later
followed answer.Marked later = later
followed (answer.EndsEntry word) later = All []
followed answer.PartEnded later = All []
followed answer.LineUsed later = All []
followed answer.FileUsed later = All []
followed (answer.Asks file) later = Opens [] file
followed (answer.Wrong error) later = Stopped [] error

abbrev came : Turn → (Reader → Output) → Output
came (Goes answer left) on = followed answer (on left)
came (Fails error) on = Stopped [] error

abbrev run_wanted : Wanted → ℕ → Reader → Output
run_wanted wanted zero r = All []
run_wanted wanted (suc n) r = came (turn around wanted r) (λ left. run_wanted wanted n left)

abbrev run : ℕ → Reader → Output
run n r = run_wanted wants n r

-- what is left after so many turns
abbrev left_by : Turn → Reader → (Reader → Reader) → Reader
left_by (Goes answer left) r on = on left
left_by (Fails error) r on = r

abbrev left_after : ℕ → Reader → Reader
left_after zero r = r
left_after (suc n) r = left_by (turn around wants r) r (λ left. left_after n left)

-- what the turn behind these answers
abbrev answers_after : ℕ → Reader → Answer
answers_after n r = on (turn around wants (left_after n r))
  where
    on : Turn → Answer
    on (Goes answer left) = answer
    on (Fails error) = answer.Wrong error

-- \a z
plain : run 10 (reads (cs (codes "a") ∷ letter 122 ∷ [])) ≡ All (letter 120 ∷ letter 121 ∷ letter 122 ∷ [])
plain = refl

-- \b z
with_argument : run 10 (reads (cs (codes "b") ∷ letter 122 ∷ [])) ≡ All (letter 122 ∷ letter 122 ∷ [])
with_argument = refl

-- \expandafter\b\a z: \b takes x
after : run 20 (reads (cs (codes "expandafter") ∷ cs (codes "b") ∷ cs (codes "a") ∷ letter 122 ∷ [])) ≡ All (letter 120 ∷ letter 120 ∷ letter 121 ∷ letter 122 ∷ [])
after = refl

-- \csname a\endcsname
named : run 20 (reads (cs (codes "csname") ∷ letter 97 ∷ cs (codes "endcsname") ∷ [])) ≡ All (letter 120 ∷ letter 121 ∷ [])
named = refl

-- \ifnum1<2 y\else n\fi z
tested : run 40 (reads (cs (codes "ifnum") ∷ other 49 ∷ other 60 ∷ other 50 ∷ token.Character 32 Space ∷ letter 121 ∷ cs (codes "else") ∷ letter 110 ∷ cs (codes "fi") ∷ letter 122 ∷ [])) ≡ All (letter 121 ∷ letter 122 ∷ [])
tested = refl

-- \the\toks1 z, whose list is \a
a_list : run 20 (reads (cs (codes "the") ∷ cs (codes "toks") ∷ other 49 ∷ token.Character 32 Space ∷ letter 122 ∷ [])) ≡ All (letter 120 ∷ letter 121 ∷ letter 122 ∷ [])
a_list = refl

-- in a text \a isn't expanded
a_list_in_a_text : run_wanted wants_text 20 (reads (cs (codes "the") ∷ cs (codes "toks") ∷ other 49 ∷ token.Character 32 Space ∷ letter 122 ∷ [])) ≡ All (cs (codes "a") ∷ letter 122 ∷ [])
a_list_in_a_text = refl

-- \botmark z: the mark is read and expanded
a_mark : run 20 (reads (cs (codes "botmark") ∷ letter 122 ∷ [])) ≡ All (letter 120 ∷ letter 121 ∷ letter 122 ∷ [])
a_mark = refl

-- \topmark z: there is none
no_mark : run 20 (reads (cs (codes "topmark") ∷ letter 122 ∷ [])) ≡ All (letter 122 ∷ [])
no_mark = refl

-- \meaning\firstmark
meaning_of_a_mark : run 40 (reads (cs (codes "meaning") ∷ cs (codes "firstmark") ∷ [])) ≡ All (as_tokens (92 ∷ codes "firstmark:t" ++ (92 ∷ codes "relax ")))
unfolding name_of
meaning_of_a_mark = refl

-- \meaning\topmark
meaning_of_no_mark : run 40 (reads (cs (codes "meaning") ∷ cs (codes "topmark") ∷ [])) ≡ All (as_tokens (92 ∷ codes "topmark:"))
unfolding name_of
meaning_of_no_mark = refl

-- \the\toks256 and \number\toks1
no_such_list : run 20 (reads (cs (codes "the") ∷ cs (codes "toks") ∷ other 50 ∷ other 53 ∷ other 54 ∷ token.Character 32 Space ∷ [])) ≡ Stopped [] NumberOutOfRange
no_such_list = refl

a_list_is_no_number : run 20 (reads (cs (codes "number") ∷ cs (codes "toks") ∷ other 49 ∷ [])) ≡ Stopped [] MissingNumber
a_list_is_no_number = refl

-- \expandafter \expandafter \expandafter \b \c z
three_after : run 60 (reads ((cs (codes "expandafter")) ∷ (cs (codes "expandafter")) ∷ (cs (codes "expandafter")) ∷ (cs (codes "b")) ∷ (cs (codes "c")) ∷ (letter 122) ∷ [])) ≡ All ((letter 120) ∷ (letter 120) ∷ (letter 121) ∷ (letter 122) ∷ [])
three_after = refl

-- \noexpand \a
held : run 60 (reads ((cs (codes "noexpand")) ∷ (cs (codes "a")) ∷ [])) ≡ All ((cs (codes "a")) ∷ [])
held = refl

-- \iffalse a \else b \fi
skipped_to_else : run 60 (reads ((cs (codes "iffalse")) ∷ (letter 97) ∷ (cs (codes "else")) ∷ (letter 98) ∷ (cs (codes "fi")) ∷ [])) ≡ All ((letter 98) ∷ [])
skipped_to_else = refl

-- \ifnum 1 < 2 \else n \fi z
relax_put_in : run 60 (reads ((cs (codes "ifnum")) ∷ (other 49) ∷ (other 60) ∷ (other 50) ∷ (cs (codes "else")) ∷ (letter 110) ∷ (cs (codes "fi")) ∷ (letter 122) ∷ [])) ≡ All (token.FrozenRelax ∷ (letter 122) ∷ [])
relax_put_in = refl

-- \iffalse \iftrue a \else b \fi c \else d \fi
skipped_within : run 60 (reads ((cs (codes "iffalse")) ∷ (cs (codes "iftrue")) ∷ (letter 97) ∷ (cs (codes "else")) ∷ (letter 98) ∷ (cs (codes "fi")) ∷ (letter 99) ∷ (cs (codes "else")) ∷ (letter 100) ∷ (cs (codes "fi")) ∷ [])) ≡ All ((letter 100) ∷ [])
skipped_within = refl

-- \csname z z \endcsname; the answer is an error of these cases alone, where nobody gives the name the meaning of \relax before
-- it is read: who reads by the expander is told of the name, and assigns that (TeX: The Program, section 372)
name_without_meaning : run 60 (reads ((cs (codes "csname")) ∷ (letter 122) ∷ (letter 122) ∷ (cs (codes "endcsname")) ∷ [])) ≡ Stopped ([]) Undefined
name_without_meaning = refl

-- \romannumeral 1 2 x
roman : run 60 (reads ((cs (codes "romannumeral")) ∷ (other 49) ∷ (other 50) ∷ (letter 122) ∷ [])) ≡ All ((other 120) ∷ (other 105) ∷ (other 105) ∷ (letter 122) ∷ [])
roman = refl

-- \expandafter \b \csname a \endcsname z
after_name : run 60 (reads ((cs (codes "expandafter")) ∷ (cs (codes "b")) ∷ (cs (codes "csname")) ∷ (letter 97) ∷ (cs (codes "endcsname")) ∷ (letter 122) ∷ [])) ≡ All ((letter 120) ∷ (letter 121) ∷ (letter 120) ∷ (letter 121) ∷ (letter 122) ∷ [])
after_name = refl

-- \expandafter \b \iftrue x \fi z
after_true : run 60 (reads ((cs (codes "expandafter")) ∷ (cs (codes "b")) ∷ (cs (codes "iftrue")) ∷ (letter 120) ∷ (cs (codes "fi")) ∷ (letter 122) ∷ [])) ≡ All ((letter 120) ∷ (letter 120) ∷ (letter 122) ∷ [])
after_true = refl

-- \expandafter \b \iffalse x \else y \fi z
after_false : run 60 (reads ((cs (codes "expandafter")) ∷ (cs (codes "b")) ∷ (cs (codes "iffalse")) ∷ (letter 120) ∷ (cs (codes "else")) ∷ (letter 121) ∷ (cs (codes "fi")) ∷ (letter 122) ∷ [])) ≡ All ((letter 121) ∷ (letter 121) ∷ (letter 122) ∷ [])
after_false = refl

-- \ifcase 1 (space) a \or b \or c \else d \fi
case_1 : run 60 (reads ((cs (codes "ifcase")) ∷ (other 49) ∷ token.Character 32 Space ∷ (letter 97) ∷ (cs (codes "or")) ∷ (letter 98) ∷ (cs (codes "or")) ∷ (letter 99) ∷ (cs (codes "else")) ∷ (letter 100) ∷ (cs (codes "fi")) ∷ [])) ≡ All ((letter 98) ∷ [])
case_1 = refl

-- \ifcase 4 (space) a \or b \or c \else d \fi
case_4 : run 60 (reads ((cs (codes "ifcase")) ∷ (other 52) ∷ token.Character 32 Space ∷ (letter 97) ∷ (cs (codes "or")) ∷ (letter 98) ∷ (cs (codes "or")) ∷ (letter 99) ∷ (cs (codes "else")) ∷ (letter 100) ∷ (cs (codes "fi")) ∷ [])) ≡ All ((letter 100) ∷ [])
case_4 = refl

-- \csname \ifnum 1 < 2 (space) a \else b \fi \endcsname
test_in_name : run 60 (reads ((cs (codes "csname")) ∷ (cs (codes "ifnum")) ∷ (other 49) ∷ (other 60) ∷ (other 50) ∷ token.Character 32 Space ∷ (letter 97) ∷ (cs (codes "else")) ∷ (letter 98) ∷ (cs (codes "fi")) ∷ (cs (codes "endcsname")) ∷ [])) ≡ All ((letter 120) ∷ (letter 121) ∷ [])
test_in_name = refl

-- a \fi
extra_fi : run 60 (reads ((letter 97) ∷ (cs (codes "fi")) ∷ [])) ≡ Stopped ((letter 97) ∷ []) ExtraConditionalWord
extra_fi = refl

-- \csname a \relax \endcsname
relax_in_name : run 60 (reads ((cs (codes "csname")) ∷ (letter 97) ∷ (cs (codes "relax")) ∷ (cs (codes "endcsname")) ∷ [])) ≡ Stopped ([]) BadName
relax_in_name = refl

-- a \q
without_meaning : run 60 (reads ((letter 97) ∷ (cs (codes "q")) ∷ [])) ≡ Stopped ((letter 97) ∷ []) Undefined
without_meaning = refl

-- \b \o
outer_in_argument : run 60 (reads ((cs (codes "b")) ∷ (cs (codes "o")) ∷ [])) ≡ Stopped ([]) IncompleteText
outer_in_argument = refl

-- \iffalse \o
outer_in_skipped : run 60 (reads ((cs (codes "iffalse")) ∷ (cs (codes "o")) ∷ [])) ≡ Stopped ([]) IncompleteConditional
outer_in_skipped = refl

-- \expandafter a \o z
outer_behind_after : run 60 (reads ((cs (codes "expandafter")) ∷ (letter 97) ∷ (cs (codes "o")) ∷ (letter 122) ∷ [])) ≡ All ((letter 97) ∷ (letter 122) ∷ [])
outer_behind_after = refl

-- \noexpand \o
outer_held : run 60 (reads ((cs (codes "noexpand")) ∷ (cs (codes "o")) ∷ [])) ≡ All ((cs (codes "o")) ∷ [])
outer_held = refl

-- \expandafter x \b y z
after_held_back : run 60 (reads ((cs (codes "expandafter")) ∷ (letter 120) ∷ (cs (codes "b")) ∷ (letter 121) ∷ (letter 122) ∷ [])) ≡ All ((letter 120) ∷ (letter 121) ∷ (letter 121) ∷ (letter 122) ∷ [])
after_held_back = refl

-- \ifnum 1 = 1 \iftrue 2 (space) \else 3 (space) \fi y \else n \fi
test_within_test : run 60 (reads ((cs (codes "ifnum")) ∷ (other 49) ∷ (other 61) ∷ (other 49) ∷ (cs (codes "iftrue")) ∷ (other 50) ∷ token.Character 32 Space ∷ (cs (codes "else")) ∷ (other 51) ∷ token.Character 32 Space ∷ (cs (codes "fi")) ∷ (letter 121) ∷ (cs (codes "else")) ∷ (letter 110) ∷ (cs (codes "fi")) ∷ [])) ≡ All ((letter 110) ∷ [])
test_within_test = refl

-- \if \noexpand \a \noexpand \b y \else n \fi
two_held : run 60 (reads ((cs (codes "if")) ∷ (cs (codes "noexpand")) ∷ (cs (codes "a")) ∷ (cs (codes "noexpand")) ∷ (cs (codes "b")) ∷ (letter 121) ∷ (cs (codes "else")) ∷ (letter 110) ∷ (cs (codes "fi")) ∷ [])) ≡ All ((letter 121) ∷ [])
two_held = refl

-- \expandafter\relax\noexpand\a z: after what \expandafter put before it a token is held still
held_behind_after : run 90 (reads (cs (codes "expandafter") ∷ cs (codes "relax") ∷ cs (codes "noexpand") ∷ cs (codes "a") ∷ letter 122 ∷ [])) ≡ All (cs (codes "relax") ∷ cs (codes "a") ∷ letter 122 ∷ [])
held_behind_after = refl

-- \expandafter\expandafter\expandafter\relax\noexpand\a z: read once more by \expandafter it is an ordinary token
hold_lost : run 90 (reads (cs (codes "expandafter") ∷ cs (codes "expandafter") ∷ cs (codes "expandafter") ∷ cs (codes "relax") ∷ cs (codes "noexpand") ∷ cs (codes "a") ∷ letter 122 ∷ [])) ≡ All (cs (codes "relax") ∷ letter 120 ∷ letter 121 ∷ letter 122 ∷ [])
hold_lost = refl

-- \expandafter\b\noexpand\a z: so it is in an argument
held_argument : run 90 (reads (cs (codes "expandafter") ∷ cs (codes "b") ∷ cs (codes "noexpand") ∷ cs (codes "a") ∷ letter 122 ∷ [])) ≡ All (letter 120 ∷ letter 121 ∷ letter 120 ∷ letter 121 ∷ letter 122 ∷ [])
held_argument = refl

-- \expandafter\b\ifnum1<2 \expandafter x\else n\fi z: \b takes the first \expandafter; the second holds x back until \else is gone
after_test : run 90 (reads (cs (codes "expandafter") ∷ cs (codes "b") ∷ cs (codes "ifnum") ∷ other 49 ∷ other 60 ∷ other 50 ∷ token.Character 32 Space ∷ cs (codes "expandafter") ∷ letter 120 ∷ cs (codes "else") ∷ letter 110 ∷ cs (codes "fi") ∷ letter 122 ∷ [])) ≡ All (letter 120 ∷ letter 122 ∷ [])
after_test = refl

-- \iftrue\expandafter\b\else n\fi z: \else skips to the end, then \b comes
after_else : run 90 (reads (cs (codes "iftrue") ∷ cs (codes "expandafter") ∷ cs (codes "b") ∷ cs (codes "else") ∷ letter 110 ∷ cs (codes "fi") ∷ letter 122 ∷ [])) ≡ All (letter 122 ∷ letter 122 ∷ [])
after_else = refl

-- \iftrue\expandafter\b\fi z
after_fi : run 90 (reads (cs (codes "iftrue") ∷ cs (codes "expandafter") ∷ cs (codes "b") ∷ cs (codes "fi") ∷ letter 122 ∷ [])) ≡ All (letter 122 ∷ letter 122 ∷ [])
after_fi = refl

-- \ifnum\expandafter1\expandafter<\n y\else n\fi
three_after_test : run 90 (reads (cs (codes "ifnum") ∷ cs (codes "expandafter") ∷ other 49 ∷ cs (codes "expandafter") ∷ other 60 ∷ cs (codes "n") ∷ letter 121 ∷ cs (codes "else") ∷ letter 110 ∷ cs (codes "fi") ∷ [])) ≡ All (letter 121 ∷ [])
three_after_test = refl

-- \if x\else y\fi z: the \relax that is put in is compared with x
else_in_test : run 90 (reads (cs (codes "if") ∷ letter 120 ∷ cs (codes "else") ∷ letter 121 ∷ cs (codes "fi") ∷ letter 122 ∷ [])) ≡ All (letter 121 ∷ letter 122 ∷ [])
else_in_test = refl

-- \ifcase0 a\or b\else d\fi
case_0 : run 90 (reads (cs (codes "ifcase") ∷ other 48 ∷ token.Character 32 Space ∷ letter 97 ∷ cs (codes "or") ∷ letter 98 ∷ cs (codes "else") ∷ letter 100 ∷ cs (codes "fi") ∷ [])) ≡ All (letter 97 ∷ [])
case_0 = refl

-- \ifcase1\or b\fi
relax_before_or : run 90 (reads (cs (codes "ifcase") ∷ other 49 ∷ cs (codes "or") ∷ letter 98 ∷ cs (codes "fi") ∷ [])) ≡ All (letter 98 ∷ [])
relax_before_or = refl

-- \csname\string a\endcsname
name_of_letters : run 90 (reads (cs (codes "csname") ∷ cs (codes "string") ∷ letter 97 ∷ cs (codes "endcsname") ∷ [])) ≡ All (letter 120 ∷ letter 121 ∷ [])
name_of_letters = refl

-- \jobname z
job : run 90 (reads (cs (codes "jobname") ∷ letter 122 ∷ [])) ≡ All (other 116 ∷ other 101 ∷ other 120 ∷ other 112 ∷ other 117 ∷ other 116 ∷ letter 122 ∷ [])
job = refl

-- \string\ab
string_of_name : run 90 (reads (cs (codes "string") ∷ cs (codes "ab") ∷ [])) ≡ All (other 92 ∷ other 97 ∷ other 98 ∷ [])
string_of_name = refl

-- \csname a\o\endcsname: \o is expanded
outer_in_name : run 60 (reads (cs (codes "csname") ∷ letter 97 ∷ cs (codes "o") ∷ cs (codes "endcsname") ∷ [])) ≡ All (letter 120 ∷ letter 121 ∷ [])
outer_in_name = refl

-- the same in a text
outer_in_name_in_text : run_wanted wants_text 60 (reads (cs (codes "csname") ∷ letter 97 ∷ cs (codes "o") ∷ cs (codes "endcsname") ∷ [])) ≡ Stopped [] IncompleteText
outer_in_name_in_text = refl

-- a\o in a text
outer_in_text : run_wanted wants_text 60 (reads (letter 97 ∷ cs (codes "o") ∷ [])) ≡ Stopped (letter 97 ∷ []) IncompleteText
outer_in_text = refl

-- \string\o in a text
outer_string : run_wanted wants_text 60 (reads (cs (codes "string") ∷ cs (codes "o") ∷ [])) ≡ All (other 92 ∷ other 111 ∷ [])
outer_string = refl

-- \expandafter a\o in a text
outer_behind_after_in_text : run_wanted wants_text 60 (reads (cs (codes "expandafter") ∷ letter 97 ∷ cs (codes "o") ∷ [])) ≡ Stopped [] IncompleteText
outer_behind_after_in_text = refl

-- \csname zz\endcsname makes a name that has no meaning mean \relax
relaxes : answers_after 3 (reads (cs (codes "csname") ∷ letter 122 ∷ letter 122 ∷ cs (codes "endcsname") ∷ [])) ≡ (answer.Relaxes (codes "zz"))
relaxes = refl

-- a\input f \a
opens : run 60 (reads (letter 97 ∷ cs (codes "input") ∷ letter 102 ∷ token.Character 32 Space ∷ cs (codes "a") ∷ [])) ≡ Opens (letter 97 ∷ []) (codes "f.tex")
opens = refl

-- \input f.x\a\relax: the name is expanded, and has a dot
opens_with_dot : run 60 (reads (cs (codes "input") ∷ letter 102 ∷ other 46 ∷ letter 120 ∷ cs (codes "a") ∷ cs (codes "relax") ∷ [])) ≡ Opens [] (codes "f.xxy")
opens_with_dot = refl

-- \input f\input g: a \relax ends the first name
input_in_name : run 60 (reads (cs (codes "input") ∷ letter 102 ∷ cs (codes "input") ∷ letter 103 ∷ token.Character 32 Space ∷ [])) ≡ Opens [] (codes "f.tex")
input_in_name = refl

-- and stands in front of the second
input_behind_name : (left_after 5 (reads (cs (codes "input") ∷ letter 102 ∷ cs (codes "input") ∷ letter 103 ∷ token.Character 32 Space ∷ []))).input.elements ≡ map Given (token.FrozenRelax ∷ cs (codes "input") ∷ letter 103 ∷ token.Character 32 Space ∷ [])
input_behind_name = refl

-- \expandafter\b\input f z: the first line of the file is asked for
first_line_first : answers_after 5 (reads (cs (codes "expandafter") ∷ cs (codes "b") ∷ cs (codes "input") ∷ letter 102 ∷ token.Character 32 Space ∷ letter 122 ∷ [])) ≡ answer.LineUsed
first_line_first = refl

-- and \b comes before it
first_line_behind : (opened (left_after 5 (reads (cs (codes "expandafter") ∷ cs (codes "b") ∷ cs (codes "input") ∷ letter 102 ∷ token.Character 32 Space ∷ letter 122 ∷ [])))).input.elements ≡ map Given (cs (codes "b") ∷ letter 122 ∷ [])
first_line_behind = refl

-- \endinput a: the file ends with its line
end_input : answers_after 2 (reads (cs (codes "endinput") ∷ letter 97 ∷ [])) ≡ answer.FileUsed
end_input = refl

-- \endinput\input f : the first line is asked for first
end_input_before_input : answers_after 5 (reads (cs (codes "endinput") ∷ cs (codes "input") ∷ letter 102 ∷ token.Character 32 Space ∷ [])) ≡ answer.LineUsed
end_input_before_input = refl

-- a file ends behind \b
end_in_use : file_ended false (left_after 1 (reads (cs (codes "b") ∷ []))) ≡ Some IncompleteText
end_in_use = refl

-- a file ends behind \expandafter
end_in_after : file_ended false (left_after 1 (reads (cs (codes "expandafter") ∷ []))) ≡ None
end_in_after = refl

-- a file ends behind \expandafter a
end_in_before : file_ended false (left_after 2 (reads (cs (codes "expandafter") ∷ letter 97 ∷ []))) ≡ None
end_in_before = refl

-- a file ends behind \noexpand
end_in_hold : file_ended false (left_after 1 (reads (cs (codes "noexpand") ∷ []))) ≡ None
end_in_hold = refl

-- a file ends behind \csname a
end_in_name : file_ended false (left_after 2 (reads (cs (codes "csname") ∷ letter 97 ∷ []))) ≡ None
end_in_name = refl

-- a file ends behind \csname a in a text
end_in_name_in_text : file_ended true (left_after 2 (reads (cs (codes "csname") ∷ letter 97 ∷ []))) ≡ Some IncompleteText
end_in_name_in_text = refl

-- a file ends behind \number1
end_in_number : file_ended false (left_after 2 (reads (cs (codes "number") ∷ other 49 ∷ []))) ≡ None
end_in_number = refl

-- a file ends behind \the
end_in_the : file_ended false (left_after 1 (reads (cs (codes "the") ∷ []))) ≡ None
end_in_the = refl

-- a file ends behind \ifnum1
end_in_test : file_ended false (left_after 2 (reads (cs (codes "ifnum") ∷ other 49 ∷ []))) ≡ None
end_in_test = refl

-- a file ends behind \iffalse a
end_in_skipped : file_ended false (left_after 2 (reads (cs (codes "iffalse") ∷ letter 97 ∷ []))) ≡ Some IncompleteConditional
end_in_skipped = refl

-- a file ends behind \iffalse a in a text
end_in_skipped_in_text : file_ended true (left_after 2 (reads (cs (codes "iffalse") ∷ letter 97 ∷ []))) ≡ Some IncompleteConditional
end_in_skipped_in_text = refl

-- a file ends behind \input f
end_in_file : file_ended false (left_after 2 (reads (cs (codes "input") ∷ letter 102 ∷ []))) ≡ None
end_in_file = refl

-- within an entry of an alignment
abbrev in_entry : List Token → Reader
in_entry tokens = record { input = record { elements = map Given tokens; closing = false; level = pos 0 }; begun = []; conditionals = []; job = codes "texput.tex" }

abbrev tab : Token
tab = token.Character 38 AlignmentTab

-- a&: an & ends the entry
tab_ends : answers_after 1 (in_entry (letter 97 ∷ tab ∷ [])) ≡ answer.EndsEntry end.Tab
tab_ends = refl

-- {&}&: not within braces
tab_in_braces : run 3 (in_entry (token.Character 123 BeginGroup ∷ tab ∷ token.Character 125 EndGroup ∷ [])) ≡ All (token.Character 123 BeginGroup ∷ tab ∷ token.Character 125 EndGroup ∷ [])
tab_in_braces = refl

-- \number5&: the number goes on in the v-part
tab_in_number : answers_after 2 (in_entry (cs (codes "number") ∷ other 53 ∷ tab ∷ [])) ≡ answer.EndsEntry end.Tab
tab_in_number = refl

-- a\number up to the end of the v-part: no number is there, as before \cr
abbrev in_part : List Token → Reader
in_part tokens = record { input = record { elements = map Given tokens ++ PartEnd V ∷ []; closing = false; level = outside }; begun = []; conditionals = []; job = codes "texput.tex" }

number_in_part : run 8 (in_part (letter 97 ∷ cs (codes "number") ∷ [])) ≡ Stopped (letter 97 ∷ []) MissingNumber
number_in_part = refl

-- a\romannumeral5 up to there: the number ends, and what ended it stands behind its letter before the entry ends
numeral_in_part : run 8 (in_part (letter 97 ∷ cs (codes "romannumeral") ∷ other 53 ∷ [])) ≡ All (letter 97 ∷ other 118 ∷ token.FrozenRelax ∷ [])
numeral_in_part = refl

-- an argument doesn't go on behind it
argument_in_part : run 4 (in_part (cs (codes "b") ∷ [])) ≡ Stopped [] IncompleteText
argument_in_part = refl

-- the level of an entry begins where the u-part ends
entry_begins : (left_after 1 (record { input = record { elements = PartEnd U ∷ Given tab ∷ []; closing = false; level = outside }; begun = []; conditionals = []; job = codes "texput.tex" })).input.level ≡ pos 0
entry_begins = refl
