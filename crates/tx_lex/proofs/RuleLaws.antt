-- The function `reading` follows the rules, and no other answer does.
use Rattle.std.proofs.Common.{◌≡◌, ◌≢◌, ℕ, zero, suc, ◌+◌, ◌≤◌, Bool, true, false, cond, ◌&&◌, Option, Some, None, List, [], ◌∷◌, ◌++◌, length, refl, ap, sym, subst, ◌∙◌, arith, eqb, ltb, ◌⊎◌, inl, inr}
use Rattle.tx_char.specs.declared.category.Cat.{Cat}
use Rattle.tx_char.specs.declared.category.Cat.TheVariants.{Escape, EndOfLine, Ignored, Space, Letter, Comment, Invalid}
use Rattle.tx_char.specs.declared.tokens.Token.TheVariants.{Character, Name}
use Rattle.tx_char.specs.Category.{category}
use Rattle.tx_lex.specs.declared.types.ReadState.{ReadState}
use Rattle.tx_lex.specs.declared.types.ReadState.TheVariants.{N, M, S}
use Rattle.tx_lex.specs.Characters.{characters}
use Rattle.tx_lex.specs.Notation.{Seen, denoted, is_superscript, reduction}
use Rattle.tx_lex.specs.Reading.{Reading, Read, Nothing, behind_letters, category_reading, first_reading, is_dropped, is_letter, letters, name_reading, reading, skip_while, state_after, unread, word_reading}
use Rattle.tx_lex.specs.Rules.{AreLetters, NotationAmong, OneMore, NoMore, NoneLeft, IsName, Empty, Word, OneBlank, OneOther, IsReading, Notation, NothingLeft, IgnoredDrops, StartDrops, BlankDrops, Blank, Paragraph, EndBlank, EndDrops, CommentDrops, InvalidStops, EscapeNames, Plain, IsPlain}
use Rattle.tx_lex.proofs.CharacterLaws.{characters-nil, characters-plain, characters-reduced, length-reduction}
use Rattle.tx_lex.proofs.Loops.{drops, letters-more, letters-over, skip_while-dropped, skip_while-kept}

-- only a character of category Superscript begins a notation
pub reduction-other : (codes : List Cat) (c : ℕ) (rest : List ℕ) → is_superscript (category codes c) ≡ false → reduction codes c rest ≡ None
reduction-other codes c [] h = refl
reduction-other codes c (b ∷ []) h = refl
reduction-other codes c (b ∷ d ∷ rest) h = ap (λ t. cond (t && (eqb b c && ltb d 128)) (Some (denoted d rest)) None) h

-- What `reading` gives at the front of a line.

reading-nil : (codes : List Cat) (state : ReadState) → reading codes state [] ≡ Nothing
unfolding reading
reading-nil codes state = ap (λ seen. first_reading codes state (skip_while (drops codes state) seen)) (characters-nil codes)

reading-notation : (codes : List Cat) (state : ReadState) (c : ℕ) (rest : List ℕ) (seen : Seen) → reduction codes c rest ≡ Some seen → reading codes state (c ∷ rest) ≡ reading codes state (seen.code ∷ seen.rest)
unfolding reading
reading-notation codes state c rest seen h =
    ap (λ seen. first_reading codes state (skip_while (drops codes state) seen)) (characters-reduced codes c rest seen h)

reading-dropped : (codes : List Cat) (state : ReadState) (c : ℕ) (rest : List ℕ) (kind : Cat) → category codes c ≡ kind → reduction codes c rest ≡ None → is_dropped state kind ≡ true → reading codes state (c ∷ rest) ≡ reading codes state rest
unfolding reading
reading-dropped codes state c rest kind is none dropped =
    ap (λ seen. first_reading codes state (skip_while (drops codes state) seen)) (characters-plain codes c rest none)
    ∙ ap (first_reading codes state) (skip_while-dropped (drops codes state) _ (characters codes rest) (ap (is_dropped state) is ∙ dropped))

reading-kept : (codes : List Cat) (state : ReadState) (c : ℕ) (rest : List ℕ) (kind : Cat) → category codes c ≡ kind → reduction codes c rest ≡ None → is_dropped state kind ≡ false → reading codes state (c ∷ rest) ≡ category_reading codes state (record { code = c; rest = rest }) (characters codes rest) kind
unfolding reading
reading-kept codes state c rest kind is none stays =
    ap (λ seen. first_reading codes state (skip_while (drops codes state) seen)) (characters-plain codes c rest none)
    ∙ ap (first_reading codes state) (skip_while-kept (drops codes state) _ (characters codes rest) (ap (is_dropped state) is ∙ stays))
    ∙ ap (category_reading codes state (record { code = c; rest = rest }) (characters codes rest)) is

-- the same where the category shows that no notation begins
dropped-by : (codes : List Cat) (state : ReadState) (c : ℕ) (rest : List ℕ) (kind : Cat) → category codes c ≡ kind → is_superscript kind ≡ false → is_dropped state kind ≡ true → reading codes state (c ∷ rest) ≡ reading codes state rest
dropped-by codes state c rest kind is other dropped =
    reading-dropped codes state c rest kind is (reduction-other codes c rest (ap is_superscript is ∙ other)) dropped

kept-by : (codes : List Cat) (state : ReadState) (c : ℕ) (rest : List ℕ) (kind : Cat) → category codes c ≡ kind → is_superscript kind ≡ false → is_dropped state kind ≡ false → reading codes state (c ∷ rest) ≡ category_reading codes state (record { code = c; rest = rest }) (characters codes rest) kind
kept-by codes state c rest kind is other stays =
    reading-kept codes state c rest kind is (reduction-other codes c rest (ap is_superscript is ∙ other)) stays

plain-stays : (state : ReadState) (kind : Cat) → IsPlain kind → is_dropped state kind ≡ false
plain-stays state Escape plain = absurd plain
plain-stays state EndOfLine plain = absurd plain
plain-stays state Ignored plain = absurd plain
plain-stays state Space plain = absurd plain
plain-stays state Comment plain = absurd plain
plain-stays state Invalid plain = absurd plain
plain-stays state _ plain = refl

plain-reading : (codes : List Cat) (state : ReadState) (seen : Seen) (more : List Seen) (kind : Cat) → IsPlain kind → category_reading codes state seen more kind ≡ Read (Character seen.code kind) seen.rest M
plain-reading codes state seen more Escape plain = absurd plain
plain-reading codes state seen more EndOfLine plain = absurd plain
plain-reading codes state seen more Ignored plain = absurd plain
plain-reading codes state seen more Space plain = absurd plain
plain-reading codes state seen more Comment plain = absurd plain
plain-reading codes state seen more Invalid plain = absurd plain
plain-reading codes state seen more _ plain = refl

-- The letters at the front of a line, and the names.

letter-none : (codes : List Cat) (c : ℕ) (rest : List ℕ) → category codes c ≡ Letter → reduction codes c rest ≡ None
letter-none codes c rest h = reduction-other codes c rest (ap is_superscript h)

not_letter : (kind : Cat) → kind ≢ Letter → is_letter kind ≡ false
not_letter Letter h = absurd (h refl)
not_letter _ h = refl

-- these are the letters of a line with these characters, and what is behind them
record Letters (codes : List Cat) (seen : List Seen) (name behind : List ℕ) : Type 0 where
  name_is : letters codes seen ≡ name
  behind_is : behind_letters codes seen ≡ behind

letters-along : {codes : List Cat} {seen seen' : List Seen} {name behind : List ℕ} → seen ≡ seen' → Letters codes seen' name behind → Letters codes seen name behind
letters-along {codes} same l = record { name_is = ap (letters codes) same ∙ l.name_is; behind_is = ap (behind_letters codes) same ∙ l.behind_is }

letters-letter : {codes : List Cat} (seen : Seen) (more : List Seen) {name behind : List ℕ} → is_letter (category codes seen.code) ≡ true → Letters codes more name behind → Letters codes (seen ∷ more) (seen.code ∷ name) behind
letters-letter {codes} seen more letter l = record {
  name_is = letters-more codes seen more letter ∙ ap (λ xs. seen.code ∷ xs) l.name_is;
  behind_is = ap unread (skip_while-dropped (λ s. is_letter (category codes s.code)) seen more letter) ∙ l.behind_is;
}

letters-other : (codes : List Cat) (seen : Seen) (more : List Seen) → is_letter (category codes seen.code) ≡ false → Letters codes (seen ∷ more) [] (seen.code ∷ seen.rest)
letters-other codes seen more other = record {
  name_is = letters-over codes seen more other;
  behind_is = ap unread (skip_while-kept (λ s. is_letter (category codes s.code)) seen more other);
}

letters-only : {codes : List Cat} {line name behind : List ℕ} → AreLetters codes line name behind → Letters codes (characters codes line) name behind
letters-only {codes} (NotationAmong {c = c} {rest = rest} {seen = seen} h d) = letters-along (characters-reduced codes c rest seen h) (letters-only d)
letters-only {codes} (OneMore {c = c} {rest = rest} h d) =
    letters-along (characters-plain codes c rest (letter-none codes c rest h)) (letters-letter _ _ (ap is_letter h) (letters-only d))
letters-only {codes} (NoMore {c = c} {rest = rest} none h) =
    letters-along (characters-plain codes c rest none) (letters-other codes _ _ (not_letter _ h))
letters-only {codes} NoneLeft = letters-along (characters-nil codes) (record { name_is = refl; behind_is = refl })

name-by : (codes : List Cat) (state : ReadState) (seen : Seen) (more : List Seen) (t : Bool) → is_letter (category codes seen.code) ≡ t → name_reading codes state (seen ∷ more) ≡ cond t (word_reading codes (seen ∷ more)) (Read (Name (seen.code ∷ [])) seen.rest (state_after (category codes seen.code)))
name-by codes state seen more t h =
    ap (λ t. cond t (word_reading codes (seen ∷ more)) (Read (Name (seen.code ∷ [])) seen.rest (state_after (category codes seen.code)))) h

name-word-by : (codes : List Cat) (state : ReadState) (seen : Seen) (more : List Seen) (c : ℕ) (name : List ℕ) (t : Bool) → is_letter (category codes seen.code) ≡ t → letters codes (seen ∷ more) ≡ c ∷ name → name_reading codes state (seen ∷ more) ≡ word_reading codes (seen ∷ more)
name-word-by codes state seen more c name true e h = name-by codes state seen more true e
name-word-by codes state seen more c name false e h = let none : letters codes (seen ∷ more) ≡ [] = letters-over codes seen more e in cc

name-word : (codes : List Cat) (state : ReadState) (seen : List Seen) (c : ℕ) (name behind : List ℕ) → Letters codes seen (c ∷ name) behind → Read (Name (c ∷ name)) behind S ≡ name_reading codes state seen
name-word codes state [] c name behind l = let h : letters codes [] ≡ c ∷ name = l.name_is in cc
name-word codes state (seen ∷ more) c name behind l =
    sym (name-word-by codes state seen more c name (is_letter (category codes seen.code)) refl l.name_is
    ∙ ap (λ n. Read (Name n) (behind_letters codes (seen ∷ more)) S) l.name_is
    ∙ ap (λ b. Read (Name (c ∷ name)) b S) l.behind_is)

name-one-by : (codes : List Cat) (state : ReadState) (seen : Seen) (more : List Seen) (c : ℕ) (rest : List ℕ) (t : Bool) → is_letter (category codes seen.code) ≡ t → Letters codes (seen ∷ more) [] (c ∷ rest) → Read (Name (c ∷ [])) rest (state_after (category codes c)) ≡ name_reading codes state (seen ∷ more)
name-one-by codes state seen more c rest true e l =
    let h : letters codes (seen ∷ more) ≡ [] = l.name_is in
    let some : letters codes (seen ∷ more) ≡ seen.code ∷ letters codes more = letters-more codes seen more e in
    cc
name-one-by codes state seen more c rest false e l =
    let other : Letters codes (seen ∷ more) [] (seen.code ∷ seen.rest) = letters-other codes seen more e in
    let same : seen.code ∷ seen.rest ≡ c ∷ rest = sym other.behind_is ∙ l.behind_is in
    let code_is : seen.code ≡ c = cc in
    let rest_is : seen.rest ≡ rest = cc in
    sym (name-by codes state seen more false e
    ∙ ap (λ d. Read (Name (d ∷ [])) seen.rest (state_after (category codes d))) code_is
    ∙ ap (λ r. Read (Name (c ∷ [])) r (state_after (category codes c))) rest_is)

name-one : (codes : List Cat) (state : ReadState) (seen : List Seen) (c : ℕ) (rest : List ℕ) → Letters codes seen [] (c ∷ rest) → Read (Name (c ∷ [])) rest (state_after (category codes c)) ≡ name_reading codes state seen
name-one codes state [] c rest l = let h : behind_letters codes [] ≡ c ∷ rest = l.behind_is in cc
name-one codes state (seen ∷ more) c rest l = name-one-by codes state seen more c rest (is_letter (category codes seen.code)) refl l

state_after-other : (kind : Cat) → kind ≢ Space → state_after kind ≡ M
state_after-other Space h = absurd (h refl)
state_after-other _ h = refl

name-only : {codes : List Cat} {state : ReadState} {line : List ℕ} {r : Reading} → IsName codes state line r → r ≡ name_reading codes state (characters codes line)
name-only {codes} {state} Empty = sym (ap (name_reading codes state) (characters-nil codes))
name-only {codes} {state} (Word a) = name-word codes state _ _ _ _ (letters-only a)
name-only {codes} {state} (OneBlank {c = c} {rest = rest} a is) =
    sym (ap (λ k. Read (Name (c ∷ [])) rest (state_after k)) is) ∙ name-one codes state _ _ _ (letters-only a)
name-only {codes} {state} (OneOther {c = c} {rest = rest} a other) =
    sym (ap (λ s. Read (Name (c ∷ [])) rest s) (state_after-other _ other)) ∙ name-one codes state _ _ _ (letters-only a)

-- no other reading follows the rules
pub reading-only : {codes : List Cat} {state : ReadState} {line : List ℕ} {r : Reading} → IsReading codes state line r → r ≡ reading codes state line
reading-only {codes} {state} (Notation {c = c} {rest = rest} {seen = seen} h d) = reading-only d ∙ sym (reading-notation codes state c rest seen h)
reading-only {codes} {state} NothingLeft = sym (reading-nil codes state)
reading-only {codes} {state} (IgnoredDrops {c = c} {rest = rest} h d) = reading-only d ∙ sym (dropped-by codes state c rest Ignored h refl refl)
reading-only {codes} (StartDrops {c = c} {rest = rest} h d) = reading-only d ∙ sym (dropped-by codes N c rest Space h refl refl)
reading-only {codes} (BlankDrops {c = c} {rest = rest} h d) = reading-only d ∙ sym (dropped-by codes S c rest Space h refl refl)
reading-only {codes} (Blank {c = c} {rest = rest} h) = sym (kept-by codes M c rest Space h refl refl)
reading-only {codes} (Paragraph {c = c} {rest = rest} h) = sym (kept-by codes N c rest EndOfLine h refl refl)
reading-only {codes} (EndBlank {c = c} {rest = rest} h) = sym (kept-by codes M c rest EndOfLine h refl refl)
reading-only {codes} (EndDrops {c = c} {rest = rest} h) = sym (kept-by codes S c rest EndOfLine h refl refl)
reading-only {codes} {state} (CommentDrops {c = c} {rest = rest} h) = sym (kept-by codes state c rest Comment h refl refl)
reading-only {codes} {state} (InvalidStops {c = c} {rest = rest} h) = sym (kept-by codes state c rest Invalid h refl refl)
reading-only {codes} {state} (EscapeNames {c = c} {rest = rest} h d) = name-only d ∙ sym (kept-by codes state c rest Escape h refl refl)
reading-only {codes} {state} (Plain {c = c} {rest = rest} none p) =
    sym (reading-kept codes state c rest (category codes c) refl none (plain-stays state _ p) ∙ plain-reading codes state _ _ _ p)

-- Each line has a reading by the rules: that of the function.

letters-at : {codes : List Cat} {line name name' behind behind' : List ℕ} → name ≡ name' → behind ≡ behind' → AreLetters codes line name behind → AreLetters codes line name' behind'
letters-at {codes} {line} {name} {name'} {behind} {behind'} n b a =
    subst (λ xs. AreLetters codes line name' xs) b (subst (λ xs. AreLetters codes line xs behind) n a)

-- the letters of a line by these characters
abbrev AreLettersIn : List Cat → List ℕ → List Seen → Type 0
AreLettersIn codes line seen = AreLetters codes line (letters codes seen) (behind_letters codes seen)

letter-is : (kind : Cat) → is_letter kind ≡ true → kind ≡ Letter
letter-is Letter h = refl
letter-is _ h = cc

letters-plain : (codes : List Cat) (c : ℕ) (rest : List ℕ) (t : Bool) → is_letter (category codes c) ≡ t → reduction codes c rest ≡ None → AreLettersIn codes rest (characters codes rest) → AreLettersIn codes (c ∷ rest) (record { code = c; rest = rest } ∷ characters codes rest)
letters-plain codes c rest true letter none a =
    let seen : Seen = record { code = c; rest = rest } in
    letters-at (sym (letters-more codes seen (characters codes rest) letter))
    (sym (ap unread (skip_while-dropped (λ s. is_letter (category codes s.code)) seen (characters codes rest) letter)))
    (OneMore (letter-is _ letter) a)
letters-plain codes c rest false other none a =
    let seen : Seen = record { code = c; rest = rest } in
    let l : Letters codes (seen ∷ characters codes rest) [] (c ∷ rest) = letters-other codes seen (characters codes rest) other in
    letters-at (sym l.name_is) (sym l.behind_is) (NoMore none (λ h. let yes : is_letter (category codes c) ≡ true = ap is_letter h in cc))

letters-first : (codes : List Cat) (c : ℕ) (rest : List ℕ) (r : Option Seen) → reduction codes c rest ≡ r → ((line : List ℕ) → length line ≤ length rest → AreLettersIn codes line (characters codes line)) → AreLettersIn codes (c ∷ rest) (characters codes (c ∷ rest))
letters-first codes c rest None none others =
    subst (AreLettersIn codes (c ∷ rest)) (sym (characters-plain codes c rest none))
    (letters-plain codes c rest (is_letter (category codes c)) refl none (others rest (omega arith)))
letters-first codes c rest (Some seen) some others =
    let l : length seen.rest + 2 ≤ length rest = length-reduction codes c rest seen some in
    subst (AreLettersIn codes (c ∷ rest)) (sym (characters-reduced codes c rest seen some))
    (NotationAmong some (others (seen.code ∷ seen.rest) (omega arith)))

letters-all : (n : ℕ) (codes : List Cat) (line : List ℕ) → length line ≤ n → AreLettersIn codes line (characters codes line)
letters-all n codes [] h = subst (AreLettersIn codes []) (sym (characters-nil codes)) NoneLeft
letters-all zero codes (c ∷ rest) h = absurd (omega arith)
letters-all (suc n) codes (c ∷ rest) h =
    letters-first codes c rest (reduction codes c rest) refl (λ line shorter. letters-all n codes line (omega arith))

-- the letters of a line that is not empty, or what is behind them, are not empty
not_both-empty : {codes : List Cat} {line name behind : List ℕ} → AreLetters codes line name behind → line ≢ [] → name ++ behind ≢ []
not_both-empty (NotationAmong h d) some = not_both-empty d (λ e. cc)
not_both-empty (OneMore h d) some = λ e. cc
not_both-empty (NoMore none h) some = λ e. cc
not_both-empty NoneLeft some = λ e. some refl

space_or : (kind : Cat) → (kind ≡ Space) ⊎ (kind ≢ Space)
space_or Space = inl refl
space_or _ = inr (λ h. cc)

name-one-is : (codes : List Cat) (state : ReadState) (line : List ℕ) (c : ℕ) (rest : List ℕ) → AreLetters codes line [] (c ∷ rest) → IsName codes state line (Read (Name (c ∷ [])) rest (state_after (category codes c)))
name-one-is codes state line c rest a = elim (space_or (category codes c)) [
  | inl is ↦ subst (λ k. IsName codes state line (Read (Name (c ∷ [])) rest (state_after k))) (sym is) (OneBlank a is)
  | inr other ↦ subst (λ s. IsName codes state line (Read (Name (c ∷ [])) rest s)) (sym (state_after-other _ other)) (OneOther a other)
]

name-first : (codes : List Cat) (state : ReadState) (line : List ℕ) (seen : Seen) (more : List Seen) (t : Bool) → is_letter (category codes seen.code) ≡ t → AreLettersIn codes line (seen ∷ more) → IsName codes state line (name_reading codes state (seen ∷ more))
name-first codes state line seen more true letter a =
    let word : name_reading codes state (seen ∷ more) ≡ Read (Name (seen.code ∷ letters codes more)) (behind_letters codes (seen ∷ more)) S =
    name-by codes state seen more true letter
    ∙ ap (λ n. Read (Name n) (behind_letters codes (seen ∷ more)) S) (letters-more codes seen more letter) in
    subst (IsName codes state line) (sym word) (Word (letters-at (letters-more codes seen more letter) refl a))
name-first codes state line seen more false other a =
    let l : Letters codes (seen ∷ more) [] (seen.code ∷ seen.rest) = letters-other codes seen more other in
    subst (IsName codes state line) (sym (name-by codes state seen more false other))
    (name-one-is codes state line seen.code seen.rest (letters-at l.name_is l.behind_is a))

name-in : (codes : List Cat) (state : ReadState) (line : List ℕ) (seen : List Seen) → line ≢ [] → AreLettersIn codes line seen → IsName codes state line (name_reading codes state seen)
name-in codes state line [] some a = absurd (not_both-empty a some refl)
name-in codes state line (seen ∷ more) some a = name-first codes state line seen more (is_letter (category codes seen.code)) refl a

name-all : (codes : List Cat) (state : ReadState) (line : List ℕ) → IsName codes state line (name_reading codes state (characters codes line))
name-all codes state [] = subst (λ seen. IsName codes state [] (name_reading codes state seen)) (sym (characters-nil codes)) Empty
name-all codes state (c ∷ rest) =
    name-in codes state (c ∷ rest) (characters codes (c ∷ rest)) (λ h. cc) (letters-all (length (c ∷ rest)) codes (c ∷ rest) (omega arith))

-- a reading of a line that is this one
reads-as : (codes : List Cat) (state : ReadState) (line : List ℕ) (r : Reading) → reading codes state line ≡ r → IsReading codes state line r → IsReading codes state line (reading codes state line)
reads-as codes state line r same d = subst (IsReading codes state line) (sym same) d

space-read : (codes : List Cat) (state : ReadState) (c : ℕ) (rest : List ℕ) → category codes c ≡ Space → IsReading codes state rest (reading codes state rest) → IsReading codes state (c ∷ rest) (reading codes state (c ∷ rest))
space-read codes N c rest is others = reads-as codes N _ _ (dropped-by codes N c rest Space is refl refl) (StartDrops is others)
space-read codes M c rest is others = reads-as codes M _ _ (kept-by codes M c rest Space is refl refl) (Blank is)
space-read codes S c rest is others = reads-as codes S _ _ (dropped-by codes S c rest Space is refl refl) (BlankDrops is others)

end-read : (codes : List Cat) (state : ReadState) (c : ℕ) (rest : List ℕ) → category codes c ≡ EndOfLine → IsReading codes state (c ∷ rest) (reading codes state (c ∷ rest))
end-read codes N c rest is = reads-as codes N _ _ (kept-by codes N c rest EndOfLine is refl refl) (Paragraph is)
end-read codes M c rest is = reads-as codes M _ _ (kept-by codes M c rest EndOfLine is refl refl) (EndBlank is)
end-read codes S c rest is = reads-as codes S _ _ (kept-by codes S c rest EndOfLine is refl refl) (EndDrops is)

plain-read : (codes : List Cat) (state : ReadState) (c : ℕ) (rest : List ℕ) → reduction codes c rest ≡ None → IsPlain (category codes c) → IsReading codes state (c ∷ rest) (reading codes state (c ∷ rest))
plain-read codes state c rest none p =
    reads-as codes state _ _
    (reading-kept codes state c rest (category codes c) refl none (plain-stays state _ p) ∙ plain-reading codes state _ _ _ p)
    (Plain none p)

category-read : (codes : List Cat) (state : ReadState) (c : ℕ) (rest : List ℕ) (kind : Cat) → category codes c ≡ kind → reduction codes c rest ≡ None → IsReading codes state rest (reading codes state rest) → IsReading codes state (c ∷ rest) (reading codes state (c ∷ rest))
category-read codes state c rest Escape is none others =
    reads-as codes state _ _ (kept-by codes state c rest Escape is refl refl) (EscapeNames is (name-all codes state rest))
category-read codes state c rest EndOfLine is none others = end-read codes state c rest is
category-read codes state c rest Ignored is none others =
    reads-as codes state _ _ (dropped-by codes state c rest Ignored is refl refl) (IgnoredDrops is others)
category-read codes state c rest Space is none others = space-read codes state c rest is others
category-read codes state c rest Comment is none others =
    reads-as codes state _ _ (kept-by codes state c rest Comment is refl refl) (CommentDrops is)
category-read codes state c rest Invalid is none others =
    reads-as codes state _ _ (kept-by codes state c rest Invalid is refl refl) (InvalidStops is)
category-read codes state c rest _ is none others = plain-read codes state c rest none (subst IsPlain (sym is) tt)

reading-front : (codes : List Cat) (state : ReadState) (c : ℕ) (rest : List ℕ) (r : Option Seen) → reduction codes c rest ≡ r → ((line : List ℕ) → length line ≤ length rest → IsReading codes state line (reading codes state line)) → IsReading codes state (c ∷ rest) (reading codes state (c ∷ rest))
reading-front codes state c rest None none others =
    category-read codes state c rest (category codes c) refl none (others rest (omega arith))
reading-front codes state c rest (Some seen) some others =
    let l : length seen.rest + 2 ≤ length rest = length-reduction codes c rest seen some in
    reads-as codes state _ _ (reading-notation codes state c rest seen some)
    (Notation some (others (seen.code ∷ seen.rest) (omega arith)))

reading-by : (n : ℕ) (codes : List Cat) (state : ReadState) (line : List ℕ) → length line ≤ n → IsReading codes state line (reading codes state line)
reading-by n codes state [] h = reads-as codes state _ _ (reading-nil codes state) NothingLeft
reading-by zero codes state (c ∷ rest) h = absurd (omega arith)
reading-by (suc n) codes state (c ∷ rest) h =
    reading-front codes state c rest (reduction codes c rest) refl (λ line shorter. reading-by n codes state line (omega arith))

-- the reading of a line follows the rules
pub reading-follows : (codes : List Cat) (state : ReadState) (line : List ℕ) → IsReading codes state line (reading codes state line)
reading-follows codes state line = reading-by (length line) codes state line (omega arith)
