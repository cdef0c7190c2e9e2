-- What the first character that is not dropped gives, by its category.
use Rattle.std.proofs.Common.{◌≡◌, ◌≢◌, ℕ, List, [], Result, Ok, Err, drop, refl, ap, sym, subst, ◌∙◌, IfOk}
use Rattle.std.specs.declared.alloc.AllocError.{AllocError}
use Rattle.tx_char.specs.declared.category.Cat.{Cat}
use Rattle.tx_char.specs.declared.category.Cat.TheVariants.{Escape, EndOfLine, Space, Comment, Invalid}
use Rattle.tx_char.specs.declared.tokens.Token.TheVariants.{Character}
use Rattle.tx_char.specs.Category.{category}
use Rattle.tx_lex.specs.declared.types.Lexed.{Lexed}
use Rattle.tx_lex.specs.declared.types.ReadState.{ReadState}
use Rattle.tx_lex.specs.declared.types.ReadState.TheVariants.{M}
use Rattle.tx_lex.specs.declared.types.Character as found
use Rattle.tx_lex.specs.Characters.{characters}
use Rattle.tx_lex.specs.Notation.{Seen}
use Rattle.tx_lex.specs.Reading.{Reading, Read, Nothing, category_reading, first_reading, kept, meant, reading}
use Rattle.tx_lex.specs.Rules.{IsReading}
use Rattle.tx_lex.specs.Steps.{IsKeptFrom, seen_at}
use Rattle.tx_lex.proofs.RuleLaws.{reading-follows}

-- the reading of a line is what its first kept character gives
pub reading-first : {codes : List Cat} {state : ReadState} {line bytes : List ℕ} {first : found.Character} → IsKeptFrom codes state line bytes first → (kind : Cat) → kind ≡ category codes first.code → category_reading codes state (seen_at bytes first) (characters codes (drop first.next bytes)) kind ≡ reading codes state line
unfolding reading
reading-first {codes} {state} {line} {bytes} {first} r kind is =
    ap (category_reading codes state (seen_at bytes first) (characters codes (drop first.next bytes))) is
    ∙ sym (ap (first_reading codes state) r.first)

-- where all are dropped there is nothing
pub reading-nothing : (codes : List Cat) (state : ReadState) (line : List ℕ) → kept codes state line ≡ [] → Nothing ≡ reading codes state line
unfolding reading
reading-nothing codes state line none = sym (ap (first_reading codes state) none)

-- an answer that means what is read
pub meaning-along : (bytes : List ℕ) {r r' : Reading} (answer : Result Lexed AllocError) → r ≡ r' → IfOk answer (λ lexed. meant bytes lexed ≡ r) → IfOk answer (λ lexed. meant bytes lexed ≡ r')
meaning-along bytes (Ok lexed) same h = h ∙ same
meaning-along bytes (Err e) same h = h

-- a character of each other category is a token itself
category_reading-plain : (codes : List Cat) (state : ReadState) (seen : Seen) (more : List Seen) (kind : Cat) → kind ≢ Escape → kind ≢ EndOfLine → kind ≢ Space → kind ≢ Comment → kind ≢ Invalid → Read (Character seen.code kind) seen.rest M ≡ category_reading codes state seen more kind
category_reading-plain codes state seen more Escape a b c d e = absurd (a refl)
category_reading-plain codes state seen more EndOfLine a b c d e = absurd (b refl)
category_reading-plain codes state seen more Space a b c d e = absurd (c refl)
category_reading-plain codes state seen more Comment a b c d e = absurd (d refl)
category_reading-plain codes state seen more Invalid a b c d e = absurd (e refl)
category_reading-plain codes state seen more _ a b c d e = refl

pub reading-plain : {codes : List Cat} {state : ReadState} {line bytes : List ℕ} {first : found.Character} → IsKeptFrom codes state line bytes first → (kind : Cat) → kind ≡ category codes first.code → kind ≢ Escape → kind ≢ EndOfLine → kind ≢ Space → kind ≢ Comment → kind ≢ Invalid → Read (Character first.code kind) (drop first.next bytes) M ≡ reading codes state line
reading-plain {codes} {state} {line} {bytes} {first} r kind is a b c d e =
    category_reading-plain codes state (seen_at bytes first) (characters codes (drop first.next bytes)) kind a b c d e ∙ reading-first r kind is

-- an answer that means what is read follows the rules
pub rules-along : (codes : List Cat) (state : ReadState) (bytes : List ℕ) (answer : Result Lexed AllocError) → IfOk answer (λ lexed. meant bytes lexed ≡ reading codes state bytes) → IfOk answer (λ lexed. IsReading codes state bytes (meant bytes lexed))
rules-along codes state bytes (Ok lexed) h = subst (IsReading codes state bytes) (sym h) (reading-follows codes state bytes)
rules-along codes state bytes (Err e) h = h
