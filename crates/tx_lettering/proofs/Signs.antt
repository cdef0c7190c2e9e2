-- The words of a text, read from the front on.
use Rattle.std.proofs.Common.{◌≡◌, ℕ, Bool, List, [], ◌∷◌, ◌++◌, Option, None, Some, refl, sym, ap, ◌∙◌}
use Rattle.std.specs.Prelude.{IfSome, option_map}
use Rattle.std.proofs.lemmas.List.{append-nil, append_assoc}
use Rattle.tx_char.specs.declared.tokens.Token.{Token}
use Rattle.tx_eqtb.specs.declared.table.Table.{Table}
use Rattle.tx_eqtb.specs.Table.{token_meaning}
use Rattle.tx_lettering.specs.declared.hyphens.TextSign.{TextSign}
use Rattle.tx_lettering.specs.declared.hyphens.TextSign.TheVariants.{Letter, Blank, Wrong}
use Rattle.tx_lettering.specs.Hyphens.{sign_of, with_sign, words_of}

-- words with the first of others behind one that is open
abbrev pub joined : List ℕ → List (List ℕ) → List (List ℕ)
joined begun [] = begun ∷ []
joined begun (word ∷ words) = (begun ++ word) ∷ words

abbrev pub led : List (List ℕ) → List ℕ → List (List ℕ) → List (List ℕ)
led words begun behind = words ++ joined begun behind

-- a text has at least one word
abbrev pub IsFull : Option (List (List ℕ)) → Type 0
IsFull words = IfSome words (λ (rest : List (List ℕ)). joined [] rest ≡ rest)

full-sign : (sign : TextSign) (words : Option (List (List ℕ))) → IsFull (with_sign sign words)
full-sign sign None = tt
full-sign (Letter code) (Some []) = refl
full-sign (Letter code) (Some (word ∷ words)) = refl
full-sign Blank (Some words) = refl
full-sign Wrong (Some words) = tt

pub full : (table : Table) (numbers : Bool) (tokens : List Token) → IsFull (words_of table numbers tokens)
full table numbers [] = refl
full table numbers (token ∷ tokens) = full-sign (sign_of numbers (token_meaning table token)) (words_of table numbers tokens)

-- a letter more
pub on-letter : (words : List (List ℕ)) (begun : List ℕ) (code : ℕ) (behind : Option (List (List ℕ)))
    → option_map (led words (begun ++ code ∷ [])) behind ≡ option_map (led words begun) (with_sign (Letter code) behind)
on-letter words begun code None = refl
on-letter words begun code (Some []) = refl
on-letter words begun code (Some (word ∷ more)) = ap (λ (first : List ℕ). Some (words ++ first ∷ more)) (append_assoc begun (code ∷ []) word)

-- a blank ends the word
pub on-blank : (words : List (List ℕ)) (begun : List ℕ) (behind : Option (List (List ℕ))) → IsFull behind
    → option_map (led (words ++ begun ∷ []) []) behind ≡ option_map (led words begun) (with_sign Blank behind)
on-blank words begun None some = refl
on-blank words begun (Some rest) some =
    ap Some
    (append_assoc words (begun ∷ []) (joined [] rest)
    ∙ ap (λ (more : List (List ℕ)). words ++ begun ∷ more) some
    ∙ ap (λ (first : List ℕ). words ++ first ∷ rest) (sym (append-nil begun)))

-- a token that may not stand there
on-wrong : (words : List (List ℕ)) (begun : List ℕ) (behind : Option (List (List ℕ))) → option_map (led words begun) (with_sign Wrong behind) ≡ None
on-wrong words begun None = refl
on-wrong words begun (Some rest) = refl

-- what is left begins with a token that is this sign
led-by : (table : Table) (numbers : Bool) (words : List (List ℕ)) (begun : List ℕ) (token : Token) (here rest all : List Token) (sign : TextSign)
    → here ≡ token ∷ rest → sign_of numbers (token_meaning table token) ≡ sign
    → option_map (led words begun) (words_of table numbers here) ≡ words_of table numbers all
    → option_map (led words begun) (with_sign sign (words_of table numbers rest)) ≡ words_of table numbers all
led-by table numbers words begun token here rest all sign is means so_far =
    ap (λ (s : TextSign). option_map (led words begun) (with_sign s (words_of table numbers rest))) (sym means)
    ∙ ap (λ (ts : List Token). option_map (led words begun) (words_of table numbers ts)) (sym is)
    ∙ so_far

pub after-letter : (table : Table) (numbers : Bool) (words : List (List ℕ)) (begun : List ℕ) (token : Token) (here rest all : List Token) (code : ℕ)
    → here ≡ token ∷ rest → sign_of numbers (token_meaning table token) ≡ Letter code
    → option_map (led words begun) (words_of table numbers here) ≡ words_of table numbers all
    → option_map (led words (begun ++ code ∷ [])) (words_of table numbers rest) ≡ words_of table numbers all
after-letter table numbers words begun token here rest all code is means so_far =
    on-letter words begun code (words_of table numbers rest) ∙ led-by table numbers words begun token here rest all (Letter code) is means so_far

pub after-blank : (table : Table) (numbers : Bool) (words : List (List ℕ)) (begun : List ℕ) (token : Token) (here rest all : List Token)
    → here ≡ token ∷ rest → sign_of numbers (token_meaning table token) ≡ Blank
    → option_map (led words begun) (words_of table numbers here) ≡ words_of table numbers all
    → option_map (led (words ++ begun ∷ []) []) (words_of table numbers rest) ≡ words_of table numbers all
after-blank table numbers words begun token here rest all is means so_far =
    on-blank words begun (words_of table numbers rest) (full table numbers rest) ∙ led-by table numbers words begun token here rest all Blank is means so_far

pub at-wrong : (table : Table) (numbers : Bool) (words : List (List ℕ)) (begun : List ℕ) (token : Token) (here rest all : List Token)
    → here ≡ token ∷ rest → sign_of numbers (token_meaning table token) ≡ Wrong
    → option_map (led words begun) (words_of table numbers here) ≡ words_of table numbers all
    → None ≡ words_of table numbers all
at-wrong table numbers words begun token here rest all is means so_far =
    sym (on-wrong words begun (words_of table numbers rest)) ∙ led-by table numbers words begun token here rest all Wrong is means so_far

-- nothing is read yet
pub at-first : (table : Table) (numbers : Bool) (all : List Token) → option_map (led [] []) (words_of table numbers all) ≡ words_of table numbers all
at-first table numbers all = by (words_of table numbers all) (full table numbers all)
  where
    by : (behind : Option (List (List ℕ))) → IsFull behind → option_map (led [] []) behind ≡ behind
    by None some = refl
    by (Some rest) some = ap Some some

-- all is read
pub at-last : (table : Table) (numbers : Bool) (words : List (List ℕ)) (begun : List ℕ) (here all : List Token)
    → here ≡ []
    → option_map (led words begun) (words_of table numbers here) ≡ words_of table numbers all
    → Some (words ++ begun ∷ []) ≡ words_of table numbers all
at-last table numbers words begun here all is so_far =
    ap (λ (first : List ℕ). Some (words ++ first ∷ [])) (sym (append-nil begun))
    ∙ ap (λ (ts : List Token). option_map (led words begun) (words_of table numbers ts)) (sym is)
    ∙ so_far
