-- Keywords (The TeXbook, chapter 24; TeX: The Program, section 407).
use Rattle.std.specs.Prelude.{◌≡◌, ◌⊎◌, ◌+◌, ◌<◌, length, ℕ, zero, suc, ◌++◌, ◌∷◌, [], ◌&&◌, Bool, true, false, not, List, drop, if◌then◌else◌}
use Rattle.tx_seen.specs.declared.fed.Want.TheVariants.{Expanded}
use Rattle.tx_seen.specs.declared.fed.Fed.{Fed}
use Rattle.tx_seen.specs.declared.fed.Fed.TheVariants as fed
use Rattle.tx_seen.specs.declared.seen.Seen.{Seen}
use Rattle.tx_seen.specs.Seen.{is_space, is_key, is_undefined}
use Rattle.tx_seen.specs.declared.item.Item.{Item}
use Rattle.tx_seen.specs.declared.item.Item.TheVariants.{Took, Gave}
use Rattle.tx_seen.specs.Readings.{Reading, More, Done}
use Rattle.tx_scan.specs.declared.scans.KeyScan.{KeyScan}
use Rattle.tx_scan.specs.Integers.{expanded}
use Rattle.tx_scan.specs.Rests.{HasTakenBy}

-- these letters one by one; where they break off, the tokens from the first letter on are given back
abbrev pub letters : List ℕ → List Item → List Item → Reading Bool
letters [] whole items = Done true items
letters (c ∷ word) whole [] = More Expanded
letters (c ∷ word) whole (Gave v ∷ rest) = Done false whole
letters (c ∷ word) whole (Took t ∷ rest) = expanded t (if is_key c t then letters word whole rest else Done false whole)

-- whether a word begins with this token
abbrev pub begins_with : List ℕ → Seen → Bool
begins_with [] t = true
begins_with (c ∷ word) t = is_key c t

-- a word of small letters, with spaces before it, which are gone whatever follows; a space that is its first letter
-- is none
abbrev pub keyword : List ℕ → List Item → Reading Bool
keyword word [] = letters word [] []
keyword word (Gave v ∷ rest) = letters word (Gave v ∷ rest) (Gave v ∷ rest)
keyword word (Took t ∷ rest) =
    if is_space t && not (begins_with word t) then keyword word rest else letters word (Took t ∷ rest) (Took t ∷ rest)

-- whether a token is a space before a word of which so many letters are read
abbrev pub skips : List ℕ → ℕ → Seen → Bool
skips word zero t = is_space t && not (begins_with word t)
skips word (suc read) t = false

-- the rest of a word of which so many letters are read, which are these tokens
abbrev pub word_rest : List ℕ → ℕ → List Item → Item → List Item → Reading Bool
word_rest word zero behind item more = keyword word (item ∷ more)
word_rest word (suc read) behind item more = letters (drop (suc read) word) (behind ++ item ∷ more) (item ∷ more)

abbrev pub rest : List ℕ → KeyScan → List Item → Item → List Item → Reading Bool
rest word scan behind item more = word_rest word scan.read behind item more

-- the letters that are read may be given back
abbrev pub held : KeyScan → ℕ
held scan = scan.read

-- the scan that has taken these items reads on as the word that begins with them
abbrev pub HasTaken : List ℕ → KeyScan → List Item → Type 0
HasTaken word scan taken = HasTakenBy (rest word) held (keyword word) scan taken

-- the scan of a word of which nothing is read
abbrev pub begun_word : KeyScan
begun_word = record { read = 0 }

-- behind a part of a word, which goes on only as long as letters are left: the whole word is there at its last letter
abbrev pub IsReadOn : List ℕ → KeyScan → Fed Bool → Type 0
IsReadOn word scan (fed.More want) = scan.read < length word
IsReadOn word scan (fed.Need kind) = ⊥
IsReadOn word scan (fed.Done true back) = back ≡ 0
IsReadOn word scan (fed.Done false back) = Unit {0}
IsReadOn word scan (fed.Wrong error) = Unit {0}

-- one more token either is a space before the word or its next letter, or the word breaks off, and what is read of it is
-- given back
abbrev pub IsGone : List ℕ → KeyScan → Seen → KeyScan → Fed Bool → Type 0
IsGone word old t new (fed.More want) = old.read ≡ 0 → (new.read ≡ 0) ⊎ (begins_with word t ≡ true)
IsGone word old t new (fed.Need kind) = ⊥
IsGone word old t new (fed.Done true back) = Unit {0}
IsGone word old t new (fed.Done false back) = back ≡ old.read + 1
IsGone word old t new (fed.Wrong error) = Unit {0}

-- a token is the next letter of a word of which so many are read
abbrev pub Spells : List ℕ → ℕ → Seen → Type 0
Spells word read t = (is_undefined t ≡ false) × ((c : ℕ) × ((drop read word ≡ c ∷ drop (read + 1) word) × (is_key c t ≡ true)))

-- one more token with which a word goes on is a space before it, or its next letter
abbrev pub IsSpelled : List ℕ → KeyScan → Seen → KeyScan → Fed Bool → Type 0
IsSpelled word old t new (fed.More want) = ((old.read ≡ 0) × (new.read ≡ 0)) ⊎ ((new.read ≡ old.read + 1) × Spells word old.read t)
IsSpelled word old t new (fed.Need kind) = ⊥
IsSpelled word old t new (fed.Done found back) = Unit {0}
IsSpelled word old t new (fed.Wrong error) = Unit {0}
