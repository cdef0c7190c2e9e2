-- One more token behind the letters of a word.
use Rattle.std.proofs.Common.{◌≡◌, ℕ, zero, suc, ◌+◌, ◌≤◌, Bool, true, false, ◌&&◌, not, List, [], ◌∷◌, ◌++◌, length, drop, refl, ap, sym, ◌∙◌, append_assoc, add-one, arith, length-append}
use Rattle.tx_seen.specs.declared.fed.Want.TheVariants.{Expanded}
use Rattle.tx_seen.specs.declared.error.TexError.TheVariants.{Undefined}
use Rattle.tx_seen.specs.declared.seen.Seen.{Seen}
use Rattle.tx_seen.specs.Seen.{is_space, is_key, is_undefined}
use Rattle.tx_seen.specs.declared.item.Item.{Item}
use Rattle.tx_seen.specs.declared.item.Item.TheVariants.{Took}
use Rattle.tx_seen.specs.Readings.{More, Done, Wrong, ending}
use Rattle.tx_scan.specs.declared.scans.KeyScan.{KeyScan}
use Rattle.tx_scan.specs.Keywords.{keyword, letters, begins_with, skips, word_rest, rest}
use Rattle.tx_scan.proofs.Answering.{ending-one, ending-all}

-- a token that is no space before the word is read with its letters
reads-letter : (word : List ℕ) (read : ℕ) (behind : List Item) (t : Seen) (more : List Item) → length behind ≤ read → skips word read t ≡ false → word_rest word read behind (Took t) more ≡ letters (drop read word) (behind ++ Took t ∷ more) (Took t ∷ more)
reads-letter word zero [] t more h s = rw s refl
reads-letter word zero (i ∷ behind) t more h s = absurd (omega arith)
reads-letter word (suc read) behind t more h s = refl

-- all held tokens and one more
all-held : (read : ℕ) (behind : List Item) (t : Seen) → length behind ≤ read → ending (read + 1) (behind ++ Took t ∷ []) ≡ behind ++ Took t ∷ []
all-held read behind t h =
    let e : length (behind ++ Took t ∷ []) ≡ length behind + 1 = length-append behind (Took t ∷ []) in
    ending-all (read + 1) (behind ++ Took t ∷ []) (omega arith)

-- the word was over before
pub no-letter : (word : List ℕ) (scan : KeyScan) (behind : List Item) (t : Seen) → length behind ≤ scan.read → skips word scan.read t ≡ false → drop scan.read word ≡ [] → (more : List Item) → rest word scan behind (Took t) more ≡ Done true (ending 1 (behind ++ Took t ∷ []) ++ more)
no-letter word scan behind t h s e = λ more. reads-letter word scan.read behind t more h s ∙ rw (e, ending-one behind (Took t)) refl

-- a name without a meaning
pub undefined-letter : (word : List ℕ) (scan : KeyScan) (behind : List Item) (t : Seen) (c : ℕ) → length behind ≤ scan.read → skips word scan.read t ≡ false → drop scan.read word ≡ c ∷ drop (scan.read + 1) word → is_undefined t ≡ true → (more : List Item) → rest word scan behind (Took t) more ≡ Wrong Undefined
undefined-letter word scan behind t c h s e u = λ more. reads-letter word scan.read behind t more h s ∙ rw (e, u) refl

-- another letter
pub other-letter : (word : List ℕ) (scan : KeyScan) (behind : List Item) (t : Seen) (c : ℕ) → length behind ≤ scan.read → skips word scan.read t ≡ false → drop scan.read word ≡ c ∷ drop (scan.read + 1) word → is_undefined t ≡ false → is_key c t ≡ false → (more : List Item) → rest word scan behind (Took t) more ≡ Done false (ending (scan.read + 1) (behind ++ Took t ∷ []) ++ more)
other-letter word scan behind t c h s e u k = λ more.
    reads-letter word scan.read behind t more h s
    ∙ rw (e, u, k, all-held scan.read behind t h) (ap (λ (items : List Item). Done false items) (sym (append_assoc behind (Took t ∷ []) more)))

right-letter : (word : List ℕ) (scan : KeyScan) (behind : List Item) (t : Seen) (c : ℕ) (more : List Item) → length behind ≤ scan.read → skips word scan.read t ≡ false → drop scan.read word ≡ c ∷ drop (scan.read + 1) word → is_undefined t ≡ false → is_key c t ≡ true → rest word scan behind (Took t) more ≡ letters (drop (scan.read + 1) word) (behind ++ Took t ∷ more) more
right-letter word scan behind t c more h s e u k = reads-letter word scan.read behind t more h s ∙ rw (e, u, k) refl

-- a letter before it
pub early-letter : (word : List ℕ) (scan : KeyScan) (behind : List Item) (t : Seen) (c d : ℕ) (left : List ℕ) → length behind ≤ scan.read → skips word scan.read t ≡ false → drop scan.read word ≡ c ∷ drop (scan.read + 1) word → is_undefined t ≡ false → is_key c t ≡ true → drop (scan.read + 1) word ≡ d ∷ left → rest word scan behind (Took t) [] ≡ More Expanded
early-letter word scan behind t c d left h s e u k f = right-letter word scan behind t c [] h s e u k ∙ rw f refl

rest-push : (word : List ℕ) (read : ℕ) (behind : List Item) (item : Item) (more : List Item) → word_rest word (read + 1) behind item more ≡ letters (drop (read + 1) word) (behind ++ item ∷ more) (item ∷ more)
rest-push word read behind item more = rw add-one refl

pub has-letter : (word : List ℕ) (scan : KeyScan) (behind : List Item) (t : Seen) (c : ℕ) → length behind ≤ scan.read → skips word scan.read t ≡ false → drop scan.read word ≡ c ∷ drop (scan.read + 1) word → is_undefined t ≡ false → is_key c t ≡ true → (item : Item) (more : List Item) → rest word scan behind (Took t) (item ∷ more) ≡ word_rest word (scan.read + 1) (ending (scan.read + 1) (behind ++ Took t ∷ [])) item more
has-letter word scan behind t c h s e u k = λ item more.
    right-letter word scan behind t c (item ∷ more) h s e u k
    ∙ ap (λ (whole : List Item). letters (drop (scan.read + 1) word) whole (item ∷ more)) (sym (append_assoc behind (Took t ∷ []) (item ∷ more)))
    ∙ sym (rest-push word scan.read (behind ++ Took t ∷ []) item more)
    ∙ ap (λ (tokens : List Item). word_rest word (scan.read + 1) tokens item more) (sym (all-held scan.read behind t h))

-- a space before the word
space-first : (word : List ℕ) (t : Seen) (b s : Bool) → begins_with word t ≡ b → (s && not b) ≡ true → b ≡ false
space-first word t false s e h = refl
space-first word t true true e h = absurd (cc)
space-first word t true false e h = absurd (cc)

word-more : (word : List ℕ) (t : Seen) → begins_with word t ≡ false → letters word [] [] ≡ More Expanded
word-more [] t h = absurd (cc)
word-more (c ∷ word) t h = refl

skipped-by : (word : List ℕ) (read : ℕ) (behind : List Item) (t : Seen) (more : List Item) → skips word read t ≡ true → word_rest word read behind (Took t) more ≡ keyword word more
skipped-by word zero behind t more s = rw s refl
skipped-by word (suc read) behind t more s = absurd (cc)

skipped-more : (word : List ℕ) (read : ℕ) (t : Seen) → skips word read t ≡ true → keyword word [] ≡ More Expanded
skipped-more word zero t s = word-more word t (space-first word t (begins_with word t) (is_space t) refl s)
skipped-more word (suc read) t s = absurd (cc)

pub skipped-none : (word : List ℕ) (read : ℕ) (t : Seen) → skips word read t ≡ true → read ≡ 0
skipped-none word zero t s = refl
skipped-none word (suc read) t s = absurd (cc)

pub skipped-space : (word : List ℕ) (scan : KeyScan) (behind : List Item) (t : Seen) → skips word scan.read t ≡ true → rest word scan behind (Took t) [] ≡ More Expanded
skipped-space word scan behind t s = skipped-by word scan.read behind t [] s ∙ skipped-more word scan.read t s

pub has-skipped : (word : List ℕ) (scan : KeyScan) (behind tokens : List Item) (t : Seen) → skips word scan.read t ≡ true → (item : Item) (more : List Item) → rest word scan behind (Took t) (item ∷ more) ≡ word_rest word scan.read tokens item more
has-skipped word scan behind tokens t s = λ item more.
    skipped-by word scan.read behind t (item ∷ more) s
    ∙ ap (λ (read : ℕ). word_rest word read tokens item more) (sym (skipped-none word scan.read t s))
