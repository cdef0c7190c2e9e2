-- Files that are fetched one after the other, from a source that tells what it holds or doesn't.
use Rattle.std.proofs.Common.{◌≡◌, ℕ, ◌<◌, ◌||◌, ◌&&◌, not, zero, suc, Bool, true, false, cond, List, [], ◌∷◌, ◌++◌, length, take, Option, Some, None, refl, sym, ap, ap₂, ◌∙◌, subst, arith, slice_index_or}
use Rattle.std.specs.List.{list_any}
use Rattle.std.specs.Str.{bytes_eq}
use Rattle.std.specs.Cmp.Lexicographic.{nat_list_cmp_total}
use Rattle.std.specs.FinMap.{empty, insert, get-empty, get-insert}
use Rattle.std.proofs.lemmas.List.Folds.{list_any-append}
use Rattle.std.proofs.lemmas.Map.Text.{is_eq-slice_cmp}
use Rattle.std.proofs.lemmas.Slice.Eq.{bytes_eq-Decides}
use Rattle.tx_bytes.specs.Files.{Files, content}
use Rattle.tx_words.specs.Values.{are_distinct}
use Rattle.tx_call.specs.Outcome.{with_file, with_listed, ForHeld}
use Rattle.tx_call.specs.Fetching.{Fetches}

-- one of the names is this one
abbrev pub is_among : List ℕ → List (List ℕ) → Bool
is_among name names = list_any (λ other. bytes_eq other name) names

neither : {a b : Bool} → (a || b) ≡ false → (a ≡ false) × (b ≡ false)
neither {a = true} h = absurd (let no : true ≡ false = h in cc)
neither {a = false} h = (refl, h)

-- what another name holds stays
content-other : (files : Files) (name bytes other : List ℕ) → bytes_eq other name ≡ false → content (insert files name bytes) other ≡ content files other
content-other files name bytes other apart =
    get-insert nat_list_cmp_total files name bytes other ∙ ap (λ b. cond b (Some bytes) (content files other)) (is_eq-slice_cmp other name ∙ apart)

pub content-same : (files : Files) (name bytes : List ℕ) → content (insert files name bytes) name ≡ Some bytes
content-same files name bytes =
    get-insert nat_list_cmp_total files name bytes name ∙ ap (λ b. cond b (Some bytes) (content files name)) (is_eq-slice_cmp name name ∙ (bytes_eq-Decides name name).1 refl)

listed-append : (held files : Files) (names : List (List ℕ)) (name : List ℕ) → with_listed held files (names ++ name ∷ []) ≡ with_file (with_listed held files names) name (content held name)
listed-append held files [] name = refl
listed-append held files (first ∷ names) name = listed-append held (with_file files first (content held first)) names name

-- a file of another name doesn't matter to the listed ones
listed-other : (held files : Files) (name bytes : List ℕ) (names : List (List ℕ)) → is_among name names ≡ false → with_listed (insert held name bytes) files names ≡ with_listed held files names
listed-other held files name bytes [] none = refl
listed-other held files name bytes (first ∷ names) none =
    ap (λ found. with_listed (insert held name bytes) (with_file files first found) names) (content-other held name bytes first (neither none).0)
    ∙ listed-other held (with_file files first (content held first)) name bytes names (neither none).1

-- the files of these names were fetched; where the source tells nothing, it may be taken to hold just these
abbrev pub AreFetched : Option Files → List (List ℕ) → Files → Type 0
AreFetched (Some held) names files = files ≡ with_listed held empty names
AreFetched None names files = (files ≡ with_listed files empty names) × ((other : List ℕ) → is_among other names ≡ false → content files other ≡ None)

pub none_fetched : (holds : Option Files) (files : Files) → files ≡ empty → AreFetched holds [] files
none_fetched (Some held) files none = none
none_fetched None files none = (none, λ other _. ap (λ f. content f other) none ∙ get-empty _ other)

not_before : (names : List (List ℕ)) (name other : List ℕ) → is_among other (names ++ name ∷ []) ≡ false → (is_among other names ≡ false) × (bytes_eq name other ≡ false)
not_before names name other none =
    let parts = neither (sym (list_any-append (λ n. bytes_eq n other) names (name ∷ [])) ∙ none) in
    (parts.0, (neither parts.1).0)

turned : (a b : List ℕ) → bytes_eq a b ≡ false → bytes_eq b a ≡ false
turned a b apart = go (bytes_eq b a) refl
  where
    go : (c : Bool) → bytes_eq b a ≡ c → c ≡ false
    go false is = refl
    go true is = absurd (let no : true ≡ false = sym ((bytes_eq-Decides a b).1 (sym ((bytes_eq-Decides b a).0 is))) ∙ apart in cc)

untold_more : (names : List (List ℕ)) (name : List ℕ) (answer : Option (List ℕ)) (files files' : Files) → is_among name names ≡ false → files' ≡ with_file files name answer → AreFetched None names files
    → AreFetched None (names ++ name ∷ []) files'
untold_more names name None files files' new are (listed, others) =
    let same : with_file (with_listed files empty names) name (content files name) ≡ files = ap (with_file (with_listed files empty names) name) (others name new) ∙ sym listed in
    subst (AreFetched None (names ++ name ∷ [])) (sym are)
    (sym (listed-append files empty names name ∙ same), λ other none. others other (not_before names name other none).0)
untold_more names name (Some bytes) files files' new are (listed, others) =
    let more = insert files name bytes in
    let all : with_listed more empty (names ++ name ∷ []) ≡ more =
    listed-append more empty names name ∙ ap₂ (λ f found. with_file f name found) (listed-other files empty name bytes names new ∙ sym listed) (content-same files name bytes) in
    subst (AreFetched None (names ++ name ∷ [])) (sym are)
    (sym all, λ other none. content-other files name bytes other (turned name other (not_before names name other none).1) ∙ others other (not_before names name other none).0)

-- one more was fetched
pub one_more : (holds : Option Files) (names : List (List ℕ)) (name : List ℕ) (files files' : Files) → is_among name names ≡ false → AreFetched holds names files → Fetches holds files name files'
    → AreFetched holds (names ++ name ∷ []) files'
one_more (Some held) names name files files' new fetched one =
    one.files_are ∙ ap₂ (λ f found. with_file f name found) fetched (sym one.are_told) ∙ sym (listed-append held empty names name)
one_more None names name files files' new fetched one = untold_more names name one.answer files files' new one.files_are fetched

-- all were
pub all_fetched : (holds : Option Files) (names : List (List ℕ)) (files : Files) → AreFetched holds names files → ForHeld holds (λ held. files ≡ with_listed held empty names)
all_fetched (Some held) names files fetched = record { held = held; are_told = refl; so = fetched }
all_fetched None names files fetched = record { held = files; are_told = tt; so = fetched.0 }

both_true : {a b : Bool} → (not a && b) ≡ true → (a ≡ false) × (b ≡ true)
both_true {a = true} h = absurd (let no : false ≡ true = h in cc)
both_true {a = false} h = (refl, h)

none_at : (text : List ℕ) (texts : List (List ℕ)) (j : ℕ) (d : List ℕ) → list_any (bytes_eq text) texts ≡ false → j < length texts → bytes_eq text (slice_index_or texts j d) ≡ false
none_at text [] j d none lt = absurd (omega arith)
none_at text (first ∷ texts) zero d none lt = (neither none).0
none_at text (first ∷ texts) (suc j) d none lt = none_at text texts j d (neither none).1 (omega arith)

-- distinct names: none is among those before it
pub not_among : (names : List (List ℕ)) (k : ℕ) (d : List ℕ) → are_distinct names ≡ true → k < length names → is_among (slice_index_or names k d) (take k names) ≡ false
not_among [] k d apart lt = absurd (omega arith)
not_among (first ∷ names) zero d apart lt = refl
not_among (first ∷ names) (suc k) d apart lt =
    ap₂ (λ a b. a || b) (none_at first names k d (both_true apart).0 (omega arith)) (not_among names k d (both_true apart).1 (omega arith))

pub not_among_item : (names : List (List ℕ)) (k : ℕ) (name : List ℕ) → are_distinct names ≡ true → k < length names → name ≡ slice_index_or names k name → is_among name (take k names) ≡ false
not_among_item names k name apart lt is = ap (λ n. is_among n (take k names)) is ∙ not_among names k name apart lt
