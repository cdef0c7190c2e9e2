-- What \font takes, one token by the part that it comes to.
use Rattle.std.proofs.Common.{◌≡◌, ◌≤◌, ◌<◌, ◌+◌, inl, inr, ℕ, ℤ, zero, suc, Bool, true, false, if◌then◌else◌, List, [], ◌∷◌, ◌++◌, Result, Ok, Err, IfOk, codes, length, length-append, append_assoc, refl, ap, sym, ◌∙◌, arith}
use Rattle.std.proofs.lemmas.Bool.{cases_lt}
use Rattle.std.proofs.lemmas.List.{drop_all}
use Rattle.tx_char.specs.Character.{character}
use Rattle.tx_char.specs.declared.category.Cat.TheVariants.{Active}
use Rattle.tx_char.specs.declared.tokens.Token.{Token}
use Rattle.tx_char.specs.declared.tokens.Token.TheVariants as token
use Rattle.tx_seen.specs.declared.error.TexError.{TexError}
use Rattle.tx_seen.specs.declared.error.TexError.TheVariants.{Undefined}
use Rattle.tx_seen.specs.declared.fed.Fed.{Fed}
use Rattle.tx_seen.specs.declared.fed.Fed.TheVariants as fed
use Rattle.tx_seen.specs.declared.fed.Value.{Value}
use Rattle.tx_seen.specs.declared.fed.Want.{Want}
use Rattle.tx_seen.specs.declared.fed.Want.TheVariants.{Expanded}
use Rattle.tx_seen.specs.declared.item.Item.{Item}
use Rattle.tx_seen.specs.declared.item.Item.TheVariants.{Took, Gave}
use Rattle.tx_seen.specs.declared.meaning.Meaning.{Meaning}
use Rattle.tx_seen.specs.declared.place.Place.{Place}
use Rattle.tx_seen.specs.declared.seen.Seen.{Seen}
use Rattle.tx_seen.specs.Readings.{Reading, Done, Wrong, next, ending}
use Rattle.tx_seen.specs.Seen.{is_key, is_space, is_undefined}
use Rattle.tx_scan.specs.declared.scans.DimenScan.{DimenScan}
use Rattle.tx_scan.specs.declared.scans.EqualsScan.{EqualsScan}
use Rattle.tx_scan.specs.declared.scans.IntScan.{IntScan}
use Rattle.tx_scan.specs.declared.scans.KeyScan.{KeyScan}
use Rattle.tx_scan.specs.declared.scans.Measure.{Measure}
use Rattle.tx_scan.specs.declared.spellings.FileNameScan.{FileNameScan}
use Rattle.tx_scan.specs.DimensionRests as sizes
use Rattle.tx_scan.specs.Dimensions.{lengths}
use Rattle.tx_scan.specs.FileNames as files
use Rattle.tx_scan.specs.GrammarRests.{IsEqualsFed}
use Rattle.tx_scan.specs.IntegerRests as integers
use Rattle.tx_scan.specs.Keywords as words
use Rattle.tx_scan.specs.Keywords.{IsReadOn, begun_word}
use Rattle.tx_scan.specs.Mapped.{done_if, fed_if, settled}
use Rattle.tx_scan.specs.Rests.{HoldsOne, IsFedBy, IsGivenBehind, IsGivenBy, IsRead, kept}
use Rattle.tx_scan.specs.Supplied.{NeedsFewer, NeedsNoMore}
use Rattle.tx_scan.proofs.Answering.{ending-all, ending-none}
use Rattle.tx_scan.proofs.Behind.{given-behind, read-one}
use Rattle.tx_scan.proofs.Mappings.{fed-first, fewer-settled, needs-settled, read-none, same-read, settled-fed, settled-given, settled-read}
use Rattle.tx_shape.specs.declared.loading.LoadScan.{LoadScan}
use Rattle.tx_shape.specs.declared.loading.LoadStage.TheVariants as stage
use Rattle.tx_shape.specs.declared.types.AskedSize.TheVariants.{Design}
use Rattle.tx_shape.specs.declared.types.FontAsked.{FontAsked}
use Rattle.tx_shape.specs.LoadRests.{BeginsLoad, WaitsIfNeeded, at_lost, held, letter_rest, needed, rest, stage_held, stage_rest}
use Rattle.tx_shape.specs.Loading.{asked, asked_at, asked_scaled, at_or_not, behind_name, loading, named, no_at, scaled_or_not}
use Rattle.tx_shape.proofs.Amounts.{one-kept}
use Rattle.tx_shape.proofs.Wording.{keyword-key, keyword-other, keyword-space, letter-by, letters-undefined}

-- what is read alike begins alike
pub load-alike : (reading other : List Item → Reading FontAsked) (t : Seen) (new : LoadScan) (answer : Fed FontAsked) → ((more : List Item) → reading more ≡ other more) → BeginsLoad other t new answer → BeginsLoad reading t new answer
load-alike reading other t new answer same k = record {
  reads = same-read rest held 1 reading other (Took t ∷ []) new answer same k.reads;
  needs = k.needs;
  waits = k.waits;
}

load-alike-ok : {E : Type 0} (reading other : List Item → Reading FontAsked) (t : Seen) (new : LoadScan) (answer : Result (Fed FontAsked) E) → ((more : List Item) → reading more ≡ other more) → IfOk answer (BeginsLoad other t new) → IfOk answer (BeginsLoad reading t new)
load-alike-ok reading other t new (Ok answer) same k = load-alike reading other t new answer same k
load-alike-ok reading other t new (Err error) same k = tt

load-none : (reading : List Item → Reading FontAsked) (t : Seen) (new : LoadScan) (answer : Fed FontAsked) → IsRead rest held 0 reading [] new answer → NeedsNoMore 0 (needed new) answer → WaitsIfNeeded new answer → BeginsLoad reading t new answer
load-none reading t new answer k needs waits = record { reads = read-none rest held 1 reading (Took t ∷ []) new answer k; needs = needs; waits = waits }

-- an optional `=`
abbrev to_name : Place → Bool → List Item → Reading FontAsked
to_name place there rest = named place rest

pub equals-on : (scan : EqualsScan) (t : Seen) (new : LoadScan) (want : Want) → IsEqualsFed scan t (fed.More want) → new.stage ≡ stage.Equals → BeginsLoad (λ more. loading new.place (Took t ∷ more)) t new (fed.More want)
equals-on scan t new want k was = record {
  reads = (
    ap (λ r. next r (to_name new.place)) (k []).0,
    rw was (omega arith),
    λ item more. ap (λ r. next r (to_name new.place)) ((k []).2 item more) ∙ ap (λ s. stage_rest s new (ending (stage_held s new) (Took t ∷ [])) item more) (sym was),
  );
  needs = rw was (omega arith);
  waits = tt;
}

pub equals-there : (place : Place) (scan : EqualsScan) (t : Seen) (new : LoadScan) (there : Bool) (back : ℕ) → IsEqualsFed scan t (fed.Done there back) → back ≡ 0 → new.stage ≡ stage.Name → new.place ≡ place → new.file ≡ files.begun_file → BeginsLoad (λ more. loading place (Took t ∷ more)) t new (fed.More Expanded)
equals-there place scan t new there back k none was here begun =
    let same : (more : List Item) → loading place (Took t ∷ more) ≡ named place more = λ more.
    ap (λ r. next r (to_name place)) ((k []).1 more) ∙ ap (λ (m : ℕ). named place (kept m t ++ more)) none in
    load-none _ t new (fed.More Expanded) (
      same [],
      rw was (omega arith),
      λ item more. same (item ∷ more) ∙ (ap (λ (f : FileNameScan). next (files.rest f [] item more) (λ name rest. behind_name place name rest)) (sym begun) ∙ (ap (λ (p : Place). next (files.rest new.file [] item more) (λ name rest. behind_name p name rest)) (sym here) ∙ ap (λ s. stage_rest s new (ending (stage_held s new) []) item more) (sym was))),
    ) (rw was (omega arith)) tt

pub equals-before : {E : Type 0} (place : Place) (scan : EqualsScan) (t : Seen) (new : LoadScan) (there : Bool) (back : ℕ) (answer : Result (Fed FontAsked) E) → IsEqualsFed scan t (fed.Done there back) → (back ≡ 0 → ⊥) → IfOk answer (BeginsLoad (λ more. named place (Took t ∷ more)) t new) → IfOk answer (BeginsLoad (λ more. loading place (Took t ∷ more)) t new)
equals-before place scan t new there back answer k some later =
    load-alike-ok _ _ t new answer (λ more. ap (λ r. next r (to_name place)) ((k []).1 more) ∙ ap (λ (items : List Item). named place (items ++ more)) (one-kept back t some)) later

pub equals-wrong : (place : Place) (scan : EqualsScan) (t : Seen) (new : LoadScan) (error : TexError) → IsEqualsFed scan t (fed.Wrong error) → BeginsLoad (λ more. loading place (Took t ∷ more)) t new (fed.Wrong error)
equals-wrong place scan t new error k = record { reads = λ more. ap (λ r. next r (to_name place)) (k [] more); needs = tt; waits = tt }

-- the name of a file
abbrev to_at : Place → List ℕ → List Item → Reading FontAsked
to_at place name rest = behind_name place name rest

pub name-begun : {E : Type 0} (old new : LoadScan) (t : Seen) (answer : Result (Fed FontAsked) E) → old.stage ≡ stage.Name → old.file ≡ files.begun_file → IfOk answer (BeginsLoad (λ more. rest old [] (Took t) more) t new) → IfOk answer (BeginsLoad (λ more. named old.place (Took t ∷ more)) t new)
name-begun old new t answer was begun k =
    load-alike-ok _ _ t new answer
    (λ more. ap (λ (f : FileNameScan). next (files.rest f [] (Took t) more) (to_at old.place)) (sym begun) ∙ ap (λ s. stage_rest s old [] (Took t) more) (sym was)) k

pub name-more : (old : LoadScan) (scan : FileNameScan) (t : Seen) (want : Want) → old.stage ≡ stage.Name → files.IsFed old.file t scan (fed.More want) → BeginsLoad (λ more. rest old [] (Took t) more) t (record old { file = scan }) (fed.More want)
name-more old scan t want was k = rw was (record {
  reads = (
    ap (λ r. next r (to_at old.place)) (k []).0,
    omega arith,
    λ item more. ap (λ r. next r (to_at old.place)) ((k []).2 item more),
  );
  needs = omega arith;
  waits = tt;
})

pub name-there : (old new : LoadScan) (scan : FileNameScan) (t : Seen) (name : List ℕ) (back : ℕ) → old.stage ≡ stage.Name → files.IsFed old.file t scan (fed.Done name back) → back ≡ 0 → new.stage ≡ stage.At → new.place ≡ old.place → new.name ≡ name → BeginsLoad (λ more. rest old [] (Took t) more) t new (fed.More Expanded)
name-there old new scan t name back was k none now here called =
    let same : (more : List Item) → rest old [] (Took t) more ≡ behind_name new.place new.name more = λ more.
    ap (λ s. stage_rest s old [] (Took t) more) was
    ∙ (ap (λ r. next r (to_at old.place)) ((k []).1 more)
    ∙ (ap (λ (m : ℕ). behind_name old.place name (kept m t ++ more)) none
    ∙ (ap (λ (p : Place). behind_name p name more) (sym here) ∙ ap (λ (n : List ℕ). behind_name new.place n more) (sym called)))) in
    load-none _ t new (fed.More Expanded) (
      same [],
      rw now (omega arith),
      λ item more. same (item ∷ more) ∙ ap (λ s. stage_rest s new (ending (stage_held s new) []) item more) (sym now),
    ) (rw now (omega arith)) tt

pub name-before : {E : Type 0} (old new : LoadScan) (scan : FileNameScan) (t : Seen) (name : List ℕ) (back : ℕ) (answer : Result (Fed FontAsked) E) → old.stage ≡ stage.Name → files.IsFed old.file t scan (fed.Done name back) → (back ≡ 0 → ⊥) → IfOk answer (BeginsLoad (λ more. behind_name old.place name (Took t ∷ more)) t new) → IfOk answer (BeginsLoad (λ more. rest old [] (Took t) more) t new)
name-before old new scan t name back answer was k some later =
    load-alike-ok _ _ t new answer
    (λ more.
    ap (λ s. stage_rest s old [] (Took t) more) was
    ∙ (ap (λ r. next r (to_at old.place)) ((k []).1 more)
    ∙ ap (λ (items : List Item). behind_name old.place name (items ++ more)) (one-kept back t some)))
    later

pub name-wrong : (old new : LoadScan) (scan : FileNameScan) (t : Seen) (error : TexError) → old.stage ≡ stage.Name → files.IsFed old.file t scan (fed.Wrong error) → BeginsLoad (λ more. rest old [] (Took t) more) t new (fed.Wrong error)
name-wrong old new scan t error was k = record {
  reads = λ more. ap (λ s. stage_rest s old [] (Took t) more) was ∙ ap (λ r. next r (to_at old.place)) (k [] more);
  needs = tt;
  waits = tt;
}

-- `at`, with spaces before it
abbrev at_on : Place → List ℕ → Reading Bool → Reading FontAsked
at_on place name r = next r (at_or_not place name)

abbrev scaled_on : Place → List ℕ → Reading Bool → Reading FontAsked
scaled_on place name r = next r (scaled_or_not place name)

-- no token is both an a and an s
key-once : (t : Token) (m : Meaning) → is_key (character "a") (record { token = t; meaning = m }) ≡ true → is_key (character "s") (record { token = t; meaning = m }) ≡ false
key-once (token.Character code Active) m h = refl
key-once (token.Character code _) m h = grind arith
key-once (token.Name name) m h = refl
key-once token.FrozenRelax m h = refl
key-once (token.FontIdentifier font) m h = refl

defined-by : {A : Type 0} (u : Bool) (x : Reading A) → u ≡ false → (if u then Wrong Undefined else x) ≡ x
defined-by false x e = refl
defined-by true x e = cc

undefined-by : {A : Type 0} (u : Bool) (x : Reading A) → u ≡ true → (if u then Wrong Undefined else x) ≡ Wrong Undefined
undefined-by true x e = refl
undefined-by false x e = cc

-- `at` broke off
lost-by : (place : Place) (name : List ℕ) (t : Seen) (items : List Item) (s : Bool) → is_space t ≡ s → is_key (character "s") t ≡ false → is_undefined t ≡ false → no_at place name (Took t ∷ items) ≡ at_lost place name s (Took t ∷ []) items
lost-by place name t items true e k u = ap (scaled_on place name) (keyword-space (character "s") (codes "caled") t items e k)
lost-by place name t items false e k u =
    ap (scaled_on place name) (keyword-other (character "s") (codes "caled") t items e k ∙ defined-by (is_undefined t) (Done false (Took t ∷ items)) u)

letters-at : (place : Place) (name : List ℕ) (t : Seen) (s : Bool) (items : List Item) → ((more : List Item) → no_at place name (Took t ∷ more) ≡ at_lost place name s (Took t ∷ []) more) → at_on place name (words.letters (codes "t") (Took t ∷ items) items) ≡ letter_rest place name s (Took t ∷ []) items
letters-at place name t s [] lost = refl
letters-at place name t s (Gave v ∷ rest) lost = lost (Gave v ∷ rest)
letters-at place name t s (Took v ∷ rest) lost =
    letter-by (at_on place name) refl (is_undefined v) (is_key (character "t") v) _ _ _ _ (λ u. refl) (lost (Took v ∷ rest))

at-letter : (place : Place) (name : List ℕ) (t : Seen) (more : List Item) → is_key (character "a") t ≡ true → is_undefined t ≡ false → behind_name place name (Took t ∷ more) ≡ letter_rest place name (is_space t) (Took t ∷ []) more
at-letter place name t more k u =
    ap (at_on place name) (keyword-key (character "a") (codes "t") t more k ∙ defined-by (is_undefined t) (words.letters (codes "t") (Took t ∷ more) more) u)
    ∙ letters-at place name t (is_space t) more (λ items. lost-by place name t items (is_space t) refl (key-once t.token t.meaning k) u)

letter-read : (t : Seen) (new : LoadScan) → is_key (character "a") t ≡ true → is_undefined t ≡ false → new.stage ≡ stage.Letter (is_space t) → BeginsLoad (λ more. behind_name new.place new.name (Took t ∷ more)) t new (fed.More Expanded)
letter-read t new k u was = record {
  reads = (
    at-letter new.place new.name t [] k u,
    rw was (omega arith),
    λ item more. at-letter new.place new.name t (item ∷ more) k u ∙ ap (λ s. stage_rest s new (ending (stage_held s new) (Took t ∷ [])) item more) (sym was),
  );
  needs = rw was (omega arith);
  waits = tt;
}

pub letter-there : (old new : LoadScan) (t : Seen) → is_key (character "a") t ≡ true → is_undefined t ≡ false → new ≡ record old { stage = stage.Letter (is_space t) } → BeginsLoad (λ more. behind_name old.place old.name (Took t ∷ more)) t new (fed.More Expanded)
letter-there old new t k u is = rw is (letter-read t (record old { stage = stage.Letter (is_space t) }) k u refl)

pub letter-undefined : (place : Place) (name : List ℕ) (t : Seen) (new : LoadScan) → is_key (character "a") t ≡ true → is_undefined t ≡ true → BeginsLoad (λ more. behind_name place name (Took t ∷ more)) t new (fed.Wrong Undefined)
letter-undefined place name t new k u = record {
  reads = λ more. ap (at_on place name) (keyword-key (character "a") (codes "t") t more k ∙ undefined-by (is_undefined t) (words.letters (codes "t") (Took t ∷ more) more) u);
  needs = tt;
  waits = tt;
}

at-space : (place : Place) (name : List ℕ) (t : Seen) (more : List Item) → is_key (character "a") t ≡ false → is_space t ≡ true → behind_name place name (Took t ∷ more) ≡ behind_name place name more
at-space place name t more k s = ap (at_on place name) (keyword-space (character "a") (codes "t") t more s k)

space-read : (t : Seen) (new : LoadScan) → is_key (character "a") t ≡ false → is_space t ≡ true → new.stage ≡ stage.At → BeginsLoad (λ more. behind_name new.place new.name (Took t ∷ more)) t new (fed.More Expanded)
space-read t new k s was =
    load-none _ t new (fed.More Expanded) (
      at-space new.place new.name t [] k s,
      rw was (omega arith),
      λ item more. at-space new.place new.name t (item ∷ more) k s ∙ ap (λ s. stage_rest s new (ending (stage_held s new) []) item more) (sym was),
    ) (rw was (omega arith)) tt

pub space-on : (old new : LoadScan) (t : Seen) → is_key (character "a") t ≡ false → is_space t ≡ true → new ≡ record old { stage = stage.At } → BeginsLoad (λ more. behind_name old.place old.name (Took t ∷ more)) t new (fed.More Expanded)
space-on old new t k s is = rw is (space-read t (record old { stage = stage.At }) k s refl)

other-undefined : (place : Place) (name : List ℕ) (t : Seen) (more : List Item) (u : Bool) → is_undefined t ≡ u → is_space t ≡ false → at_on place name (if u then Wrong Undefined else Done false (Took t ∷ more)) ≡ no_at place name (Took t ∷ more)
other-undefined place name t more true e s =
    sym (ap (scaled_on place name) (letters-undefined (is_space t) (is_key (character "s") t) (is_undefined t) _ _ _ s e))
other-undefined place name t more false e s = refl

pub other-there : {E : Type 0} (place : Place) (name : List ℕ) (t : Seen) (new : LoadScan) (answer : Result (Fed FontAsked) E) → is_key (character "a") t ≡ false → is_space t ≡ false → IfOk answer (BeginsLoad (λ more. no_at place name (Took t ∷ more)) t new) → IfOk answer (BeginsLoad (λ more. behind_name place name (Took t ∷ more)) t new)
other-there place name t new answer k s later =
    load-alike-ok _ _ t new answer
    (λ more. ap (at_on place name) (keyword-other (character "a") (codes "t") t more s k) ∙ other-undefined place name t more (is_undefined t) refl s) later

-- the second letter
abbrev IsLetterRead : Place → List ℕ → Bool → Seen → LoadScan → Fed FontAsked → Type 0
IsLetterRead place name blank t new answer = (behind : List Item) → length behind ≤ 1 → IsRead rest held 2 (λ more. letter_rest place name blank behind (Took t ∷ more)) (behind ++ Took t ∷ []) new answer

pub second-undefined : (place : Place) (name : List ℕ) (blank : Bool) (t : Seen) (new : LoadScan) → is_undefined t ≡ true → IsLetterRead place name blank t new (fed.Wrong Undefined)
second-undefined place name blank t new u = λ behind h more. undefined-by (is_undefined t) _ u

second-by : (u k : Bool) (x y : Reading FontAsked) → u ≡ false → k ≡ true → (if u then Wrong Undefined else if k then x else y) ≡ x
second-by false true x y e f = refl
second-by true k x y e f = cc
second-by false false x y e f = cc

second-lost : (u k : Bool) (x y : Reading FontAsked) → u ≡ false → k ≡ false → (if u then Wrong Undefined else if k then x else y) ≡ y
second-lost false false x y e f = refl
second-lost true k x y e f = cc
second-lost false true x y e f = cc

second-read : (blank : Bool) (t : Seen) (new : LoadScan) → is_undefined t ≡ false → is_key (character "t") t ≡ true → new.stage ≡ stage.Size → new.size ≡ sizes.begun_size lengths → IsLetterRead new.place new.name blank t new (fed.More Expanded)
second-read blank t new u k was begun = λ behind h.
    read-none rest held 2 (λ more. letter_rest new.place new.name blank behind (Took t ∷ more)) (behind ++ Took t ∷ []) new (fed.More Expanded) (
      second-by (is_undefined t) (is_key (character "t") t) _ _ u k,
      rw (was, begun) (omega arith),
      λ item more.
          second-by (is_undefined t) (is_key (character "t") t) _ _ u k
          ∙ (ap (λ (scan : DimenScan). next (sizes.rest scan [] item more) (λ measure rest. done_if (asked_at new.place new.name measure) rest)) (sym begun)
          ∙ (ap (λ (n : ℕ). next (sizes.rest new.size (ending n []) item more) (λ measure rest. done_if (asked_at new.place new.name measure) rest)) (sym (ap (λ (scan : DimenScan). sizes.held scan) begun))
          ∙ ap (λ s. stage_rest s new (ending (stage_held s new) []) item more) (sym was))),
    )

pub second-there : (blank : Bool) (t : Seen) (old new : LoadScan) (size : DimenScan) → is_undefined t ≡ false → is_key (character "t") t ≡ true → size ≡ sizes.begun_size lengths → new ≡ record old { size = size; stage = stage.Size } → IsLetterRead old.place old.name blank t new (fed.More Expanded)
second-there blank t old new size u k begun is = rw is (second-read blank t (record old { size = size; stage = stage.Size }) u k refl begun)

pub second-needs : (old new : LoadScan) (size : DimenScan) → size ≡ sizes.begun_size lengths → new ≡ record old { size = size; stage = stage.Size } → NeedsNoMore {A = FontAsked} 0 (needed new) (fed.More Expanded)
second-needs old new size begun is = rw (is, begun) (omega arith)

pub second-blank : {E : Type 0} (place : Place) (name : List ℕ) (blank : Bool) (t : Seen) (new : LoadScan) (answer : Result (Fed FontAsked) E) → is_undefined t ≡ false → is_key (character "t") t ≡ false → blank ≡ true → IfOk answer (BeginsLoad (λ more. no_at place name (Took t ∷ more)) t new) → IfOk answer (IsLetterRead place name blank t new)
second-blank place name true t new (Ok answer) u k e later = λ behind h.
    same-read rest held 2 (λ more. letter_rest place name true behind (Took t ∷ more)) (λ more. no_at place name (Took t ∷ more)) (behind ++ Took t ∷ []) new answer
    (λ more. second-lost (is_undefined t) (is_key (character "t") t) _ _ u k)
    (read-one rest held 1 (λ more. no_at place name (Took t ∷ more)) behind t new answer later.reads)
second-blank place name false t new (Ok answer) u k e later = cc
second-blank place name blank t new (Err error) u k e later = tt

two-all : (behind : List Item) (t : Seen) (more : List Item) → length behind ≤ 1 → behind ++ Took t ∷ more ≡ ending 2 (behind ++ Took t ∷ []) ++ more
two-all behind t more h =
    let long : length (behind ++ Took t ∷ []) ≡ length behind + 1 = length-append behind (Took t ∷ []) in
    sym (ap (λ (items : List Item). items ++ more) (ending-all 2 (behind ++ Took t ∷ []) (omega (arith, h, long))) ∙ append_assoc behind (Took t ∷ []) more)

pub second-not : {E : Type 0} (place : Place) (name : List ℕ) (blank : Bool) (t : Seen) (new : LoadScan) (answer : Result (Fed FontAsked) E) → is_undefined t ≡ false → is_key (character "t") t ≡ false → blank ≡ false → IfOk answer (λ a. a ≡ fed.Done (asked place name Design) 2) → IfOk answer (IsLetterRead place name blank t new)
second-not place name blank t new (Ok answer) u k e same = λ behind h. rw (same, e) (
  omega arith,
  λ more.
      second-lost (is_undefined t) (is_key (character "t") t) _ _ u k
      ∙ (ap (λ (items : List Item). Done (asked place name Design) items) (two-all behind t more h)),
)
second-not place name blank t new (Err error) u k e same = tt

-- `scaled`
abbrev IsWordRead : Place → List ℕ → KeyScan → Seen → LoadScan → Fed FontAsked → Type 0
IsWordRead place name key t new answer = (behind : List Item) → length behind ≤ key.read → IsRead rest held (key.read + 1) (λ more. next (words.rest (codes "scaled") key behind (Took t) more) (scaled_or_not place name)) (behind ++ Took t ∷ []) new answer

pub word-more : (key scan : KeyScan) (t : Seen) (new : LoadScan) (want : Want) → IsFedBy (words.rest (codes "scaled")) words.held key t scan (fed.More want) → new.stage ≡ stage.Scaled scan → IsWordRead new.place new.name key t new (fed.More want)
word-more key scan t new want k was = λ behind h. (
  ap (scaled_on new.place new.name) (k behind h).0,
  rw was (k behind h).1,
  λ item more. ap (scaled_on new.place new.name) ((k behind h).2 item more) ∙ ap (λ s. stage_rest s new (ending (stage_held s new) (behind ++ Took t ∷ [])) item more) (sym was),
)

word-read : (key scan : KeyScan) (t : Seen) (new : LoadScan) (found : Bool) (back : ℕ) → IsFedBy (words.rest (codes "scaled")) words.held key t scan (fed.Done found back) → found ≡ true → back ≡ 0 → new.stage ≡ stage.Number → new.number ≡ integers.begun_integer → IsWordRead new.place new.name key t new (fed.More Expanded)
word-read key scan t new found back k there none was begun = λ behind h.
    let same : (more : List Item) → next (words.rest (codes "scaled") key behind (Took t) more) (scaled_or_not new.place new.name) ≡ scaled_or_not new.place new.name true more = λ more.
    ap (scaled_on new.place new.name) ((k behind h).1 more)
    ∙ (ap (λ (b : Bool). scaled_or_not new.place new.name b (ending back (behind ++ Took t ∷ []) ++ more)) there
    ∙ ap (λ (items : List Item). scaled_or_not new.place new.name true (items ++ more)) (ap (λ (n : ℕ). ending n (behind ++ Took t ∷ [])) none ∙ ending-none (behind ++ Took t ∷ []))) in
    read-none rest held (key.read + 1) (λ more. next (words.rest (codes "scaled") key behind (Took t) more) (scaled_or_not new.place new.name)) (behind ++ Took t ∷ []) new (fed.More Expanded) (
      same [],
      rw (was, begun) (omega arith),
      λ item more.
          same (item ∷ more)
          ∙ (ap (λ (scan : IntScan). next (integers.rest scan [] item more) (λ n rest. done_if (asked_scaled new.place new.name n) rest)) (sym begun)
          ∙ (ap (λ (n : ℕ). next (integers.rest new.number (ending n []) item more) (λ n rest. done_if (asked_scaled new.place new.name n) rest)) (sym (ap (λ (scan : IntScan). integers.held scan) begun))
          ∙ ap (λ s. stage_rest s new (ending (stage_held s new) []) item more) (sym was))),
    )

pub word-there : (key scan : KeyScan) (t : Seen) (old new : LoadScan) (number : IntScan) (found : Bool) (back : ℕ) → IsFedBy (words.rest (codes "scaled")) words.held key t scan (fed.Done found back) → found ≡ true → back ≡ 0 → number ≡ integers.begun_integer → new ≡ record old { number = number; stage = stage.Number } → IsWordRead old.place old.name key t new (fed.More Expanded)
word-there key scan t old new number found back k there none begun is =
    rw is (word-read key scan t (record old { number = number; stage = stage.Number }) found back k there none refl begun)

pub word-needs : (old new : LoadScan) (number : IntScan) → number ≡ integers.begun_integer → new ≡ record old { number = number; stage = stage.Number } → NeedsNoMore {A = FontAsked} 0 (needed new) (fed.More Expanded)
word-needs old new number begun is = rw (is, begun) (omega arith)

word-over : (read : ℕ) (behind : List Item) (t : Seen) (more : List Item) → 6 ≤ read → words.word_rest (codes "scaled") read behind (Took t) more ≡ Done true (Took t ∷ more)
word-over zero behind t more h = absurd (omega (arith, h))
word-over (suc read) behind t more h =
    ap (λ (left : List ℕ). words.letters left (behind ++ Took t ∷ more) (Took t ∷ more)) (drop_all (suc read) (codes "scaled") (omega (arith, h)))

read-over : (read back : ℕ) → (read < 6 → back ≡ 0) → (back ≡ 0 → ⊥) → 6 ≤ read
read-over read back on some = elim (cases_lt read 6) [ inl h ↦ absurd (some (on h)) | inr h ↦ h ]

pub word-before : {E : Type 0} (place : Place) (name : List ℕ) (key scan : KeyScan) (t : Seen) (new : LoadScan) (found : Bool) (back : ℕ) (answer : Result (Fed FontAsked) E) → (key.read < 6 → IsReadOn (codes "scaled") scan (fed.Done found back)) → found ≡ true → (back ≡ 0 → ⊥) → IfOk answer (BeginsLoad (λ more. scaled_or_not place name true (Took t ∷ more)) t new) → IfOk answer (IsWordRead place name key t new)
word-before place name key scan t new found back (Ok answer) on there some later = λ behind h.
    let many : 6 ≤ key.read = read-over key.read back (rw there at on) some in
    same-read rest held (key.read + 1) (λ more. next (words.rest (codes "scaled") key behind (Took t) more) (scaled_or_not place name)) (λ more. scaled_or_not place name true (Took t ∷ more)) (behind ++ Took t ∷ []) new answer
    (λ more. ap (scaled_on place name) (word-over key.read behind t more many))
    (read-one rest held key.read (λ more. scaled_or_not place name true (Took t ∷ more)) behind t new answer later.reads)
word-before place name key scan t new found back (Err error) on there some later = tt

pub before-needs : {E : Type 0} (reading : List Item → Reading FontAsked) (t : Seen) (new : LoadScan) (answer : Result (Fed FontAsked) E) → IfOk answer (BeginsLoad reading t new) → IfOk answer (NeedsNoMore 0 (needed new))
before-needs reading t new (Ok answer) k = k.needs
before-needs reading t new (Err error) k = tt

pub word-lost : {E : Type 0} (place : Place) (name : List ℕ) (key scan : KeyScan) (t : Seen) (new : LoadScan) (found : Bool) (back : ℕ) (answer : Result (Fed FontAsked) E) → IsFedBy (words.rest (codes "scaled")) words.held key t scan (fed.Done found back) → found ≡ false → IfOk answer (λ a. a ≡ fed.Done (asked place name Design) back) → IfOk answer (IsWordRead place name key t new)
word-lost place name key scan t new found back (Ok answer) k none same = λ behind h. rw same (
  (k behind h).0,
  λ more.
      ap (scaled_on place name) ((k behind h).1 more)
      ∙ ap (λ (b : Bool). scaled_or_not place name b (ending back (behind ++ Took t ∷ []) ++ more)) none,
)
word-lost place name key scan t new found back (Err error) k none same = tt

pub whole-needs : {E : Type 0} (what : FontAsked) (back old n : ℕ) (answer : Result (Fed FontAsked) E) → IfOk answer (λ a. a ≡ fed.Done what back) → IfOk answer (NeedsNoMore old n)
whole-needs what back old n (Ok answer) same = rw same tt
whole-needs what back old n (Err error) same = tt

pub whole-waits : {E : Type 0} (what : FontAsked) (back : ℕ) (new : LoadScan) (answer : Result (Fed FontAsked) E) → IfOk answer (λ a. a ≡ fed.Done what back) → IfOk answer (WaitsIfNeeded new)
whole-waits what back new (Ok answer) same = rw same tt
whole-waits what back new (Err error) same = tt

pub word-wrong : (place : Place) (name : List ℕ) (key scan : KeyScan) (t : Seen) (new : LoadScan) (error : TexError) → IsFedBy (words.rest (codes "scaled")) words.held key t scan (fed.Wrong error) → IsWordRead place name key t new (fed.Wrong error)
word-wrong place name key scan t new error k = λ behind h more. ap (scaled_on place name) (k behind h more)

pub other-read : {E : Type 0} (place : Place) (name : List ℕ) (key : KeyScan) (t : Seen) (new : LoadScan) (answer : Result (Fed FontAsked) E) → key ≡ begun_word → IfOk answer (IsWordRead place name key t new) → IfOk answer (NeedsNoMore 0 (needed new)) → IfOk answer (WaitsIfNeeded new) → IfOk answer (BeginsLoad (λ more. no_at place name (Took t ∷ more)) t new)
other-read place name key t new (Ok answer) same k needs waits =
    let first : IsWordRead place name begun_word t new answer = rw same at k in
    record { reads = first [] (omega arith); needs = needs; waits = waits }
other-read place name key t new (Err error) same k needs waits = tt

-- where the size or the number needs a value
if-waits : (new : LoadScan) (made : Result FontAsked TexError) (back : ℕ) → WaitsIfNeeded new (fed_if made back)
if-waits new (Ok value) back = tt
if-waits new (Err error) back = tt

size-settled : (f : Measure → Result FontAsked TexError) (new : LoadScan) (answer : Fed Measure) → new.stage ≡ stage.Size → HoldsOne (sizes.held new.size) answer → WaitsIfNeeded new (settled f answer)
size-settled f new (fed.More want) was k = tt
size-settled f new (fed.Need kind) was k = rw was (tt, k)
size-settled f new (fed.Done measure back) was k = if-waits new (f measure) back
size-settled f new (fed.Wrong error) was k = tt

number-settled : (f : ℤ → Result FontAsked TexError) (new : LoadScan) (answer : Fed ℤ) → new.stage ≡ stage.Number → HoldsOne (integers.held new.number) answer → WaitsIfNeeded new (settled f answer)
number-settled f new (fed.More want) was k = tt
number-settled f new (fed.Need kind) was k = rw was (tt, k)
number-settled f new (fed.Done n back) was k = if-waits new (f n) back
number-settled f new (fed.Wrong error) was k = tt

pub size-waits : {E : Type 0} (old : LoadScan) (scan : DimenScan) (answer : Fed Measure) (result : Result (Fed FontAsked) E) → old.stage ≡ stage.Size → HoldsOne (sizes.held scan) answer → IfOk result (λ a. a ≡ settled (asked_at old.place old.name) answer) → IfOk result (WaitsIfNeeded (record old { size = scan }))
size-waits old scan answer (Ok result) was one same = rw same (size-settled (asked_at old.place old.name) (record old { size = scan }) answer was one)
size-waits old scan answer (Err error) was one same = tt

pub number-waits : {E : Type 0} (old : LoadScan) (scan : IntScan) (answer : Fed ℤ) (result : Result (Fed FontAsked) E) → old.stage ≡ stage.Number → HoldsOne (integers.held scan) answer → IfOk result (λ a. a ≡ settled (asked_scaled old.place old.name) answer) → IfOk result (WaitsIfNeeded (record old { number = scan }))
number-waits old scan answer (Ok result) was one same = rw same (number-settled (asked_scaled old.place old.name) (record old { number = scan }) answer was one)
number-waits old scan answer (Err error) was one same = tt

-- the number behind it
pub number-begun : {E : Type 0} (new : LoadScan) (t : Seen) (answer : Fed ℤ) (result : Result (Fed FontAsked) E) → new.stage ≡ stage.Number → IsFedBy integers.rest integers.held integers.begun_integer t new.number answer → NeedsNoMore (integers.waiting integers.begun_integer) (integers.waiting new.number) answer → HoldsOne (integers.held new.number) answer → IfOk result (λ a. a ≡ settled (asked_scaled new.place new.name) answer) → IfOk result (BeginsLoad (λ more. scaled_or_not new.place new.name true (Took t ∷ more)) t new)
number-begun new t answer (Ok result) was k needs one same =
    let h : length {A = Item} [] ≤ 0 = omega arith in
    rw same (record {
      reads = settled-read integers.rest integers.held rest held (asked_scaled new.place new.name) 1 (λ more. integers.rest integers.begun_integer [] (Took t) more) (Took t ∷ []) new.number new answer
          (λ behind item more. ap (λ s. stage_rest s new behind item more) was) (ap (λ s. stage_held s new) was) (k [] h);
      needs = rw was (needs-settled (asked_scaled new.place new.name) 0 (integers.waiting new.number) answer needs);
      waits = number-settled (asked_scaled new.place new.name) new answer was one;
    })
number-begun new t answer (Err error) was k needs one same = tt

-- one token
pub begins-fed : {E : Type 0} (reading : List Item → Reading FontAsked) (old new : LoadScan) (t : Seen) (answer : Result (Fed FontAsked) E) → held old ≡ 0 → ((more : List Item) → rest old [] (Took t) more ≡ reading more) → IfOk answer (BeginsLoad reading t new) → IfOk answer (IsFedBy rest held old t new)
begins-fed reading old new t (Ok answer) none same k =
    fed-first rest held old t new answer none (same-read rest held 1 _ reading (Took t ∷ []) new answer same k.reads)
begins-fed reading old new t (Err error) none same k = tt

pub begins-needs : {E : Type 0} (reading : List Item → Reading FontAsked) (old new : LoadScan) (t : Seen) (answer : Result (Fed FontAsked) E) → needed old ≡ 0 → IfOk answer (BeginsLoad reading t new) → IfOk answer (NeedsNoMore (needed old) (needed new))
begins-needs reading old new t (Ok answer) none k = rw none k.needs
begins-needs reading old new t (Err error) none k = tt

pub begins-waits : {E : Type 0} (reading : List Item → Reading FontAsked) (new : LoadScan) (t : Seen) (answer : Result (Fed FontAsked) E) → IfOk answer (BeginsLoad reading t new) → IfOk answer (WaitsIfNeeded new)
begins-waits reading new t (Ok answer) k = k.waits
begins-waits reading new t (Err error) k = tt

pub letter-fed : {E : Type 0} (blank : Bool) (old new : LoadScan) (t : Seen) (answer : Result (Fed FontAsked) E) → old.stage ≡ stage.Letter blank → IfOk answer (IsLetterRead old.place old.name blank t new) → IfOk answer (IsFedBy rest held old t new)
letter-fed blank old new t (Ok answer) was k = rw was k
letter-fed blank old new t (Err error) was k = tt

pub word-fed : {E : Type 0} (key : KeyScan) (old new : LoadScan) (t : Seen) (answer : Result (Fed FontAsked) E) → old.stage ≡ stage.Scaled key → IfOk answer (IsWordRead old.place old.name key t new) → IfOk answer (IsFedBy rest held old t new)
word-fed key old new t (Ok answer) was k = rw was k
word-fed key old new t (Err error) was k = tt

pub size-fed : {E : Type 0} (old : LoadScan) (scan : DimenScan) (t : Seen) (answer : Fed Measure) (result : Result (Fed FontAsked) E) → old.stage ≡ stage.Size → IsFedBy sizes.rest sizes.held old.size t scan answer → IfOk result (λ a. a ≡ settled (asked_at old.place old.name) answer) → IfOk result (IsFedBy rest held old t (record old { size = scan }))
size-fed old scan t answer (Ok result) was k same =
    let new : LoadScan = record old { size = scan } in
    rw same
    (settled-fed sizes.rest sizes.held rest held (asked_at old.place old.name) old.size scan old new t answer
    (λ behind item more. ap (λ s. stage_rest s old behind item more) was) (ap (λ s. stage_held s old) was)
    (λ behind item more. ap (λ s. stage_rest s new behind item more) was) (ap (λ s. stage_held s new) was) k)
size-fed old scan t answer (Err error) was k same = tt

pub number-fed : {E : Type 0} (old : LoadScan) (scan : IntScan) (t : Seen) (answer : Fed ℤ) (result : Result (Fed FontAsked) E) → old.stage ≡ stage.Number → IsFedBy integers.rest integers.held old.number t scan answer → IfOk result (λ a. a ≡ settled (asked_scaled old.place old.name) answer) → IfOk result (IsFedBy rest held old t (record old { number = scan }))
number-fed old scan t answer (Ok result) was k same =
    let new : LoadScan = record old { number = scan } in
    rw same
    (settled-fed integers.rest integers.held rest held (asked_scaled old.place old.name) old.number scan old new t answer
    (λ behind item more. ap (λ s. stage_rest s old behind item more) was) (ap (λ s. stage_held s old) was)
    (λ behind item more. ap (λ s. stage_rest s new behind item more) was) (ap (λ s. stage_held s new) was) k)
number-fed old scan t answer (Err error) was k same = tt

pub size-needs : {E : Type 0} (old : LoadScan) (scan : DimenScan) (answer : Fed Measure) (result : Result (Fed FontAsked) E) → old.stage ≡ stage.Size → NeedsNoMore (sizes.more_needed old.size) (sizes.more_needed scan) answer → IfOk result (λ a. a ≡ settled (asked_at old.place old.name) answer) → IfOk result (NeedsNoMore (needed old) (needed (record old { size = scan })))
size-needs old scan answer (Ok result) was k same = rw (was, same) (needs-settled (asked_at old.place old.name) (sizes.more_needed old.size) (sizes.more_needed scan) answer k)
size-needs old scan answer (Err error) was k same = tt

pub number-needs : {E : Type 0} (old : LoadScan) (scan : IntScan) (answer : Fed ℤ) (result : Result (Fed FontAsked) E) → old.stage ≡ stage.Number → NeedsNoMore (integers.waiting old.number) (integers.waiting scan) answer → IfOk result (λ a. a ≡ settled (asked_scaled old.place old.name) answer) → IfOk result (NeedsNoMore (needed old) (needed (record old { number = scan })))
number-needs old scan answer (Ok result) was k same = rw (was, same) (needs-settled (asked_scaled old.place old.name) (integers.waiting old.number) (integers.waiting scan) answer k)
number-needs old scan answer (Err error) was k same = tt

-- one value
pub size-given : {E : Type 0} (old : LoadScan) (scan : DimenScan) (v : Value) (t : Seen) (answer : Fed Measure) (result : Result (Fed FontAsked) E) → old.stage ≡ stage.Size → held old ≤ 1 → IsGivenBy sizes.rest sizes.held old.size v scan answer → IfOk result (λ a. a ≡ settled (asked_at old.place old.name) answer) → IfOk result (IsGivenBehind rest held old v t (record old { size = scan }))
size-given old scan v t answer (Ok result) was few k same =
    let new : LoadScan = record old { size = scan } in
    rw same
    (given-behind rest held old new v t (settled (asked_at old.place old.name) answer) few
    (settled-given sizes.rest sizes.held rest held (asked_at old.place old.name) old.size scan old new v answer
    (λ behind item more. ap (λ s. stage_rest s old behind item more) was) (ap (λ s. stage_held s old) was)
    (λ behind item more. ap (λ s. stage_rest s new behind item more) was) (ap (λ s. stage_held s new) was) k))
size-given old scan v t answer (Err error) was few k same = tt

pub number-given : {E : Type 0} (old : LoadScan) (scan : IntScan) (v : Value) (t : Seen) (answer : Fed ℤ) (result : Result (Fed FontAsked) E) → old.stage ≡ stage.Number → held old ≤ 1 → IsGivenBy integers.rest integers.held old.number v scan answer → IfOk result (λ a. a ≡ settled (asked_scaled old.place old.name) answer) → IfOk result (IsGivenBehind rest held old v t (record old { number = scan }))
number-given old scan v t answer (Ok result) was few k same =
    let new : LoadScan = record old { number = scan } in
    rw same
    (given-behind rest held old new v t (settled (asked_scaled old.place old.name) answer) few
    (settled-given integers.rest integers.held rest held (asked_scaled old.place old.name) old.number scan old new v answer
    (λ behind item more. ap (λ s. stage_rest s old behind item more) was) (ap (λ s. stage_held s old) was)
    (λ behind item more. ap (λ s. stage_rest s new behind item more) was) (ap (λ s. stage_held s new) was) k))
number-given old scan v t answer (Err error) was few k same = tt

pub size-fewer : {E : Type 0} (old : LoadScan) (scan : DimenScan) (answer : Fed Measure) (result : Result (Fed FontAsked) E) → old.stage ≡ stage.Size → NeedsFewer (sizes.more_needed old.size) (sizes.more_needed scan) answer → IfOk result (λ a. a ≡ settled (asked_at old.place old.name) answer) → IfOk result (NeedsFewer (needed old) (needed (record old { size = scan })))
size-fewer old scan answer (Ok result) was k same = rw (was, same) (fewer-settled (asked_at old.place old.name) (sizes.more_needed old.size) (sizes.more_needed scan) answer k)
size-fewer old scan answer (Err error) was k same = tt

pub number-fewer : {E : Type 0} (old : LoadScan) (scan : IntScan) (answer : Fed ℤ) (result : Result (Fed FontAsked) E) → old.stage ≡ stage.Number → NeedsFewer (integers.waiting old.number) (integers.waiting scan) answer → IfOk result (λ a. a ≡ settled (asked_scaled old.place old.name) answer) → IfOk result (NeedsFewer (needed old) (needed (record old { number = scan })))
number-fewer old scan answer (Ok result) was k same = rw (was, same) (fewer-settled (asked_scaled old.place old.name) (integers.waiting old.number) (integers.waiting scan) answer k)
number-fewer old scan answer (Err error) was k same = tt
