-- One token, by the part that it comes to.
use Rattle.std.proofs.Common.{◌≡◌, ◌≤◌, ◌+◌, ℕ, zero, suc, Bool, true, false, ◌||◌, List, [], ◌∷◌, ◌++◌, cond, Option, Some, Result, Ok, Err, IfOk, length, length-append, refl, ap, sym, ◌∙◌, subst, arith}
use Rattle.tx_char.specs.Character.{character}
use Rattle.tx_seen.specs.declared.error.TexError.{TexError}
use Rattle.tx_seen.specs.declared.error.TexError.TheVariants.{Undefined}
use Rattle.tx_seen.specs.declared.fed.Fed.{Fed}
use Rattle.tx_seen.specs.declared.fed.Fed.TheVariants as fed
use Rattle.tx_seen.specs.declared.fed.Want.{Want}
use Rattle.tx_seen.specs.declared.fed.Want.TheVariants.{Expanded}
use Rattle.tx_seen.specs.declared.item.Item.{Item}
use Rattle.tx_seen.specs.declared.item.Item.TheVariants.{Took}
use Rattle.tx_seen.specs.declared.seen.Seen.{Seen}
use Rattle.tx_seen.specs.Seen.{is_begin_group, is_key, is_relax, is_space, is_undefined}
use Rattle.tx_seen.specs.Readings.{Reading, More, Done, Wrong, next, ending}
use Rattle.tx_scan.specs.Integers.{expanded}
use Rattle.tx_scan.specs.declared.scans.BraceScan.{BraceScan}
use Rattle.tx_scan.specs.declared.scans.EqualsScan.{EqualsScan}
use Rattle.tx_scan.specs.declared.scans.FontScan.{FontScan}
use Rattle.tx_scan.specs.declared.scans.FontSought.{FontSought}
use Rattle.tx_scan.specs.declared.scans.GlueScan.{GlueScan}
use Rattle.tx_prim.specs.declared.family.MathSize.{MathSize}
use Rattle.tx_seen.specs.declared.place.FontName.{FontName}
use Rattle.tx_scan.specs.GrammarRests.{IsBraceFed, IsEqualsFed, IsFontFed}
use Rattle.tx_scan.specs.Rests.{IsFedBy, IsRead, kept}
use Rattle.tx_scan.specs.Supplied.{NeedsNoMore}
use Rattle.tx_scan.proofs.Answering.{ending-all, ending-none}
use Rattle.tx_scan.proofs.Behind.{none-needs}
use Rattle.tx_scan.proofs.Mappings.{fed-first, read-none, same-read}
use Rattle.tx_shape.specs.declared.letters.Letters.{Letters}
use Rattle.tx_shape.specs.declared.scans.Opening.{Opening}
use Rattle.tx_shape.specs.declared.scans.Plain.TheVariants as plain
use Rattle.tx_shape.specs.declared.scans.ShapeScan.{ShapeScan}
use Rattle.tx_shape.specs.declared.types.Opener.{Opener}
use Rattle.tx_shape.specs.declared.types.Shaped.{Shaped}
use Rattle.tx_shape.specs.declared.types.Shaped.TheVariants.{Open, SetFamily}
use Rattle.tx_shape.specs.declared.scans.Stage.TheVariants as stage
use Rattle.tx_shape.specs.declared.scans.Amount.{Amount}
use Rattle.tx_shape.specs.declared.scans.Amount.TheVariants as amount
use Rattle.tx_shape.specs.declared.scans.Setting.{Setting}
use Rattle.tx_shape.specs.declared.scans.Setting.TheVariants.{Size, Number}
use Rattle.tx_shape.specs.Settings.{amount_of, family_font, family_setting, font_setting, set, set_of_font, setting}
use Rattle.tx_shape.specs.declared.scans.Sizing.TheVariants as sizing
use Rattle.tx_shape.specs.declared.types.BoxContext.TheVariants.{Register}
use Rattle.tx_shape.specs.declared.types.BoxGoal.{BoxGoal}
use Rattle.tx_shape.specs.declared.types.BoxGoal.TheVariants.{Natural}
use Rattle.tx_shape.specs.declared.words.Lost.{Lost}
use Rattle.tx_shape.specs.declared.words.Lost.TheVariants as lost
use Rattle.tx_shape.specs.declared.words.Word.{Word}
use Rattle.tx_shape.specs.declared.words.Word.TheVariants as word
use Rattle.tx_shape.specs.Boxes.{begun, box_begin, group_begun, needed_box, opened, register_setting, spread_goal}
use Rattle.tx_shape.specs.Rests.{Begins, BeginsSetting, WaitsIfNeeded, behind_with, begun_at, held, left_of, letters_rest, lost_rest, needed, rest, size_rest, sizing_behind, stage_held, stage_rest, word_rest}
use Rattle.tx_shape.specs.Words.{behind_group, expected as letter, longer, lost_behind, lost_by, lost_to}
use Rattle.tx_shape.proofs.Amounts.{none-waits, one-kept}
use Rattle.tx_shape.proofs.Parts.{amount-begun, amount-on, amount_reading, begins-alike, begins-wrong, plain-on}
use Rattle.tx_shape.proofs.Wording.{spread-begun, spread-none, spread-space, to-begun, to-none, to-space}

-- where `to` may come
word-at : (opening : Opening) (t : Seen) (w v : Word) (l m : Lost) (more : List Item) → v ≡ w → m ≡ l → expanded t (word_rest opening w l [] more) ≡ expanded t (word_rest opening v m [] more)
word-at opening t w v l m more e f = rw (e, f) refl

pub to-word : (opening : Opening) (t : Seen) (letters : Letters) (new : ShapeScan) (answer : Fed Shaped) → is_key (character "t") t ≡ true → letters.word ≡ word.T → letters.lost ≡ lost_to t → Begins (λ more. expanded t (word_rest opening letters.word letters.lost [] more)) new answer → Begins (λ more. box_begin opening (Took t ∷ more)) new answer
to-word opening t letters new answer k e f later =
    begins-alike _ _ new answer (λ more. to-begun opening t more k ∙ word-at opening t word.T letters.word (lost_to t) letters.lost more e f) later

pub to-skip : (opening : Opening) (t : Seen) (new : ShapeScan) → is_key (character "t") t ≡ false → is_space t ≡ true → new.stage ≡ stage.Plain (plain.Goal opening) → Begins (λ more. box_begin opening (Took t ∷ more)) new (fed.More Expanded)
to-skip opening t new k s was = plain-on _ (plain.Goal opening) new was (λ more. to-space opening t more k s)

pub to-not : (opening : Opening) (t : Seen) (new : ShapeScan) (answer : Fed Shaped) → is_key (character "t") t ≡ false → is_space t ≡ false → Begins (λ more. next (spread_goal (Took t ∷ more)) (opened opening)) new answer → Begins (λ more. box_begin opening (Took t ∷ more)) new answer
to-not opening t new answer k s later = begins-alike _ _ new answer (λ more. to-none opening t more k s) later

-- where `spread` may come
pub spread-word : (opening : Opening) (t : Seen) (letters : Letters) (new : ShapeScan) (answer : Fed Shaped) → is_key (character "s") t ≡ true → letters.word ≡ word.S → letters.lost ≡ lost_by t → Begins (λ more. expanded t (word_rest opening letters.word letters.lost [] more)) new answer → Begins (λ more. next (spread_goal (Took t ∷ more)) (opened opening)) new answer
spread-word opening t letters new answer k e f later =
    begins-alike _ _ new answer (λ more. spread-begun opening t more k ∙ word-at opening t word.S letters.word (lost_by t) letters.lost more e f) later

pub spread-skip : (opening : Opening) (t : Seen) (new : ShapeScan) → is_key (character "s") t ≡ false → is_space t ≡ true → new.stage ≡ stage.Plain (plain.Spread opening) → Begins (λ more. next (spread_goal (Took t ∷ more)) (opened opening)) new (fed.More Expanded)
spread-skip opening t new k s was = plain-on _ (plain.Spread opening) new was (λ more. spread-space opening t more k s)

pub spread-not : (opening : Opening) (t : Seen) (new : ShapeScan) (answer : Fed Shaped) → is_key (character "s") t ≡ false → is_space t ≡ false → Begins (λ more. opened opening Natural (Took t ∷ more)) new answer → Begins (λ more. next (spread_goal (Took t ∷ more)) (opened opening)) new answer
spread-not opening t new answer k s later = begins-alike _ _ new answer (λ more. spread-none opening t more k s) later

-- a letter that is to come
tail_of : Word → List ℕ
tail_of word.T = []
tail_of word.S = left_of word.Sp
tail_of word.Sp = left_of word.Spr
tail_of word.Spr = left_of word.Spre
tail_of word.Spre = left_of word.Sprea
tail_of word.Sprea = []

next-letter : (opening : Opening) (w : Word) (l : Lost) (behind : List Item) (t : Seen) (more : List Item) → word_rest opening w l behind (Took t ∷ more) ≡ expanded t (cond (is_key (letter w) t) (letters_rest opening (tail_of w) (size_rest (sizing_behind w opening)) (lost_behind l t) (behind_with l behind t) more) (lost_rest opening l behind (Took t ∷ more)))
unfolding tail_of
next-letter opening word.T l behind t more = refl
next-letter opening word.S l behind t more = refl
next-letter opening word.Sp l behind t more = refl
next-letter opening word.Spr l behind t more = refl
next-letter opening word.Spre l behind t more = refl
next-letter opening word.Sprea l behind t more = refl

tail-by : (opening : Opening) (w : Word) (next_word : Option Word) (v : Word) (l : Lost) (behind : List Item) (more : List Item) → next_word ≡ longer w → next_word ≡ Some v → letters_rest opening (tail_of w) (size_rest (sizing_behind w opening)) l behind more ≡ word_rest opening v l behind more
unfolding tail_of
tail-by opening word.T next_word v l behind more e f = cc
tail-by opening word.S next_word v l behind more e f =
    let same : word.Sp ≡ v = cc in ap (λ (w : Word). word_rest opening w l behind more) same
tail-by opening word.Sp next_word v l behind more e f =
    let same : word.Spr ≡ v = cc in ap (λ (w : Word). word_rest opening w l behind more) same
tail-by opening word.Spr next_word v l behind more e f =
    let same : word.Spre ≡ v = cc in ap (λ (w : Word). word_rest opening w l behind more) same
tail-by opening word.Spre next_word v l behind more e f =
    let same : word.Sprea ≡ v = cc in ap (λ (w : Word). word_rest opening w l behind more) same
tail-by opening word.Sprea next_word v l behind more e f = cc

-- a word without a meaning is no letter
undefined-by : (u : Bool) (x : Reading Shaped) → u ≡ true → cond u (Wrong Undefined) x ≡ Wrong Undefined
undefined-by true x e = refl
undefined-by false x e = cc

pub word-undefined : (opening : Opening) (letters : Letters) (t : Seen) (new : ShapeScan) (behind : List Item) → is_undefined t ≡ true → IsRead rest held (behind_group letters.lost + 1) (λ more. word_rest opening letters.word letters.lost behind (Took t ∷ more)) (behind ++ Took t ∷ []) new (fed.Wrong Undefined)
word-undefined opening letters t new behind u = λ more. next-letter opening letters.word letters.lost behind t more ∙ undefined-by (is_undefined t) _ u

-- the next letter
letter-there : (u k : Bool) (x y : Reading Shaped) → u ≡ false → k ≡ true → cond u (Wrong Undefined) (cond k x y) ≡ x
letter-there false true x y e f = refl
letter-there true k x y e f = cc
letter-there false false x y e f = cc

group-none : (skipped begins : Bool) → behind_group (cond skipped lost.Brace (cond begins (lost.Begun 0) lost.Bare)) ≡ 0
group-none true begins = refl
group-none false true = refl
group-none false false = refl

none-by : (t : Seen) → behind_group (lost_by t) ≡ 0
none-by t = group-none (is_space t || is_relax t) (is_begin_group t)

-- the tokens that are held with it
tokens-held : (l : Lost) (behind : List Item) (t : Seen) → length behind ≤ behind_group l → behind_with l behind t ≡ ending (behind_group (lost_behind l t)) (behind ++ Took t ∷ [])
tokens-held lost.Spread behind t h = sym (ending-none (behind ++ Took t ∷ []))
tokens-held lost.Brace behind t h = sym (ap (λ (n : ℕ). ending n (behind ++ Took t ∷ [])) (none-by t) ∙ ending-none (behind ++ Took t ∷ []))
tokens-held (lost.Begun n) behind t h =
    let long : length (behind ++ Took t ∷ []) ≡ length behind + 1 = length-append behind (Took t ∷ []) in
    sym (ending-all (n + 1) (behind ++ Took t ∷ []) (omega (arith, h, long)))
tokens-held lost.Bare behind t h = sym (ending-none (behind ++ Took t ∷ []))

held-more : (l : Lost) (t : Seen) → behind_group (lost_behind l t) ≤ behind_group l + 1
held-more lost.Spread t = omega arith
held-more lost.Brace t = omega (arith, none-by t)
held-more (lost.Begun n) t = omega arith
held-more lost.Bare t = omega arith

word-unread : (opening : Opening) (w : Word) (l : Lost) (behind : List Item) → word_rest opening w l behind [] ≡ More Expanded
word-unread opening word.T l behind = refl
word-unread opening word.S l behind = refl
word-unread opening word.Sp l behind = refl
word-unread opening word.Spr l behind = refl
word-unread opening word.Spre l behind = refl
word-unread opening word.Sprea l behind = refl

letter-read : (opening : Opening) (w v : Word) (l m : Lost) (t : Seen) (behind : List Item) (more : List Item) → is_undefined t ≡ false → is_key (letter w) t ≡ true → longer w ≡ Some v → m ≡ lost_behind l t → length behind ≤ behind_group l → word_rest opening w l behind (Took t ∷ more) ≡ word_rest opening v m (ending (behind_group m) (behind ++ Took t ∷ [])) more
letter-read opening w v l m t behind more u k e f h =
    next-letter opening w l behind t more
    ∙ (letter-there (is_undefined t) (is_key (letter w) t) _ _ u k
    ∙ (tail-by opening w (longer w) v (lost_behind l t) (behind_with l behind t) more refl e
    ∙ (ap (λ (items : List Item). word_rest opening v (lost_behind l t) items more) (tokens-held l behind t h)
    ∙ ap (λ (lost : Lost). word_rest opening v lost (ending (behind_group lost) (behind ++ Took t ∷ [])) more) (sym f))))

pub word-longer : (opening : Opening) (letters read : Letters) (t : Seen) (new : ShapeScan) (behind : List Item) → is_undefined t ≡ false → is_key (letter letters.word) t ≡ true → longer letters.word ≡ Some read.word → read.lost ≡ lost_behind letters.lost t → new.stage ≡ stage.Word opening read → length behind ≤ behind_group letters.lost → IsRead rest held (behind_group letters.lost + 1) (λ more. word_rest opening letters.word letters.lost behind (Took t ∷ more)) (behind ++ Took t ∷ []) new (fed.More Expanded)
word-longer opening letters read t new behind u k e f was h =
    let few : behind_group read.lost ≤ behind_group letters.lost + 1 = rw f (held-more letters.lost t) in (
      letter-read opening letters.word read.word letters.lost read.lost t behind [] u k e f h ∙ word-unread opening read.word read.lost (ending (behind_group read.lost) (behind ++ Took t ∷ [])),
      rw was few,
      λ item more. letter-read opening letters.word read.word letters.lost read.lost t behind (item ∷ more) u k e f h ∙ ap (λ s. stage_rest s new (ending (stage_held s new) (behind ++ Took t ∷ [])) item more) (sym was),
    )

-- an optional `=`
abbrev to_box : ℕ → Bool → List Item → Reading Shaped
to_box n there rest = needed_box (Register n) rest

pub equals-on : (n : ℕ) (scan : EqualsScan) (t : Seen) (new : ShapeScan) (want : Want) → IsEqualsFed scan t (fed.More want) → new.stage ≡ stage.Plain (plain.Equals n) → Begins (λ more. register_setting n (Took t ∷ more)) new (fed.More want)
equals-on n scan t new want k was = record {
  reads = (
    ap (λ r. next r (to_box n)) (k []).0,
    rw was (omega arith),
    λ item more. ap (λ r. next r (to_box n)) ((k []).2 item more) ∙ ap (λ s. stage_rest s new (ending (stage_held s new) []) item more) (sym was),
  );
  fewer = rw was (omega arith);
}

pub equals-there : (n : ℕ) (scan : EqualsScan) (t : Seen) (new : ShapeScan) (there : Bool) (back : ℕ) → IsEqualsFed scan t (fed.Done there back) → back ≡ 0 → new.stage ≡ stage.Plain (plain.Needed (Register n)) → Begins (λ more. register_setting n (Took t ∷ more)) new (fed.More Expanded)
equals-there n scan t new there back k none was =
    plain-on _ (plain.Needed (Register n)) new was (λ more. ap (λ r. next r (to_box n)) ((k []).1 more) ∙ ap (λ (m : ℕ). needed_box (Register n) (kept m t ++ more)) none)

pub equals-before : (n : ℕ) (scan : EqualsScan) (t : Seen) (new : ShapeScan) (there : Bool) (back : ℕ) (answer : Fed Shaped) → IsEqualsFed scan t (fed.Done there back) → (back ≡ 0 → ⊥) → Begins (λ more. needed_box (Register n) (Took t ∷ more)) new answer → Begins (λ more. register_setting n (Took t ∷ more)) new answer
equals-before n scan t new there back answer k some later =
    begins-alike _ _ new answer (λ more. ap (λ r. next r (to_box n)) ((k []).1 more) ∙ ap (λ (items : List Item). needed_box (Register n) (items ++ more)) (one-kept back t some)) later

pub equals-wrong : (n : ℕ) (scan : EqualsScan) (t : Seen) (new : ShapeScan) (error : TexError) → IsEqualsFed scan t (fed.Wrong error) → Begins (λ more. register_setting n (Took t ∷ more)) new (fed.Wrong error)
equals-wrong n scan t new error k = begins-wrong _ new error (λ more. ap (λ r. next r (to_box n)) (k [] more))

-- the same before what is set
abbrev to_set : Setting → Bool → List Item → Reading Shaped
to_set what there rest = set what rest

setting-alike : (reading other : List Item → Reading Shaped) (t : Seen) (new : ShapeScan) (answer : Fed Shaped) → ((more : List Item) → reading more ≡ other more) → BeginsSetting other t new answer → BeginsSetting reading t new answer
setting-alike reading other t new answer same k = record {
  reads = same-read rest held 1 reading other (Took t ∷ []) new answer same k.reads;
  needs = k.needs;
  waits = k.waits;
}

setting-of : (reading : List Item → Reading Shaped) (t : Seen) (new : ShapeScan) (answer : Fed Shaped) → Begins reading new answer → BeginsSetting reading t new answer
setting-of reading t new answer k = record {
  reads = read-none rest held 1 reading (Took t ∷ []) new answer k.reads;
  needs = none-needs 0 (needed new) answer k.fewer;
  waits = none-waits new (needed new) answer k.fewer;
}

pub setting-on : (what : Setting) (scan : EqualsScan) (t : Seen) (new : ShapeScan) (want : Want) → IsEqualsFed scan t (fed.More want) → new.stage ≡ stage.Setting what → BeginsSetting (λ more. setting what (Took t ∷ more)) t new (fed.More want)
setting-on what scan t new want k was = record {
  reads = (
    ap (λ r. next r (to_set what)) (k []).0,
    rw was (omega arith),
    λ item more. ap (λ r. next r (to_set what)) ((k []).2 item more) ∙ ap (λ s. stage_rest s new (ending (stage_held s new) (Took t ∷ [])) item more) (sym was),
  );
  needs = rw was (omega arith);
  waits = tt;
}

set-amount : (what : Setting) (items : List Item) → set what items ≡ amount_reading (amount_of what) items
set-amount (Size size) items = refl
set-amount (Number number) items = refl

pub setting-there : (what : Setting) (scan : EqualsScan) (t : Seen) (new : ShapeScan) (there : Bool) (back : ℕ) (glue : GlueScan) → IsEqualsFed scan t (fed.Done there back) → back ≡ 0 → new ≡ begun_at (amount_of what) glue → BeginsSetting (λ more. setting what (Took t ∷ more)) t new (fed.More Expanded)
setting-there what scan t new there back glue k none was =
    setting-of _ t new (fed.More Expanded)
    (amount-on _ (amount_of what) glue new was
    (λ more. ap (λ r. next r (to_set what)) ((k []).1 more) ∙ (ap (λ (m : ℕ). set what (kept m t ++ more)) none ∙ set-amount what more)))

setting-before : (what : Setting) (scan : EqualsScan) (t : Seen) (new : ShapeScan) (there : Bool) (back : ℕ) (answer : Fed Shaped) → IsEqualsFed scan t (fed.Done there back) → (back ≡ 0 → ⊥) → BeginsSetting (λ more. set what (Took t ∷ more)) t new answer → BeginsSetting (λ more. setting what (Took t ∷ more)) t new answer
setting-before what scan t new there back answer k some later =
    setting-alike _ _ t new answer (λ more. ap (λ r. next r (to_set what)) ((k []).1 more) ∙ ap (λ (items : List Item). set what (items ++ more)) (one-kept back t some)) later

pub setting-wrong : (what : Setting) (scan : EqualsScan) (t : Seen) (new : ShapeScan) (error : TexError) → IsEqualsFed scan t (fed.Wrong error) → BeginsSetting (λ more. setting what (Took t ∷ more)) t new (fed.Wrong error)
setting-wrong what scan t new error k =
    setting-of _ t new (fed.Wrong error) (begins-wrong _ new error (λ more. ap (λ r. next r (to_set what)) (k [] more)))

-- the first token of a number or a size
amount-first : (what : Amount) (old new : ShapeScan) (glue : GlueScan) (t : Seen) (answer : Fed Shaped) → held (begun_at what glue) ≡ 0 → needed (begun_at what glue) ≡ 0 → old ≡ begun_at what glue → IsFedBy rest held old t new answer → NeedsNoMore (needed old) (needed new) answer → WaitsIfNeeded new answer → BeginsSetting (λ more. amount_reading what (Took t ∷ more)) t new answer
amount-first what old new glue t answer none few was k needs waits =
    let first : IsFedBy rest held (begun_at what glue) t new answer = rw was at k in
    let same : needed old ≡ 0 = ap (λ (scan : ShapeScan). needed scan) was ∙ few in
    let count : held (begun_at what glue) + 1 ≡ 1 = ap (λ (n : ℕ). n + 1) none in
    let h : length {A = Item} [] ≤ held (begun_at what glue) = omega arith in
    record {
      reads = same-read rest held 1 _ (λ more. rest (begun_at what glue) [] (Took t) more) (Took t ∷ []) new answer (λ more. amount-begun what (Took t) more) (subst (λ (n : ℕ). IsRead rest held n (λ more. rest (begun_at what glue) [] (Took t) more) (Took t ∷ []) new answer) count (first [] h));
      needs = subst (λ (n : ℕ). NeedsNoMore n (needed new) answer) same needs;
      waits = waits;
    }

pub setting-begun : (what : Setting) (old new : ShapeScan) (glue : GlueScan) (t : Seen) (answer : Fed Shaped) → old ≡ begun_at (amount_of what) glue → IsFedBy rest held old t new answer → NeedsNoMore (needed old) (needed new) answer → WaitsIfNeeded new answer → BeginsSetting (λ more. set what (Took t ∷ more)) t new answer
setting-begun (Size size) old new glue t answer was k needs waits =
    amount-first (amount.Size (sizing.Set size)) old new glue t answer refl refl was k needs waits
setting-begun (Number number) old new glue t answer was k needs waits =
    amount-first (amount.Number number) old new glue t answer refl refl was k needs waits

-- the same of results that aren't want of memory
pub setting-begun-ok : {E : Type 0} (what : Setting) (old new : ShapeScan) (glue : GlueScan) (t : Seen) (answer : Result (Fed Shaped) E) → old ≡ begun_at (amount_of what) glue → IfOk answer (IsFedBy rest held old t new) → IfOk answer (NeedsNoMore (needed old) (needed new)) → IfOk answer (WaitsIfNeeded new) → IfOk answer (BeginsSetting (λ more. set what (Took t ∷ more)) t new)
setting-begun-ok what old new glue t (Ok answer) was k needs waits = setting-begun what old new glue t answer was k needs waits
setting-begun-ok what old new glue t (Err error) was k needs waits = tt

pub setting-before-ok : {E : Type 0} (what : Setting) (scan : EqualsScan) (t : Seen) (new : ShapeScan) (there : Bool) (back : ℕ) (answer : Result (Fed Shaped) E) → IsEqualsFed scan t (fed.Done there back) → (back ≡ 0 → ⊥) → IfOk answer (BeginsSetting (λ more. set what (Took t ∷ more)) t new) → IfOk answer (BeginsSetting (λ more. setting what (Took t ∷ more)) t new)
setting-before-ok what scan t new there back (Ok answer) k some later = setting-before what scan t new there back answer k some later
setting-before-ok what scan t new there back (Err error) k some later = tt

pub setting-fed : {E : Type 0} (what : Setting) (old new : ShapeScan) (t : Seen) (answer : Result (Fed Shaped) E) → old.stage ≡ stage.Setting what → IfOk answer (BeginsSetting (λ more. setting what (Took t ∷ more)) t new) → IfOk answer (IsFedBy rest held old t new)
setting-fed what old new t (Ok answer) was k = fed-first rest held old t new answer (rw was refl) (rw was k.reads)
setting-fed what old new t (Err error) was k = tt

pub setting-needs : {E : Type 0} (what : Setting) (old new : ShapeScan) (t : Seen) (answer : Result (Fed Shaped) E) → old.stage ≡ stage.Setting what → IfOk answer (BeginsSetting (λ more. setting what (Took t ∷ more)) t new) → IfOk answer (NeedsNoMore (needed old) (needed new))
setting-needs what old new t (Ok answer) was k = rw was k.needs
setting-needs what old new t (Err error) was k = tt

pub setting-waits : {E : Type 0} (what : Setting) (new : ShapeScan) (t : Seen) (answer : Result (Fed Shaped) E) → IfOk answer (BeginsSetting (λ more. setting what (Took t ∷ more)) t new) → IfOk answer (WaitsIfNeeded new)
setting-waits what new t (Ok answer) k = k.waits
setting-waits what new t (Err error) k = tt

-- the font of which something is set
abbrev to_font : FontSought → FontName → List Item → Reading Shaped
to_font what f rest = set_of_font what f rest

pub font-on : (what : FontSought) (scan : FontScan) (t : Seen) (new : ShapeScan) (want : Want) → IsFontFed scan t (fed.More want) → new.stage ≡ stage.Font what → BeginsSetting (λ more. font_setting what (Took t ∷ more)) t new (fed.More want)
font-on what scan t new want k was = record {
  reads = (
    ap (λ r. next r (to_font what)) (k []).0,
    rw was (omega arith),
    λ item more. ap (λ r. next r (to_font what)) ((k []).2 item more) ∙ ap (λ s. stage_rest s new (ending (stage_held s new) (Took t ∷ [])) item more) (sym was),
  );
  needs = rw was (omega arith);
  waits = tt;
}

none-kept : (back : ℕ) (t : Seen) → back ≤ 0 → kept back t ≡ []
none-kept zero t h = refl
none-kept (suc n) t h = absurd (omega (arith, h))

pub font-done : (what : FontSought) (scan : FontScan) (t : Seen) (new : ShapeScan) (f : FontName) (back : ℕ) (answer : Fed Shaped) → IsFontFed scan t (fed.Done f back) → IsRead rest held 0 (set_of_font what f) [] new answer → NeedsNoMore 0 (needed new) answer → WaitsIfNeeded new answer → BeginsSetting (λ more. font_setting what (Took t ∷ more)) t new answer
font-done what scan t new f back answer k reads needs waits = record {
  reads = same-read rest held 1 _ (set_of_font what f) (Took t ∷ []) new answer
      (λ more. ap (λ r. next r (to_font what)) ((k []).1 more) ∙ ap (λ (items : List Item). set_of_font what f (items ++ more)) (none-kept back t (k []).0))
      (read-none rest held 1 (set_of_font what f) (Took t ∷ []) new answer reads);
  needs = needs;
  waits = waits;
}

pub font-wrong : (what : FontSought) (scan : FontScan) (t : Seen) (new : ShapeScan) (error : TexError) → IsFontFed scan t (fed.Wrong error) → BeginsSetting (λ more. font_setting what (Took t ∷ more)) t new (fed.Wrong error)
font-wrong what scan t new error k =
    setting-of _ t new (fed.Wrong error) (begins-wrong _ new error (λ more. ap (λ r. next r (to_font what)) (k [] more)))

pub font-fed : (what : FontSought) (old new : ShapeScan) (t : Seen) (answer : Fed Shaped) → old.stage ≡ stage.Font what → BeginsSetting (λ more. font_setting what (Took t ∷ more)) t new answer → IsFedBy rest held old t new answer
font-fed what old new t answer was k = fed-first rest held old t new answer (rw was refl) (rw was k.reads)

-- an optional `=` before the font of a family, and the font
abbrev to_family : MathSize → ℕ → Bool → List Item → Reading Shaped
to_family size n there rest = family_font size n rest

abbrev family_told : MathSize → ℕ → FontName → List Item → Reading Shaped
family_told size n f rest = Done (SetFamily size n f) rest

pub family-on : (size : MathSize) (n : ℕ) (scan : EqualsScan) (t : Seen) (new : ShapeScan) (want : Want) → IsEqualsFed scan t (fed.More want) → new.stage ≡ stage.Plain (plain.FamilyEquals size n) → Begins (λ more. family_setting size n (Took t ∷ more)) new (fed.More want)
family-on size n scan t new want k was = record {
  reads = (
    ap (λ r. next r (to_family size n)) (k []).0,
    rw was (omega arith),
    λ item more. ap (λ r. next r (to_family size n)) ((k []).2 item more) ∙ ap (λ s. stage_rest s new (ending (stage_held s new) []) item more) (sym was),
  );
  fewer = rw was (omega arith);
}

pub family-there : (size : MathSize) (n : ℕ) (scan : EqualsScan) (t : Seen) (new : ShapeScan) (there : Bool) (back : ℕ) → IsEqualsFed scan t (fed.Done there back) → back ≡ 0 → new.stage ≡ stage.Plain (plain.FamilyFont size n) → Begins (λ more. family_setting size n (Took t ∷ more)) new (fed.More Expanded)
family-there size n scan t new there back k none was =
    plain-on _ (plain.FamilyFont size n) new was (λ more. ap (λ r. next r (to_family size n)) ((k []).1 more) ∙ ap (λ (m : ℕ). family_font size n (kept m t ++ more)) none)

pub family-before : (size : MathSize) (n : ℕ) (scan : EqualsScan) (t : Seen) (new : ShapeScan) (there : Bool) (back : ℕ) (answer : Fed Shaped) → IsEqualsFed scan t (fed.Done there back) → (back ≡ 0 → ⊥) → Begins (λ more. family_font size n (Took t ∷ more)) new answer → Begins (λ more. family_setting size n (Took t ∷ more)) new answer
family-before size n scan t new there back answer k some later =
    begins-alike _ _ new answer (λ more. ap (λ r. next r (to_family size n)) ((k []).1 more) ∙ ap (λ (items : List Item). family_font size n (items ++ more)) (one-kept back t some)) later

pub family-wrong : (size : MathSize) (n : ℕ) (scan : EqualsScan) (t : Seen) (new : ShapeScan) (error : TexError) → IsEqualsFed scan t (fed.Wrong error) → Begins (λ more. family_setting size n (Took t ∷ more)) new (fed.Wrong error)
family-wrong size n scan t new error k = begins-wrong _ new error (λ more. ap (λ r. next r (to_family size n)) (k [] more))

pub family-font-on : (size : MathSize) (n : ℕ) (scan : FontScan) (t : Seen) (new : ShapeScan) (want : Want) → IsFontFed scan t (fed.More want) → new.stage ≡ stage.Plain (plain.FamilyFont size n) → Begins (λ more. family_font size n (Took t ∷ more)) new (fed.More want)
family-font-on size n scan t new want k was = record {
  reads = (
    ap (λ r. next r (family_told size n)) (k []).0,
    rw was (omega arith),
    λ item more. ap (λ r. next r (family_told size n)) ((k []).2 item more) ∙ ap (λ s. stage_rest s new (ending (stage_held s new) []) item more) (sym was),
  );
  fewer = rw was (omega arith);
}

pub family-font-wrong : (size : MathSize) (n : ℕ) (scan : FontScan) (t : Seen) (new : ShapeScan) (error : TexError) → IsFontFed scan t (fed.Wrong error) → Begins (λ more. family_font size n (Took t ∷ more)) new (fed.Wrong error)
family-font-wrong size n scan t new error k = begins-wrong _ new error (λ more. ap (λ r. next r (family_told size n)) (k [] more))

-- the begin-group token
brace-back : (back : ℕ) (t : Seen) → back ≤ 0 → kept back t ≡ ending back []
brace-back zero t h = refl
brace-back (suc n) t h = absurd (omega (arith, h))

pub brace-there : (opening : Opening) (goal : BoxGoal) (scan : BraceScan) (t : Seen) (new : ShapeScan) (back : ℕ) (value : Unit {0}) (shaped : Shaped) → IsBraceFed scan t (fed.Done value back) → shaped ≡ begun opening goal → Begins (λ more. opened opening goal (Took t ∷ more)) new (fed.Done shaped back)
brace-there opening goal scan t new back value shaped k same = record {
  reads = (
    (k []).0,
    λ more.
        ap (λ r. next r (λ _ rest. Done (begun opening goal) rest)) ((k []).1 more)
        ∙ (ap (λ (items : List Item). Done (begun opening goal) (items ++ more)) (brace-back back t (k []).0)
        ∙ ap (λ (what : Shaped). Done what (ending back [] ++ more)) (sym same)),
  );
  fewer = tt;
}

pub family-font-there : (size : MathSize) (n : ℕ) (scan : FontScan) (t : Seen) (new : ShapeScan) (f : FontName) (back : ℕ) → IsFontFed scan t (fed.Done f back) → Begins (λ more. family_font size n (Took t ∷ more)) new (fed.Done (SetFamily size n f) back)
family-font-there size n scan t new f back k = record {
  reads = (
    (k []).0,
    λ more.
        ap (λ r. next r (family_told size n)) ((k []).1 more)
        ∙ ap (λ (items : List Item). Done (SetFamily size n f) (items ++ more)) (brace-back back t (k []).0),
  );
  fewer = tt;
}

pub group-there : (opener : Opener) (scan : BraceScan) (t : Seen) (new : ShapeScan) (back : ℕ) (value : Unit {0}) → IsBraceFed scan t (fed.Done value back) → Begins (λ more. group_begun opener (Took t ∷ more)) new (fed.Done (Open opener) back)
group-there opener scan t new back value k = record {
  reads = (
    (k []).0,
    λ more.
        ap (λ r. next r (λ _ rest. Done (Open opener) rest)) ((k []).1 more)
        ∙ ap (λ (items : List Item). Done (Open opener) (items ++ more)) (brace-back back t (k []).0),
  );
  fewer = tt;
}
