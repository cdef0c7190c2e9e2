-- The words `to` and `spread`, letter by letter.
use Rattle.std.proofs.Common.{◌≡◌, ℕ, ◌&&◌, ◌||◌, not, Bool, true, false, if◌then◌else◌, List, [], ◌∷◌, ◌++◌, append_assoc, codes, refl, ap, sym, ◌∙◌, arith}
use Rattle.tx_char.specs.Character.{character}
use Rattle.tx_char.specs.declared.tokens.Token.{Token}
use Rattle.tx_char.specs.declared.tokens.Token.TheVariants as token
use Rattle.tx_char.specs.declared.category.Cat.TheVariants.{Active}
use Rattle.tx_seen.specs.declared.error.TexError.TheVariants.{Undefined, MissingBeginGroup}
use Rattle.tx_seen.specs.declared.item.Item.{Item}
use Rattle.tx_seen.specs.declared.item.Item.TheVariants.{Took, Gave}
use Rattle.tx_seen.specs.declared.meaning.Meaning.{Meaning}
use Rattle.tx_seen.specs.declared.seen.Seen.{Seen}
use Rattle.tx_seen.specs.Seen.{is_key, is_undefined, is_space, is_relax, is_begin_group}
use Rattle.tx_seen.specs.Readings.{Reading, Done, Wrong, next}
use Rattle.tx_scan.specs.Grammars.{left_brace}
use Rattle.tx_scan.specs.Dimensions.{dimension, lengths}
use Rattle.tx_scan.specs.Integers.{expanded}
use Rattle.tx_scan.specs.Keywords.{keyword, letters}
use Rattle.tx_shape.specs.declared.scans.Opening.{Opening}
use Rattle.tx_shape.specs.declared.scans.Sizing.TheVariants as sizing
use Rattle.tx_shape.specs.declared.types.BoxGoal.TheVariants.{Natural}
use Rattle.tx_shape.specs.declared.types.Shaped.{Shaped}
use Rattle.tx_shape.specs.declared.words.Lost.{Lost}
use Rattle.tx_shape.specs.declared.words.Lost.TheVariants as lost
use Rattle.tx_shape.specs.declared.words.Word.TheVariants as word
use Rattle.tx_shape.specs.Boxes.{begun, box_begin, opened, spread_goal, spread_or_natural, to_or_not}
use Rattle.tx_shape.specs.Rests.{behind_with, letters_rest, lost_rest, size_rest, word_rest}
use Rattle.tx_shape.specs.Words.{lost_behind, lost_by, lost_to}
use Rattle.tx_shape.proofs.Parts.{next-made}

-- no token is both letters
key-once : (t : Token) (m : Meaning) → is_key (character "t") (record { token = t; meaning = m }) ≡ true → is_key (character "s") (record { token = t; meaning = m }) ≡ false
key-once (token.Character code Active) m h = refl
key-once (token.Character code _) m h = grind arith
key-once (token.Name name) m h = refl
key-once token.FrozenRelax m h = refl
key-once (token.FontIdentifier font) m h = refl

-- a token where a begin-group token is to be
by-group : (opening : Opening) (u skipped begins : Bool) (xs : List Item) → u ≡ false → next (if u then Wrong Undefined else if skipped then left_brace xs else if begins then Done tt xs else Wrong MissingBeginGroup) (λ _ rest. Done (begun opening Natural) rest) ≡ lost_rest opening (if skipped then lost.Brace else if begins then lost.Begun 0 else lost.Bare) [] xs
by-group opening true skipped begins xs e = cc
by-group opening false true begins xs e = refl
by-group opening false false true xs e = refl
by-group opening false false false xs e = refl

pub group-lost : (opening : Opening) (t : Seen) (xs : List Item) → is_undefined t ≡ false → opened opening Natural (Took t ∷ xs) ≡ lost_rest opening (lost_by t) [] xs
group-lost opening t xs u = by-group opening (is_undefined t) (is_space t || is_relax t) (is_begin_group t) xs u

-- a token that is to be expanded
pub expanded-by : {A B : Type 0} (f : Reading A → Reading B) → f (Wrong Undefined) ≡ Wrong Undefined → (u : Bool) (x : Reading A) (y : Reading B) → (u ≡ false → f x ≡ y) → f (if u then Wrong Undefined else x) ≡ (if u then Wrong Undefined else y)
expanded-by f wrong true x y same = wrong
expanded-by f wrong false x y same = same refl

pub letter-by : {A B : Type 0} (f : Reading A → Reading B) → f (Wrong Undefined) ≡ Wrong Undefined → (u k : Bool) (x y : Reading A) (v w : Reading B) → (u ≡ false → f x ≡ v) → f y ≡ w → f (if u then Wrong Undefined else if k then x else y) ≡ (if u then Wrong Undefined else if k then v else w)
letter-by f wrong true k x y v w is other = wrong
letter-by f wrong false true x y v w is other = is refl
letter-by f wrong false false x y v w is other = other

-- the first token where a word may come
keyed : (s k u : Bool) (x y z : Reading Bool) → k ≡ true → (if s && not k then x else if u then Wrong Undefined else if k then y else z) ≡ (if u then Wrong Undefined else y)
keyed true true u x y z e = refl
keyed false true u x y z e = refl
keyed s false u x y z e = cc

spaced : (s k : Bool) (x y : Reading Bool) → s ≡ true → k ≡ false → (if s && not k then x else y) ≡ x
spaced true false x y e f = refl
spaced true true x y e f = cc
spaced false k x y e f = cc

unkeyed : (s k u : Bool) (x y z : Reading Bool) → s ≡ false → k ≡ false → (if s && not k then x else if u then Wrong Undefined else if k then y else z) ≡ (if u then Wrong Undefined else z)
unkeyed false false u x y z e f = refl
unkeyed false true u x y z e f = cc
unkeyed true k u x y z e f = cc

pub keyword-key : (c : ℕ) (word : List ℕ) (t : Seen) (more : List Item) → is_key c t ≡ true → keyword (c ∷ word) (Took t ∷ more) ≡ expanded t (letters word (Took t ∷ more) more)
keyword-key c word t more k = keyed (is_space t) (is_key c t) (is_undefined t) _ _ _ k

pub keyword-space : (c : ℕ) (word : List ℕ) (t : Seen) (more : List Item) → is_space t ≡ true → is_key c t ≡ false → keyword (c ∷ word) (Took t ∷ more) ≡ keyword (c ∷ word) more
keyword-space c word t more s k = spaced (is_space t) (is_key c t) _ _ s k

pub keyword-other : (c : ℕ) (word : List ℕ) (t : Seen) (more : List Item) → is_space t ≡ false → is_key c t ≡ false → keyword (c ∷ word) (Took t ∷ more) ≡ expanded t (Done false (Took t ∷ more))
keyword-other c word t more s k = unkeyed (is_space t) (is_key c t) (is_undefined t) _ _ _ s k

-- whether letters are skipped where `spread` may come, too
abbrev IsNoSpread : Lost → Type 0
IsNoSpread lost.Spread = ⊥
IsNoSpread lost.Brace = Unit {0}
IsNoSpread (lost.Begun n) = Unit {0}
IsNoSpread lost.Bare = Unit {0}

group-by : (skipped begins : Bool) → IsNoSpread (if skipped then lost.Brace else if begins then lost.Begun 0 else lost.Bare)
group-by true begins = tt
group-by false true = tt
group-by false false = tt

pub no-spread : (t : Seen) → IsNoSpread (lost_by t)
no-spread t = group-by (is_space t || is_relax t) (is_begin_group t)

no-spread-behind : (l : Lost) (t : Seen) → IsNoSpread l → IsNoSpread (lost_behind l t)
no-spread-behind lost.Spread t k = k
no-spread-behind lost.Brace t k = no-spread t
no-spread-behind (lost.Begun n) t k = tt
no-spread-behind lost.Bare t k = tt

-- one letter more
letter-lost : (opening : Opening) (l : Lost) (behind : List Item) (t : Seen) (xs : List Item) → IsNoSpread l → is_undefined t ≡ false → lost_rest opening l behind (Took t ∷ xs) ≡ lost_rest opening (lost_behind l t) (behind_with l behind t) xs
letter-lost opening lost.Spread behind t xs k u = absurd k
letter-lost opening lost.Brace behind t xs k u = group-lost opening t xs u
letter-lost opening (lost.Begun n) behind t xs k u = ap (λ (ys : List Item). Done (begun opening Natural) ys) (sym (append_assoc behind (Took t ∷ []) xs))
letter-lost opening lost.Bare behind t xs k u = refl

-- the letters of `spread` that are to come
abbrev spread_on : Opening → Reading Bool → Reading Shaped
spread_on opening r = next (next r spread_or_natural) (opened opening)

pub spread-letters : (opening : Opening) (word : List ℕ) (before : List Item) (l : Lost) (behind : List Item) (items : List Item) → IsNoSpread l → ((xs : List Item) → opened opening Natural (before ++ xs) ≡ lost_rest opening l behind xs) → spread_on opening (letters word (before ++ items) items) ≡ letters_rest opening word (size_rest (sizing.Spread opening)) l behind items
spread-letters opening [] before l behind items k same = next-made (dimension lengths items) _ (opened opening)
spread-letters opening (c ∷ word) before l behind [] k same = refl
spread-letters opening (c ∷ word) before l behind (Gave v ∷ rest) k same = same (Gave v ∷ rest)
spread-letters opening (c ∷ word) before l behind (Took t ∷ rest) k same =
    letter-by (spread_on opening) refl (is_undefined t) (is_key c t) (letters word (before ++ Took t ∷ rest) rest) (Done false (before ++ Took t ∷ rest)) _ _
    (λ u.
    ap (λ (whole : List Item). spread_on opening (letters word whole rest)) (sym (append_assoc before (Took t ∷ []) rest))
    ∙ spread-letters opening word (before ++ Took t ∷ []) (lost_behind l t) (behind_with l behind t) rest (no-spread-behind l t k)
    (λ xs. ap (opened opening Natural) (append_assoc before (Took t ∷ []) xs) ∙ (same (Took t ∷ xs) ∙ letter-lost opening l behind t xs k u)))
    (same (Took t ∷ rest))

-- the first letter of `spread`
pub spread-begun : (opening : Opening) (t : Seen) (more : List Item) → is_key (character "s") t ≡ true → next (spread_goal (Took t ∷ more)) (opened opening) ≡ expanded t (word_rest opening word.S (lost_by t) [] more)
spread-begun opening t more k =
    ap (spread_on opening) (keyword-key (character "s") (codes "pread") t more k)
    ∙ expanded-by (spread_on opening) refl (is_undefined t) (letters (codes "pread") (Took t ∷ more) more) _
    (λ u. spread-letters opening (codes "pread") (Took t ∷ []) (lost_by t) [] more (no-spread t) (λ xs. group-lost opening t xs u))

pub spread-space : (opening : Opening) (t : Seen) (more : List Item) → is_key (character "s") t ≡ false → is_space t ≡ true → next (spread_goal (Took t ∷ more)) (opened opening) ≡ next (spread_goal more) (opened opening)
spread-space opening t more k s = ap (spread_on opening) (keyword-space (character "s") (codes "pread") t more s k)

-- no word
brace-undefined : (opening : Opening) (u : Bool) (x : Reading (Unit {0})) → u ≡ true → Wrong Undefined ≡ next (if u then Wrong Undefined else x) (λ _ rest. Done (begun opening Natural) rest)
brace-undefined opening true x e = refl
brace-undefined opening false x e = cc

unspread : (opening : Opening) (t : Seen) (more : List Item) (u : Bool) → is_undefined t ≡ u → spread_on opening (if u then Wrong Undefined else Done false (Took t ∷ more)) ≡ opened opening Natural (Took t ∷ more)
unspread opening t more true e = brace-undefined opening (is_undefined t) _ e
unspread opening t more false e = refl

pub spread-none : (opening : Opening) (t : Seen) (more : List Item) → is_key (character "s") t ≡ false → is_space t ≡ false → next (spread_goal (Took t ∷ more)) (opened opening) ≡ opened opening Natural (Took t ∷ more)
spread-none opening t more k s =
    ap (spread_on opening) (keyword-other (character "s") (codes "pread") t more s k) ∙ unspread opening t more (is_undefined t) refl

-- the letters of `to`
abbrev to_on : Opening → Reading Bool → Reading Shaped
to_on opening r = next (next r to_or_not) (opened opening)

to-letters : (opening : Opening) (before : List Item) (l : Lost) (items : List Item) → ((xs : List Item) → next (spread_goal (before ++ xs)) (opened opening) ≡ lost_rest opening l [] xs) → to_on opening (letters (codes "o") (before ++ items) items) ≡ word_rest opening word.T l [] items
to-letters opening before l [] same = refl
to-letters opening before l (Gave v ∷ rest) same = same (Gave v ∷ rest)
to-letters opening before l (Took t ∷ rest) same =
    letter-by (to_on opening) refl (is_undefined t) (is_key (character "o") t) (Done true rest) (Done false (before ++ Took t ∷ rest)) _ _
    (λ u. next-made (dimension lengths rest) _ (opened opening)) (same (Took t ∷ rest))

-- where it breaks off behind its first letter
lead-by : (opening : Opening) (t : Seen) (xs : List Item) (s : Bool) → is_space t ≡ s → is_undefined t ≡ false → is_key (character "s") t ≡ false → next (spread_goal (Took t ∷ xs)) (opened opening) ≡ lost_rest opening (if s then lost.Spread else lost_by t) [] xs
lead-by opening t xs true s u k = spread-space opening t xs k s
lead-by opening t xs false s u k = spread-none opening t xs k s ∙ group-lost opening t xs u

pub to-begun : (opening : Opening) (t : Seen) (more : List Item) → is_key (character "t") t ≡ true → box_begin opening (Took t ∷ more) ≡ expanded t (word_rest opening word.T (lost_to t) [] more)
to-begun opening t more k =
    ap (to_on opening) (keyword-key (character "t") (codes "o") t more k)
    ∙ expanded-by (to_on opening) refl (is_undefined t) (letters (codes "o") (Took t ∷ more) more) _
    (λ u. to-letters opening (Took t ∷ []) (lost_to t) more (λ xs. lead-by opening t xs (is_space t) refl u (key-once t.token t.meaning k)))

pub to-space : (opening : Opening) (t : Seen) (more : List Item) → is_key (character "t") t ≡ false → is_space t ≡ true → box_begin opening (Took t ∷ more) ≡ box_begin opening more
to-space opening t more k s = ap (to_on opening) (keyword-space (character "t") (codes "o") t more s k)

-- no `to`
pub letters-undefined : (s k u : Bool) (x y z : Reading Bool) → s ≡ false → u ≡ true → (if s && not k then x else if u then Wrong Undefined else if k then y else z) ≡ Wrong Undefined
letters-undefined false k true x y z e f = refl
letters-undefined false k false x y z e f = cc
letters-undefined true k u x y z e f = cc

spread-undefined : (opening : Opening) (t : Seen) (more : List Item) → is_undefined t ≡ true → is_space t ≡ false → Wrong Undefined ≡ next (spread_goal (Took t ∷ more)) (opened opening)
spread-undefined opening t more u s =
    sym (ap (spread_on opening) (letters-undefined (is_space t) (is_key (character "s") t) (is_undefined t) _ _ _ s u))

untoed : (opening : Opening) (t : Seen) (more : List Item) (u : Bool) → is_undefined t ≡ u → is_space t ≡ false → to_on opening (if u then Wrong Undefined else Done false (Took t ∷ more)) ≡ next (spread_goal (Took t ∷ more)) (opened opening)
untoed opening t more true e s = spread-undefined opening t more e s
untoed opening t more false e s = refl

pub to-none : (opening : Opening) (t : Seen) (more : List Item) → is_key (character "t") t ≡ false → is_space t ≡ false → box_begin opening (Took t ∷ more) ≡ next (spread_goal (Took t ∷ more)) (opened opening)
to-none opening t more k s =
    ap (to_on opening) (keyword-other (character "t") (codes "o") t more s k) ∙ untoed opening t more (is_undefined t) refl s
