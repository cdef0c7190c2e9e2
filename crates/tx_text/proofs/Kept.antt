-- What is read stays a macro's.
use Rattle.std.proofs.Common.{◌≡◌, ℕ, zero, suc, ◌-◌, ◌≤◌, ◌==◌, ◌&&◌, Bool, true, false, not, cond, IsTrue, List, [], ◌∷◌, ◌++◌, length, refl, sym, subst, ap, ◌∙◌, arith, set, get_or}
use Rattle.std.specs.List.{list_all}
use Rattle.std.proofs.lemmas.Bool.{eqb-true}
use Rattle.std.proofs.lemmas.List.{length-set}
use Rattle.tx_char.specs.declared.category.Cat.{Cat}
use Rattle.tx_char.specs.declared.category.Cat.TheVariants.{Escape, BeginGroup, EndGroup, MathShift, AlignmentTab, EndOfLine, Parameter, Superscript, Subscript, Ignored, Space, Letter, Other, Active, Comment, Invalid}
use Rattle.tx_char.specs.declared.tokens.Token.{Token}
use Rattle.tx_char.specs.declared.tokens.Token.TheVariants.{Character, Name, FrozenRelax, FontIdentifier}
use Rattle.tx_toklist.specs.Bodies.{BodyText}
use Rattle.tx_toklist.specs.Macros.{Parameters, is_begin, is_begin_category, is_delimiter, is_end, is_end_category, is_known, last_delimiter, with_token}
use Rattle.tx_text.specs.declared.stages.Stage.{Stage}
use Rattle.tx_text.specs.declared.stages.Stage.TheVariants.{Body}
use Rattle.tx_text.specs.Definitions.{is_braceless, is_heading, is_plain, IsSound}

both : (a b : Bool) → (a && b) ≡ true → (a ≡ true) × (b ≡ true)
both true b h = (refl, h)
both false b h = absurd (cc h)

join : (a b : Bool) → a ≡ true → b ≡ true → (a && b) ≡ true
join true b h k = k
join false b h k = absurd (cc h)

all-get : (p : List Token → Bool) (ls : List (List Token)) (i : ℕ) → list_all p ls ≡ true → p [] ≡ true → p (get_or ls i []) ≡ true
all-get p [] i h e = e
all-get p (l ∷ ls) zero h e = (both (p l) (list_all p ls) h).0
all-get p (l ∷ ls) (suc i) h e = all-get p ls i (both (p l) (list_all p ls) h).1 e

all-set : (p : List Token → Bool) (ls : List (List Token)) (i : ℕ) (new : List Token) → list_all p ls ≡ true → p new ≡ true → list_all p (set ls i new) ≡ true
all-set p [] i new h e = refl
all-set p (l ∷ ls) zero new h e = join (p new) (list_all p ls) e (both (p l) (list_all p ls) h).1
all-set p (l ∷ ls) (suc i) new h e = join (p l) (list_all p (set ls i new)) (both (p l) (list_all p ls) h).0 (all-set p ls i new (both (p l) (list_all p ls) h).1 e)

plain-push : (ts : List Token) (t : Token) → is_plain ts ≡ true → is_braceless t ≡ true → is_plain (ts ++ t ∷ []) ≡ true
plain-push [] t h e = join (is_braceless t) true e refl
plain-push (u ∷ ts) t h e = join (is_braceless u) (is_plain (ts ++ t ∷ [])) (both (is_braceless u) (is_plain ts) h).0 (plain-push ts t (both (is_braceless u) (is_plain ts) h).1 e)

-- where all before it are braceless, one token more may stand behind a parameter that is no end-group token
delimiter-push : (ts : List Token) (t : Token) → is_plain ts ≡ true → not (is_end t) ≡ true → is_delimiter (ts ++ t ∷ []) ≡ true
delimiter-push [] t h e = e
delimiter-push (u ∷ []) t h e =
    let b : is_braceless u ≡ true = (both (is_braceless u) true h).0 in
    let c : (not (is_begin u) ≡ true) × (not (is_end u) ≡ true) = both (not (is_begin u)) (not (is_end u)) b in
    join (not (is_end u)) (not (is_begin u) && not (is_end t)) c.1 (join (not (is_begin u)) (not (is_end t)) c.0 e)
delimiter-push (u ∷ v ∷ ts) t h e =
    let b : (is_braceless u ≡ true) × (is_plain (v ∷ ts) ≡ true) = both (is_braceless u) (is_plain (v ∷ ts)) h in
    let c : (not (is_begin u) ≡ true) × (not (is_end u) ≡ true) = both (not (is_begin u)) (not (is_end u)) b.0 in
    join (not (is_end u)) (not (is_begin u) && is_delimiter ((v ∷ ts) ++ t ∷ [])) c.1 (join (not (is_begin u)) (is_delimiter ((v ∷ ts) ++ t ∷ [])) c.0 (delimiter-push (v ∷ ts) t b.1 e))

plain-delimits : (ts : List Token) → is_plain ts ≡ true → is_delimiter ts ≡ true
plain-delimits [] h = refl
plain-delimits (u ∷ []) h =
    let b : is_braceless u ≡ true = (both (is_braceless u) true h).0 in
    (both (not (is_begin u)) (not (is_end u)) b).1
plain-delimits (u ∷ v ∷ ts) h =
    let b : (is_braceless u ≡ true) × (is_plain (v ∷ ts) ≡ true) = both (is_braceless u) (is_plain (v ∷ ts)) h in
    let c : (not (is_begin u) ≡ true) × (not (is_end u) ≡ true) = both (not (is_begin u)) (not (is_end u)) b.0 in
    join (not (is_end u)) (not (is_begin u) && is_delimiter (v ∷ ts)) c.1 (join (not (is_begin u)) (is_delimiter (v ∷ ts)) c.0 (plain-delimits (v ∷ ts) b.1))

all-delimit : (ls : List (List Token)) → list_all is_plain ls ≡ true → list_all is_delimiter ls ≡ true
all-delimit [] h = refl
all-delimit (l ∷ ls) h =
    let b : (is_plain l ≡ true) × (list_all is_plain ls ≡ true) = both (is_plain l) (list_all is_plain ls) h in
    join (is_delimiter l) (list_all is_delimiter ls) (plain-delimits l b.0) (all-delimit ls b.1)

-- a token at the end, by whether there is no parameter yet
abbrev put_by : Bool → Parameters → Token → Parameters
put_by b p t = cond b (record { before = p.before ++ t ∷ []; delimiters = [] }) (record { before = p.before; delimiters = set p.delimiters (length p.delimiters - 1) (last_delimiter p ++ t ∷ []) })

-- all lists of tokens of a parameter text
abbrev texts : Parameters → List (List Token)
texts p = p.before ∷ p.delimiters

texts-by : (b : Bool) (p : Parameters) (t : Token) (test : List Token → Bool) → list_all test (texts p) ≡ true → ((ts : List Token) → is_plain ts ≡ true → test (ts ++ t ∷ []) ≡ true) → list_all is_plain (texts p) ≡ true → list_all test (texts (put_by b p t)) ≡ true
texts-by true p t test h push plain =
    join (test (p.before ++ t ∷ [])) true (push p.before (both (is_plain p.before) (list_all is_plain p.delimiters) plain).0) refl
texts-by false p t test h push plain =
    let b : (test p.before ≡ true) × (list_all test p.delimiters ≡ true) = both (test p.before) (list_all test p.delimiters) h in
    let q : (is_plain p.before ≡ true) × (list_all is_plain p.delimiters ≡ true) = both (is_plain p.before) (list_all is_plain p.delimiters) plain in
    let i : ℕ = length p.delimiters - 1 in
    join (test p.before) (list_all test (set p.delimiters i (get_or p.delimiters i [] ++ t ∷ []))) b.0
    (all-set test p.delimiters i (get_or p.delimiters i [] ++ t ∷ []) b.1 (push (get_or p.delimiters i []) (all-get is_plain p.delimiters i q.1 refl)))

with-token-all : (p : Parameters) (t : Token) (test : List Token → Bool) → list_all test (texts p) ≡ true → ((ts : List Token) → is_plain ts ≡ true → test (ts ++ t ∷ []) ≡ true) → list_all is_plain (texts p) ≡ true → list_all test (texts (with_token p t)) ≡ true
with-token-all p t test h push plain = texts-by (length p.delimiters == 0) p t test h push plain

-- a token that is no brace keeps a parameter text plain
still-plain : (p : Parameters) (t : Token) → list_all is_plain (texts p) ≡ true → is_braceless t ≡ true → list_all is_plain (texts (with_token p t)) ≡ true
still-plain p t plain e = with-token-all p t is_plain plain (λ ts h. plain-push ts t h e) plain

-- what is plain delimits, also with one token more that is no end-group token
delimits : (p : Parameters) → list_all is_plain (texts p) ≡ true → list_all is_delimiter (texts p) ≡ true
delimits p plain = all-delimit (texts p) plain

still-delimits : (p : Parameters) (t : Token) → list_all is_plain (texts p) ≡ true → not (is_end t) ≡ true → list_all is_delimiter (texts (with_token p t)) ≡ true
still-delimits p t plain e = with-token-all p t is_delimiter (delimits p plain) (λ ts h. delimiter-push ts t h e) plain

-- a token more changes nothing of how many parameters there are
count-by : (b : Bool) (p : Parameters) (t : Token) → (length p.delimiters == 0) ≡ b → length (put_by b p t).delimiters ≡ length p.delimiters
count-by true p t h = sym (eqb-true (length p.delimiters) 0 h)
count-by false p t h = length-set p.delimiters (length p.delimiters - 1) _

token-count : (p : Parameters) (t : Token) → length (with_token p t).delimiters ≡ length p.delimiters
token-count p t = count-by (length p.delimiters == 0) p t refl

category-begins : (kind : Cat) → is_begin_category kind ≡ true → not (is_end_category kind) ≡ true
category-begins Escape h = refl
category-begins BeginGroup h = refl
category-begins EndGroup h = absurd (cc h)
category-begins MathShift h = refl
category-begins AlignmentTab h = refl
category-begins EndOfLine h = refl
category-begins Parameter h = refl
category-begins Superscript h = refl
category-begins Subscript h = refl
category-begins Ignored h = refl
category-begins Space h = refl
category-begins Letter h = refl
category-begins Other h = refl
category-begins Active h = refl
category-begins Comment h = refl
category-begins Invalid h = refl

-- a begin-group token is no end-group token
begin-no-end : (t : Token) → is_begin t ≡ true → not (is_end t) ≡ true
begin-no-end (Character code kind) h = category-begins kind h
begin-no-end (Name name) h = refl
begin-no-end FrozenRelax h = refl
begin-no-end (FontIdentifier font) h = refl

by-token : (p : Parameters) (signs : List ℕ) (body : BodyText) (stage now : Stage) (t : Token) → IsSound p signs body stage → IsTrue (is_heading stage) → not (is_end t) ≡ true → (IsTrue (is_heading now) → is_braceless t ≡ true) → IsSound (with_token p t) signs body now
by-token p signs body stage now t s heading no-end braceless = record {
  sound = record {
    nine = let n : length p.delimiters ≤ 9 = s.sound.nine in omega (arith, token-count p t);
    signed = s.sound.signed ∙ sym (token-count p t);
    delimits = still-delimits p t (s.plain heading) no-end;
    known = ap (λ n. list_all (is_known n) body.slots) (token-count p t) ∙ s.sound.known;
  };
  bare = λ h. s.bare heading;
  plain = λ h. still-plain p t (s.plain heading) (braceless h);
}

-- a token of a parameter text keeps it sound
pub token-sound : (p new : Parameters) (signs : List ℕ) (body : BodyText) (stage : Stage) (t : Token) → IsSound p signs body stage → IsTrue (is_heading stage) → is_begin t ≡ false → is_end t ≡ false → new ≡ with_token p t → IsSound new signs body stage
token-sound p new signs body stage t s heading b e is =
    let no-begin : not (is_begin t) ≡ true = ap not b in
    let no-end : not (is_end t) ≡ true = ap not e in
    subst (λ (n : Parameters). IsSound n signs body stage) (sym is) (by-token p signs body stage stage t s heading no-end (λ h. join (not (is_begin t)) (not (is_end t)) no-begin no-end))

-- so does the begin-group token that ends it
pub begin-sound : (p new : Parameters) (signs : List ℕ) (body : BodyText) (stage : Stage) (t : Token) → IsSound p signs body stage → IsTrue (is_heading stage) → is_begin t ≡ true → new ≡ with_token p t → IsSound new signs body (Body 0)
begin-sound p new signs body stage t s heading b is =
    subst (λ (n : Parameters). IsSound n signs body (Body 0)) (sym is) (by-token p signs body stage (Body 0) t s heading (begin-no-end t b) (λ h. absurd (cc h)))
