-- A use stands among tokens in one way.
use Rattle.std.proofs.Common.{◌≡◌, ℕ, ◌≤◌, ◌<◌, not, Bool, true, false, ◌&&◌, ◌==◌, List, [], ◌∷◌, ◌++◌, length, take, drop, refl, ap, sym, subst, ◌∙◌, arith, ◌⊎◌, inl, inr}
use Rattle.std.specs.List.{list_all}
use Rattle.std.proofs.lemmas.List.{take-append-le}
use Rattle.std.proofs.Math.Seq.{take-append_seam, drop-append_seam}
use Rattle.std.proofs.lemmas.Bool.Decides.{leb_tells}
use Rattle.tx_char.specs.declared.category.Cat.{Cat}
use Rattle.tx_char.specs.declared.category.Cat.TheVariants.{Escape, BeginGroup, EndGroup, MathShift, AlignmentTab, EndOfLine, Parameter, Superscript, Subscript, Ignored, Space, Letter, Other, Active, Comment, Invalid}
use Rattle.tx_char.specs.declared.tokens.Token.{Token}
use Rattle.tx_char.specs.declared.tokens.Token.TheVariants.{Character, Name, FrozenRelax, FontIdentifier}
use Rattle.tx_toklist.specs.Macros.{Definition, is_begin, is_begin_category, is_end}
use Rattle.tx_macro.specs.Tokens.{is_space, is_space_category}
use Rattle.tx_macro.specs.Arguments.{common, depth_after, is_balanced, is_refused, level, stays_open, without_braces}
use Rattle.tx_macro.specs.Standing.{IsArgument, IsShortest, Single, Braced, Delimited, AreArguments, Without, With, IsUse}
use Rattle.tx_macro.proofs.Takings.{common-whole, eqb-same}
use Rattle.tx_macro.proofs.Standings.{alike, parts}

not-true : (a : Bool) → not a ≡ true → a ≡ false
not-true true h = absurd (let r : false ≡ true = h in cc)
not-true false h = refl

apart : (b : Bool) → b ≡ true → b ≡ false → ⊥
apart b p q = let r : true ≡ false = sym p ∙ q in absurd (cc)

record Alone (tokens text rest : List Token) : Type 0 where
  spaces : List Token
  t : Token
  tokens_are : tokens ≡ spaces ++ t ∷ rest
  text_is : text ≡ t ∷ []
  blank : list_all is_space spaces ≡ true
  visible : is_space t ≡ false
  plain : is_begin t ≡ false

record Grouped (tokens text rest : List Token) : Type 0 where
  spaces : List Token
  opening : Token
  closing : Token
  tokens_are : tokens ≡ spaces ++ opening ∷ (text ++ closing ∷ rest)
  blank : list_all is_space spaces ≡ true
  begins : is_begin opening ≡ true
  balanced : is_balanced text ≡ true
  ends : is_end closing ≡ true

record Bounded (delimiter tokens text rest : List Token) : Type 0 where
  raw : List Token
  tokens_are : tokens ≡ raw ++ (delimiter ++ rest)
  text_is : text ≡ without_braces raw
  balanced : is_balanced raw ≡ true
  shortest : IsShortest delimiter raw tokens

abbrev Shape : List Token → List Token → List Token → List Token → Type 0
Shape [] tokens text rest = Alone tokens text rest ⊎ Grouped tokens text rest
Shape (d ∷ delimiter) tokens text rest = Bounded (d ∷ delimiter) tokens text rest

shape-of : (long : Bool) (delimiter tokens text rest : List Token) → IsArgument long delimiter tokens text rest → Shape delimiter tokens text rest
shape-of long _ _ _ _ (Single spaces t rest blank single) =
    let last = not (is_end t) && not (is_refused long t) in
    let p : (not (is_space t) ≡ true) × ((not (is_begin t) && last) ≡ true) = parts (not (is_space t)) (not (is_begin t) && last) single in
    let q : (not (is_begin t) ≡ true) × (last ≡ true) = parts (not (is_begin t)) last p.1 in
    inl (record { spaces = spaces; t = t; tokens_are = refl; text_is = refl; blank = blank; visible = not-true (is_space t) p.0; plain = not-true (is_begin t) q.0 })
shape-of long _ _ _ _ (Braced spaces opening text closing rest blank begins balanced free ends) =
    inr (record { spaces = spaces; opening = opening; closing = closing; tokens_are = refl; blank = blank; begins = begins; balanced = balanced; ends = ends })
shape-of long _ _ _ _ (Delimited d delimiter text rest balanced allowed shortest) =
    record { raw = text; tokens_are = refl; text_is = refl; balanced = balanced; shortest = shortest }

-- a token that begins a group is no space
begin-kind : (kind : Cat) → is_begin_category kind ≡ true → is_space_category kind ≡ false
begin-kind Space h = absurd (let r : false ≡ true = h in cc)
begin-kind Escape h = refl
begin-kind BeginGroup h = refl
begin-kind EndGroup h = refl
begin-kind MathShift h = refl
begin-kind AlignmentTab h = refl
begin-kind EndOfLine h = refl
begin-kind Parameter h = refl
begin-kind Superscript h = refl
begin-kind Subscript h = refl
begin-kind Ignored h = refl
begin-kind Letter h = refl
begin-kind Other h = refl
begin-kind Active h = refl
begin-kind Comment h = refl
begin-kind Invalid h = refl

begin-visible : (t : Token) → is_begin t ≡ true → is_space t ≡ false
begin-visible (Character code kind) h = begin-kind kind h
begin-visible (Name name) h = refl
begin-visible FrozenRelax h = refl
begin-visible (FontIdentifier font) h = refl

-- the first token but for spaces is one
first-visible : (s s' : List Token) (t t' : Token) (u u' : List Token) → list_all is_space s ≡ true → list_all is_space s' ≡ true → is_space t ≡ false → is_space t' ≡ false → s ++ t ∷ u ≡ s' ++ t' ∷ u' → (t ≡ t') × (u ≡ u')
first-visible [] [] t t' u u' p p' q q' h = (cc, cc)
first-visible [] (x ∷ s') t t' u u' p p' q q' h =
    let e : t ≡ x = cc in
    absurd (apart (is_space x) (parts (is_space x) (list_all is_space s') p').0 (ap is_space (sym e) ∙ q))
first-visible (x ∷ s) [] t t' u u' p p' q q' h =
    let e : x ≡ t' = cc in
    absurd (apart (is_space x) (parts (is_space x) (list_all is_space s) p).0 (ap is_space e ∙ q'))
first-visible (x ∷ s) (y ∷ s') t t' u u' p p' q q' h =
    let e : s ++ t ∷ u ≡ s' ++ t' ∷ u' = cc in
    first-visible s s' t t' u u' (parts (is_space x) (list_all is_space s) p).1 (parts (is_space y) (list_all is_space s') p').1 q q' e

-- the end of a group is one
closed-before : (depth : ℕ) (y : Token) (b : List Token) → depth ≡ 0 → is_end y ≡ true → stays_open depth (y ∷ b) ≡ true → ⊥
closed-before depth y b flat ends h =
    let p : (is_end y && depth == 0) ≡ true = ap (λ x. x && depth == 0) ends ∙ eqb-same depth 0 flat in
    let q : not (is_end y && depth == 0) ≡ true = (parts (not (is_end y && depth == 0)) (stays_open (level depth y) b) h).0 in
    apart (is_end y && depth == 0) p (not-true (is_end y && depth == 0) q)

one-group : (depth : ℕ) (a b : List Token) (c c' : Token) (u u' : List Token) → stays_open depth a ≡ true → depth_after depth a ≡ 0 → stays_open depth b ≡ true → depth_after depth b ≡ 0 → is_end c ≡ true → is_end c' ≡ true → a ++ c ∷ u ≡ b ++ c' ∷ u' → (a ≡ b) × (u ≡ u')
one-group depth [] [] c c' u u' o d o' d' e e' h = (refl, cc)
one-group depth [] (y ∷ b) c c' u u' o d o' d' e e' h =
    let same : c ≡ y = cc in
    absurd (closed-before depth y b d (ap is_end (sym same) ∙ e) o')
one-group depth (x ∷ a) [] c c' u u' o d o' d' e e' h =
    let same : x ≡ c' = cc in
    absurd (closed-before depth x a d' (ap is_end same ∙ e') o)
one-group depth (x ∷ a) (y ∷ b) c c' u u' o d o' d' e e' h =
    let same : y ≡ x = cc in
    let rest : a ++ c ∷ u ≡ b ++ c' ∷ u' = cc in
    let there : stays_open (level depth x) b ≡ true = subst (λ (t : Token). stays_open (level depth t) b ≡ true) same (parts (not (is_end y && depth == 0)) (stays_open (level depth y) b) o').1 in
    let flat : depth_after (level depth x) b ≡ 0 = subst (λ (t : Token). depth_after (level depth t) b ≡ 0) same d' in
    let s : (a ≡ b) × (u ≡ u') = one-group (level depth x) a b c c' u u' (parts (not (is_end x && depth == 0)) (stays_open (level depth x) a) o).1 d there flat e e' rest in
    (let r : a ≡ b = s.0 in cc, s.1)

-- the first place of a delimiter outside of groups is one
no-shorter : (d tokens text rest text' rest' : List Token) → tokens ≡ text ++ (d ++ rest) → tokens ≡ text' ++ (d ++ rest') → is_balanced text ≡ true → IsShortest d text' tokens → length text < length text' → ⊥
no-shorter d tokens text rest text' rest' is is' balanced shortest less =
    let k = length text in
    let front : take k text' ≡ text = sym (take-append-le k text' (d ++ rest') (omega arith)) ∙ ap (take k) (sym is' ∙ is) ∙ take-append_seam text (d ++ rest) in
    let flat : depth_after 0 (take k text') ≡ 0 = ap (depth_after 0) front ∙ alike (depth_after 0 text) 0 (parts (stays_open 0 text) (depth_after 0 text == 0) balanced).1 in
    let there : common d (drop k tokens) ≡ length d = ap (λ (u : List Token). common d (drop k u)) is ∙ ap (common d) (drop-append_seam text (d ++ rest)) ∙ common-whole d rest in
    shortest k less flat there

one-bounded : (d tokens text rest text' rest' : List Token) → tokens ≡ text ++ (d ++ rest) → tokens ≡ text' ++ (d ++ rest') → length text ≡ length text' → (text ≡ text') × (rest ≡ rest')
one-bounded d tokens text rest text' rest' is is' same =
    let front : text ≡ text' = sym (take-append_seam text (d ++ rest)) ∙ ap (take (length text)) (sym is ∙ is') ∙ ap (λ n. take n (text' ++ (d ++ rest'))) same ∙ take-append_seam text' (d ++ rest') in
    let left : d ++ rest ≡ d ++ rest' = sym (drop-append_seam text (d ++ rest)) ∙ ap (drop (length text)) (sym is ∙ is') ∙ ap (λ n. drop n (text' ++ (d ++ rest'))) same ∙ drop-append_seam text' (d ++ rest') in
    (front, sym (drop-append_seam d rest) ∙ ap (drop (length d)) left ∙ drop-append_seam d rest')

one-delimited : (d tokens text rest text' rest' : List Token) → Bounded d tokens text rest → Bounded d tokens text' rest' → (text ≡ text') × (rest ≡ rest')
one-delimited d tokens text rest text' rest' a b = elim (leb_tells (length a.raw) (length b.raw)) [
  | inl p ↦ elim (leb_tells (length b.raw) (length a.raw)) [
    | inl q ↦
        let le : length a.raw ≤ length b.raw = p.1 in
        let ge : length b.raw ≤ length a.raw = q.1 in
        let s : (a.raw ≡ b.raw) × (rest ≡ rest') = one-bounded d tokens a.raw rest b.raw rest' a.tokens_are b.tokens_are (omega arith) in
        (a.text_is ∙ ap without_braces s.0 ∙ sym b.text_is, s.1)
    | inr q ↦ absurd (no-shorter d tokens a.raw rest b.raw rest' a.tokens_are b.tokens_are a.balanced b.shortest q.1)
  ]
  | inr p ↦ absurd (no-shorter d tokens b.raw rest' a.raw rest b.tokens_are a.tokens_are b.balanced a.shortest p.1)
]

one-undelimited : (tokens text rest text' rest' : List Token) → Alone tokens text rest ⊎ Grouped tokens text rest → Alone tokens text' rest' ⊎ Grouped tokens text' rest' → (text ≡ text') × (rest ≡ rest')
one-undelimited tokens text rest text' rest' (inl a) (inl b) =
    let s : (a.t ≡ b.t) × (rest ≡ rest') = first-visible a.spaces b.spaces a.t b.t rest rest' a.blank b.blank a.visible b.visible (sym a.tokens_are ∙ b.tokens_are) in
    (a.text_is ∙ ap (λ (t : Token). t ∷ []) s.0 ∙ sym b.text_is, s.1)
one-undelimited tokens text rest text' rest' (inl a) (inr b) =
    let s : (a.t ≡ b.opening) × (rest ≡ text' ++ b.closing ∷ rest') = first-visible a.spaces b.spaces a.t b.opening rest (text' ++ b.closing ∷ rest') a.blank b.blank a.visible (begin-visible b.opening b.begins) (sym a.tokens_are ∙ b.tokens_are) in
    absurd (apart (is_begin b.opening) b.begins (ap is_begin (sym s.0) ∙ a.plain))
one-undelimited tokens text rest text' rest' (inr a) (inl b) =
    let s : (a.opening ≡ b.t) × (text ++ a.closing ∷ rest ≡ rest') = first-visible a.spaces b.spaces a.opening b.t (text ++ a.closing ∷ rest) rest' a.blank b.blank (begin-visible a.opening a.begins) b.visible (sym a.tokens_are ∙ b.tokens_are) in
    absurd (apart (is_begin a.opening) a.begins (ap is_begin s.0 ∙ b.plain))
one-undelimited tokens text rest text' rest' (inr a) (inr b) =
    let s : (a.opening ≡ b.opening) × (text ++ a.closing ∷ rest ≡ text' ++ b.closing ∷ rest') = first-visible a.spaces b.spaces a.opening b.opening (text ++ a.closing ∷ rest) (text' ++ b.closing ∷ rest') a.blank b.blank (begin-visible a.opening a.begins) (begin-visible b.opening b.begins) (sym a.tokens_are ∙ b.tokens_are) in
    let p : (stays_open 0 text ≡ true) × ((depth_after 0 text == 0) ≡ true) = parts (stays_open 0 text) (depth_after 0 text == 0) a.balanced in
    let q : (stays_open 0 text' ≡ true) × ((depth_after 0 text' == 0) ≡ true) = parts (stays_open 0 text') (depth_after 0 text' == 0) b.balanced in
    one-group 0 text text' a.closing b.closing rest rest' p.0 (alike (depth_after 0 text) 0 p.1) q.0 (alike (depth_after 0 text') 0 q.1) a.ends b.ends s.1

one-argument : (long : Bool) (delimiter tokens text rest text' rest' : List Token) → IsArgument long delimiter tokens text rest → IsArgument long delimiter tokens text' rest' → (text ≡ text') × (rest ≡ rest')
one-argument long [] tokens text rest text' rest' a b = one-undelimited tokens text rest text' rest' (shape-of long [] tokens text rest a) (shape-of long [] tokens text' rest' b)
one-argument long (d ∷ delimiter) tokens text rest text' rest' a b = one-delimited (d ∷ delimiter) tokens text rest text' rest' (shape-of long (d ∷ delimiter) tokens text rest a) (shape-of long (d ∷ delimiter) tokens text' rest' b)

record First (long : Bool) (delimiter : List Token) (delimiters : List (List Token)) (tokens : List Token) (texts : List (List Token)) (rest : List Token) : Type 0 where
  text : List Token
  behind : List Token
  mine : List (List Token)
  texts_are : texts ≡ text ∷ mine
  is : IsArgument long delimiter tokens text behind
  are : AreArguments long delimiters behind mine rest

abbrev Row : Bool → List (List Token) → List Token → List (List Token) → List Token → Type 0
Row long [] tokens texts rest = (texts ≡ []) × (tokens ≡ rest)
Row long (delimiter ∷ delimiters) tokens texts rest = First long delimiter delimiters tokens texts rest

row-of : (long : Bool) (delimiters : List (List Token)) (tokens : List Token) (texts : List (List Token)) (rest : List Token) → AreArguments long delimiters tokens texts rest → Row long delimiters tokens texts rest
row-of long _ _ _ _ (Without rest) = (refl, refl)
row-of long _ _ _ _ (With delimiter delimiters tokens text behind texts rest is are) = record { text = text; behind = behind; mine = texts; texts_are = refl; is = is; are = are }

one-row : (long : Bool) (delimiters : List (List Token)) (tokens : List Token) (texts : List (List Token)) (rest : List Token) (texts' : List (List Token)) (rest' : List Token) → AreArguments long delimiters tokens texts rest → AreArguments long delimiters tokens texts' rest' → (texts ≡ texts') × (rest ≡ rest')
one-row long [] tokens texts rest texts' rest' a b =
    let r : (texts ≡ []) × (tokens ≡ rest) = row-of long [] tokens texts rest a in
    let s : (texts' ≡ []) × (tokens ≡ rest') = row-of long [] tokens texts' rest' b in
    (r.0 ∙ sym s.0, sym r.1 ∙ s.1)
one-row long (delimiter ∷ delimiters) tokens texts rest texts' rest' a b =
    let r : First long delimiter delimiters tokens texts rest = row-of long (delimiter ∷ delimiters) tokens texts rest a in
    let s : First long delimiter delimiters tokens texts' rest' = row-of long (delimiter ∷ delimiters) tokens texts' rest' b in
    let one : (r.text ≡ s.text) × (r.behind ≡ s.behind) = one-argument long delimiter tokens r.text r.behind s.text s.behind r.is s.is in
    let more : (r.mine ≡ s.mine) × (rest ≡ rest') = one-row long delimiters s.behind r.mine rest s.mine rest' (subst (λ (u : List Token). AreArguments long delimiters u r.mine rest) one.1 r.are) s.are in
    (r.texts_are ∙ cons-same r.text s.text r.mine s.mine one.0 more.0 ∙ sym s.texts_are, more.1)
  where
    cons-same : (x y : List Token) (xs ys : List (List Token)) → x ≡ y → xs ≡ ys → x ∷ xs ≡ y ∷ ys
    cons-same x y xs ys p q = cc

pub one-use : (m : Definition) (tokens : List Token) (texts : List (List Token)) (rest : List Token) (texts' : List (List Token)) (rest' : List Token) → IsUse m tokens texts rest → IsUse m tokens texts' rest' → (texts ≡ texts') × (rest ≡ rest')
one-use m tokens texts rest texts' rest' a b =
    let d = m.parameters.before in
    let same : a.0 ≡ b.0 = sym (drop-append_seam d a.0) ∙ ap (drop (length d)) (sym a.1.0 ∙ b.1.0) ∙ drop-append_seam d b.0 in
    one-row m.long m.parameters.delimiters b.0 texts rest texts' rest' (subst (λ (u : List Token). AreArguments m.long m.parameters.delimiters u texts rest) same a.1.1) b.1.1
