-- A use that fits stands among its tokens as the relation says.
use Rattle.std.proofs.Common.{◌≡◌, ◌≢◌, ℕ, zero, suc, ◌-◌, ◌<◌, max, not, Bool, true, false, cond, ◌&&◌, ◌==◌, List, [], ◌∷◌, ◌++◌, length, take, drop, refl, ap, sym, subst, ◌∙◌, arith, ◌⊎◌, inl, inr}
use Rattle.std.specs.List.{list_all}
use Rattle.std.proofs.lemmas.List.{append_assoc, append-nil}
use Rattle.std.proofs.lemmas.Bool.Decides.{eqb_tells}
use Rattle.tx_char.specs.declared.tokens.Token.{Token}
use Rattle.tx_toklist.specs.Macros.{Definition, is_begin, is_end}
use Rattle.tx_seen.specs.declared.error.TexError.{TexError}
use Rattle.tx_seen.specs.declared.error.TexError.TheVariants.{ParagraphInArgument, GroupEndInArgument, UseDiffers}
use Rattle.tx_macro.specs.Tokens.{is_space}
use Rattle.tx_macro.specs.Arguments.{Taken, Unfinished, Argument, Broken, argument, common, delimited, depth_after, group, is_balanced, is_refused, level, stays_open, undelimited, without_braces}
use Rattle.tx_macro.specs.Matching.{Open, Fits, Fails, behind, arguments, use_of}
use Rattle.tx_macro.specs.Standing.{IsArgument, Single, Braced, Delimited, AreArguments, Without, With, IsUse, is_allowed, is_free, is_single}
use Rattle.tx_macro.proofs.Same.{token-tells}
use Rattle.tx_macro.proofs.Slides.{bool-cases, unlike}

both : (a b : Bool) → a ≡ true → b ≡ true → (a && b) ≡ true
both a b p q = ap (λ t. t && b) p ∙ q

pub parts : (a b : Bool) → (a && b) ≡ true → (a ≡ true) × (b ≡ true)
parts true b h = (refl, h)
parts false b h = absurd (let r : false ≡ true = h in cc)

pub alike : (a b : ℕ) → (a == b) ≡ true → a ≡ b
alike a b h = elim (eqb_tells a b) [ inl p ↦ p.1 | inr p ↦ absurd (let r : false ≡ true = sym p.0 ∙ h in cc) ]

pub unalike : (a b : ℕ) → (a == b) ≡ false → a ≢ b
unalike a b h = elim (eqb_tells a b) [ inl p ↦ absurd (let r : true ≡ false = sym p.0 ∙ h in cc) | inr p ↦ p.1 ]

-- tokens that agree with a list as a whole begin with it
common-prefix : (d tokens : List Token) → common d tokens ≡ length d → tokens ≡ d ++ drop (length d) tokens
common-prefix [] tokens h = refl
common-prefix (y ∷ d) [] h = absurd (omega arith)
common-prefix (y ∷ d) (t ∷ tokens) h = elim (token-tells y t) [
  | inl p ↦
      let e : common (y ∷ d) (t ∷ tokens) ≡ suc (common d tokens) = ap (λ b. cond b (suc (common d tokens)) 0) p.0 in
      let r : tokens ≡ d ++ drop (length d) tokens = common-prefix d tokens (omega arith) in
      cc (p.1, r)
  | inr p ↦
      let e : common (y ∷ d) (t ∷ tokens) ≡ 0 = ap (λ b. cond b (suc (common d tokens)) 0) p.0 in
      absurd (omega arith)
]

-- the text of an argument that goes on behind some text at some depth, and the delimiter behind it
record Stands (long : Bool) (d tokens : List Token) (depth : ℕ) (before text rest : List Token) : Type 0 where
  raw : List Token
  tokens_are : tokens ≡ raw ++ (d ++ rest)
  text_is : text ≡ without_braces (before ++ raw)
  opens : stays_open depth raw ≡ true
  closes : depth_after depth raw ≡ 0
  allowed : is_allowed long depth raw ≡ true
  shortest : (k : ℕ) → k < length raw → depth_after depth (take k raw) ≡ 0 → common d (drop k tokens) ≢ length d

extended : (long : Bool) (d tokens : List Token) (depth : ℕ) (before text rest : List Token) (t : Token) → Stands long d tokens (level depth t) (before ++ t ∷ []) text rest → (depth ≡ 0 → common d (t ∷ tokens) ≢ length d) → (is_end t && depth == 0) ≡ false → (is_refused long t && not (depth == 0)) ≡ false → Stands long d (t ∷ tokens) depth before text rest
extended long d tokens depth before text rest t s later stays free = record {
  raw = t ∷ s.raw;
  tokens_are = ap (λ u. t ∷ u) s.tokens_are;
  text_is = s.text_is ∙ ap without_braces (append_assoc before (t ∷ []) s.raw);
  opens = both (not (is_end t && depth == 0)) (stays_open (level depth t) s.raw) (ap not stays) s.opens;
  closes = s.closes;
  allowed = both (not (is_refused long t && not (depth == 0))) (is_allowed long (level depth t) s.raw) (ap not free) s.allowed;
  shortest = nowhere;
}
  where
    nowhere : (k : ℕ) → k < length (t ∷ s.raw) → depth_after depth (take k (t ∷ s.raw)) ≡ 0 → common d (drop k (t ∷ tokens)) ≢ length d
    nowhere zero h flat = later flat
    nowhere (suc k) h flat = s.shortest k (omega arith) flat

first-no : (a b : Bool) → a ≡ false → (a && b) ≡ false
first-no a b h = ap (λ x. x && b) h

pub second-no : (a b : Bool) → b ≡ false → (a && b) ≡ false
second-no true b h = h
second-no false b h = refl

delimited-stands : (long : Bool) (d before : List Token) (agreed depth : ℕ) (tokens text rest : List Token) → delimited long d before agreed depth tokens ≡ Argument text rest → Stands long d tokens depth before text rest
delimited-stands long d before agreed depth [] text rest h = absurd (let r : Unfinished ≡ Argument text rest = h in cc)
delimited-stands long d before agreed (suc depth) (t ∷ tokens) text rest h =
    let on = delimited long d (before ++ t ∷ []) 0 (level (suc depth) t) tokens in
    elim (bool-cases (is_refused long t)) [
      | inl p ↦ absurd (let r : Broken ParagraphInArgument ≡ Argument text rest = sym (ap (λ b. cond b (Broken ParagraphInArgument) on) p) ∙ h in cc)
      | inr p ↦
          let r : on ≡ Argument text rest = sym (ap (λ b. cond b (Broken ParagraphInArgument) on) p) ∙ h in
          extended long d tokens (suc depth) before text rest t (delimited-stands long d (before ++ t ∷ []) 0 (level (suc depth) t) tokens text rest r) (λ z. absurd (omega arith)) (second-no (is_end t) (suc depth == 0) (unlike (suc depth) 0 (λ (q : suc depth ≡ 0). omega arith))) (first-no (is_refused long t) (not (suc depth == 0)) p)
    ]
delimited-stands long d before agreed zero (t ∷ tokens) text rest h =
    let n = common d (t ∷ tokens) in
    let on = delimited long d (before ++ t ∷ []) (max agreed n - 1) (level 0 t) tokens in
    let third = cond (is_end t) (Broken GroupEndInArgument) on in
    let second = cond (is_refused long t && (max agreed n == 0)) (Broken ParagraphInArgument) third in
    let first = cond (n == length (t ∷ tokens)) Unfinished second in
    elim (bool-cases (n == length d)) [
      | inl p ↦
          let r : Argument (without_braces before) (drop (length d) (t ∷ tokens)) ≡ Argument text rest = sym (ap (λ b. cond b (Argument (without_braces before) (drop (length d) (t ∷ tokens))) first) p) ∙ h in
          let same : without_braces before ≡ text = cc in
          let left : drop (length d) (t ∷ tokens) ≡ rest = cc in
          record {
            raw = [];
            tokens_are = common-prefix d (t ∷ tokens) (alike n (length d) p) ∙ ap (λ u. d ++ u) left;
            text_is = sym same ∙ ap without_braces (sym (append-nil before));
            opens = refl;
            closes = refl;
            allowed = refl;
            shortest = λ k none. absurd (omega arith);
          }
      | inr p ↦
          let r1 : first ≡ Argument text rest = sym (ap (λ b. cond b (Argument (without_braces before) (drop (length d) (t ∷ tokens))) first) p) ∙ h in
          elim (bool-cases (n == length (t ∷ tokens))) [
            | inl q ↦ absurd (let r : Unfinished ≡ Argument text rest = sym (ap (λ b. cond b Unfinished second) q) ∙ r1 in cc)
            | inr q ↦
                let r2 : second ≡ Argument text rest = sym (ap (λ b. cond b Unfinished second) q) ∙ r1 in
                elim (bool-cases (is_refused long t && (max agreed n == 0))) [
                  | inl u ↦ absurd (let r : Broken ParagraphInArgument ≡ Argument text rest = sym (ap (λ b. cond b (Broken ParagraphInArgument) third) u) ∙ r2 in cc)
                  | inr u ↦
                      let r3 : third ≡ Argument text rest = sym (ap (λ b. cond b (Broken ParagraphInArgument) third) u) ∙ r2 in
                      elim (bool-cases (is_end t)) [
                        | inl v ↦ absurd (let r : Broken GroupEndInArgument ≡ Argument text rest = sym (ap (λ b. cond b (Broken GroupEndInArgument) on) v) ∙ r3 in cc)
                        | inr v ↦
                            let r4 : on ≡ Argument text rest = sym (ap (λ b. cond b (Broken GroupEndInArgument) on) v) ∙ r3 in
                            extended long d tokens 0 before text rest t (delimited-stands long d (before ++ t ∷ []) (max agreed n - 1) (level 0 t) tokens text rest r4) (λ _. unalike n (length d) p) (first-no (is_end t) true v) (second-no (is_refused long t) false refl)
                      ]
                ]
          ]
    ]

-- the text of a group that goes on at some depth, and its end behind it
record StandsBraced (long : Bool) (tokens : List Token) (depth : ℕ) (before text rest : List Token) : Type 0 where
  raw : List Token
  closing : Token
  tokens_are : tokens ≡ raw ++ closing ∷ rest
  text_is : text ≡ before ++ raw
  opens : stays_open depth raw ≡ true
  closes : depth_after depth raw ≡ 0
  free : is_free long raw ≡ true
  ends : is_end closing ≡ true

group-stands : (long : Bool) (depth : ℕ) (before tokens text rest : List Token) → group long depth before tokens ≡ Argument text rest → StandsBraced long tokens depth before text rest
group-stands long depth before [] text rest h = absurd (let r : Unfinished ≡ Argument text rest = h in cc)
group-stands long depth before (t ∷ tokens) text rest h =
    let on = group long (level depth t) (before ++ t ∷ []) tokens in
    let first = cond (is_end t && depth == 0) (Argument before tokens) on in
    elim (bool-cases (is_refused long t)) [
      | inl p ↦ absurd (let r : Broken ParagraphInArgument ≡ Argument text rest = sym (ap (λ b. cond b (Broken ParagraphInArgument) first) p) ∙ h in cc)
      | inr p ↦
          let r1 : first ≡ Argument text rest = sym (ap (λ b. cond b (Broken ParagraphInArgument) first) p) ∙ h in
          elim (bool-cases (is_end t && depth == 0)) [
            | inl q ↦
                let r2 : Argument before tokens ≡ Argument text rest = sym (ap (λ b. cond b (Argument before tokens) on) q) ∙ r1 in
                let same : before ≡ text = cc in
                let left : tokens ≡ rest = cc in
                let both_are : (is_end t ≡ true) × ((depth == 0) ≡ true) = parts (is_end t) (depth == 0) q in
                record {
                  raw = [];
                  closing = t;
                  tokens_are = ap (λ u. t ∷ u) left;
                  text_is = sym same ∙ sym (append-nil before);
                  opens = refl;
                  closes = alike depth 0 both_are.1;
                  free = refl;
                  ends = both_are.0;
                }
            | inr q ↦
                let r2 : on ≡ Argument text rest = sym (ap (λ b. cond b (Argument before tokens) on) q) ∙ r1 in
                let s : StandsBraced long tokens (level depth t) (before ++ t ∷ []) text rest = group-stands long (level depth t) (before ++ t ∷ []) tokens text rest r2 in
                record {
                  raw = t ∷ s.raw;
                  closing = s.closing;
                  tokens_are = ap (λ u. t ∷ u) s.tokens_are;
                  text_is = s.text_is ∙ append_assoc before (t ∷ []) s.raw;
                  opens = both (not (is_end t && depth == 0)) (stays_open (level depth t) s.raw) (ap not q) s.opens;
                  closes = s.closes;
                  free = both (not (is_refused long t)) (is_free long s.raw) (ap not p) s.free;
                  ends = s.ends;
                }
          ]
    ]

-- the first token but for spaces
record Spaced (long : Bool) (tokens text rest : List Token) : Type 0 where
  spaces : List Token
  t : Token
  beyond : List Token
  tokens_are : tokens ≡ spaces ++ t ∷ beyond
  blank : list_all is_space spaces ≡ true
  other : is_space t ≡ false
  same : undelimited long (t ∷ beyond) ≡ Argument text rest

spaced : (long : Bool) (tokens text rest : List Token) → undelimited long tokens ≡ Argument text rest → Spaced long tokens text rest
spaced long [] text rest h = absurd (let r : Unfinished ≡ Argument text rest = h in cc)
spaced long (t ∷ tokens) text rest h = elim (bool-cases (is_space t)) [
  | inl p ↦
      let r : undelimited long tokens ≡ Argument text rest = sym (ap (λ b. cond b (undelimited long tokens) (cond (is_begin t) (group long 0 [] tokens) (cond (is_end t) (Broken GroupEndInArgument) (cond (is_refused long t) (Broken ParagraphInArgument) (Argument (t ∷ []) tokens))))) p) ∙ h in
      let s : Spaced long tokens text rest = spaced long tokens text rest r in
      record {
        spaces = t ∷ s.spaces;
        t = s.t;
        beyond = s.beyond;
        tokens_are = ap (λ u. t ∷ u) s.tokens_are;
        blank = both (is_space t) (list_all is_space s.spaces) p s.blank;
        other = s.other;
        same = s.same;
      }
  | inr p ↦ record { spaces = []; t = t; beyond = tokens; tokens_are = refl; blank = refl; other = p; same = h }
]

undelimited-stands : (long : Bool) (tokens text rest : List Token) → undelimited long tokens ≡ Argument text rest → IsArgument long [] tokens text rest
undelimited-stands long tokens text rest h =
    let s : Spaced long tokens text rest = spaced long tokens text rest h in
    let t = s.t in
    let last = cond (is_refused long t) (Broken ParagraphInArgument) (Argument (t ∷ []) s.beyond) in
    let third = cond (is_end t) (Broken GroupEndInArgument) last in
    let second = cond (is_begin t) (group long 0 [] s.beyond) third in
    let r : second ≡ Argument text rest = sym (ap (λ b. cond b (undelimited long s.beyond) second) s.other) ∙ s.same in
    elim (bool-cases (is_begin t)) [
      | inl p ↦
          let r1 : group long 0 [] s.beyond ≡ Argument text rest = sym (ap (λ b. cond b (group long 0 [] s.beyond) third) p) ∙ r in
          let g : StandsBraced long s.beyond 0 [] text rest = group-stands long 0 [] s.beyond text rest r1 in
          let whole : tokens ≡ s.spaces ++ t ∷ (g.raw ++ g.closing ∷ rest) = s.tokens_are ∙ ap (λ u. s.spaces ++ t ∷ u) g.tokens_are in
          let balanced : is_balanced g.raw ≡ true = both (stays_open 0 g.raw) (depth_after 0 g.raw == 0) g.opens (ap (λ n. n == 0) g.closes) in
          let is : IsArgument long [] (s.spaces ++ t ∷ (g.raw ++ g.closing ∷ rest)) g.raw rest = Braced s.spaces t g.raw g.closing rest s.blank p balanced g.free g.ends in
          subst (λ (u : List Token). IsArgument long [] u text rest) (sym whole) (subst (λ (u : List Token). IsArgument long [] (s.spaces ++ t ∷ (g.raw ++ g.closing ∷ rest)) u rest) (sym g.text_is) is)
      | inr p ↦
          let r1 : third ≡ Argument text rest = sym (ap (λ b. cond b (group long 0 [] s.beyond) third) p) ∙ r in
          elim (bool-cases (is_end t)) [
            | inl q ↦ absurd (let r2 : Broken GroupEndInArgument ≡ Argument text rest = sym (ap (λ b. cond b (Broken GroupEndInArgument) last) q) ∙ r1 in cc)
            | inr q ↦
                let r2 : last ≡ Argument text rest = sym (ap (λ b. cond b (Broken GroupEndInArgument) last) q) ∙ r1 in
                elim (bool-cases (is_refused long t)) [
                  | inl u ↦ absurd (let r3 : Broken ParagraphInArgument ≡ Argument text rest = sym (ap (λ b. cond b (Broken ParagraphInArgument) (Argument (t ∷ []) s.beyond)) u) ∙ r2 in cc)
                  | inr u ↦
                      let r3 : Argument (t ∷ []) s.beyond ≡ Argument text rest = sym (ap (λ b. cond b (Broken ParagraphInArgument) (Argument (t ∷ []) s.beyond)) u) ∙ r2 in
                      let same : t ∷ [] ≡ text = cc in
                      let left : s.beyond ≡ rest = cc in
                      let single : is_single long t ≡ true = both (not (is_space t)) (not (is_begin t) && (not (is_end t) && not (is_refused long t))) (ap not s.other) (both (not (is_begin t)) (not (is_end t) && not (is_refused long t)) (ap not p) (both (not (is_end t)) (not (is_refused long t)) (ap not q) (ap not u))) in
                      let is : IsArgument long [] (s.spaces ++ t ∷ rest) (t ∷ []) rest = Single s.spaces t rest s.blank single in
                      let whole : tokens ≡ s.spaces ++ t ∷ rest = s.tokens_are ∙ ap (λ v. s.spaces ++ t ∷ v) left in
                      subst (λ (v : List Token). IsArgument long [] v text rest) (sym whole) (subst (λ (v : List Token). IsArgument long [] (s.spaces ++ t ∷ rest) v rest) same is)
                ]
          ]
    ]

argument-stands : (long : Bool) (delimiter tokens text rest : List Token) → argument long delimiter tokens ≡ Argument text rest → IsArgument long delimiter tokens text rest
argument-stands long [] tokens text rest h = undelimited-stands long tokens text rest h
argument-stands long (d ∷ delimiter) tokens text rest h =
    let s : Stands long (d ∷ delimiter) tokens 0 [] text rest = delimited-stands long (d ∷ delimiter) [] 0 0 tokens text rest h in
    let balanced : is_balanced s.raw ≡ true = both (stays_open 0 s.raw) (depth_after 0 s.raw == 0) s.opens (ap (λ n. n == 0) s.closes) in
    let whole = s.raw ++ (d ∷ delimiter ++ rest) in
    let is : IsArgument long (d ∷ delimiter) whole (without_braces s.raw) rest = Delimited d delimiter s.raw rest balanced s.allowed (subst (λ (u : List Token). (k : ℕ) → k < length s.raw → depth_after 0 (take k s.raw) ≡ 0 → common (d ∷ delimiter) (drop k u) ≢ length (d ∷ delimiter)) s.tokens_are s.shortest) in
    subst (λ (u : List Token). IsArgument long (d ∷ delimiter) u text rest) (sym s.tokens_are) (subst (λ (u : List Token). IsArgument long (d ∷ delimiter) whole u rest) (sym s.text_is) is)

-- what may come of an argument
pub taken-cases : (x : Taken) → (x ≡ Unfinished) ⊎ (((error : TexError) × (x ≡ Broken error)) ⊎ ((text : List Token) × (rest : List Token) × (x ≡ Argument text rest)))
taken-cases Unfinished = inl refl
taken-cases (Broken error) = inr (inl (error, refl))
taken-cases (Argument text rest) = inr (inr (text, rest, refl))

arguments-stand : (long : Bool) (taken : List (List Token)) (delimiters : List (List Token)) (tokens : List Token) (texts : List (List Token)) → arguments long taken delimiters tokens ≡ Fits texts → (rest : List Token) × (mine : List (List Token)) × ((texts ≡ taken ++ mine) × AreArguments long delimiters tokens mine rest)
arguments-stand long taken [] tokens texts h =
    let same : taken ≡ texts = let r : Fits taken ≡ Fits texts = h in cc in
    (tokens, [], (sym same ∙ sym (append-nil taken), Without tokens))
arguments-stand long taken (delimiter ∷ delimiters) tokens texts h =
    let on = λ (text rest : List Token). arguments long (taken ++ text ∷ []) delimiters rest in
    elim (taken-cases (argument long delimiter tokens)) [
      | inl p ↦ absurd (let r : Open ≡ Fits texts = sym (ap (behind on) p) ∙ h in cc)
      | inr (inl p) ↦ absurd (let r : Fails p.0 ≡ Fits texts = sym (ap (behind on) p.1) ∙ h in cc)
      | inr (inr p) ↦
          let text = p.0 in
          let beyond = p.1 in
          let r : arguments long (taken ++ text ∷ []) delimiters beyond ≡ Fits texts = sym (ap (behind on) p.2) ∙ h in
          let s : (rest : List Token) × (mine : List (List Token)) × ((texts ≡ (taken ++ text ∷ []) ++ mine) × AreArguments long delimiters beyond mine rest) = arguments-stand long (taken ++ text ∷ []) delimiters beyond texts r in
          (s.0, text ∷ s.1, (s.2.0 ∙ append_assoc taken (text ∷ []) s.1, With delimiter delimiters tokens text beyond s.1 s.0 (argument-stands long delimiter tokens text beyond p.2) s.2.1))
    ]

pub use-stands : (m : Definition) (tokens : List Token) (texts : List (List Token)) → use_of m tokens ≡ Fits texts → (rest : List Token) × IsUse m tokens texts rest
use-stands m tokens texts h =
    let d = m.parameters.before in
    let beyond = drop (length d) tokens in
    let whole = arguments m.long [] m.parameters.delimiters beyond in
    let other = cond (common d tokens == length tokens) Open (Fails UseDiffers) in
    elim (bool-cases (common d tokens == length d)) [
      | inl p ↦
          let r : whole ≡ Fits texts = sym (ap (λ b. cond b whole other) p) ∙ h in
          let s : (rest : List Token) × (mine : List (List Token)) × ((texts ≡ [] ++ mine) × AreArguments m.long m.parameters.delimiters beyond mine rest) = arguments-stand m.long [] m.parameters.delimiters beyond texts r in
          (s.0, (beyond, (common-prefix d tokens (alike (common d tokens) (length d) p), subst (λ (u : List (List Token)). AreArguments m.long m.parameters.delimiters beyond u s.0) (sym s.2.0) s.2.1)))
      | inr p ↦
          let r : other ≡ Fits texts = sym (ap (λ b. cond b whole other) p) ∙ h in
          elim (bool-cases (common d tokens == length tokens)) [
            | inl q ↦ absurd (let r1 : Open ≡ Fits texts = sym (ap (λ b. cond b Open (Fails UseDiffers)) q) ∙ r in cc)
            | inr q ↦ absurd (let r1 : Fails UseDiffers ≡ Fits texts = sym (ap (λ b. cond b Open (Fails UseDiffers)) q) ∙ r in cc)
          ]
    ]
