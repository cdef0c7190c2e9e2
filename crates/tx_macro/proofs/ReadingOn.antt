-- What fits or fails does so with more tokens behind it, and what is open can be made to fit.
use Rattle.std.proofs.Common.{◌≡◌, ◌≢◌, ℕ, zero, suc, ◌+◌, ◌-◌, ◌≤◌, max, Bool, true, false, cond, ◌&&◌, ◌==◌, List, [], ◌∷◌, ◌++◌, length, drop, refl, ap, sym, subst, ◌∙◌, arith, inl, inr}
use Rattle.std.proofs.lemmas.List.{length-append, drop-append-le}
use Rattle.tx_char.specs.declared.tokens.Token.{Token}
use Rattle.tx_toklist.specs.Macros.{Definition, is_begin, is_end}
use Rattle.tx_seen.specs.declared.error.TexError.{TexError}
use Rattle.tx_seen.specs.declared.error.TexError.TheVariants.{ParagraphInArgument, GroupEndInArgument, UseDiffers}
use Rattle.tx_macro.specs.Tokens.{is_space}
use Rattle.tx_macro.specs.Arguments.{Taken, Unfinished, Argument, Broken, argument, common, delimited, group, is_refused, level, undelimited, without_braces}
use Rattle.tx_macro.specs.Matching.{Use, Open, Fails, ReadsOn, behind, arguments, use_of}
use Rattle.tx_macro.proofs.Same.{token-tells}
use Rattle.tx_macro.proofs.Slides.{bool-cases, unlike}
use Rattle.tx_macro.proofs.Takings.{eqb-same}
use Rattle.tx_macro.proofs.Standings.{alike, unalike, taken-cases}

-- what is taken stays so with more tokens behind it
abbrev TakesOn : List Token → Taken → Taken → Type 0
TakesOn more Unfinished longer = Unit {0}
TakesOn more (Argument text rest) longer = longer ≡ Argument text (rest ++ more)
TakesOn more (Broken error) longer = longer ≡ Broken error

along : (more : List Token) (x x' y y' : Taken) → x ≡ x' → y ≡ y' → TakesOn more x' y' → TakesOn more x y
along more x x' y y' p q s = subst (λ v. TakesOn more v y) (sym p) (subst (λ v. TakesOn more x' v) (sym q) s)

either : (more : List Token) (b : Bool) (x x' y y' : Taken) → TakesOn more x y → TakesOn more x' y' → TakesOn more (cond b x x') (cond b y y')
either more true x x' y y' s t = s
either more false x x' y y' s t = t

-- tokens that stop agreeing do so with others behind them
pub common-settled : (d tokens more : List Token) → common d tokens ≢ length tokens → common d (tokens ++ more) ≡ common d tokens
common-settled [] tokens more h = refl
common-settled (y ∷ d) [] more h = absurd (h refl)
common-settled (y ∷ d) (t ∷ tokens) more h = elim (token-tells y t) [
  | inl p ↦
      let e : common (y ∷ d) (t ∷ tokens) ≡ suc (common d tokens) = ap (λ b. cond b (suc (common d tokens)) 0) p.0 in
      let f : common (y ∷ d) (t ∷ (tokens ++ more)) ≡ suc (common d (tokens ++ more)) = ap (λ b. cond b (suc (common d (tokens ++ more))) 0) p.0 in
      f ∙ ap suc (common-settled d tokens more (λ q. h (e ∙ ap suc q))) ∙ sym e
  | inr p ↦ ap (λ b. cond b (suc (common d (tokens ++ more))) 0) p.0 ∙ sym (ap (λ b. cond b (suc (common d tokens)) 0) p.0)
]

pub common-done : (d tokens more : List Token) → common d tokens ≡ length d → common d (tokens ++ more) ≡ length d
common-done [] tokens more h = refl
common-done (y ∷ d) [] more h = absurd (omega arith)
common-done (y ∷ d) (t ∷ tokens) more h = elim (token-tells y t) [
  | inl p ↦
      let e : common (y ∷ d) (t ∷ tokens) ≡ suc (common d tokens) = ap (λ b. cond b (suc (common d tokens)) 0) p.0 in
      ap (λ b. cond b (suc (common d (tokens ++ more))) 0) p.0 ∙ ap suc (common-done d tokens more (let q : common d tokens ≡ length d = omega arith in q))
  | inr p ↦
      let e : common (y ∷ d) (t ∷ tokens) ≡ 0 = ap (λ b. cond b (suc (common d tokens)) 0) p.0 in
      absurd (omega arith)
]

pub common-le : (d tokens : List Token) → common d tokens ≤ length tokens
common-le [] tokens = omega arith
common-le (y ∷ d) [] = omega arith
common-le (y ∷ d) (t ∷ tokens) = elim (token-tells y t) [
  | inl p ↦
      let e : common (y ∷ d) (t ∷ tokens) ≡ suc (common d tokens) = ap (λ b. cond b (suc (common d tokens)) 0) p.0 in
      let l : common d tokens ≤ length tokens = common-le d tokens in
      omega arith
  | inr p ↦
      let e : common (y ∷ d) (t ∷ tokens) ≡ 0 = ap (λ b. cond b (suc (common d tokens)) 0) p.0 in
      omega arith
]

-- a token outside of groups at which no delimiter stands nor may stand
abbrev pub onward : Bool → List Token → List Token → ℕ → ℕ → Token → List Token → Taken
onward long d before agreed n t tokens = cond (is_refused long t && (max agreed n == 0)) (Broken ParagraphInArgument) (cond (is_end t) (Broken GroupEndInArgument) (delimited long d (before ++ t ∷ []) (max agreed n - 1) (level 0 t) tokens))

pub goes-onward : (long : Bool) (d before : List Token) (agreed : ℕ) (t : Token) (tokens : List Token) (n : ℕ) → common d (t ∷ tokens) ≡ n → n ≢ length d → n ≢ length (t ∷ tokens) → delimited long d before agreed 0 (t ∷ tokens) ≡ onward long d before agreed n t tokens
goes-onward long d before agreed t tokens n is p q =
    let c = common d (t ∷ tokens) in
    let first = cond (c == length (t ∷ tokens)) Unfinished (onward long d before agreed c t tokens) in
    ap (λ b. cond b (Argument (without_braces before) (drop (length d) (t ∷ tokens))) first) (unlike c (length d) (λ e. p (sym is ∙ e)))
    ∙ ap (λ b. cond b Unfinished (onward long d before agreed c t tokens)) (unlike c (length (t ∷ tokens)) (λ e. q (sym is ∙ e)))
    ∙ ap (λ k. onward long d before agreed k t tokens) is

pub longer-unlike : (d : List Token) (t : Token) (tokens more : List Token) → common d (t ∷ tokens) ≢ length (t ∷ tokens) → common d (t ∷ tokens) ≢ length (t ∷ (tokens ++ more))
longer-unlike d t tokens more h =
    let l : common d (t ∷ tokens) ≤ length (t ∷ tokens) = common-le d (t ∷ tokens) in
    let m : length (tokens ++ more) ≡ length tokens + length more = length-append tokens more in
    λ (e : common d (t ∷ tokens) ≡ length (t ∷ (tokens ++ more))). omega arith

delimited-on : (long : Bool) (d before : List Token) (agreed depth : ℕ) (tokens more : List Token) → TakesOn more (delimited long d before agreed depth tokens) (delimited long d before agreed depth (tokens ++ more))
delimited-on long d before agreed depth [] more = record {}
delimited-on long d before agreed (suc depth) (t ∷ tokens) more =
    either more (is_refused long t) (Broken ParagraphInArgument) _ (Broken ParagraphInArgument) _ refl (delimited-on long d (before ++ t ∷ []) 0 (level (suc depth) t) tokens more)
delimited-on long d before agreed zero (t ∷ tokens) more =
    let n = common d (t ∷ tokens) in
    let x = delimited long d before agreed 0 (t ∷ tokens) in
    let y = delimited long d before agreed 0 (t ∷ (tokens ++ more)) in
    elim (bool-cases (n == length d)) [
      | inl p ↦
          let whole : n ≡ length d = alike n (length d) p in
          let l : n ≤ length (t ∷ tokens) = common-le d (t ∷ tokens) in
          let q : (common d (t ∷ (tokens ++ more)) == length d) ≡ true = eqb-same (common d (t ∷ (tokens ++ more))) (length d) (common-done d (t ∷ tokens) more whole) in
          let e : x ≡ Argument (without_braces before) (drop (length d) (t ∷ tokens)) = ap (λ b. cond b (Argument (without_braces before) (drop (length d) (t ∷ tokens))) (cond (n == length (t ∷ tokens)) Unfinished (onward long d before agreed n t tokens))) p in
          let f : y ≡ Argument (without_braces before) (drop (length d) (t ∷ (tokens ++ more))) = ap (λ b. cond b (Argument (without_braces before) (drop (length d) (t ∷ (tokens ++ more)))) (cond (common d (t ∷ (tokens ++ more)) == length (t ∷ (tokens ++ more))) Unfinished (onward long d before agreed (common d (t ∷ (tokens ++ more))) t (tokens ++ more)))) q in
          along more x (Argument (without_braces before) (drop (length d) (t ∷ tokens))) y (Argument (without_braces before) (drop (length d) (t ∷ (tokens ++ more)))) e f (ap (Argument (without_braces before)) (drop-append-le (length d) (t ∷ tokens) more (omega arith)))
      | inr p ↦ elim (bool-cases (n == length (t ∷ tokens))) [
        | inl q ↦
            let e : x ≡ Unfinished = ap (λ b. cond b (Argument (without_braces before) (drop (length d) (t ∷ tokens))) (cond (n == length (t ∷ tokens)) Unfinished (onward long d before agreed n t tokens))) p ∙ ap (λ b. cond b Unfinished (onward long d before agreed n t tokens)) q in
            along more x Unfinished y y e refl (record {})
        | inr q ↦
            let no : n ≢ length d = unalike n (length d) p in
            let nor : n ≢ length (t ∷ tokens) = unalike n (length (t ∷ tokens)) q in
            along more x (onward long d before agreed n t tokens) y (onward long d before agreed n t (tokens ++ more))
            (goes-onward long d before agreed t tokens n refl no nor)
            (goes-onward long d before agreed t (tokens ++ more) n (common-settled d (t ∷ tokens) more nor) no (longer-unlike d t tokens more nor))
            (either more (is_refused long t && (max agreed n == 0)) (Broken ParagraphInArgument) _ (Broken ParagraphInArgument) _ refl (either more (is_end t) (Broken GroupEndInArgument) _ (Broken GroupEndInArgument) _ refl (delimited-on long d (before ++ t ∷ []) (max agreed n - 1) (level 0 t) tokens more)))
      ]
    ]

group-on : (long : Bool) (depth : ℕ) (inside tokens more : List Token) → TakesOn more (group long depth inside tokens) (group long depth inside (tokens ++ more))
group-on long depth inside [] more = record {}
group-on long depth inside (t ∷ tokens) more =
    either more (is_refused long t) (Broken ParagraphInArgument) _ (Broken ParagraphInArgument) _ refl (either more (is_end t && depth == 0) (Argument inside tokens) _ (Argument inside (tokens ++ more)) _ refl (group-on long (level depth t) (inside ++ t ∷ []) tokens more))

undelimited-on : (long : Bool) (tokens more : List Token) → TakesOn more (undelimited long tokens) (undelimited long (tokens ++ more))
undelimited-on long [] more = record {}
undelimited-on long (t ∷ tokens) more =
    either more (is_space t) _ _ _ _ (undelimited-on long tokens more) (either more (is_begin t) _ _ _ _ (group-on long 0 [] tokens more) (either more (is_end t) (Broken GroupEndInArgument) _ (Broken GroupEndInArgument) _ refl (either more (is_refused long t) (Broken ParagraphInArgument) (Argument (t ∷ []) tokens) (Broken ParagraphInArgument) (Argument (t ∷ []) (tokens ++ more)) refl refl)))

argument-on : (long : Bool) (delimiter tokens more : List Token) → TakesOn more (argument long delimiter tokens) (argument long delimiter (tokens ++ more))
argument-on long [] tokens more = undelimited-on long tokens more
argument-on long (d ∷ delimiter) tokens more = delimited-on long (d ∷ delimiter) [] 0 0 tokens more

pub taken-on : (long : Bool) (delimiter tokens more text rest : List Token) → argument long delimiter tokens ≡ Argument text rest → argument long delimiter (tokens ++ more) ≡ Argument text (rest ++ more)
taken-on long delimiter tokens more text rest h = subst (λ (x : Taken). TakesOn more x (argument long delimiter (tokens ++ more))) h (argument-on long delimiter tokens more)

broken-on : (long : Bool) (delimiter tokens more : List Token) (error : TexError) → argument long delimiter tokens ≡ Broken error → argument long delimiter (tokens ++ more) ≡ Broken error
broken-on long delimiter tokens more error h = subst (λ (x : Taken). TakesOn more x (argument long delimiter (tokens ++ more))) h (argument-on long delimiter tokens more)

reads-along : (x x' y y' : Use) → x ≡ x' → y ≡ y' → ReadsOn x' y' → ReadsOn x y
reads-along x x' y y' p q s = subst (λ v. ReadsOn v y) (sym p) (subst (λ v. ReadsOn x' v) (sym q) s)

arguments-on : (long : Bool) (taken : List (List Token)) (delimiters : List (List Token)) (tokens more : List Token) → ReadsOn (arguments long taken delimiters tokens) (arguments long taken delimiters (tokens ++ more))
arguments-on long taken [] tokens more = refl
arguments-on long taken (delimiter ∷ delimiters) tokens more =
    let on = λ (text rest : List Token). arguments long (taken ++ text ∷ []) delimiters rest in
    let x = arguments long taken (delimiter ∷ delimiters) tokens in
    let y = arguments long taken (delimiter ∷ delimiters) (tokens ++ more) in
    elim (taken-cases (argument long delimiter tokens)) [
      | inl p ↦ reads-along x Open y y (ap (behind on) p) refl (record {})
      | inr (inl p) ↦ reads-along x (Fails p.0) y (Fails p.0) (ap (behind on) p.1) (ap (behind on) (broken-on long delimiter tokens more p.0 p.1)) refl
      | inr (inr p) ↦ reads-along x (on p.0 p.1) y (on p.0 (p.1 ++ more)) (ap (behind on) p.2) (ap (behind on) (taken-on long delimiter tokens more p.0 p.1 p.2)) (arguments-on long (taken ++ p.0 ∷ []) delimiters p.1 more)
    ]

pub reads-on : (m : Definition) (tokens more : List Token) → ReadsOn (use_of m tokens) (use_of m (tokens ++ more))
reads-on m tokens more =
    let d = m.parameters.before in
    let n = common d tokens in
    let x = use_of m tokens in
    let y = use_of m (tokens ++ more) in
    let all = λ (u : List Token). arguments m.long [] m.parameters.delimiters (drop (length d) u) in
    elim (bool-cases (n == length d)) [
      | inl p ↦
          let whole : n ≡ length d = alike n (length d) p in
          let l : n ≤ length tokens = common-le d tokens in
          let q : (common d (tokens ++ more) == length d) ≡ true = eqb-same (common d (tokens ++ more)) (length d) (common-done d tokens more whole) in
          reads-along x (all tokens) y (arguments m.long [] m.parameters.delimiters (drop (length d) tokens ++ more))
          (ap (λ b. cond b (all tokens) (cond (n == length tokens) Open (Fails UseDiffers))) p)
          (ap (λ b. cond b (all (tokens ++ more)) (cond (common d (tokens ++ more) == length (tokens ++ more)) Open (Fails UseDiffers))) q ∙ ap (arguments m.long [] m.parameters.delimiters) (drop-append-le (length d) tokens more (omega arith)))
          (arguments-on m.long [] m.parameters.delimiters (drop (length d) tokens) more)
      | inr p ↦ elim (bool-cases (n == length tokens)) [
        | inl q ↦ reads-along x Open y y (ap (λ b. cond b (all tokens) (cond (n == length tokens) Open (Fails UseDiffers))) p ∙ ap (λ b. cond b Open (Fails UseDiffers)) q) refl (record {})
        | inr q ↦
            let nor : n ≢ length tokens = unalike n (length tokens) q in
            let same : common d (tokens ++ more) ≡ n = common-settled d tokens more nor in
            let l : n ≤ length tokens = common-le d tokens in
            let m : length (tokens ++ more) ≡ length tokens + length more = length-append tokens more in
            let r : (common d (tokens ++ more) == length d) ≡ false = ap (λ k. k == length d) same ∙ p in
            let s : (common d (tokens ++ more) == length (tokens ++ more)) ≡ false = unlike (common d (tokens ++ more)) (length (tokens ++ more)) (λ (e : common d (tokens ++ more) ≡ length (tokens ++ more)). omega arith) in
            reads-along x (Fails UseDiffers) y (Fails UseDiffers)
            (ap (λ b. cond b (all tokens) (cond (n == length tokens) Open (Fails UseDiffers))) p ∙ ap (λ b. cond b Open (Fails UseDiffers)) q)
            (ap (λ b. cond b (all (tokens ++ more)) (cond (common d (tokens ++ more) == length (tokens ++ more)) Open (Fails UseDiffers))) r ∙ ap (λ b. cond b Open (Fails UseDiffers)) s)
            refl
      ]
    ]
