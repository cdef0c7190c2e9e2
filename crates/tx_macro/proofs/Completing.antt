-- What is open can be made to fit by more tokens.
use Rattle.std.proofs.Common.{◌≡◌, ◌≢◌, ℕ, zero, suc, ◌-◌, ◌≤◌, ◌<◌, max, Bool, true, false, cond, ◌&&◌, ◌==◌, List, [], ◌∷◌, ◌++◌, length, drop, refl, ap, sym, ◌∙◌, arith, ◌⊎◌, inl, inr}
use Rattle.std.proofs.lemmas.List.{append_assoc, append-nil, drop-append-le}
use Rattle.std.proofs.Math.Seq.{drop-append_seam}
use Rattle.tx_char.specs.declared.category.Cat.TheVariants.{EndGroup, Other}
use Rattle.tx_char.specs.declared.tokens.Token.{Token}
use Rattle.tx_char.specs.declared.tokens.Token.TheVariants.{Character}
use Rattle.tx_toklist.specs.Macros.{Definition, is_begin, is_end}
use Rattle.tx_seen.specs.declared.error.TexError.TheVariants.{ParagraphInArgument, GroupEndInArgument, UseDiffers}
use Rattle.tx_macro.specs.Tokens.{is_space}
use Rattle.tx_macro.specs.Arguments.{Taken, Unfinished, Argument, Broken, argument, common, delimited, group, is_refused, level, undelimited, without_braces}
use Rattle.tx_macro.specs.Matching.{Use, Open, Fits, Fails, behind, arguments, use_of}
use Rattle.tx_macro.proofs.Same.{token-tells}
use Rattle.tx_macro.proofs.Slides.{bool-cases, unlike}
use Rattle.tx_macro.proofs.Takings.{at-delimiter, common-whole, eqb-same}
use Rattle.tx_macro.proofs.Standings.{alike, unalike, taken-cases}
use Rattle.tx_macro.proofs.ReadingOn.{common-done, common-le, common-settled, goes-onward, longer-unlike, onward, taken-on}

-- some tokens make an argument whole
abbrev Completes : (List Token → Taken) → Type 0
Completes reading = (more : List Token) × (text : List Token) × (reading more ≡ Argument text [])

abbrev closing : Token
closing = Character 125 EndGroup

abbrev letter : Token
letter = Character 97 Other

delimited-closes : (long : Bool) (d before : List Token) (agreed depth : ℕ) → 0 < length d → Completes (λ more. delimited long d before agreed depth more)
delimited-closes long d before agreed zero some = (d, without_braces before, ap (delimited long d before agreed 0) (sym (append-nil d)) ∙ at-delimiter long d before agreed [] some)
delimited-closes long d before agreed (suc depth) some =
    let s : Completes (λ more. delimited long d (before ++ closing ∷ []) 0 depth more) = delimited-closes long d (before ++ closing ∷ []) 0 depth some in
    let e : suc depth - 1 ≡ depth = omega arith in
    (closing ∷ s.0, s.1, ap (λ k. delimited long d (before ++ closing ∷ []) 0 k s.0) e ∙ s.2)

-- tokens that agree up to their end lack the rest
prefix-common : (d tokens : List Token) → common d tokens ≡ length tokens → tokens ++ drop (length tokens) d ≡ d
prefix-common d [] h = refl
prefix-common [] (t ∷ tokens) h = absurd (omega arith)
prefix-common (y ∷ d) (t ∷ tokens) h = elim (token-tells y t) [
  | inl p ↦
      let e : common (y ∷ d) (t ∷ tokens) ≡ suc (common d tokens) = ap (λ b. cond b (suc (common d tokens)) 0) p.0 in
      let r : tokens ++ drop (length tokens) d ≡ d = prefix-common d tokens (let q : common d tokens ≡ length tokens = omega arith in q) in
      cc (p.1, r)
  | inr p ↦
      let e : common (y ∷ d) (t ∷ tokens) ≡ 0 = ap (λ b. cond b (suc (common d tokens)) 0) p.0 in
      absurd (omega arith)
]

delimited-part : (long : Bool) (d before : List Token) (agreed depth : ℕ) (tokens : List Token) → 0 < length d → delimited long d before agreed depth tokens ≡ Unfinished → Completes (λ more. delimited long d before agreed depth (tokens ++ more))
delimited-part long d before agreed depth [] some h = delimited-closes long d before agreed depth some
delimited-part long d before agreed (suc depth) (t ∷ tokens) some h =
    let on = λ (u : List Token). delimited long d (before ++ t ∷ []) 0 (level (suc depth) t) u in
    elim (bool-cases (is_refused long t)) [
      | inl p ↦ absurd (let r : Broken ParagraphInArgument ≡ Unfinished = sym (ap (λ b. cond b (Broken ParagraphInArgument) (on tokens)) p) ∙ h in cc)
      | inr p ↦
          let r : on tokens ≡ Unfinished = sym (ap (λ b. cond b (Broken ParagraphInArgument) (on tokens)) p) ∙ h in
          let s : Completes (λ more. on (tokens ++ more)) = delimited-part long d (before ++ t ∷ []) 0 (level (suc depth) t) tokens some r in
          (s.0, s.1, ap (λ b. cond b (Broken ParagraphInArgument) (on (tokens ++ s.0))) p ∙ s.2)
    ]
delimited-part long d before agreed zero (t ∷ tokens) some h =
    let n = common d (t ∷ tokens) in
    let on = λ (u : List Token). delimited long d (before ++ t ∷ []) (max agreed n - 1) (level 0 t) u in
    let third = λ (u : List Token). cond (is_end t) (Broken GroupEndInArgument) (on u) in
    let first = cond (n == length (t ∷ tokens)) Unfinished (onward long d before agreed n t tokens) in
    elim (bool-cases (n == length d)) [
      | inl p ↦ absurd (let r : Argument (without_braces before) (drop (length d) (t ∷ tokens)) ≡ Unfinished = sym (ap (λ b. cond b (Argument (without_braces before) (drop (length d) (t ∷ tokens))) first) p) ∙ h in cc)
      | inr p ↦ elim (bool-cases (n == length (t ∷ tokens))) [
        | inl q ↦
            let whole : t ∷ (tokens ++ drop (length (t ∷ tokens)) d) ≡ d = prefix-common d (t ∷ tokens) (alike n (length (t ∷ tokens)) q) in
            (drop (length (t ∷ tokens)) d, without_braces before, ap (delimited long d before agreed 0) (whole ∙ sym (append-nil d)) ∙ at-delimiter long d before agreed [] some)
        | inr q ↦
            let no : n ≢ length d = unalike n (length d) p in
            let nor : n ≢ length (t ∷ tokens) = unalike n (length (t ∷ tokens)) q in
            let r : onward long d before agreed n t tokens ≡ Unfinished = sym (goes-onward long d before agreed t tokens n refl no nor) ∙ h in
            elim (bool-cases (is_refused long t && (max agreed n == 0))) [
              | inl u ↦ absurd (let r1 : Broken ParagraphInArgument ≡ Unfinished = sym (ap (λ b. cond b (Broken ParagraphInArgument) (third tokens)) u) ∙ r in cc)
              | inr u ↦
                  let r1 : third tokens ≡ Unfinished = sym (ap (λ b. cond b (Broken ParagraphInArgument) (third tokens)) u) ∙ r in
                  elim (bool-cases (is_end t)) [
                    | inl v ↦ absurd (let r2 : Broken GroupEndInArgument ≡ Unfinished = sym (ap (λ b. cond b (Broken GroupEndInArgument) (on tokens)) v) ∙ r1 in cc)
                    | inr v ↦
                        let r2 : on tokens ≡ Unfinished = sym (ap (λ b. cond b (Broken GroupEndInArgument) (on tokens)) v) ∙ r1 in
                        let s : Completes (λ more. on (tokens ++ more)) = delimited-part long d (before ++ t ∷ []) (max agreed n - 1) (level 0 t) tokens some r2 in (
                          s.0,
                          s.1,
                          goes-onward long d before agreed t (tokens ++ s.0) n (common-settled d (t ∷ tokens) s.0 nor) no (longer-unlike d t tokens s.0 nor)
                              ∙ ap (λ b. cond b (Broken ParagraphInArgument) (third (tokens ++ s.0))) u
                              ∙ ap (λ b. cond b (Broken GroupEndInArgument) (on (tokens ++ s.0))) v
                              ∙ s.2,
                        )
                  ]
            ]
      ]
    ]

group-closes : (long : Bool) (depth : ℕ) (inside : List Token) → Completes (λ more. group long depth inside more)
group-closes long zero inside = (closing ∷ [], inside, refl)
group-closes long (suc depth) inside =
    let s : Completes (λ more. group long depth (inside ++ closing ∷ []) more) = group-closes long depth (inside ++ closing ∷ []) in
    let e : suc depth - 1 ≡ depth = omega arith in
    let no : (suc depth == 0) ≡ false = unlike (suc depth) 0 (λ (q : suc depth ≡ 0). omega arith) in
    (closing ∷ s.0, s.1, ap (λ b. cond b (Argument inside s.0) (group long (suc depth - 1) (inside ++ closing ∷ []) s.0)) no ∙ ap (λ k. group long k (inside ++ closing ∷ []) s.0) e ∙ s.2)

group-part : (long : Bool) (depth : ℕ) (inside tokens : List Token) → group long depth inside tokens ≡ Unfinished → Completes (λ more. group long depth inside (tokens ++ more))
group-part long depth inside [] h = group-closes long depth inside
group-part long depth inside (t ∷ tokens) h =
    let on = λ (u : List Token). group long (level depth t) (inside ++ t ∷ []) u in
    let first = λ (u : List Token). cond (is_end t && depth == 0) (Argument inside u) (on u) in
    elim (bool-cases (is_refused long t)) [
      | inl p ↦ absurd (let r : Broken ParagraphInArgument ≡ Unfinished = sym (ap (λ b. cond b (Broken ParagraphInArgument) (first tokens)) p) ∙ h in cc)
      | inr p ↦
          let r : first tokens ≡ Unfinished = sym (ap (λ b. cond b (Broken ParagraphInArgument) (first tokens)) p) ∙ h in
          elim (bool-cases (is_end t && depth == 0)) [
            | inl q ↦ absurd (let r1 : Argument inside tokens ≡ Unfinished = sym (ap (λ b. cond b (Argument inside tokens) (on tokens)) q) ∙ r in cc)
            | inr q ↦
                let r1 : on tokens ≡ Unfinished = sym (ap (λ b. cond b (Argument inside tokens) (on tokens)) q) ∙ r in
                let s : Completes (λ more. on (tokens ++ more)) = group-part long (level depth t) (inside ++ t ∷ []) tokens r1 in
                (s.0, s.1, ap (λ b. cond b (Broken ParagraphInArgument) (first (tokens ++ s.0))) p ∙ ap (λ b. cond b (Argument inside (tokens ++ s.0)) (on (tokens ++ s.0))) q ∙ s.2)
          ]
    ]

undelimited-part : (long : Bool) (tokens : List Token) → undelimited long tokens ≡ Unfinished → Completes (λ more. undelimited long (tokens ++ more))
undelimited-part long [] h = (letter ∷ [], letter ∷ [], refl)
undelimited-part long (t ∷ tokens) h =
    let fourth = λ (u : List Token). cond (is_refused long t) (Broken ParagraphInArgument) (Argument (t ∷ []) u) in
    let third = λ (u : List Token). cond (is_end t) (Broken GroupEndInArgument) (fourth u) in
    let second = λ (u : List Token). cond (is_begin t) (group long 0 [] u) (third u) in
    elim (bool-cases (is_space t)) [
      | inl p ↦
          let s : Completes (λ more. undelimited long (tokens ++ more)) = undelimited-part long tokens (sym (ap (λ b. cond b (undelimited long tokens) (second tokens)) p) ∙ h) in
          (s.0, s.1, ap (λ b. cond b (undelimited long (tokens ++ s.0)) (second (tokens ++ s.0))) p ∙ s.2)
      | inr p ↦
          let r : second tokens ≡ Unfinished = sym (ap (λ b. cond b (undelimited long tokens) (second tokens)) p) ∙ h in
          elim (bool-cases (is_begin t)) [
            | inl q ↦
                let s : Completes (λ more. group long 0 [] (tokens ++ more)) = group-part long 0 [] tokens (sym (ap (λ b. cond b (group long 0 [] tokens) (third tokens)) q) ∙ r) in
                (s.0, s.1, ap (λ b. cond b (undelimited long (tokens ++ s.0)) (second (tokens ++ s.0))) p ∙ ap (λ b. cond b (group long 0 [] (tokens ++ s.0)) (third (tokens ++ s.0))) q ∙ s.2)
            | inr q ↦
                let r1 : third tokens ≡ Unfinished = sym (ap (λ b. cond b (group long 0 [] tokens) (third tokens)) q) ∙ r in
                elim (bool-cases (is_end t)) [
                  | inl u ↦ absurd (let r2 : Broken GroupEndInArgument ≡ Unfinished = sym (ap (λ b. cond b (Broken GroupEndInArgument) (fourth tokens)) u) ∙ r1 in cc)
                  | inr u ↦
                      let r2 : fourth tokens ≡ Unfinished = sym (ap (λ b. cond b (Broken GroupEndInArgument) (fourth tokens)) u) ∙ r1 in
                      elim (bool-cases (is_refused long t)) [
                        | inl v ↦ absurd (let r3 : Broken ParagraphInArgument ≡ Unfinished = sym (ap (λ b. cond b (Broken ParagraphInArgument) (Argument (t ∷ []) tokens)) v) ∙ r2 in cc)
                        | inr v ↦ absurd (let r3 : Argument (t ∷ []) tokens ≡ Unfinished = sym (ap (λ b. cond b (Broken ParagraphInArgument) (Argument (t ∷ []) tokens)) v) ∙ r2 in cc)
                      ]
                ]
          ]
    ]

argument-part : (long : Bool) (delimiter tokens : List Token) → argument long delimiter tokens ≡ Unfinished → Completes (λ more. argument long delimiter (tokens ++ more))
argument-part long [] tokens h = undelimited-part long tokens h
argument-part long (d ∷ delimiter) tokens h = delimited-part long (d ∷ delimiter) [] 0 0 tokens (omega arith) h

-- without a token the arguments are whole where there is no parameter more
nothing-yet : (long : Bool) (taken : List (List Token)) (delimiters : List (List Token)) → (arguments long taken delimiters [] ≡ Fits taken) ⊎ (arguments long taken delimiters [] ≡ Open)
nothing-yet long taken [] = inl refl
nothing-yet long taken ([] ∷ delimiters) = inr refl
nothing-yet long taken ((d ∷ delimiter) ∷ delimiters) = inr refl

abbrev Fitting : (List Token → Use) → Type 0
Fitting reading = (more : List Token) × (texts : List (List Token)) × (reading more ≡ Fits texts)

arguments-part : (long : Bool) (taken : List (List Token)) (delimiters : List (List Token)) (tokens : List Token) → arguments long taken delimiters tokens ≡ Open → Fitting (λ more. arguments long taken delimiters (tokens ++ more))
arguments-part long taken [] tokens h = absurd (let r : Fits taken ≡ Open = h in cc)
arguments-part long taken (delimiter ∷ delimiters) tokens h =
    let on = λ (text rest : List Token). arguments long (taken ++ text ∷ []) delimiters rest in
    elim (taken-cases (argument long delimiter tokens)) [
      | inl p ↦
          let s : Completes (λ more. argument long delimiter (tokens ++ more)) = argument-part long delimiter tokens p in
          elim (nothing-yet long (taken ++ s.1 ∷ []) delimiters) [
            | inl q ↦ (s.0, taken ++ s.1 ∷ [], ap (behind on) s.2 ∙ q)
            | inr q ↦
                let u : Fitting (λ more. arguments long (taken ++ s.1 ∷ []) delimiters more) = arguments-part long (taken ++ s.1 ∷ []) delimiters [] q in (
                  s.0 ++ u.0,
                  u.1,
                  ap (arguments long taken (delimiter ∷ delimiters)) (sym (append_assoc tokens s.0 u.0))
                      ∙ ap (behind on) (taken-on long delimiter (tokens ++ s.0) u.0 s.1 [] s.2)
                      ∙ u.2,
                )
          ]
      | inr (inl p) ↦ absurd (let r : Fails p.0 ≡ Open = sym (ap (behind on) p.1) ∙ h in cc)
      | inr (inr p) ↦
          let u : Fitting (λ more. on p.0 (p.1 ++ more)) = arguments-part long (taken ++ p.0 ∷ []) delimiters p.1 (sym (ap (behind on) p.2) ∙ h) in
          (u.0, u.1, ap (behind on) (taken-on long delimiter tokens u.0 p.0 p.1 p.2) ∙ u.2)
    ]

use-behind : (m : Definition) (more : List Token) → use_of m (m.parameters.before ++ more) ≡ arguments m.long [] m.parameters.delimiters more
use-behind m more =
    let d = m.parameters.before in
    let yes : (common d (d ++ more) == length d) ≡ true = eqb-same (common d (d ++ more)) (length d) (common-whole d more) in
    ap (λ b. cond b (arguments m.long [] m.parameters.delimiters (drop (length d) (d ++ more))) (cond (common d (d ++ more) == length (d ++ more)) Open (Fails UseDiffers))) yes
    ∙ ap (arguments m.long [] m.parameters.delimiters) (drop-append_seam d more)

begun : (m : Definition) → Fitting (λ more. arguments m.long [] m.parameters.delimiters more)
begun m = elim (nothing-yet m.long [] m.parameters.delimiters) [
  | inl q ↦ ([], [], q)
  | inr q ↦ arguments-part m.long [] m.parameters.delimiters [] q
]

pub a-part-begins : (m : Definition) (tokens : List Token) → use_of m tokens ≡ Open → Fitting (λ more. use_of m (tokens ++ more))
a-part-begins m tokens h =
    let d = m.parameters.before in
    let n = common d tokens in
    let all = λ (u : List Token). arguments m.long [] m.parameters.delimiters (drop (length d) u) in
    elim (bool-cases (n == length d)) [
      | inl p ↦
          let whole : n ≡ length d = alike n (length d) p in
          let l : n ≤ length tokens = common-le d tokens in
          let r : all tokens ≡ Open = sym (ap (λ b. cond b (all tokens) (cond (n == length tokens) Open (Fails UseDiffers))) p) ∙ h in
          let s : Fitting (λ more. arguments m.long [] m.parameters.delimiters (drop (length d) tokens ++ more)) = arguments-part m.long [] m.parameters.delimiters (drop (length d) tokens) r in
          let q : (common d (tokens ++ s.0) == length d) ≡ true = eqb-same (common d (tokens ++ s.0)) (length d) (common-done d tokens s.0 whole) in (
            s.0,
            s.1,
            ap (λ b. cond b (all (tokens ++ s.0)) (cond (common d (tokens ++ s.0) == length (tokens ++ s.0)) Open (Fails UseDiffers))) q
                ∙ ap (arguments m.long [] m.parameters.delimiters) (drop-append-le (length d) tokens s.0 (omega arith))
                ∙ s.2,
          )
      | inr p ↦
          let r : cond (n == length tokens) Open (Fails UseDiffers) ≡ Open = sym (ap (λ b. cond b (all tokens) (cond (n == length tokens) Open (Fails UseDiffers))) p) ∙ h in
          elim (bool-cases (n == length tokens)) [
            | inl q ↦
                let s : Fitting (λ more. arguments m.long [] m.parameters.delimiters more) = begun m in
                let whole : tokens ++ drop (length tokens) d ≡ d = prefix-common d tokens (alike n (length tokens) q) in (
                  drop (length tokens) d ++ s.0,
                  s.1,
                  ap (use_of m) (sym (append_assoc tokens (drop (length tokens) d) s.0) ∙ ap (λ u. u ++ s.0) whole)
                      ∙ use-behind m s.0
                      ∙ s.2,
                )
            | inr q ↦ absurd (let r1 : Fails UseDiffers ≡ Open = sym (ap (λ b. cond b Open (Fails UseDiffers)) q) ∙ r in cc)
          ]
    ]
