-- Uses before their first parameter, and where they stop.
use Rattle.std.proofs.Common.{◌≡◌, ◌≢◌, ℕ, zero, suc, ◌+◌, ◌-◌, ◌≤◌, ◌<◌, max, Bool, true, false, cond, ◌&&◌, ◌==◌, List, [], ◌∷◌, ◌++◌, length, take, drop, get_or, refl, ap, sym, subst, ◌∙◌, arith, inl, inr}
use Rattle.std.proofs.lemmas.List.{append_assoc, length-append, length-take-le, take_all, take_more}
use Rattle.std.proofs.Math.Seq.{drop-append_seam}
use Rattle.tx_char.specs.declared.tokens.Token.{Token}
use Rattle.tx_toklist.specs.Macros.{Definition, Parameters, is_end, no_parameters}
use Rattle.tx_seen.specs.declared.fed.Want.TheVariants.{Raw}
use Rattle.tx_seen.specs.declared.fed.Fed.TheVariants.{More}
use Rattle.tx_toklist.specs.declared.item.Item.{Item}
use Rattle.tx_toklist.specs.declared.item.Item.TheVariants as item
use Rattle.tx_seen.specs.declared.error.TexError.{TexError}
use Rattle.tx_seen.specs.declared.error.TexError.TheVariants.{ParagraphInArgument, GroupEndInArgument, UseDiffers}
use Rattle.tx_macro.specs.declared.stage.Awaited.{Awaited}
use Rattle.tx_macro.specs.declared.stage.Awaited.TheVariants as awaited
use Rattle.tx_macro.specs.declared.stage.Advance.{Advance}
use Rattle.tx_macro.specs.declared.stage.Advance.TheVariants as advance
use Rattle.tx_macro.specs.declared.stage.Gathered.{Gathered}
use Rattle.tx_macro.specs.Matchers.{HasGathered, Matching, answer, answer_to, goes_on}
use Rattle.tx_macro.specs.Arguments.{Unfinished, Argument, Broken, common, delimited, is_refused, level, without_braces}
use Rattle.tx_macro.specs.Matching.{Open, Fits, Fails, behind, arguments, use_of}
use Rattle.tx_macro.specs.Stages.{Undelimited, Group, Delimited, Stage, Before, Within, Over, Next, Continues, Ends, Stops, next_of, stage_of}
use Rattle.tx_macro.specs.Rests.{IsNext, IsStage, delimiter_behind, next_rest, others, use_rest}
use Rattle.tx_macro.proofs.Same.{token-tells}
use Rattle.tx_macro.proofs.Slides.{common-take, unlike}
use Rattle.tx_macro.proofs.Takings.{common-whole, eqb-same}

common-nil : (d : List Token) → common d [] ≡ 0
common-nil [] = refl
common-nil (y ∷ d) = refl

-- what a delimiter wants behind its first tokens
common-here : (d : List Token) (k : ℕ) (x t : Token) (ys : List Token) → k < length d → x ≡ get_or d k x → (x ≡ t → ⊥) → common (drop k d) (t ∷ ys) ≡ 0
common-here [] k x t ys short is other = absurd (omega arith)
common-here (y ∷ d) zero x t ys short is other = elim (token-tells y t) [
  | inl p ↦ absurd (other (is ∙ p.1))
  | inr p ↦ ap (λ b. cond b (suc (common d ys)) 0) p.0
]
common-here (y ∷ d) (suc k) x t ys short is other = common-here d k x t ys (omega arith) is other

-- another token than the wanted one before the first parameter
pub before-fails : (m : Definition) (met : ℕ) (x t : Token) (more : List Token) → met < length m.parameters.before → x ≡ get_or m.parameters.before met x → (x ≡ t → ⊥) → use_of m (take met m.parameters.before ++ t ∷ more) ≡ Fails UseDiffers
before-fails m met x t more short is other =
    let d = m.parameters.before in
    let tokens = take met d ++ t ∷ more in
    let e : common d tokens ≡ met + common (drop met d) (t ∷ more) = common-take met d (t ∷ more) (omega arith) in
    let z : common (drop met d) (t ∷ more) ≡ 0 = common-here d met x t more short is other in
    let l : length tokens ≡ length (take met d) + length (t ∷ more) = length-append (take met d) (t ∷ more) in
    let k : length (take met d) ≡ met = length-take-le met d (omega arith) in
    let no : (common d tokens == length d) ≡ false = unlike (common d tokens) (length d) (λ (q : common d tokens ≡ length d). omega arith) in
    let nor : (common d tokens == length tokens) ≡ false = unlike (common d tokens) (length tokens) (λ (q : common d tokens ≡ length tokens). omega arith) in
    ap (λ b. cond b (arguments m.long [] m.parameters.delimiters (drop (length d) tokens)) (cond (common d tokens == length tokens) Open (Fails UseDiffers))) no
    ∙ ap (λ b. cond b Open (Fails UseDiffers)) nor

-- the tokens before the first parameter are met
pub before-over : (m : Definition) (met : ℕ) (x t : Token) (more : List Token) → met + 1 ≡ length m.parameters.before → x ≡ get_or m.parameters.before met x → x ≡ t → use_of m (take met m.parameters.before ++ t ∷ more) ≡ others m [] more
before-over m met x t more last is same =
    let d = m.parameters.before in
    let short : met < length d = omega arith in
    let e : take (met + 1) d ≡ take met d ++ t ∷ [] = take_more d met x short ∙ ap (λ u. take met d ++ u ∷ []) (sym is ∙ same) in
    let all : take (met + 1) d ≡ d = take_all (met + 1) d (omega arith) in
    let whole : take met d ++ t ∷ more ≡ d ++ more = sym (append_assoc (take met d) (t ∷ []) more) ∙ ap (λ u. u ++ more) (sym e ∙ all) in
    let yes : (common d (d ++ more) == length d) ≡ true = eqb-same (common d (d ++ more)) (length d) (common-whole d more) in
    ap (use_of m) whole
    ∙ ap (λ b. cond b (arguments m.long [] m.parameters.delimiters (drop (length d) (d ++ more))) (cond (common d (d ++ more) == length (d ++ more)) Open (Fails UseDiffers))) yes
    ∙ ap (arguments m.long [] m.parameters.delimiters) (drop-append_seam d more)

-- without a token no argument is whole
arguments-none : (long : Bool) (delimiters : List (List Token)) → (delimiters ≡ [] → ⊥) → arguments long [] delimiters [] ≡ Open
arguments-none long [] some = absurd (some refl)
arguments-none long ([] ∷ delimiters) some = refl
arguments-none long ((x ∷ d) ∷ delimiters) some = refl

pub others-none : (m : Definition) → m.parameters.before ≡ [] → m.parameters ≢ no_parameters → others m [] [] ≡ Open
others-none m bare some = arguments-none m.long m.parameters.delimiters (λ none. some (parameters-same m.parameters bare none))
  where
    parameters-same : (p : Parameters) → p.before ≡ [] → p.delimiters ≡ [] → p ≡ no_parameters
    parameters-same p b d = ap (λ (x : List Token). record { before = x; delimiters = p.delimiters }) b ∙ ap (λ (y : List (List Token)). record { before = []; delimiters = y }) d

-- a use that has something to take is neither whole at its beginning nor wrong
pub not-whole : (m : Definition) (now : Next) (from taken : List (List Token)) → m.parameters.before ≡ [] → m.parameters ≢ no_parameters → from ≡ [] → others m from [] ≡ next_rest m now [] → now ≡ Ends taken → ⊥
not-whole m now from taken bare some none is fits =
    let e : Open ≡ Fits taken = sym (others-none m bare some) ∙ ap (λ (x : List (List Token)). others m x []) (sym none) ∙ is ∙ ap (λ (n : Next). next_rest m n []) fits in
    cc

pub not-wrong : (m : Definition) (now : Next) (from : List (List Token)) (error : TexError) → m.parameters.before ≡ [] → m.parameters ≢ no_parameters → from ≡ [] → others m from [] ≡ next_rest m now [] → now ≡ Stops error → ⊥
not-wrong m now from error bare some none is fails =
    let e : Open ≡ Fails error = sym (others-none m bare some) ∙ ap (λ (x : List (List Token)). others m x []) (sym none) ∙ is ∙ ap (λ (n : Next). next_rest m n []) fails in
    cc

-- a delimited argument isn't whole before its delimiter is
taking-open : (long : Bool) (d front : List Token) (a depth : ℕ) → a < length d → (0 < depth → a ≡ 0) → delimited long d front a depth (take a d ++ []) ≡ Unfinished
taking-open long d front zero depth fewer outside = refl
taking-open long [] front (suc a) depth fewer outside = absurd (omega arith)
taking-open long (y ∷ d) front (suc a) (suc depth) fewer outside = let z : suc a ≡ 0 = outside (omega arith) in absurd (omega arith)
taking-open long (y ∷ d) front (suc a) zero fewer outside =
    let rest = take a d ++ [] in
    let e : common (y ∷ d) (take (suc a) (y ∷ d) ++ []) ≡ suc a + common (drop (suc a) (y ∷ d)) [] = common-take (suc a) (y ∷ d) [] (omega arith) in
    let z : common (drop (suc a) (y ∷ d)) [] ≡ 0 = common-nil (drop (suc a) (y ∷ d)) in
    let l : length (take (suc a) (y ∷ d) ++ []) ≡ length (take (suc a) (y ∷ d)) + 0 = length-append (take (suc a) (y ∷ d)) [] in
    let k : length (take (suc a) (y ∷ d)) ≡ suc a = length-take-le (suc a) (y ∷ d) (omega arith) in
    let c : common (y ∷ d) (y ∷ rest) ≡ suc a = omega arith in
    let no : (common (y ∷ d) (y ∷ rest) == length (y ∷ d)) ≡ false = unlike (common (y ∷ d) (y ∷ rest)) (length (y ∷ d)) (λ (q : common (y ∷ d) (y ∷ rest) ≡ length (y ∷ d)). omega arith) in
    let yes : (common (y ∷ d) (y ∷ rest) == length (y ∷ rest)) ≡ true = eqb-same (common (y ∷ d) (y ∷ rest)) (length (y ∷ rest)) (omega arith) in
    let on = cond (is_refused long y && (max (suc a) (common (y ∷ d) (y ∷ rest)) == 0)) (Broken ParagraphInArgument) (cond (is_end y) (Broken GroupEndInArgument) (delimited long (y ∷ d) (front ++ y ∷ []) (max (suc a) (common (y ∷ d) (y ∷ rest)) - 1) (level 0 y) rest)) in
    ap (λ b. cond b (Argument (without_braces front) (drop (length (y ∷ d)) (y ∷ rest))) (cond (common (y ∷ d) (y ∷ rest) == length (y ∷ rest)) Unfinished on)) no
    ∙ ap (λ b. cond b Unfinished on) yes

-- a stage in which something more is to come
pub use-open : (m : Definition) (stage : Stage) → IsStage m stage → use_rest m stage [] ≡ Open
use-open m (Before met) short =
    let d = m.parameters.before in
    let tokens = take met d ++ [] in
    let e : common d tokens ≡ met + common (drop met d) [] = common-take met d [] (omega arith) in
    let z : common (drop met d) [] ≡ 0 = common-nil (drop met d) in
    let l : length tokens ≡ length (take met d) + 0 = length-append (take met d) [] in
    let k : length (take met d) ≡ met = length-take-le met d (omega arith) in
    let no : (common d tokens == length d) ≡ false = unlike (common d tokens) (length d) (λ (q : common d tokens ≡ length d). omega arith) in
    let yes : (common d tokens == length tokens) ≡ true = eqb-same (common d tokens) (length tokens) (omega arith) in
    ap (λ b. cond b (arguments m.long [] m.parameters.delimiters (drop (length d) tokens)) (cond (common d tokens == length tokens) Open (Fails UseDiffers))) no
    ∙ ap (λ b. cond b Open (Fails UseDiffers)) yes
use-open m (Within taken Undelimited) is = refl
use-open m (Within taken (Group g)) is = refl
use-open m (Within taken (Delimited s)) is =
    ap (behind (λ text rest. others m (taken ++ text ∷ []) rest)) (taking-open m.long (delimiter_behind (length taken) m) (take (length s.met - s.agreed) s.met) s.agreed s.depth is.1.fewer is.1.outside)
use-open m Over is = absurd is

-- what is answered where the use goes on behind a token
pub goes-on-open : (m : Definition) (taken : List Token) (t : Token) (stage stage' : Stage) (now : Next) → ((more : List Token) → use_of m (taken ++ more) ≡ use_rest m stage more) → ((more : List Token) → use_rest m stage (t ∷ more) ≡ next_rest m now more) → IsNext m now → now ≡ Continues stage' → use_of m (taken ++ t ∷ []) ≡ Open
goes-on-open m taken t stage stage' now rest steps is on =
    let there : IsStage m stage' = subst (λ (n : Next). IsNext m n) on is in
    rest (t ∷ []) ∙ steps [] ∙ ap (λ (n : Next). next_rest m n []) on ∙ use-open m stage' there

pub answer-more : (self : Matching) (it : Item) (m : Definition) (taken : List Token) (t : Token) → m ≡ self.definition → taken ≡ self.taken → it ≡ item.Token t → use_of m (taken ++ t ∷ []) ≡ Open → More Raw ≡ answer self it
answer-more self it m taken t d k is goes =
    sym (ap (answer self) is
    ∙ ap (λ (x : Definition). answer_to (use_of x (self.taken ++ t ∷ []))) (sym d)
    ∙ ap (λ (x : List Token). answer_to (use_of m (x ++ t ∷ []))) (sym k)
    ∙ ap answer_to goes)

-- it does where the rest is that of what an argument goes on as
pub argument-open : (m : Definition) (g g' : Gathered) (a b : Awaited) (t : Token) → HasGathered m g a → ((more : List Token) → use_rest m (stage_of a g) (t ∷ more) ≡ use_rest m (stage_of b g') more) → IsStage m (stage_of b g') → use_of m (g.taken ++ t ∷ []) ≡ Open
argument-open m g g' a b t held steps is = held.rest (t ∷ []) ∙ steps [] ∙ use-open m (stage_of b g') is

pub empty-is : (xs ys : List Token) → xs ≡ ys → true ≡ (length xs == 0) → ys ≡ []
empty-is [] ys same h = sym same
empty-is (x ∷ xs) ys same h =
    let some : length (x ∷ xs) ≡ 0 → ⊥ = λ (q : length (x ∷ xs) ≡ 0). omega arith in
    absurd (let e : true ≡ false = h ∙ unlike (length (x ∷ xs)) 0 some in cc)

-- without tokens before the first parameter a use begins with its arguments
use-bare : (m : Definition) (taken more : List Token) → m.parameters.before ≡ [] → taken ≡ [] → use_of m (taken ++ more) ≡ others m [] more
use-bare m taken more bare nothing =
    ap (λ (x : List Token). use_of m (x ++ more)) nothing
    ∙ ap (λ (b : List Token). cond (common b more == length b) (arguments m.long [] m.parameters.delimiters (drop (length b) more)) (cond (common b more == length more) Open (Fails UseDiffers))) bare

goes-on-stage : (m : Definition) (g : Gathered) (awaited : Awaited) → IsStage m (stage_of awaited g) → goes_on awaited ≡ true
goes-on-stage m g (awaited.Before met) is = refl
goes-on-stage m g (awaited.Argument kind) is = refl
goes-on-stage m g awaited.Over is = absurd is

-- a use of which nothing is taken, and which begins with an argument
pub first-gathered : (m : Definition) (g g' : Gathered) (now : Advance) (awaited : Awaited) → m.parameters.before ≡ [] → m.parameters ≢ no_parameters → g.arguments ≡ [] → g'.taken ≡ [] → g'.from ≤ length g'.taken → ((more : List Token) → others m g.arguments more ≡ next_rest m (next_of now g') more) → IsNext m (next_of now g') → ((a : Awaited) → now ≡ advance.On a → a ≡ awaited) → HasGathered m g' awaited × (goes_on awaited ≡ true)
first-gathered m g g' (advance.On a) awaited bare some none nothing within rest is same =
    subst (λ (b : Awaited). HasGathered m g' b × (goes_on b ≡ true)) (same a refl) (
      record {
        stage_is = is;
        within = within;
        rest = λ more. use-bare m g'.taken more bare nothing ∙ ap (λ (x : List (List Token)). others m x more) (sym none) ∙ rest more;
      },
      goes-on-stage m g' a is,
    )
first-gathered m g g' (advance.Fits taken) awaited bare some none nothing within rest is same = absurd (not-whole m (Ends taken) g.arguments taken bare some none (rest []) refl)
first-gathered m g g' (advance.Fails error) awaited bare some none nothing within rest is same = absurd (not-wrong m (Stops error) g.arguments error bare some none (rest []) refl)
