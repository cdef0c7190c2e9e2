use Rattle.std.proofs.Common.{◌≡◌, ◌≢◌, ◌<◌, ◌≤◌, subst, ◌-◌, ◌∷◌, ◌++◌, [], List, length, take, arith, sym, ap, ◌∙◌}
use Rattle.std.proofs.lemmas.Result.{IfOk-weaker}
use Rattle.tx_char.specs.declared.tokens.Token.{Token}
use Rattle.tx_macro.specs.Arguments.{delimited}
use Rattle.tx_macro.proofs.Takings.{taking-whole, taking-none, none-common, taking-some, taking-agrees, agreement-within}
use Rattle.tx_macro.proofs.delimited.take.Goals as goal

pub returns-then-now-delimiter-clause-rest : goal.returns-then-now-delimiter-clause-rest
returns-then-now-delimiter-clause-rest c = λ met more taking.
    let d = c.args.delimiter.now in
    let front = take (length met - c.args.before) met in
    let flat : c.args.depth ≡ 0 = omega arith in
    ap (λ n. delimited c.args.long d front c.args.before n (take c.args.before d ++ c.args.token.now ∷ more)) flat
    ∙ taking-whole c.args.long d front c.args.before c.args.token.now more c.requires.fewer (sym c.agreed-now.ensures ∙ c.if-now-delimiter.true)

pub returns-then-now-eq0-clause-rest : goal.returns-then-now-eq0-clause-rest
returns-then-now-eq0-clause-rest c =
    let d = c.args.delimiter.now in
    let flat : c.args.depth ≡ 0 = omega arith in
    let some : 0 < length d = omega (arith, c.requires.fewer) in
    IfOk-weaker c.take_outside.result _ _ (λ step h met more taking.
    ap (λ n. delimited c.args.long d (take (length met - c.args.before) met) c.args.before n (take c.args.before d ++ c.args.token.now ∷ more)) flat
    ∙ taking-none c.args.long d (take (length met - c.args.before) met) c.args.before c.args.token.now more c.requires.fewer c.requires.delimiter (sym c.agreed-now.ensures ∙ c.if-now-eq0.true)
    ∙ ap (λ (all : List Token). delimited c.args.long d all 0 0 (c.args.token.now ∷ more)) (sym taking.agrees)
    ∙ h c.args.borders.now d met more some (none-common d (take c.args.before d) c.args.token.now more (sym c.agreed-now.ensures ∙ c.if-now-eq0.true)))
    c.take_outside.ensures.rest

pub returns-clause-rest : goal.returns-clause-rest
returns-clause-rest c = λ met more taking.
    let d = c.args.delimiter.now in
    let n = c.agreed-now.result in
    let front = take (length met - c.args.before) met in
    let flat : c.args.depth ≡ 0 = omega arith in
    let pushed : (front ++ take c.args.before d) ++ c.args.token.now ∷ [] ≡ met ++ c.args.token.now ∷ [] = ap (λ (all : List Token). all ++ c.args.token.now ∷ []) (sym taking.agrees) in
    ap (λ k. delimited c.args.long d front c.args.before k (take c.args.before d ++ c.args.token.now ∷ more)) flat
    ∙ taking-some c.args.long d front c.args.before n c.args.token.now more c.requires.fewer c.requires.delimiter c.agreed-now.ensures c.if-now-eq0.false
    ∙ ap (λ (all : List Token). delimited c.args.long d (take (length all - n) all) n 0 (take n d ++ more)) pushed

pub returns-clause-part : goal.returns-clause-part
returns-clause-part c = λ met taking.
    let d = c.args.delimiter.now in
    let n = c.agreed-now.result in
    let front = take (length met - c.args.before) met in
    let pushed : (front ++ take c.args.before d) ++ c.args.token.now ∷ [] ≡ met ++ c.args.token.now ∷ [] = ap (λ (all : List Token). all ++ c.args.token.now ∷ []) (sym taking.agrees) in
    let within : n ≤ length d = omega (arith, agreement-within d (take c.args.before d ++ c.args.token.now ∷ []), c.agreed-now.ensures) in
    let other : n ≢ length d = c.if-now-delimiter.false in
    record {
      table = c.requires.table;
      fewer = omega arith;
      agrees = subst (λ (all : List Token). all ≡ take (length all - n) all ++ take n d) pushed (taking-agrees d front c.args.before n c.args.token.now c.agreed-now.ensures);
      outside = λ h. absurd (omega arith);
    }
