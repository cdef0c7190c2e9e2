-- The last tokens of what was taken, put at the front of the input one by one.
use Rattle.std.proofs.Common.{◌≡◌, ◌≤◌, ◌<◌, ◌+◌, ◌-◌, ℕ, zero, suc, List, [], ◌∷◌, ◌++◌, length, refl, ap, sym, ◌∙◌, length-append, arith}
use Rattle.tx_char.specs.declared.tokens.Token.{Token}
use Rattle.tx_pending.specs.Elements.{Input, given_back, with_token}
use Rattle.tx_seen.specs.declared.item.Item.{Item}
use Rattle.tx_seen.specs.declared.item.Item.TheVariants.{Took, Gave}
use Rattle.tx_seen.specs.declared.fed.Value.{Value}
use Rattle.tx_seen.specs.declared.seen.Seen.{Seen}
use Rattle.tx_seen.specs.Readings.{tokens, last}
use Rattle.tx_scan.specs.Settled.{tokens_of}
use Rattle.tx_scan.proofs.Answering.{ending-all, last-given, last-push, length-ending}

tokens-on : (xs ys : List Item) → tokens_of (xs ++ ys) ≡ tokens_of xs ++ tokens_of ys
tokens-on [] ys = refl
tokens-on (Took t ∷ xs) ys = ap (λ (ts : List Token). t.token ∷ ts) (tokens-on xs ys)
tokens-on (Gave v ∷ xs) ys = tokens-on xs ys

given-push : (input : Input) (ts : List Token) (t : Token) → given_back (with_token input t) ts ≡ given_back input (ts ++ t ∷ [])
given-push input [] t = refl
given-push input (x ∷ ts) t = ap (λ (i : Input). with_token i x) (given-push input ts t)

last-one : (left : ℕ) (taken : List Item) (t : Seen) → last (suc left) (taken ++ Took t ∷ []) ≡ last left taken ++ Took t ∷ []
last-one left taken t =
    let short : length (last left taken) ≤ left = length-ending left (tokens taken) in
    let long : length (last left taken ++ Took t ∷ []) ≡ length (last left taken) + 1 = length-append (last left taken) (Took t ∷ []) in
    last-push (suc left) left taken t (omega arith) ∙ ending-all (suc left) (last left taken ++ Took t ∷ []) (omega (arith, short, long))

-- the last token first
token-back : (input : Input) (taken : List Item) (t : Seen) (left : ℕ) → given_back (with_token input t.token) (tokens_of (last left taken)) ≡ given_back input (tokens_of (last (suc left) (taken ++ Took t ∷ [])))
token-back input taken t left =
    let all : tokens_of (last (suc left) (taken ++ Took t ∷ [])) ≡ tokens_of (last left taken) ++ t.token ∷ [] = ap tokens_of (last-one left taken t) ∙ tokens-on (last left taken) (Took t ∷ []) in
    given-push input (tokens_of (last left taken)) t.token ∙ ap (given_back input) (sym all)

pub took-back : (input new : Input) (taken rest : List Item) (t : Seen) (left : ℕ) (all : Input) → taken ≡ rest ++ Took t ∷ [] → 0 < left → new ≡ with_token input t.token → given_back input (tokens_of (last left taken)) ≡ all → given_back new (tokens_of (last (left - 1) rest)) ≡ all
took-back input new taken rest t zero all same h put k = absurd (omega (arith, h))
took-back input new taken rest t (suc left) all same h put k =
    let e : suc left - 1 ≡ left = omega arith in
    rw (e, put) (token-back input rest t left ∙ (ap (λ (ts : List Item). given_back input (tokens_of (last (suc left) ts))) (sym same) ∙ k))

-- a value is no token
pub gave-back : (input : Input) (taken rest : List Item) (v : Value) (left : ℕ) (all : Input) → taken ≡ rest ++ Gave v ∷ [] → given_back input (tokens_of (last left taken)) ≡ all → given_back input (tokens_of (last left rest)) ≡ all
gave-back input taken rest v left all same k =
    ap (λ (ts : List Item). given_back input (tokens_of ts)) (sym (last-given left rest v)) ∙ (ap (λ (ts : List Item). given_back input (tokens_of (last left ts))) (sym same) ∙ k)
