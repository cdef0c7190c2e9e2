-- What \aftergroup keeps comes in front, token by token.
use Rattle.std.proofs.Common.{◌≡◌, ℕ, Bool, true, false, Option, Some, None, List, [], ◌∷◌, ◌++◌, ◌==◌, refl, ap, sym, ◌∙◌, if◌then◌else◌}
use Rattle.std.specs.Prelude.{MatchOption}
use Rattle.tx_char.specs.declared.tokens.Token.{Token}
use Rattle.tx_pending.specs.Elements.{Input, given_back, with_token}
use Rattle.tx_parts.specs.declared.parts.KeptToken.{KeptToken}
use Rattle.tx_parts.specs.KeptTokens.{kept_for, kept_tokens, left_after}

-- a token that is given back, and then others
token-behind : (input : Input) (t : Token) (ts : List Token) → given_back (with_token input t) ts ≡ given_back input (ts ++ t ∷ [])
token-behind input t [] = refl
token-behind input t (u ∷ ts) = ap (λ (i : Input). with_token i u) (token-behind input t ts)

either-behind : (b : Bool) (xs ys ts us : List Token) → xs ≡ ys ++ us → (if b then xs else (ts ++ us)) ≡ (if b then ys else ts) ++ us
either-behind true xs ys ts us is = is
either-behind false xs ys ts us is = refl

-- tokens behind those that are kept
kept-before : (groups : ℕ) (kept : List KeptToken) (ts us : List Token) → kept_tokens groups kept (ts ++ us) ≡ kept_tokens groups kept ts ++ us
kept-before groups [] ts us = refl
kept-before groups (k ∷ more) ts us =
    either-behind (k.groups == groups) (kept_tokens groups more (k.token ∷ (ts ++ us))) (kept_tokens groups more (k.token ∷ ts)) ts us (kept-before groups more (k.token ∷ ts) us)

first-kept : (groups : ℕ) (k : KeptToken) (more : List KeptToken) (t : Token) (input : Input) → kept_for (k ∷ more) groups ≡ Some t → (left_after groups more ≡ left_after groups (k ∷ more)) × (given_back (with_token input t) (kept_tokens groups more []) ≡ given_back input (kept_tokens groups (k ∷ more) []))
first-kept groups k more t input is = by (k.groups == groups) is
  where
    by : (b : Bool) → (if b then Some k.token else None) ≡ Some t → (left_after groups more ≡ (if b then left_after groups more else k ∷ more)) × (given_back (with_token input t) (kept_tokens groups more []) ≡ given_back input (if b then kept_tokens groups more (k.token ∷ []) else []))
    by true is =
        let same : t ≡ k.token = cc in
        (refl, token-behind input t (kept_tokens groups more []) ∙ ap (given_back input) (sym (kept-before groups more [] (t ∷ []))) ∙ ap (λ (u : Token). given_back input (kept_tokens groups more (u ∷ []))) same)
    by false is = absurd (cc)

-- the next one is put at the front
pub one-kept : (groups : ℕ) (kept more : List KeptToken) (popped : Option KeptToken) (t : Token) (input new : Input) → kept_for kept groups ≡ Some t → MatchOption popped ((kept ≡ []) × (more ≡ [])) (λ k. kept ≡ k ∷ more) → new ≡ with_token input t → (left_after groups more ≡ left_after groups kept) × (given_back new (kept_tokens groups more []) ≡ given_back input (kept_tokens groups kept []))
one-kept groups kept more None t input new is whole put =
    let no : None ≡ Some t = sym (ap (λ (ks : List KeptToken). kept_for ks groups) whole.0) ∙ is in
    absurd (cc)
one-kept groups kept more (Some k) t input new is whole put =
    let first = first-kept groups k more t input (ap (λ (ks : List KeptToken). kept_for ks groups) (sym whole) ∙ is) in (
      first.0 ∙ ap (left_after groups) (sym whole),
      ap (λ (i : Input). given_back i (kept_tokens groups more [])) put ∙ first.1 ∙ ap (λ (ks : List KeptToken). given_back input (kept_tokens groups ks [])) (sym whole),
    )
