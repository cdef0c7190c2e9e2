-- A body is put on a stack from its end on, with arguments at their places.
use Rattle.std.proofs.Common.{◌≡◌, ℕ, ◌+◌, ◌-◌, ◌<◌, ◌≤◌, List, [], ◌∷◌, ◌++◌, length, map, take, drop, get_or, ap, sym, ◌∙◌, arith, suc, add-one, append_assoc}
use Rattle.std.proofs.Math.Seq.{drop-cons}
use Rattle.std.proofs.lemmas.List.{drop_all, take_rest, map-append}
use Rattle.tx_char.specs.declared.tokens.Token.{Token}
use Rattle.tx_toklist.specs.declared.body.Slot.{Slot}
use Rattle.tx_toklist.specs.Bodies.{argument, filled_from}
use Rattle.tx_pending.specs.Elements.{Element, Given}

-- what is on the stack is the body from the place `end` on, with the places from this one on, before what was there
pub record IsFilled (arguments : List (List Token)) (tokens : List Token) (slots : List Slot) (left end : ℕ) (old now : List Element) : Type 0 where
  pub within : left ≤ length slots
  pub filled : (from : ℕ) → map Given (filled_from arguments tokens from (drop left slots)) ++ old ≡ map Given (take (end - from) (drop from tokens)) ++ now

pub filled-none : (arguments : List (List Token)) (tokens : List Token) (slots : List Slot) (left end : ℕ) (old : List Element) → left ≡ length slots → end ≡ length tokens → IsFilled arguments tokens slots left end old old
filled-none arguments tokens slots left end old all long = record {
  within = omega arith;
  filled = λ from.
      let none : drop left slots ≡ [] = drop_all left slots (omega arith) in
      let rest : drop from tokens ≡ take (end - from) (drop from tokens) = sym (take_rest tokens from) ∙ ap (λ n. take (n - from) (drop from tokens)) (sym long) in
      ap (λ s. map Given (filled_from arguments tokens from s) ++ old) none ∙ ap (λ t. map Given t ++ old) rest;
}

filled-along : (arguments : List (List Token)) (tokens : List Token) (slot : Slot) (slots : List Slot) (from : ℕ) (old middle now : List Element) → map Given (filled_from arguments tokens slot.before slots) ++ old ≡ middle → now ≡ map Given (argument arguments slot.number) ++ middle → map Given (filled_from arguments tokens from (slot ∷ slots)) ++ old ≡ map Given (take (slot.before - from) (drop from tokens)) ++ now
filled-along arguments tokens slot slots from old middle now behind put =
    let part : List Token = take (slot.before - from) (drop from tokens) in
    let arg : List Token = argument arguments slot.number in
    let rest : List Token = filled_from arguments tokens slot.before slots in
    ap (λ es. es ++ old) (map-append Given part (arg ++ rest) ∙ ap (λ es. map Given part ++ es) (map-append Given arg rest))
    ∙ append_assoc (map Given part) (map Given arg ++ map Given rest) old
    ∙ ap (λ es. map Given part ++ es) (append_assoc (map Given arg) (map Given rest) old ∙ ap (λ es. map Given arg ++ es) behind ∙ sym put)

pub filled-more : (arguments : List (List Token)) (tokens : List Token) (slots : List Slot) (left end : ℕ) (slot : Slot) (old now middle after : List Element) → IsFilled arguments tokens slots (left + 1) end old now → slot ≡ get_or slots left slot → middle ≡ map Given (take (end - slot.before) (drop slot.before tokens)) ++ now → after ≡ map Given (argument arguments slot.number) ++ middle → IsFilled arguments tokens slots left slot.before old after
filled-more arguments tokens slots left end slot old now middle after so-far is part argument-put = record {
  within = omega (arith, so-far.within);
  filled = λ from.
      let less : left < length slots = omega (arith, so-far.within) in
      let here : drop left slots ≡ slot ∷ drop (left + 1) slots = drop-cons slots left slot less ∙ ap (λ s. s ∷ drop (suc left) slots) (sym is) ∙ ap (λ k. slot ∷ drop k slots) (sym (add-one left)) in
      ap (λ s. map Given (filled_from arguments tokens from s) ++ old) here ∙ filled-along arguments tokens slot (drop (left + 1) slots) from old middle after (so-far.filled slot.before ∙ sym part) argument-put;
}

pub filled-whole : (arguments : List (List Token)) (tokens : List Token) (slots : List Slot) (end : ℕ) (old now after : List Element) → IsFilled arguments tokens slots 0 end old now → after ≡ map Given (take (end - 0) (drop 0 tokens)) ++ now → after ≡ map Given (filled_from arguments tokens 0 slots) ++ old
filled-whole arguments tokens slots end old now after so-far part = part ∙ sym (so-far.filled 0)
