-- What the first changes of a list have moved, and the others will.
use Rattle.std.proofs.Common.{◌≡◌, ℕ, ◌+◌, ◌<◌, ◌≤◌, List, ◌∷◌, length, drop, get_or, refl, sym, ap, subst, ◌∙◌}
use Rattle.std.proofs.lemmas.List.{drop_more, drop_all}
use Rattle.tx_files.specs.Carry.{carried, CanCarry}
use Rattle.tx_files.specs.declared.edit.Change.{Change}

pub record Carrying {X : Type 0} (move : Change → X → X) (Can : Change → X → Type 0) (changes : List Change) (begun here : X) (k : ℕ) : Type 0 where
  pub is : carried move (drop k changes) here ≡ carried move changes begun
  pub can : CanCarry move Can (drop k changes) here

pub carrying-begun : {X : Type 0} {move : Change → X → X} {Can : Change → X → Type 0} {changes : List Change} {x : X} → CanCarry move Can changes x → Carrying move Can changes x x 0
carrying-begun can = record { is = refl; can = can }

module _ {X : Type 0} {move : Change → X → X} {Can : Change → X → Type 0} {changes : List Change} {begun here : X} {k : ℕ} (so_far : Carrying move Can changes begun here k) where
  -- the next change
  module _ {c : Change} (more : k < length changes) (is : c ≡ get_or changes k c) where
    left : drop k changes ≡ c ∷ drop (k + 1) changes
    left = drop_more changes k c more ∙ ap (λ x. x ∷ drop (k + 1) changes) (sym is)

    able : CanCarry move Can (c ∷ drop (k + 1) changes) here
    able = subst (λ (rest : List Change). CanCarry move Can rest here) left so_far.can

    pub carrying-can : Can c here
    carrying-can = able.0

    pub carrying-on : {next : X} → next ≡ move c here → Carrying move Can changes begun next (k + 1)
    carrying-on {next = next} moved = record {
      is = ap (carried move (drop (k + 1) changes)) moved ∙ sym (ap (λ (rest : List Change). carried move rest here) left) ∙ so_far.is;
      can = subst (CanCarry move Can (drop (k + 1) changes)) (sym moved) able.1;
    }

  -- all have
  pub carrying-all : length changes ≤ k → here ≡ carried move changes begun
  carrying-all past = sym (ap (λ (rest : List Change). carried move rest here) (drop_all k changes past)) ∙ so_far.is
