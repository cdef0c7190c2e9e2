-- A place that is carried through the first changes of a list, and then through the others.
use Rattle.std.proofs.Common.{◌≡◌, ℕ, ◌+◌, ◌<◌, ◌≤◌, List, ◌∷◌, length, drop, get_or, Some, None, sym, ap, ◌∙◌}
use Rattle.std.specs.Option.{option_and_then}
use Rattle.std.proofs.lemmas.List.{drop_more, drop_all}
use Rattle.tx_files.specs.Carry.{carried_place, place_after}
use Rattle.tx_files.specs.declared.edit.Change.{Change}

module _ (changes : List Change) (name : List ℕ) (offset here k : ℕ) (so_far : carried_place (drop k changes) name here ≡ carried_place changes name offset) where
  module _ {c : Change} (more : k < length changes) (is : c ≡ get_or changes k c) where
    step : carried_place changes name offset ≡ option_and_then (λ at. carried_place (drop (k + 1) changes) name at) (place_after c name here)
    step = sym so_far ∙ ap (λ (rest : List Change). carried_place rest name here) (drop_more changes k c more ∙ ap (λ x. x ∷ drop (k + 1) changes) (sym is))

    pub place-on : {next : ℕ} → Some next ≡ place_after c name here → carried_place (drop (k + 1) changes) name next ≡ carried_place changes name offset
    place-on moved = ap (option_and_then (λ at. carried_place (drop (k + 1) changes) name at)) moved ∙ sym step

    pub place-lost : None ≡ place_after c name here → None ≡ carried_place changes name offset
    place-lost gone = ap (option_and_then (λ at. carried_place (drop (k + 1) changes) name at)) gone ∙ sym step

  pub place-all : length changes ≤ k → Some here ≡ carried_place changes name offset
  place-all past = sym (ap (λ (rest : List Change). carried_place rest name here) (drop_all k changes past)) ∙ so_far
