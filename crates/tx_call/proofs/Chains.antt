-- Texts one behind the other: a line is made from the last one on, and written from the first.
use Rattle.std.proofs.Common.{◌≡◌, ℕ, List, [], ◌∷◌, ◌++◌, refl, sym, ◌∙◌, append_assoc}

abbrev pub made : List (List ℕ) → List ℕ → List ℕ
made [] last = last
made (text ∷ texts) last = text ++ made texts last

abbrev pub written : List ℕ → List (List ℕ) → List ℕ → List ℕ
written first [] last = first ++ last
written first (text ∷ texts) last = written (first ++ text) texts last

pub chained : (first : List ℕ) (texts : List (List ℕ)) (last : List ℕ) → first ++ made texts last ≡ written first texts last
chained first [] last = refl
chained first (text ∷ texts) last = sym (append_assoc first text (made texts last)) ∙ chained (first ++ text) texts last
