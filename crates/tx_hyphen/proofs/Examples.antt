-- The definitions at the word that The TeXbook divides in appendix H, and at an exception.
use Rattle.std.proofs.Common.{◌≡◌, ℕ, List, [], ◌∷◌, ◌++◌, refl}
use Rattle.std.specs.Prelude.{codes, pos, Some}
use Rattle.std.specs.Option.{option_to_list}
use Rattle.std.specs.List.{range_with_len}
use Rattle.tx_hyphen.specs.declared.spelling.Kind.{Kind}
use Rattle.tx_hyphen.specs.declared.spelling.Kind.TheVariants.{Pattern, Exception}
use Rattle.tx_hyphen.specs.declared.spelling.Spelling.{Spelling}
use Rattle.tx_hyphen.specs.Spelling.{spelled}
use Rattle.tx_hyphen.specs.Points.{points}

-- every character but the first is a letter
abbrev lower : List ℕ
lower = range_with_len 0 256

abbrev spellings : Kind → List (List ℕ) → List Spelling
spellings kind [] = []
spellings kind (text ∷ texts) = option_to_list (spelled kind lower text) ++ spellings kind texts

abbrev patterns : List Spelling
patterns =
    spellings Pattern
    (codes "hy3ph" ∷ codes "he2n" ∷ codes "hena4" ∷ codes "hen5at" ∷ codes "1na" ∷ codes "n2at" ∷ codes "1tio"
    ∷ codes "2io" ∷ codes "o2n" ∷ [])

pub hy-phen-ation : points (record { patterns = patterns; exceptions = [] }) (codes "hyphenation") (pos 2) (pos 3) ≡ 2 ∷ 6 ∷ []
hy-phen-ation = refl

pub an-exception : points (record { patterns = patterns; exceptions = spellings Exception (codes "hyphena-tion" ∷ []) }) (codes "hyphenation") (pos 2) (pos 3) ≡ 7 ∷ []
an-exception = refl

-- an edge, a, level 2, b, level 1, a 4 that is a letter since it stands behind a digit, an edge
pub levels-and-letters : spelled Pattern lower (codes ".a2b14.") ≡ Some (record { letters = 0 ∷ 97 ∷ 98 ∷ 52 ∷ 0 ∷ []; levels = 0 ∷ 0 ∷ 2 ∷ 1 ∷ 0 ∷ 0 ∷ [] })
levels-and-letters = refl
