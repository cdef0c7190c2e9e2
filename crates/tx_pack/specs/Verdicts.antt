-- How bad a box is, and what is said of it (TeX: The Program, sections 660, 664, 666, 667, 674 and 677).
use Rattle.std.specs.Prelude.{ℕ, Bool, ◌==◌, ◌&&◌, ◌||◌, nat_lt, ℤ, pos, ◌-ℤ◌, neg_ℤ, int_lt, List, [], ◌∷◌, ◌++◌, length, codes, decimal, Option, Some, None, if◌then◌else◌}
use Rattle.tx_num.specs.Badness.{badness_of}
use Rattle.tx_num.specs.Decimals.{scaled_text_of}
use Rattle.tx_node.specs.declared.head.Direction.{Direction}
use Rattle.tx_node.specs.declared.head.Direction.TheVariants.{Horizontal, Vertical}
use Rattle.tx_node.specs.declared.plain.Shared.TheVariants.{Rule}
use Rattle.tx_node.specs.Items.{Item, shared}
use Rattle.tx_pack.specs.declared.types.PackParams.{PackParams}
use Rattle.tx_pack.specs.declared.sums.Sums.{Sums}
use Rattle.tx_pack.specs.declared.stretching.Most.{Most}
use Rattle.tx_pack.specs.declared.verdicts.Told.{Told}
use Rattle.tx_pack.specs.declared.verdicts.Told.TheVariants.{Nothing, Overfull, Underfull, Loose, Tight}
use Rattle.tx_pack.specs.declared.verdicts.Verdict.{Verdict}
use Rattle.tx_pack.specs.Stretching.{highest, is_overfull}

abbrev pub verdict : ℕ → Told → Verdict
verdict badness told = record { badness = badness; told = told }

-- what is said of a list that stretches by glue of normal order: it is underfull past badness 100, and loose below
abbrev pub stretched_told : PackParams → ℕ → Told
stretched_told params badness =
    if int_lt params.badness (pos badness) then (if nat_lt 100 badness then Underfull badness else Loose badness)
    else Nothing

-- of one that is too long by so much when all its shrink is used up
abbrev pub overfull_told : PackParams → ℤ → Told
overfull_told params surplus = if int_lt params.fuzz surplus || int_lt params.badness (pos 100) then Overfull surplus else Nothing

-- of one that shrinks by glue of normal order
abbrev pub shrunk_told : PackParams → ℕ → Told
shrunk_told params badness = if int_lt params.badness (pos badness) then Tight badness else Nothing

-- nothing is bad, and nothing said
abbrev pub good : Verdict
good = verdict 0 Nothing

abbrev pub stretched : PackParams → ℕ → Verdict
stretched params badness = verdict badness (stretched_told params badness)

abbrev pub overfull : PackParams → ℤ → Verdict
overfull params surplus = verdict 1000000 (overfull_told params surplus)

abbrev pub shrunk : PackParams → ℕ → Verdict
shrunk params badness = verdict badness (shrunk_told params badness)

-- glue of a higher order is never bad
abbrev pub verdict_stretched : PackParams → Most → ℤ → Verdict
verdict_stretched params most excess = if most.order == 0 then stretched params (badness_of excess most.total) else good

abbrev pub verdict_shrunk : PackParams → Most → ℤ → Verdict
verdict_shrunk params most excess =
    if is_overfull most excess then overfull params (neg_ℤ excess -ℤ most.total)
    else if most.order == 0 then shrunk params (badness_of (neg_ℤ excess) most.total)
    else good

-- of a list with these sums that has to grow by so much; only a list that isn't empty is bad
abbrev pub is_empty : List Item → Bool
is_empty list = length list == 0

abbrev pub verdict_set : PackParams → Sums → ℤ → Verdict
verdict_set params sums excess =
    if int_lt (pos 0) excess then verdict_stretched params (highest sums.stretch) excess
    else if int_lt excess (pos 0) then verdict_shrunk params (highest sums.shrink) excess
    else good

abbrev pub verdict_of : PackParams → List Item → Sums → ℤ → Verdict
verdict_of params list sums excess = if is_empty list then good else verdict_set params sums excess

-- by how much a box is said to be overfull
abbrev pub surplus_of : Told → Option ℤ
surplus_of Nothing = None
surplus_of (Overfull surplus) = Some surplus
surplus_of (Underfull badness) = None
surplus_of (Loose badness) = None
surplus_of (Tight badness) = None

-- the width of the rule that ends the list of an hbox which is overfull by more than \hfuzz
abbrev pub rule_past : PackParams → Option ℤ → Option ℤ
rule_past params None = None
rule_past params (Some surplus) = if int_lt params.fuzz surplus && int_lt (pos 0) params.overfull_rule then Some params.overfull_rule else None

abbrev pub end_rule : Direction → PackParams → Told → Option ℤ
end_rule Horizontal params told = rule_past params (surplus_of told)
end_rule Vertical params told = None

-- its height and depth run
abbrev pub ended_by : List Item → Option ℤ → List Item
ended_by list None = list
ended_by list (Some width) = list ++ shared (Rule (record { width = Some width; height = None; depth = None })) ∷ []

-- the transcript's line: ` hbox ` or ` vbox ` with the size or badness behind the word, and the end of the line
abbrev pub named : Direction → List ℕ
named Horizontal = codes " hbox "
named Vertical = codes " vbox "

abbrev pub line_of : List ℕ → Direction → List ℕ → List ℕ
line_of word direction size = word ++ named direction ++ size ++ 10 ∷ []

abbrev pub report_of : Direction → Told → List ℕ
report_of direction Nothing = []
report_of direction (Overfull surplus) = line_of (codes "overfull") direction (scaled_text_of surplus ++ codes "pt")
report_of direction (Underfull badness) = line_of (codes "underfull") direction (decimal badness)
report_of direction (Loose badness) = line_of (codes "loose") direction (decimal badness)
report_of direction (Tight badness) = line_of (codes "tight") direction (decimal badness)
