-- What reading on gives, by what of a rule comes next: a scan that is fed token by token means the rest of what it reads.
use Rattle.std.specs.Prelude.{◌≤◌, ◌<◌, ◌+◌, ℕ, List, ◌∷◌, [], ◌++◌, length}
use Rattle.tx_node.specs.declared.rule.Rule.{Rule}
use Rattle.tx_seen.specs.declared.fed.Fed.{Fed}
use Rattle.tx_seen.specs.declared.fed.Fed.TheVariants as fed
use Rattle.tx_seen.specs.declared.item.Item.{Item}
use Rattle.tx_seen.specs.declared.item.Item.TheVariants.{Took}
use Rattle.tx_seen.specs.declared.seen.Seen.{Seen}
use Rattle.tx_seen.specs.Readings.{Reading, next}
use Rattle.tx_scan.specs.Rests.{IsRead}
use Rattle.tx_scan.specs.declared.scans.KeyScan.{KeyScan}
use Rattle.tx_scan.specs.Keywords.{rest as key_rest, held as key_held}
use Rattle.tx_scan.specs.DimensionRests.{rest as dimen_rest, held as dimen_held, more_needed as dimen_needed}
use Rattle.tx_rule.specs.declared.scans.Side.{Side}
use Rattle.tx_rule.specs.declared.scans.RuleScan.{RuleScan}
use Rattle.tx_rule.specs.declared.scans.RulePart.{RulePart}
use Rattle.tx_rule.specs.declared.scans.RulePart.TheVariants as rule
use Rattle.tx_rule.specs.Rules.{letters_of, side_if, side_or_end, with_side, rule_sides}

-- the rest of a rule by the part that comes next
abbrev pub rule_part_rest : RulePart → RuleScan → List Item → Item → List Item → Reading Rule
rule_part_rest rule.Start scan behind item more = rule_sides scan.rule (item ∷ more)
rule_part_rest (rule.Name side key) scan behind item more = next (next (key_rest (letters_of side) key behind item more) (side_if side)) (side_or_end rule_sides scan.rule)
rule_part_rest (rule.Size side) scan behind item more = next (dimen_rest scan.size behind item more) (λ measure behind. rule_sides (with_side scan.rule side measure.size) behind)

abbrev pub rule_rest : RuleScan → List Item → Item → List Item → Reading Rule
rule_rest scan behind item more = rule_part_rest scan.part scan behind item more

-- the letters of a side's name may be given back, and the token behind a size that waits for a value
abbrev pub rule_part_held : RulePart → RuleScan → ℕ
rule_part_held rule.Start scan = 0
rule_part_held (rule.Name side key) scan = key_held key
rule_part_held (rule.Size side) scan = dimen_held scan.size

abbrev pub rule_held : RuleScan → ℕ
rule_held scan = rule_part_held scan.part scan

-- how many values a rule needs at most, unless more tokens need more: those of a size
abbrev pub rule_part_needed : RulePart → RuleScan → ℕ
rule_part_needed rule.Start scan = 0
rule_part_needed (rule.Name side key) scan = 0
rule_part_needed (rule.Size side) scan = dimen_needed scan.size

abbrev pub rule_needed : RuleScan → ℕ
rule_needed scan = rule_part_needed scan.part scan

-- only the size of a side needs values
abbrev pub IsSizing : RulePart → Type 0
IsSizing rule.Start = ⊥
IsSizing (rule.Name side key) = ⊥
IsSizing (rule.Size side) = Unit {0}

-- of a name that is being read letters are to come
abbrev pub IsUnnamed : RulePart → Type 0
IsUnnamed rule.Start = Unit {0}
IsUnnamed (rule.Name side key) = key.read < length (letters_of side)
IsUnnamed (rule.Size side) = Unit {0}

-- an answer to one more token of a side's name, of which so much is read, says what reading on gives
abbrev pub IsNameFed : Side → KeyScan → Rule → Seen → RuleScan → Fed Rule → Type 0
IsNameFed side key rule t new answer =
    (behind : List Item) → length behind ≤ key_held key → IsRead rule_rest rule_held (key_held key + 1) (λ more. next (next (key_rest (letters_of side) key behind (Took t) more) (side_if side)) (side_or_end rule_sides rule)) (behind ++ Took t ∷ []) new answer

-- a rule that isn't whole is so; where a size needs a value, one token at most is held
abbrev pub IsRuleFed : RuleScan → Fed Rule → Type 0
IsRuleFed scan (fed.More want) = IsUnnamed scan.part
IsRuleFed scan (fed.Need kind) = IsSizing scan.part × (rule_held scan ≤ 1)
IsRuleFed scan (fed.Done rule back) = Unit {0}
IsRuleFed scan (fed.Wrong error) = Unit {0}
