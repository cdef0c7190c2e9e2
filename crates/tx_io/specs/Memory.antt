-- What a source, an inlet and a sink in memory are made of.
use Rattle.std.specs.Prelude.{ℕ, ◌+◌, ◌-◌, ◌^◌, min, List, Contains, refl}
use Rattle.std.specs.Coded.{Coded, code_by, coded×, coded_ℕ, coded_list}
use Rattle.std.specs.FinMap as map
use Rattle.tx_bytes.specs.Files.{Files}
use Rattle.tx_io.specs.Output.{Output}

-- calls of one kind: the numbers of those that are to fail, counted from 1, and how many were made
pub record Plan : Type 0 where
  pub failing : List ℕ
  pub made : ℕ

-- a count that stops at 2^64 - 1, one up
abbrev pub one_up : ℕ → ℕ
one_up count = min (count + 1) (2 ^ 64 - 1)

-- one call more
abbrev pub next_call : Plan → Plan
next_call plan = record plan { made = one_up plan.made }

-- the call that was made last is to fail
abbrev pub Fails : Plan → Type 0
Fails plan = Contains plan.failing plan.made

-- a source: its files, its fetches and its faults
pub record SourceMemory : Type 0 where
  pub files : Files
  pub fetches : Plan
  pub faults : ℕ

-- a sink: what was put out, its says, its saves and its faults
pub record SinkMemory : Type 0 where
  pub output : Output
  pub says : Plan
  pub saves : Plan
  pub faults : ℕ

-- an inlet: the bytes that are still to come, its calls and its faults
pub record InletMemory : Type 0 where
  pub left : List ℕ
  pub reads : Plan
  pub faults : ℕ

abbrev pub files_code : Coded Files
files_code = map.code (coded_list coded_ℕ) (coded_list coded_ℕ)

abbrev pub output_code : Coded Output
output_code =
    code_by (List ℕ × Files) (coded× (coded_list coded_ℕ) files_code) (λ o. (o.said, o.saved)) (λ p. record { said = p.0; saved = p.1 }) (λ _. refl)

abbrev pub plan_code : Coded Plan
plan_code = code_by (List ℕ × ℕ) (coded× (coded_list coded_ℕ) coded_ℕ) (λ p. (p.failing, p.made)) (λ q. record { failing = q.0; made = q.1 }) (λ _. refl)

abbrev pub source_code : Coded SourceMemory
source_code =
    code_by (Files × (Plan × ℕ)) (coded× files_code (coded× plan_code coded_ℕ)) (λ s. (s.files, (s.fetches, s.faults)))
    (λ p. record { files = p.0; fetches = p.1.0; faults = p.1.1 }) (λ _. refl)

abbrev pub sink_code : Coded SinkMemory
sink_code =
    code_by (Output × (Plan × (Plan × ℕ))) (coded× output_code (coded× plan_code (coded× plan_code coded_ℕ))) (λ s. (s.output, (s.says, (s.saves, s.faults))))
    (λ p. record { output = p.0; says = p.1.0; saves = p.1.1.0; faults = p.1.1.1 }) (λ _. refl)

abbrev pub inlet_code : Coded InletMemory
inlet_code =
    code_by (List ℕ × (Plan × ℕ)) (coded× (coded_list coded_ℕ) (coded× plan_code coded_ℕ)) (λ s. (s.left, (s.reads, s.faults)))
    (λ p. record { left = p.0; reads = p.1.0; faults = p.1.1 }) (λ _. refl)
