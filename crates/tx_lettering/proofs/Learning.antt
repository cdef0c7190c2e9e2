-- What patterns and exceptions add to what is known of hyphenation.
use Rattle.std.proofs.Common.{◌≡◌, ℕ, List, Option, Some, Result, Ok, Err, ap, sym, ◌∙◌}
use Rattle.tx_eqtb.specs.declared.eqtb.Eqtb.{Eqtb}
use Rattle.tx_hyphen.specs.Rules.{Rules}
use Rattle.tx_hyphenate.specs.declared.known.Hyphenation.{Hyphenation}
use Rattle.tx_hyphenate.specs.Texts.{with_exceptions, with_patterns}
use Rattle.tx_paragraph.specs.Hyphens.{lower_codes}
use Rattle.tx_seen.specs.declared.error.TexError.TheVariants.{BadHyphenation}
use Rattle.tx_state.specs.declared.state.State.{State}
use Rattle.tx_state.specs.Ended.{assigned}
use Rattle.tx_state.specs.Meanings.{state_of}
use Rattle.tx_state.specs.Outcomes.{Outcome, fails, leaves}
use Rattle.tx_lettering.specs.Hyphens.{excepting, learned, patterning}

-- what is known, with other rules
knows-more : (s : State) (known new : Hyphenation) → s.hyphenation ≡ known → new.used ≡ known.used → leaves (assigned (state_of (record s { hyphenation = record s.hyphenation { hyphens = new.hyphens } }))) ≡ leaves (assigned (state_of (record s { hyphenation = new })))
knows-more s known new known_is same =
    let used : s.hyphenation.used ≡ new.used = ap (λ (h : Hyphenation). h.used) known_is ∙ sym same in
    (λ i. leaves (assigned (state_of (record s { hyphenation = record { hyphens = new.hyphens; used = used i } }))))

patterns-as : (s : State) (known : Hyphenation) (table : Eqtb) (lower : List ℕ) (texts : List (List ℕ)) → s.hyphenation ≡ known → s.table ≡ table → lower ≡ lower_codes table.table → with_patterns (lower_codes s.table.table) s.hyphenation.hyphens texts ≡ with_patterns lower known.hyphens texts
patterns-as s known table lower texts known_is table_is lower_is = λ i. with_patterns ((ap (λ (t : Eqtb). lower_codes t.table) table_is ∙ sym lower_is) i) (known_is i).hyphens texts

pub patterns-learned : (s : State) (known new : Hyphenation) (table : Eqtb) (lower : List ℕ) (texts : List (List ℕ)) → s.hyphenation ≡ known → s.table ≡ table → lower ≡ lower_codes table.table → with_patterns lower known.hyphens texts ≡ Ok new.hyphens → new.used ≡ known.used → patterning (state_of s) (Some texts) ≡ leaves (assigned (state_of (record s { hyphenation = new })))
patterns-learned s known new table lower texts known_is table_is lower_is is same =
    ap (learned (state_of s)) (patterns-as s known table lower texts known_is table_is lower_is ∙ is) ∙ knows-more s known new known_is same

exceptions-as : (s : State) (known : Hyphenation) (table : Eqtb) (lower : List ℕ) (words : List (List ℕ)) → s.hyphenation ≡ known → s.table ≡ table → lower ≡ lower_codes table.table → with_exceptions (lower_codes s.table.table) s.hyphenation.hyphens words ≡ with_exceptions lower known.hyphens words
exceptions-as s known table lower words known_is table_is lower_is = λ i. with_exceptions ((ap (λ (t : Eqtb). lower_codes t.table) table_is ∙ sym lower_is) i) (known_is i).hyphens words

pub exceptions-learned : (s : State) (known new : Hyphenation) (table : Eqtb) (lower : List ℕ) (words : List (List ℕ)) → s.hyphenation ≡ known → s.table ≡ table → lower ≡ lower_codes table.table → with_exceptions lower known.hyphens words ≡ Ok new.hyphens → new.used ≡ known.used → excepting (state_of s) (Some words) ≡ leaves (assigned (state_of (record s { hyphenation = new })))
exceptions-learned s known new table lower words known_is table_is lower_is is same =
    ap (learned (state_of s)) (exceptions-as s known table lower words known_is table_is lower_is ∙ is) ∙ knows-more s known new known_is same
