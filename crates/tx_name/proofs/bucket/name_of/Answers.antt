use Rattle.std.proofs.Common.{◌≡◌, suc, ◌+◌, drop, Some, refl, sym, ap, ◌∙◌, arith}
use mathlib.Core.Bool.{false≢true}
use Rattle.std.specs.Option.{option_map}
use Rattle.std.specs.FinMap.Entries.{find}
use Rattle.tx_name.proofs.Places.{by_bytes, find-here, find-on}
use Rattle.tx_name.proofs.bucket.name_of.Goals as goal

pub returns-then-has_letters : goal.returns-then-has_letters
returns-then-has_letters g c =
    ap Some (c.if-has_letters.ensures.0 refl)
    ∙ ap (option_map (λ value. c.args.letters.now)) (sym (find-here c.args.entries.now c.loop-entry.entry-index c.args.letters.now c.entry-item.result c.loop-entry-test.true (ap (λ e. e.0) (sym c.entry-item.is) ∙ c.if-has_letters.ensures.0 refl))
    ∙ c.loop-entry.invariant)

pub loop-entry-preserved : goal.loop-entry-preserved
loop-entry-preserved g c =
    let next : c.loop-entry.entry-index + 1 ≡ suc c.loop-entry.entry-index = omega arith in
    ap (λ n. find by_bytes c.args.letters.now (drop n c.args.entries.now)) next
    ∙ sym (find-on c.args.entries.now c.loop-entry.entry-index c.args.letters.now c.entry-item.result c.loop-entry-test.true (λ same. false≢true (c.if-has_letters.ensures.1 (ap (λ e. e.0) c.entry-item.is ∙ same))))
    ∙ c.loop-entry.invariant
