use Rattle.std.proofs.Common.{◌≡◌, ◌&&◌, Bool, true, false, nat_eq, refl, sym, ap, ◌∙◌, arith, rules}
use Rattle.std.proofs.lemmas.Bool.{eqb-true, eq-eqb}
use Rattle.tx_files.specs.Reads.{untouched}
use Rattle.tx_checkpoint.proofs.Standing.{stands-by}
use Rattle.tx_checkpoint.proofs.row.Rows.stands.Goals as goal

other : (b x : Bool) → (b ≡ true → ⊥) → b ≡ (b && x)
other true x never = absurd (never refl)
other false x never = refl

pub returns-then-kept-len : goal.returns-then-kept-len
returns-then-kept-len g c =
    c.untouched.ensures
    ∙ ap (λ b. b && untouched c.args.self.now.last.seen c.args.changes.now) (sym (eq-eqb c.args.kept c.len.result (omega (arith, c.if-kept-len.true))))
    ∙ stands-by c.args.self.now.rows.items c.args.self.now.last c.args.changes.now c.args.kept c.len.result c.requires (search (rules, c.len.ensures))

pub returns-else-kept-len : goal.returns-else-kept-len
returns-else-kept-len g c =
    other (nat_eq c.args.kept c.len.result) (untouched c.args.self.now.last.seen c.args.changes.now) (λ is. omega (arith, eqb-true c.args.kept c.len.result is, c.if-kept-len.false))
    ∙ stands-by c.args.self.now.rows.items c.args.self.now.last c.args.changes.now c.args.kept c.len.result c.requires (search (rules, c.len.ensures))
