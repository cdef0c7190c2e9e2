use Rattle.std.proofs.Common.{◌≡◌, ℕ, ◌+◌, ◌<◌, ◌++◌, Bool, cond, length, Fits, w64, sym, ap, subst, ◌∙◌, rules, arith, length-append}
use Rattle.std.specs.List.{prefix_len}
use Rattle.std.specs.FinMap.{get}
use Rattle.std.proofs.lemmas.Bool.{lt-ltb}
use Rattle.std.proofs.lemmas.List.Sums.{prefix_len-le-length}
use Rattle.tx_files.specs.Reads.{leaves}
use Rattle.tx_checkpoint.specs.declared.located.Located.{Located}
use Rattle.tx_checkpoint.specs.declared.located.Located.TheVariants.{Page, After, Nowhere}
use Rattle.tx_checkpoint.specs.Locate.{passes, located_at}
use Rattle.tx_checkpoint.proofs.Locating.{passed-part, passed-whole}
use Rattle.tx_checkpoint.proofs.rows.locate_between.Goals as goal

pub returns-then-before-first : goal.returns-then-before-first
returns-then-before-first g c =
    let name = c.args.name.now in
    let place = c.args.place in
    let first = c.args.first.now in
    let others = c.args.others.now in
    let left : Bool = leaves (get c.args.last.now.seen name) place in
    let less : prefix_len (passes name place) first < length first = subst (λ n. n < length first) c.passed-before.ensures c.if-before-first.true in
    let all = length-append first others in
    ap (λ n. Page (n + 1)) (c.passed-before.ensures ∙ sym (passed-part name place first others less))
    ∙ sym (ap (λ b. cond {A = Located} b (Page (prefix_len (passes name place) (first ++ others) + 1)) (cond {A = Located} left Nowhere After))
    (lt-ltb (prefix_len (passes name place) (first ++ others)) (length (first ++ others)) (omega (arith, less, all, passed-part name place first others less))))

pub overflow_add-before : goal.overflow_add-before
overflow_add-before g c =
    let all : Fits w64 (length c.args.first.now + length c.args.others.now) = search rules in
    let first = prefix_len-le-length (passes c.args.name.now c.args.place) c.args.first.now in
    let others = prefix_len-le-length (passes c.args.name.now c.args.place) c.args.others.now in
    omega (arith, all, first, others, c.passed-before.ensures, c.passed-behind.ensures)

pub returns : goal.returns
returns g c =
    let name = c.args.name.now in
    let place = c.args.place in
    let first = c.args.first.now in
    let others = c.args.others.now in
    let whole = passed-whole name place first others (omega (arith, c.if-before-first.false, c.passed-before.ensures)) in
    let count : c.passed-before.result + c.passed-behind.result ≡ prefix_len (passes name place) (first ++ others) = omega (arith, whole, c.passed-before.ensures, c.passed-behind.ensures) in
    c.located_at.ensures ∙ (λ i. located_at (count i) (sym (length-append first others) i) (c.leaves-left.ensures i))
