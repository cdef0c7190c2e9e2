use Rattle.std.proofs.Common.{◌≡◌, ◌-◌, length, min, refl, ap, ◌∙◌, arith, rules}
use Rattle.tx_checkpoint.specs.Resume.{start_of}
use Rattle.tx_quiesce.proofs.Laters.{further-counted, further-bound, over-later, over-count, met-never, met-few, met-can, met-turns, met-count, met-later, met-fits}
use Rattle.tx_quiesce.proofs.later.format_later.Goals as goal

pub left_of-left-requires : goal.left_of-left-requires
left_of-left-requires g c =
    let size : c.len-formatted.result ≡ length c.in_ok-pages.field-0.rows.items = search (rules, c.len-formatted.ensures) in
    omega (arith, size, met-few g.M.Machine.formatter g.M.Machine.meaning c.args.files.now c.args.changes.now c.args.old.now c.args.kept c.args.main.now c.args.date.now c.args.limits.now c.in_ok-pages.field-0 c.in_ok-pages.ensures.reaches c.in-Met.is)

pub format_further-requires-clause-can : goal.format_further-requires-clause-can
format_further-requires-clause-can g c = met-can g.M.Machine.formatter g.M.Machine.meaning c.args.files.now c.args.changes.now c.args.old.now c.args.kept c.args.main.now c.args.date.now c.args.limits.now c.in_ok-pages.field-0 c.in_ok-pages.ensures.reaches c.in-Met.is c.requires.can

pub returns-in_err-further-in-Met-clause-bound : goal.returns-in_err-further-in-Met-clause-bound
returns-in_err-further-in-Met-clause-bound g c h are =
    further-bound _ _ _ c.in_ok-pages.ensures.counted (c.format_further.ensures.bound h (start_of g.M.Machine.formatter c.args.main.now c.args.date.now) are)
    (met-turns g.M.Machine.formatter g.M.Machine.meaning c.args.files.now c.args.changes.now c.args.old.now c.args.kept c.args.main.now c.args.date.now c.args.limits.now c.in_ok-pages.field-0 c.in_ok-pages.ensures.reaches c.in-Met.is (search (rules, c.len-formatted.ensures)) c.left_of-left.ensures are)

pub returns-in-Over-clause-later : goal.returns-in-Over-clause-later
returns-in-Over-clause-later g c h are =
    over-later g.M.Machine.formatter g.M.Machine.meaning c.args.files.now c.args.changes.now c.args.old.now c.args.kept c.args.main.now c.args.date.now c.args.limits.now c.in_ok-pages.field-0 c.in_ok-pages.ensures.reaches c.in-Over.is are refl refl refl refl refl c.only.ensures.pages c.only.ensures.pieces c.only.ensures.rows c.only.ensures.last

pub returns-in_ok-further-in-Met-clause-later : goal.returns-in_ok-further-in-Met-clause-later
returns-in_ok-further-in-Met-clause-later g c h are =
    met-later g.M.Machine.formatter g.M.Machine.meaning c.args.files.now c.args.changes.now c.args.old.now c.args.kept c.args.main.now c.args.date.now c.args.limits.now c.in_ok-pages.field-0 c.in_ok-pages.ensures.reaches c.in-Met.is (search (rules, c.len-formatted.ensures)) c.left_of-left.ensures are refl refl refl refl
    (c.min-count.ensures ∙ ap (λ n. min c.left_of-left.result (n - c.in-Met.number)) (search (rules, c.len-in-Met.ensures)))
    (c.in_ok-further-in-Met.ensures.further h (start_of g.M.Machine.formatter c.args.main.now c.args.date.now) are)

pub returns-in_ok-further-in-Met-clause-fits : goal.returns-in_ok-further-in-Met-clause-fits
returns-in_ok-further-in-Met-clause-fits g c =
    met-fits g.M.Machine.formatter g.M.Machine.meaning c.args.files.now c.args.changes.now c.args.old.now c.args.kept c.args.main.now c.args.date.now c.args.limits.now c.in_ok-pages.field-0 c.in_ok-pages.ensures.reaches c.in-Met.is c.requires.can
    (record { front = record { pages = c.in_ok-pages.field-0.pages; pieces = c.in_ok-pages.field-0.pieces; rows = c.in_ok-pages.field-0.rows }; from = c.in-Met.number; count = c.min-count.result; further = c.in_ok-further-in-Met.further }) _ refl
    (c.min-count.ensures ∙ ap (λ n. min c.left_of-left.result (n - c.in-Met.number)) (search (rules, c.len-in-Met.ensures)))

pub returns-in_ok-further-in-Met-clause-counted : goal.returns-in_ok-further-in-Met-clause-counted
returns-in_ok-further-in-Met-clause-counted g c h are =
    further-counted _ _ _ c.in_ok-pages.ensures.counted (c.in_ok-further-in-Met.ensures.counted h (start_of g.M.Machine.formatter c.args.main.now c.args.date.now) are)
    (met-turns g.M.Machine.formatter g.M.Machine.meaning c.args.files.now c.args.changes.now c.args.old.now c.args.kept c.args.main.now c.args.date.now c.args.limits.now c.in_ok-pages.field-0 c.in_ok-pages.ensures.reaches c.in-Met.is (search (rules, c.len-formatted.ensures)) c.left_of-left.ensures are)

pub returns-in_ok-further-in-Met-clause-bound : goal.returns-in_ok-further-in-Met-clause-bound
returns-in_ok-further-in-Met-clause-bound g c h are =
    further-bound _ _ _ c.in_ok-pages.ensures.counted (c.format_further.ensures.bound h (start_of g.M.Machine.formatter c.args.main.now c.args.date.now) are)
    (met-turns g.M.Machine.formatter g.M.Machine.meaning c.args.files.now c.args.changes.now c.args.old.now c.args.kept c.args.main.now c.args.date.now c.args.limits.now c.in_ok-pages.field-0 c.in_ok-pages.ensures.reaches c.in-Met.is (search (rules, c.len-formatted.ensures)) c.left_of-left.ensures are)

pub returns-in-Over-clause-count : goal.returns-in-Over-clause-count
returns-in-Over-clause-count g c = over-count g.M.Machine.formatter g.M.Machine.meaning c.args.files.now c.args.changes.now c.args.old.now c.args.kept c.args.main.now c.args.date.now c.args.limits.now c.in_ok-pages.field-0 c.in_ok-pages.ensures.reaches c.in-Over.is

pub returns-in_ok-further-in-Met-clause-count : goal.returns-in_ok-further-in-Met-clause-count
returns-in_ok-further-in-Met-clause-count g c =
    met-count g.M.Machine.formatter g.M.Machine.meaning c.args.files.now c.args.changes.now c.args.old.now c.args.kept c.args.main.now c.args.date.now c.args.limits.now c.in_ok-pages.field-0 c.in_ok-pages.ensures.reaches c.in-Met.is (search (rules, c.len-formatted.ensures)) c.left_of-left.ensures
    (c.min-count.ensures ∙ ap (λ n. min c.left_of-left.result (n - c.in-Met.number)) (search (rules, c.len-in-Met.ensures)))

pub returns-in-Over-clause-alone : goal.returns-in-Over-clause-alone
returns-in-Over-clause-alone g c none = (c.only.ensures.pages, c.only.ensures.pieces, c.only.ensures.rows)

pub returns-in_ok-further-in-Met-clause-alone : goal.returns-in_ok-further-in-Met-clause-alone
returns-in_ok-further-in-Met-clause-alone g c none = absurd (met-never g.M.Machine.formatter g.M.Machine.meaning c.args.files.now c.args.changes.now c.args.old.now c.args.kept c.args.main.now c.args.date.now c.args.limits.now c.in_ok-pages.field-0 c.in_ok-pages.ensures.reaches c.in-Met.is none)
