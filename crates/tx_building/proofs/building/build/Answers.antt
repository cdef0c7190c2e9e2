use Rattle.std.proofs.Common.{refl}
use Rattle.tx_galley.specs.Exercising.{exercising as exercising_pages}
use Rattle.tx_state.specs.Meanings.{state_of}
use Rattle.tx_building.proofs.Exercised.{paged-so}
use Rattle.tx_building.proofs.building.build.Goals as goal

pub returns-in_ok-take_page-in-Ok : goal.returns-in_ok-take_page-in-Ok
returns-in_ok-take_page-in-Ok c =
    paged-so (state_of c.args.s.now) c.args.s.now (record c.args.s.now { lists = c.take_page.new.lists; due = c.take_page.new.due; input = c.take_page.new.input; scan = c.take_page.new.scan; table = c.exercise.new.table })
    (record { next = c.in-Ok.next; nest = c.exercise.new.nest; table = c.exercise.new.table; pages = c.exercise.new.pages }) (exercising_pages c.args.s.now.lists.nest c.args.s.now.table c.args.s.now.lists.pages)
    c.requires refl c.in-Ok.ensures.ok (c.in_ok-take_page-in-Ok.ensures (record c.args.s.now { table = c.exercise.new.table }))
