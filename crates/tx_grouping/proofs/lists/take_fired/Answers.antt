use Rattle.std.proofs.Common.{Ok, Result, refl}
use Rattle.tx_building.proofs.Exercised.{paged-so}
use Rattle.tx_galley.specs.Exercising.{Exercised}
use Rattle.tx_state.specs.Meanings.{state_of}
use Rattle.tx_grouping.proofs.lists.take_fired.Goals as goal

pub returns : goal.returns
returns c =
    let x : Exercised = record { next = c.args.next; nest = c.args.s.now.lists.nest; table = c.args.s.now.table; pages = c.args.s.now.lists.pages } in
    paged-so (state_of c.args.s.now) c.args.s.now (record c.args.s.now { lists = c.take_page.new.lists; due = c.take_page.new.due; input = c.take_page.new.input; scan = c.take_page.new.scan }) x (Ok x)
    c.requires refl refl (c.in_ok-take_page.ensures c.args.s.now)
