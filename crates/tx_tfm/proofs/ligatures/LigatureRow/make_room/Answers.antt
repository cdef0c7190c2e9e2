use Rattle.std.proofs.Common.{◌≡◌, length, refl, arith}
use Rattle.tx_tfm.proofs.Rows.{entry_of-padded}
use Rattle.tx_tfm.proofs.ligatures.LigatureRow.make_room.Goals as goal

pub returns-in_ok-resize-clause-entries : goal.returns-in_ok-resize-clause-entries
returns-in_ok-resize-clause-entries c =
    let is : length c.self.inside.commands.items ≡ c.self.inside.commands.len = omega (arith, c.self.inside.commands.ok.0) in
    rw (← c.self.view_is) (entry_of-padded c.self.inside.commands.items c.resize.new.self.items 257 (omega arith) (omega (arith, c.in_ok-resize.ensures.len)) (λ k d inside before. c.in_ok-resize.ensures.by_index.0 k d inside (omega arith)) (λ k d past inside. c.in_ok-resize.ensures.by_index.1 k d refl (omega arith) inside))
