use Rattle.std.proofs.Common.{refl, ap, ◌∙◌, inl}
use Rattle.std.specs.FinMap.{insert}
use Rattle.tx_name.proofs.Held.{inserted, unchanged, on-err}
use Rattle.tx_name.proofs.shelf.Shelf.insert.Goals as goal

pub invariant_of-self : goal.invariant_of-self
invariant_of-self g c = (unchanged c.self.inside.buckets c.self.invariant c.self.inside.buckets (inl refl) c.args.at c.requires.within c.index_mut.result.now c.index_mut.ensures.value c.insert_in.new.bucket _ refl c.in_err-insert_in.ensures.err).0

pub returns-in_err-insert_in-clause-err : goal.returns-in_err-insert_in-clause-err
returns-in_err-insert_in-clause-err g c = on-err _ ((unchanged c.self.inside.buckets c.self.invariant c.self.inside.buckets (inl refl) c.args.at c.requires.within c.index_mut.result.now c.index_mut.ensures.value c.insert_in.new.bucket _ refl c.in_err-insert_in.ensures.err).1 ∙ c.self.view_is)

pub invariant_of-self-2 : goal.invariant_of-self-2
invariant_of-self-2 g c = (inserted c.self.inside.buckets c.self.invariant c.self.inside.buckets (inl refl) c.args.at c.requires.within c.index_mut.result.now c.index_mut.ensures.value c.insert_in.new.bucket _ refl c.args.name c.requires.own c.args.value c.in_ok-insert_in.ensures.ok).0

pub returns-clause-ok : goal.returns-clause-ok
returns-clause-ok g c = (inserted c.self.inside.buckets c.self.invariant c.self.inside.buckets (inl refl) c.args.at c.requires.within c.index_mut.result.now c.index_mut.ensures.value c.insert_in.new.bucket _ refl c.args.name c.requires.own c.args.value c.in_ok-insert_in.ensures.ok).1 ∙ ap (λ m. insert m c.args.name c.args.value) c.self.view_is
