use Rattle.std.proofs.Common.{◌∙◌, ap}
use Rattle.tx_hyphen.specs.Lexicon.{place_of}
use Rattle.tx_hyphen.proofs.Index.{place-bound}
use Rattle.tx_hyphen.proofs.lexicon.Lexicon.place.Goals as goal

pub returns-clause-inside : goal.returns-clause-inside
returns-clause-inside c =
    place-bound c.args.self.now c.args.letters.now c.find.result
    (c.find.ensures ∙ c.self.invariant.places c.args.letters.now ∙ ap (λ s. place_of s c.args.letters.now) c.self.view_is)
