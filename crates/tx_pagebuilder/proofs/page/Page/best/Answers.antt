use Rattle.std.proofs.Common.{ap}
use Rattle.tx_pagebuilder.specs.Pages.{Page}
use Rattle.tx_pagebuilder.proofs.Legal.{best-of}
use Rattle.tx_pagebuilder.proofs.page.Page.best.Goals as goal

pub returns-clause-least : goal.returns-clause-least
returns-clause-least c = best-of c.self.inside.measures.best c.args.self.now (ap (λ (page : Page). page.measures.best) c.self.view_is)
