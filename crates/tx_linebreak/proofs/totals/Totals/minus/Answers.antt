use Rattle.tx_linebreak.proofs.Summing.{difference_back}
use Rattle.tx_linebreak.proofs.totals.Totals.minus.Goals as goal

pub returns : goal.returns
returns c = λ i. record {
  width = difference_back c.difference.result c.args.self.now.width c.args.other.now.width c.difference.ensures.small c.difference.ensures.value c.requires.some.width_in c.requires.others.width_in i;
  stretch = difference_back c.difference-2.result c.args.self.now.stretch c.args.other.now.stretch c.difference-2.ensures.small c.difference-2.ensures.value c.requires.some.stretch_in c.requires.others.stretch_in i;
  fil = difference_back c.difference-3.result c.args.self.now.fil c.args.other.now.fil c.difference-3.ensures.small c.difference-3.ensures.value c.requires.some.fil_in c.requires.others.fil_in i;
  fill = difference_back c.difference-4.result c.args.self.now.fill c.args.other.now.fill c.difference-4.ensures.small c.difference-4.ensures.value c.requires.some.fill_in c.requires.others.fill_in i;
  filll = difference_back c.difference-5.result c.args.self.now.filll c.args.other.now.filll c.difference-5.ensures.small c.difference-5.ensures.value c.requires.some.filll_in c.requires.others.filll_in i;
  shrink = difference_back c.difference-6.result c.args.self.now.shrink c.args.other.now.shrink c.difference-6.ensures.small c.difference-6.ensures.value c.requires.some.shrink_in c.requires.others.shrink_in i;
}
