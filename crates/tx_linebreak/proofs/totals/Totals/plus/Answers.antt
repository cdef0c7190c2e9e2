use Rattle.tx_linebreak.proofs.Summing.{sum_back}
use Rattle.tx_linebreak.proofs.totals.Totals.plus.Goals as goal

pub returns : goal.returns
returns c = λ i. record {
  width = sum_back c.sum.result c.args.self.now.width c.args.other.now.width c.sum.ensures.small c.sum.ensures.value c.requires.some.width_in c.requires.others.width_in i;
  stretch = sum_back c.sum-2.result c.args.self.now.stretch c.args.other.now.stretch c.sum-2.ensures.small c.sum-2.ensures.value c.requires.some.stretch_in c.requires.others.stretch_in i;
  fil = sum_back c.sum-3.result c.args.self.now.fil c.args.other.now.fil c.sum-3.ensures.small c.sum-3.ensures.value c.requires.some.fil_in c.requires.others.fil_in i;
  fill = sum_back c.sum-4.result c.args.self.now.fill c.args.other.now.fill c.sum-4.ensures.small c.sum-4.ensures.value c.requires.some.fill_in c.requires.others.fill_in i;
  filll = sum_back c.sum-5.result c.args.self.now.filll c.args.other.now.filll c.sum-5.ensures.small c.sum-5.ensures.value c.requires.some.filll_in c.requires.others.filll_in i;
  shrink = sum_back c.sum-6.result c.args.self.now.shrink c.args.other.now.shrink c.sum-6.ensures.small c.sum-6.ensures.value c.requires.some.shrink_in c.requires.others.shrink_in i;
}
