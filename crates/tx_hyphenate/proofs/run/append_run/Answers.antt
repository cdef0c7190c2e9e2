use Rattle.std.proofs.Common.{rules}
use Rattle.std.proofs.lemmas.Result.{on_ok_weaker}
use Rattle.tx_hyphenate.proofs.Runs.{put-anew}
use Rattle.tx_hyphenate.proofs.run.append_run.Goals as goal

pub returns : goal.returns
returns c =
    on_ok_weaker c.append_nodes-2.result
    (λ e. put-anew c.args.items c.into_vec-nodes.result.items c.truncate.new.self.items c.in_ok-behind.behind.items c.args.made.now c.append_made.new.made _ c.append_nodes.new.list c.append_nodes-2.new.list c.args.start c.args.end
    (search rules) c.requires.order (search rules) (search rules) c.in_ok-append_nodes.ensures c.in_ok-append_made.ensures e)
    c.append_nodes-2.ensures
