use Rattle.std.proofs.Common.{rules}
use Rattle.tx_files.proofs.Restored.{can-put_back, put_back-put_back}
use Rattle.tx_files.proofs.file_set.FileSet.change.Goals as goal

pub returns-then-is_some-clause-can : goal.returns-then-is_some-clause-can
returns-then-is_some-clause-can c =
    can-put_back c.args.self.now c.exchange_in-bytes.new.self c.args.e.now.name c.in_ok-clone.field-0 c.args.e.now.place (search rules) (search rules) (search rules) (search rules)

pub returns-then-is_some-clause-back : goal.returns-then-is_some-clause-back
returns-then-is_some-clause-back c =
    put_back-put_back c.args.self.now c.exchange_in-bytes.new.self c.args.e.now.name c.in_ok-clone.field-0 c.args.e.now.place (search rules) (search rules) (search rules) (search rules)
