use Rattle.std.proofs.Common.{rules}
use Rattle.tx_script.specs.Text.{IsRefusal}
use Rattle.tx_call.proofs.OneReading.{only_refused}
use Rattle.tx_call.proofs.scripts.read_bytes.Goals as goal

pub returns-in-Err-BadScript-clause-only : goal.returns-in-Err-BadScript-clause-only
returns-in-Err-BadScript-clause-only c other reading =
    let cause : IsRefusal c.args.bytes.now c.in-Err-BadScript.place c.in-Err-BadScript.rule = search rules in
    only_refused c.args.bytes.now c.in-Err-BadScript.place c.in-Err-BadScript.rule cause other reading
