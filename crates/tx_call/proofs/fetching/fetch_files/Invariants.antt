use Rattle.std.proofs.Common.{◌≡◌, take}
use Rattle.tx_call.proofs.ListedFiles.{AreFetched}
use Rattle.tx_call.proofs.fetching.fetch_files.Given as goal

abbrev pub invariant-loop-name : goal.invariant-loop-name
invariant-loop-name g l = record {
  fetched : AreFetched (g.S.Source.holds l.initial.source) (take l.name-index l.names) l.files;
  kept : g.S.Source.holds l.source ≡ g.S.Source.holds l.initial.source;
  counted : g.S.Source.faults l.source ≡ g.S.Source.faults l.initial.source;
}
