use Rattle.std.proofs.Common.{◌≡◌, ◌++◌, drop, map}
use Rattle.std.specs.List.{list_all}
use Rattle.tx_files.specs.Names.{is_name}
use Rattle.tx_words.proofs.values.read_each.Given as goal

abbrev pub invariant-loop-text : goal.invariant-loop-text
invariant-loop-text l = record {
  read : l.names ++ map (λ t. t.now) (drop l.text-index l.texts) ≡ map (λ t. t.now) l.texts;
  named : list_all is_name (map (λ t. t.now) (drop l.text-index l.texts)) ≡ list_all is_name (map (λ t. t.now) l.texts);
}
