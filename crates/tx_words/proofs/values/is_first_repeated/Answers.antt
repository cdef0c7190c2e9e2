use Rattle.std.proofs.Common.{◌∙◌, sym, ap, arith}
use Rattle.std.specs.List.{list_any}
use Rattle.std.specs.Str.{bytes_eq}
use Rattle.tx_words.proofs.Rows.{first_of_all}
use Rattle.tx_words.proofs.values.is_first_repeated.Goals as goal

pub returns-in-len1-up : goal.returns-in-len1-up
returns-in-len1-up c =
    c.is_among.ensures ∙ ap (list_any (bytes_eq c.first-item.result)) c.names_from.ensures ∙ sym (first_of_all c.args.names.now c.first-item.result (omega arith) c.first-item.is)
