use Rattle.std.proofs.lemmas.Result.{IfOk-at_ok}
use Rattle.tx_eqtb.specs.Initex.{initial_table}
use Rattle.tx_eqtb.proofs.initex.initial_table.Goals as goal

-- each part of the table is the one with which INITEX begins
pub returns : goal.returns
unfolding initial_table
returns c =
    let all = c.in_ok-names.ensures in
    let meanings = IfOk-at_ok _ all.0 c.both-meanings.ensures in
    let of_names = IfOk-at_ok _ meanings.0 c.both-of_names.ensures in
    let rest = IfOk-at_ok _ all.1 c.both-rest.ensures in
    let of_characters = IfOk-at_ok _ rest.0 c.both-of_characters.ensures in
    let numbers = IfOk-at_ok _ of_characters.0 c.both-numbers.ensures in
    let registers = IfOk-at_ok _ numbers.0 c.both-registers.ensures in
    let parameters = IfOk-at_ok _ numbers.1 c.both-parameters.ensures in
    let codes = IfOk-at_ok _ of_characters.1 c.both-codes.ensures in
    let cases = IfOk-at_ok _ codes.0 c.both-cases.ensures in
    let other_codes = IfOk-at_ok _ codes.1 c.both-other_codes.ensures in
    let of_math = IfOk-at_ok _ other_codes.1 c.both-of_math.ensures in
    let registered = IfOk-at_ok _ rest.1 c.both-registered.ensures in
    let glues = IfOk-at_ok _ registered.0 c.both-glues.ensures in
    let skips = IfOk-at_ok _ glues.0 c.both-skips.ensures in
    let boxed = IfOk-at_ok _ registered.1 c.both-boxed.ensures in
    let lists = IfOk-at_ok _ boxed.0 c.both-lists.ensures in
    let others = IfOk-at_ok _ boxed.1 c.both-others.ensures in
    λ i. record {
      names = IfOk-at_ok _ of_names.0 c.initial_names.ensures i;
      active = IfOk-at_ok _ of_names.1 c.undefined.ensures i;
      categories = IfOk-at_ok _ meanings.1 c.initex.ensures i;
      counts = IfOk-at_ok _ registers.0 c.zeros.ensures i;
      dimens = IfOk-at_ok _ registers.1 c.zeros-2.ensures i;
      lower_case = IfOk-at_ok _ cases.0 c.initial_codes.ensures i;
      upper_case = IfOk-at_ok _ cases.1 c.initial_codes-2.ensures i;
      space_factors = IfOk-at_ok _ other_codes.0 c.initial_codes-space_factors.ensures i;
      math = IfOk-at_ok _ of_math.0 c.initial_codes-3.ensures i;
      delimiters = IfOk-at_ok _ of_math.1 c.initial_codes-4.ensures i;
      integers = IfOk-at_ok _ parameters.0 c.initial_integers.ensures i;
      dimensions = IfOk-at_ok _ parameters.1 c.zeros-dimensions.ensures i;
      skips = IfOk-at_ok _ skips.0 c.zero_glues.ensures i;
      muskips = IfOk-at_ok _ skips.1 c.zero_glues-2.ensures i;
      glue_parameters = IfOk-at_ok _ glues.1 c.zero_glues-3.ensures i;
      token_registers = IfOk-at_ok _ lists.0 c.empty_lists.ensures i;
      token_parameters = IfOk-at_ok _ lists.1 c.empty_lists-token_parameters.ensures i;
      boxes = IfOk-at_ok _ others.0 c.void_boxes.ensures i;
      families = IfOk-at_ok _ others.1 c.zeros-families.ensures i;
      par_shape = c.none.ensures i;
      font = 0;
    }
