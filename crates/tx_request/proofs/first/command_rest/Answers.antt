use Rattle.std.proofs.Common.{rules}
use Rattle.tx_script.specs.Reading.{file_place_at}
use Rattle.tx_request.specs.Reading.{command_rest_at}
use Rattle.tx_request.proofs.first.command_rest.Goals as goal

pub returns-in_err-place-in-Locate : goal.returns-in_err-place-in-Locate
unfolding command_rest_at file_place_at
returns-in_err-place-in-Locate c = search rules

pub returns-in_err-name-in-Locate : goal.returns-in_err-name-in-Locate
unfolding command_rest_at file_place_at
returns-in_err-name-in-Locate c = search rules

pub returns-in_ok-name-in-Locate : goal.returns-in_ok-name-in-Locate
unfolding command_rest_at file_place_at
returns-in_ok-name-in-Locate c = search rules
