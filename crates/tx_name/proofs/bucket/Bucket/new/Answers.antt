use Rattle.std.proofs.Common.{◌∙◌, ap}
use Rattle.tx_name.specs.Buckets.{map_of}
use Rattle.tx_name.proofs.Places.{map_of-nothing}
use Rattle.tx_name.proofs.bucket.Bucket.new.Goals as goal

pub returns : goal.returns
returns g c = ap map_of c.new.ensures.items ∙ map_of-nothing
