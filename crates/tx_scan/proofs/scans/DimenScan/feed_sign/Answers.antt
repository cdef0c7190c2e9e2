use Rattle.std.proofs.Common.{refl, rules, false, true}
use Rattle.tx_scan.specs.declared.scans.Beginning.TheVariants as begin
use Rattle.tx_scan.proofs.Quantities.{signed-quantity}
use Rattle.tx_scan.proofs.scans.DimenScan.feed_sign.Goals as goal

pub returns-in-Number-clause-fed : goal.returns-in-Number-clause-fed
returns-in-Number-clause-fed c =
    signed-quantity c.args.self.now c.begin_quantity.new.self c.args.token.now false (begin.Number c.in-Number.field-0) c.begin_quantity.result c.requires (search rules) (λ on number rest. refl) c.begin_quantity.ensures.fed

pub returns-in-At-clause-fed : goal.returns-in-At-clause-fed
returns-in-At-clause-fed c =
    signed-quantity c.args.self.now c.begin_quantity-in-At.new.self c.args.token.now c.has_size.result (begin.At c.in-At.place) c.begin_quantity-in-At.result c.requires (search rules) (λ on number rest. rw c.has_size.ensures refl) c.begin_quantity-in-At.ensures.fed

pub returns-in-FontDimen-clause-fed : goal.returns-in-FontDimen-clause-fed
returns-in-FontDimen-clause-fed c =
    signed-quantity c.args.self.now c.begin_quantity-in-FontDimen.new.self c.args.token.now true begin.FontDimen c.begin_quantity-in-FontDimen.result c.requires (search rules) (λ on number rest. refl) c.begin_quantity-in-FontDimen.ensures.fed

pub returns-in-FontInteger-clause-fed : goal.returns-in-FontInteger-clause-fed
returns-in-FontInteger-clause-fed c =
    signed-quantity c.args.self.now c.begin_quantity-in-FontInteger.new.self c.args.token.now false (begin.FontInteger c.in-FontInteger.field-0) c.begin_quantity-in-FontInteger.result c.requires (search rules) (λ on number rest. refl) c.begin_quantity-in-FontInteger.ensures.fed
