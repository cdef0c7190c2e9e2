use Rattle.std.proofs.Common.{rules, ap, not, ◌≡◌}
use Rattle.tx_scan.specs.declared.scans.Beginning.TheVariants as begin
use Rattle.tx_scan.specs.Beginnings.{beginning}
use Rattle.tx_scan.specs.Glues.{glue_begun}
use Rattle.tx_scan.proofs.GlueBegins.{sign-begins, signed-on}
use Rattle.tx_scan.proofs.scans.GlueScan.feed_sign.Goals as goal

pub returns-in-Minus-clause-part : goal.returns-in-Minus-clause-part
returns-in-Minus-clause-part c =
    let minus : beginning c.args.token.now ≡ begin.Minus = search rules in
    signed-on c.args.self.now c.on.new.self c.args.negative (not c.args.negative) c.args.token.now c.on.result c.requires (λ on items rest. ap (λ g. glue_begun c.args.self.now.mu c.args.negative on items rest g) minus) c.on.ensures.scan c.on.ensures.answer

pub returns-in-At-clause-part : goal.returns-in-At-clause-part
returns-in-At-clause-part c =
    sign-begins c.args.self.now c.begin_at.new.self c.args.negative c.args.token.now (begin.At c.in-At.place) c.begin_at.result c.requires (search rules) c.begin_at.ensures.fed

pub returns-in-Digit-clause-part : goal.returns-in-Digit-clause-part
returns-in-Digit-clause-part c =
    sign-begins c.args.self.now c.begin_width.new.self c.args.negative c.args.token.now (begin.Digit c.in-Digit.field-0) c.begin_width.result c.requires (search rules) c.begin_width.ensures.fed

pub returns-in-Digits-clause-part : goal.returns-in-Digits-clause-part
returns-in-Digits-clause-part c =
    sign-begins c.args.self.now c.begin_width-in-Digits.new.self c.args.negative c.args.token.now (begin.Digits c.in-Digits.field-0) c.begin_width-in-Digits.result c.requires (search rules) c.begin_width-in-Digits.ensures.fed

pub returns-in-Character-clause-part : goal.returns-in-Character-clause-part
returns-in-Character-clause-part c =
    sign-begins c.args.self.now c.begin_width-in-Character.new.self c.args.negative c.args.token.now begin.Character c.begin_width-in-Character.result c.requires (search rules) c.begin_width-in-Character.ensures.fed

pub returns-in-Point-clause-part : goal.returns-in-Point-clause-part
returns-in-Point-clause-part c =
    sign-begins c.args.self.now c.begin_width-in-Point.new.self c.args.negative c.args.token.now begin.Point c.begin_width-in-Point.result c.requires (search rules) c.begin_width-in-Point.ensures.fed

pub returns-in-Number-clause-part : goal.returns-in-Number-clause-part
returns-in-Number-clause-part c =
    sign-begins c.args.self.now c.begin_width-in-Number.new.self c.args.negative c.args.token.now (begin.Number c.in-Number.field-0) c.begin_width-in-Number.result c.requires (search rules) c.begin_width-in-Number.ensures.fed

pub returns-in-Nothing-clause-part : goal.returns-in-Nothing-clause-part
returns-in-Nothing-clause-part c =
    sign-begins c.args.self.now c.begin_width-in-Nothing.new.self c.args.negative c.args.token.now (begin.Nothing c.in-Nothing.field-0) c.begin_width-in-Nothing.result c.requires (search rules) c.begin_width-in-Nothing.ensures.fed

pub returns-in-FontDimen-clause-part : goal.returns-in-FontDimen-clause-part
returns-in-FontDimen-clause-part c =
    sign-begins c.args.self.now c.begin_width-in-FontDimen.new.self c.args.negative c.args.token.now begin.FontDimen c.begin_width-in-FontDimen.result c.requires (search rules) c.begin_width-in-FontDimen.ensures.fed

pub returns-in-FontInteger-clause-part : goal.returns-in-FontInteger-clause-part
returns-in-FontInteger-clause-part c =
    sign-begins c.args.self.now c.begin_width-in-FontInteger.new.self c.args.negative c.args.token.now (begin.FontInteger c.in-FontInteger.field-0) c.begin_width-in-FontInteger.result c.requires (search rules) c.begin_width-in-FontInteger.ensures.fed
