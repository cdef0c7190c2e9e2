use Rattle.tx_shape.proofs.Steps.{font-fed, setting-fed, setting-needs, setting-waits}
use Rattle.tx_shape.proofs.scans.ShapeScan.feed.Goals as goal

pub returns-in-Setting-clause-fed : goal.returns-in-Setting-clause-fed
returns-in-Setting-clause-fed c =
    setting-fed c.in-Setting.setting c.args.self.now c.feed_setting.new.self c.args.token.now c.feed_setting.result c.in-Setting.is c.feed_setting.ensures

pub returns-in-Setting-clause-needs : goal.returns-in-Setting-clause-needs
returns-in-Setting-clause-needs c =
    setting-needs c.in-Setting.setting c.args.self.now c.feed_setting.new.self c.args.token.now c.feed_setting.result c.in-Setting.is c.feed_setting.ensures

pub returns-in-Setting-clause-waits : goal.returns-in-Setting-clause-waits
returns-in-Setting-clause-waits c =
    setting-waits c.in-Setting.setting c.feed_setting.new.self c.args.token.now c.feed_setting.result c.feed_setting.ensures

pub returns-in-Font-clause-fed : goal.returns-in-Font-clause-fed
returns-in-Font-clause-fed c =
    font-fed c.in-Font.sought c.args.self.now c.feed_font.new.self c.args.token.now c.feed_font.result c.in-Font.is c.feed_font.ensures

pub returns-in-Font-clause-needs : goal.returns-in-Font-clause-needs
returns-in-Font-clause-needs c =
    rw c.in-Font.is c.feed_font.ensures.needs
