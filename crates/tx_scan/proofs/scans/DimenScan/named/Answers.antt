use Rattle.tx_scan.proofs.scans.DimenScan.named.Goals as goal

pub returns-in-True-clause-fed : goal.returns-in-True-clause-fed
returns-in-True-clause-fed c = λ t. rw c.in-True.is (c.to_magnification.ensures.fed t)
