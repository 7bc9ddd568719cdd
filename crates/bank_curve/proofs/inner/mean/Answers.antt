-- `bank::filling::mean` meets its contract: both numbers are floats exactly, so only the quotient rounds. Assumes nothing.
use Rattle.decimals.proofs.Rounding.{divided_once}
use Rattle.bank_curve.proofs.inner.mean.Goals as goal

pub returns : goal.returns
returns c =
    let a = c.args in
    divided_once a.sum a.count c.requires.sum_bound c.requires.count_nonzero c.requires.count_bound
