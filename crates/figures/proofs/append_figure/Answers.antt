-- `figures::append_figure` meets its contract. Assumes nothing.
use Rattle.page.proofs.Adding.{renamed}
use Rattle.figures.proofs.Ways.{figure_low, figure_written, figure_high}
use Rattle.figures.proofs.append_figure.Goals as goal

pub returns-then-x : goal.returns-then-x
returns-then-x c = renamed (figure_low c.args.x c.if-x.true) c.append.ensures

pub returns-then-x-2 : goal.returns-then-x-2
returns-then-x-2 c = renamed (figure_written c.args.x c.figure-millionths.result c.if-x.false c.if-x-2.true c.figure-millionths.ensures) c.append_millionths.ensures

pub returns : goal.returns
returns c = renamed (figure_high c.args.x c.if-x.false c.if-x-2.false) c.append-2.ensures
