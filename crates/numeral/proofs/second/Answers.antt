-- `numeral::second` meets its contract: Rust's cast gives what the definition says of every moment. Assumes nothing.
use Rattle.std.proofs.Common.{◌∙◌}
use Rattle.numeral.proofs.Moment.{second_is}
use Rattle.numeral.proofs.second.Goals as goal

pub returns : goal.returns
returns c = c.whole_part.ensures ∙ second_is c.args.end
