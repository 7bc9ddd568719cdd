-- `acceptance::are_chances` meets its contract: all are chances where each is. Assumes nothing.
use Rattle.std.proofs.Common.{rules, tests}
use Rattle.std.proofs.lemmas.Iterator.{YieldsList-from_slice}
use Rattle.std.proofs.lemmas.Iterator.Search.{all_from_yields_List}
use Rattle.acceptance.specs.Acceptance.{is_chance}
use Rattle.acceptance.proofs.are_chances.Goals as goal

pub returns : goal.returns
returns c =
    let xs = c.args.positions.now in
    all_from_yields_List is_chance _ _ c.all.result c.all.ensures.ran (YieldsList-from_slice xs cc) (λ x b q k. search (rules, tests))
