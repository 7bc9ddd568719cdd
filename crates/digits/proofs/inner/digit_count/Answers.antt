-- `digits::digit_count` meets its contract: the count is the place of the first byte that is no digit. Assumes nothing.
use Rattle.std.proofs.Common.{rules, tests, ◌∙◌, not, position}
use Rattle.std.proofs.lemmas.Iterator.{YieldsList-from_slice}
use Rattle.std.proofs.lemmas.Iterator.Search.{position_from_yields_List}
use Rattle.digits.specs.Digits.{is_digit}
use Rattle.digits.proofs.Bytes.{count_placed}
use Rattle.digits.proofs.inner.digit_count.Goals as goal

pub returns : goal.returns
returns c =
    let placed = position_from_yields_List (λ b. not (is_digit b)) _ _ c.position.result c.position.ensures.ran (YieldsList-from_slice c.args.bytes.now cc) (λ x b q k. search (rules, tests)) in
    c.unwrap_or.ensures ∙ count_placed is_digit c.args.bytes.now c.position.result placed
