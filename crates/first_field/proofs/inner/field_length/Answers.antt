-- `first_field::field_length` meets its contract: the length is the place of the first comma. Assumes nothing.
use Rattle.std.proofs.Common.{rules, tests, ◌∙◌, not}
use Rattle.std.proofs.lemmas.Iterator.{YieldsList-from_slice}
use Rattle.std.proofs.lemmas.Iterator.Search.{position_from_yields_List}
use Rattle.first_field.specs.Front.{is_no_comma}
use Rattle.digits.proofs.Bytes.{count_placed}
use Rattle.first_field.proofs.inner.field_length.Goals as goal

pub returns : goal.returns
returns c =
    let placed = position_from_yields_List (λ b. not (is_no_comma b)) _ _ c.position.result c.position.ensures.ran (YieldsList-from_slice c.args.line.now cc) (λ x b q k. search (rules, tests)) in
    c.unwrap_or.ensures ∙ count_placed is_no_comma c.args.line.now c.position.result placed
