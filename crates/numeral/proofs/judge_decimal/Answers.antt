-- `numeral::judge_decimal` meets its contract: what is wrong with a decimal is so whatever its sign. Assumes nothing.
use Rattle.std.proofs.Common.{ℕ, false, List, ap, ◌∙◌}
use Rattle.decimals.specs.Decimals.{without_value, decimal_of, unsigned_of}
use Rattle.digits.specs.Signs.{after_sign, is_negative}
use Rattle.decimals.proofs.Outcomes.{signless}
use Rattle.numeral.proofs.judge_decimal.Goals as goal

pub returns : goal.returns
unfolding decimal_of
returns c =
    let s = c.args.text.now in
    c.judge_unsigned.ensures
    ∙ ap (λ (t : List ℕ). without_value (unsigned_of false t)) c.after_sign.ensures
    ∙ signless false (is_negative s) (after_sign s)
