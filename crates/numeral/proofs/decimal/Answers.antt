-- `numeral::decimal` meets its contract: the calls take the text apart as the definition does. Assumes nothing.
use Rattle.std.proofs.Common.{ℕ, Bool, List, ap, ◌∙◌}
use Rattle.decimals.specs.Decimals.{decimal_of, unsigned_of}
use Rattle.digits.specs.Signs.{is_negative}
use Rattle.numeral.proofs.decimal.Goals as goal

pub returns : goal.returns
unfolding decimal_of
returns c =
    let unsigned = c.after_sign in
    c.unsigned_decimal.ensures
    ∙ ap (λ (n : Bool). unsigned_of n unsigned.result.now) c.is_negative-negative.ensures
    ∙ ap (λ (t : List ℕ). unsigned_of (is_negative c.args.text.now) t) unsigned.ensures
