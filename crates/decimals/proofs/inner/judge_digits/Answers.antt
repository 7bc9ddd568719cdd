-- `numeral::judge_digits` meets its contract: each way out is a law of `Outcomes`. Assumes nothing.
use mathlib.Core.Path.{sym, ap, ◌∙◌}
use mathlib.Core.Bool.{false}
use Rattle.decimals.specs.Decimals.{without_value}
use Rattle.decimals.proofs.Outcomes.{no_digit, all_of_both, too_long_is, nothing_wrong}
use Rattle.decimals.proofs.inner.judge_digits.Goals as goal

pub returns-then-whole-fraction-eq0 : goal.returns-then-whole-fraction-eq0
returns-then-whole-fraction-eq0 c =
    let a = c.args in
    ap without_value (no_digit false a.whole.now a.fraction.now c.if-whole-fraction-eq0.true)

pub returns-then-too_long : goal.returns-then-too_long
returns-then-too_long c =
    let a = c.args in
    ap without_value (too_long_is false a.whole.now a.fraction.now c.if-whole-fraction-eq0.false (all_of_both a.whole.now a.fraction.now c.requires.0 c.requires.1) (sym c.too_long.ensures ∙ c.if-too_long.true))

pub returns : goal.returns
returns c =
    let a = c.args in
    nothing_wrong false a.whole.now a.fraction.now c.if-whole-fraction-eq0.false (all_of_both a.whole.now a.fraction.now c.requires.0 c.requires.1) (sym c.too_long.ensures ∙ c.if-too_long.false)
