-- `sums::pass` meets its contract. Assumes nothing.
use mathlib.Core.Path.{ap, ◌∙◌}
use lib.Ieee.{Float}
use Rattle.speculative.specs.Drafter.{pass_seconds}
use Rattle.ragged.proofs.sums.pass.Goals as goal

pub returns : goal.returns
returns c =
    let a = c.args in
    c.pass_seconds.ensures ∙ ap (λ (x : Float). pass_seconds a.kind a.m a.rates x) c.loaded_at-experts.ensures
