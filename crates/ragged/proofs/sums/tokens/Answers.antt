-- `sums::tokens` meets its contract. The invariant: the sum of what is left, from the sum so far on as a float, is that of the whole; and the sum so far is
-- small enough to be held exactly. Assumes nothing.
use Prim.Native.Nat.{ℕ, ◌+◌, ◌*◌, ◌≤◌, ◌<◌}
use mathlib.Core.Path.{◌≡◌, refl, sym, ap, ◌∙◌}
use mathlib.Core.List.{List}
use native.Mathlib.Omega.{arith}
use lib.ListN.{length, get_or, drop}
use lib.Ieee.{Float, of_bits, of_int}
use Rattle.float.specs.Floats.{f0, whole}
use Rattle.verify_prices.proofs.Counted.{whole_plus}
use Rattle.trim.specs.Ragged.{tokens_from}
use Rattle.trim.proofs.Adding.{tokens_next, tokens_ended}
use Rattle.ragged.proofs.sums.tokens.Goals as goal

none_yet : f0 ≡ whole 0
unfolding of_bits of_int
none_yet = refl

counts : (k sum : ℕ) (ws : List ℕ) → k < length ws → length ws ≤ 1024 → sum ≤ k * 65 → get_or ws k 0 ≤ 64
    → tokens_from (whole (sum + (get_or ws k 0 + 1))) (drop (k + 1) ws) ≡ tokens_from (whole sum) (drop k ws)
counts k sum ws l few small narrow =
    ap (λ (x : Float). tokens_from x (drop (k + 1) ws)) (sym (whole_plus sum (get_or ws k 0 + 1) (omega arith) (omega arith))) ∙ tokens_next k (whole sum) ws l

pub loop-width-init : goal.loop-width-init
loop-width-init c = (omega arith, ap (λ (x : Float). tokens_from x c.args.widths.now) (sym none_yet))

pub overflow_add-sum : goal.overflow_add-sum
overflow_add-sum c = omega (arith, c.requires.0 c.loop-width.width-index c.loop-width-test.true, c.loop-width.invariant.0, c.requires.1)

pub loop-width-preserved : goal.loop-width-preserved
loop-width-preserved c =
    let at = c.loop-width in
    let narrow = c.requires.0 at.width-index c.loop-width-test.true in (
      omega (arith, narrow, at.invariant.0),
      counts at.width-index at.sum c.args.widths.now c.loop-width-test.true c.requires.1 at.invariant.0 narrow ∙ at.invariant.1,
    )

pub returns : goal.returns
returns c = sym (tokens_ended c.loop-width.width-index (whole c.loop-width.sum) c.args.widths.now c.loop-width-test.false) ∙ c.loop-width.invariant.1
