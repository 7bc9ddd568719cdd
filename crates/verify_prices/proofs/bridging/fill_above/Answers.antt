-- `bridging::fill_above` meets its contract. The invariant: the depths from k on have theirs, and `held` is the one of k. Assumes nothing.
use Prim.Native.Nat.{ℕ, ◌+◌, ◌-◌, ◌≤◌, ◌<◌, min}
use mathlib.Core.Path.{◌≡◌, refl, ap, ◌∙◌}
use mathlib.Core.List.{List}
use native.Mathlib.Omega.{arith}
use lib.ListN.{length, get_or, length-set}
use lib.Ieee.{Float}
use Rattle.verify_prices.specs.Bridge.{upper}
use Rattle.verify_prices.proofs.Spans.{upper_le, upper_start, upper_next, filled_down, before_kept}
use Rattle.verify_prices.proofs.bridging.fill_above.Goals as goal

before : (curve : List Float) (g held : ℕ) → 0 < g → held ≡ upper curve (min g (length curve - 1)) → held ≡ upper curve (min (g - 1 + 1) (length curve - 1))
before curve g held z e = let p : g ≡ g - 1 + 1 = omega arith in e ∙ ap (λ (x : ℕ). upper curve (min x (length curve - 1))) p

pub loop-k-init : goal.loop-k-init
loop-k-init c =
    (c.requires.2, (upper_start c.args.curve.now c.requires.0, (λ k l h. absurd (omega arith), λ k l. refl)))

pub overflow_cast-spans : goal.overflow_cast-spans
overflow_cast-spans c =
    let curve = c.args.curve.now in
    let at = c.loop-k in
    let low : at.k - 1 < length curve = omega (arith, at.auto.k, c.loop-k-test.true) in
    let e = upper_next curve (at.k - 1) at.held _ low (before curve at.k at.held c.loop-k-test.true at.invariant.1.0) c.nearer-held.ensures in
    omega (arith, e, upper_le curve (at.k - 1) low, c.requires)

pub loop-k-preserved : goal.loop-k-preserved
loop-k-preserved c =
    let at = c.loop-k in
    let curve = c.args.curve.now in
    let low : at.k - 1 < length curve = omega (arith, at.auto.k, c.loop-k-test.true) in
    let room : 65 + (at.k - 1) < length at.spans = omega (arith, at.auto.k, at.invariant.0, c.loop-k-test.true, c.requires) in
    let e = upper_next curve (at.k - 1) at.held _ low (before curve at.k at.held c.loop-k-test.true at.invariant.1.0) c.nearer-held.ensures in
    let here : at.k - 1 ≡ min (at.k - 1) (length curve - 1) = omega (arith, low) in
    let later : (k : ℕ) → at.k - 1 + 1 ≤ k → k < length curve → get_or at.spans (65 + k) 0 ≡ upper curve k = λ k l h. at.invariant.1.1.0 k (omega (arith, c.loop-k-test.true)) h in (
      simp length-set at.invariant.0,
      (
        e ∙ ap (upper curve) here,
        (filled_down 65 (upper curve) at.spans (length curve) (at.k - 1) _ room e later, before_kept 65 c.args.spans.now at.spans (at.k - 1) _ at.invariant.1.1.1),
      ),
    )
