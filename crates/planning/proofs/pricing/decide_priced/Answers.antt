-- `pricing::decide_priced` meets its contract: where costs are used the curve is the one in force. Assumes nothing.
use mathlib.Core.Path.{◌≡◌, sym, ◌∙◌}
use Prim.Native.Nat.{ℕ, ◌+◌, ◌≤◌}
use native.Mathlib.Omega.{arith}
use lib.ListN.{length, take, replicate, length-append, length-drop}
use lib.Seq.{length-take-le}
use Rattle.float.specs.Floats.{f0}
use Rattle.asking.proofs.Passed.{gamma_in_le}
use Rattle.deciding.specs.Ready.{looped}
use Rattle.planning.specs.Steps.{curve_of}
use Rattle.planning.specs.Acting.{lent_to_act}
use Rattle.planning.proofs.Prices.{front_priced, curve_is, is_ready, reads_same}
use Rattle.planning.proofs.pricing.decide_priced.Goals as goal

lent_long : (gamma : ℕ) → gamma ≤ 64 → length (take (gamma + 1) (replicate 65 f0)) ≡ gamma + 1
lent_long gamma h = length-take-le (gamma + 1) (replicate 65 f0) (omega arith)

pub overflow_add-end : goal.overflow_add-end
overflow_add-end c = (omega (arith, gamma_in_le c.args.settings c.args.ask.depth, c.requires.shallow, c.gamma_in-gamma.ensures))

pub slice_bounds-measured-end : goal.slice_bounds-measured-end
slice_bounds-measured-end c = (omega (arith, gamma_in_le c.args.settings c.args.ask.depth, c.requires.shallow, c.gamma_in-gamma.ensures))

pub slice_bounds-measure-end : goal.slice_bounds-measure-end
slice_bounds-measure-end c = sym (lent_long c.gamma_in-gamma.result (omega (arith, gamma_in_le c.args.settings c.args.ask.depth, c.requires.shallow, c.gamma_in-gamma.ensures)))

pub measure-requires-clause-out_len_bound : goal.measure-requires-clause-out_len_bound
measure-requires-clause-out_len_bound c = let h : c.gamma_in-gamma.result ≤ 64 = (omega (arith, gamma_in_le c.args.settings c.args.ask.depth, c.requires.shallow, c.gamma_in-gamma.ensures)) in omega (arith, lent_long c.gamma_in-gamma.result h)

pub measure-requires-clause-tabled : goal.measure-requires-clause-tabled
measure-requires-clause-tabled c = let h : c.gamma_in-gamma.result ≤ 64 = (omega (arith, gamma_in_le c.args.settings c.args.ask.depth, c.requires.shallow, c.gamma_in-gamma.ensures)) in c.requires.tabled

pub slice_bounds-curve-end : goal.slice_bounds-curve-end
slice_bounds-curve-end c =
    let h : c.gamma_in-gamma.result ≤ 64 = (omega (arith, gamma_in_le c.args.settings c.args.ask.depth, c.requires.shallow, c.gamma_in-gamma.ensures)) in
    simp (length-append, length-drop) (omega (arith, lent_long c.gamma_in-gamma.result h, c.measured-2-1.given))

pub decide-requires : goal.decide-requires
decide-requires c =
    let a = c.args in
    let l = lent_to_act a.positions.now a.roofline.now a.depths.now a.batches.now a.seconds.now a.loaded.now a.signals.now a.bank_curve.now a.indices.now in
    let h : c.gamma_in-gamma.result ≤ 64 = (omega (arith, gamma_in_le c.args.settings c.args.ask.depth, c.requires.shallow, c.gamma_in-gamma.ensures)) in
    is_ready a.settings a.ask l a.past a.drafts.now c.requires _ _ c.gamma_in-gamma.result c.gamma_in-gamma.ensures c.curve-curve.ensures (λ u t. front_priced (c.gamma_in-gamma.result + 1) (take (c.gamma_in-gamma.result + 1) (replicate 65 f0)) _ _ _ _ _ (lent_long c.gamma_in-gamma.result h) (omega (arith, h)) (c.measure.ensures u t))

pub returns : goal.returns
returns c =
    let a = c.args in
    let l = lent_to_act a.positions.now a.roofline.now a.depths.now a.batches.now a.seconds.now a.loaded.now a.signals.now a.bank_curve.now a.indices.now in
    let h : c.gamma_in-gamma.result ≤ 64 = (omega (arith, gamma_in_le c.args.settings c.args.ask.depth, c.requires.shallow, c.gamma_in-gamma.ensures)) in
    c.decide.ensures ∙ reads_same (looped a.settings a.ask a.loaded.now) a.settings a.ask l a.past _ (curve_of a.settings a.ask l) a.settings.policy (curve_is a.settings a.ask l a.past a.drafts.now c.requires _ _ c.gamma_in-gamma.result c.gamma_in-gamma.ensures c.curve-curve.ensures (λ u t. front_priced (c.gamma_in-gamma.result + 1) (take (c.gamma_in-gamma.result + 1) (replicate 65 f0)) _ _ _ _ _ (lent_long c.gamma_in-gamma.result h) (omega (arith, h)) (c.measure.ensures u t)))
