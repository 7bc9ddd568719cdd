-- `expected::expected_by_depth` meets its contract: refused, or the sums at the front of the buffer. Assumes nothing.
use mathlib.Core.Path.{◌≡◌, sym, ◌∙◌}
use native.Mathlib.Omega.{arith}
use lib.ListN.{length, length-take}
use Rattle.std.specs.Prelude.{Ok}
use Rattle.goodput_judges.specs.Refusals.{chains_judged}
use Rattle.goodput.proofs.Batches.{fits}
use Rattle.goodput.proofs.expected.expected_by_depth.Goals as goal

pub slice_bounds-copy_from_slice-end-2 : goal.slice_bounds-copy_from_slice-end-2
slice_bounds-copy_from_slice-end-2 c =
    let a = c.args in
    let judged : chains_judged a.chains.now a.lengths.now a.gamma (length a.out.now) ≡ Ok tt = sym c.judge_chains.ensures ∙ c.in_ok-judge_chains.was in
    let p = fits a.chains.now a.lengths.now a.gamma _ judged in
    simp length-take (omega (arith, p.1.0))

pub slice_bounds-copy_from_slice-end-3 : goal.slice_bounds-copy_from_slice-end-3
slice_bounds-copy_from_slice-end-3 c =
    let a = c.args in
    let judged : chains_judged a.chains.now a.lengths.now a.gamma (length a.out.now) ≡ Ok tt = sym c.judge_chains.ensures ∙ c.in_ok-judge_chains.was in
    let p = fits a.chains.now a.lengths.now a.gamma _ judged in
    let sized : length c.expected_over-sums.result ≡ 65 = c.expected_over-sums.type_inv.1.0.1 in
    simp length-take (omega (arith, sized, p.0))

pub copy_from_slice-requires : goal.copy_from_slice-requires
copy_from_slice-requires c =
    let a = c.args in
    let judged : chains_judged a.chains.now a.lengths.now a.gamma (length a.out.now) ≡ Ok tt = sym c.judge_chains.ensures ∙ c.in_ok-judge_chains.was in
    let p = fits a.chains.now a.lengths.now a.gamma _ judged in
    let sized : length c.expected_over-sums.result ≡ 65 = c.expected_over-sums.type_inv.1.0.1 in
    simp length-take (omega (arith, sized, p.0, p.1.0))
