-- `bank_curve::inner::fill_curve` meets its contract: at each depth what is to be stored are the entries from there on. Assumes nothing.
use mathlib.Core.Path.{◌≡◌, sym, ap, ◌∙◌, subst}
use mathlib.Core.Bool.{false}
use mathlib.Core.List.{◌∷◌}
use Prim.Native.Nat.{ℕ, suc, ◌≤◌, ◌<◌, ◌+◌, ◌-◌, ◌^◌, zero-le}
use native.Mathlib.Omega.{arith}
use lib.Ieee.{Float, binary64, round}
use lib.ListN.{length}
use Rattle.bank_curve.specs.Curve.{sum_up_to, curve_from}
use Rattle.bank_curve.proofs.Curve.{sum_held, curve_next}
use Rattle.bank_curve.proofs.Stores.{Storing, storing_begins, storing_next}
use Rattle.bank_curve.proofs.inner.fill_curve.Goals as goal

pub loop-g-init : goal.loop-g-init
loop-g-init c =
    let a = c.args in
    let whole : suc a.depth - 0 ≡ suc a.depth = omega arith in
    subst (λ (n : ℕ). Storing (curve_from 0 (suc a.depth) a.commits.now) a.curve.now 0 a.curve.now 0 (curve_from 0 n a.commits.now)) (sym whole)
    (storing_begins (curve_from 0 (suc a.depth) a.commits.now) a.curve.now 0 zero-le)

pub mean-value-requires-clause-sum_bound : goal.mean-value-requires-clause-sum_bound
mean-value-requires-clause-sum_bound c = let a = c.args in
    let small : c.loop-g.g ≤ 64 = omega arith in subst (λ (n : ℕ). n < 2 ^ 53) (sym c.sum_up_to.ensures) (sum_held c.loop-g.g a.commits.now c.requires.commits_len_bound small)

pub loop-g-preserved : goal.loop-g-preserved
loop-g-preserved c =
    let a = c.args in
    let l = c.loop-g in
    let sum = c.sum_up_to in
    let m = c.mean-value in
    let rest = curve_from (l.g + 1) (suc a.depth - (l.g + 1)) a.commits.now in
    let low : l.g ≤ a.depth = omega arith in
    let entry : m.result ≡ round binary64 false (sum_up_to l.g a.commits.now) (length a.commits.now) =
    m.ensures ∙ ap (λ (s : ℕ). round binary64 false s (length a.commits.now)) sum.ensures in
    storing_next (curve_from 0 (suc a.depth) a.commits.now) a.curve.now 0 l.curve l.at c.put-at.new.buffer c.put-at.result m.result rest c.put-at.ensures.stored c.put-at.ensures.next
    (subst (Storing (curve_from 0 (suc a.depth) a.commits.now) a.curve.now 0 l.curve l.at)
    (curve_next l.g a.depth a.commits.now low ∙ ap (λ (x : Float). x ∷ rest) (sym entry))
    l.invariant)
