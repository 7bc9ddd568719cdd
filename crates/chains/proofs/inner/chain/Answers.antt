-- `inner::chain` meets its contract: its loop writes the running products (`Fill`). Assumes nothing.
use mathlib.Core.Path.{◌≡◌, ◌∙◌, ap}
use mathlib.Core.List.{List, ◌++◌}
use Prim.Native.Nat.{ℕ, ◌-◌, ◌≤◌}
use native.Mathlib.Omega.{arith}
use lib.ListN.{length, take, get_or, replicate, length-take}
use lib.Seq.{get_or-take}
use lib.Ieee.{Float, nan}
use Rattle.float.specs.Floats.{f0, f1, times}
use Rattle.chains.specs.Survival.{survive, products, survival_chain}
use Rattle.chains.proofs.Fill.{fill_turn, fill_ended}
use Rattle.chains.proofs.inner.chain.Goals as goal

front : (signal : List Float) (n : ℕ) → length signal ≡ 64 → n ≤ 64 → length (take n signal) ≡ n
front signal n h k = simp length-take (omega arith)

pub loop-d-preserved : goal.loop-d-preserved
loop-d-preserved c =
    let at = c.loop-d in
    let n = c.args.length in
    let signal = c.args.signal in
    let sized = front signal n (omega arith) c.requires in
    let here : get_or (take n signal) at.d nan ≡ get_or signal at.d nan = get_or-take n signal at.d nan c.loop-d-test.true in
    let p : times at.s c.clamp_unit-s.result ≡ survive at.s (get_or (take n signal) at.d nan) = rw here (ap (times at.s) c.clamp_unit-s.ensures) in
    fill_turn survive survive nan f0 64 (omega (arith, sized)) (omega (arith, sized)) p p at.invariant

pub returns : goal.returns
unfolding survival_chain
returns c =
    let n = c.args.length in
    let signal = c.args.signal in
    let sized = front signal n (omega arith) c.requires in
    fill_ended survive survive nan f0 64 (omega (arith, sized)) c.loop-d.invariant ∙ ap (λ (i : ℕ). products f1 (take n signal) ++ replicate (64 - i) f0) sized
