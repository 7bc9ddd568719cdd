-- `inner::add_chain` meets its contract. The invariant: what is summed, followed by what is left with the rest of the chain added, is the whole. Assumes nothing.
use mathlib.Core.Path.{◌≡◌, sym, ◌∙◌}
use mathlib.Core.List.{List, ◌++◌, append_assoc}
use Prim.Native.Nat.{ℕ, suc, ◌+◌, ◌≤◌, ◌<◌}
use native.Mathlib.Numerals.{add-one}
use native.Mathlib.Omega.{arith}
use lib.ListN.{length, take, drop, set, get_or, length-set, drop_of_length-le, take-append-drop}
use lib.Seq.{take-suc-set, drop-cons, drop-set-lt}
use lib.Ieee.{Float, nan}
use Rattle.float.specs.Floats.{plus}
use Rattle.chains.specs.Expected.{add_running, with_chain}
use Rattle.chains.proofs.inner.add_chain.Invariants.{Added}
use Rattle.chains.proofs.inner.add_chain.Goals as goal

next : (chain out : List Float) (acc : Float) (d : ℕ) (W : List Float) → d < length chain → suc d < length out
    → take (suc d) out ++ add_running acc (drop d chain) (drop (suc d) out) ≡ W
    → let a = plus acc (get_or chain d nan) in
    let v = plus (get_or out (suc d) nan) a in take (suc (suc d)) (set out (suc d) v) ++ add_running a (drop (suc d) chain) (drop (suc (suc d)) (set out (suc d) v)) ≡ W
unfolding add_running
next chain out acc d W h k e =
    let v = plus (get_or out (suc d) nan) (plus acc (get_or chain d nan)) in
    rw (take-suc-set out (suc d) v, append_assoc, drop-set-lt (suc (suc d)) out (suc d) v (omega arith)) (rw (drop-cons chain d nan, drop-cons out (suc d) nan) at e)

ended : (chain out : List Float) (acc : Float) (d : ℕ) (W : List Float) → length chain ≤ d
    → take (suc d) out ++ add_running acc (drop d chain) (drop (suc d) out) ≡ W → out ≡ W
unfolding add_running
ended chain out acc d W h e = sym (take-append-drop (suc d) out) ∙ rw (drop_of_length-le chain h) at e

turn : (chain sums out : List Float) (acc : Float) (d : ℕ) → length chain < length sums → d < length chain → Added chain sums out acc d
    → let a = plus acc (get_or chain d nan) in Added chain sums (set out (d + 1) (plus (get_or out (d + 1) nan) a)) a (d + 1)
turn chain sums out acc d small h inv =
    record {
      low = omega arith;
      long = length-set out (d + 1) _ ∙ inv.long;
      rest = rw (add-one d) (next chain out acc d (with_chain chain sums) h (omega (arith, inv.long)) inv.rest);
    }

pub loop-d-preserved : goal.loop-d-preserved
loop-d-preserved c =
    let a = c.args in
    turn a.chain.now a.sums.now c.loop-d.sums c.loop-d.acc c.loop-d.d c.requires c.loop-d-test.true c.loop-d.invariant

pub returns : goal.returns
returns c = ended c.args.chain.now c.loop-d.sums c.loop-d.acc c.loop-d.d _ (omega arith) c.loop-d.invariant.rest
