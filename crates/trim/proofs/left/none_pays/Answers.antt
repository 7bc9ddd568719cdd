-- `left::none_pays` meets its contract: the answer is that of the sequences from the loop's on. Assumes nothing.
use Prim.Native.Nat.{ℕ}
use mathlib.Core.Path.{◌≡◌, sym, ap, ◌∙◌}
use mathlib.Core.Bool.{Bool, cond, not, true, false}
use lib.Ieee.{Float}
use Rattle.chains.proofs.Tested.{all_next, all_end}
use Rattle.verify_prices.specs.Rule.{shut_by}
use Rattle.trim.specs.Kept.{pays_at, none_of}
use Rattle.trim.proofs.left.none_pays.Goals as goal

unlooked : (look r : Bool) → look ≡ false → false ≡ cond look r false
unlooked look r e = rw e

looked :
    (look : Bool) (shut_of : Float → Bool) (answer : Bool → Float → Bool) (shut : Bool) (vp price : Float) (b : Bool)
    → look ≡ true → answer shut vp ≡ b → shut ≡ shut_of vp → vp ≡ price → b ≡ cond look (answer (shut_of price) price) false
looked look shut_of answer shut vp price b e p z q =
    rw e (sym p ∙ ap (λ (x : Bool). answer x vp) z ∙ ap (λ (v : Float). answer (shut_of v) v) q)

pub returns-then-not-look : goal.returns-then-not-look
returns-then-not-look c =
    let a = c.args in
    unlooked a.look _ (c.if-not-look.true)

pub slot_pays-requires-clause-k_in_bounds : goal.slot_pays-requires-clause-k_in_bounds
slot_pays-requires-clause-k_in_bounds c = let w = c.requires.nk_len.1 c.loop-k.k-index c.loop-k-test.true in (w.0, w.1.0)

pub slot_pays-requires-clause-nonzero : goal.slot_pays-requires-clause-nonzero
slot_pays-requires-clause-nonzero c = let w = c.requires.nk_len.1 c.loop-k.k-index c.loop-k-test.true in (w.1.1.0, w.1.1.1.0)

pub slot_pays-requires-clause-nk_len : goal.slot_pays-requires-clause-nk_len
slot_pays-requires-clause-nk_len c = let w = c.requires.nk_len.1 c.loop-k.k-index c.loop-k-test.true in (c.requires.nk_len.0, w.1.1.1.1.0, w.1.1.1.1.1)

pub returns-then-slot_pays : goal.returns-then-slot_pays
returns-then-slot_pays c =
    let a = c.args in
    let answer : Bool → Float → Bool = λ z v. none_of (pays_at z a.tally v a.chains.now a.passes.now a.nk.now a.widths.now) a.rest.now in
    let test = pays_at c.is_shut-shut.result a.tally c.verify_price-vp.result a.chains.now a.passes.now a.nk.now a.widths.now in
    looked a.look (shut_by a.mode) answer c.is_shut-shut.result c.verify_price-vp.result _ _ (c.if-not-look.false)
    (c.loop-k.invariant ∙ all_next (λ (k : ℕ). not (test k)) 0 false a.rest.now c.loop-k.k-index c.loop-k-test.true (ap not (sym c.slot_pays.ensures ∙ c.if-slot_pays.true))) c.is_shut-shut.ensures c.verify_price-vp.ensures

pub loop-k-preserved : goal.loop-k-preserved
loop-k-preserved c =
    let a = c.args in
    let test = pays_at c.is_shut-shut.result a.tally c.verify_price-vp.result a.chains.now a.passes.now a.nk.now a.widths.now in
    c.loop-k.invariant ∙ all_next (λ (k : ℕ). not (test k)) 0 true a.rest.now c.loop-k.k-index c.loop-k-test.true (ap not (sym c.slot_pays.ensures ∙ c.if-slot_pays.false))

pub returns : goal.returns
returns c =
    let a = c.args in
    let answer : Bool → Float → Bool = λ z v. none_of (pays_at z a.tally v a.chains.now a.passes.now a.nk.now a.widths.now) a.rest.now in
    let test = pays_at c.is_shut-shut.result a.tally c.verify_price-vp.result a.chains.now a.passes.now a.nk.now a.widths.now in
    looked a.look (shut_by a.mode) answer c.is_shut-shut.result c.verify_price-vp.result _ _ (c.if-not-look.false) (c.loop-k.invariant ∙ all_end (λ (k : ℕ). not (test k)) 0 a.rest.now c.loop-k.k-index c.loop-k-test.false) c.is_shut-shut.ensures c.verify_price-vp.ensures
