-- `gates::gated_block_verify` meets its contract: what is refused leaves the widths, and else the gate writes the first of them. Assumes nothing.
use Prim.Native.Nat.{◌+◌}
use mathlib.Core.Path.{◌≡◌, sym, ◌∙◌}
use native.Mathlib.Omega.{arith}
use borrow.Author.Rules.{rules}
use lib.ListN.{length}
use lib.Seq.{length-take-le}
use Rattle.std.specs.Prelude.{Ok, Err}
use Rattle.gates.specs.Entry.{room_judged}
use Rattle.gates.proofs.Entering.{roomy, entered, block_early, block_late, block_weighed}
use Rattle.gates.proofs.gated_block_verify.Goals as goal

pub returns-in_err-judge_room : goal.returns-in_err-judge_room
returns-in_err-judge_room c =
    let a = c.args in
    let given : c.from_residual.result ≡ Err c.in_err-judge_room.field-0.0 = search rules in
    rw given (block_early a.chains.now a.lengths.now a.curve.now a.gamma a.drafter a.rates a.loaded.now a.mode a.widths.now _ (sym c.judge_room.ensures ∙ c.in_err-judge_room.was))

pub returns-in_err-depth : goal.returns-in_err-depth
returns-in_err-depth c =
    let a = c.args in
    let judged : room_judged a.drafter a.gamma (length a.lengths.now) (length a.widths.now) ≡ Ok tt = sym c.judge_room.ensures ∙ c.in_ok-judge_room.was in
    let given : c.from_residual-in_err-depth.result ≡ Err c.in_err-depth.field-0.0 = search rules in
    rw given (block_late a.chains.now a.lengths.now a.curve.now a.gamma a.drafter a.rates a.loaded.now a.mode a.widths.now judged _ (sym c.in_err-depth.was ∙ c.aggregate_depth.ensures))

pub slice_bounds-gated_block_verify-end : goal.slice_bounds-gated_block_verify-end
slice_bounds-gated_block_verify-end c =
    let a = c.args in
    let x = entered a.chains.now a.lengths.now a.curve.now a.gamma a.drafter a.rates a.loaded.now _ (sym c.in_ok-depth.was ∙ c.aggregate_depth.ensures) in
    sym (length-take-le (a.gamma + 1) a.curve.now x.priced)

pub slice_bounds-gated_block_verify-end-2 : goal.slice_bounds-gated_block_verify-end-2
slice_bounds-gated_block_verify-end-2 c =
    let a = c.args in
    let judged : room_judged a.drafter a.gamma (length a.lengths.now) (length a.widths.now) ≡ Ok tt = sym c.judge_room.ensures ∙ c.in_ok-judge_room.was in
    roomy a.drafter a.gamma (length a.lengths.now) (length a.widths.now) judged

pub slice_bounds-gated_block_verify-end-3 : goal.slice_bounds-gated_block_verify-end-3
slice_bounds-gated_block_verify-end-3 c =
    let a = c.args in
    let judged : room_judged a.drafter a.gamma (length a.lengths.now) (length a.widths.now) ≡ Ok tt = sym c.judge_room.ensures ∙ c.in_ok-judge_room.was in
    let l = roomy a.drafter a.gamma (length a.lengths.now) (length a.widths.now) judged in
    sym (length-take-le (length a.lengths.now) a.widths.now l)

pub gated_block_verify-weighed-requires-clause-fits : goal.gated_block_verify-weighed-requires-clause-fits
gated_block_verify-weighed-requires-clause-fits c =
    let a = c.args in
    let x = entered a.chains.now a.lengths.now a.curve.now a.gamma a.drafter a.rates a.loaded.now _ (sym c.in_ok-depth.was ∙ c.aggregate_depth.ensures) in
    x.fits

pub gated_block_verify-weighed-requires-clause-depth_in_bounds : goal.gated_block_verify-weighed-requires-clause-depth_in_bounds
gated_block_verify-weighed-requires-clause-depth_in_bounds c =
    let a = c.args in
    let x = entered a.chains.now a.lengths.now a.curve.now a.gamma a.drafter a.rates a.loaded.now _ (sym c.in_ok-depth.was ∙ c.aggregate_depth.ensures) in
    let p = length-take-le (a.gamma + 1) a.curve.now x.priced in
    (omega (arith, p, x.deep), omega (arith, p, x.shallow))

pub gated_block_verify-weighed-requires-clause-widths_len : goal.gated_block_verify-weighed-requires-clause-widths_len
gated_block_verify-weighed-requires-clause-widths_len c =
    let a = c.args in
    let judged : room_judged a.drafter a.gamma (length a.lengths.now) (length a.widths.now) ≡ Ok tt = sym c.judge_room.ensures ∙ c.in_ok-judge_room.was in
    let l = roomy a.drafter a.gamma (length a.lengths.now) (length a.widths.now) judged in
    length-take-le (length a.lengths.now) a.widths.now l

pub returns : goal.returns
returns c =
    let a = c.args in
    let judged : room_judged a.drafter a.gamma (length a.lengths.now) (length a.widths.now) ≡ Ok tt = sym c.judge_room.ensures ∙ c.in_ok-judge_room.was in
    let x = entered a.chains.now a.lengths.now a.curve.now a.gamma a.drafter a.rates a.loaded.now _ (sym c.in_ok-depth.was ∙ c.aggregate_depth.ensures) in
    block_weighed a.chains.now a.lengths.now a.curve.now a.gamma a.drafter a.rates a.loaded.now a.mode a.widths.now judged _ _ _ x c.gated_block_verify-weighed.ensures
