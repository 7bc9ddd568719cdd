-- `bank::read` meets its contract: a refusal writes nothing, and an accepted text fills the buffers. Assumes nothing.
use Rattle.std.proofs.Common.{rules, Err}
use mathlib.Core.Path.{◌≡◌, sym, ap, ◌∙◌}
use lib.ListN.{length}
use Rattle.bank_judge.specs.Judge.{Answer}
use Rattle.bank.specs.Read.{Outcome}
use Rattle.bank_fill.proofs.Accepted.{accepted}
use Rattle.bank.proofs.Outcomes.{read_refused, read_filled}
use Rattle.bank.proofs.read.Goals as goal

pub returns-in_err-size : goal.returns-in_err-size
returns-in_err-size c =
    let a = c.args in
    let refused = c.in_err-size.field-0.0 in
    let given : c.from_residual.result ≡ Err refused = search rules in
    ap {B = Outcome} (λ (x : Answer). record { answer = x; commits = a.commits.now; signals = a.signals.now; curve = a.curve.now }) given
    ∙ read_refused a.text.now a.commits.now a.signals.now a.curve.now refused (sym c.judge.ensures ∙ c.in_err-size.was)

pub fill-requires : goal.fill-requires
fill-requires c =
    let a = c.args in
    let size = c.in_ok-size.size in
    accepted a.text.now (length a.commits.now) (length a.signals.now) (length a.curve.now) size.depth size.rounds (sym c.judge.ensures ∙ c.in_ok-size.was)

pub returns : goal.returns
returns c =
    let a = c.args in
    read_filled a.text.now a.commits.now a.signals.now a.curve.now c.in_ok-size.size
    c.fill.new.commits c.fill.new.signals c.fill.new.curve
    (sym c.judge.ensures ∙ c.in_ok-size.was) c.fill.ensures.commits c.fill.ensures.signals c.fill.ensures.curve
