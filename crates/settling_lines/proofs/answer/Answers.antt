-- `settling_lines::answer` meets its contract: each arm has its case. Assumes nothing.
use Rattle.width_way.specs.declared.Settling.{Settling}
use Rattle.settling_lines.specs.Lines.{answer_line}
use Rattle.settling_lines.proofs.Told.{told}
use Rattle.settling_lines.proofs.answer.Goals as goal

pub returns-in-Within : goal.returns-in-Within
unfolding answer_line
returns-in-Within c = told (λ (x : Settling). answer_line c.args.line x c.args.widths.now) c.in-Within.is c.within.ensures

pub returns-in-NoStep : goal.returns-in-NoStep
unfolding answer_line
returns-in-NoStep c = told (λ (x : Settling). answer_line c.args.line x c.args.widths.now) c.in-NoStep.is c.stays.ensures

pub returns-in-NoCandidate : goal.returns-in-NoCandidate
unfolding answer_line
returns-in-NoCandidate c = told (λ (x : Settling). answer_line c.args.line x c.args.widths.now) c.in-NoCandidate.is c.stays-in-NoCandidate.ensures

pub returns-in-AtOnce : goal.returns-in-AtOnce
unfolding answer_line
returns-in-AtOnce c = told (λ (x : Settling). answer_line c.args.line x c.args.widths.now) c.in-AtOnce.is c.opened.ensures

pub returns-in-Refused : goal.returns-in-Refused
unfolding answer_line
returns-in-Refused c = told (λ (x : Settling). answer_line c.args.line x c.args.widths.now) c.in-Refused.is c.append.ensures
