-- What reading a trace bank answers, and what it leaves in the three buffers.
use Rattle.std.specs.Prelude.{ℕ, suc, ◌-◌, List, [], Float, length, get_or, drop, Ok, Err}
use Rattle.text.specs.Lines.{lines}
use Rattle.text.specs.Fields.{fields}
use Rattle.bank_judge.specs.Judge.{Answer, judged}
use Rattle.bank_fill.specs.Fill.{commits_of, signals_of}
use Rattle.bank_curve.specs.Curve.{curve_from, over}

-- what is left by a call: its answer and the three buffers
pub record Outcome : Type 0 where
  pub answer : Answer
  pub commits : List ℕ
  pub signals : List Float
  pub curve : List Float

-- a refusal leaves the buffers as they were
abbrev pub filled : List (List ℕ) → Answer → List ℕ → List Float → List Float → Outcome
filled text (Err refused) commits signals curve =
    record { answer = Err refused; commits = commits; signals = signals; curve = curve }
filled text (Ok size) commits signals curve =
    let header = get_or text 0 [] in
    let rows = drop 1 text in
    record {
      answer = Ok size;
      commits = over (commits_of rows) commits;
      signals = over (signals_of (length (fields header) - size.depth) rows) signals;
      curve = over (curve_from 0 (suc size.depth) (commits_of rows)) curve;
    }

unfoldable pub bank_read : List ℕ → List ℕ → List Float → List Float → Outcome
bank_read text commits signals curve =
    filled (lines text) (judged text (length commits) (length signals) (length curve)) commits signals curve
