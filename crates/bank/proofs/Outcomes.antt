-- What reading a bank leaves, by what the judge says. Assumes nothing.
use mathlib.Core.Path.{◌≡◌, sym, ap, ◌∙◌, subst}
use mathlib.Core.List.{List, []}
use Prim.Native.Nat.{ℕ, suc, ◌-◌, ◌≤◌}
use lib.ListN.{length, get_or, drop}
use lib.Seq.{sets}
use lib.Ieee.{Float}
use Rattle.text.specs.Lines.{lines}
use Rattle.text.specs.Fields.{fields}
use Rattle.std.specs.Prelude.{Ok, Err}
use Rattle.refusals.specs.declared.RefusedRow.{RefusedRow}
use Rattle.bank_judge.specs.declared.BankSize.{BankSize}
use Rattle.bank_judge.specs.Judge.{Answer, judged}
use Rattle.bank_fill.specs.Fill.{commits_of, signals_of}
use Rattle.bank_curve.specs.Curve.{curve_from, over}
use Rattle.bank.specs.Read.{Outcome, filled, bank_read}
use Rattle.bank_fill.proofs.Accepted.{accepted, commits_length, curve_length}
use Rattle.bank_curve.proofs.Stores.{stored_over}

module _ (text commits : List ℕ) (signals curve : List Float) where
  pub read_refused : (refused : RefusedRow) → judged text (length commits) (length signals) (length curve) ≡ Err refused
      → ◌≡◌ {A = Outcome} (record { answer = Err refused; commits = commits; signals = signals; curve = curve }) (bank_read text commits signals curve)
  unfolding bank_read
  read_refused refused e = ap (λ (x : Answer). filled (lines text) x commits signals curve) (sym e)

  -- where all fits, the values stored one after the other stand over the front of the buffer
  pub read_filled : (size : BankSize) (commits' : List ℕ) (signals' curve' : List Float) → judged text (length commits) (length signals) (length curve) ≡ Ok size
      → commits' ≡ sets commits 0 (commits_of (drop 1 (lines text)))
      → signals' ≡ sets signals 0 (signals_of (length (fields (get_or (lines text) 0 [])) - size.depth) (drop 1 (lines text)))
      → curve' ≡ sets curve 0 (curve_from 0 (suc size.depth) (commits_of (drop 1 (lines text))))
      → ◌≡◌ {A = Outcome} (record { answer = Ok size; commits = commits'; signals = signals'; curve = curve' }) (bank_read text commits signals curve)
  unfolding bank_read
  read_filled size commits' signals' curve' e c s k =
      let a = accepted text (length commits) (length signals) (length curve) size.depth size.rounds e in
      let rows = drop 1 (lines text) in
      let cs = commits_of rows in
      let ss = signals_of (length (fields (get_or (lines text) 0 [])) - size.depth) rows in
      let ks = curve_from 0 (suc size.depth) cs in
      let c' = c ∙ stored_over cs commits (subst (λ (n : ℕ). n ≤ length commits) (a.all ∙ sym (commits_length rows)) a.commits_fit) in
      let s' = s ∙ stored_over ss signals (subst (λ (n : ℕ). n ≤ length signals) (sym a.each) a.signals_fit) in
      let k' = k ∙ stored_over ks curve (subst (λ (n : ℕ). n ≤ length curve) (sym (curve_length 0 (suc size.depth) cs)) a.curve_fits) in
      ap {B = Outcome} (λ (x : List ℕ). record { answer = Ok size; commits = x; signals = signals'; curve = curve' }) c'
      ∙ ap {B = Outcome} (λ (x : List Float). record { answer = Ok size; commits = over cs commits; signals = x; curve = curve' }) s'
      ∙ ap {B = Outcome} (λ (x : List Float). record { answer = Ok size; commits = over cs commits; signals = over ss signals; curve = x }) k'
      ∙ ap (λ (x : Answer). filled (lines text) x commits signals curve) (sym e)
