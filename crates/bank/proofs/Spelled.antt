-- Every number that a bank keeps is spelled in its text: the 0 for a number that has no value is never met. Assumes nothing.
use mathlib.Core.Path.{◌≡◌, refl, sym, ap, ◌∙◌, subst}
use mathlib.Core.List.{List, [], ◌∷◌}
use Prim.Native.Nat.{ℕ, zero, suc, ◌+◌, ◌-◌, ◌*◌, ◌≤◌, ◌<◌}
use native.Mathlib.Nat.{not-suc-le-zero, le_of_suc-le-suc}
use native.Mathlib.Omega.{arith}
use lib.Dec.{eqb}
use lib.Ieee.{Float}
use lib.ListN.{length, get_or, drop, length-drop}
use lib.Seq.{get_or-drop}
use Rattle.text.specs.Lines.{lines}
use Rattle.text.specs.Fields.{fields}
use Rattle.std.specs.Prelude.{Ok, Err}
use Rattle.refusals.specs.declared.Refusal.TheVariants.{FieldCount}
use Rattle.refusals.specs.Refusals.{passed_if, and_then}
use Rattle.numeral.specs.Spelling.{Whole, whole_of}
use Rattle.decimals.specs.Decimals.{Decimal, decimal_of, without_value}
use Rattle.bank_judge.specs.Judge.{sized, signals_judged, row_judged, judged}
use Rattle.bank_fill.specs.Fill.{whole_value, decimal_value}
use Rattle.bank.specs.Read.{bank_read}
use Rattle.refusals.proofs.First.{both_pass}
use Rattle.bank_judge.proofs.Laws.{no_answer}
use Rattle.bank_fill.proofs.Accepted.{accepted}
use Rattle.bank.proofs.Places.{commits_placed, signals_placed}

has_whole : (w : Whole) → without_value w ≡ Ok tt → w ≡ Ok (whole_value w)
has_whole (Ok v) e = refl
has_whole (Err refusal) e = absurd (no_answer refusal tt e)

has_decimal : (x : Decimal) → without_value x ≡ Ok tt → x ≡ Ok (decimal_value x)
has_decimal (Ok x) e = refl
has_decimal (Err refusal) e = absurd (no_answer refusal tt e)

row_numbers : (width skip : ℕ) (row : List (List ℕ)) → row_judged width skip row ≡ Ok tt → (without_value (whole_of (get_or row 0 [])) ≡ Ok tt) × (signals_judged (drop skip row) ≡ Ok tt)
unfolding row_judged
row_numbers width skip row e =
    let counted = both_pass (passed_if (eqb (length row) width) FieldCount) (and_then (without_value (whole_of (get_or row 0 []))) (signals_judged (drop skip row))) e in
    both_pass (without_value (whole_of (get_or row 0 []))) (signals_judged (drop skip row)) counted.1

signal_numbers : (fs : List (List ℕ)) → signals_judged fs ≡ Ok tt → (j : ℕ) → j < length fs → without_value (decimal_of (get_or fs j [])) ≡ Ok tt
signal_numbers [] e j h = absurd (not-suc-le-zero h)
signal_numbers (f ∷ fs) e zero h = (both_pass (without_value (decimal_of f)) (signals_judged fs) e).0
signal_numbers (f ∷ fs) e (suc j) h = signal_numbers fs (both_pass (without_value (decimal_of f)) (signals_judged fs) e).1 j (le_of_suc-le-suc h)

module _ (text commits : List ℕ) (signals curve : List Float) (depth rounds : ℕ) (e : judged text (length commits) (length signals) (length curve) ≡ sized depth rounds) where
  pub commits_spelled : (i d : ℕ) → i < rounds → whole_of (get_or (fields (get_or (drop 1 (lines text)) i [])) 0 []) ≡ Ok (get_or (bank_read text commits signals curve).commits i d)
  commits_spelled i d h =
      let a = accepted text (length commits) (length signals) (length curve) depth rounds e in
      let row = fields (get_or (drop 1 (lines text)) i []) in
      let width = length (fields (get_or (lines text) 0 [])) in
      has_whole (whole_of (get_or row 0 [])) (row_numbers width (width - depth) row (a.clean i (subst (λ (n : ℕ). i < n) a.all h))).0
      ∙ ap Ok (sym (commits_placed text commits signals curve depth rounds e i d h))

  pub signals_spelled : (i j : ℕ) (d : Float) → i < rounds → j < depth
      → decimal_of (get_or (fields (get_or (drop 1 (lines text)) i [])) (length (fields (get_or (lines text) 0 [])) - depth + j) [])
      ≡ Ok (get_or (bank_read text commits signals curve).signals (i * depth + j) d)
  signals_spelled i j d h k =
      let a = accepted text (length commits) (length signals) (length curve) depth rounds e in
      let row = fields (get_or (drop 1 (lines text)) i []) in
      let width = length (fields (get_or (lines text) 0 [])) in
      let i_in : i < length (drop 1 (lines text)) = subst (λ (n : ℕ). i < n) a.all h in
      let within : depth ≤ width = a.within in
      let l : length (drop (width - depth) row) ≡ width - (width - depth) = length-drop (width - depth) row ∙ ap (λ (n : ℕ). n - (width - depth)) (a.wide i i_in) in
      let j_in : j < length (drop (width - depth) row) = omega arith in
      has_decimal (decimal_of (get_or row (width - depth + j) []))
      (ap (λ (f : List ℕ). without_value (decimal_of f)) (sym (get_or-drop (width - depth) row j []))
      ∙ signal_numbers (drop (width - depth) row) (row_numbers width (width - depth) row (a.clean i i_in)).1 j j_in)
      ∙ ap Ok (sym (signals_placed text commits signals curve depth rounds e i j d h k))
