-- A loop that copies values to the front of a buffer: one value, and all of them. Assumes nothing.
use mathlib.Core.Path.{◌≡◌, refl, sym, ap, ◌∙◌}
use mathlib.Core.List.{List, [], ◌∷◌, ◌++◌}
use Prim.Native.Nat.{ℕ, ◌+◌, ◌≤◌, ◌<◌}
use native.Mathlib.Numerals.{add-one}
use native.Mathlib.Omega.{arith}
use lib.ListN.{length, take, drop, get_or, set, length-set, take-append-drop}
use lib.Seq.{take-suc, take-suc-set, take_all, drop-set-lt, drop-drop}
use lib.Ieee.{Float, nan}
use Rattle.budgets.specs.Budget.{over}

-- the first d are copied, and behind them all is as it was
pub record Copied (values out₀ out : List Float) (d : ℕ) : Type 0 where
  pub low : d ≤ length values
  pub long : length out ≡ length out₀
  pub front : take d out ≡ take d values
  pub rest : drop d out ≡ drop d out₀

pub copy_begins : (values out : List Float) → Copied values out out 0
copy_begins values out = record { low = omega arith; long = refl; front = refl; rest = refl }

pub copy_next : (values out₀ out : List Float) (d : ℕ) → length values ≤ length out₀ → d < length values → Copied values out₀ out d
    → Copied values out₀ (set out d (get_or values d nan)) (d + 1)
copy_next values out₀ out d room h inv =
    let v = get_or values d nan in
    let there : d < length out = omega (arith, inv.long) in
    let here : drop 1 (drop d out) ≡ drop 1 (drop d out₀) = ap (drop 1) inv.rest in
    record {
      low = omega arith;
      long = length-set out d v ∙ inv.long;
      front = rw (add-one d) (take-suc-set out d v there ∙ ap (λ (l : List Float). l ++ (v ∷ [])) inv.front ∙ sym (take-suc values d nan h));
      rest = drop-set-lt (d + 1) out d v (omega arith) ∙ sym (drop-drop 1 d out) ∙ here ∙ drop-drop 1 d out₀;
    }

pub copy_ended : (values out₀ out : List Float) (d : ℕ) → length values ≤ d → Copied values out₀ out d → out ≡ over values out₀
copy_ended values out₀ out d h inv =
    let all : d ≡ length values = omega (arith, inv.low) in
    sym (take-append-drop d out) ∙ ap (λ (l : List Float). l ++ drop d out) (inv.front ∙ take_all d values h) ∙ ap (λ (l : List Float). values ++ l) inv.rest
    ∙ ap (λ (i : ℕ). values ++ drop i out₀) all
