-- Laws of running products stored one after the other from a place on. Assumes nothing.
use mathlib.Core.Path.{◌≡◌, refl, sym, ap, ◌∙◌}
use mathlib.Core.List.{List}
use Prim.Native.Nat.{ℕ, suc, ◌+◌, ◌≤◌, ◌<◌}
use native.Mathlib.Numerals.{add-one}
use native.Mathlib.Omega.{arith}
use lib.ListN.{length, get_or, drop, set, length-set, drop_of_length-le}
use lib.Seq.{sets, drop-cons}
use lib.Ieee.{Float, nan}
use Rattle.float.specs.Floats.{f1}
use Rattle.chains.specs.Scan.{scan}
use Rattle.chains.specs.Survival.{survive, products}

-- the products of the first d confidences are stored, the last of them is s, and the rest is to come
pub record Multiplying (signal chains₀ : List Float) (at : ℕ) (chains : List Float) (s : Float) (d : ℕ) : Type 0 where
  pub long : length chains ≡ length chains₀
  pub low : d ≤ length signal
  pub is : sets chains₀ at (products f1 signal) ≡ sets chains (at + d) (products s (drop d signal))

pub multiplying_begins : (signal chains : List Float) (at : ℕ) → Multiplying signal chains at chains f1 0
multiplying_begins signal chains at =
    let z : at ≡ at + 0 = omega arith in
    record { long = refl; low = omega arith; is = ap (λ (i : ℕ). sets chains i (products f1 signal)) z }

module _ (signal chains₀ : List Float) (at : ℕ) (chains : List Float) (s : Float) (d : ℕ) where
  stored : d < length signal → sets chains (at + d) (products s (drop d signal)) ≡ sets (set chains (at + d) (survive s (get_or signal d nan))) (at + (d + 1)) (products (survive s (get_or signal d nan)) (drop (d + 1) signal))
  unfolding scan
  stored h =
      let x = survive s (get_or signal d nan) in
      let n : suc (at + d) ≡ at + (d + 1) = omega arith in
      ap (λ (l : List Float). sets chains (at + d) (products s l)) (drop-cons signal d nan h)
      ∙ ap (λ (i : ℕ). sets (set chains (at + d) x) i (products x (drop (suc d) signal))) n
      ∙ ap (λ (i : ℕ). sets (set chains (at + d) x) (at + (d + 1)) (products x (drop i signal))) (sym (add-one d))

  pub multiplying_next : (v : Float) → d < length signal → v ≡ survive s (get_or signal d nan) → Multiplying signal chains₀ at chains s d → Multiplying signal chains₀ at (set chains (at + d) v) v (d + 1)
  multiplying_next v h f m = record {
    long = length-set chains (at + d) v ∙ m.long;
    low = omega arith;
    is = m.is ∙ stored h ∙ ap (λ (y : Float). sets (set chains (at + d) y) (at + (d + 1)) (products y (drop (d + 1) signal))) (sym f);
  }

  pub multiplying_ends : length signal ≤ d → Multiplying signal chains₀ at chains s d → chains ≡ sets chains₀ at (products f1 signal)
  unfolding scan
  multiplying_ends h m = sym (m.is ∙ ap (λ (l : List Float). sets chains (at + d) (products s l)) (drop_of_length-le signal h))
