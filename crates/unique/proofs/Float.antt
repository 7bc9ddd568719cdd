-- The contracts of `float` leave one outcome each. Assumes nothing.
use mathlib.Core.Bool.{Bool}
use mathlib.Core.Path.{◌≡◌}
use Prim.Native.Nat.{ℕ}
use lib.Ieee.{Float, binary64, of_bits, to_bits}
use Rattle.float.specs.Floats.{clamp_to, clamp_unit, is_clear, is_finite, max_of}
use Rattle.float.specs.Range.{in_range, in_range_or_infinite, in_signed_range}
use Rattle.unique.specs.Only.{OnlyOne}
use Rattle.unique.proofs.Law.{once}

pub max_once : (a b : Float) → OnlyOne (λ (r : Float). r ≡ max_of a b)
max_once a b x y p q = once p q

pub clamp_once : (x low high : Float) → OnlyOne (λ (r : Float). r ≡ clamp_to x low high)
clamp_once x low high one y p q = once p q

pub clamp_unit_once : (x : Float) → OnlyOne (λ (r : Float). r ≡ clamp_unit x)
clamp_unit_once x one y p q = once p q

pub is_finite_once : (x : Float) → OnlyOne (λ (r : Bool). r ≡ is_finite x)
is_finite_once x one y p q = once p q

pub is_clear_once : (x : Float) → OnlyOne (λ (r : Bool). r ≡ is_clear x)
is_clear_once x one y p q = once p q

pub in_range_once : (x low high : Float) → OnlyOne (λ (r : Bool). r ≡ in_range low high x)
in_range_once x low high one y p q = once p q

pub in_range_or_infinite_once : (x low high : Float) → OnlyOne (λ (r : Bool). r ≡ in_range_or_infinite low high x)
in_range_or_infinite_once x low high one y p q = once p q

pub in_signed_range_once : (x low high : Float) → OnlyOne (λ (r : Bool). r ≡ in_signed_range low high x)
in_signed_range_once x low high one y p q = once p q

pub bits_once : (x : Float) → OnlyOne (λ (r : ℕ). r ≡ to_bits binary64 x)
bits_once x one y p q = once p q

pub of_bits_once : (b : ℕ) → OnlyOne (λ (r : Float). r ≡ of_bits binary64 b)
of_bits_once b x y p q = once p q
