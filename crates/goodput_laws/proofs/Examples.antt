-- Worked examples of the rules, which antt computes from the definitions. Assumes nothing.
use mathlib.Core.Path.{◌≡◌, refl}
use mathlib.Core.Bool.{false}
use mathlib.Core.List.{List, [], ◌∷◌}
use Prim.Native.Nat.{ℕ}
use lib.Ieee.{Float, binary64, of_bits, of_int, add, mul, div, lt, neg, is_nan, inf}
use Rattle.float.specs.Floats.{f0, f1, whole, is_finite, max_of, clamp_to}
use Rattle.acceptance.specs.Acceptance.{product_to, expected_to}
use Rattle.acceptance.specs.declared.AcceptanceModel.TheVariants.{PerPosition}
use Rattle.chains.specs.Scan.{scan}
use Rattle.budgets.specs.Budget.{values_from, model_values, bank_values}
use Rattle.chains.specs.Survival.{products}
use Rattle.chains.specs.Expected.{add_running, sums_with}
use Rattle.depths.specs.Goodput.{exceeded, first_best, best_of, best_from, best_depth}

f : ℕ → Float
f b = of_bits binary64 b

e023 : List Float
e023 = whole 0 ∷ whole 2 ∷ whole 3 ∷ []

-- P1
p1 : best_of 2 e023 (whole 1 ∷ whole 2 ∷ f 0x4004_0000_0000_0000 ∷ []) ≡ 0
unfolding f e023 best_of first_best exceeded of_bits of_int add div lt is_nan is_finite max_of
p1 = refl

-- P2
p2 : best_of 2 e023 (whole 1 ∷ whole 2 ∷ whole 2 ∷ []) ≡ 2
unfolding f e023 best_of first_best exceeded of_bits of_int add div lt is_nan is_finite max_of
p2 = refl

-- P3
p3 : best_of 2 e023 (inf false ∷ inf false ∷ inf false ∷ []) ≡ 0
unfolding f e023 best_of first_best exceeded of_bits of_int add div lt is_nan is_finite max_of
p3 = refl

-- the Rust's loop on the same
r2 : best_depth 2 e023 (whole 1 ∷ whole 2 ∷ whole 2 ∷ []) ≡ 2
unfolding f e023 best_from of_bits of_int add div lt neg is_nan is_finite max_of
r2 = refl

-- confidences 2, 0.5 and minus zero: 1, 0.5, minus zero
chained : products f1 (whole 2 ∷ f 0x3fe0_0000_0000_0000 ∷ f 0x8000_0000_0000_0000 ∷ []) ≡ f1 ∷ f 0x3fe0_0000_0000_0000 ∷ f 0x8000_0000_0000_0000 ∷ []
unfolding f scan of_bits of_int mul lt clamp_to
chained = refl

-- two chains, of which the second is one slot long
summed : sums_with 2 (2 ∷ 1 ∷ []) (f1 ∷ f1 ∷ []) (f0 ∷ f0 ∷ f0 ∷ []) ≡ f0 ∷ f1 ∷ whole 2 ∷ []
unfolding sums_with add_running of_bits of_int add
summed = refl

-- a model with one position of a half: two sequences expect 0, 1 and 1
modelled : model_values PerPosition (f 0x3fe0_0000_0000_0000 ∷ []) 2 2 ≡ f0 ∷ f1 ∷ f1 ∷ []
unfolding f values_from product_to expected_to of_bits of_int add mul
modelled = refl

-- a bank of depth 1: past it the value is that at the depth
banked : bank_values (f0 ∷ f1 ∷ []) 1 2 3 ≡ f0 ∷ whole 2 ∷ whole 2 ∷ whole 2 ∷ []
unfolding values_from of_bits of_int mul
banked = refl

-- a chain that ends before gamma adds nothing past its end, as in the Rust: there the expected value falls
falls : sums_with 2 (1 ∷ []) (f1 ∷ []) (f0 ∷ f0 ∷ f0 ∷ []) ≡ f0 ∷ f1 ∷ f0 ∷ []
unfolding sums_with add_running of_bits add
falls = refl
