-- Numbers whose top bit says that a value is out. Assumes nothing.
use Rattle.std.specs.Prelude.{ℕ, ◌≡◌, ◌^◌, Bool, List, ltb, Float}
use Rattle.chains.specs.Tests.{all_of}

-- `r` is whether all pass, for each test that passes just where `fault` gives a number whose top bit is clear
abbrev pub ByTops : (Float → ℕ → Type 0) → List Float → Bool → Type 0
ByTops fault values r = (test : Float → Bool) → ((x : Float) (a : ℕ) → fault x a → ltb a (2 ^ 63) ≡ test x) → r ≡ all_of test values
