-- The contracts of `bank` leave one outcome each. Assumes nothing.
use mathlib.Core.List.{List}
use mathlib.Core.Path.{◌≡◌}
use Prim.Native.Nat.{ℕ}
use lib.Ieee.{Float}
use Rattle.bank.specs.Acceptance.{Expected, expected_accepted}
use Rattle.bank.specs.Read.{Outcome, bank_read}
use Rattle.bank_judge.specs.Judge.{Answer}
use Rattle.unique.specs.Only.{OnlyFour, OnlyOne}
use Rattle.unique.proofs.Law.{four_once, once}

pub read_once : (text commits : List ℕ) (signals curve : List Float) → OnlyFour (λ (r : Answer) (commits' : List ℕ) (signals' : List Float) (curve' : List Float). record { answer = r; commits = commits'; signals = signals'; curve = curve' } ≡ bank_read text commits signals curve)
read_once text commits signals curve x b c d y b' c' d' p q = four_once (λ (o : Outcome). o.answer) (λ (o : Outcome). o.commits) (λ (o : Outcome). o.signals) (λ (o : Outcome). o.curve) p q

pub expected_accepted_once : (curve : List Float) (depth gamma : ℕ) → OnlyOne (λ (r : Expected). r ≡ expected_accepted curve depth gamma)
expected_accepted_once curve depth gamma x y p q = once p q
