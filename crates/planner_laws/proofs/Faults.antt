-- THE ORDER OF FAULTS, on any content of the storage: 12 before all else, then the empty plan, then sizes. Assumes nothing.
use mathlib.Core.Path.{◌≡◌, refl}
use mathlib.Core.Bool.{Bool, true, false, ◌&&◌}
use mathlib.Core.List.{List}
use Prim.Native.Nat.{ℕ, suc, ◌<◌}
use borrow.Author.Tests.{eq-eqb, lt-leb}
use lib.Dec.{leb, eqb}
use lib.ListN.{length}
use Rattle.planner_laws.proofs.Asked.{asked_by_number}
use Rattle.settings.specs.declared.Settings.{Settings}
use Rattle.settings.specs.Settings.{settings_refusal}
use Rattle.asked_rooms.specs.declared.Ask.{Ask}
use Rattle.asking.specs.Asked.{Lent, asked_judged, asked_refusal}
use Rattle.asked_rooms.specs.Sizes.{sizes_judged, sizes_refusal}
use Rattle.judged_plans.specs.declared.Planned.TheVariants.{Refused}
use Rattle.planner.specs.Plan.{plan_refusal, nothing_planned, planned}

module _ (s : Settings) (a : Ask) (l : Lent) (ws ds cs : List ℕ) where
  -- 12 goes before all else, an empty plan among it
  pub settings_first : (n : ℕ) → settings_refusal s l.positions ≡ suc n → (planned s a l ws ds cs).answer ≡ Refused (suc n)
  unfolding planned
  settings_first n e = rw e

  -- then a plan of no sequences is empty, whatever else is lent
  pub empty_next : settings_refusal s l.positions ≡ 0 → a.sequences ≡ 0 → planned s a l ws ds cs ≡ nothing_planned s a l ws ds cs
  unfolding planned
  empty_next e z = rw (e, eq-eqb a.sequences 0 z)

  -- then the first of the other refusals
  pub refused_next : (n : ℕ) → settings_refusal s l.positions ≡ 0 → eqb a.sequences 0 ≡ false → plan_refusal s a l ws ds cs ≡ suc n → (planned s a l ws ds cs).answer ≡ Refused (suc n)
  unfolding planned
  refused_next n e z r = rw (e, z, r)

  -- of which sizes come first
  sizes_go_first : sizes_refusal s.model s.gamma a.sequences a.depth a.rounds a.source a.rows ≡ 11 → plan_refusal s a l ws ds cs ≡ 11
  unfolding plan_refusal
  sizes_go_first e = rw (asked_by_number s a l ws (length ds) (length cs), e)

  too_large : leb s.gamma 64 && leb a.sequences 1024 ≡ false → sizes_refusal s.model s.gamma a.sequences a.depth a.rounds a.source a.rows ≡ 11
  unfolding sizes_judged
  too_large e = rw e

  too_large_is_11 : settings_refusal s l.positions ≡ 0 → eqb a.sequences 0 ≡ false → leb s.gamma 64 && leb a.sequences 1024 ≡ false → (planned s a l ws ds cs).answer ≡ Refused 11
  too_large_is_11 e z h = refused_next 10 e z (sizes_go_first (too_large h))

  both_false : (x y : Bool) → y ≡ false → x && y ≡ false
  both_false true y e = e
  both_false false y e = refl

  -- a gamma above 64, and more than 1,024 sequences
  pub too_deep : settings_refusal s l.positions ≡ 0 → eqb a.sequences 0 ≡ false → 64 < s.gamma → (planned s a l ws ds cs).answer ≡ Refused 11
  too_deep e z h = too_large_is_11 e z (rw (lt-leb s.gamma 64 h))

  pub too_many : settings_refusal s l.positions ≡ 0 → eqb a.sequences 0 ≡ false → 1024 < a.sequences → (planned s a l ws ds cs).answer ≡ Refused 11
  too_many e z h = too_large_is_11 e z (both_false (leb s.gamma 64) (leb a.sequences 1024) (lt-leb a.sequences 1024 h))
