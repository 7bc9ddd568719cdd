-- DRAWS THAT ARE NOT CONSUMED ARE NOT LOOKED AT, on any content of the storage: behind those that a plan uses any others may stand, or none. Assumes nothing.
use mathlib.Core.Path.{◌≡◌, refl, sym, ap}
use mathlib.Core.Bool.{true, false}
use mathlib.Core.List.{List, [], ◌∷◌, ◌++◌, append_assoc}
use Prim.Native.Nat.{ℕ, zero, suc, ◌+◌, ◌≤◌}
use native.Mathlib.Nat.{le_of_suc-le-suc}
use native.Mathlib.Omega.{arith}
use lib.Ieee.{Float}
use lib.ListN.{length, take, drop}
use Rattle.acceptance.specs.declared.AcceptanceModel.{AcceptanceModel}
use Rattle.acceptance.specs.declared.Sample.{Sample}
use Rattle.std.specs.Prelude.{Result, Ok, Err}
use Rattle.refusals.specs.declared.Refusal.{Refusal}
use Rattle.acceptance.specs.Acceptance.{accepted, sampled}
use Rattle.acceptance.proofs.Draws.{sample_bounded, unconsumed}
use Rattle.acceptance.specs.declared.AcceptanceModel.TheVariants.{Constant, PerPosition, Trace}
use Rattle.ledger_rows.proofs.Tests.{not_both}
use Rattle.settings.specs.declared.Settings.{Settings}
use Rattle.settings.specs.Settings.{is_trace}
use Rattle.rounds.specs.Drawing.{Batch, sequence_then, and_used, analytic}
use Rattle.rounds.specs.declared.drawing.Drawn.{Drawn}
use Rattle.rounds.specs.declared.drawing.Drawn.TheVariants.{Used, Refused as NotDrawn}
use Rattle.asked_rooms.specs.declared.Ask.{Ask}
use Rattle.asking.specs.Asked.{Lent}
use Rattle.planner.specs.Plan.{drawn_by, drawn, planned}
use Rattle.planner_laws.proofs.Used.{same_drawn}

take_add : {A : Type 0} (k v : ℕ) (xs : List A) → take (k + v) xs ≡ take k xs ++ take v (drop k xs)
take_add zero v xs = let e : 0 + v ≡ v = omega arith in rw e
take_add (suc k) zero [] = let e : suc k + 0 ≡ suc k = omega arith in rw e
take_add (suc k) (suc v) [] = let e : suc k + suc v ≡ suc (k + suc v) = omega arith in rw e
take_add {A} (suc k) v (x ∷ xs) = let e : suc k + v ≡ suc (k + v) = omega arith in rw e (ap (λ (l : List A). x ∷ l) (take_add k v xs))

drop_at_take : {A : Type 0} (k : ℕ) (xs ys : List A) → k ≤ length xs → drop k (take k xs ++ ys) ≡ ys
drop_at_take zero xs ys h = refl
drop_at_take (suc k) [] ys h = absurd (omega arith)
drop_at_take (suc k) (x ∷ xs) ys h = drop_at_take k xs ys (le_of_suc-le-suc h)

-- the draws used behind the first k
record UsedBehind (u k : ℕ) (d : Drawn) : Type 0 where
  behind : ℕ
  is : d ≡ Used behind
  sum : u ≡ k + behind

used_behind : (u k : ℕ) (d : Drawn) → and_used k d ≡ Used u → UsedBehind u k d
used_behind u k (Used v) f = record { behind = v; is = refl; sum = let z : k + v ≡ u = cc in sym z }
used_behind u k (NotDrawn number) f = absurd (let z : ◌≡◌ {A = ℕ} 0 1 = cc in omega arith)

module _ (model : AcceptanceModel) (positions : List Float) (gamma : ℕ) where
  -- the draws used, and any others behind them
  analytic_rest : (n : ℕ) (draws more : List Float) (u : ℕ) → (analytic model positions gamma n draws).answer ≡ Used u → analytic model positions gamma n (take u draws ++ more) ≡ analytic model positions gamma n draws
  unfolding analytic
  analytic_rest zero draws more u e = refl
  analytic_rest (suc n) draws more u e = go (sampled model positions 0 gamma draws) refl e (λ (k : ℕ). analytic_rest n (drop k draws))
    where
      later : ℕ → List Float → Batch
      later k xs = analytic model positions gamma n (drop k xs)

      then : (c k v : ℕ) → sampled model positions 0 gamma draws ≡ Ok (accepted c k) → k ≤ length draws → (later k draws).answer ≡ Used v → u ≡ k + v
          → ((more : List Float) (v : ℕ) → (later k draws).answer ≡ Used v → analytic model positions gamma n (take v (drop k draws) ++ more) ≡ later k draws)
          → sequence_then (sampled model positions 0 gamma (take u draws ++ more)) (λ j. later j (take u draws ++ more)) ≡ sequence_then (sampled model positions 0 gamma draws) (λ j. later j draws)
      then c k v q few f w ih =
          let split : take u draws ++ more ≡ take k draws ++ (take v (drop k draws) ++ more) = rw (w, take_add k v draws) (append_assoc (take k draws) (take v (drop k draws)) more) in
          let first : sampled model positions 0 gamma (take u draws ++ more) ≡ Ok (accepted c k) = rw split (unconsumed model positions 0 gamma draws (take v (drop k draws) ++ more) c k q) in
          let rest : drop k (take u draws ++ more) ≡ take v (drop k draws) ++ more = rw split (drop_at_take k draws (take v (drop k draws) ++ more) few) in
          rw (first, q, rest, ih more v f)

      go : (t : Result Sample Refusal) → sampled model positions 0 gamma draws ≡ t → (sequence_then t (λ j. later j draws)).answer ≡ Used u
          → ((k : ℕ) (more : List Float) (v : ℕ) → (later k draws).answer ≡ Used v → analytic model positions gamma n (take v (drop k draws) ++ more) ≡ later k draws)
          → sequence_then (sampled model positions 0 gamma (take u draws ++ more)) (λ j. later j (take u draws ++ more)) ≡ sequence_then (sampled model positions 0 gamma draws) (λ j. later j draws)
      go (Ok sample) q f ih =
          let b = rw q at (sample_bounded model positions gamma draws 0) in
          let k = sample.used in
          let v = used_behind u k (later k draws).answer f in
          then sample.commits k v.behind q (omega (arith, b.used_room)) v.is v.sum (ih k)
      go (Err r) q f ih = absurd (let z : ◌≡◌ {A = ℕ} 0 1 = cc in omega arith)

-- lent lists with other draws
abbrev pub with_draws : Lent → List Float → Lent
with_draws l draws = record {
  positions = l.positions;
  roofline = l.roofline;
  depths = l.depths;
  batches = l.batches;
  seconds = l.seconds;
  loaded = l.loaded;
  bank_commits_of = l.bank_commits_of;
  signals = l.signals;
  bank_curve_of = l.bank_curve_of;
  draws = draws;
  indices = l.indices;
}

module _ (s : Settings) (a : Ask) (l : Lent) where
  drawn_rest : (model : AcceptanceModel) → is_trace model ≡ false → (more : List Float) (u : ℕ) → (drawn_by s a l model).answer ≡ Used u → drawn_by s a l model ≡ drawn_by s a (with_draws l (take u l.draws ++ more)) model
  unfolding drawn_by
  drawn_rest (Constant alpha) t more u e = sym (analytic_rest (Constant alpha) l.positions s.gamma a.sequences l.draws more u e)
  drawn_rest PerPosition t more u e = sym (analytic_rest PerPosition l.positions s.gamma a.sequences l.draws more u e)
  drawn_rest Trace t more u e = absurd (not_both true refl t)

  -- where u draws are used, any others may stand behind them, or none
  pub later_draws_unused : is_trace s.model ≡ false → (more : List Float) (u : ℕ) → (drawn s a l).answer ≡ Used u → (ws ds cs : List ℕ)
      → planned s a l ws ds cs ≡ planned s a (with_draws l (take u l.draws ++ more)) ws ds cs
  later_draws_unused t more u e ws ds cs = same_drawn s a l (with_draws l (take u l.draws ++ more)) (record {
    positions_same = refl;
    roofline_same = λ p q. refl;
    table_same = λ p q. (refl, refl, refl);
    loaded_same = λ p q. refl;
    rounds_same = λ p. (refl, refl);
    curve_same = λ p q. refl;
    signals_same = λ p q. refl;
  }) (drawn_rest s.model t more u e) ws ds cs
