-- Where no candidate pays, all are passed over, and each is weighed once: in whatever order, the state stays, and as many more are weighed as there are
-- candidates. Assumes nothing.
use Prim.Native.Nat.{ℕ, zero, suc, ◌+◌, ◌≤◌, ◌<◌}
use mathlib.Core.Path.{◌≡◌, refl, sym, ap, ◌∙◌}
use mathlib.Core.List.{List, [], ◌∷◌}
use mathlib.Core.Option.{Option, none, some}
use native.Mathlib.Decide.{ℕ_discrete}
use native.Mathlib.Omega.{arith}
use lib.ListN.{get_or, set}
use lib.Seq.{get_or-set_other}
use Rattle.heap.specs.Frontier.{Frontier, Choice, nobody, chosen, next}
use Rattle.heap.specs.Heap.{Stands}
use Rattle.heap.specs.Greedy as greedily
use Rattle.heap.specs.Greedy.{Stacks, frontier, total, leaves, Outcome, upon, run, greedy}
use Rattle.heap.proofs.Frontiers.{not_some}
use Rattle.heap.proofs.Next.{next_first, next_nobody}
use Rattle.heap.proofs.Steps.{frontier_set}
use Rattle.heap.proofs.Turns.{Going}

-- ---- how many candidates a frontier has
one : Option ℕ → ℕ
one none = 0
one (some r) = 1

candidates : Frontier → ℕ
candidates [] = 0
candidates (o ∷ f) = one o + candidates f

-- none
without : (f : Frontier) → ((k r : ℕ) → get_or f k none ≡ some r → ⊥) → candidates f ≡ 0
unfolding candidates one
without [] h = refl
without (none ∷ f) h = omega (arith, without f (λ k r e. h (suc k) r e))
without (some r ∷ f) h = absurd (h 0 r refl)

-- one less
fewer : (f : Frontier) (k r : ℕ) → get_or f k none ≡ some r → candidates f ≡ candidates (set f k none) + 1
unfolding candidates one
fewer [] k r e = absurd (not_some e)
fewer (none ∷ f) zero r e = absurd (not_some e)
fewer (some v ∷ f) zero r e = omega arith
fewer (o ∷ f) (suc k) r e = omega (arith, fewer f k r e)

cleared : (f : Frontier) (k r : ℕ) → get_or (set f k none) k none ≡ some r → ⊥
cleared [] k r e = not_some e
cleared (o ∷ f) zero r e = not_some e
cleared (o ∷ f) (suc k) r e = cleared f k r e

-- what is a candidate without k's was one before, and is not k's
still : (f : Frontier) (k j r : ℕ) → get_or (set f k none) j none ≡ some r → (j ≡ k → ⊥) × (get_or f j none ≡ some r)
still f k j r e = pick (ℕ_discrete j k)
  where
    pick : Dec (j ≡ k) → (j ≡ k → ⊥) × (get_or f j none ≡ some r)
    pick (yes p) = absurd (cleared f k r (rw p at e))
    pick (no p) = (p, sym (get_or-set_other f k j none none p) ∙ e)

-- the entries are as many as the candidates that they stand for
counted : (R S : List ℕ) (n : ℕ) (f : Frontier) → Stands R S n f → candidates f ≡ n
counted R S zero f st = without f (λ k r e. omega (arith, (st.all k r e).1))
counted R S (suc n) f st =
    let last = st.each n (omega arith) in
    omega (arith, fewer f (get_or S n 0) (get_or R n 0) last, counted R S n (set f (get_or S n 0) none) rest)
  where
    other : (i : ℕ) → i < n → get_or S i 0 ≡ get_or S n 0 → ⊥
    other i l e = omega (arith, st.once i n (omega arith) (omega arith) e)

    found : (k r : ℕ) → (k ≡ get_or S n 0 → ⊥) → (i : ℕ) × (i < suc n) × (get_or S i 0 ≡ k) → (i : ℕ) × (i < n) × (get_or S i 0 ≡ k)
    found k r h (i, l, e) = (i, below (ℕ_discrete i n), e)
      where
        below : Dec (i ≡ n) → i < n
        below (yes p) = absurd (h (sym e ∙ ap (λ (m : ℕ). get_or S m 0) p))
        below (no p) = omega arith

    rest : Stands R S n (set f (get_or S n 0) none)
    rest = record {
      each = λ i l. get_or-set_other f (get_or S n 0) (get_or S i 0) none none (other i l) ∙ st.each i (omega arith);
      once = λ i j li lj e. st.once i j (omega arith) (omega arith) e;
      all = λ k r e. found k r (still f (get_or S n 0) k r e).0 (st.all k r (still f (get_or S n 0) k r e).1);
    }

-- ---- the gate over candidates none of which pays
heads_few : (s : Stacks) → candidates (frontier s) ≤ total s
unfolding candidates one
heads_few [] = omega arith
heads_few ([] ∷ s) = omega (arith, heads_few s)
heads_few ((r ∷ x) ∷ s) = omega (arith, heads_few s)

total_less : (s : Stacks) (k r : ℕ) → get_or (frontier s) k none ≡ some r → total (set s k []) + 1 ≤ total s
total_less [] k r e = absurd (not_some e)
total_less ([] ∷ s) zero r e = absurd (not_some e)
total_less ((q ∷ x) ∷ s) zero r e = omega arith
total_less (y ∷ s) (suc k) r e = omega (arith, total_less s k r e)

module _ {A : Type 0} (weigh : A → ℕ → ℕ → greedily.Verdict A) (a : A) where
  AllLeft : Stacks → Type 0
  AllLeft s = (k r : ℕ) → get_or (frontier s) k none ≡ some r → weigh a k r ≡ leaves a

  Ends : (Stacks → ℕ → Outcome A) → ℕ → Type 0
  Ends go fuel = (s : Stacks) (w : ℕ) → total s ≤ fuel → AllLeft s → go s w ≡ record { state = a; weighed = w + candidates (frontier s) }

  turn : (fuel : ℕ) → Ends (run weigh fuel a) fuel → (s : Stacks) (w : ℕ) → total s ≤ suc fuel → AllLeft s → (c : Choice) → next (frontier s) ≡ c
      → upon weigh (run weigh fuel) a s w c ≡ record { state = a; weighed = w + candidates (frontier s) }
  unfolding AllLeft Ends
  turn fuel ends s w l h nobody e = ap (λ (m : ℕ). record { state = a; weighed = m }) (omega (arith, without (frontier s) (next_nobody (frontier s) e)))
  turn fuel ends s w l h (chosen k r) e =
      let own = (next_first (frontier s) k r e).own in
      let same = frontier_set s k [] in
      let goes = ends (set s k []) (w + 1) (omega (arith, total_less s k r own)) (λ j q p. h j q (still (frontier s) k j q (sym (ap (λ (f : Frontier). get_or f j none) same) ∙ p)).1) in
      let count : w + 1 + candidates (frontier (set s k [])) ≡ w + candidates (frontier s) = omega (arith, fewer (frontier s) k r own, ap candidates same) in
      rw (h k r own) (goes ∙ ap (λ (m : ℕ). record { state = a; weighed = m }) count)

  run_leaves : (fuel : ℕ) → Ends (run weigh fuel a) fuel
  unfolding run Ends
  run_leaves zero s w l h = ap (λ (m : ℕ). record { state = a; weighed = m }) (omega (arith, heads_few s))
  run_leaves (suc fuel) s w l h = turn fuel (run_leaves fuel) s w l h (next (frontier s)) refl

-- the code's loop may end where every entry would be passed over
pub going_over :
    {A : Type 0} {weigh : A → ℕ → ℕ → greedily.Verdict A} {numbers : A → List ℕ} {rest : ℕ → ℕ → List ℕ} {Ok : ℕ → ℕ → Type 0} {a₀ : A} {s₀ : Stacks}
    {R₀ S₀ R S : List ℕ} {a : A} {live w : ℕ} (at : Going weigh numbers rest Ok a₀ s₀ R₀ S₀ R S a live w)
    → ((i : ℕ) → i < live → weigh a (get_or S i 0) (get_or R i 0) ≡ leaves a) → greedy weigh a₀ s₀ ≡ record { state = a; weighed = w + live }
unfolding Ends AllLeft
going_over {weigh = weigh} {R = R} {S = S} {a = a} {live = live} {w = w} at h =
    let st = at.in_step.holds.stands in
    at.in_step.same
    ∙ run_leaves weigh a _ at.stacks w (omega (arith, at.in_step.room)) (λ k r e. all k r e (st.all k r e))
    ∙ ap (λ (m : ℕ). record { state = a; weighed = w + m }) (counted R S live (frontier at.stacks) st)
  where
    all : (k r : ℕ) → get_or (frontier at.stacks) k none ≡ some r → (i : ℕ) × (i < live) × (get_or S i 0 ≡ k) → weigh a k r ≡ leaves a
    all k r e (i, l, p) =
        let own = at.in_step.holds.stands.each i l in
        let same : some (get_or R i 0) ≡ some r = sym own ∙ ap (λ (m : ℕ). get_or (frontier at.stacks) m none) p ∙ e in
        let q : get_or R i 0 ≡ r = cc in
        rw (p, q) at (h i l)
