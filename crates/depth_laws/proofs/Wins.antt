-- The depth that the Rust's loop ends with is the rules': the smallest depth of finite cost that no other exceeds, and 0 where there is none.
-- It holds where the expected values have a clear sign bit and are no NaN, whatever the costs are, and no second depth is such. Assumes nothing.
use mathlib.Core.Path.{◌≡◌, refl, sym, ◌∙◌, ap, subst}
use mathlib.Core.Logic.{◌⊎◌, inl, inr, ⊎_elim}
use mathlib.Core.Bool.{Bool, true, false, not, cond, ◌&&◌, ◌||◌}
use mathlib.Core.List.{List}
use Prim.Native.Nat.{ℕ, zero, suc, ◌+◌, ◌≤◌, ◌<◌}
use native.Mathlib.Nat.{eq-or-lt_of_le, le_of_suc-le-suc}
use native.Mathlib.Omega.{arith}
use lib.ListN.{length, drop, get_or}
use lib.Ieee.{Float, nan, lt, is_nan}
use Rattle.float.specs.Floats.{is_finite, is_clear}
use Rattle.depths.specs.declared.inner.Best.{Best}
use Rattle.depths.specs.Goodput.{best_from, best_depth, weigh, least, goodput_at, is_priced, exceeded, is_best, first_best, best_of}
use Rattle.float.proofs.Classes.{clash, clear_no_nan}
use Rattle.float.proofs.Order.{lt_asym, lt_irrefl, nlt_trans}
use Rattle.depth_laws.proofs.Clear.{goodput_clear, above_least}
use Rattle.depth_laws.proofs.Fold.{best_next, best_ended}

-- below or at g
last_or : (h g : ℕ) → h < suc g → (h < g) ⊎ (h ≡ g)
last_or h g l = ⊎_elim (λ (e : h ≡ g). inr e) (λ (k : h < g). inl k) (eq-or-lt_of_le (le_of_suc-le-suc l))

-- ---- the sentence of the rules, as a type

-- a depth of finite cost
abbrev pub Candidate : List Float → ℕ → Type 0
Candidate cs g = (g < length cs) × (is_finite (get_or cs g nan) ≡ true)

-- one that no other exceeds
abbrev pub Unexceeded : ℕ → List Float → List Float → ℕ → Type 0
Unexceeded n es cs g = Candidate cs g × ((h : ℕ) → Candidate cs h → lt (goodput_at n es cs g) (goodput_at n es cs h) ≡ false)

abbrev pub Wins : ℕ → List Float → List Float → ℕ → Type 0
Wins n es cs w =
    (Unexceeded n es cs w × ((g : ℕ) → g < w → Unexceeded n es cs g → ⊥)) ⊎ (((g : ℕ) → Candidate cs g → ⊥) × (w ≡ 0))

-- every entry has a clear sign bit and is no NaN
abbrev pub AllClear : List Float → Type 0
AllClear xs = (g : ℕ) → g < length xs → is_clear (get_or xs g nan) ≡ true

-- ---- the loop
module _ (n : ℕ) (es cs : List Float) (same : length es ≡ length cs) (E : AllClear es) where
  abbrev W : ℕ → Float
  W g = goodput_at n es cs g

  clear_at : (g : ℕ) → Candidate cs g → is_clear (W g) ≡ true
  clear_at g k = goodput_clear n (get_or es g nan) (get_or cs g nan) (E g (omega (arith, k.0))) k.1

  number_at : (g : ℕ) → Candidate cs g → is_nan (W g) ≡ false
  number_at g k = clear_no_nan (W g) (clear_at g k)

  -- of the depths below g, b is the first that no other exceeds
  record Leads (g : ℕ) (b : Best) : Type 0 where
    pub cand : Candidate cs b.depth
    pub seen : b.depth < g
    pub is : b.worth ≡ W b.depth
    pub top : (h : ℕ) → h < g → Candidate cs h → lt b.worth (W h) ≡ false
    pub first : (h : ℕ) → h < b.depth → Candidate cs h → lt (W h) b.worth ≡ true

  -- none below g has a finite cost, and b is what the loop starts with
  abbrev None : ℕ → Best → Type 0
  None g b = ((h : ℕ) → h < g → Candidate cs h → ⊥) × (b ≡ record { depth = 0; worth = least })

  Passed : ℕ → Best → Type 0
  Passed g b = None g b ⊎ Leads g b

  -- what holds of the depths below g, and of g, holds of those below g + 1
  more : (P : ℕ → Type 0) (g : ℕ) → ((h : ℕ) → h < g → P h) → P g → (h : ℕ) → h < suc g → P h
  more P g all here h l = ⊎_elim (λ (x : h < g). all h x) (λ (x : h ≡ g). subst P (sym x) here) (last_or h g l)

  -- g has no finite cost
  skipped : (g : ℕ) (b : Best) → (Candidate cs g → ⊥) → Passed g b → Passed (suc g) b
  unfolding Passed
  skipped g b out (inl p) = inl (more (λ h. Candidate cs h → ⊥) g p.0 out, p.1)
  skipped g b out (inr p) =
      inr record {
        cand = p.cand;
        seen = omega (arith, p.seen);
        is = p.is;
        top = more (λ h. Candidate cs h → lt b.worth (W h) ≡ false) g p.top (λ k. absurd (out k));
        first = p.first;
      }

  -- g is not above the best so far
  kept : (g : ℕ) (b : Best) → Candidate cs g → lt b.worth (W g) ≡ false → Passed g b → Passed (suc g) b
  unfolding Passed
  kept g b k t (inl p) = absurd (clash (sym t ∙ ap (λ (x : Best). lt x.worth (W g)) p.1 ∙ above_least (W g) (clear_at g k)))
  kept g b k t (inr p) =
      inr record {
        cand = p.cand;
        seen = omega (arith, p.seen);
        is = p.is;
        top = more (λ h. Candidate cs h → lt b.worth (W h) ≡ false) g p.top (λ _. t);
        first = p.first;
      }

  -- g is above the best so far
  taken : (g : ℕ) (b : Best) → Candidate cs g → lt b.worth (W g) ≡ true → Passed g b → Passed (suc g) (record { depth = g; worth = W g })
  unfolding Passed
  taken g b k t (inl p) =
      inr record {
        cand = k;
        seen = omega arith;
        is = refl;
        top = more (λ h. Candidate cs h → lt (W g) (W h) ≡ false) g (λ h l c. absurd (p.0 h l c)) (λ _. lt_irrefl (W g));
        first = λ h l c. absurd (p.0 h l c);
      }
  taken g b k t (inr p) =
      inr record {
        cand = k;
        seen = omega arith;
        is = refl;
        top = more (λ h. Candidate cs h → lt (W g) (W h) ≡ false) g
            (λ h l c. nlt_trans (W g) b.worth (W h) (ap is_nan p.is ∙ number_at b.depth p.cand) (lt_asym b.worth (W g) t) (p.top h l c))
            (λ _. lt_irrefl (W g));
        first = λ h l c. above h c (p.top h l c) (lt (W h) (W g)) refl;
      }
    where
      above : (h : ℕ) → Candidate cs h → lt b.worth (W h) ≡ false → (x : Bool) → lt (W h) (W g) ≡ x → lt (W h) (W g) ≡ true
      above h c u true e = e
      above h c u false e = absurd (clash (sym (nlt_trans b.worth (W h) (W g) (number_at h c) u e) ∙ t))

  turn : (g : ℕ) (b : Best) → g < length cs → Passed g b → Passed (suc g) (weigh n b g (get_or es g nan) (get_or cs g nan))
  turn g b l p = go (is_finite (get_or cs g nan)) refl (lt b.worth (W g)) refl
    where
      go : (f : Bool) → is_finite (get_or cs g nan) ≡ f → (x : Bool) → lt b.worth (W g) ≡ x → Passed (suc g) (cond (f && x) (record { depth = g; worth = W g }) b)
      go false e x t = skipped g b (λ k. clash (sym e ∙ k.1)) p
      go true e true t = taken g b (l, e) t p
      go true e false t = kept g b (l, e) t p

  from : (k g : ℕ) (b : Best) → g + k ≡ length cs → Passed g b → Passed (length cs) (best_from n g b (drop g es) (drop g cs))
  from zero g b e p =
      let at : g ≡ length cs = omega arith in
      rw (best_ended n g b es (drop g cs) (omega arith)) (subst (λ (i : ℕ). Passed i b) at p)
  from (suc k) g b e p =
      let l : g < length cs = omega arith in
      rw (← best_next n g b es cs (omega arith) l) (from k (suc g) (weigh n b g (get_or es g nan) (get_or cs g nan)) (omega arith) (turn g b l p))

  ended : (b : Best) → Passed (length cs) b → Wins n es cs b.depth
  unfolding Passed
  ended b (inl p) = inr ((λ g k. p.0 g k.0 k), ap (λ (x : Best). x.depth) p.1)
  ended b (inr p) =
      inl (
        (p.cand, (λ h k. ap (λ (x : Float). lt x (W h)) (sym p.is) ∙ p.top h k.0 k)),
        (λ g l u. clash (sym (u.1 b.depth p.cand) ∙ ap (λ (x : Float). lt (W g) x) (sym p.is) ∙ p.first g l u.0)),
      )

  -- the loop's depth wins
  pub best_wins : Wins n es cs (best_depth n es cs)
  unfolding Passed
  best_wins = ended _ (from (length cs) 0 (record { depth = 0; worth = least }) (omega arith) (inl ((λ h l k. absurd (let w : ⊥ = omega arith in w)), refl)))

-- and no other does
pub wins_once : (n : ℕ) (es cs : List Float) (v w : ℕ) → Wins n es cs v → Wins n es cs w → v ≡ w
wins_once n es cs v w (inl p) (inl q) = order (λ l. q.1 v l p.0) (λ l. p.1 w l q.0)
  where
    order : {a b : ℕ} → (a < b → ⊥) → (b < a → ⊥) → a ≡ b
    order {a} {b} x y = omega arith
wins_once n es cs v w (inl p) (inr q) = absurd (q.0 v p.0.0)
wins_once n es cs v w (inr p) (inl q) = absurd (p.0 w q.0.0)
wins_once n es cs v w (inr p) (inr q) = p.1 ∙ sym q.1

-- ---- the search for it
clash_of : {A : Type 0} (x : Bool) → x ≡ true → x ≡ false → A
clash_of x p q = clash (sym q ∙ p)

module _ (n : ℕ) (es cs : List Float) where
  or_false : (a b : Bool) → a ≡ false → b ≡ false → (a || b) ≡ false
  or_false a b p q = rw (p, q)

  or_second : (a b : Bool) → b ≡ true → (a || b) ≡ true
  or_second true b p = refl
  or_second false b p = p

  or_first : (a b : Bool) → a ≡ true → (a || b) ≡ true
  or_first a b p = rw p

  and_false : (a b : Bool) → (a ≡ true → b ≡ false) → (a && b) ≡ false
  and_false true b p = p refl
  and_false false b p = refl

  -- none exceeds x
  none_exceeds : (x : Float) (k : ℕ) → ((h : ℕ) → h < k → is_priced n es cs h ≡ true → lt x (goodput_at n es cs h) ≡ false) → exceeded n es cs x k ≡ false
  unfolding exceeded
  none_exceeds x zero p = refl
  none_exceeds x (suc k) p =
      or_false (exceeded n es cs x k) _ (none_exceeds x k (λ h l. p h (omega arith))) (and_false (is_priced n es cs k) (lt x (goodput_at n es cs k)) (λ e. p k (omega arith) e))

  -- one exceeds x
  one_exceeds : (x : Float) (k h : ℕ) → h < k → is_priced n es cs h ≡ true → lt x (goodput_at n es cs h) ≡ true → exceeded n es cs x k ≡ true
  unfolding exceeded
  one_exceeds x zero h l p q = absurd (let w : ⊥ = omega arith in w)
  one_exceeds x (suc k) h l p q =
      ⊎_elim (λ (m : h < k). or_first (exceeded n es cs x k) _ (one_exceeds x k h m p q))
      (λ (e : h ≡ k). or_second (exceeded n es cs x k) _ (subst (λ (i : ℕ). (is_priced n es cs i && lt x (goodput_at n es cs i)) ≡ true) e (rw (p, q)))) (last_or h k l)

  unexceeded_best : (g : ℕ) → Unexceeded n es cs g → is_best n es cs g ≡ true
  unexceeded_best g u = rw (u.0.1, none_exceeds (goodput_at n es cs g) (length cs) (λ h l e. u.1 h (l, e)))

  not_false' : (b : Bool) → not b ≡ true → b ≡ false
  not_false' true h = sym h
  not_false' false h = refl

  best_unexceeded : (g : ℕ) → g < length cs → is_best n es cs g ≡ true → Unexceeded n es cs g
  best_unexceeded g l h = go (is_priced n es cs g) refl h
    where
      go : (f : Bool) → is_priced n es cs g ≡ f → (f && not (exceeded n es cs (goodput_at n es cs g) (length cs))) ≡ true → Unexceeded n es cs g
      go false e k = clash k
      go true e k = ((l, e), (λ h c. below h c (lt (goodput_at n es cs g) (goodput_at n es cs h)) refl))
        where
          below : (h : ℕ) → Candidate cs h → (x : Bool) → lt (goodput_at n es cs g) (goodput_at n es cs h) ≡ x → lt (goodput_at n es cs g) (goodput_at n es cs h) ≡ false
          below h c true t = clash_of _ (one_exceeds (goodput_at n es cs g) (length cs) h c.0 c.1 t) (not_false' _ k)
          below h c false t = t

  -- none of the k depths from g on is best
  none_best : (k g : ℕ) → g + k ≡ length cs → ((h : ℕ) → Candidate cs h → ⊥) → first_best n es cs k g ≡ 0
  unfolding first_best
  none_best zero g e p = refl
  none_best (suc k) g e p = go (none_best k (suc g) (omega arith) p) (is_best n es cs g) refl
    where
      go : first_best n es cs k (suc g) ≡ 0 → (b : Bool) → is_best n es cs g ≡ b → cond b g (first_best n es cs k (suc g)) ≡ 0
      go rest true t = absurd (p g (best_unexceeded g (omega arith) t).0)
      go rest false t = rest

  -- w is the first of those from g on
  first_found : (k g w : ℕ) → g + k ≡ length cs → g ≤ w → Unexceeded n es cs w → ((h : ℕ) → h < w → Unexceeded n es cs h → ⊥) → first_best n es cs k g ≡ w
  unfolding first_best
  first_found zero g w e l u p = absurd (let x = u.0.0 in let y : ⊥ = omega arith in y)
  first_found (suc k) g w e l u p = go (λ (q : g < w). first_found k (suc g) w (omega arith) q u p) (is_best n es cs g) refl (eq-or-lt_of_le l)
    where
      go : (g < w → first_best n es cs k (suc g) ≡ w) → (b : Bool) → is_best n es cs g ≡ b → (g ≡ w) ⊎ (g < w) → cond b g (first_best n es cs k (suc g)) ≡ w
      go later true t (inl q) = q
      go later true t (inr q) = absurd (p g q (best_unexceeded g (omega arith) t))
      go later false t (inl q) = clash_of (is_best n es cs g) (ap (is_best n es cs) q ∙ unexceeded_best w u) t
      go later false t (inr q) = later q

  pub wins_found : (w : ℕ) → Wins n es cs w → best_of n es cs ≡ w
  unfolding best_of
  wins_found w (inl p) = first_found (length cs) 0 w (omega arith) (omega arith) p.0 p.1
  wins_found w (inr p) = none_best (length cs) 0 (omega arith) p.0 ∙ sym p.1

-- the Rust's depth is the rules'
pub loop_is_best : (n : ℕ) (es cs : List Float) → length es ≡ length cs → AllClear es → best_depth n es cs ≡ best_of n es cs
loop_is_best n es cs same E = sym (wins_found n es cs (best_depth n es cs) (best_wins n es cs same E))

-- so it is a depth of finite cost, or 0
pub best_is : (n : ℕ) (es cs : List Float) → length es ≡ length cs → AllClear es → Wins n es cs (best_of n es cs)
best_is n es cs same E = subst (Wins n es cs) (loop_is_best n es cs same E) (best_wins n es cs same E)
