-- The best of a list from that of its first part and that of the rest: neither needs the other. Assumes nothing.
use mathlib.Core.Path.{◌≡◌, refl, sym, ◌∙◌, ap}
use mathlib.Core.Bool.{Bool, true, false, cond}
use mathlib.Core.List.{List, [], ◌∷◌, ◌++◌}
use Prim.Native.Nat.{ℕ, suc, ◌+◌, ◌-◌, ◌≤◌}
use native.Mathlib.Nat.{le_of_eq}
use native.Mathlib.Omega.{arith}
use lib.ListN.{length, take, drop, take-append-drop, length-drop}
use lib.Seq.{length-take-le, take_all}
use lib.Ieee.{Float, lt, neg, is_nan, of_bits}
use Rattle.float.proofs.Order.{lt_asym, lt_irrefl, lt_trans, nlt_trans, above_no_nan}
use Rattle.float.proofs.Classes.{clash}
use Rattle.depths.specs.declared.inner.Best.{Best}
use Rattle.depths.specs.Goodput.{least}
use Rattle.depths.specs.Worths.{raise, unweighed, raised_from}

-- the best of a list against the best of those before it
abbrev join : Best → Best → Best
join b r = raise b r.depth r.worth

-- not below what the loop starts with
abbrev Started : Best → Type 0
Started b = lt b.worth least ≡ false

least_no_nan : is_nan least ≡ false
unfolding is_nan neg of_bits
least_no_nan = refl

-- what is above a best that has started is above the start
above_start : (b : Best) (w : Float) → Started b → lt b.worth w ≡ true → lt least w ≡ true
above_start b w s h = go (lt least w) refl
  where
    go : (z : Bool) → lt least w ≡ z → z ≡ true
    go true e = refl
    go false e = clash (sym (nlt_trans b.worth least w least_no_nan s e) ∙ h)

start_raise : (b : Best) (g : ℕ) (w : Float) → Started b → Started (raise b g w)
start_raise b g w s = go (lt b.worth w) refl
  where
    go : (z : Bool) → lt b.worth w ≡ z → Started (cond z (record { depth = g; worth = w }) b)
    go true e = lt_asym least w (above_start b w s e)
    go false e = s

start_raised : (g : ℕ) (b : Best) (ws : List Float) → Started b → Started (raised_from g b ws)
unfolding raised_from
start_raised g b [] s = s
start_raised g b (w ∷ ws) s = start_raised (suc g) (raise b g w) ws (start_raise b g w s)

-- one more depth before a best r: it may be weighed against the best so far, or first against the start
one_more : (b r : Best) (g : ℕ) (w : Float) → Started b → join (raise b g w) r ≡ join b (join (raise unweighed g w) r)
one_more b r g w s = go (lt b.worth w) (lt least w) (lt w r.worth) refl refl refl
  where
    x : Best
    x = record { depth = g; worth = w }

    go : (A B C : Bool) → lt b.worth w ≡ A → lt least w ≡ B → lt w r.worth ≡ C
        → join (cond A x b) r ≡ join b (join (cond B x unweighed) r)
    go true true true a p q = rw (q, lt_trans b.worth w r.worth a q)
    go true true false a p q = rw (q, a)
    go true false C a p q = clash (sym p ∙ above_start b w s a)
    go false true true a p q = rw q
    go false true false a p q = rw (q, a, nlt_trans b.worth w r.worth (above_no_nan least w p) a q)
    go false false C a p q = last (lt b.worth r.worth) refl (lt least r.worth) refl
      where
        last : (D : Bool) → lt b.worth r.worth ≡ D → (E : Bool) → lt least r.worth ≡ E
            → cond D (record { depth = r.depth; worth = r.worth }) b ≡ join b (cond E (record { depth = r.depth; worth = r.worth }) unweighed)
        last D d true e = sym (rw d)
        last true d false e = clash (sym e ∙ above_start b r.worth s d)
        last false d false e = sym (rw s)

best_joined : (g : ℕ) (b : Best) (ws : List Float) → Started b → raised_from g b ws ≡ join b (raised_from g unweighed ws)
unfolding raised_from
best_joined g b [] s = sym (ap (λ (z : Bool). cond z unweighed b) s)
best_joined g b (w ∷ ws) s =
    let r = raised_from (suc g) unweighed ws in
    best_joined (suc g) (raise b g w) ws (start_raise b g w s) ∙ one_more b r g w s
    ∙ ap (join b) (sym (best_joined (suc g) (raise unweighed g w) ws (start_raise unweighed g w start)))
  where
    start : Started unweighed
    start = lt_irrefl least

raised_append : (g : ℕ) (b : Best) (xs ys : List Float) → raised_from g b (xs ++ ys) ≡ raised_from (g + length xs) (raised_from g b xs) ys
unfolding raised_from
raised_append g b [] ys = let e : g ≡ g + 0 = omega arith in ap (λ (k : ℕ). raised_from k b ys) e
raised_append g b (x ∷ xs) ys =
    let e : suc g + length xs ≡ g + suc (length xs) = omega arith in
    raised_append (suc g) (raise b g x) xs ys ∙ ap (λ (k : ℕ). raised_from k (raised_from (suc g) (raise b g x) xs) ys) e

-- as the code has it: the best of the first h, and the best of the rest against it
pub halves_joined : (from h after : ℕ) (low high : Best) (ws : List Float) → h ≤ length ws → after ≡ from + h
    → low ≡ raised_from from unweighed (take h ws) → high ≡ raised_from after unweighed (take (length ws - h) (drop h ws))
    → raise low high.depth high.worth ≡ raised_from from unweighed ws
halves_joined from h after low high ws fit e p q =
    let a = raised_from from unweighed (take h ws) in
    let l : after ≡ from + length (take h ws) = omega (arith, length-take-le h ws fit) in
    let rest : take (length ws - h) (drop h ws) ≡ drop h ws = take_all (length ws - h) (drop h ws) (le_of_eq (length-drop h ws)) in
    ap (λ (b : Best). join b high) p ∙ ap (join a) (q ∙ ap (raised_from after unweighed) rest)
    ∙ sym (best_joined after a (drop h ws) (start_raised from unweighed (take h ws) (lt_irrefl least)))
    ∙ ap (λ (k : ℕ). raised_from k a (drop h ws)) l
    ∙ sym (raised_append from unweighed (take h ws) (drop h ws)) ∙ ap (raised_from from unweighed) (take-append-drop h ws)
