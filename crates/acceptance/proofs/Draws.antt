-- Laws of what draws accept: from a draw on, the bounds of the answer, and that draws which are not consumed are not looked at. Assumes nothing.
use mathlib.Core.Path.{◌≡◌, refl, sym, ap, ◌∙◌, subst}
use mathlib.Core.Logic.{◌⊎◌, inl, inr}
use mathlib.Core.Bool.{Bool, true, false}
use mathlib.Core.List.{List, [], ◌∷◌, ◌++◌}
use Prim.Native.Nat.{ℕ, zero, suc, ◌+◌, ◌-◌, ◌≤◌, ◌<◌, zero-le}
use native.Mathlib.Numerals.{add-one}
use native.Mathlib.Omega.{arith}
use lib.ListN.{length, get_or, take, drop, length-drop, drop_of_length-le}
use lib.Ieee.{Float, nan, lt}
use Rattle.laws.proofs.Lists.{next}
use Rattle.laws.proofs.Both.{both}
use Rattle.float.specs.Floats.{f0, f1, is_clear}
use Rattle.float.proofs.Classes.{clash, not_negative}
use Rattle.acceptance.specs.declared.AcceptanceModel.{AcceptanceModel}
use Rattle.acceptance.specs.declared.Sample.{Sample}
use Rattle.std.specs.Prelude.{Result, Ok, Err}
use Rattle.refusals.specs.declared.Refusal.{Refusal}
use Rattle.refusals.specs.declared.Refusal.TheVariants.{AbsentDraw, Draw}
use Rattle.refusals.specs.Refusals.{Judgement, and_then}
use Rattle.acceptance.specs.Acceptance.{a_d, is_draw, acceptance_judged, accepted, and_one, consume, sampled, sample_from, sample_accepted, commits_of, used_of}

-- ---- a draw
pub clear_draw : (x : Float) → is_clear x ≡ true → lt x f1 ≡ is_draw x
unfolding is_draw
clear_draw x e = rw e

pub not_clear_out : (x : Float) → is_clear x ≡ false → false ≡ is_draw x
unfolding is_draw
not_clear_out x e = rw e

-- at least 0 and below 1
pub draw_low : (x : Float) → is_draw x ≡ true → lt x f0 ≡ false
unfolding is_draw
draw_low x h = not_negative x (both (is_clear x) (lt x f1) h).0

pub draw_high : (x : Float) → is_draw x ≡ true → lt x f1 ≡ true
unfolding is_draw
draw_high x h = (both (is_clear x) (lt x f1) h).1

-- ---- from a draw on

-- k draws were below, and then what the later ones bring
abbrev pub after : ℕ → Result Sample Refusal → Result Sample Refusal
after k (Ok sample) = Ok (accepted (k + sample.commits) (k + sample.used))
after k (Err refusal) = Err refusal

-- the same numbers are the same sample
abbrev pub answered : ℕ → ℕ → Result Sample Refusal
answered commits used = Ok (accepted commits used)

pub alike : (a b c d : ℕ) → a ≡ c → b ≡ d → answered a b ≡ answered c d
alike a b c d e f = rw (e, f)

after_none : (s : Result Sample Refusal) → s ≡ after 0 s
after_none (Ok s) = alike s.commits s.used (0 + s.commits) (0 + s.used) (omega arith) (omega arith)
after_none (Err r) = refl

after_one : (k : ℕ) (s : Result Sample Refusal) → after k (and_one s) ≡ after (k + 1) s
after_one k (Ok s) = alike (k + suc s.commits) (k + suc s.used) (k + 1 + s.commits) (k + 1 + s.used) (omega arith) (omega arith)
after_one k (Err r) = refl

-- the answer from the draw i on, where n drafts were accepted before it
abbrev pub from : AcceptanceModel → List Float → ℕ → List Float → ℕ → ℕ → Result Sample Refusal
from model positions gamma draws i n = after n (sampled model positions n (gamma - n) (drop i draws))

module _ (model : AcceptanceModel) (positions : List Float) (gamma : ℕ) (draws : List Float) where
  one_left : (n : ℕ) → n < gamma → gamma - n ≡ suc (gamma - (n + 1))
  one_left n h = omega arith

  none_left : (n : ℕ) → gamma ≤ n → gamma - n ≡ 0
  none_left n h = omega arith

  no_further : (n : ℕ) → n + 0 ≡ n
  no_further n = omega arith

  pub sample_starts : (i : ℕ) → sample_from model positions gamma draws i ≡ from model positions gamma draws i 0
  sample_starts i = after_none (sampled model positions 0 gamma (drop i draws)) ∙ ap (λ (k : ℕ). after 0 (sampled model positions 0 k (drop i draws))) (all_left gamma)
    where
      all_left : (k : ℕ) → k ≡ k - 0
      all_left k = omega arith

  pub sample_ends : (i n : ℕ) → gamma ≤ n → from model positions gamma draws i n ≡ Ok (accepted n n)
  unfolding sampled
  sample_ends i n h = ap (λ (k : ℕ). after n (sampled model positions n k (drop i draws))) (none_left n h) ∙ alike (n + 0) (n + 0) n n (no_further n) (no_further n)

  pub sample_absent : (i n : ℕ) → n < gamma → length draws ≤ i → from model positions gamma draws i n ≡ Err AbsentDraw
  unfolding sampled
  sample_absent i n h k = rw (one_left n h, drop_of_length-le draws k)

  -- the draw i is there and is consumed
  consumed : (i n : ℕ) (b l : Bool) → n < gamma → i < length draws → is_draw (get_or draws i nan) ≡ b → lt (get_or draws i nan) (a_d model positions n) ≡ l
      → from model positions gamma draws i n ≡ after n (consume b l (sampled model positions (suc n) (gamma - (n + 1)) (drop (i + 1) draws)))
  unfolding sampled
  consumed i n b l h k e f = rw (one_left n h, next draws i nan k, e, f)

  pub sample_no_draw : (i n : ℕ) → n < gamma → i < length draws → is_draw (get_or draws i nan) ≡ false → from model positions gamma draws i n ≡ Err Draw
  sample_no_draw i n h k e = consumed i n false (lt (get_or draws i nan) (a_d model positions n)) h k e refl

  pub sample_stops : (i n : ℕ) → n < gamma → i < length draws → is_draw (get_or draws i nan) ≡ true → lt (get_or draws i nan) (a_d model positions n) ≡ false
      → from model positions gamma draws i n ≡ Ok (accepted n (n + 1))
  sample_stops i n h k e f = consumed i n true false h k e f ∙ alike (n + 0) (n + 1) n (n + 1) (no_further n) refl

  pub sample_next : (i n : ℕ) → n < gamma → i < length draws → is_draw (get_or draws i nan) ≡ true → lt (get_or draws i nan) (a_d model positions n) ≡ true
      → from model positions gamma draws i n ≡ from model positions gamma draws (i + 1) (n + 1)
  sample_next i n h k e f =
      consumed i n true true h k e f
      ∙ after_one n (sampled model positions (suc n) (gamma - (n + 1)) (drop (i + 1) draws))
      ∙ ap (λ (m : ℕ). after (n + 1) (sampled model positions m (gamma - (n + 1)) (drop (i + 1) draws))) (sym (add-one n))

-- ---- bounds: every draw used but the last was below, there are at most gamma, and all of them are there
pub record Bounded (gamma room : ℕ) (s : Result Sample Refusal) : Type 0 where
  pub commits_used : commits_of s ≤ used_of s
  pub used_commits : used_of s ≤ commits_of s + 1
  pub commits_gamma : commits_of s ≤ gamma
  pub used_gamma : used_of s ≤ gamma
  pub used_room : used_of s ≤ room

bounded_refusal : (gamma room : ℕ) (r : Refusal) → Bounded gamma room (Err r)
bounded_refusal gamma room r = record { commits_used = zero-le; used_commits = zero-le; commits_gamma = zero-le; used_gamma = zero-le; used_room = zero-le }

bounded_one : (gamma room : ℕ) (s : Result Sample Refusal) → Bounded gamma room s → Bounded (suc gamma) (suc room) (and_one s)
bounded_one gamma room (Ok s) b =
    record { commits_used = omega arith; used_commits = omega arith; commits_gamma = omega arith; used_gamma = omega arith; used_room = omega arith }
bounded_one gamma room (Err r) b = bounded_refusal (suc gamma) (suc room) r

bounded_consume : (below is : Bool) (gamma room : ℕ) (s : Result Sample Refusal) → Bounded gamma room s → Bounded (suc gamma) (suc room) (consume is below s)
bounded_consume below false gamma room s b = bounded_refusal (suc gamma) (suc room) Draw
bounded_consume false true gamma room s b =
    record { commits_used = omega arith; used_commits = omega arith; commits_gamma = omega arith; used_gamma = omega arith; used_room = omega arith }
bounded_consume true true gamma room s b = bounded_one gamma room s b

bounded : (model : AcceptanceModel) (positions : List Float) (d gamma : ℕ) (draws : List Float) → Bounded gamma (length draws) (sampled model positions d gamma draws)
unfolding sampled
bounded model positions d zero draws = record { commits_used = zero-le; used_commits = zero-le; commits_gamma = zero-le; used_gamma = zero-le; used_room = zero-le }
bounded model positions d (suc gamma) [] = bounded_refusal (suc gamma) 0 AbsentDraw
bounded model positions d (suc gamma) (x ∷ draws) =
    bounded_consume (lt x (a_d model positions d)) (is_draw x) gamma (length draws) (sampled model positions (suc d) gamma draws) (bounded model positions (suc d) gamma draws)

pub sample_bounded : (model : AcceptanceModel) (positions : List Float) (gamma : ℕ) (draws : List Float) (i : ℕ)
    → Bounded gamma (length draws - i) (sample_from model positions gamma draws i)
sample_bounded model positions gamma draws i =
    subst (λ (n : ℕ). Bounded gamma n (sample_from model positions gamma draws i)) (length-drop i draws) (bounded model positions 0 gamma (drop i draws))

pub accepted_bounded : (model : AcceptanceModel) (positions : List Float) (gamma : ℕ) (draws : List Float)
    → Bounded gamma (length draws) (sample_accepted model positions gamma draws)
unfolding sample_accepted
accepted_bounded model positions gamma draws = go (acceptance_judged model positions gamma)
  where
    go : (judgement : Judgement) → Bounded gamma (length draws) (and_then judgement (sample_from model positions gamma draws 0))
    go (Ok tt) = bounded model positions 0 gamma draws
    go (Err r) = bounded_refusal gamma (length draws) r

abbrev is_refused : Result Sample Refusal → Bool
is_refused (Ok sample) = false
is_refused (Err refusal) = true

-- ---- draws that are not consumed are not looked at: any others may stand behind those that were used
never : {A : Type 0} (r : Refusal) (c u : ℕ) → ◌≡◌ {A = Result Sample Refusal} (Err r) (Ok (accepted c u)) → A
never r c u e = clash (ap is_refused (sym e))

pub unconsumed : (model : AcceptanceModel) (positions : List Float) (d left : ℕ) (draws more : List Float) (c u : ℕ) → sampled model positions d left draws ≡ Ok (accepted c u)
    → sampled model positions d left (take u draws ++ more) ≡ Ok (accepted c u)
unfolding sampled
unconsumed model positions d zero draws more c u e = e
unconsumed model positions d (suc left) [] more c u e = never AbsentDraw c u e
unconsumed model positions d (suc left) (x ∷ draws) more c u e =
    go (is_draw x) (lt x (a_d model positions d)) (sampled model positions (suc d) left draws) refl refl e (unconsumed model positions (suc d) left draws more)
  where
    go : (b l : Bool) (s : Result Sample Refusal) → is_draw x ≡ b → lt x (a_d model positions d) ≡ l → consume b l s ≡ Ok (accepted c u)
        → ((k n : ℕ) → s ≡ Ok (accepted k n) → sampled model positions (suc d) left (take n draws ++ more) ≡ Ok (accepted k n)) → sampled model positions d (suc left) (take u (x ∷ draws) ++ more) ≡ Ok (accepted c u)
    go false l s b t h ih = never Draw c u h
    go true false s b t h ih = subst (λ (z : Result Sample Refusal). sampled model positions d (suc left) (take (used_of z) (x ∷ draws) ++ more) ≡ z) h (rw (b, t))
    go true true (Ok s) b t h ih = subst (λ (z : Result Sample Refusal). sampled model positions d (suc left) (take (used_of z) (x ∷ draws) ++ more) ≡ z) h (rw (b, t, ih s.commits s.used refl))
    go true true (Err r) b t h ih = never r c u h

-- ---- a draw is refused because it is absent, or because it is none
pub draw_refused : (model : AcceptanceModel) (positions : List Float) (d left : ℕ) (draws : List Float) (r : Refusal) → sampled model positions d left draws ≡ Err r
    → (r ≡ AbsentDraw) ⊎ (r ≡ Draw)
unfolding sampled
draw_refused model positions d zero draws r e = never r 0 0 (sym e)
draw_refused model positions d (suc left) [] r e = inl (cc)
draw_refused model positions d (suc left) (x ∷ draws) r e =
    go (is_draw x) (lt x (a_d model positions d)) (sampled model positions (suc d) left draws) e (draw_refused model positions (suc d) left draws)
  where
    go : (b l : Bool) (s : Result Sample Refusal) → consume b l s ≡ Err r → ((k : Refusal) → s ≡ Err k → (k ≡ AbsentDraw) ⊎ (k ≡ Draw)) → (r ≡ AbsentDraw) ⊎ (r ≡ Draw)
    go false l s h ih = inr (cc)
    go true false s h ih = never r 0 1 (sym h)
    go true true (Ok s) h ih = never r (suc s.commits) (suc s.used) (sym h)
    go true true (Err k) h ih = ih r h

-- ---- where the settings or gamma are refused, so is the sample, before any draw
pub settings_go_first : (model : AcceptanceModel) (positions : List Float) (gamma : ℕ) (draws : List Float) (r : Refusal)
    → acceptance_judged model positions gamma ≡ Err r → sample_accepted model positions gamma draws ≡ Err r
unfolding sample_accepted
settings_go_first model positions gamma draws r e = rw e
