-- Each way through the draws of a plan, of which a later refusal is known. Assumes nothing.
use mathlib.Core.Path.{◌≡◌, refl, sym, ap, subst, ◌∙◌}
use mathlib.Core.Bool.{Bool, true, false, cond}
use mathlib.Core.List.{List, [], ◌∷◌, ◌++◌, append-nil}
use Prim.Native.Nat.{ℕ, zero, suc, ◌+◌, ◌-◌, ◌≤◌, ◌<◌}
use native.Mathlib.Nat.{not-suc-le-zero}
use native.Mathlib.Omega.{arith}
use lib.Dec.{ltb}
use lib.ListN.{length, get_or, take, drop, drop_of_length-le}
use lib.Seq.{sets, length-take-le, get_or-take}
use borrow.Author.Tests.{le-ltb, lt-ltb}
use Rattle.laws.proofs.Lists.{next}
use Rattle.rounds.specs.Drawing.{Batch, refused_with, and_used, and_then, replayed, drawn_over}
use Rattle.rounds.specs.declared.drawing.Drawn.{Drawn}
use Rattle.rounds.specs.declared.drawing.Drawn.TheVariants.{Used, Refused as NotDrawn}
use Rattle.plan_draws.specs.Draws.{unless_late, unless_either, drawn_unless, index_refusal}
use Rattle.plan_draws.proofs.Fronts.{front_is}
use Rattle.plan_draws.proofs.Batches.{replayed_all}

-- ---- what is drawn into a list that is as long as the batch
pub commits_all : (b : Batch) (was out : List ℕ) → out ≡ sets was 0 b.commits → length b.commits ≡ length was → out ≡ b.commits
commits_all b was out e n =
    let xs = b.commits in
    let none : drop (length xs) was ≡ [] = drop_of_length-le was {i = length xs} (omega (arith, n)) in
    e ∙ front_is xs was (omega (arith, n)) ∙ ap (λ (r : List ℕ). xs ++ r) none ∙ append-nil xs

module _ (late : ℕ) (b : Batch) (old : List ℕ) where
  pub draws_refused : (answer : Drawn) (number : ℕ) → answer ≡ b.answer → answer ≡ NotDrawn number → record { answer = NotDrawn number; commits = old } ≡ drawn_unless late b old
  draws_refused answer number e u = ap (λ (x : Drawn). unless_either x late b.commits old) (sym u ∙ e)

  refused_late : (used k : ℕ) → 0 < k → record { answer = NotDrawn k; commits = old } ≡ unless_late k used b.commits old
  refused_late used zero h = absurd (not-suc-le-zero h)
  refused_late used (suc k) h = refl

  pub late_refused : (answer : Drawn) (used : ℕ) → answer ≡ b.answer → answer ≡ Used used → 0 < late → record { answer = NotDrawn late; commits = old } ≡ drawn_unless late b old
  late_refused answer used e u h = refused_late used late h ∙ ap (λ (x : Drawn). unless_either x late b.commits old) (sym u ∙ e)

  passed_late : (used k : ℕ) → k ≤ 0 → record { answer = Used used; commits = b.commits ++ drop (length b.commits) old } ≡ unless_late k used b.commits old
  passed_late used zero h = refl
  passed_late used (suc k) h = absurd (not-suc-le-zero h)

  pub all_put : (answer : Drawn) (used : ℕ) (out : List ℕ) → answer ≡ b.answer → answer ≡ Used used → late ≤ 0 → out ≡ b.commits ++ drop (length b.commits) old → record { answer = Used used; commits = out } ≡ drawn_unless late b old
  all_put answer used out e u h p =
      let q : record { answer = Used used; commits = out } ≡ unless_late late used b.commits old = ap (λ (xs : List ℕ). record { answer = Used used; commits = xs }) p ∙ passed_late used late h in
      q ∙ ap (λ (x : Drawn). unless_either x late b.commits old) (sym u ∙ e)

-- ---- the indices, judged from the k-th on
module _ (rounds : ℕ) (indices : List ℕ) (n : ℕ) where
  abbrev pub to_judge : ℕ → ℕ
  to_judge k = index_refusal rounds (n - k) (drop k indices)

  pub judge_starts : index_refusal rounds n indices ≡ to_judge 0
  judge_starts = let z : n ≡ n - 0 = omega arith in ap (λ (m : ℕ). index_refusal rounds m indices) z

  one_left : (k : ℕ) → k < n → n - k ≡ suc (n - (k + 1))
  one_left k h = omega arith

  pub judge_absent : (k : ℕ) → k < n → length indices ≤ k → to_judge k ≡ 13
  unfolding index_refusal
  judge_absent k h l = rw (one_left k h, drop_of_length-le indices l)

  at_index : (k : ℕ) (t : Bool) → k < n → k < length indices → ltb (get_or indices k 0) rounds ≡ t → to_judge k ≡ cond t (to_judge (k + 1)) 14
  unfolding index_refusal
  at_index k t h l e = rw (one_left k h, next indices k 0 l, e)

  pub judge_refused : (k : ℕ) → k < n → k < length indices → rounds ≤ get_or indices k 0 → to_judge k ≡ 14
  judge_refused k h l e = at_index k false h l (le-ltb (get_or indices k 0) rounds e)

  pub judge_next : (k : ℕ) → k < n → k < length indices → get_or indices k 0 < rounds → to_judge k ≡ to_judge (k + 1)
  judge_next k h l e = at_index k true h l (lt-ltb (get_or indices k 0) rounds e)

  pub judge_ends : (k : ℕ) → n ≤ k → to_judge k ≡ 0
  unfolding index_refusal
  judge_ends k h = let z : n - k ≡ 0 = omega arith in ap (λ (m : ℕ). index_refusal rounds m (drop k indices)) z

-- nothing is refused of indices that are all below the round count
all_below : (rounds n : ℕ) (indices : List ℕ) → n ≤ length indices → ((k : ℕ) → k < n → get_or indices k 0 < rounds) → 0 ≡ index_refusal rounds n indices
unfolding index_refusal
all_below rounds zero indices l h = refl
all_below rounds (suc n) [] l h = absurd (not-suc-le-zero l)
all_below rounds (suc n) (i ∷ indices) l h =
    all_below rounds n indices (omega arith) (λ k p. h (suc k) (omega arith)) ∙ ap (λ (t : Bool). cond t (index_refusal rounds n indices) 14) (sym (lt-ltb i rounds (h 0 (omega arith))))

pub none_above : (rounds n : ℕ) (indices : List ℕ) → n ≤ length indices → ((k : ℕ) → k < length (take n indices) → get_or (take n indices) k 0 < rounds) → 0 ≡ index_refusal rounds n indices
none_above rounds n indices l h =
    all_below rounds n indices l
    (λ k p. let q : get_or (take n indices) k 0 < rounds = h k (omega (arith, length-take-le n indices l)) in subst (λ (x : ℕ). x < rounds) (get_or-take n indices k 0 p) q)

-- ---- what is judged is what the replayed rounds answer
abbrev Answers : Drawn → ℕ → ℕ → Type 0
Answers (Used used) number n = (number ≡ 0) × (used ≡ n)
Answers (NotDrawn refusal) number n = (number ≡ refusal) × (0 < refusal)

then_answers : (later : Drawn) (number n : ℕ) → Answers later number n → Answers (and_used 1 later) number (suc n)
then_answers (Used used) number n h = (h.0, omega (arith, h.1))
then_answers (NotDrawn refusal) number n h = h

round_answers : (t : Bool) (commits : ℕ) (later : Batch) (number n : ℕ) → Answers later.answer number n → Answers (cond t (and_then commits 1 later) (refused_with 14)).answer (cond t number 14) (suc n)
round_answers true commits later number n h = then_answers later.answer number n h
round_answers false commits later number n h = (refl, omega arith)

answers : (bank : List ℕ) (rounds n : ℕ) (indices : List ℕ) → Answers (replayed bank rounds n indices).answer (index_refusal rounds n indices) n
unfolding replayed index_refusal
answers bank rounds zero indices = (refl, refl)
answers bank rounds (suc n) [] = (refl, omega arith)
answers bank rounds (suc n) (i ∷ indices) = round_answers (ltb i rounds) (get_or bank i 0) (replayed bank rounds n indices) (index_refusal rounds n indices) n (answers bank rounds n indices)

refuses : (d : Drawn) (number n : ℕ) → Answers d number n → 0 < number → d ≡ NotDrawn number
refuses (Used used) number n h p = let w : ⊥ = omega (arith, h.0) in absurd w
refuses (NotDrawn refusal) number n h p = ap NotDrawn (sym h.0)

accepts : (d : Drawn) (number n : ℕ) → Answers d number n → number ≤ 0 → d ≡ Used n
accepts (Used used) number n h p = ap Used h.1
accepts (NotDrawn refusal) number n h p = let w : ⊥ = omega (arith, h.0, h.1) in absurd w

module _ (late : ℕ) (bank : List ℕ) (rounds n : ℕ) (indices old : List ℕ) (number : ℕ) (j : number ≡ index_refusal rounds n indices) where
  abbrev batch : Batch
  batch = replayed bank rounds n indices

  judged : Answers batch.answer number n
  judged = subst (λ (k : ℕ). Answers batch.answer k n) (sym j) (answers bank rounds n indices)

  pub index_refused : 0 < number → record { answer = NotDrawn number; commits = old } ≡ drawn_unless late batch old
  index_refused p = draws_refused late batch old batch.answer number refl (refuses batch.answer number n judged p)

  pub replay_late : number ≤ 0 → 0 < late → record { answer = NotDrawn late; commits = old } ≡ drawn_unless late batch old
  replay_late p h = late_refused late batch old batch.answer n refl (accepts batch.answer number n judged p) h

  pub replay_put : number ≤ 0 → late ≤ 0 → n ≤ length old → (answer : Drawn) (part : List ℕ)
      → record { answer = answer; commits = part } ≡ drawn_over (replayed bank rounds (length (take n old)) indices) (take n old)
      → record { answer = answer; commits = part ++ drop n old } ≡ drawn_unless late batch old
  replay_put p q l answer part d =
      let m : length (take n old) ≡ n = length-take-le n old l in
      let e : record { answer = answer; commits = part } ≡ drawn_over batch (take n old) = d ∙ ap (λ (k : ℕ). drawn_over (replayed bank rounds k indices) (take n old)) m in
      let f : answer ≡ batch.answer = ap (λ (x : Batch). x.answer) e in
      let u : answer ≡ Used n = f ∙ accepts batch.answer number n judged p in
      let k : length batch.commits ≡ n = replayed_all bank rounds n indices n (sym u ∙ f) in
      let c : part ≡ batch.commits = commits_all batch (take n old) part (ap (λ (x : Batch). x.commits) e) (k ∙ sym m) in
      let o : part ++ drop n old ≡ batch.commits ++ drop (length batch.commits) old = ap (λ (xs : List ℕ). xs ++ drop n old) c ∙ ap (λ (i : ℕ). batch.commits ++ drop i old) (sym k) in
      ap (λ (x : Drawn). record { answer = x; commits = part ++ drop n old }) u ∙ all_put late batch old answer n (part ++ drop n old) f u q o
