-- What a batch that is drawn is like: the commits of all its sequences, or a refusal. Assumes nothing.
use mathlib.Core.Path.{◌≡◌, refl, sym, ap, subst}
use mathlib.Core.Bool.{Bool, true, false, cond}
use mathlib.Core.List.{List, [], ◌∷◌}
use Prim.Native.Nat.{ℕ, zero, suc, ◌≤◌, ◌<◌}
use native.Mathlib.Omega.{arith}
use lib.Dec.{ltb}
use lib.ListN.{length, get_or, drop}
use lib.Ieee.{Float}
use Rattle.acceptance.specs.Acceptance.{sampled}
use Rattle.acceptance.specs.declared.AcceptanceModel.{AcceptanceModel}
use Rattle.acceptance.specs.declared.AcceptanceModel.TheVariants.{Constant, PerPosition, Trace}
use Rattle.acceptance.specs.declared.Sample.{Sample}
use Rattle.std.specs.Prelude.{Result, Ok, Err}
use Rattle.refusals.specs.declared.Refusal.{Refusal}
use Rattle.refusals.proofs.First.{no_zero}
use Rattle.settings.specs.declared.Settings.{Settings}
use Rattle.settings.specs.Settings.{is_trace}
use Rattle.rounds.specs.Drawing.{Batch, refused_with, and_used, and_then, sequence_then, analytic, replayed}
use Rattle.rounds.specs.declared.drawing.Drawn.{Drawn}
use Rattle.rounds.specs.declared.drawing.Drawn.TheVariants.{Used, Refused as NotDrawn}
use Rattle.float.proofs.Classes.{clash}
use Rattle.asked_rooms.specs.declared.Ask.{Ask}
use Rattle.asking.specs.Asked.{Lent}
use Rattle.plan_draws.specs.Draws.{drawn_by, drawn, lent_to_draw}

-- ---- a refusal has a number, and an answer has all commits
abbrev pub Told : Drawn → ℕ → ℕ → Type 0
Told (Used used) long n = long ≡ n
Told (NotDrawn number) long n = 0 < number

then_told : (used : ℕ) (later : Drawn) (long n : ℕ) → Told later long n → Told (and_used used later) (suc long) (suc n)
then_told used (Used more) long n h = ap suc h
then_told used (NotDrawn number) long n h = h

sequence_told : (sample : Result Sample Refusal) (later : ℕ → Batch) (n : ℕ) → ((used : ℕ) → Told (later used).answer (length (later used).commits) n)
    → Told (sequence_then sample later).answer (length (sequence_then sample later).commits) (suc n)
sequence_told (Ok sample) later n h = then_told sample.used (later sample.used).answer (length (later sample.used).commits) n (h sample.used)
sequence_told (Err refusal) later n h = no_zero refusal

analytic_told : (model : AcceptanceModel) (positions : List Float) (gamma n : ℕ) (draws : List Float) → Told (analytic model positions gamma n draws).answer (length (analytic model positions gamma n draws).commits) n
unfolding analytic
analytic_told model positions gamma zero draws = refl
analytic_told model positions gamma (suc n) draws =
    sequence_told (sampled model positions 0 gamma draws) (λ used. analytic model positions gamma n (drop used draws)) n
    (λ used. analytic_told model positions gamma n (drop used draws))

round_told : (t : Bool) (commits : ℕ) (later : Batch) (n : ℕ) → Told later.answer (length later.commits) n
    → Told (cond t (and_then commits 1 later) (refused_with 14)).answer (length (cond t (and_then commits 1 later) (refused_with 14)).commits) (suc n)
round_told true commits later n h = then_told 1 later.answer (length later.commits) n h
round_told false commits later n h = omega arith

replayed_told : (bank : List ℕ) (rounds n : ℕ) (indices : List ℕ) → Told (replayed bank rounds n indices).answer (length (replayed bank rounds n indices).commits) n
unfolding replayed
replayed_told bank rounds zero indices = refl
replayed_told bank rounds (suc n) [] = omega arith
replayed_told bank rounds (suc n) (i ∷ indices) = round_told (ltb i rounds) (get_or bank i 0) (replayed bank rounds n indices) n (replayed_told bank rounds n indices)

pub analytic_all : (model : AcceptanceModel) (positions : List Float) (gamma n : ℕ) (draws : List Float) (used : ℕ) → Used used ≡ (analytic model positions gamma n draws).answer → length (analytic model positions gamma n draws).commits ≡ n
analytic_all model positions gamma n draws used e = subst (λ (d : Drawn). Told d (length (analytic model positions gamma n draws).commits) n) (sym e) (analytic_told model positions gamma n draws)

pub replayed_all : (bank : List ℕ) (rounds n : ℕ) (indices : List ℕ) (used : ℕ) → Used used ≡ (replayed bank rounds n indices).answer → length (replayed bank rounds n indices).commits ≡ n
replayed_all bank rounds n indices used e = subst (λ (d : Drawn). Told d (length (replayed bank rounds n indices).commits) n) (sym e) (replayed_told bank rounds n indices)

-- ---- rounds that are replayed have an index each
abbrev Indexed : Drawn → ℕ → ℕ → Type 0
Indexed (Used used) n long = n ≤ long
Indexed (NotDrawn number) n long = 0 ≤ number

then_indexed : (used : ℕ) (later : Drawn) (n long : ℕ) → Indexed later n long → Indexed (and_used used later) (suc n) (suc long)
then_indexed used (Used more) n long h = omega arith
then_indexed used (NotDrawn number) n long h = h

round_indexed : (t : Bool) (commits : ℕ) (later : Batch) (n long : ℕ) → Indexed later.answer n long → Indexed (cond t (and_then commits 1 later) (refused_with 14)).answer (suc n) (suc long)
round_indexed true commits later n long h = then_indexed 1 later.answer n long h
round_indexed false commits later n long h = omega arith

replayed_indexed : (bank : List ℕ) (rounds n : ℕ) (indices : List ℕ) → Indexed (replayed bank rounds n indices).answer n (length indices)
unfolding replayed
replayed_indexed bank rounds zero indices = omega arith
replayed_indexed bank rounds (suc n) [] = omega arith
replayed_indexed bank rounds (suc n) (i ∷ indices) = round_indexed (ltb i rounds) (get_or bank i 0) (replayed bank rounds n indices) n (length indices) (replayed_indexed bank rounds n indices)

-- ---- of a plan
module _ (s : Settings) (a : Ask) (l : Lent) where
  told_by : (m : AcceptanceModel) → Told (drawn_by s a l m).answer (length (drawn_by s a l m).commits) a.sequences
  unfolding drawn_by
  told_by (Constant alpha) = analytic_told (Constant alpha) l.positions s.gamma a.sequences l.draws
  told_by PerPosition = analytic_told PerPosition l.positions s.gamma a.sequences l.draws
  told_by Trace = replayed_told l.bank_commits_of a.rounds a.sequences l.indices

  pub all_drawn : (used : ℕ) → Used used ≡ (drawn s a l).answer → length (drawn s a l).commits ≡ a.sequences
  all_drawn used e = subst (λ (d : Drawn). Told d (length (drawn s a l).commits) a.sequences) (sym e) (told_by s.model)

  pub refusal_numbered : (number : ℕ) → NotDrawn number ≡ (drawn s a l).answer → 0 < number
  refusal_numbered number e = subst (λ (d : Drawn). Told d (length (drawn s a l).commits) a.sequences) (sym e) (told_by s.model)

  indexed_by : (m : AcceptanceModel) → is_trace m ≡ true → Indexed (drawn_by s a l m).answer a.sequences (length l.indices)
  unfolding drawn_by
  indexed_by (Constant alpha) t = clash t
  indexed_by PerPosition t = clash t
  indexed_by Trace t = replayed_indexed l.bank_commits_of a.rounds a.sequences l.indices

  pub all_indexed : (used : ℕ) → Used used ≡ (drawn s a l).answer → is_trace s.model ≡ true → a.sequences ≤ length l.indices
  all_indexed used e t = subst (λ (d : Drawn). Indexed d a.sequences (length l.indices)) (sym e) (indexed_by s.model t)

  -- drawing reads four of the lists
  reads_by : (m : AcceptanceModel) → drawn_by s a (lent_to_draw l.positions l.bank_commits_of l.draws l.indices) m ≡ drawn_by s a l m
  unfolding drawn_by
  reads_by (Constant alpha) = refl
  reads_by PerPosition = refl
  reads_by Trace = refl

  pub draws_same : drawn s a (lent_to_draw l.positions l.bank_commits_of l.draws l.indices) ≡ drawn s a l
  draws_same = reads_by s.model
