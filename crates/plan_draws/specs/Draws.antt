-- The rounds that a plan draws, and what becomes of the lent commits. Assumes nothing.
use Rattle.std.specs.Prelude.{ℕ, zero, suc, cond, List, [], ◌∷◌, ◌++◌, ltb, length, drop, Float}
use Rattle.acceptance.specs.declared.AcceptanceModel.{AcceptanceModel}
use Rattle.acceptance.specs.declared.AcceptanceModel.TheVariants.{Constant, PerPosition, Trace}
use Rattle.settings.specs.declared.Settings.{Settings}
use Rattle.rounds.specs.Drawing.{Batch, analytic, replayed}
use Rattle.rounds.specs.declared.drawing.Drawn.{Drawn}
use Rattle.rounds.specs.declared.drawing.Drawn.TheVariants.{Used, Refused as NotDrawn}
use Rattle.asked_rooms.specs.declared.Ask.{Ask}
use Rattle.asking.specs.Asked.{Lent}

-- ---- the lists that the draws read; the others are left out
abbrev pub lent_to_draw : List Float → List ℕ → List Float → List ℕ → Lent
lent_to_draw positions bank_commits_of draws indices = record {
  positions = positions;
  roofline = [];
  depths = [];
  batches = [];
  seconds = [];
  loaded = [];
  bank_commits_of = bank_commits_of;
  signals = [];
  bank_curve_of = [];
  draws = draws;
  indices = indices;
}

-- ---- the commits of a batch at the front of the lent ones, unless its draws are refused, or `late`, which comes after them, is a refusal
abbrev pub unless_late : ℕ → ℕ → List ℕ → List ℕ → Batch
unless_late zero used new old = record { answer = Used used; commits = new ++ drop (length new) old }
unless_late (suc late) used new old = record { answer = NotDrawn (suc late); commits = old }

abbrev pub unless_either : Drawn → ℕ → List ℕ → List ℕ → Batch
unless_either (Used used) late new old = unless_late late used new old
unless_either (NotDrawn number) late new old = record { answer = NotDrawn number; commits = old }

abbrev pub drawn_unless : ℕ → Batch → List ℕ → Batch
drawn_unless late b old = unless_either b.answer late b.commits old

-- of n indices: 13 where one is absent, 14 where one is not below the round count; else 0
unfoldable pub index_refusal : ℕ → ℕ → List ℕ → ℕ
index_refusal rounds zero indices = 0
index_refusal rounds (suc n) [] = 13
index_refusal rounds (suc n) (i ∷ indices) = cond (ltb i rounds) (index_refusal rounds n indices) 14

-- ---- the rounds: every policy draws alike, a model to the uncapped gamma
module _ (s : Settings) (a : Ask) (l : Lent) where
  unfoldable pub drawn_by : AcceptanceModel → Batch
  drawn_by (Constant alpha) = analytic (Constant alpha) l.positions s.gamma a.sequences l.draws
  drawn_by PerPosition = analytic PerPosition l.positions s.gamma a.sequences l.draws
  drawn_by Trace = replayed l.bank_commits_of a.rounds a.sequences l.indices

  abbrev pub drawn : Batch
  drawn = drawn_by s.model

  -- 13 or 14
  abbrev pub drawn_refusal : Drawn → ℕ
  drawn_refusal (Used used) = 0
  drawn_refusal (NotDrawn number) = number
