-- The rounds by the model: each law is one way. Assumes nothing.
use mathlib.Core.Path.{◌≡◌, ap, ◌∙◌}
use mathlib.Core.List.{List}
use Prim.Native.Nat.{ℕ}
use lib.Ieee.{Float}
use Rattle.acceptance.specs.declared.AcceptanceModel.{AcceptanceModel}
use Rattle.acceptance.specs.declared.AcceptanceModel.TheVariants.{Constant, PerPosition, Trace}
use Rattle.settings.specs.declared.Settings.{Settings}
use Rattle.rounds.specs.Drawing.{Batch, analytic, replayed}
use Rattle.asked_rooms.specs.declared.Ask.{Ask}
use Rattle.plan_draws.specs.Draws.{drawn_by, drawn_unless, lent_to_draw}

-- ---- the rounds, by the model
module _ (late : ℕ) (s : Settings) (a : Ask) (positions : List Float) (bank : List ℕ) (draws : List Float) (indices : List ℕ) (m : AcceptanceModel) (old : List ℕ) (r : Batch) where
  abbrev pub drawn_under : Batch
  drawn_under = drawn_by s a (lent_to_draw positions bank draws indices) m

  pub drawn_constant : (alpha : Float) → m ≡ Constant alpha → r ≡ drawn_unless late (analytic m positions s.gamma a.sequences draws) old → r ≡ drawn_unless late drawn_under old
  unfolding drawn_by
  drawn_constant alpha e h = let q : analytic m positions s.gamma a.sequences draws ≡ drawn_under = rw e in h ∙ ap (λ (b : Batch). drawn_unless late b old) q

  pub drawn_positions : m ≡ PerPosition → r ≡ drawn_unless late (analytic m positions s.gamma a.sequences draws) old → r ≡ drawn_unless late drawn_under old
  unfolding drawn_by
  drawn_positions e h = let q : analytic m positions s.gamma a.sequences draws ≡ drawn_under = rw e in h ∙ ap (λ (b : Batch). drawn_unless late b old) q

  pub drawn_trace : m ≡ Trace → r ≡ drawn_unless late (replayed bank a.rounds a.sequences indices) old → r ≡ drawn_unless late drawn_under old
  unfolding drawn_by
  drawn_trace e h = let q : replayed bank a.rounds a.sequences indices ≡ drawn_under = rw e in h ∙ ap (λ (b : Batch). drawn_unless late b old) q
