-- Two lots of lists that a plan does not tell apart: where each of its parts is the same of both, the plan is. Assumes nothing.
use mathlib.Core.Path.{◌≡◌, refl, ap, ◌∙◌}
use mathlib.Core.Bool.{Bool, cond}
use mathlib.Core.List.{List}
use Prim.Native.Nat.{ℕ}
use lib.Dec.{eqb}
use lib.ListN.{length}
use Rattle.ledger_rows.specs.declared.layout.Past.{Past}
use Rattle.ledger_workers.specs.Workers.{past_of}
use Rattle.planner_laws.proofs.Asked.{asked_by_number}
use Rattle.settings.specs.declared.Settings.{Settings}
use Rattle.settings.specs.Settings.{settings_refusal, gamma_in}
use Rattle.rounds.specs.declared.drawing.Drawn.{Drawn}
use Rattle.rounds.specs.declared.drawing.Drawn.TheVariants.{Used, Refused as NotDrawn}
use Rattle.asked_rooms.specs.declared.Ask.{Ask}
use Rattle.asking.specs.Asked.{Lent, lengths_of, asked_judged, asked_refusal, values_refusal}
use Rattle.asked_rooms.specs.Rooms.{cost_rooms, bank_rooms, rooms_judged, rooms_refusal}
use Rattle.deciding.specs.Deciding.{Decided, decided_by}
use Rattle.planner.specs.Plan.{Left, curve_of, drawn, signals_refusal, best, plan_refusal, made, unless_refused, nothing_planned, planned}

module _ (s : Settings) (a : Ask) (l m : Lent) where
  -- the rooms: of costs and of a bank
  pub record Roomed (n drafts commits : ℕ) : Type 0 where
    pub costs_alike : cost_rooms s.policy s.drafter a.source (gamma_in s a.depth) a.sequences a.rows (lengths_of l n drafts commits)
        ≡ cost_rooms s.policy s.drafter a.source (gamma_in s a.depth) a.sequences a.rows (lengths_of m n drafts commits)
    pub bank_alike : bank_rooms s.model s.policy (gamma_in s a.depth) a.depth a.rounds (lengths_of l n drafts commits)
        ≡ bank_rooms s.model s.policy (gamma_in s a.depth) a.depth a.rounds (lengths_of m n drafts commits)

  pub record Alike : Type 0 where
    pub positions_alike : l.positions ≡ m.positions
    pub rooms_alike : (n drafts commits : ℕ) → Roomed n drafts commits
    pub values_alike : (past : Past) → values_refusal s a l past ≡ values_refusal s a m past
    pub draws_alike : drawn s a l ≡ drawn s a m
    pub signals_alike : signals_refusal s a l ≡ signals_refusal s a m
    pub decided_alike : (past : Past) → decided_by (best s a l) s a l (curve_of s a l) s.policy past ≡ decided_by (best s a m) s a m (curve_of s a m) s.policy past

  module _ (h : Alike) (ws ds cs : List ℕ) where
    rooms_same : (n drafts commits : ℕ) → rooms_refusal s a (lengths_of l n drafts commits) ≡ rooms_refusal s a (lengths_of m n drafts commits)
    unfolding rooms_judged
    rooms_same n drafts commits = let r = h.rooms_alike n drafts commits in cc (r.costs_alike, r.bank_alike)

    refusal_same : plan_refusal s a l ws ds cs ≡ plan_refusal s a m ws ds cs
    unfolding plan_refusal
    refusal_same = rw (asked_by_number s a l ws (length ds) (length cs), asked_by_number s a m ws (length ds) (length cs), rooms_same (length ws) (length ds) (length cs), h.values_alike (past_of ws a.a a.b), h.draws_alike, h.signals_alike)

    made_each : (draws : Drawn) (d : Decided) → made s a l ws ds cs draws d ≡ made s a m ws ds cs draws d
    unfolding made
    made_each (Used used) d = rw h.draws_alike
    made_each (NotDrawn number) d = refl

    made_same : (d : Decided) → made s a l ws ds cs (drawn s a l).answer d ≡ made s a m ws ds cs (drawn s a m).answer d
    made_same d = rw h.draws_alike (made_each (drawn s a m).answer d)

    planned_parts : (b : Bool) {first second first' second' : ℕ} {left left' : Left} → first ≡ first' → second ≡ second' → left ≡ left'
        → unless_refused s a l ws ds cs first (cond b (nothing_planned s a l ws ds cs) (unless_refused s a l ws ds cs second left))
        ≡ unless_refused s a m ws ds cs first' (cond b (nothing_planned s a m ws ds cs) (unless_refused s a m ws ds cs second' left'))
    planned_parts b p q r = rw (p, q, r)

    pub alike : planned s a l ws ds cs ≡ planned s a m ws ds cs
    unfolding planned
    alike =
        let past : Past = past_of ws a.a a.b in
        planned_parts (eqb a.sequences 0) (ap (settings_refusal s) h.positions_alike) refusal_same
        (ap (made s a l ws ds cs (drawn s a l).answer) (h.decided_alike past) ∙ made_same (decided_by (best s a m) s a m (curve_of s a m) s.policy past))
