-- What a plan that is not refused has: what its act asks for, and that what it decides is what the rules decide. Assumes nothing.
use mathlib.Core.Path.{◌≡◌, refl, sym, ap, ◌∙◌}
use mathlib.Core.Bool.{Bool, true, false, cond}
use mathlib.Core.List.{List}
use Prim.Native.Nat.{ℕ, zero, suc, ◌≤◌}
use native.Mathlib.Omega.{arith}
use lib.Dec.{leb}
use lib.ListN.{length, take}
use lib.Seq.{length-take-le}
use borrow.Author.Tests.{leb-true}
use Rattle.laws.proofs.Both.{both}
use Rattle.float.proofs.Classes.{clash}
use Rattle.refusals.specs.Refusals.{first_of, number_in}
use Rattle.refusals.proofs.First.{both_pass, passed_is_zero}
use Rattle.numeral.specs.Moment.{second_of}
use Rattle.acceptance.specs.Acceptance.{model_judged, model_refusal}
use Rattle.acceptance.specs.declared.AcceptanceModel.{AcceptanceModel}
use Rattle.acceptance.specs.declared.AcceptanceModel.TheVariants.{Constant, PerPosition, Trace}
use Rattle.cost_rows.specs.Lawful.{all_in_range, lawful}
use Rattle.cost_rows.specs.Order.{ordered}
use Rattle.switching.specs.Deciding.{is_record, most_width, most_rounds}
use Rattle.ledger_rows.specs.declared.layout.Past.{Past}
use Rattle.ledger_workers.specs.Workers.{past_of}
use Rattle.ledger.specs.Calls.{step_judged, worker_judged}
use Rattle.settings.specs.declared.Settings.{Settings}
use Rattle.settings.specs.Settings.{settings_judged, settings_refusal, gamma_in, uses_signals, is_trace}
use Rattle.rounds.specs.Signals.{are_finite}
use Rattle.rounds.specs.declared.drawing.Drawn.TheVariants.{Used}
use Rattle.asked_rooms.specs.declared.Ask.{Ask}
use Rattle.asking.specs.Asked.{Lent, table_of, asked_refusal}
use Rattle.asking.specs.Values.{held_of}
use Rattle.asking.proofs.Passed.{gamma_small, sequences_few, drafts_room, bank_rounds, bank_deep, bank_shallow, curve_room, curve_valued_lem, roofline_room, table_rooms, table_lawful, held_valued}
use Rattle.deciding.specs.Deciding.{decided_by}
use Rattle.deciding.specs.Ready.{Held, looped}
use Rattle.deciding_laws.proofs.Rules.{Judged as Ruled, reads, loop_decides}
use Rattle.plan_draws.specs.Draws.{drawn}
use Rattle.planning.specs.Steps.{curve_of, signals_refusal, best, put_under}
use Rattle.planning.specs.Acting.{lent_to_act, Priced, Judged, decided_priced}
use Rattle.plan_draws.proofs.Batches.{all_indexed}
use Rattle.planning.proofs.Prices.{force_long}

-- ---- tests
not_refused : (b : Bool) (n : ℕ) → cond b 0 (suc n) ≡ 0 → b ≡ true
not_refused true n h = refl
not_refused false n h = let w : ⊥ = omega arith in absurd w

-- neither of two refusals
pub neither : (x y : ℕ) → first_of x y ≡ 0 → (x ≡ 0) × (y ≡ 0)
neither zero y h = (refl, h)
neither (suc x) y h = let w : ⊥ = omega arith in absurd w

trace_is : (m : AcceptanceModel) → is_trace m ≡ true → m ≡ Trace
trace_is (Constant alpha) t = clash t
trace_is PerPosition t = clash t
trace_is Trace t = refl

when : (b : Bool) (x : ℕ) → b ≡ true → cond b x 0 ≡ 0 → x ≡ 0
when b x e h = sym (ap (λ (t : Bool). cond t x 0) e) ∙ h

-- the lists that the act of a plan reads
abbrev pub act_lists : Lent → Lent
act_lists l = lent_to_act l.positions l.roofline l.depths l.batches l.seconds l.loaded l.signals l.bank_curve_of l.indices

held_is : (past : Past) → is_record (held_of past) ≡ true → Held past
held_is past h =
    let p = both (leb past.width most_width) _ h in
    let q = both (leb past.rounds most_rounds) _ p.1 in
    record { narrow = leb-true past.width most_width p.0; counted = leb-true past.rounds most_rounds q.0 }

module _ (s : Settings) (a : Ask) (l : Lent) (ws ds cs : List ℕ) (e : asked_refusal s a l ws (length ds) (length cs) ≡ 0) where
  pub bank_held : is_trace s.model ≡ true → a.rounds ≤ length l.bank_commits_of
  bank_held t = bank_rounds s a l ws (length ds) (length cs) e (trace_is s.model t)

  module _ (used : ℕ) (u : Used used ≡ (drawn s a l).answer) where
    pub is_priced : Priced s a (past_of ws a.a a.b) (act_lists l) (take a.sequences ds)
    unfolding lawful
    is_priced = record {
      shallow = gamma_small s a l ws (length ds) (length cs) e;
      few = sequences_few s a l ws (length ds) (length cs) e;
      room = length-take-le a.sequences ds (drafts_room s a l ws (length ds) (length cs) e);
      roofed = λ c r. roofline_room s a l ws (length ds) (length cs) e c r;
      tabled = λ c t. let k = table_rooms s a l ws (length ds) (length cs) e c t in
          record { deep = k.0; wide = k.1; timed = k.2; ascending = (both (all_in_range (table_of a l)) (ordered (table_of a l)) (table_lawful s a l ws (length ds) (length cs) e c t)).1 };
      banked = λ g t. curve_room s a l ws (length ds) (length cs) e (trace_is s.model t) g;
      indexed = λ c t. all_indexed s a l used u t;
      held = λ g c k. held_is _ (held_valued s a l ws (length ds) (length cs) e g c k);
    }

    module _ (late : first_of (signals_refusal s a l) (first_of (cond (put_under s.switch s.policy) (worker_judged ws a.a a.b) 0) (step_judged ws (second_of a.end))) ≡ 0) where
      pub is_judged : Judged s a (act_lists l) ws (take a.sequences ds)
      is_judged =
          let worker = cond (put_under s.switch s.policy) (worker_judged ws a.a a.b) 0 in
          let step = step_judged ws (second_of a.end) in
          let p = neither worker step (neither (signals_refusal s a l) (first_of worker step) late).1 in
          record { priced = is_priced; step = p.1; worker = λ t. when (put_under s.switch s.policy) (worker_judged ws a.a a.b) t p.0 }

      signals_finite : uses_signals s.policy ≡ true → is_trace s.model ≡ true → are_finite l.signals a.depth (gamma_in s a.depth) (take a.sequences l.indices) ≡ true
      unfolding signals_refusal
      signals_finite c t =
          let z : signals_refusal s a l ≡ 0 = (neither _ _ late).0 in
          not_refused (are_finite l.signals a.depth (gamma_in s a.depth) (take a.sequences l.indices)) 14 (rw (c, t) at z)

      module _ (settled : settings_refusal s l.positions ≡ 0) where
        model_passed : model_refusal s.model l.positions ≡ 0
        unfolding settings_judged
        model_passed = ap number_in (both_pass (model_judged s.model l.positions) _ (passed_is_zero (settings_judged s l.positions) settled)).0

        is_ruled : Ruled s a l (curve_of s a l)
        unfolding curve_of
        is_ruled = record {
          shallow = gamma_small s a l ws (length ds) (length cs) e;
          few = sequences_few s a l ws (length ds) (length cs) e;
          modelled = model_passed;
          priced = λ c. force_long s a (act_lists l) (past_of ws a.a a.b) (take a.sequences ds) is_priced a.source refl c;
          deep = λ t. let m = trace_is s.model t in (bank_deep s a l ws (length ds) (length cs) e m, bank_shallow s a l ws (length ds) (length cs) e m);
          banked = λ g t. curve_room s a l ws (length ds) (length cs) e (trace_is s.model t) g;
          accepted = λ g t. curve_valued_lem s a l ws (length ds) (length cs) e (trace_is s.model t) g;
          finite = signals_finite;
        }

        -- what is acted on is what the rules decide
        pub rules_priced : decided_priced s a (act_lists l) (past_of ws a.a a.b) ≡ decided_by (best s a l) s a l (curve_of s a l) s.policy (past_of ws a.a a.b)
        unfolding curve_of
        rules_priced =
            let past = past_of ws a.a a.b in
            reads (looped s a l.loaded) s a (act_lists l) (curve_of s a l) s.policy past
            ∙ sym (reads (looped s a l.loaded) s a l (curve_of s a l) s.policy past)
            ∙ loop_decides s a l (curve_of s a l) is_ruled past
