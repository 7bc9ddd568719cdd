-- What a plan's inputs are refused for, by number: the sizes, then the rooms, then the values. Assumes nothing.
use mathlib.Core.Path.{◌≡◌, refl, ap, ◌∙◌}
use mathlib.Core.Bool.{Bool, true, false}
use mathlib.Core.List.{List}
use Prim.Native.Nat.{ℕ}
use native.Mathlib.Omega.{arith}
use lib.ListN.{length}
use Rattle.refusals.specs.declared.Refusal.{Refusal}
use Rattle.refusals.specs.Refusals.{passed_if, and_then, number_in, first_of}
use Rattle.refusals.proofs.First.{no_zero, number_of_both}
use Rattle.ledger_workers.specs.Workers.{past_of}
use Rattle.settings.specs.declared.Settings.{Settings}
use Rattle.asked_rooms.specs.declared.Ask.{Ask}
use Rattle.asked_rooms.specs.Sizes.{sizes_judged, sizes_refusal}
use Rattle.asked_rooms.specs.Rooms.{rooms_judged, rooms_refusal}
use Rattle.asking.specs.Asked.{Lent, lengths_of, values_judged, values_refusal, asked_judged, asked_refusal}

pub asked_by_number : (s : Settings) (a : Ask) (l : Lent) (ws : List ℕ) (drafts commits : ℕ) → asked_refusal s a l ws drafts commits
    ≡ first_of (sizes_refusal s.model s.gamma a.sequences a.depth a.rounds a.source a.rows) (first_of (rooms_refusal s a (lengths_of l (length ws) drafts commits)) (values_refusal s a l (past_of ws a.a a.b)))
unfolding asked_judged
asked_by_number s a l ws drafts commits =
    let sizes = sizes_judged s.model s.gamma a.sequences a.depth a.rounds a.source a.rows in
    let rooms = rooms_judged s a (lengths_of l (length ws) drafts commits) in
    let values = values_judged s a l (past_of ws a.a a.b) in
    number_of_both sizes (and_then rooms values) ∙ ap (first_of (number_in sizes)) (number_of_both rooms values)

-- a test holds where its refusal is not given
pub judge_holds : (t : Bool) (r : Refusal) → number_in (passed_if t r) ≡ 0 → t ≡ true
judge_holds true r e = refl
judge_holds false r e = absurd (omega (arith, no_zero r, e))
