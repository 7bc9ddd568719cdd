-- `day_lists::read_list` meets its contract: where all fields pass, their number is told against the room. Assumes nothing.
use mathlib.Core.Path.{◌≡◌, ap, ◌∙◌}
use mathlib.Core.List.{List}
use Prim.Native.Nat.{ℕ}
use lib.ListN.{drop}
use Rattle.text.specs.Fields.{fields}
use Rattle.day_lists.specs.Lists.{list_in, listed_by}
use Rattle.day_lists.proofs.Ways.{ends_behind, listed_over, listed_done}
use Rattle.day_lists.proofs.read_list.Goals as goal

pub overflow_sub-count : goal.overflow_sub-count
overflow_sub-count g c =
    let t = g.T.ListNumber in
    ends_behind t.judged t.read_of c.args.from (fields c.rest_from-list.result.now) c.args.out.now c.judge_list.result c.judge_list.ensures c.in-Ok.end c.in-Ok.is

pub returns-then-room-count : goal.returns-then-room-count
returns-then-room-count g c =
    let t = g.T.ListNumber in
    let a = c.args in
    let fs = fields c.rest_from-list.result.now in
    let same : fs ≡ list_in a.line.now a.from = c.rest_from-list.ensures.0 ∙ ap (λ (s : List ℕ). drop a.from (fields s)) c.uncommented-told.ensures in
    listed_over t.judged t.read_of a.from fs a.out.now c.judge_list.result c.judge_list.ensures c.in-Ok.end c.in-Ok.is c.if-room-count.true
    ∙ ap (λ (l : List (List ℕ)). listed_by t.judged t.read_of a.from l a.out.now) same

pub returns : goal.returns
returns g c =
    let t = g.T.ListNumber in
    let a = c.args in
    let fs = fields c.rest_from-list.result.now in
    let same : fs ≡ list_in a.line.now a.from = c.rest_from-list.ensures.0 ∙ ap (λ (s : List ℕ). drop a.from (fields s)) c.uncommented-told.ensures in
    listed_done t.judged t.read_of a.from fs a.out.now c.judge_list.result c.judge_list.ensures c.in-Ok.end c.in-Ok.is _ c.if-room-count.false c.fill_list.ensures
    ∙ ap (λ (l : List (List ℕ)). listed_by t.judged t.read_of a.from l a.out.now) same
