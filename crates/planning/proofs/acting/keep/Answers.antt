-- `acting::keep` meets its contract: nothing is refused any more. Assumes nothing.
use Rattle.planning.proofs.Writing.{has_room, kept_plain, kept_put}
use Rattle.planning.proofs.acting.keep.Goals as goal

pub place-found-requires : goal.place-found-requires
place-found-requires c =
    let a = c.args in
    has_room a.storage.now a.step.second c.requires.0

pub act_plain-requires : goal.act_plain-requires
act_plain-requires c =
    let a = c.args in
    (c.place-found.ensures, has_room a.storage.now a.step.second c.requires.0)

pub act_decided-requires : goal.act_decided-requires
act_decided-requires c =
    let a = c.args in
    (c.place-found.ensures, has_room a.storage.now a.step.second c.requires.0)

pub returns-in-Nothing : goal.returns-in-Nothing
returns-in-Nothing c =
    let a = c.args in
    kept_plain a.storage.now a.step a.change _ c.requires.0 c.in-Nothing.is c.act_plain.ensures

pub returns-in-Put : goal.returns-in-Put
returns-in-Put c =
    let a = c.args in
    kept_put a.storage.now a.step a.change _ c.requires.0 _ _ _ _ _ c.in-Put.is c.requires.1 c.act_decided.ensures
