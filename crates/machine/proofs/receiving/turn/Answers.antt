use borrow.Author.Rules.{rules}
use mathlib.Core.Path.{◌≡◌}
use lib.ListN.{length}
use Rattle.machine.proofs.Landings.{commits_not, commits_client}
use Rattle.machine.proofs.Refused.{handed_on}
use Rattle.machine.proofs.receiving.turn.Goals as goal

pub returns-in_err-ask_room : goal.returns-in_err-ask_room
returns-in_err-ask_room c =
    rw (handed_on c.from_residual.result _ c.from_residual.ensures.1, ← c.after-new.ensures, ← c.post-y.ensures) (search (commits_not, c.in_err-ask_room.ensures))

pub returns : goal.returns
returns c =
    let page_wide : length c.after-new.result.page ≡ 16 = search rules in
    rw (← c.after-new.ensures, ← c.post-y.ensures) (search (commits_client, page_wide, c.in_ok-ask_room.ensures))
