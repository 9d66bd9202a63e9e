use mathlib.Core.Path.{◌≡◌}
use borrow.Author.Rules.{rules}
use lib.ListN.{length}
use Rattle.machine.proofs.Parties.{few_sets}
use Rattle.machine.proofs.Started.{launch_few, launched, launch_full}
use Rattle.machine.proofs.Refused.{handed_on}
use Rattle.machine.proofs.starting.launch.Goals as goal

pub request_of-p-requires : goal.request_of-p-requires
request_of-p-requires c = search few_sets

pub returns-in_err-ask_room : goal.returns-in_err-ask_room
returns-in_err-ask_room c =
    rw (handed_on c.from_residual.result _ c.from_residual.ensures.1) (launch_full _ _ _ _ _ c.requires _ c.request_of-p.ensures _ c.in_err-ask_room.ensures)

pub send-requires : goal.send-requires
send-requires c = (search rules, search launch_few)

pub returns : goal.returns
returns c =
    let page_wide : length c.args.y.page ≡ 16 = search rules in
    search (launched, page_wide, c.in_ok-ask_room.ensures)
