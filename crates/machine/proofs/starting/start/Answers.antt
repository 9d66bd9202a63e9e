use borrow.Author.Rules.{rules}
use Rattle.machine.proofs.Refused.{handed_on, numbered}
use Rattle.machine.proofs.Parties.{client_place}
use Rattle.machine.proofs.Started.{start_stopped, start_able, launchable, start_launched, start_out}
use Rattle.machine.proofs.starting.start.Goals as goal

pub returns-in_err-i : goal.returns-in_err-i
returns-in_err-i c =
    rw (handed_on c.from_residual.result _ c.from_residual.ensures.1) (search (start_out, c.in_err-i.ensures))

pub client-w-requires : goal.client-w-requires
client-w-requires c = (search rules, search (client_place, c.in_ok-i.ensures))

pub returns-in_err-ask_start : goal.returns-in_err-ask_start
returns-in_err-ask_start c =
    rw (handed_on c.from_residual-in_err-ask_start.result _ c.from_residual-in_err-ask_start.ensures.1) (search (start_stopped, numbered, c.in_ok-i.ensures, c.in_err-ask_start.ensures))

pub start-y-requires : goal.start-y-requires
start-y-requires c = search (start_able, c.in_ok-ask_start.ensures)

pub launch-requires : goal.launch-requires
launch-requires c = search (launchable, c.in_ok-i.ensures)

pub returns : goal.returns
returns c = search (start_launched, c.in_ok-i.ensures, c.in_ok-ask_start.ensures)
