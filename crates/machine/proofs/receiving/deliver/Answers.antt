use Rattle.machine.proofs.Steps.{call_refused, call_taken, right_page}
use Rattle.machine.proofs.Receivers.{bad_slot, by_nobody, by_client, by_other, by_kind}
use Rattle.machine.proofs.Refused.{handed_on}
use Rattle.machine.proofs.receiving.deliver.Goals as goal

pub returns-in_err-ask : goal.returns-in_err-ask
returns-in_err-ask c =
    rw (handed_on c.from_residual.result _ c.from_residual.ensures.1) (search (call_refused, c.in_err-ask.ensures))

pub returns-in_err-s : goal.returns-in_err-s
returns-in_err-s c =
    rw (handed_on c.from_residual-in_err-s.result _ c.from_residual-in_err-s.ensures.1) (search (call_taken, right_page, bad_slot, c.in_ok-ask.ensures, c.in_err-s.ensures))

pub to_directory-requires : goal.to_directory-requires
to_directory-requires c = search (by_kind, c.in_ok-ask.ensures.0, c.in_ok-s.ensures)

pub to_replica-requires : goal.to_replica-requires
to_replica-requires c = search (by_kind, c.in_ok-ask.ensures.0, c.in_ok-s.ensures)

pub to_client-requires-clause-arrived : goal.to_client-requires-clause-arrived
to_client-requires-clause-arrived c = search (by_kind, c.in_ok-ask.ensures.0, c.in_ok-s.ensures)

pub returns-in_default : goal.returns-in_default
returns-in_default c = search (call_taken, right_page, by_nobody, c.in_ok-ask.ensures, c.in_ok-s.ensures)

pub returns-in-AClient : goal.returns-in-AClient
returns-in-AClient c = search (call_taken, right_page, by_client, c.in_ok-ask.ensures, c.in_ok-s.ensures)

pub returns-in-ADirectory : goal.returns-in-ADirectory
returns-in-ADirectory c = search (call_taken, right_page, by_other, c.in_ok-ask.ensures, c.in_ok-s.ensures)

pub returns-in-AReplica : goal.returns-in-AReplica
returns-in-AReplica c = search (call_taken, right_page, by_other, c.in_ok-ask.ensures, c.in_ok-s.ensures)
