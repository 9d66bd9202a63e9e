use Rattle.machine.proofs.Steps.{call_refused}
use Rattle.machine.proofs.Started.{reads}
use Rattle.machine.proofs.Refused.{handed_on}
use Rattle.machine.proofs.starting.read.Goals as goal

pub returns-in_err-ask : goal.returns-in_err-ask
returns-in_err-ask c =
    rw (handed_on c.from_residual.result _ c.from_residual.ensures.1) (search (call_refused, c.in_err-ask.ensures))

pub returns : goal.returns
returns c = search (reads, c.in_ok-ask.ensures.0)
