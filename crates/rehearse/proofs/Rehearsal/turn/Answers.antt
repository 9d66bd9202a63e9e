use Rattle.rehearse.proofs.Turns.{rest_of, met}
use Rattle.rehearse.proofs.Rehearsal.turn.Goals as goal

pub returns-in_err-next : goal.returns-in_err-next
returns-in_err-next c = rw c.from_residual.ensures (rest_of _ _ _ c.in_err-next.ensures c.requires)

pub returns : goal.returns
returns c = met _ _ _ _ _ c.in_ok-next.ensures c.answer.ensures.room c.answer.ensures.answered
