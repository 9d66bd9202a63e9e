use Rattle.mail.proofs.Sending.{Sending}
use Rattle.mail.proofs.slots.send.Given as goal

abbrev pub invariant-loop-p : goal.invariant-loop-p
invariant-loop-p l = Sending l.initial.l l.y l.p-end l.l l.p
