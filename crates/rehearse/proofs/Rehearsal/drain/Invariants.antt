use Rattle.std.proofs.Common.{length}
use Rattle.rehearse.proofs.Turns.{Draining}
use Rattle.rehearse.proofs.Rehearsal.drain.Given as goal

abbrev pub invariant-loop-rest : goal.invariant-loop-rest
invariant-loop-rest g l = Draining l.chunk l.initial.self (g.W.Write.contents l.initial.writer) l.self (g.W.Write.contents l.writer) l.rest

abbrev pub decreases-loop-rest : goal.decreases-loop-rest
decreases-loop-rest g l = length l.rest
