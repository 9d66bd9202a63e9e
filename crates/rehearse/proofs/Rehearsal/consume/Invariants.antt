use Rattle.std.proofs.Common.{length, ◌-◌}
use Rattle.rehearse.proofs.Turns.{Consuming}
use Rattle.rehearse.proofs.Rehearsal.consume.Given as goal

abbrev pub invariant-loop-next : goal.invariant-loop-next
invariant-loop-next l = Consuming l.chunk l.initial.self l.self l.at

abbrev pub decreases-loop-next : goal.decreases-loop-next
decreases-loop-next l = length l.chunk - l.at
