use Rattle.std.proofs.Common.{◌-◌, length}
use Rattle.schedule.proofs.Scan.{Sofar}
use Rattle.schedule.proofs.reading.fields.Given as goal

abbrev pub invariant-loop-at : goal.invariant-loop-at
invariant-loop-at l = Sofar l.line l.v l.n l.at

abbrev pub decreases-loop-at : goal.decreases-loop-at
decreases-loop-at l = length l.line - l.at
