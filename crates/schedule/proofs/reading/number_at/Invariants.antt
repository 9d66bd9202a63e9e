use Rattle.schedule.proofs.Scan.{Inside}
use Rattle.schedule.proofs.reading.number_at.Given as goal

abbrev pub invariant-loop-i : goal.invariant-loop-i
invariant-loop-i l = Inside l.l l.at l.i l.n
