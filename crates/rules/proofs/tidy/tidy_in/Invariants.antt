use Rattle.rules.proofs.Tidying.{Tidying}
use Rattle.rules.proofs.tidy.tidy_in.Given as goal

abbrev pub invariant-loop-j : goal.invariant-loop-j
invariant-loop-j l = Tidying l.initial.l l.high l.j l.l
