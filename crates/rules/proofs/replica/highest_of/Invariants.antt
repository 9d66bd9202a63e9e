use mathlib.Core.Path.{◌≡◌}
use lib.ListN.{drop}
use Rattle.tables.specs.Machines.{entries_of}
use Rattle.rules.specs.Replica.{highest}
use Rattle.rules.proofs.replica.highest_of.Given as goal

abbrev pub invariant-loop-j : goal.invariant-loop-j
invariant-loop-j l = l.t ≡ highest (drop l.j (entries_of l.l))
