use lib.ListN.{drop}
use Rattle.tables.specs.Layouts.{extent}
use Rattle.tables.specs.Machines.{machine_of}
use Rattle.tables.proofs.Holds.{Holds}
use Rattle.machine.specs.Inner.{with_directories}
use Rattle.machine.proofs.setting.directories.Given as goal

abbrev pub invariant-loop-i : goal.invariant-loop-i
invariant-loop-i l = Holds l.lay l.m (with_directories (machine_of l.lay l.initial.m) l.i l.x) (drop (extent l.lay) l.initial.m)
