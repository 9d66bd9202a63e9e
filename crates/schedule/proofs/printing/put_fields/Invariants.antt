use Rattle.std.proofs.Common.{◌*◌, take}
use Rattle.schedule.specs.Text.{fields_text}
use Rattle.schedule.specs.Inner.{Printed}
use Rattle.schedule.proofs.printing.put_fields.Given as goal

abbrev pub invariant-loop-n : goal.invariant-loop-n
invariant-loop-n l = Printed (l.n-index * 21) l.initial.out l.at (fields_text (take l.n-index l.v)) l.out l.k
