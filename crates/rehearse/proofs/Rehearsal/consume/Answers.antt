use Rattle.std.proofs.Common.{None}
use Rattle.std.proofs.lemmas.List.{take_rest}
use Rattle.rehearse.proofs.Turns.{consumed}
use Rattle.rehearse.proofs.Rehearsal.consume.Goals as goal

pub returns : goal.returns
returns c = consumed _ _ _ _ c.loop-next.invariant _ None (rw (take_rest c.args.chunk.now c.loop-next.at) at c.in_default.ensures)
