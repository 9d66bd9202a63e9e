use Rattle.std.proofs.Common.{arith}
use Rattle.schedule.proofs.Pending.{is_overlong}
use Rattle.schedule.proofs.Line.command.Goals as goal

pub returns-in-None : goal.returns-in-None
returns-in-None c = λ p held. is_overlong p _ held (omega (arith, c.in-None.ensures.lookup.0))
