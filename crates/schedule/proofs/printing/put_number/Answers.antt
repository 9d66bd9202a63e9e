use Rattle.std.proofs.Common.{rules}
use Rattle.schedule.specs.Text.{decimal}
use Rattle.schedule.proofs.printing.put_number.Goals as goal

pub returns : goal.returns
unfolding decimal
returns c = search rules
