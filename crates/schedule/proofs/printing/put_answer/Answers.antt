use Rattle.schedule.proofs.Digits.{answered}
use Rattle.schedule.proofs.printing.put_answer.Goals as goal

pub returns : goal.returns
returns c = search answered
