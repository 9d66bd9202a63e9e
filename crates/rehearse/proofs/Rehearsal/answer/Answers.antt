use Rattle.std.proofs.Common.{rules}
use Rattle.rehearse.proofs.Lines.{answered}
use Rattle.rehearse.proofs.Rehearsal.answer.Goals as goal

pub returns-clause-answered : goal.returns-clause-answered
returns-clause-answered c = λ p held. rw (← c.command-c.ensures p held) (search (rules, answered))
