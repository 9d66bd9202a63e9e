use Rattle.rehearse.proofs.Turns.{no_more, one_more}
use Rattle.rehearse.proofs.Rehearsal.end.Goals as goal

pub returns-then-is_unfinished : goal.returns-then-is_unfinished
returns-then-is_unfinished c = one_more _ _ c.is_unfinished.ensures c.requires _ _ c.if-is_unfinished.true c.saturating_add.ensures c.put_malformed.ensures

pub returns-else-is_unfinished : goal.returns-else-is_unfinished
returns-else-is_unfinished c = no_more _ _ c.is_unfinished.ensures c.requires c.if-is_unfinished.false
