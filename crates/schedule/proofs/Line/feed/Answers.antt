use Rattle.schedule.proofs.Pending.{fed_line, fed_all}
use Rattle.schedule.proofs.Line.feed.Goals as goal

pub returns-in_default : goal.returns-in_default
returns-in_default c = fed_all _ _ _ _ c.line_end.ensures c.in_default.is c.keep.ensures

pub returns : goal.returns
returns c = fed_line _ _ _ _ c.line_end.ensures _ c.in-Some.is c.keep-2.ensures
