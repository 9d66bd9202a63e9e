use Rattle.std.proofs.Common.{refl, arith}
use Rattle.std.proofs.lemmas.Result.{on_ok_weaker}
use Rattle.rehearse.proofs.Pieces.{between_first, between_more, between_all, wrote_all}
use Rattle.rehearse.proofs.Rehearsal.run.Goals as goal

pub loop-init : goal.loop-init
loop-init g c = (refl, c.requires.empty, between_first _ _ _ c.requires.fresh)

pub loop-preserved : goal.loop-preserved
loop-preserved g c =
    let (chunk, empty, so_far) = c.loop.invariant in
    let d = c.in_ok-drain.ensures.drained in
    (omega arith, d.empty, between_more _ _ _ _ _ so_far _ _ _ _ c.in_ok-n.ensures.bytes d)

pub returns-then-n-eq0-clause-whole : goal.returns-then-n-eq0-clause-whole
returns-then-n-eq0-clause-whole g c =
    let (chunk, empty, so_far) = c.loop.invariant in
    on_ok_weaker c.flush.result (λ w. between_all _ _ _ _ _ so_far _ c.end.ensures.ended c.end.ensures.same _ c.flush.ensures.same) c.flush.ensures.written

pub returns-then-n-eq0-clause-bytes : goal.returns-then-n-eq0-clause-bytes
returns-then-n-eq0-clause-bytes g c =
    let (chunk, empty, so_far) = c.loop.invariant in
    on_ok_weaker c.flush.result
    (λ w some.
    wrote_all _ _ _ _ _ so_far _ c.end.ensures.ended _ _ _ _ c.if-n-eq0.true c.in_ok-n.ensures.bytes (c.in_ok-n.ensures.end c.if-n-eq0.true (omega arith)) w.0)
    c.flush.ensures.written
