use Rattle.std.proofs.Common.{rules}
use Rattle.std.proofs.lemmas.Result.{err_from_is_err_and}
use Rattle.std.proofs.lemmas.List.{take_rest, nil_from_length}
use Rattle.rehearse.proofs.Turns.{no_pass, one_pass, drained, stopped}
use Rattle.rehearse.proofs.Rehearsal.drain.Goals as goal

pub loop-rest-init : goal.loop-rest-init
loop-rest-init g c = no_pass _ _ _ c.requires

pub returns-in_err-at-clause-stopped : goal.returns-in_err-at-clause-stopped
returns-in_err-at-clause-stopped g c =
    let failed = err_from_is_err_and c.from_residual.result c.from_residual.ensures.1 in
    rw failed.1 (stopped _ _ _ _ _ _ c.loop-rest.invariant _ c.in_err-at.ensures.unwritten)

pub loop-rest-preserved : goal.loop-rest-preserved
loop-rest-preserved g c =
    one_pass _ _ _ _ _ _ c.loop-rest.invariant _ _ _ c.in_ok-at.ensures.passed _ (take_rest c.loop-rest.rest.now c.in_ok-at.at)

pub returns-clause-drained : goal.returns-clause-drained
returns-clause-drained g c = drained _ _ _ _ _ _ c.loop-rest.invariant (nil_from_length c.loop-rest.rest.now (search rules))
