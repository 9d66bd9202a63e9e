use borrow.Author.Rules.{rules}
use Rattle.machine.proofs.Parties.{party_place}
use Rattle.machine.proofs.Steps.{call_refused, call_taken}
use Rattle.machine.proofs.Crashed.{crash_down, crash_done, crash_out, crash_unnamed}
use Rattle.machine.proofs.Refused.{handed_on}
use Rattle.machine.proofs.others.crash.Goals as goal

pub returns-in_err-ask : goal.returns-in_err-ask
returns-in_err-ask c =
    rw (handed_on c.from_residual.result _ c.from_residual.ensures.1) (search (call_refused, c.in_err-ask.ensures))

pub returns-in_err-i : goal.returns-in_err-i
returns-in_err-i c =
    rw (handed_on c.from_residual-in_err-i.result _ c.from_residual-in_err-i.ensures.1) (search (call_taken, crash_out, c.in_ok-ask.ensures.0, c.in_err-i.ensures))

pub down-requires : goal.down-requires
down-requires c = let g = c.in_ok-ask.ensures.0 in (search rules, search (party_place, c.in_ok-i.ensures))

pub returns-then-down-eq1 : goal.returns-then-down-eq1
returns-then-down-eq1 c = search (call_taken, crash_down, c.in_ok-ask.ensures.0, c.in_ok-i.ensures)

pub set_down-requires : goal.set_down-requires
set_down-requires c = let g = c.in_ok-ask.ensures.0 in (search rules, search (party_place, c.in_ok-i.ensures))

pub returns : goal.returns
returns c = search (call_taken, crash_done, c.in_ok-ask.ensures.0, c.in_ok-i.ensures)

pub returns-in_default : goal.returns-in_default
returns-in_default c = search (call_taken, crash_unnamed, c.in_ok-ask.ensures.0)
