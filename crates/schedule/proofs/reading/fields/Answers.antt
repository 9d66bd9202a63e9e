use Rattle.std.proofs.Common.{rules, arith, refl}
use Rattle.schedule.proofs.Scan.{overlong, empty_line, sofar_none, no_space, no_number, ninth, another, chosen}
use Rattle.schedule.proofs.reading.fields.Goals as goal

pub returns-then-line-gt80 : goal.returns-then-line-gt80
returns-then-line-gt80 c = search overlong

pub returns-in_err-letter : goal.returns-in_err-letter
returns-in_err-letter c = rw c.from_residual.ensures (empty_line _ (omega (arith, c.in_err-letter.ensures.item.3)))

pub loop-at-init : goal.loop-at-init
loop-at-init c = sofar_none _ _ (omega arith) c.in_ok-letter.ensures.item.3.0 refl

pub returns-then-line-at-ne32 : goal.returns-then-line-at-ne32
returns-then-line-at-ne32 c = search no_space

pub returns-in_err-x : goal.returns-in_err-x
returns-in_err-x c = rw c.from_residual-in_err-x.ensures (search (rules, no_number))

pub returns-then-n-ge8 : goal.returns-then-n-ge8
returns-then-n-ge8 c = search (rules, ninth)

pub loop-at-preserved : goal.loop-at-preserved
loop-at-preserved c = another _ _ _ _ c.loop-at.invariant c.loop-at-test.true c.if-line-at-ne32.false _ _ c.in_ok-x.ensures c.if-n-ge8.false

pub returns : goal.returns
returns c = chosen _ _ _ _ c.loop-at.invariant _ _ c.loop-at-test.false (c.in_ok-letter.ensures.item.3.1 0) c.choose.ensures
