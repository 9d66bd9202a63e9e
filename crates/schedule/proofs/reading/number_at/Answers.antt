use Rattle.std.proofs.Common.{rules, arith, sym, ◌∙◌}
use Rattle.schedule.proofs.Scan.{at_end, zero_digit, below, above, first_digit, all_read, ends_below, ends_above, too_large, next_digit}
use Rattle.schedule.proofs.reading.number_at.Goals as goal

pub returns-in_err-b : goal.returns-in_err-b
returns-in_err-b c = rw c.from_residual.ensures (at_end _ _ c.in_err-b.ensures.lookup.3)

pub returns-in-48 : goal.returns-in-48
returns-in-48 c = let byte = c.in_ok-b.ensures.lookup.3 in zero_digit _ _ byte.0 (sym (byte.1 0) ∙ c.in-48.is)

pub returns-in_default : goal.returns-in_default
returns-in_default c = let byte = c.in_ok-b.ensures.lookup.3 in below _ _ byte.0 (omega (arith, byte.1 0))

pub returns-in_default-2 : goal.returns-in_default-2
returns-in_default-2 c = let byte = c.in_ok-b.ensures.lookup.3 in above _ _ byte.0 (omega (arith, byte.1 0))

pub loop-i-init : goal.loop-i-init
loop-i-init c =
    let byte = c.in_ok-b.ensures.lookup.3 in
    rw (c.from-n.ensures, byte.1 0) (first_digit _ _ byte.0 (omega (arith, byte.1 0)) (omega (arith, byte.1 0)))

pub returns-in_err-checked_mul-in-48-to-57 : goal.returns-in_err-checked_mul-in-48-to-57
returns-in_err-checked_mul-in-48-to-57 c = search (rules, too_large)

pub returns-in_err-n-in-48-to-57 : goal.returns-in_err-n-in-48-to-57
returns-in_err-n-in-48-to-57 c = search (rules, too_large)

pub returns-in_default-l : goal.returns-in_default-l
returns-in_default-l c = search (rules, ends_below)

pub returns-in_default-l-2 : goal.returns-in_default-l-2
returns-in_default-l-2 c = search (rules, ends_above)

pub loop-i-preserved : goal.loop-i-preserved
loop-i-preserved c = search (rules, next_digit)

pub returns : goal.returns
returns c = search (rules, all_read)
