use native.Mathlib.Omega.{arith}
use Rattle.machine.proofs.Downs.{some_empty, few_down, reports}
use Rattle.machine.proofs.counting.counts.Goals as goal

pub overflow_sub-result : goal.overflow_sub-result
overflow_sub-result c = search some_empty

pub overflow_add-result : goal.overflow_add-result
overflow_add-result c = omega (arith, few_down)

pub overflow_add-result-2 : goal.overflow_add-result-2
overflow_add-result-2 c = omega (arith, few_down)

pub returns : goal.returns
returns c = search reports
