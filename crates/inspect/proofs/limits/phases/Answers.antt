use native.Mathlib.Nat.{sub-zero}
use Rattle.inspect.specs.Inner.{phase_limits, limits_words, limits_table}
use Rattle.inspect.proofs.limits.phases.Goals as goal

pub returns : goal.returns
unfolding phase_limits limits_words limits_table
returns c = rw (c.sets_of-d.ensures, c.sets_of-s.ensures, sub-zero c.args.k.top)
