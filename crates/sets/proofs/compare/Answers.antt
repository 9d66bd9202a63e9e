use Rattle.std.proofs.Common.{arith}
use Rattle.std.proofs.lemmas.Bool.Decides.{nat_tests}
use Rattle.sets.specs.Tags.{against}
use Rattle.sets.proofs.compare.Goals as goal

pub returns : goal.returns
unfolding against
returns c = grind (arith, nat_tests)
