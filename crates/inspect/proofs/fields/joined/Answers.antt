use mathlib.Core.Path.{◌≡◌}
use Rattle.std.specs.Prelude.{fold}
use lib.Bits.{bit_or}
use borrow.Author.Rules.{rules}
use Rattle.inspect.proofs.Chains.{joined_zeros}
use Rattle.inspect.proofs.fields.joined.Goals as goal

pub returns : goal.returns
returns c =
    let folded : c.fold.result ≡ fold (λ m n. bit_or m n) 0 c.args.s.now = search rules in
    rw folded (joined_zeros 0 c.args.s.now)
