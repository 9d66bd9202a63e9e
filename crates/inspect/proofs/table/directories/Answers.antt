use mathlib.Core.Path.{ap, ◌∙◌}
use Prim.Native.Nat.{suc}
use native.Mathlib.Omega.{arith}
use borrow.Author.Rules.{rules}
use borrow.Author.Tests.{tests}
use Rattle.std.proofs.lemmas.Iterator.{YieldsList-from_slice}
use Rattle.std.proofs.lemmas.Iterator.Search.{all_from_yields_List}
use Rattle.std.proofs.lemmas.Iterator.Consumers.{YieldsList-from_enumerate, YieldsList-at}
use Rattle.tables.specs.Machines.{directory_of, directories_of}
use Rattle.tables.proofs.Read.{directory_cut}
use Rattle.inspect.specs.Good.{each_row, directory_row}
use Rattle.inspect.proofs.Chains.{its_rows, each_listed}
use Rattle.inspect.proofs.table.directories.Goals as goal

pub returns : goal.returns
unfolding directories_of directory_row
returns c = λ n many.
    all_from_yields_List (λ p. directory_row c.args.k (suc p.0) (directory_of p.1)) _ _ _ c.all.ensures.ran
    (YieldsList-from_enumerate (YieldsList-at c.enumerate.ensures.source (YieldsList-from_slice (c.as_chunks.result.0.now) (cc))) c.enumerate.ensures.count)
    (λ x b q k. search (rules, tests))
    ∙ each_listed directory_of (directory_row c.args.k) 0 c.as_chunks.result.0.now
    ∙ ap (each_row (directory_row c.args.k) 1) (its_rows directory_of 4 directory_cut n c.args.l.now c.as_chunks.result.0.now c.as_chunks.ensures.front (omega arith) many)
