use mathlib.Core.Path.{ap, ◌∙◌}
use native.Mathlib.Omega.{arith}
use borrow.Author.Rules.{rules}
use borrow.Author.Tests.{tests}
use Rattle.std.proofs.lemmas.Iterator.{YieldsList-from_slice}
use Rattle.std.proofs.lemmas.Iterator.Search.{any_from_yields_List}
use lib.ListN.{get_or}
use lib.Dec.{eqb}
use Rattle.tables.specs.Rows.{some?}
use Rattle.tables.specs.Tables.{is_secured}
use Rattle.tables.specs.Machines.{entry_of}
use Rattle.inspect.proofs.Chains.{its_entries, some_listed}
use Rattle.inspect.proofs.entries.some_secured.Goals as goal

pub returns : goal.returns
unfolding entry_of
returns c =
    any_from_yields_List (λ r. eqb (get_or r 0 0) 2) _ _ _ c.any.ensures.ran
    (YieldsList-from_slice (c.as_chunks.result.0.now) (cc))
    (λ x b q k. search (rules, tests))
    ∙ some_listed entry_of is_secured c.as_chunks.result.0.now
    ∙ ap (some? is_secured) (its_entries c.args.l.now c.as_chunks.result.0.now c.as_chunks.ensures.front (omega arith))
