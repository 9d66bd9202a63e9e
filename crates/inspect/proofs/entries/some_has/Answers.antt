use mathlib.Core.Path.{◌∙◌}
use borrow.Author.Rules.{rules}
use borrow.Author.Tests.{tests}
use Rattle.std.proofs.lemmas.Iterator.{YieldsList-from_slice}
use Rattle.std.proofs.lemmas.Iterator.Search.{any_from_yields_List}
use Rattle.tables.specs.Tables.{has_tag}
use Rattle.tables.specs.Machines.{entry_of}
use Rattle.inspect.proofs.Chains.{some_listed}
use Rattle.inspect.proofs.entries.some_has.Goals as goal

pub returns : goal.returns
returns c =
    any_from_yields_List (λ r. has_tag c.args.t (entry_of r)) _ _ _ c.any.ensures.ran
    (YieldsList-from_slice (c.args.l.now) (cc))
    (λ x b q k. search (rules, tests))
    ∙ some_listed entry_of (has_tag c.args.t) c.args.l.now
