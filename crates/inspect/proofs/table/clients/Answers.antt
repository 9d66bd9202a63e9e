use mathlib.Core.Path.{ap, ◌∙◌}
use Prim.Native.Nat.{suc}
use native.Mathlib.Omega.{arith}
use borrow.Author.Rules.{rules}
use borrow.Author.Tests.{tests}
use Rattle.std.proofs.lemmas.Iterator.{YieldsList-from_slice}
use Rattle.std.proofs.lemmas.Iterator.Search.{all_from_yields_List}
use Rattle.std.proofs.lemmas.Iterator.Consumers.{YieldsList-from_enumerate, YieldsList-at}
use Rattle.tables.specs.Machines.{client_of, clients_of}
use Rattle.tables.proofs.Read.{client_cut}
use Rattle.inspect.specs.Good.{each_row, client_row}
use Rattle.inspect.proofs.Chains.{its_rows, each_listed}
use Rattle.inspect.proofs.table.clients.Goals as goal

pub returns : goal.returns
unfolding clients_of client_row
returns c =
    all_from_yields_List (λ p. client_row c.args.k (suc p.0) (client_of p.1)) _ _ _ c.all.ensures.ran
    (YieldsList-from_enumerate (YieldsList-at c.enumerate.ensures.source (YieldsList-from_slice (c.as_chunks.result.0.now) (cc))) c.enumerate.ensures.count)
    (λ x b q k. search (rules, tests))
    ∙ each_listed client_of (client_row c.args.k) 0 c.as_chunks.result.0.now
    ∙ ap (each_row (client_row c.args.k) 1) (its_rows client_of 24 client_cut 8 c.args.l.now c.as_chunks.result.0.now c.as_chunks.ensures.front (omega arith) (omega arith))
