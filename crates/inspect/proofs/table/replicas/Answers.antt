use mathlib.Core.Path.{◌≡◌, ◌∙◌}
use Prim.Native.Nat.{suc}
use native.Mathlib.Omega.{arith}
use borrow.Author.Rules.{rules}
use borrow.Author.Tests.{tests}
use Rattle.std.specs.Simd.{first_chunks}
use Rattle.std.proofs.lemmas.Iterator.{YieldsList-from_slice, YieldsList-from_zip}
use Rattle.std.proofs.lemmas.Iterator.Search.{all_from_yields_List}
use Rattle.std.proofs.lemmas.Iterator.Consumers.{YieldsList-from_enumerate, YieldsList-at}
use Rattle.tables.specs.Machines.{entries_of}
use Rattle.inspect.specs.Good.{replica_row}
use Rattle.inspect.specs.Inner.{replica_in}
use Rattle.inspect.proofs.Chains.{replicas_listed}
use Rattle.inspect.proofs.table.replicas.Goals as goal

pub returns : goal.returns
unfolding replica_row replica_in
returns c =
    let rows : c.as_chunks.result.0.now ≡ first_chunks 240 7 c.args.l.now = rw (c.as_chunks.ensures.front, c.requires.1) in
    all_from_yields_List (λ p. replica_row c.args.k (suc p.0) (record { down = p.1.0; entries = entries_of p.1.1 })) c.all.new.self _ _ c.all.ensures.ran
    (YieldsList-from_enumerate (YieldsList-at c.enumerate.ensures.source
    (YieldsList-from_zip
    (YieldsList-at c.zip.ensures.first (YieldsList-from_slice c.args.flags.now (cc)))
    (YieldsList-from_slice c.as_chunks.result.0.now (cc))))
    c.enumerate.ensures.count)
    (λ x b q k. search (rules, tests))
    ∙ rw rows (replicas_listed (replica_row c.args.k) 0 7 c.args.flags.now c.args.l.now (omega arith))
