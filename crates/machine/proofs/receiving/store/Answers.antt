use borrow.Author.Rules.{rules}
use mathlib.Core.List.{List, ◌++◌}
use mathlib.Core.Path.{◌≡◌}
use Prim.Native.Nat.{ℕ, suc, ◌+◌, ◌*◌, ◌-◌, ◌<◌}
use lib.ListN.{length, take, drop}
use Rattle.tables.specs.declared.Layout.{Layout}
use Rattle.tables.specs.declared.Entry.{Entry}
use Rattle.tables.specs.declared.Message.{Message}
use Rattle.tables.specs.Layouts.{extent, entries_at}
use Rattle.tables.specs.Tables.{replica_at, with_replica}
use Rattle.tables.specs.Words.{words}
use Rattle.tables.specs.Machines.{entries_of, machine_of}
use Rattle.tables.specs.Inner.{Fits, with_entries}
use Rattle.rules.specs.Replica.{replica_after}
use Rattle.rules.proofs.Every.{stock_after}
use Rattle.machine.specs.Inner.{stocked}
use Rattle.machine.proofs.Stored.{entries_back, stock_in}
use Rattle.machine.proofs.receiving.store.Goals as goal

stored : (lay : Layout) (m ys : List ℕ) (i at : ℕ) (x : Message) → Fits lay m → i < 7 → length x.page ≡ 16 → at ≡ entries_at lay + i * 240
    → ys ≡ with_entries (take (length m - at) (drop at m)) (replica_after (entries_of (take (length m - at) (drop at m))) x)
    → take at m ++ (ys ++ drop (length m - at) (drop at m))
    ≡ words (with_replica (machine_of lay m) (suc i) (stocked (machine_of lay m) (suc i) (replica_after (replica_at (machine_of lay m) (suc i)).entries x))) (drop (extent lay) m)
stored lay m ys i at x l b p q e = entries_back lay m i b at q (λ (es : List Entry). replica_after es x) ys l (stock_after x p (stock_in lay m i l)) e

pub returns : goal.returns
returns c =
    let page_wide : length c.args.x.page ≡ 16 = search rules in
    search (stored, page_wide)
