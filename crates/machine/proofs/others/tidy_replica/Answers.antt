use mathlib.Core.Path.{◌≡◌}
use mathlib.Core.List.{List, ◌++◌}
use Prim.Native.Nat.{ℕ, suc, ◌+◌, ◌*◌, ◌-◌, ◌<◌}
use lib.ListN.{length, take, drop}
use Rattle.tables.specs.declared.Layout.{Layout}
use Rattle.tables.specs.Layouts.{extent, entries_at}
use Rattle.tables.specs.Words.{words}
use Rattle.tables.specs.Machines.{entries_of, machine_of}
use Rattle.tables.specs.Inner.{Fits, with_entries}
use Rattle.rules.specs.Replica.{tidied}
use Rattle.rules.proofs.Every.{stock_tidied}
use Rattle.machine.specs.Inner.{with_tidied}
use Rattle.machine.proofs.Stored.{entries_back, stock_in}
use Rattle.machine.proofs.others.tidy_replica.Goals as goal

back : (lay : Layout) (m ys : List ℕ) (i at : ℕ) → Fits lay m → i < 7 → at ≡ entries_at lay + i * 240
    → ys ≡ with_entries (take (length m - at) (drop at m)) (tidied (entries_of (take (length m - at) (drop at m))))
    → take at m ++ (ys ++ drop (length m - at) (drop at m)) ≡ words (with_tidied (machine_of lay m) (suc i)) (drop (extent lay) m)
back lay m ys i at h b p e = entries_back lay m i b at p tidied ys h (stock_tidied (stock_in lay m i h)) e

pub returns : goal.returns
returns c = search back
