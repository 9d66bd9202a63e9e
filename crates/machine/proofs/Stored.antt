-- The entries of one replica in a buffer: read from the part that begins with them, and written back.
use mathlib.Core.Path.{◌≡◌, refl, sym, ap, ◌∙◌}
use mathlib.Core.List.{List, ◌++◌}
use Prim.Native.Nat.{ℕ, suc, ◌+◌, ◌*◌, ◌-◌, ◌<◌}
use native.Mathlib.Omega.{arith}
use lib.ListN.{length, take, drop}
use Rattle.tables.specs.declared.Layout.{Layout}
use Rattle.tables.specs.declared.Entry.{Entry}
use Rattle.tables.specs.Layouts.{extent, entries_at}
use Rattle.tables.specs.Rows.{rows_words}
use Rattle.tables.specs.Inner.{Fits, put, with_entries}
use Rattle.tables.specs.Tables.{Replica, Machine, no_replica, replica_at, with_replica}
use Rattle.tables.specs.Words.{down_words, entry_words, replica_words, blocks, words}
use Rattle.tables.specs.Machines.{entries_of, machine_of}
use Rattle.tables.proofs.All.{all_map}
use Rattle.tables.proofs.Table.{rows_same}
use Rattle.tables.proofs.Blocks.{block_set}
use Rattle.tables.proofs.Parts.{rest_all, put_rest}
use Rattle.tables.proofs.Read.{replica_at_lem, its_room}
use Rattle.tables.proofs.Round.{replica_wide, at_replicas, words_back}
use Rattle.tables.proofs.Whole.{Stocked, Whole, Room, whole_of, replica_stocked}
use Rattle.rules.proofs.Stock.{Stock}
use Rattle.machine.specs.Inner.{stocked}

-- whether the replica is down does not matter to its entries
pub as_replica : {es : List Entry} (d : ℕ) → Stock es → Stocked (record { down = d; entries = es })
as_replica d s = record { many = s.many; pages = s.pages }

module _ (lay : Layout) (M : Machine) (t : List ℕ) (z : Whole M) (room : Room lay M) where
  put_entries : (i : ℕ) (es : List Entry) → i < 7 → Stock es
      → put (words M t) (entries_at lay + i * 240) (rows_words entry_words es) ≡ words (with_replica M (suc i) (stocked M (suc i) es)) t
  unfolding words blocks down_words replica_words
  put_entries i es h s =
      let r : Replica = stocked M (suc i) es in
      rw (rows_same down_words M.replicas i r no_replica refl)
      (block_set replica_words 240 (blocks M t) 6 (entries_at lay) (omega arith) (at_replicas lay M t z room) (all_map replica_wide z.stocks) refl i r (rw z.replicas h) (replica_wide r (as_replica _ s)))

-- ---- the part that begins with the entries of replica i, at the place `at`
module _ (lay : Layout) (m : List ℕ) (i : ℕ) (b : i < 7) (at : ℕ) (place : at ≡ entries_at lay + i * 240) where
  pub entries_in : entries_of (take (length m - at) (drop at m)) ≡ (replica_at (machine_of lay m) (suc i)).entries
  entries_in = rw (rest_all m at, place) (sym (ap (λ (r : Replica). r.entries) (replica_at_lem lay m i b)))

  -- other entries written by a callee
  pub entries_back : (f : List Entry → List Entry) (ys : List ℕ) → Fits lay m → Stock (f (replica_at (machine_of lay m) (suc i)).entries)
      → ys ≡ with_entries (take (length m - at) (drop at m)) (f (entries_of (take (length m - at) (drop at m))))
      → take at m ++ (ys ++ drop (length m - at) (drop at m))
      ≡ words (with_replica (machine_of lay m) (suc i) (stocked (machine_of lay m) (suc i) (f (replica_at (machine_of lay m) (suc i)).entries))) (drop (extent lay) m)
  entries_back f ys l s e =
      let es : List Entry = (replica_at (machine_of lay m) (suc i)).entries in
      put_rest m at (rows_words entry_words (f es)) ys (rw entries_in at e)
      ∙ ap (λ (q : List ℕ). put q at (rows_words entry_words (f es))) (sym (words_back lay m l.long))
      ∙ rw place (put_entries lay (machine_of lay m) (drop (extent lay) m) (whole_of lay m l.long) (its_room lay m) i (f es) b s)

-- the entries that are there
pub stock_in : (lay : Layout) (m : List ℕ) (i : ℕ) → Fits lay m → Stock (replica_at (machine_of lay m) (suc i)).entries
stock_in lay m i l = let s = replica_stocked (whole_of lay m l.long) (suc i) in record { many = s.many; pages = s.pages }
