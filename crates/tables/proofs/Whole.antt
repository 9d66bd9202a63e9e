-- A machine with as many rows as the tables have, the directories apart, and with pages of 16 words: what each replaced row keeps. How many directories there is room for, the layout says.
use mathlib.Core.Path.{◌≡◌, refl, ◌∙◌}
use mathlib.Core.List.{List}
use Prim.Native.Nat.{ℕ, zero, suc, ◌+◌, ◌*◌, ◌≤◌}
use native.Mathlib.Omega.{arith}
use lib.ListN.{length, take, drop, length-drop}
use lib.Seq.{length-take-le}
use Rattle.tables.specs.declared.Layout.{Layout}
use Rattle.tables.specs.declared.Client.{Client}
use Rattle.tables.specs.declared.Directory.{Directory}
use Rattle.tables.specs.declared.Entry.{Entry}
use Rattle.tables.specs.declared.Message.{Message}
use Rattle.tables.specs.Rows.{row}
use Rattle.tables.specs.Tables.{Page, Replica, Machine, no_page, no_client, no_entry, no_replica, no_message, client_at, replica_at, slot_at, with_client, with_directory, with_replica, with_slots}
use Rattle.tables.specs.Layouts.{flags_at, gap_at, entries_at, slots_at, extent}
use Rattle.tables.specs.Inner.{with_entry}
use Rattle.tables.specs.Machines.{client_of, entry_of, message_of, clients_of, slots_of, entries_of, replicas_of, machine_of}
use Rattle.tables.proofs.All.{All, none, cons, all_replicate, all_row, all_with_row, length_with_row}
use Rattle.tables.proofs.Table.{wider, rows_of_all}
use Rattle.tables.proofs.Read.{clients_many, entries_many, its_replicas, its_slots}

-- a page is 16 words
abbrev pub Paged : Page → Type 0
Paged p = length p ≡ 16

-- a replica has 12 entries
pub record Stocked (r : Replica) : Type 0 where
  pub many : length r.entries ≡ 12
  pub pages : All (λ (e : Entry). Paged e.page) r.entries

pub record Whole (M : Machine) : Type 0 where
  pub spare : length M.spare ≡ 8
  pub clients : length M.clients ≡ 8
  pub gap : length M.gap ≡ 5
  pub replicas : length M.replicas ≡ 7
  pub slots : length M.slots ≡ 128
  pub client_pages : All (λ (x : Client). Paged x.page) M.clients
  pub stocks : All Stocked M.replicas
  pub slot_pages : All (λ (x : Message). Paged x.page) M.slots

-- as many directories as the layout has room for
abbrev pub Room : Layout → Machine → Type 0
Room lay M = length M.directories ≡ lay.directories

-- ---- a machine that is read is whole

-- the page that stands after n words
page_read : (n : ℕ) (l : List ℕ) → n + 16 ≤ length l → Paged (take 16 (drop n l))
page_read n l h = length-take-le 16 (drop n l) (rw length-drop (omega arith))

pub stocked_read : (d : ℕ) (l : List ℕ) → 240 ≤ length l → Stocked (record { down = d; entries = entries_of l })
unfolding entries_of entry_of
stocked_read d l h = record { many = entries_many l; pages = rows_of_all entry_of 12 20 l (page_read 4) h }

stocks_read : (n : ℕ) (flags l : List ℕ) → n * 240 ≤ length l → All Stocked (replicas_of n flags l)
unfolding replicas_of
stocks_read zero flags l h = none
stocks_read (suc n) flags l h =
    let h' : 240 + n * 240 ≤ length l = rw (wider n 240) at h in
    cons (stocked_read _ l (omega arith)) (stocks_read n (drop 1 flags) (drop 240 l) (rw length-drop (omega arith)))

pub slots_paged : (l : List ℕ) → 3072 ≤ length l → All (λ (x : Message). Paged x.page) (slots_of l)
unfolding slots_of message_of
slots_paged l h = rows_of_all message_of 128 24 l (page_read 8) h

pub whole_of : (lay : Layout) (m : List ℕ) → extent lay ≤ length m → Whole (machine_of lay m)
unfolding machine_of clients_of client_of
whole_of lay m h =
    record {
      spare = length-take-le 8 (drop 8 m) (rw length-drop (omega arith));
      clients = clients_many (drop 16 m);
      gap = length-take-le 5 (drop (gap_at lay) m) (rw length-drop (omega arith));
      replicas = its_replicas lay m;
      slots = its_slots lay m;
      client_pages = rows_of_all client_of 8 24 (drop 16 m) (page_read 8) (rw length-drop (omega arith));
      stocks = stocks_read 7 (drop (flags_at lay) m) (drop (entries_at lay) m) (rw length-drop (omega arith));
      slot_pages = slots_paged (drop (slots_at lay) m) (rw length-drop (omega arith));
    }

-- ---- blank rows

pub blank_client : Paged no_client.page
unfolding no_client no_page
blank_client = refl

pub blank_message : Paged no_message.page
unfolding no_message no_page
blank_message = refl

pub blank_entry : Paged no_entry.page
unfolding no_entry no_page
blank_entry = refl

pub blank_replica : Stocked no_replica
unfolding no_replica
blank_replica = record { many = refl; pages = all_replicate 12 no_entry blank_entry }

-- ---- rows of a whole machine, also where there is none of that number; and a row replaced

module _ {M : Machine} (z : Whole M) where
  pub client_paged : (c : ℕ) → Paged (client_at M c).page
  client_paged c = all_row no_client c blank_client z.client_pages

  pub slot_paged : (s : ℕ) → Paged (slot_at M s).page
  slot_paged s = all_row no_message s blank_message z.slot_pages

  pub replica_stocked : (r : ℕ) → Stocked (replica_at M r)
  replica_stocked r = all_row no_replica r blank_replica z.stocks

  pub entry_paged : (r e : ℕ) → Paged (row no_entry (replica_at M r).entries e).page
  entry_paged r e = all_row no_entry e blank_entry (replica_stocked r).pages

  pub whole_client : (c : ℕ) (x : Client) → Paged x.page → Whole (with_client M c x)
  whole_client c x p =
      record {
        spare = z.spare;
        clients = length_with_row M.clients c x ∙ z.clients;
        gap = z.gap;
        replicas = z.replicas;
        slots = z.slots;
        client_pages = all_with_row c x p z.client_pages;
        stocks = z.stocks;
        slot_pages = z.slot_pages;
      }

  pub whole_directory : (d : ℕ) (x : Directory) → Whole (with_directory M d x)
  whole_directory d x =
      record {
        spare = z.spare;
        clients = z.clients;
        gap = z.gap;
        replicas = z.replicas;
        slots = z.slots;
        client_pages = z.client_pages;
        stocks = z.stocks;
        slot_pages = z.slot_pages;
      }

  pub whole_replica : (r : ℕ) (x : Replica) → Stocked x → Whole (with_replica M r x)
  whole_replica r x p =
      record {
        spare = z.spare;
        clients = z.clients;
        gap = z.gap;
        replicas = length_with_row M.replicas r x ∙ z.replicas;
        slots = z.slots;
        client_pages = z.client_pages;
        stocks = all_with_row r x p z.stocks;
        slot_pages = z.slot_pages;
      }

  pub whole_entry : (r e : ℕ) (x : Entry) → Paged x.page → Whole (with_entry M r e x)
  whole_entry r e x p =
      let s = replica_stocked r in
      whole_replica r _ (record { many = length_with_row (replica_at M r).entries e x ∙ s.many; pages = all_with_row e x p s.pages })

  pub whole_slots : (ss : List Message) → length ss ≡ 128 → All (λ (x : Message). Paged x.page) ss → Whole (with_slots M ss)
  whole_slots ss e ps =
      record {
        spare = z.spare;
        clients = z.clients;
        gap = z.gap;
        replicas = z.replicas;
        slots = e;
        client_pages = z.client_pages;
        stocks = z.stocks;
        slot_pages = ps;
      }
