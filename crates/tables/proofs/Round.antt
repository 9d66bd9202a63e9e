-- The round trips between the words of a buffer and the machine, and that a row written is a record replaced.
use mathlib.Core.Path.{◌≡◌, refl, sym, ap, ◌∙◌}
use mathlib.Core.List.{List, [], ◌∷◌, ◌++◌, append_assoc, append-nil}
use Prim.Native.Nat.{ℕ, zero, suc, ◌+◌, ◌*◌, ◌≤◌, ◌<◌}
use native.Mathlib.Nat.{add-zero, add_assoc, mul-one}
use native.Mathlib.Omega.{arith}
use lib.ListN.{length, get_or, set, take, drop, length-append, length-drop, take-append-drop}
use lib.Seq.{drop_at, drop-drop, take-add, take_at}
use Rattle.tables.specs.declared.Layout.{Layout}
use Rattle.tables.specs.declared.Client.{Client}
use Rattle.tables.specs.declared.Directory.{Directory}
use Rattle.tables.specs.declared.Entry.{Entry}
use Rattle.tables.specs.declared.Message.{Message}
use Rattle.tables.specs.declared.Party.{Party}
use Rattle.tables.specs.declared.Party.TheVariants.{AClient, ADirectory, AReplica}
use Rattle.tables.specs.Rows.{rows_words, joined}
use Rattle.tables.specs.Layouts.{flags_at, gap_at, entries_at, slots_at, extent}
use Rattle.tables.specs.Inner.{Fits, put, most_of, down_at, with_down, with_entry}
use Rattle.tables.specs.Machines.{conf_of, client_of, directory_of, entry_of, message_of, clients_of, directories_of, slots_of, entries_of, replicas_of, machine_of}
use Rattle.tables.specs.Tables.{Replica, Machine, no_client, no_directory, no_replica, replica_at, with_client, with_directory, with_slots}
use Rattle.tables.specs.Words.{conf_words, client_words, directory_words, down_words, entry_words, replica_words, message_words, blocks, words}
use Rattle.tables.proofs.All.{All, none, cons, all_of_lem, all_map}
use Rattle.tables.proofs.Table.{Wide, wider, take_cells, set_put, length_rows, rows_same, rows_set, rows_of_back, rows_words_back}
use Rattle.tables.proofs.Blocks.{offset, joined_drop, block_all, block_put, block_set}
use Rattle.tables.proofs.Read.{client_words_lem, directory_words_lem, message_words_lem, replica_words_lem, its_room}
use Rattle.tables.proofs.Whole.{Paged, Stocked, Whole, Room, whole_of, replica_stocked}

-- ---- the width of each row

pub client_wide : (x : Client) → Paged x.page → length (client_words x) ≡ 24
unfolding client_words
client_wide x p = rw p

pub directory_wide : (x : Directory) → length (directory_words x) ≡ 4
unfolding directory_words
directory_wide x = refl

down_wide : (r : Replica) → length (down_words r) ≡ 1
unfolding down_words
down_wide r = refl

pub entry_wide : (x : Entry) → Paged x.page → length (entry_words x) ≡ 20
unfolding entry_words
entry_wide x p = rw p

pub message_wide : (x : Message) → Paged x.page → length (message_words x) ≡ 24
unfolding message_words
message_wide x p = rw p

pub replica_wide : (r : Replica) → Stocked r → length (replica_words r) ≡ 240
unfolding replica_words
replica_wide r s = length_rows entry_words 20 (all_map entry_wide s.pages) ∙ ap (λ (n : ℕ). n * 20) s.many

-- ---- a row written and read again

client_back : (x : Client) (q : List ℕ) → Paged x.page → client_of (client_words x ++ q) ≡ x
unfolding client_of client_words
client_back x q p = rw (take_at x.page q 16 p)

directory_back : (x : Directory) (q : List ℕ) → Unit {0} → directory_of (directory_words x ++ q) ≡ x
unfolding directory_of directory_words
directory_back x q p = refl

entry_back : (x : Entry) (q : List ℕ) → Paged x.page → entry_of (entry_words x ++ q) ≡ x
unfolding entry_of entry_words
entry_back x q p = rw (take_at x.page q 16 p)

pub message_back : (x : Message) (q : List ℕ) → Paged x.page → message_of (message_words x ++ q) ≡ x
unfolding message_of message_words
message_back x q p = rw (take_at x.page q 16 p)

pub entries_back : (r : Replica) (q : List ℕ) → Stocked r → entries_of (replica_words r ++ q) ≡ r.entries
unfolding entries_of replica_words
entries_back r q s = rows_of_back entry_words 20 entry_of entry_wide entry_back s.pages 12 q s.many

-- flags and entries stand in two places
stocks_back : {rs : List Replica} → All Stocked rs → (s t : List ℕ)
    → replicas_of (length rs) (rows_words down_words rs ++ s) (rows_words replica_words rs ++ t) ≡ rs
unfolding replicas_of rows_words down_words
stocks_back none s t = refl
stocks_back (cons {x = r} {xs = rs} p ps) s t =
    rw (append_assoc (replica_words r) (rows_words replica_words rs) t, entries_back r (rows_words replica_words rs ++ t) p, drop_at (replica_words r) (rows_words replica_words rs ++ t) 240 (replica_wide r p), stocks_back ps s t)

module _ (lay : Layout) (M : Machine) (t : List ℕ) (z : Whole M) (room : Room lay M) where
  clients_wide : Wide client_words 24 M.clients
  clients_wide = all_map client_wide z.client_pages

  directories_wide : Wide directory_words 4 M.directories
  directories_wide = all_of_lem directory_wide M.directories

  downs_wide : Wide down_words 1 M.replicas
  downs_wide = all_of_lem down_wide M.replicas

  replicas_wide : Wide replica_words 240 M.replicas
  replicas_wide = all_map replica_wide z.stocks

  slots_wide : Wide message_words 24 M.slots
  slots_wide = all_map message_wide z.slot_pages

  clients_long : length (rows_words client_words M.clients) ≡ 192
  clients_long = length_rows client_words 24 clients_wide ∙ ap (λ (n : ℕ). n * 24) z.clients

  directories_long : length (rows_words directory_words M.directories) ≡ lay.directories * 4
  directories_long = length_rows directory_words 4 directories_wide ∙ ap (λ (n : ℕ). n * 4) room

  downs_long : length (rows_words down_words M.replicas) ≡ 7
  downs_long = length_rows down_words 1 downs_wide ∙ ap (λ (n : ℕ). n * 1) z.replicas

  replicas_long : length (rows_words replica_words M.replicas) ≡ 1680
  replicas_long = length_rows replica_words 240 replicas_wide ∙ ap (λ (n : ℕ). n * 240) z.replicas

  slots_long : length (rows_words message_words M.slots) ≡ 3072
  slots_long = length_rows message_words 24 slots_wide ∙ ap (λ (n : ℕ). n * 24) z.slots

  -- where each table begins
  at_clients : offset (blocks M t) 2 ≡ 16
  unfolding blocks conf_words
  at_clients = rw z.spare

  at_directories : offset (blocks M t) 3 ≡ 208
  unfolding blocks conf_words
  at_directories = rw (z.spare, clients_long)

  at_downs : offset (blocks M t) 4 ≡ flags_at lay
  unfolding blocks conf_words
  at_downs = rw (z.spare, clients_long, directories_long) (omega arith)

  at_gap : offset (blocks M t) 5 ≡ gap_at lay
  unfolding blocks conf_words
  at_gap = rw (z.spare, clients_long, directories_long, downs_long) (omega arith)

  pub at_replicas : offset (blocks M t) 6 ≡ entries_at lay
  unfolding blocks conf_words
  at_replicas = rw (z.spare, clients_long, directories_long, downs_long, z.gap) (omega arith)

  at_slots : offset (blocks M t) 7 ≡ slots_at lay
  unfolding blocks conf_words
  at_slots = rw (z.spare, clients_long, directories_long, downs_long, z.gap, replicas_long) (omega arith)

  at_rest : offset (blocks M t) 8 ≡ extent lay
  unfolding blocks conf_words
  at_rest = rw (z.spare, clients_long, directories_long, downs_long, z.gap, replicas_long, slots_long) (omega arith)

  -- the words from a table on
  from : (k base : ℕ) → offset (blocks M t) k ≡ base → drop base (words M t) ≡ joined (drop k (blocks M t))
  unfolding words
  from k base e = ap (λ (n : ℕ). drop n (joined (blocks M t))) (sym e) ∙ joined_drop (blocks M t) k

  pub rest_words : drop (extent lay) (words M t) ≡ t
  unfolding blocks joined
  rest_words = from 8 (extent lay) at_rest ∙ append-nil t

  pub length_words : length (words M t) ≡ extent lay + length t
  unfolding words blocks joined conf_words
  length_words =
      simp (length-append, z.spare, clients_long, directories_long, downs_long, z.gap, replicas_long, slots_long) (omega arith)

  conf_back : conf_of (words M t) ≡ M.conf
  unfolding conf_of words blocks joined conf_words
  conf_back = refl

  spare_back : take 8 (drop 8 (words M t)) ≡ M.spare
  unfolding words blocks joined conf_words
  spare_back = take_at M.spare _ 8 z.spare

  clients_back : clients_of (drop 16 (words M t)) ≡ M.clients
  unfolding clients_of blocks joined
  clients_back = rw (from 2 16 at_clients) (rows_of_back client_words 24 client_of client_wide client_back z.client_pages 8 _ z.clients)

  directories_back : directories_of lay.directories (drop 208 (words M t)) ≡ M.directories
  unfolding directories_of blocks joined
  directories_back =
      rw (from 3 208 at_directories)
      (rows_of_back directory_words 4 directory_of (λ x p. directory_wide x) directory_back (all_of_lem (λ x. tt) M.directories) lay.directories _ room)

  gap_back : take 5 (drop (gap_at lay) (words M t)) ≡ M.gap
  unfolding blocks joined
  gap_back = rw (from 5 (gap_at lay) at_gap) (take_at M.gap _ 5 z.gap)

  replicas_back : replicas_of 7 (drop (flags_at lay) (words M t)) (drop (entries_at lay) (words M t)) ≡ M.replicas
  unfolding blocks joined
  replicas_back =
      rw (from 4 (flags_at lay) at_downs, from 6 (entries_at lay) at_replicas, ← z.replicas) (stocks_back z.stocks _ _)

  slots_back : slots_of (drop (slots_at lay) (words M t)) ≡ M.slots
  unfolding slots_of blocks joined
  slots_back = rw (from 7 (slots_at lay) at_slots) (rows_of_back message_words 24 message_of message_wide message_back z.slot_pages 128 _ z.slots)

  -- the words of a whole machine are read as that machine
  pub machine_back : machine_of lay (words M t) ≡ M
  unfolding machine_of
  machine_back = λ j.
      record {
        conf = conf_back j;
        spare = spare_back j;
        clients = clients_back j;
        directories = directories_back j;
        gap = gap_back j;
        replicas = replicas_back j;
        slots = slots_back j;
      }

  -- ---- a row written is a record replaced

  pub put_client : (i : ℕ) (x : Client) → i < 8 → Paged x.page → put (words M t) (16 + i * 24) (client_words x) ≡ words (with_client M (suc i) x) t
  unfolding words blocks
  put_client i x h p = block_set client_words 24 (blocks M t) 2 16 (omega arith) at_clients clients_wide refl i x (rw z.clients h) (client_wide x p)

  pub put_directory : (i : ℕ) (x : Directory) → i < lay.directories → put (words M t) (208 + i * 4) (directory_words x) ≡ words (with_directory M (suc i) x) t
  unfolding words blocks
  put_directory i x h = block_set directory_words 4 (blocks M t) 3 208 (omega arith) at_directories directories_wide refl i x (rw room h) (directory_wide x)

  -- the slots are written as one block
  pub put_slots : (xs : List Message) → length (rows_words message_words xs) ≡ 3072
      → put (words M t) (slots_at lay) (rows_words message_words xs) ≡ words (with_slots M xs) t
  unfolding words blocks
  put_slots xs e = block_all (blocks M t) 7 (slots_at lay) (omega arith) at_slots (rows_words message_words xs) (omega (arith, e, slots_long))

  -- a down word is the first of its row; a replica's stands alone, and its entries stay
  pub put_down : (who : Party) (i x : ℕ) → i < most_of lay who → set (words M t) (down_at lay who i) x ≡ words (with_down M who (suc i) x) t
  unfolding words blocks client_words directory_words down_words replica_words put
  put_down AClient i x h =
      set_put (words M t) (16 + i * 24) x (rw length_words (omega arith))
      ∙ ap (λ (k : ℕ). put (words M t) (16 + k) (x ∷ [])) (sym (add-zero (i * 24)))
      ∙ block_put client_words 24 (blocks M t) 2 16 (omega arith) at_clients clients_wide refl i 0 _ no_client (x ∷ []) (rw z.clients h) (omega arith) refl
  put_down ADirectory i x h =
      set_put (words M t) (208 + i * 4) x (rw length_words (omega arith))
      ∙ ap (λ (k : ℕ). put (words M t) (208 + k) (x ∷ [])) (sym (add-zero (i * 4)))
      ∙ block_put directory_words 4 (blocks M t) 3 208 (omega arith) at_directories directories_wide refl i 0 _ no_directory (x ∷ []) (rw room h) (omega arith) refl
  put_down AReplica i x h =
      let new : Replica = record { down = x; entries = (replica_at M (suc i)).entries } in
      rw (rows_same replica_words M.replicas i new no_replica refl)
      (set_put (words M t) (flags_at lay + i) x (rw length_words (omega arith))
      ∙ ap (λ (k : ℕ). put (words M t) (flags_at lay + k) (x ∷ [])) (sym (mul-one i))
      ∙ block_set down_words 1 (blocks M t) 4 (flags_at lay) (omega arith) at_downs downs_wide refl i new (rw z.replicas h) refl)

  -- an entry is part of the replica's words; its flag stays
  pub put_entry : (i j : ℕ) (x : Entry) → i < 7 → j < 12 → Paged x.page
      → put (words M t) (entries_at lay + i * 240 + j * 20) (entry_words x) ≡ words (with_entry M (suc i) (suc j) x) t
  unfolding words blocks down_words replica_words
  put_entry i j x h g p =
      let old : Replica = replica_at M (suc i) in
      let new : Replica = record { down = old.down; entries = set old.entries j x } in
      let s : Stocked old = replica_stocked z (suc i) in
      rw (rows_same down_words M.replicas i new no_replica refl, add_assoc (entries_at lay) (i * 240) (j * 20))
      (block_put replica_words 240 (blocks M t) 6 (entries_at lay) (omega arith) at_replicas replicas_wide refl i (j * 20) new no_replica (entry_words x) (rw z.replicas h) (omega (arith, entry_wide x p))
      (rows_set entry_words 20 (all_map entry_wide s.pages) j x (rw s.many g) (entry_wide x p)))

-- ---- the machine that words are read as has these words

-- n words, and what follows them from place b on
cut : (l : List ℕ) (a n b : ℕ) → a + n ≡ b → take n (drop a l) ++ drop b l ≡ drop a l
cut l a n b e = ap (λ (q : List ℕ). take n (drop a l) ++ q) (ap (λ (k : ℕ). drop k l) (sym e) ∙ sym (drop-drop n a l)) ∙ take-append-drop n (drop a l)

downs_kept : (n : ℕ) (flags l : List ℕ) → n ≤ length flags → rows_words down_words (replicas_of n flags l) ≡ take n flags
unfolding replicas_of rows_words down_words
downs_kept zero flags l h = refl
downs_kept (suc n) (x ∷ flags) l h = ap (λ (q : List ℕ). x ∷ q) (downs_kept n flags (drop 240 l) (omega arith))
downs_kept (suc n) [] l h = absurd (omega arith)

replicas_kept : (n : ℕ) (flags l : List ℕ) → n * 240 ≤ length l → rows_words replica_words (replicas_of n flags l) ≡ take (n * 240) l
unfolding replicas_of rows_words
replicas_kept zero flags l h = refl
replicas_kept (suc n) flags l h =
    let h' : 240 + n * 240 ≤ length l = rw (wider n 240) at h in
    rw (wider n 240, take-add 240 (n * 240) l, replica_words_lem (get_or flags 0 0) l (omega arith), replicas_kept n (drop 1 flags) (drop 240 l) (rw length-drop (omega arith)))

conf_kept : (m : List ℕ) → 8 ≤ length m → conf_words (conf_of m) ≡ take 8 m
unfolding conf_words conf_of
conf_kept m h = rw (take_cells m 0 8 h)

-- a buffer that is long enough is the words of the machine that it is read as
pub words_back : (lay : Layout) (m : List ℕ) → extent lay ≤ length m → words (machine_of lay m) (drop (extent lay) m) ≡ m
unfolding words blocks machine_of clients_of directories_of slots_of joined
words_back lay m h =
    rw (
      conf_kept m (omega arith),
      rows_words_back client_of client_words 8 24 (drop 16 m) client_words_lem (rw length-drop (omega arith)),
      rows_words_back directory_of directory_words lay.directories 4 (drop 208 m) directory_words_lem (rw length-drop (omega arith)),
      downs_kept 7 (drop (flags_at lay) m) (drop (entries_at lay) m) (rw length-drop (omega arith)),
      replicas_kept 7 (drop (flags_at lay) m) (drop (entries_at lay) m) (rw length-drop (omega arith)),
      rows_words_back message_of message_words 128 24 (drop (slots_at lay) m) message_words_lem (rw length-drop (omega arith)),
      append-nil (drop (extent lay) m),
      cut m (slots_at lay) 3072 (extent lay) (omega arith),
      cut m (entries_at lay) 1680 (slots_at lay) (omega arith),
      cut m (gap_at lay) 5 (entries_at lay) (omega arith),
      cut m (flags_at lay) 7 (gap_at lay) (omega arith),
      cut m 208 (lay.directories * 4) (flags_at lay) (omega arith),
      cut m 16 192 208 (omega arith),
      cut m 8 8 16 (omega arith),
    )
    (take-append-drop 8 m)

-- a down word written in the buffer
pub down_written : (lay : Layout) (m : List ℕ) (who : Party) (i x at : ℕ) → Fits lay m → i < most_of lay who → at ≡ down_at lay who i
    → set m at x ≡ words (with_down (machine_of lay m) who (suc i) x) (drop (extent lay) m)
down_written lay m who i x at h b e =
    rw e
    (ap (λ (q : List ℕ). set q (down_at lay who i) x) (sym (words_back lay m h.long))
    ∙ put_down lay (machine_of lay m) (drop (extent lay) m) (whole_of lay m h.long) (its_room lay m) who i x b)
