-- Where each row of the machine stands in the words, and that its words are read and written whole.
use mathlib.Core.Path.{◌≡◌, refl, sym, ap, ◌∙◌}
use mathlib.Core.List.{List}
use Prim.Native.Nat.{ℕ, zero, suc, ◌+◌, ◌*◌, ◌-◌, ◌≤◌, ◌<◌}
use native.Mathlib.Nat.{add_comm, le_of_suc-le-suc, not-suc-le-zero}
use native.Mathlib.Numerals.{add-one}
use native.Mathlib.Omega.{arith}
use lib.ListN.{length, get_or, take, drop}
use lib.Seq.{drop-drop, get_or-drop, take-add}
use Rattle.tables.specs.declared.Layout.{Layout}
use Rattle.tables.specs.declared.Client.{Client}
use Rattle.tables.specs.declared.Directory.{Directory}
use Rattle.tables.specs.declared.Party.{Party}
use Rattle.tables.specs.declared.Party.TheVariants.{AClient, ADirectory, AReplica}
use Rattle.tables.specs.Tables.{Replica, no_client, no_directory, no_entry, no_replica, no_message, down_word}
use Rattle.tables.specs.Layouts.{flags_at, entries_at, slots_at, extent}
use Rattle.tables.specs.Inner.{Fits, most_of, down_at}
use Rattle.tables.specs.Words.{client_words, directory_words, entry_words, replica_words, message_words}
use Rattle.tables.specs.Machines.{client_of, directory_of, entry_of, message_of, clients_of, directories_of, slots_of, entries_of, replicas_of, machine_of}
use Rattle.tables.proofs.Parts.{first_word_lem, rest_all}
use Rattle.tables.proofs.Table.{wider, take_cells, get_or_cut, part_cut, length_rows_of, get_or_rows_of, rows_of_cut, rows_words_back}

-- ---- a row read and written again is its words

pub client_words_lem : (l : List ℕ) → 24 ≤ length l → client_words (client_of l) ≡ take 24 l
unfolding client_words client_of
client_words_lem l h = rw (take-add 8 16 l, take_cells l 0 8 (omega arith))

pub directory_words_lem : (l : List ℕ) → 4 ≤ length l → directory_words (directory_of l) ≡ take 4 l
unfolding directory_words directory_of
directory_words_lem l h = rw (take_cells l 0 4 h)

pub entry_words_lem : (l : List ℕ) → 20 ≤ length l → entry_words (entry_of l) ≡ take 20 l
unfolding entry_words entry_of
entry_words_lem l h = rw (take-add 4 16 l, take_cells l 0 4 (omega arith))

pub message_words_lem : (l : List ℕ) → 24 ≤ length l → message_words (message_of l) ≡ take 24 l
unfolding message_words message_of
message_words_lem l h = rw (take-add 8 16 l, take_cells l 0 8 (omega arith))

pub replica_words_lem : (d : ℕ) (l : List ℕ) → 240 ≤ length l → replica_words (record { down = d; entries = entries_of l }) ≡ take 240 l
unfolding replica_words entries_of
replica_words_lem d l h = rows_words_back entry_of entry_words 12 20 l entry_words_lem h

-- ---- a row is read from its own words

pub client_cut : (l : List ℕ) → client_of (take 24 l) ≡ client_of l
unfolding client_of
client_cut l = simp (get_or_cut, part_cut 8 16 l)

pub directory_cut : (l : List ℕ) → directory_of (take 4 l) ≡ directory_of l
unfolding directory_of
directory_cut l = simp get_or_cut

pub entry_cut : (l : List ℕ) → entry_of (take 20 l) ≡ entry_of l
unfolding entry_of
entry_cut l = simp (get_or_cut, part_cut 4 16 l)

pub message_cut : (l : List ℕ) → message_of (take 24 l) ≡ message_of l
unfolding message_of
message_cut l = simp (get_or_cut, part_cut 8 16 l)

pub entries_cut : (l : List ℕ) → entries_of (take 240 l) ≡ entries_of l
unfolding entries_of
entries_cut l = rows_of_cut entry_of 12 20 l entry_cut

-- ---- where each row stands

pub client_at_lem : (l : List ℕ) (i : ℕ) → i < 8 → get_or (clients_of l) i no_client ≡ client_of (drop (i * 24) l)
unfolding clients_of
client_at_lem l i h = get_or_rows_of client_of 8 24 l i no_client h

pub directory_at_lem : (n : ℕ) (l : List ℕ) (i : ℕ) → i < n → get_or (directories_of n l) i no_directory ≡ directory_of (drop (i * 4) l)
unfolding directories_of
directory_at_lem n l i h = get_or_rows_of directory_of n 4 l i no_directory h

pub slot_at_lem : (l : List ℕ) (i : ℕ) → i < 128 → get_or (slots_of l) i no_message ≡ message_of (drop (i * 24) l)
unfolding slots_of
slot_at_lem l i h = get_or_rows_of message_of 128 24 l i no_message h

pub entry_at : (l : List ℕ) (j : ℕ) → j < 12 → get_or (entries_of l) j no_entry ≡ entry_of (drop (j * 20) l)
unfolding entries_of
entry_at l j h = get_or_rows_of entry_of 12 20 l j no_entry h

pub replica_in_lem : (n i : ℕ) (flags l : List ℕ) → i < n
    → get_or (replicas_of n flags l) i no_replica ≡ record { down = get_or flags i 0; entries = entries_of (drop (i * 240) l) }
unfolding replicas_of
replica_in_lem zero i flags l h = absurd (not-suc-le-zero h)
replica_in_lem (suc n) zero flags l h = refl
replica_in_lem (suc n) (suc i) flags l h =
    replica_in_lem n i (drop 1 flags) (drop 240 l) (le_of_suc-le-suc h)
    ∙ rw (get_or-drop 1 flags i 0, drop-drop (i * 240) 240 l, wider i 240, add_comm 1 i, add-one i)

pub replica_at_lem : (lay : Layout) (m : List ℕ) (i : ℕ) → i < 7
    → get_or (machine_of lay m).replicas i no_replica ≡ record { down = get_or m (flags_at lay + i) 0; entries = entries_of (drop (entries_at lay + i * 240) m) }
unfolding machine_of
replica_at_lem lay m i h =
    replica_in_lem 7 i (drop (flags_at lay) m) (drop (entries_at lay) m) h ∙ rw (get_or-drop (flags_at lay) m i 0, drop-drop (i * 240) (entries_at lay) m)

-- what a reader was lent
pub client_read : (lay : Layout) (m : List ℕ) (i : ℕ) (x : Client) → i < 8 → x ≡ client_of (take (length m - (16 + i * 24)) (drop (16 + i * 24) m)) → x ≡ get_or (machine_of lay m).clients i no_client
unfolding machine_of
client_read lay m i x h e = e ∙ rw (rest_all m (16 + i * 24), ← drop-drop (i * 24) 16 m) (sym (client_at_lem (drop 16 m) i h))

pub directory_read : (lay : Layout) (m : List ℕ) (i : ℕ) (x : Directory) → i < lay.directories → x ≡ directory_of (take (length m - (208 + i * 4)) (drop (208 + i * 4) m))
    → x ≡ get_or (machine_of lay m).directories i no_directory
unfolding machine_of
directory_read lay m i x h e = e ∙ rw (rest_all m (208 + i * 4), ← drop-drop (i * 4) 208 m) (sym (directory_at_lem lay.directories (drop 208 m) i h))

-- the down word of a party
pub down_read : (lay : Layout) (m : List ℕ) (who : Party) (i : ℕ) → i < most_of lay who → get_or m (down_at lay who i) 0 ≡ down_word (machine_of lay m) who (suc i)
unfolding machine_of client_of directory_of
down_read lay m AClient i h =
    sym (ap (λ (w : Client). w.down) (client_at_lem (drop 16 m) i h) ∙ first_word_lem (drop 16 m) (i * 24) ∙ get_or-drop 16 m (i * 24) 0)
down_read lay m ADirectory i h =
    sym (ap (λ (d : Directory). d.down) (directory_at_lem lay.directories (drop 208 m) i h) ∙ first_word_lem (drop 208 m) (i * 4) ∙ get_or-drop 208 m (i * 4) 0)
down_read lay m AReplica i h = sym (ap (λ (r : Replica). r.down) (replica_at_lem lay m i h))

-- it stands in the machine
down_in : (lay : Layout) (who : Party) (i : ℕ) → i < most_of lay who → down_at lay who i < extent lay
down_in lay AClient i h = omega arith
down_in lay ADirectory i h = omega arith
down_in lay AReplica i h = omega arith

module _ (lay : Layout) (m : List ℕ) (who : Party) (i at : ℕ) (h : Fits lay m) (b : i < most_of lay who) (e : at ≡ down_at lay who i) where
  pub down_low : at < 5036
  down_low = omega (arith, down_in lay who i b, h.few, e)

  pub down_inside : at < length m
  down_inside = omega (arith, down_in lay who i b, h.long, e)

-- ---- how many rows there are

pub clients_many : (l : List ℕ) → length (clients_of l) ≡ 8
unfolding clients_of
clients_many l = length_rows_of client_of 8 24 l

pub directories_many : (n : ℕ) (l : List ℕ) → length (directories_of n l) ≡ n
unfolding directories_of
directories_many n l = length_rows_of directory_of n 4 l

pub replicas_many : (flags l : List ℕ) → length (replicas_of 7 flags l) ≡ 7
unfolding replicas_of
replicas_many flags l = refl

pub slots_many : (l : List ℕ) → length (slots_of l) ≡ 128
unfolding slots_of
slots_many l = length_rows_of message_of 128 24 l

pub entries_many : (l : List ℕ) → length (entries_of l) ≡ 12
unfolding entries_of
entries_many l = length_rows_of entry_of 12 20 l

-- in a machine that is read; it has room for as many directories as its layout
pub its_room : (lay : Layout) (m : List ℕ) → length (machine_of lay m).directories ≡ lay.directories
unfolding machine_of
its_room lay m = directories_many lay.directories (drop 208 m)

pub its_replicas : (lay : Layout) (m : List ℕ) → length (machine_of lay m).replicas ≡ 7
unfolding machine_of
its_replicas lay m = replicas_many (drop (flags_at lay) m) (drop (entries_at lay) m)

pub its_slots : (lay : Layout) (m : List ℕ) → length (machine_of lay m).slots ≡ 128
unfolding machine_of
its_slots lay m = slots_many (drop (slots_at lay) m)
