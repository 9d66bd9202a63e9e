-- The machine that an accepted set-up makes is sound.
use mathlib.Core.Bool.{Bool, true, false}
use mathlib.Core.List.{map}
use mathlib.Core.Logic.{⊎_elim}
use mathlib.Core.Path.{◌≡◌, refl, ap, ◌∙◌}
use Prim.Native.Nat.{ℕ, zero, suc}
use native.Mathlib.Omega.{arith}
use borrow.Author.Tests.{lt-ltb, le-leb}
use lib.Dec.{leb}
use lib.ListN.{length, replicate, length-replicate, length-map}
use Rattle.sets.specs.Plain.{numbers}
use Rattle.sets.proofs.Laws.{all_lt}
use Rattle.sets.proofs.Tests.{either, if_ind}
use Rattle.tables.specs.declared.Conf.{Conf}
use Rattle.tables.specs.Rows.{rows_words}
use Rattle.tables.specs.Tables.{Page, no_page, no_client, no_directory, no_entry, no_replica, no_message}
use Rattle.tables.specs.Words.{client_words, directory_words, entry_words, replica_words, message_words}
use Rattle.tables.proofs.All.{cons, all_replicate}
use Rattle.tables.proofs.Whole.{Paged, Stocked, blank_client, blank_message, blank_entry, blank_replica}
use Rattle.mail.proofs.Messages.{all_from}
use Rattle.inspect.specs.Good.{zeros, each_row, good_numbers, good_client, good_directory, good_entry, tags_once, good_replica, client_row, directory_row, replica_row, slot_row, good_machine}
use Rattle.machine.specs.SetUp.{first_directory, first_replica, new_machine}
use Rattle.runs.proofs.Sound.{Sound}

-- rows made from their own numbers
each_made : {A : Type 0} (test : ℕ → A → Bool) (f : ℕ → A) → ((n : ℕ) → test n (f n) ≡ true) → (k n : ℕ) → each_row test k (map f (numbers k n)) ≡ true
each_made test f h k zero = refl
each_made test f h k (suc n) = rw (h k, each_made test f h (suc k) n)

each_same : {A : Type 0} (test : ℕ → A → Bool) (a : A) → ((n : ℕ) → test n a ≡ true) → (k n : ℕ) → each_row test k (replicate n a) ≡ true
each_same test a h k zero = refl
each_same test a h k (suc n) = rw (h k, each_same test a h (suc k) n)

length_numbers : (k n : ℕ) → length (numbers k n) ≡ n
length_numbers k zero = refl
length_numbers k (suc n) = ap suc (length_numbers (suc k) n)

-- room for n directories
pub new_room : (n : ℕ) (k : Conf) (page : Page) → length (new_machine n k page).directories ≡ n
unfolding new_machine
new_room n k page = length-map (numbers 1 n) (first_directory k) ∙ length_numbers 1 n

zero_least : (n : ℕ) → leb 0 n ≡ true
zero_least n = le-leb 0 n (omega arith)

module _ (k : Conf) where
  client_new : (c : ℕ) → client_row k c no_client ≡ true
  unfolding client_row good_client no_client no_page client_words zeros
  client_new c = if_ind (λ (b : Bool). b ≡ true) (leb c k.clients) (λ _. rw (zero_least k.top)) (λ _. refl)

  directory_new : (d : ℕ) → directory_row k d (first_directory k d) ≡ true
  unfolding directory_row good_directory directory_words no_directory zeros
  directory_new d =
      ⊎_elim
      (λ (e : leb d k.directories ≡ true). rw (e, zero_least k.top, zero_least k.clients) (lt-ltb _ _ (all_lt k.replicas)))
      (λ (e : leb d k.directories ≡ false). rw e)
      (either (leb d k.directories))

  slot_new : (s : ℕ) → slot_row k s no_message ≡ true
  unfolding slot_row no_message no_page message_words zeros
  slot_new s = refl

  module _ (page : Page) (p : Paged page) where
    replica_new : (r : ℕ) → replica_row k r (first_replica k page r) ≡ true
    unfolding replica_row good_replica good_entry tags_once rows_words replica_words entry_words no_replica no_entry no_page zeros
    replica_new r =
        ⊎_elim (λ (e : leb r k.replicas ≡ true). rw (e, zero_least k.top, zero_least k.clients))
        (λ (e : leb r k.replicas ≡ false). rw e) (either (leb r k.replicas))

    stocked_new : (r : ℕ) → Stocked (first_replica k page r)
    stocked_new r =
        if_ind Stocked (leb r k.replicas) (λ _. record { many = refl; pages = cons p (all_replicate 11 no_entry blank_entry) }) (λ _. blank_replica)

    pub new_sound : (n : ℕ) → good_numbers n k ≡ true → Sound (new_machine n k page)
    unfolding new_machine good_machine zeros
    new_sound n g =
        record {
          good =
              rw (
                new_room n k page,
                g,
                each_same (client_row k) no_client client_new 1 8,
                each_made (directory_row k) (first_directory k) directory_new 1 n,
                each_made (replica_row k) (first_replica k page) replica_new 1 7,
                each_same (slot_row k) no_message slot_new 1 128,
              );
          whole =
              record {
                spare = refl;
                clients = refl;
                gap = refl;
                replicas = refl;
                slots = length-replicate 128 no_message;
                client_pages = all_replicate 8 no_client blank_client;
                stocks = all_from (first_replica k page) (numbers 1 7) (λ r _. stocked_new r);
                slot_pages = all_replicate 128 no_message blank_message;
              };
        }
