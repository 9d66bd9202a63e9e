-- Set-up: the words zeroed, the numbers written, and then each directory and each replica.
use Rattle.std.specs.Prelude.{if◌then◌else◌}
use mathlib.Core.Path.{◌≡◌, refl, sym, ap, ◌∙◌}
use mathlib.Core.List.{List, [], ◌∷◌, ◌++◌, map, append-nil, append_assoc}
use Prim.Native.Nat.{ℕ, zero, suc, ◌+◌, ◌*◌, ◌-◌, ◌≤◌, ◌<◌}
use native.Mathlib.Nat.{zero-add, suc-add, not-suc-le-zero, le_of_suc-le-suc}
use native.Mathlib.Decide.{dec_le}
use native.Mathlib.Numerals.{add-one}
use native.Mathlib.Omega.{arith}
use borrow.Author.Tests.{le-leb, lt-leb}
use lib.Dec.{leb}
use lib.ListN.{length, get_or, set, drop, replicate, length-drop, length-replicate}
use Rattle.sets.specs.Plain.{numbers}
use Rattle.sets.specs.Tags.{first}
use Rattle.sets.specs.Sets.{all}
use Rattle.tables.specs.declared.Layout.{Layout}
use Rattle.tables.specs.declared.Conf.{Conf}
use Rattle.tables.specs.declared.Directory.{Directory}
use Rattle.tables.specs.declared.Entry.{Entry}
use Rattle.tables.specs.Layouts.{extent}
use Rattle.tables.specs.Rows.{rows_words, joined}
use Rattle.tables.specs.Inner.{Fits, put, with_entry}
use Rattle.tables.specs.Tables.{Page, Machine, no_page, no_client, no_directory, no_entry, no_replica, no_message, with_directory}
use Rattle.tables.specs.Words.{conf_words, client_words, directory_words, down_words, entry_words, replica_words, message_words, blocks, words}
use Rattle.tables.specs.Machines.{machine_of}
use Rattle.tables.proofs.Table.{wider}
use Rattle.tables.proofs.All.{all_replicate, length_with_row}
use Rattle.tables.proofs.Read.{its_room, its_replicas}
use Rattle.tables.proofs.Whole.{Paged, Whole, Room, blank_client, blank_message, blank_replica, whole_directory, whole_entry}
use Rattle.tables.proofs.Holds.{Holds, holds_length, holds_machine, holds_rest, holds_step}
use Rattle.rules.specs.Replica.{entry}
use Rattle.machine.specs.SetUp.{new_machine}
use Rattle.machine.specs.Inner.{blank, first_rows, with_first, with_directories, with_replicas}

-- ---- rows from the first on

module _ {A : Type 0} (f : A → A) where
  rows_more : (rows : List A) (i : ℕ) (d : A) → i < length rows → set (first_rows i f rows) i (f (get_or (first_rows i f rows) i d)) ≡ first_rows (suc i) f rows
  rows_more [] i d h = absurd (not-suc-le-zero h)
  rows_more (x ∷ xs) zero d h = refl
  rows_more (x ∷ xs) (suc i) d h = ap (λ (l : List A). f x ∷ l) (rows_more xs i d (le_of_suc-le-suc h))

  length_first_rows : (n : ℕ) (rows : List A) → length (first_rows n f rows) ≡ length rows
  length_first_rows zero rows = refl
  length_first_rows (suc n) [] = refl
  length_first_rows (suc n) (x ∷ xs) = ap suc (length_first_rows n xs)

  -- of equal rows, numbered from k + 1 on: those up to t
  rows_upto : (y : A) (t m k : ℕ) → first_rows (t - k) f (replicate m y) ≡ map (λ p. if leb p t then f y else y) (numbers (suc k) m)
  rows_upto y t zero k = none (t - k)
    where
      none : (n : ℕ) → first_rows n f [] ≡ []
      none zero = refl
      none (suc n) = refl
  rows_upto y t (suc m) k = go (dec_le (suc k) t) (rows_upto y t m (suc k))
    where
      go : Dec (suc k ≤ t) → first_rows (t - suc k) f (replicate m y) ≡ map (λ p. if leb p t then f y else y) (numbers (suc (suc k)) m)
          → first_rows (t - k) f (y ∷ replicate m y) ≡ map (λ p. if leb p t then f y else y) (numbers (suc k) (suc m))
      go (yes h) e =
          let q : t - k ≡ suc (t - suc k) = omega arith in
          rw (q, le-leb (suc k) t h) (ap (λ (l : List A). f y ∷ l) e)
      go (no h) e =
          let q : t - k ≡ 0 = omega arith in
          let r : t - suc k ≡ 0 = omega arith in
          rw (q, lt-leb (suc k) t (omega arith)) (ap (λ (l : List A). y ∷ l) (rw r at e))

  rows_first : (y : A) (t m : ℕ) → first_rows t f (replicate m y) ≡ map (λ p. if leb p t then f y else y) (numbers 1 m)
  rows_first y t m = let e : t - 0 ≡ t = omega arith in rw e at (rows_upto y t m 0)

-- ---- the loops; m₀ is the buffer before

pub holds_same : (lay : Layout) (m₀ m : List ℕ) {M : Machine} → Fits lay m₀ → Holds lay m M (drop (extent lay) m₀) → length m ≡ length m₀
holds_same lay m₀ m g h = omega (arith, holds_length h, length-drop (extent lay) m₀)

module _ (lay : Layout) (m₀ m l : List ℕ) (i n : ℕ) (less : i < n) where
  pub directory_more : (x : Directory) → n ≤ lay.directories → Holds lay m (with_directories (machine_of lay m₀) i x) (drop (extent lay) m₀)
      → l ≡ words (with_directory (machine_of lay m) (suc i) x) (drop (extent lay) m) → Holds lay l (with_directories (machine_of lay m₀) (i + 1) x) (drop (extent lay) m₀)
  directory_more x b h e =
      let r : i < length (machine_of lay m₀).directories = rw its_room (omega arith) in
      rw (add-one i, ← rows_more (λ d. x) (machine_of lay m₀).directories i x r)
      (holds_step h (λ N. with_directory N (suc i) x) l e (whole_directory h.whole (suc i) x) (length_with_row (with_directories (machine_of lay m₀) i x).directories (suc i) x ∙ h.room))

  pub replica_more : (x : Entry) → n ≤ 7 → Paged x.page → Holds lay m (with_replicas (machine_of lay m₀) i x) (drop (extent lay) m₀)
      → l ≡ words (with_entry (machine_of lay m) (suc i) (suc 0) x) (drop (extent lay) m) → Holds lay l (with_replicas (machine_of lay m₀) (i + 1) x) (drop (extent lay) m₀)
  replica_more x b p h e =
      let r : i < length (machine_of lay m₀).replicas = rw its_replicas (omega arith) in
      rw (add-one i, ← rows_more (with_first x) (machine_of lay m₀).replicas i no_replica r)
      (holds_step h (λ N. with_entry N (suc i) 1 x) l e (whole_entry h.whole (suc i) 1 x p) h.room)

-- ---- the whole of set-up

zeros_add : (a b : ℕ) → ◌≡◌ {A = List ℕ} (replicate (a + b) 0) (replicate a 0 ++ replicate b 0)
zeros_add zero b = rw (zero-add b)
zeros_add (suc a) b = rw (suc-add a b) (ap (λ (q : List ℕ). 0 ∷ q) (zeros_add a b))

-- directory rows not in use
rows_zero : (d : ℕ) → rows_words directory_words (replicate d no_directory) ≡ replicate (d * 4) 0
unfolding rows_words directory_words no_directory
rows_zero zero = refl
rows_zero (suc d) = ap (λ (q : List ℕ). 0 ∷ 0 ∷ 0 ∷ 0 ∷ q) (rows_zero d) ∙ sym (ap (λ (n : ℕ). replicate n 0) (wider d 4) ∙ zeros_add 4 (d * 4))

words_blank : (d : ℕ) (k : Conf) (t : List ℕ) → put (replicate (4972 + d * 4) 0 ++ t) 0 (conf_words k) ≡ words (blank d k) t
unfolding blank put words blocks joined rows_words conf_words client_words down_words entry_words replica_words message_words no_page no_client no_entry no_replica no_message
words_blank d k t =
    let n : 4972 + d * 4 ≡ 208 + (d * 4 + 4764) = omega arith in
    rw (n, zeros_add 208 (d * 4 + 4764), zeros_add (d * 4) 4764, rows_zero d, append-nil t) (simp append_assoc)

pub cleared : (lay : Layout) (k : Conf) (m a b : List ℕ) → a ≡ replicate (extent lay) 0 ++ drop (extent lay) m
    → b ≡ put a 0 (k.clients ∷ k.directories ∷ k.replicas ∷ k.f ∷ k.rq ∷ k.wq ∷ k.top ∷ k.columns ∷ []) → b ≡ words (blank lay.directories k) (drop (extent lay) m)
unfolding conf_words
cleared lay k m a b e f = f ∙ ap (λ (q : List ℕ). put q 0 (conf_words k)) e ∙ words_blank lay.directories k (drop (extent lay) m)

whole_blank : (n : ℕ) (k : Conf) → Whole (blank n k)
unfolding blank
whole_blank n k =
    record {
      spare = refl;
      clients = refl;
      gap = refl;
      replicas = refl;
      slots = refl;
      client_pages = all_replicate 8 no_client blank_client;
      stocks = all_replicate 7 no_replica blank_replica;
      slot_pages = all_replicate 128 no_message blank_message;
    }

module _ (lay : Layout) (k : Conf) (page : Page) where
  abbrev row_of : Directory
  row_of = record { down = 0; tag = first; set = all k.replicas }

  abbrev with_rows : Machine
  with_rows = with_directories (blank lay.directories k) k.directories row_of

  whole_rows : Whole with_rows
  unfolding blank
  whole_rows =
      record {
        spare = refl;
        clients = refl;
        gap = refl;
        replicas = refl;
        slots = refl;
        client_pages = (whole_blank lay.directories k).client_pages;
        stocks = (whole_blank lay.directories k).stocks;
        slot_pages = (whole_blank lay.directories k).slot_pages;
      }

  blank_room : Room lay (blank lay.directories k)
  unfolding blank
  blank_room = length-replicate lay.directories no_directory

  rows_room : Room lay with_rows
  rows_room = length_first_rows (λ d. row_of) k.directories (blank lay.directories k).directories ∙ blank_room

  laid_is : with_replicas with_rows k.replicas (entry 2 first page) ≡ new_machine lay.directories k page
  unfolding new_machine blank no_replica
  laid_is =
      λ j.
      record {
        conf = k;
        spare = replicate 8 0;
        clients = replicate 8 no_client;
        directories = rows_first (λ d. row_of) no_directory k.directories lay.directories j;
        gap = replicate 5 0;
        replicas = rows_first (with_first (entry 2 first page)) no_replica k.replicas 7 j;
        slots = replicate 128 no_message;
      }

  -- the writes one after the other
  pub laid : (m b c d : List ℕ) (s : ℕ) → b ≡ words (blank lay.directories k) (drop (extent lay) m) → s ≡ all k.replicas
      → c ≡ words (with_directories (machine_of lay b) k.directories (record { down = 0; tag = first; set = s })) (drop (extent lay) b)
      → d ≡ words (with_replicas (machine_of lay c) k.replicas (record { state = 2; tag = first; spare = 0; page = page })) (drop (extent lay) c)
      → d ≡ words (new_machine lay.directories k page) (drop (extent lay) m)
  laid m b c d s zb zs zc zd =
      let hb : Holds lay b (blank lay.directories k) (drop (extent lay) m) = record { is = zb; whole = whole_blank lay.directories k; room = blank_room } in
      let hc : Holds lay c with_rows (drop (extent lay) m) = holds_step hb (λ N. with_directories N k.directories row_of) c (rw zs at zc) whole_rows rows_room in
      zd
      ∙ ap (λ (N : Machine). words (with_replicas N k.replicas (entry 2 first page)) (drop (extent lay) c)) (holds_machine hc)
      ∙ rw (holds_rest hc, laid_is)
