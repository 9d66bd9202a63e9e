-- A row after another row is replaced; and the rows of a sound machine: what is known of each that a call names.
use mathlib.Core.Bool.{true, false}
use mathlib.Core.List.{List, [], ◌∷◌}
use mathlib.Core.Path.{◌≡◌, refl, ap}
use Prim.Native.Nat.{ℕ, zero, suc, ◌≤◌}
use native.Mathlib.Omega.{arith}
use lib.ListN.{length, get_or, set}
use lib.Seq.{get_or-set_same}
use Rattle.tables.specs.Rows.{row, with_row}
use Rattle.tables.specs.Tables.{Machine, client_at, directory_at, replica_at, slot_at, is_empty}
use Rattle.tables.proofs.Whole.{replica_stocked}
use Rattle.inspect.specs.Good.{good_client, good_replica}
use Rattle.inspect.proofs.Facts.{NumbersFacts, DirectoryFacts, MessageFacts, numbers_facts, directory_facts, message_facts}
use Rattle.inspect.proofs.Machines.{numbers_pass, client_good, directory_good, replica_good, message_good}
use Rattle.runs.proofs.Sound.{Sound}
use Rattle.runs.proofs.Replicas.{Stores, stores}

-- ---- any rows

module _ {A : Type 0} where
  set_ind : (P : A → Type 0) (d : A) (l : List A) (i j : ℕ) (x : A) → (i ≡ j → P x) → P (get_or l j d) → P (get_or (set l i x) j d)
  set_ind P d [] i j x f h = h
  set_ind P d (y ∷ l) zero zero x f h = f refl
  set_ind P d (y ∷ l) zero (suc j) x f h = h
  set_ind P d (y ∷ l) (suc i) zero x f h = h
  set_ind P d (y ∷ l) (suc i) (suc j) x f h = set_ind P d l i j x (λ e. f (ap suc e)) h

  -- row q after x became row p
  pub row_ind : (P : A → Type 0) (d : A) (l : List A) (p q : ℕ) (x : A) → (p ≡ q → P x) → P (row d l q) → P (row d (with_row l p x) q)
  row_ind P d l zero q x f h = h
  row_ind P d l (suc p) zero x f h = h
  row_ind P d l (suc p) (suc q) x f h = set_ind P d l p q x (λ e. f (ap suc e)) h

  pub row_same : (d : A) (l : List A) (p : ℕ) (x : A) → 1 ≤ p → p ≤ length l → row d (with_row l p x) p ≡ x
  row_same d l zero x h k = absurd (omega arith)
  row_same d l (suc p) x h k = get_or-set_same l p x d k

-- ---- a sound machine

module _ {M : Machine} (z : Sound M) where
  pub numbers_of_lem : NumbersFacts (length M.directories) M.conf
  numbers_of_lem = numbers_facts (length M.directories) M.conf (numbers_pass M z.good)

  pub client_of_lem : (c : ℕ) → 1 ≤ c → c ≤ M.conf.clients → good_client M.conf (client_at M c) ≡ true
  client_of_lem c l h = let n = numbers_of_lem in client_good M z.good c l h (omega (arith, z.whole.clients))

  pub directory_of_lem : (d : ℕ) → 1 ≤ d → d ≤ M.conf.directories → DirectoryFacts M.conf (directory_at M d)
  directory_of_lem d l h =
      let n = numbers_of_lem in
      directory_facts M.conf (directory_at M d) (directory_good M z.good d l h (omega arith))

  pub replica_of : (r : ℕ) → 1 ≤ r → r ≤ M.conf.replicas → good_replica M.conf (replica_at M r) ≡ true
  replica_of r l h = let n = numbers_of_lem in replica_good M z.good r l h (omega (arith, z.whole.replicas))

  pub stores_of : (r : ℕ) → 1 ≤ r → r ≤ M.conf.replicas → Stores M.conf (replica_at M r).entries
  stores_of r l h = stores M.conf (replica_at M r) (replica_of r l h) (replica_stocked z.whole r)

  pub message_of_lem : (s : ℕ) → 1 ≤ s → s ≤ 128 → is_empty (slot_at M s) ≡ false → MessageFacts M.conf (slot_at M s)
  message_of_lem s l h e = message_facts M.conf (slot_at M s) (message_good M z.good s l (omega (arith, z.whole.slots)) e)
