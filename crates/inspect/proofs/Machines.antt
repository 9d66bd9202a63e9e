-- What a good machine says, table by table, and of each row in use.
use mathlib.Core.Bool.{true, false, and-false}
use mathlib.Core.List.{List}
use mathlib.Core.Path.{◌≡◌}
use Prim.Native.Nat.{ℕ, ◌≤◌}
use borrow.Author.Tests.{le-leb}
use lib.ListN.{length}
use Rattle.sets.proofs.Tests.{passes_by}
use Rattle.tables.specs.declared.Layout.{Layout}
use Rattle.tables.specs.Tables.{Machine, no_client, no_directory, no_replica, no_message, client_at, directory_at, replica_at, slot_at, is_empty}
use Rattle.tables.specs.Machines.{machine_of}
use Rattle.inspect.specs.Good.{zeros, each_row, good_numbers, good_client, good_directory, good_replica, good_message, client_row, directory_row, replica_row, slot_row, good_machine, good}
use Rattle.inspect.proofs.Each.{row_passes}

module _ (M : Machine) (g : good_machine M ≡ true) where
  pub numbers_pass : good_numbers (length M.directories) M.conf ≡ true
  unfolding good_machine
  numbers_pass = passes_by (good_numbers (length M.directories) M.conf) (good_machine M) (λ f. simp f) g

  pub spare_pass : zeros M.spare ≡ true
  unfolding good_machine
  spare_pass = passes_by (zeros M.spare) (good_machine M) (λ f. simp (f, and-false)) g

  pub clients_pass : each_row (client_row M.conf) 1 M.clients ≡ true
  unfolding good_machine
  clients_pass = passes_by (each_row (client_row M.conf) 1 M.clients) (good_machine M) (λ f. simp (f, and-false)) g

  pub directories_pass : each_row (directory_row M.conf) 1 M.directories ≡ true
  unfolding good_machine
  directories_pass = passes_by (each_row (directory_row M.conf) 1 M.directories) (good_machine M) (λ f. simp (f, and-false)) g

  pub gap_pass : zeros M.gap ≡ true
  unfolding good_machine
  gap_pass = passes_by (zeros M.gap) (good_machine M) (λ f. simp (f, and-false)) g

  pub replicas_pass : each_row (replica_row M.conf) 1 M.replicas ≡ true
  unfolding good_machine
  replicas_pass = passes_by (each_row (replica_row M.conf) 1 M.replicas) (good_machine M) (λ f. simp (f, and-false)) g

  pub slots_pass : each_row (slot_row M.conf) 1 M.slots ≡ true
  unfolding good_machine
  slots_pass = passes_by (each_row (slot_row M.conf) 1 M.slots) (good_machine M) (λ f. simp (f, and-false)) g

  -- a row in use
  pub client_good : (c : ℕ) → 1 ≤ c → c ≤ M.conf.clients → c ≤ length M.clients → good_client M.conf (client_at M c) ≡ true
  unfolding client_row
  client_good c l u h = rw (le-leb c M.conf.clients u) at (row_passes (client_row M.conf) M.clients no_client c l h clients_pass)

  pub directory_good : (d : ℕ) → 1 ≤ d → d ≤ M.conf.directories → d ≤ length M.directories → good_directory M.conf (directory_at M d) ≡ true
  unfolding directory_row
  directory_good d l u h =
      rw (le-leb d M.conf.directories u) at (row_passes (directory_row M.conf) M.directories no_directory d l h directories_pass)

  pub replica_good : (r : ℕ) → 1 ≤ r → r ≤ M.conf.replicas → r ≤ length M.replicas → good_replica M.conf (replica_at M r) ≡ true
  unfolding replica_row
  replica_good r l u h = rw (le-leb r M.conf.replicas u) at (row_passes (replica_row M.conf) M.replicas no_replica r l h replicas_pass)

  pub slot_good : (s : ℕ) → 1 ≤ s → s ≤ length M.slots → slot_row M.conf s (slot_at M s) ≡ true
  slot_good s l h = row_passes (slot_row M.conf) M.slots no_message s l h slots_pass

  pub message_good : (s : ℕ) → 1 ≤ s → s ≤ length M.slots → is_empty (slot_at M s) ≡ false → good_message M.conf (slot_at M s) ≡ true
  unfolding slot_row
  message_good s l h u = rw u at (slot_good s l h)

-- of a buffer
pub good_machine_lem : (lay : Layout) (m : List ℕ) → good lay m ≡ true → good_machine (machine_of lay m) ≡ true
unfolding good
good_machine_lem lay m g = g
