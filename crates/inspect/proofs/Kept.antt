-- A good machine with one row rewritten within its rule is good.
use mathlib.Core.Bool.{true}
use mathlib.Core.Path.{◌≡◌}
use Prim.Native.Nat.{ℕ}
use Rattle.tables.specs.declared.Client.{Client}
use Rattle.tables.specs.declared.Directory.{Directory}
use Rattle.tables.specs.declared.Message.{Message}
use Rattle.tables.specs.Tables.{Replica, Machine, with_client, with_directory, with_replica, with_slot}
use Rattle.tables.proofs.All.{length_with_row}
use Rattle.inspect.specs.Good.{client_row, directory_row, replica_row, slot_row, good_machine}
use Rattle.inspect.proofs.Each.{row_replaced}
use Rattle.inspect.proofs.Machines.{clients_pass, directories_pass, replicas_pass, slots_pass}

module _ (M : Machine) (g : good_machine M ≡ true) where
  pub good_client_lem : (c : ℕ) (x : Client) → client_row M.conf c x ≡ true → good_machine (with_client M c x) ≡ true
  unfolding good_machine
  good_client_lem c x h = rw (row_replaced (client_row M.conf) M.clients c x h (clients_pass M g)) (rw (clients_pass M g) at g)

  pub good_directory_lem : (d : ℕ) (x : Directory) → directory_row M.conf d x ≡ true → good_machine (with_directory M d x) ≡ true
  unfolding good_machine
  good_directory_lem d x h = rw (length_with_row M.directories d x, row_replaced (directory_row M.conf) M.directories d x h (directories_pass M g)) (rw (directories_pass M g) at g)

  pub good_replica_lem : (r : ℕ) (x : Replica) → replica_row M.conf r x ≡ true → good_machine (with_replica M r x) ≡ true
  unfolding good_machine
  good_replica_lem r x h = rw (row_replaced (replica_row M.conf) M.replicas r x h (replicas_pass M g)) (rw (replicas_pass M g) at g)

  pub good_slot : (s : ℕ) (x : Message) → slot_row M.conf s x ≡ true → good_machine (with_slot M s x) ≡ true
  unfolding good_machine
  good_slot s x h = rw (row_replaced (slot_row M.conf) M.slots s x h (slots_pass M g)) (rw (slots_pass M g) at g)
