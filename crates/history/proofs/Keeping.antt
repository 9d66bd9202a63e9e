-- What is left to show of a step for the invariant: the changed row, and the messages sent.
use mathlib.Core.Path.{sym, subst}
use mathlib.Core.List.{List}
use Prim.Native.Nat.{ℕ}
use Rattle.sets.specs.Sets.{only}
use Rattle.sets.proofs.Laws.{none_in, only_in}
use Rattle.tables.specs.declared.Message.{Message}
use Rattle.tables.specs.Tables.{Machine, no_directory, no_message, with_slots}
use Rattle.tables.proofs.All.{All, all_map, all_with_row}
use Rattle.mail.specs.Posts.{post, no_post, to_receiver}
use Rattle.machine.specs.Effects.{Change, nothing, client, directory, replica, anew, Effect, changed, applied}
use Rattle.runs.proofs.Rows.{row_ind}
use Rattle.history.proofs.Rows.{Sent, all_slots}
use Rattle.history.proofs.Invariant.{Told, MessageOk, ClientOk, ReplicaOk, Invariant}
use Rattle.history.proofs.Later.{Later, told_later, client_later, replica_later, message_later}

-- ---- posts

module _ (P : Message → Type 0) where
  pub unsent : Sent P no_post
  unsent p h = absurd (none_in p h)

  pub to_one : (x : Message) (q : ℕ) → P (to_receiver x q) → Sent P (post x (only q))
  to_one x q h p k = subst (λ (z : ℕ). P (to_receiver x z)) (sym (only_in p q k)) h

-- ---- rows

abbrev pub RowOk : Machine → Change → Type 0
RowOk M nothing = Unit
RowOk M (client c w) = ClientOk M w
RowOk M (directory d w) = Told M w.tag w.set
RowOk M (replica r w) = ReplicaOk M w
RowOk M (anew k page) = ⊥

module _ (M : Machine) (v : Invariant M) where
  rows_kept : (y : Change) (ss : List Message) → Later M (with_slots (changed y M) ss) → RowOk M y → All (MessageOk (with_slots (changed y M) ss)) ss
      → Invariant (with_slots (changed y M) ss)
  rows_kept nothing ss l h ms =
      record {
        clients = all_map (client_later l) v.clients;
        directories = λ d a b. told_later l (v.directories d a b);
        replicas = all_map (replica_later l) v.replicas;
        messages = ms;
      }
  rows_kept (client c w) ss l h ms =
      record {
        clients = all_with_row c w (client_later l w h) (all_map (client_later l) v.clients);
        directories = λ d a b. told_later l (v.directories d a b);
        replicas = all_map (replica_later l) v.replicas;
        messages = ms;
      }
  rows_kept (directory d w) ss l h ms =
      record {
        clients = all_map (client_later l) v.clients;
        directories = λ q a b.
            row_ind (λ u. Told (with_slots (changed (directory d w) M) ss) u.tag u.set) no_directory M.directories d q w (λ _. told_later l h)
            (told_later l (v.directories q a b));
        replicas = all_map (replica_later l) v.replicas;
        messages = ms;
      }
  rows_kept (replica r w) ss l h ms =
      record {
        clients = all_map (client_later l) v.clients;
        directories = λ d a b. told_later l (v.directories d a b);
        replicas = all_with_row r w (replica_later l w h) (all_map (replica_later l) v.replicas);
        messages = ms;
      }
  rows_kept (anew k page) ss l h ms = absurd h

  pub invariant_kept : (e : Effect) → Later M (applied e M) → RowOk M e.change → Sent (MessageOk (applied e M)) e.post → Invariant (applied e M)
  unfolding no_message
  invariant_kept e l h s =
      rows_kept e.change (applied e M).slots l h (all_slots (MessageOk (applied e M)) M e tt s (all_map (message_later l) v.messages))
