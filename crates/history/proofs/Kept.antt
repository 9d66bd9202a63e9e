-- THE INVARIANT IS KEPT by every accepted call.
use Rattle.std.specs.Prelude.{Some}
use mathlib.Core.Path.{◌≡◌, refl, sym, ap, subst, ◌∙◌}
use Prim.Native.Nat.{ℕ, ◌<◌}
use native.Mathlib.Nat.{le_refl, le_of_eq}
use native.Mathlib.Omega.{arith}
use lib.Dec.{T}
use Rattle.sets.proofs.TagOrder.{≼_refl}
use Rattle.tables.specs.declared.Client.{Client}
use Rattle.tables.specs.declared.Message.{Message}
use Rattle.tables.specs.declared.Party.{Party}
use Rattle.tables.specs.declared.Party.TheVariants.{AClient, ADirectory, AReplica}
use Rattle.tables.specs.Kinds.{many_of}
use Rattle.tables.specs.Tables.{Replica, Machine, no_page, no_message, client_at, directory_at, replica_at, slot_at}
use Rattle.tables.proofs.All.{all_row}
use Rattle.rules.specs.declared.Outcome.{Outcome}
use Rattle.rules.specs.declared.Outcome.TheVariants.{Waiting, Next, ReadEnded, WriteEnded, Spent, Stale}
use Rattle.rules.specs.Directory.{directory_after}
use Rattle.rules.specs.Replica.{replica_after}
use Rattle.rules.specs.Client.{idle, moved, started, heard, client_after}
use Rattle.rules.proofs.Covers.{covers_after, covers_tidied}
use Rattle.rules.proofs.DirectoryViews.{tag_rises}
use Rattle.rules.proofs.Every.{secured_tidied}
use Rattle.rules.proofs.Heard.{heard_keeps}
use Rattle.machine.specs.Effects.{Effect, applied}
use Rattle.machine.specs.Calls.{Call, downed, down_client}
use Rattle.runs.proofs.Acts.{Among, Acts, reads, writes, empties, directs, stores, hears, gossips, tidies, crashes, begun, directed, stored, answered}
use Rattle.runs.proofs.Sound.{Sound}
use Rattle.runs.proofs.Kept.{arrives}
use Rattle.history.proofs.Shape.{secured_in, client_set, directory_set, replica_set}
use Rattle.history.proofs.Invariant.{Known, MessageOk, Invariant}
use Rattle.history.proofs.Later.{settled, Moves, moves_not, Later, Moved, later}
use Rattle.history.proofs.Keeping.{unsent, RowOk, invariant_kept}
use Rattle.history.proofs.Directories.{directory_ok, directory_sends}
use Rattle.history.proofs.Replicas.{replica_ok, stored_ok, replica_sends, gossip_sends}
use Rattle.history.proofs.Clients.{client_ok, heard_settled, fine, read_starts, write_starts}

-- ---- what never falls

-- a row with a greater number
further : (w v : Client) → w.number < v.number → Moves w v
further w v l = record { number = omega arith; back = λ p n t s k h. absurd (omega (arith, h.number)) }

rests : (w : Client) → Moves w (idle w)
rests w = record { number = le_refl w.number; back = λ p n t s k h. absurd (subst (λ (q : ℕ). T (settled q)) (sym h.phase) s) }

moves_heard : (w : Client) (x : Message) → Moves w (heard w x)
moves_heard w x =
    record {
      number = le_of_eq (sym (heard_keeps w x).number);
      back = λ p n t s k h.
          let q : w.phase ≡ p = sym (heard_keeps w x).phase ∙ h.phase in
          record {
            phase = q;
            number = sym (heard_keeps w x).number ∙ h.number;
            tag = sym (ap (λ (v : Client). v.tag) (heard_settled w x p q s)) ∙ h.tag;
          };
    }

moves_after : (w : Client) (x : Message) (o : Outcome) → Moves w (client_after w x o)
unfolding client_after
moves_after w x Stale = moves_not w
moves_after w x Waiting = moves_heard w x
moves_after w x (Next t) = further w (moved (heard w x) t) (omega (arith, (heard_keeps w x).number))
moves_after w x (ReadEnded t n) = rests w
moves_after w x (WriteEnded t) = rests w
moves_after w x Spent = rests w

moves_down : (w : Client) → Moves w (down_client w)
moves_down w =
    record { number = le_refl w.number; back = λ p n t s k h. record { phase = h.phase; number = h.number; tag = h.tag } }

module _ (M : Machine) where
  downs : (who : Party) (p : ℕ) → Moved M (downed M (Some who) p)
  downs AClient p = moves_down (client_at M p)
  downs ADirectory p = ≼_refl (directory_at M p).tag
  downs AReplica p = λ t k. k

  acts_move : {c : Call} {e : Effect} → Acts M c e → Moved M e.change
  acts_move (reads c _) = further (client_at M c) (started (client_at M c) 1 no_page) (omega arith)
  acts_move (writes c page _) = further (client_at M c) (started (client_at M c) 4 page) (omega arith)
  acts_move (empties c slots n _ _) = tt
  acts_move (directs s page _) = tag_rises M.conf.f (directory_at M (slot_at M s).receiver) (slot_at M s)
  acts_move (stores s page _ _) = λ t k. covers_after (replica_at M (slot_at M s).receiver).entries (slot_at M s) t k
  acts_move (hears s page {o} _ _) = moves_after (client_at M (slot_at M s).receiver) (slot_at M s) o
  acts_move (gossips from to _ _) = tt
  acts_move (tidies r _) = λ t k. covers_tidied (replica_at M r).entries t k
  acts_move (crashes kind id who _) = downs who id

  pub acts_later : {c : Call} {e : Effect} → Acts M c e → Later M (applied e M)
  acts_later {c} {e} a = later M e (acts_move a)

-- ---- the invariant

-- of any slot
pub message_ok : {M : Machine} → Invariant M → (s : ℕ) → MessageOk M (slot_at M s)
unfolding no_message
message_ok v s = all_row no_message s tt v.messages

module _ (M : Machine) (z : Sound M) (v : Invariant M) where
  crash_ok : (who : Party) (p : ℕ) → Among (many_of M.conf who) p → RowOk M (downed M (Some who) p)
  crash_ok AClient p a = client_ok v p
  crash_ok ADirectory p a = v.directories p a.low a.high
  crash_ok AReplica p a = replica_ok v p

  pub invariant_acts : {c : Call} {e : Effect} → Acts M c e → Invariant (applied e M)
  invariant_acts (reads c o) =
      let h = read_starts M (applied (begun M c 1 no_page) M) c no_page in
      invariant_kept M v (begun M c 1 no_page) (acts_later M (reads c o)) h.0 (h.1 (client_set M z c o.client (started (client_at M c) 1 no_page)))
  invariant_acts (writes c page o) =
      let h = write_starts M (applied (begun M c 4 page) M) c page in
      invariant_kept M v (begun M c 4 page) (acts_later M (writes c page o)) h.0 (h.1 (client_set M z c o.client (started (client_at M c) 4 page)))
  invariant_acts {e = e} (empties c slots n q h) = invariant_kept M v e (acts_later M (empties c slots n q h)) tt (unsent (MessageOk (applied e M)))
  invariant_acts (directs s page k) =
      let a = (arrives z k).receiver in
      let h = v.directories (slot_at M s).receiver a.low a.high in
      let l = acts_later M (directs s page k) in
      invariant_kept M v (directed M s (slot_at M s) page) l (directory_ok M (slot_at M s) (message_ok v s) h)
      (directory_sends M (slot_at M s) (message_ok v s) h l
      (directory_set M z (slot_at M s).receiver a (directory_after M.conf.f (directory_at M (slot_at M s).receiver) (slot_at M s))))
  invariant_acts (stores s page k n) =
      let a = (arrives z k).receiver in
      let es = (replica_at M (slot_at M s).receiver).entries in
      let l = acts_later M (stores s page k n) in
      let ks = replica_ok v (slot_at M s).receiver in
      invariant_kept M v (stored M s (slot_at M s) page) l (stored_ok M (slot_at M s) (message_ok v s) es ks)
      (replica_sends M (slot_at M s) (message_ok v s) es ks l refl
      (ap (λ (r : Replica). r.entries) (replica_set M z (slot_at M s).receiver a (record { down = (replica_at M (slot_at M s).receiver).down; entries = replica_after es (slot_at M s) })))
      (secured_in M z (slot_at M s).receiver a) n M.conf.directories)
  invariant_acts (hears s page {o} k w) =
      let a = arrives z k in
      let l = acts_later M (hears s page k w) in
      let h = fine M z v (slot_at M s) (message_ok v s) a.facts a.receiver l w in
      invariant_kept M v (answered M s (slot_at M s) page o) l h.0
      (h.1 (client_set M z (slot_at M s).receiver a.receiver (client_after (client_at M (slot_at M s).receiver) (slot_at M s) o)))
  invariant_acts {e = e} (gossips from to a b) =
      let l = acts_later M (gossips from to a b) in
      invariant_kept M v e l tt (gossip_sends l (replica_at M from).entries (replica_ok v from) (secured_in M z from a) from to)
  invariant_acts {e = e} (tidies r a) =
      invariant_kept M v e (acts_later M (tidies r a)) (secured_tidied (Known M) (replica_ok v r)) (unsent (MessageOk (applied e M)))
  invariant_acts {e = e} (crashes kind id who a) =
      invariant_kept M v e (acts_later M (crashes kind id who a)) (crash_ok who id a) (unsent (MessageOk (applied e M)))
