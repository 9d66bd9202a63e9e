-- Set-up makes a sound machine, and every call keeps it so, whatever its numbers.
use Rattle.std.specs.Prelude.{Option, Some}
use mathlib.Core.Bool.{true, false, not, false≢true}
use mathlib.Core.Path.{◌≡◌, refl, sym, subst}
use Prim.Native.Nat.{ℕ, ◌≤◌}
use native.Mathlib.Omega.{arith}
use borrow.Author.Tests.{le-leb}
use lib.Dec.{T, eqb, eqb→eq}
use lib.ListN.{length}
use Rattle.sets.proofs.Tests.{T_false, not_not}
use Rattle.tables.specs.declared.Client.{Client}
use Rattle.tables.specs.declared.Message.{Message}
use Rattle.tables.specs.declared.Party.{Party}
use Rattle.tables.specs.declared.Party.TheVariants.{AClient, ADirectory, AReplica}
use Rattle.tables.specs.Kinds.{many_of, many_named}
use Rattle.tables.specs.Phases.{rounds_left, uses_page}
use Rattle.tables.specs.Tables.{Page, Machine, no_page, client_at, directory_at, replica_at, slot_at, is_empty}
use Rattle.tables.proofs.All.{length_with_row}
use Rattle.tables.proofs.Whole.{Paged, client_paged, slot_paged}
use Rattle.inspect.specs.Good.{zeros, good_client}
use Rattle.inspect.proofs.Facts.{MessageFacts, client_facts, replica_facts}
use Rattle.machine.specs.Effects.{Change, nothing, client, directory, replica, anew, Effect, changed, applied}
use Rattle.machine.specs.Calls.{Call, down_client, downed}
use Rattle.machine.specs.Steps.{Result, effect_of, code_of, step}
use Rattle.machine.specs.Buffers.{wrong_page, is_set_up}
use Rattle.machine.proofs.Quiet.{quiet_applied}
use Rattle.runs.proofs.Ways.{StepWay, refuses, accepts, step_way}
use Rattle.runs.proofs.Acts.{Among, Opens, Comes, begun, Acts, reads, writes, empties, directs, stores, hears, gossips, tidies, crashes, Accepted, renews, acts, accepted_by}
use Rattle.runs.proofs.Sound.{Sound, Fits, Keeps, applied_sound}
use Rattle.runs.proofs.Sent.{is_between, sends_none}
use Rattle.runs.proofs.Directories.{directory_fits, directory_after_lem, directory_sends}
use Rattle.runs.proofs.Replicas.{replica_fits, stores_tidied, gossip_sends, stores_after, replica_sends}
use Rattle.runs.proofs.Busy.{client_fits, busy_facts, started_busy, request_sends}
use Rattle.runs.proofs.Clients.{client_answers}
use Rattle.runs.proofs.New.{new_room, new_sound}
use Rattle.runs.proofs.Rows.{client_of_lem, directory_of_lem, replica_of, stores_of, message_of_lem}

pub paged : (page : Page) → T (not (not (eqb (length page) 16))) → Paged page
paged page h = eqb→eq (length page) 16 (not_not (eqb (length page) 16) h)

-- ---- what comes to a party of a sound machine

pub record Arrives (M : Machine) (who : Party) (s : ℕ) : Type 0 where
  pub full : T (not (is_empty (slot_at M s)))
  pub facts : MessageFacts M.conf (slot_at M s)
  pub receiver : Among (many_of M.conf who) (slot_at M s).receiver

pub arrives : {M : Machine} → Sound M → {who : Party} {s : ℕ} → Comes M who s → Arrives M who s
arrives {M} z {who} {s} k =
    let f = message_of_lem z s k.slot.low k.slot.high (T_false (is_empty (slot_at M s)) k.full) in
    record {
      full = k.full;
      facts = f;
      receiver = record { low = f.some_receiver; high = subst (λ (p : Option Party). (slot_at M s).receiver ≤ many_named M.conf p) k.whose f.receiver };
    }

-- ---- the effects keep a sound machine sound

module _ {M : Machine} (z : Sound M) where
  start_keeps : (c p : ℕ) (page : Page) → 1 ≤ p → p ≤ 6 → rounds_left p ≤ 2 → Opens M c → (uses_page p ≡ false → zeros page ≡ true) → Paged page → Keeps M.conf (begun M c p page)
  start_keeps c p page l h r o u q =
      let i = o.client in
      let f = client_facts M.conf (client_at M c) (client_of_lem z c i.low i.high) in
      let b = started_busy M.conf (client_at M c) f p page l h (omega (arith, o.unworn)) u q in
      record {
        change = client_fits M.conf c _ i.high (busy_facts b) q;
        post = request_sends b c (is_between 1 M.conf.clients c i.low i.high);
      }

  replica_down : (r : ℕ) → 1 ≤ r → r ≤ M.conf.replicas → (replica_at M r).down ≤ 1
  replica_down r l h = (replica_facts M.conf (replica_at M r) (replica_of z r l h)).down

  down_client_lem : (w : Client) → good_client M.conf w ≡ true → good_client M.conf (down_client w) ≡ true
  unfolding good_client
  down_client_lem w g = rw (le-leb w.down 1 (client_facts M.conf w g).down) at g

  downed_fits : (who : Party) (p : ℕ) → Among (many_of M.conf who) p → Fits M.conf (downed M (Some who) p)
  downed_fits AClient p i =
      client_fits M.conf p _ i.high (client_facts M.conf _ (down_client_lem (client_at M p) (client_of_lem z p i.low i.high))) (client_paged z.whole p)
  downed_fits ADirectory p i =
      let f = directory_of_lem z p i.low i.high in
      directory_fits M.conf p _ i.high (record { down = omega arith; tag = f.tag; set = f.set })
  downed_fits AReplica p i = replica_fits M.conf p _ i.high (omega arith) (stores_of z p i.low i.high)

  pub acts_keeps : {c : Call} {e : Effect} → T (not (wrong_page c)) → Acts M c e → Keeps M.conf e
  unfolding no_page zeros
  acts_keeps w (reads c o) = start_keeps c 1 no_page (omega arith) (omega arith) (omega arith) o (λ _. refl) refl
  acts_keeps w (writes c page o) = start_keeps c 4 page (omega arith) (omega arith) (omega arith) o (λ u. absurd (false≢true (sym u))) (paged page w)
  acts_keeps w (empties c slots n _ _) = record { change = tt; post = sends_none M.conf }
  acts_keeps w (directs s page k) =
      let x : Message = slot_at M s in
      let a = arrives z k in
      let f = directory_of_lem z x.receiver a.receiver.low a.receiver.high in
      record {
        change = directory_fits M.conf x.receiver _ a.receiver.high (directory_after_lem M.conf (directory_at M x.receiver) x f a.facts);
        post = directory_sends M.conf (directory_at M x.receiver) x f a.facts;
      }
  acts_keeps w (stores s page k _) =
      let x : Message = slot_at M s in
      let a = arrives z k in
      let f = stores_of z x.receiver a.receiver.low a.receiver.high in
      record {
        change = replica_fits M.conf x.receiver _ a.receiver.high (replica_down x.receiver a.receiver.low a.receiver.high) (stores_after M.conf f x a.facts (slot_paged z.whole s));
        post = replica_sends M.conf f x a.facts (slot_paged z.whole s);
      }
  acts_keeps w (hears s page k v) =
      let x : Message = slot_at M s in
      let own : ℕ = x.receiver in
      let a = arrives z k in
      let f = client_facts M.conf (client_at M own) (client_of_lem z own a.receiver.low a.receiver.high) in
      let b = client_answers M.conf own (client_at M own) x f (client_paged z.whole own) a.facts a.full a.receiver.low a.receiver.high v in
      record { change = client_fits M.conf own _ a.receiver.high b.facts b.page; post = b.post }
  acts_keeps w (gossips from to i j) =
      record {
        change = tt;
        post = gossip_sends M.conf (stores_of z from i.low i.high) from to (is_between 1 M.conf.replicas from i.low i.high) (is_between 1 M.conf.replicas to j.low j.high);
      }
  acts_keeps w (tidies r i) =
      record {
        change = replica_fits M.conf r _ i.high (replica_down r i.low i.high) (stores_tidied M.conf (stores_of z r i.low i.high));
        post = sends_none M.conf;
      }
  acts_keeps w (crashes kind id who i) = record { change = downed_fits who id i; post = sends_none M.conf }

-- ---- every call

-- set-up asks nothing of the machine before it
pub accepted_sound : (c : Call) (M : Machine) → (T (not (is_set_up c)) → Sound M) → T (not (wrong_page c)) → code_of c M ≡ 0 → Sound (applied (effect_of c M) M)
accepted_sound c M z w h = go (accepted_by c M h) z w
  where
    go : {c : Call} {e : Effect} → Accepted M c e → (T (not (is_set_up c)) → Sound M) → T (not (wrong_page c)) → Sound (applied e M)
    go (renews k page g) z w = rw (quiet_applied M (anew k page)) (new_sound k page (paged page w) (length M.directories) g)
    go (acts n a) z w = applied_sound (z n) (acts_keeps (z n) w a)

-- every call keeps a sound machine sound
pub step_sound : (c : Call) (M : Machine) → Sound M → T (not (wrong_page c)) → Sound (step c M).machine
step_sound c M z w = go (step_way c M)
  where
    go : {r : Result} → StepWay c M r → Sound r.machine
    go (refuses _) = z
    go (accepts e) = accepted_sound c M (λ _. z) w e

-- and as large as it was
changed_room : (x : Change) (M : Machine) → length (changed x M).directories ≡ length M.directories
changed_room nothing M = refl
changed_room (client c w) M = refl
changed_room (directory d w) M = length_with_row M.directories d w
changed_room (replica r w) M = refl
changed_room (anew k page) M = new_room (length M.directories) k page

pub step_room : (c : Call) (M : Machine) → length (step c M).machine.directories ≡ length M.directories
step_room c M = go (step_way c M)
  where
    go : {r : Result} → StepWay c M r → length r.machine.directories ≡ length M.directories
    go (refuses _) = refl
    go (accepts e) = changed_room (effect_of c M).change M
