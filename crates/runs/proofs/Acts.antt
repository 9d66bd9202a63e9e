-- What an accepted call does: one walk through the calls, each way with its effect and what is then known. Later proofs are by cases over these ways, and a new call that does what another does costs them nothing.
use Rattle.std.specs.Prelude.{Option, None, Some}
use mathlib.Core.Bool.{true, not, ◌||◌}
use mathlib.Core.List.{List, [], ◌∷◌}
use mathlib.Core.Logic.{⊎_elim}
use mathlib.Core.Path.{◌≡◌, refl}
use Prim.Native.Nat.{ℕ, ◌+◌, ◌≤◌}
use lib.Dec.{T, eqb, leb, eqb→eq, leb→le, nltb→le, T_not}
use lib.ListN.{length}
use Rattle.sets.specs.Plain.{one_of}
use Rattle.sets.proofs.Tests.{T_true, not_not, and_elim, neither, not_both, if_ind}
use Rattle.tables.specs.declared.Conf.{Conf}
use Rattle.tables.specs.declared.Message.{Message}
use Rattle.tables.specs.declared.Party.{Party}
use Rattle.tables.specs.declared.Party.TheVariants.{AClient, ADirectory, AReplica}
use Rattle.tables.specs.Kinds.{receiver_of, many_of}
use Rattle.tables.specs.Tables.{Page, no_page, Machine, client_at, directory_at, replica_at, slot_at, is_empty}
use Rattle.mail.specs.Posts.{no_post}
use Rattle.inspect.specs.Good.{between, good_numbers, is_party, is_named_party}
use Rattle.rules.specs.declared.Outcome.{Outcome}
use Rattle.rules.specs.Answers.{coded, answer_of}
use Rattle.rules.specs.Directory.{directory_after, directory_post}
use Rattle.rules.specs.Replica.{tidied, replica_after, replica_post, is_full, gossip_post}
use Rattle.rules.specs.Client.{started, client_after, request, client_post}
use Rattle.rules.proofs.Views.{View, view}
use Rattle.machine.specs.Effects.{nothing, client, directory, replica, anew, Effect}
use Rattle.machine.specs.Calls.{Call, set_up, start_read, start_write, deliver, gossip, tidy, crash, report, party_of, asks, asked, is_down, done, emptying, downed, start_effect, gossip_effect, tidy_effect, crash_effect}
use Rattle.machine.specs.Deliver.{taken, filled, received, client_effect, directory_effect, replica_effect, deliver_effect}
use Rattle.machine.specs.Refusals.{is_busy, is_worn}
use Rattle.machine.specs.Steps.{effect_of, code_of}
use Rattle.machine.specs.Buffers.{is_set_up}
use Rattle.runs.proofs.Ways.{Allowed, allowed}

-- party p of n
pub record Among (n p : ℕ) : Type 0 where
  pub low : 1 ≤ p
  pub high : p ≤ n

pub among : (n p : ℕ) → T (between 1 n p) → Among n p
among n p h = let q = and_elim (leb 1 p) (leb p n) h in record { low = leb→le 1 p q.0; high = leb→le p n q.1 }

-- a client that may start
pub record Opens (M : Machine) (c : ℕ) : Type 0 where
  pub client : Among M.conf.clients c
  pub idle : (client_at M c).phase ≡ 0
  pub unworn : (client_at M c).number + 3 ≤ M.conf.top

-- the message of a slot is delivered to a party of the kind `who`
pub record Comes (M : Machine) (who : Party) (s : ℕ) : Type 0 where
  pub slot : Among 128 s
  pub full : T (not (is_empty (slot_at M s)))
  pub whose : receiver_of (slot_at M s).kind ≡ Some who

-- ---- the effects, written out

module _ (M : Machine) where
  abbrev pub begun : ℕ → ℕ → Page → Effect
  begun c phase page = done (client c (started (client_at M c) phase page)) (request M.conf c (started (client_at M c) phase page))

  abbrev pub directed : ℕ → Message → Page → Effect
  directed s x page =
      taken s (directory x.receiver (directory_after M.conf.f (directory_at M x.receiver) x)) (directory_post (directory_at M x.receiver) x) (coded 0) page

  abbrev pub stored : ℕ → Message → Page → Effect
  stored s x page =
      taken s (replica x.receiver (record { down = (replica_at M x.receiver).down; entries = replica_after (replica_at M x.receiver).entries x }))
      (replica_post M.conf.directories (replica_at M x.receiver).entries x) (coded 0) page

  abbrev pub answered : ℕ → Message → Page → Outcome → Effect
  answered s x page o =
      taken s (client x.receiver (client_after (client_at M x.receiver) x o))
      (client_post M.conf x.receiver (client_at M x.receiver) (client_after (client_at M x.receiver) x o) o) (answer_of x.receiver o) (filled o x page)

-- ---- the ways

-- of any call but set-up; one that only empties slots, or none, starts nothing and answers 0 or 4
pub data Acts (M : Machine) : Call → Effect → Type 0 where
  reads : (c : ℕ) → Opens M c → Acts M (start_read c) (begun M c 1 no_page)
  writes : (c : ℕ) (page : Page) → Opens M c → Acts M (start_write c page) (begun M c 4 page)
  empties : (c : Call) (slots : List ℕ) (code : ℕ) → T (one_of code (0 ∷ 4 ∷ [])) → (asks c).start ≡ None → Acts M c (emptying slots code (asks c).fill)
  directs : (s : ℕ) (page : Page) → Comes M ADirectory s → Acts M (deliver s page) (directed M s (slot_at M s) page)
  stores : (s : ℕ) (page : Page) → Comes M AReplica s → T (not (is_full (replica_at M (slot_at M s).receiver).entries (slot_at M s)))
      → Acts M (deliver s page) (stored M s (slot_at M s) page)
  hears : (s : ℕ) (page : Page) {o : Outcome} → Comes M AClient s → View M.conf (slot_at M s).receiver (client_at M (slot_at M s).receiver) (slot_at M s) o
      → Acts M (deliver s page) (answered M s (slot_at M s) page o)
  gossips : (from to : ℕ) → Among M.conf.replicas from → Among M.conf.replicas to
      → Acts M (gossip from to) (done nothing (gossip_post (replica_at M from).entries from to))
  tidies : (r : ℕ) → Among M.conf.replicas r
      → Acts M (tidy r) (done (replica r (record { down = (replica_at M r).down; entries = tidied (replica_at M r).entries })) no_post)
  crashes : (kind id : ℕ) (who : Party) → Among (many_of M.conf who) id → Acts M (crash kind id) (done (downed M (Some who) id) no_post)

-- any call
pub data Accepted (M : Machine) : Call → Effect → Type 0 where
  renews : (k : Conf) (page : Page) → good_numbers (length M.directories) k ≡ true → Accepted M (set_up k page) (done (anew k page) no_post)
  acts : {c : Call} {e : Effect} → T (not (is_set_up c)) → Acts M c e → Accepted M c e

-- ---- the walk

module _ (M : Machine) where
  party : (who : Party) (p : ℕ) → T (not (not (is_party M.conf who p))) → Among (many_of M.conf who) p
  party who p h = among (many_of M.conf who) p (not_not (is_party M.conf who p) h)

  opens : (c : ℕ) → T (not (not (is_party M.conf AClient c))) → T (not (is_busy M c)) → T (not (is_worn M c)) → Opens M c
  opens c a i u =
      record {
        client = party AClient c a;
        idle = eqb→eq (client_at M c).phase 0 (not_not (eqb (client_at M c).phase 0) i);
        unworn = nltb→le M.conf.top ((client_at M c).number + 3) u;
      }

  module _ (s : ℕ) (page : Page) (h : Allowed (deliver s page) M) where
    abbrev x : Message
    x = slot_at M s

    comes : (who : Party) → receiver_of x.kind ≡ Some who → Comes M who s
    comes who e = record { slot = among 128 s (not_not (between 1 128 s) h.argument); full = h.filled; whose = e }

    takes : (who : Option Party) → receiver_of x.kind ≡ who → T (not (asked (λ party. is_down M party x.receiver) who)) → Acts M (deliver s page) (received who M s x page)
    unfolding client_effect directory_effect replica_effect
    takes None e up = empties (deliver s page) (s ∷ []) 0 tt refl
    takes (Some AClient) e up = hears s page (comes AClient e) (view M.conf x.receiver (client_at M x.receiver) x h.filled)
    takes (Some ADirectory) e up = directs s page (comes ADirectory e)
    takes (Some AReplica) e up =
        stores s page (comes AReplica e)
        (⊎_elim (λ u. absurd (T_not (not (is_down M AReplica x.receiver)) u up)) (λ u. u)
        (not_both (not (is_down M AReplica x.receiver)) (is_full (replica_at M x.receiver).entries x) h.free))

    delivered : Acts M (deliver s page) (deliver_effect M s page)
    unfolding deliver_effect
    delivered =
        if_ind (Acts M (deliver s page)) (asked (λ party. is_down M party x.receiver) (receiver_of x.kind)) (λ _. empties (deliver s page) (s ∷ []) 4 tt refl) (takes (receiver_of x.kind) refl)

  crashed : (kind id : ℕ) (who : Option Party) → T (not (not (is_named_party M.conf who id))) → Acts M (crash kind id) (done (downed M who id) no_post)
  crashed kind id None h = absurd h
  crashed kind id (Some who) h = crashes kind id who (party who id h)

  by_call : (c : Call) → Allowed c M → Accepted M c (effect_of c M)
  unfolding effect_of start_effect gossip_effect tidy_effect crash_effect
  by_call (set_up k page) h =
      let n = length M.directories in
      renews k page (T_true (good_numbers n k) (not_not (good_numbers n k) h.argument))
  by_call (start_read c) h = acts tt (reads c (opens c h.argument h.idle h.unworn))
  by_call (start_write c page) h = acts tt (writes c page (opens c h.argument h.idle h.unworn))
  by_call (deliver s page) h = acts tt (delivered s page h)
  by_call (gossip from to) h =
      let a = not (is_party M.conf AReplica from) in
      let b = not (is_party M.conf AReplica to) in
      let i = neither a b (neither (a || b) (eqb from to) h.argument).0 in
      acts tt (gossips from to (party AReplica from i.0) (party AReplica to i.1))
  by_call (tidy r) h = acts tt (tidies r (party AReplica r h.argument))
  by_call (crash kind id) h = acts tt (crashed kind id (party_of kind) h.argument)
  by_call report h = acts tt (empties report [] 0 tt refl)

pub accepted_by : (c : Call) (M : Machine) → code_of c M ≡ 0 → Accepted M c (effect_of c M)
accepted_by c M h = by_call M c (allowed c M h)
