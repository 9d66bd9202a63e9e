-- A request of a client's phase is delivered to a party that is up: its reply waits, and nothing else that the operation needs is lost.
use Rattle.std.specs.Prelude.{Some, if◌then◌else◌}
use mathlib.Core.Path.{◌≡◌, refl, sym, ap, ◌∙◌}
use mathlib.Core.Bool.{false, not, and-false}
use mathlib.Core.List.{List, [], ◌∷◌}
use Prim.Native.Nat.{ℕ, suc, ◌≤◌, ◌<◌}
use native.Mathlib.Omega.{arith}
use lib.Dec.{T, eqb}
use lib.ListN.{length}
use Rattle.sets.specs.declared.Tag.{Tag}
use Rattle.sets.specs.Tags.{first}
use Rattle.sets.specs.Sets.{has, only}
use Rattle.sets.proofs.Laws.{only_lt, in_only, size_only}
use Rattle.sets.proofs.Tests.{T_true, T_false}
use Rattle.tables.specs.declared.Client.{Client}
use Rattle.tables.specs.declared.Directory.{Directory}
use Rattle.tables.specs.declared.Message.{Message}
use Rattle.tables.specs.declared.Party.TheVariants.{ADirectory, AReplica}
use Rattle.tables.specs.Kinds.{receiver_of}
use Rattle.tables.specs.Phases.{asks_directories}
use Rattle.tables.specs.Rows.{some?}
use Rattle.tables.specs.Tables.{Page, Replica, Machine, no_page, no_directory, no_replica, client_at, directory_at, replica_at, slot_at, with_slots, is_empty, is_free}
use Rattle.mail.specs.Posts.{message, post, to_receiver, messages_of}
use Rattle.mail.specs.Slots.{empty_slots}
use Rattle.mail.proofs.Messages.{length_messages}
use Rattle.rules.specs.Answers.{coded}
use Rattle.rules.specs.Directory.{directory_after, directory_post}
use Rattle.rules.specs.Replica.{read, mark, is_full, replica_after, replica_post}
use Rattle.rules.specs.Client.{awaited}
use Rattle.rules.proofs.DirectoryViews.{DirectoryView, joins, takes, adds, stays, directory_view}
use Rattle.machine.specs.Effects.{Change, directory, replica, Effect, changed}
use Rattle.machine.specs.Calls.{asked, is_down, emptying}
use Rattle.machine.specs.Deliver.{taken, received, deliver_effect, directory_effect, replica_effect}
use Rattle.machine.specs.Refusals.{is_overfull}
use Rattle.runs.proofs.Acts.{Among}
use Rattle.runs.proofs.Rows.{row_ind, numbers_of_lem}
use Rattle.history.proofs.Walk.{Good}
use Rattle.fewest.proofs.Waiting.{Somewhere, at, found}
use Rattle.fewest.proofs.Delivery.{Ends, Taken, good_after, room_after, waits_on, sends, ends_more}

-- ---- phases and messages

-- the phases of an open operation
pub data Phase : ℕ → Type 0 where
  rdr : Phase 1
  rdw : Phase 2
  rrr : Phase 3
  wdr : Phase 4
  wrw : Phase 5
  wdw : Phase 6

-- the kind of a phase's request
abbrev pub ask_kind : ℕ → ℕ
ask_kind p = if eqb p 1 then 1 else if eqb p 2 then 2 else if eqb p 3 then 9 else if eqb p 4 then 3 else if eqb p 5 then 10 else if eqb p 6 then 4 else 0

-- a message of this kind, from and to these parties, under message number n
pub data Mail (k from to n : ℕ) : Message → Type 0 where
  mail : (t : Tag) (set spare : ℕ) (page : Page)
      → Mail k from to n (record { kind = k; sender = from; receiver = to; tag = t; set = set; number = n; spare = spare; page = page })

pub parts : {k from to n : ℕ} {x : Message} → Mail k from to n x → (x.kind ≡ k) × (x.sender ≡ from) × (x.receiver ≡ to)
parts (mail t set spare page) = (refl, refl, refl)

-- the reply of party q; in phase 4 its number is below top
pub record Reply (p q c n top : ℕ) (x : Message) : Type 0 where
  pub mail : Mail (awaited p) q c n x
  pub below : p ≡ 4 → x.tag.number < top

-- ---- the state of an operation that began at B

-- nobody fell since, and in phase 4 the replicas are as they were
pub record Kept (B : Machine) (p : ℕ) (N : Machine) : Type 0 where
  pub conf : N.conf ≡ B.conf
  pub directories : (d : ℕ) → (directory_at N d).down ≡ (directory_at B d).down
  pub replicas : (r : ℕ) → (replica_at N r).down ≡ (replica_at B r).down
  pub stock : p ≡ 4 → N.replicas ≡ B.replicas

kept_on : {L M N : Machine} {p : ℕ} → Kept L p M → Kept M p N → (ss : List Message) → Kept L p (with_slots N ss)
kept_on a b ss =
    record { conf = b.conf ∙ a.conf; directories = λ d. b.directories d ∙ a.directories d; replicas = λ r. b.replicas r ∙ a.replicas r; stock = λ e. b.stock e ∙ a.stock e }

-- client c is up in phase p with the row w, and E slots are empty
pub record On (B : Machine) (c E p : ℕ) (w : Client) (N : Machine) : Type 0 where
  pub good : Good N
  pub kept : Kept B p N
  pub party : Among N.conf.clients c
  pub row : client_at N c ≡ w
  pub phase : w.phase ≡ p
  pub up : w.down ≡ 0
  pub room : E ≤ empty_slots N.slots
  pub below : p ≡ 4 → w.tag.number < B.conf.top

-- a party with these rows can answer in phase p
pub record Able (p top : ℕ) (d : Directory) (r : Replica) : Type 0 where
  pub up : T (not (eqb (if asks_directories p then d.down else r.down) 1))
  pub below : p ≡ 4 → d.tag.number < top
  pub free : p ≡ 5 → T (some? is_free r.entries)

-- party q can answer, and its request waits
pub record Due (B : Machine) (c p n : ℕ) (N : Machine) (q : ℕ) : Type 0 where
  pub able : Able p B.conf.top (directory_at N q) (replica_at N q)
  pub asks : Somewhere (Mail (ask_kind p) c q n) N.slots

-- the reply of party q waits, the first from it
pub record Replied (B : Machine) (c E p q : ℕ) (w : Client) (N : Machine) : Type 0 where
  pub on : On B c E p w N
  pub reply : Somewhere (Reply p q c w.number B.conf.top) N.slots
  pub new : has w.answered q ≡ false

-- ---- what a server does with a request

-- what the message x in slot s does
abbrev pub effect_on : Machine → ℕ → Message → Effect
effect_on M s x = if asked (λ party. is_down M party x.receiver) (receiver_of x.kind) then emptying (s ∷ []) 4 no_page else received (receiver_of x.kind) M s x no_page

-- server q takes x: its reply goes to client c, it changes no row but its own, and does not fall
record Serves (M : Machine) (s p c q n top : ℕ) (x : Message) : Type 0 where
  change : Change
  reply : Message
  does : effect_on M s x ≡ taken s change (post reply (only c)) (coded 0) no_page
  free : is_overfull M x ≡ false
  full : is_empty reply ≡ false
  answers : Reply p q c n top (to_receiver reply c)
  kept : Kept M p (changed change M)
  clients : (changed change M).clients ≡ M.clients
  mail : (changed change M).slots ≡ M.slots
  others : (r : ℕ) → (r ≡ q → ⊥) → Able p top (directory_at M r) (replica_at M r) → Able p top (directory_at (changed change M) r) (replica_at (changed change M) r)

down_same : (f : ℕ) (d : Directory) (x : Message) → (directory_after f d x).down ≡ d.down
down_same f d x = go (directory_view f d x)
  where
    go : {y : Directory} → DirectoryView f d x y → y.down ≡ d.down
    go (joins _ _) = refl
    go (takes _ _ _) = refl
    go (adds _ _) = refl
    go (stays _) = refl

-- a request of phase p, and the reply y to it
module _ (M : Machine) (s p c q n top : ℕ) (t : Tag) (set spare : ℕ) (page : Page) (y : Message) (a : Mail (awaited p) q c n (to_receiver y c)) (full : is_empty y ≡ false) where
  abbrev x : Message
  x = record { kind = ask_kind p; sender = c; receiver = q; tag = t; set = set; number = n; spare = spare; page = page }

  abbrev new_d : Directory
  new_d = directory_after M.conf.f (directory_at M q) x

  abbrev new_r : Replica
  new_r = record { down = (replica_at M q).down; entries = replica_after (replica_at M q).entries x }

  by_directory : receiver_of (ask_kind p) ≡ Some ADirectory → directory_post (directory_at M q) x ≡ post y (only c) → is_full (replica_at M q).entries x ≡ false
      → T (not (is_down M ADirectory q)) → (p ≡ 4 → y.tag.number < top) → Serves M s p c q n top x
  unfolding directory_effect
  by_directory r e f u b =
      record {
        change = directory q new_d;
        reply = y;
        does = rw (r, T_false (is_down M ADirectory q) u, e);
        free = simp (f, and-false);
        full = full;
        answers = record { mail = a; below = b };
        kept = record {
          conf = refl;
          directories = λ d. row_ind (λ (v : Directory). v.down ≡ (directory_at M d).down) no_directory M.directories q d new_d
              (λ (e : q ≡ d). down_same M.conf.f (directory_at M q) x ∙ ap (λ (z : ℕ). (directory_at M z).down) e) refl;
          replicas = λ _. refl;
          stock = λ _. refl;
        };
        clients = refl;
        mail = refl;
        others = λ r z u. row_ind (λ (v : Directory). Able p top v (replica_at M r)) no_directory M.directories q r new_d (λ (e : q ≡ r). absurd (z (sym e))) u;
      }

  by_replica : receiver_of (ask_kind p) ≡ Some AReplica → replica_post M.conf.directories (replica_at M q).entries x ≡ post y (only c) → is_full (replica_at M q).entries x ≡ false
      → T (not (is_down M AReplica q)) → (p ≡ 4 → ⊥) → Serves M s p c q n top x
  unfolding replica_effect
  by_replica r e f u not4 =
      record {
        change = replica q new_r;
        reply = y;
        does = rw (r, T_false (is_down M AReplica q) u, e);
        free = simp (f, and-false);
        full = full;
        answers = record { mail = a; below = λ e. absurd (not4 e) };
        kept = record {
          conf = refl;
          directories = λ _. refl;
          replicas = λ d. row_ind (λ (v : Replica). v.down ≡ (replica_at M d).down) no_replica M.replicas q d new_r (λ (e : q ≡ d). ap (λ (z : ℕ). (replica_at M z).down) e) refl;
          stock = λ e. absurd (not4 e);
        };
        clients = refl;
        mail = refl;
        others = λ r z u. row_ind (λ (v : Replica). Able p top (directory_at M r) v) no_replica M.replicas q r new_r (λ (e : q ≡ r). absurd (z (sym e))) u;
      }

-- phase by phase
serves : (M : Machine) (s c q n top : ℕ) {p : ℕ} → Phase p → {x : Message} → Mail (ask_kind p) c q n x → Able p top (directory_at M q) (replica_at M q) → Serves M s p c q n top x
unfolding receiver_of awaited directory_post replica_post is_full
serves M s c q n top rdr (mail t z v g) a =
    by_directory M s 1 c q n top t z v g (message 5 q (directory_at M q).tag (directory_at M q).set n no_page) (mail _ _ _ _) refl refl refl refl a.up (λ e. absurd (omega arith))
serves M s c q n top rdw (mail t z v g) a =
    by_directory M s 2 c q n top t z v g (message 6 q first 0 n no_page) (mail _ _ _ _) refl refl refl refl a.up (λ e. absurd (omega arith))
serves M s c q n top rrr (mail t z v g) a =
    let e = read t (replica_at M q).entries in
    by_replica M s 3 c q n top t z v g (message 12 q e.tag (mark t (replica_at M q).entries) n e.page) (mail _ _ _ _) refl refl refl refl a.up (λ e. omega arith)
serves M s c q n top wdr (mail t z v g) a =
    by_directory M s 4 c q n top t z v g (message 7 q (directory_at M q).tag 0 n no_page) (mail _ _ _ _) refl refl refl refl a.up a.below
serves M s c q n top wrw (mail t z v g) a =
    by_replica M s 5 c q n top t z v g (message 13 q first 0 n no_page) (mail _ _ _ _) refl refl refl
    (simp (T_true (some? is_free (replica_at M q).entries) (a.free refl), and-false)) a.up (λ e. omega arith)
serves M s c q n top wdw (mail t z v g) a =
    by_directory M s 6 c q n top t z v g (message 8 q first 0 n no_page) (mail _ _ _ _) refl refl refl refl a.up (λ e. absurd (omega arith))

-- ---- a request is delivered

-- the others stay due
pub served : {B M : Machine} {c E p q : ℕ} {w : Client} → Phase p → On B c E p w M → Due B c p w.number M q → has w.answered q ≡ false → {code n : ℕ}
    → ((N : Machine) → Replied B c E p q w N → ((r : ℕ) → (r ≡ q → ⊥) → Due B c p w.number M r → Due B c p w.number N r) → Ends code c n N) → Ends code c (suc n) M
unfolding deliver_effect
served {B} {M} {c} {E} {p} {q} {w} h o d new f =
    ends_more t (f _
    (record {
      on = record {
        good = good_after t;
        kept = kept_on o.kept S.kept _;
        party = rw S.kept.conf o.party;
        row = rw S.clients o.row;
        phase = o.phase;
        up = o.up;
        room = room_after t E E o.room (omega (arith, one));
        below = o.below;
      };
      reply = sends t S.full c o.party.low few (in_only c o.party.low) S.answers;
      new = new;
    })
    (λ r z u. record { able = S.others r z u.able; asks = waits_on t (λ m. z (sym (parts m).2 ∙ (parts (found d.asks).is).2)) u.asks }))
  where
    few : c ≤ 16
    few = omega (arith, (numbers_of_lem o.good.sound).few_clients, o.party.high)

    S : Serves M (suc (at d.asks)) p c q w.number B.conf.top (slot_at M (suc (at d.asks)))
    S = serves M (suc (at d.asks)) c q w.number B.conf.top h (found d.asks).is d.able

    one : length (messages_of (post S.reply (only c))) ≡ 1
    one = length_messages (post S.reply (only c)) (only_lt 16 c few) ∙ size_only c o.party.low

    t : Taken M d.asks S.change (post S.reply (only c)) (coded 0) no_page
    t = record { good = o.good; does = S.does; mail = S.mail; free = S.free; room = omega (arith, one) }
