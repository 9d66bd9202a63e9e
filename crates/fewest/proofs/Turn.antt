-- A reply that a client waits for is delivered: it waits on, its phase changes and the next requests wait, or the operation ends.
use Rattle.std.specs.Prelude.{Some, if◌then◌else◌}
use mathlib.Core.Path.{◌≡◌, refl, sym, ap, subst, ◌∙◌}
use mathlib.Core.Bool.{Bool, true, false, and-false}
use mathlib.Core.List.{[], ◌∷◌}
use Prim.Native.Nat.{ℕ, suc, ◌+◌, ◌^◌, ◌≤◌, ◌<◌}
use native.Mathlib.Omega.{arith}
use borrow.Author.Tests.{eq-eqb}
use lib.Dec.{eqb}
use lib.ListN.{length}
use Rattle.sets.specs.declared.Tag.{Tag}
use Rattle.std.specs.declared.cmp.Ordering.{Ordering}
use Rattle.std.specs.declared.cmp.Ordering.TheVariants.{Less, Equal, Greater}
use Rattle.sets.specs.Plain.{one_of}
use Rattle.sets.specs.Tags.{against}
use Rattle.sets.specs.Sets.{has, size, with, all}
use Rattle.sets.specs.Inner.{◌∈◌}
use Rattle.sets.proofs.Tests.{if_ind}
use Rattle.tables.specs.declared.Conf.{Conf}
use Rattle.tables.specs.declared.Client.{Client}
use Rattle.tables.specs.declared.Message.{Message}
use Rattle.tables.specs.declared.Party.TheVariants.{AClient}
use Rattle.tables.specs.Kinds.{receiver_of}
use Rattle.tables.specs.Phases.{asks_directories}
use Rattle.tables.specs.Tables.{Machine, no_page, client_at, slot_at, is_empty}
use Rattle.mail.specs.declared.Post.{Post}
use Rattle.mail.specs.Posts.{no_post, to_receiver, messages_of}
use Rattle.mail.specs.Slots.{empty_slots}
use Rattle.mail.proofs.Messages.{length_messages, no_messages}
use Rattle.rules.specs.declared.Outcome.{Outcome}
use Rattle.rules.specs.declared.Outcome.TheVariants.{Waiting, Next, ReadEnded, WriteEnded}
use Rattle.rules.specs.Answers.{answer_of}
use Rattle.rules.specs.Replica.{is_full}
use Rattle.rules.specs.Client.{awaited, enough_for, is_stale, gathered, raised, heard, chosen, turned, outcome, moved, client_after, request, client_post}
use Rattle.rules.proofs.Heard.{heard_keeps, heard_answered}
use Rattle.machine.specs.Effects.{client, Effect, applied}
use Rattle.machine.specs.Calls.{is_down}
use Rattle.machine.specs.Deliver.{taken, filled, deliver_effect, client_effect}
use Rattle.machine.specs.Refusals.{is_overfull}
use Rattle.history.proofs.Shape.{client_set}
use Rattle.fewest.proofs.Waiting.{Somewhere, at, found}
use Rattle.fewest.proofs.Delivery.{Ends, Taken, good_after, room_after, waits_on, sends, ends_more, ends_last}
use Rattle.fewest.proofs.Serve.{Phase, rdr, rdw, rrr, wdr, wrw, wdw, ask_kind, Mail, mail, parts, On, Due, Replied, effect_on}

-- ---- requests

-- who is asked in phase p by the row w
abbrev pub asks_of : Conf → Client → ℕ → ℕ
asks_of k w p = if asks_directories p then all k.directories else if eqb p 3 then w.replicas else all k.replicas

-- the post y is the request of the row w in phase p
pub record IsRequest (k : Conf) (c : ℕ) (w : Client) (p : ℕ) (y : Post) : Type 0 where
  pub to : y.to ≡ asks_of k w p
  pub full : is_empty y.message ≡ false
  pub mail : (r : ℕ) → Mail (ask_kind p) c r w.number (to_receiver y.message r)

pub requests : (k : Conf) (c : ℕ) (w : Client) {p : ℕ} → Phase p → w.phase ≡ p → IsRequest k c w p (request k c w)
unfolding request
requests k c w {p} h e = subst (λ (q : ℕ). IsRequest k c w p (request k c (in_phase q))) (sym e) (go h)
  where
    in_phase : ℕ → Client
    in_phase p = record { down = w.down; phase = p; number = w.number; answered = w.answered; replicas = w.replicas; tag = w.tag; spare = w.spare; page = w.page }

    go : {p : ℕ} → Phase p → IsRequest k c w p (request k c (in_phase p))
    go rdr = record { to = refl; full = refl; mail = λ r. mail _ _ _ _ }
    go rdw = record { to = refl; full = refl; mail = λ r. mail _ _ _ _ }
    go rrr = record { to = refl; full = refl; mail = λ r. mail _ _ _ _ }
    go wdr = record { to = refl; full = refl; mail = λ r. mail _ _ _ _ }
    go wrw = record { to = refl; full = refl; mail = λ r. mail _ _ _ _ }
    go wdw = record { to = refl; full = refl; mail = λ r. mail _ _ _ _ }

-- a message to each
pub many_asked : {k : Conf} {c : ℕ} {w : Client} {p : ℕ} {y : Post} → IsRequest k c w p y → asks_of k w p < 2 ^ 16 → length (messages_of y) ≡ size (asks_of k w p)
many_asked {y = y} a few = length_messages y (rw a.to few) ∙ ap size a.to

-- ---- replies

-- a reply is for a client, never too much for a replica, and no request
record ReplyKind (p : ℕ) : Type 0 where
  whose : receiver_of (awaited p) ≡ Some AClient
  free : one_of (awaited p) (10 ∷ 15 ∷ []) ≡ false
  differ : ask_kind p ≡ awaited p → ⊥

reply_kind : {p : ℕ} → Phase p → ReplyKind p
unfolding awaited receiver_of
reply_kind rdr = record { whose = refl; free = refl; differ = λ e. omega arith }
reply_kind rdw = record { whose = refl; free = refl; differ = λ e. omega arith }
reply_kind rrr = record { whose = refl; free = refl; differ = λ e. omega arith }
reply_kind wdr = record { whose = refl; free = refl; differ = λ e. omega arith }
reply_kind wrw = record { whose = refl; free = refl; differ = λ e. omega arith }
reply_kind wdw = record { whose = refl; free = refl; differ = λ e. omega arith }

reply_free : (M : Machine) {p q c n : ℕ} {x : Message} → Phase p → Mail (awaited p) q c n x → is_overfull M x ≡ false
unfolding is_full
reply_free M h (mail t set spare page) = simp ((reply_kind h).free, and-false)

-- the effect of the reply x on the row w, by its outcome
abbrev heard_by : Machine → (s c : ℕ) → Client → Message → Outcome → Effect
heard_by M s c w x u = taken s (client c (client_after w x u)) (client_post M.conf c w (client_after w x u) u) (answer_of c u) (filled u x no_page)

reply_effect : (M : Machine) (s : ℕ) {p q c n : ℕ} {x : Message} → Phase p → Mail (awaited p) q c n x → is_down M AClient c ≡ false
    → effect_on M s x ≡ heard_by M s c (client_at M c) x (outcome M.conf c (client_at M c) x)
unfolding client_effect
reply_effect M s h (mail t set spare page) d = rw ((reply_kind h).whose, d)

-- what enough replies lead to in phase p
abbrev pub turn_in : ℕ → Conf → ℕ → Client → Message → Outcome
turn_in p k c v x = if eqb p 3 then ReadEnded x.tag x.set else if eqb p 4 then chosen k.top c v.tag else if eqb p 6 then WriteEnded v.tag else Next v.tag

outcome_is : (k : Conf) (c : ℕ) (w : Client) {p q : ℕ} {x : Message} → Mail (awaited p) q c w.number x → w.phase ≡ p → has w.answered q ≡ false
    → (b : Bool) → enough_for k p (with w.answered q) ≡ b → outcome k c w x ≡ (if b then turn_in p k c (heard w x) x else Waiting)
unfolding outcome is_stale turned
outcome_is k c w {p} {q} {x} (mail t set spare page) e new b h =
    rw (
      eq-eqb (awaited p) (awaited w.phase) (ap awaited (sym e)),
      eq-eqb w.number w.number refl,
      new,
      ap (λ (z : ℕ). enough_for k z (heard w x).answered) e ∙ ap (enough_for k p) (heard_answered w x) ∙ h,
      (heard_keeps w x).phase ∙ e,
    )

-- the tag is then the row's or the reply's
heard_tag : (w : Client) (x : Message) (P : Tag → Type 0) → P w.tag → P x.tag → P (heard w x).tag
unfolding heard
heard_tag w x P a b =
    if_ind (λ (y : Client). P y.tag) (eqb w.phase 1) (λ _. by (gathered w (with w.answered x.sender) x.tag x.set) b a a (against x.tag w.tag))
    (λ _. if_ind (λ (y : Client). P y.tag) (eqb w.phase 4) (λ _. by (raised w (with w.answered x.sender) x.tag) b a a (against x.tag w.tag)) (λ _. a))
  where
    by : (f : Ordering → Client) → P (f Greater).tag → P (f Equal).tag → P (f Less).tag → (o : Ordering) → P (f o).tag
    by f g s l Greater = g
    by f g s l Equal = s
    by f g s l Less = l

-- ---- the steps

-- the client begins phase p: its requests wait
pub record Opened (B : Machine) (c F p : ℕ) (N : Machine) : Type 0 where
  pub row : Client
  pub on : On B c F p row N
  pub answered : row.answered ≡ 0
  pub asks : (r : ℕ) → 1 ≤ r → r ≤ 16 → r ∈ asks_of B.conf row p → Somewhere (Mail (ask_kind p) c r row.number) N.slots
  pub directories : p ≡ 4 → N.directories ≡ B.directories
  pub replicas : p ≡ 5 → N.replicas ≡ B.replicas

module _ {B M : Machine} {c E p q : ℕ} {w : Client} (h : Phase p) (R : Replied B c E p q w M) where
  abbrev pub told : Message
  told = slot_at M (suc (at R.reply))

  abbrev pub hears : Client
  hears = heard w told

  abbrev pub sent : Outcome → Post
  sent u = client_post M.conf c w (client_after w told u) u

  told_mail : Mail (awaited p) q c w.number told
  told_mail = (found R.reply).is.mail

  pub phase_heard : hears.phase ≡ p
  phase_heard = (heard_keeps w told).phase ∙ R.on.phase

  pub below_heard : p ≡ 4 → hears.tag.number < B.conf.top
  below_heard e = heard_tag w told (λ (t : Tag). t.number < B.conf.top) (R.on.below e) ((found R.reply).is.below e)

  outcome_now : (b : Bool) → enough_for B.conf p (with w.answered q) ≡ b → outcome M.conf c w told ≡ (if b then turn_in p M.conf c hears told else Waiting)
  outcome_now b e = outcome_is M.conf c w told_mail R.on.phase R.new b (rw R.on.kept.conf e)

  -- by its outcome
  module _ (u : Outcome) (is : outcome M.conf c w told ≡ u) (room : length (messages_of (sent u)) ≤ empty_slots M.slots + 1) where
    takes : Taken M R.reply (client c (client_after w told u)) (sent u) (answer_of c u) (filled u told no_page)
    unfolding deliver_effect
    takes =
        record {
          good = R.on.good;
          does = reply_effect M (suc (at R.reply)) h told_mail (ap (λ (y : Client). eqb y.down 1) R.on.row ∙ ap (λ (z : ℕ). eqb z 1) R.on.up)
              ∙ ap (λ (y : Client). heard_by M (suc (at R.reply)) c y told (outcome M.conf c y told)) R.on.row ∙ ap (heard_by M (suc (at R.reply)) c w told) is;
          mail = refl;
          free = reply_free M h told_mail;
          room = room;
        }

    on_after : (F p' : ℕ) → (client_after w told u).phase ≡ p' → (client_after w told u).down ≡ w.down → F + length (messages_of (sent u)) ≤ E + 1
        → (p' ≡ 4 → (p ≡ 4) × ((client_after w told u).tag.number < B.conf.top)) → On B c F p' (client_after w told u) (applied (heard_by M (suc (at R.reply)) c w told u) M)
    on_after F p' i d l b =
        record {
          good = good_after takes;
          kept = record { conf = R.on.kept.conf; directories = R.on.kept.directories; replicas = R.on.kept.replicas; stock = λ e. R.on.kept.stock (b e).0 };
          party = R.on.party;
          row = client_set M R.on.good.sound c R.on.party (client_after w told u);
          phase = i;
          up = d ∙ R.on.up;
          room = room_after takes E F R.on.room l;
          below = λ e. (b e).1;
        }

  -- not enough yet: all that is due stays so
  pub waited : enough_for B.conf p (with w.answered q) ≡ false → {code n : ℕ}
      → ((N : Machine) (v : Client) → On B c E p v N → v.answered ≡ with w.answered q → v.number ≡ w.number
      → ((r : ℕ) → Due B c p w.number M r → Due B c p w.number N r) → Ends code c n N) → Ends code c (suc n) M
  unfolding client_after client_post
  waited e f =
      let is = outcome_now false e in
      let room : length (messages_of no_post) ≤ empty_slots M.slots + 1 = rw no_messages (omega arith) in
      let t = takes Waiting is room in
      ends_more t (f _ hears
      (on_after Waiting is room E p phase_heard (heard_keeps w told).down (rw no_messages (omega arith)) (λ i. (i, below_heard i)))
      (heard_answered w told ∙ ap (with w.answered) (parts told_mail).1) (heard_keeps w told).number
      (λ r d. record { able = d.able; asks = waits_on t (λ m. (reply_kind h).differ (sym (parts m).0 ∙ (parts told_mail).0)) d.asks }))

  -- the next phase
  pub opened : {t : Tag} (F : ℕ) → Phase (p + 1) → (p ≡ 3 → ⊥) → enough_for B.conf p (with w.answered q) ≡ true → turn_in p M.conf c hears told ≡ Next t
      → asks_of B.conf (moved hears t) (p + 1) < 2 ^ 16 → F + size (asks_of B.conf (moved hears t) (p + 1)) ≤ E + 1
      → {code n : ℕ} → ((N : Machine) → Opened B c F (p + 1) N → Ends code c n N) → Ends code c (suc n) M
  unfolding client_after client_post
  opened {t} F h' not3 e is few l f =
      let i = ap (λ (z : ℕ). z + 1) phase_heard in
      let y = subst (λ (k : Conf). IsRequest k c (moved hears t) (p + 1) (request M.conf c (moved hears t))) R.on.kept.conf (requests M.conf c (moved hears t) h' i) in
      let many = many_asked y few in
      let room : length (messages_of (request M.conf c (moved hears t))) ≤ empty_slots M.slots + 1 = omega (arith, R.on.room) in
      let k = takes (Next t) (outcome_now true e ∙ is) room in
      ends_more k (f _
      (record {
        row = moved hears t;
        on = on_after (Next t) (outcome_now true e ∙ is) room F (p + 1) i (heard_keeps w told).down (omega arith) (λ e. absurd (not3 (omega arith)));
        answered = refl;
        asks = λ r low high m. sends k y.full r low high (rw y.to m) (y.mail r);
        directories = λ e. absurd (not3 (omega arith));
        replicas = λ e. R.on.kept.stock (omega arith);
      }))

  -- the end
  pub ended : {u : Outcome} → enough_for B.conf p (with w.answered q) ≡ true → turn_in p M.conf c hears told ≡ u
      → length (messages_of (sent u)) ≤ empty_slots M.slots + 1
      → {code : ℕ} → (answer_of c u).code ≡ code → (answer_of c u).client ≡ c → Ends code c 1 M
  ended {u} e is room a b = ends_last (takes u (outcome_now true e ∙ is) room) a b
