-- What the open operation of a client has cost so far: each call adds at most what it is, and an end is never cheaper than its price.
use Rattle.std.specs.Prelude.{if◌then◌else◌}
use mathlib.Core.Path.{◌≡◌, refl, sym, ap, subst, ◌∙◌}
use mathlib.Core.Logic.{⊎_elim}
use mathlib.Core.List.{List, [], ◌∷◌}
use Prim.Native.Nat.{ℕ, ◌+◌, ◌*◌, ◌^◌, ◌≤◌, ◌<◌}
use native.Mathlib.Decide.{ℕ_discrete}
use native.Mathlib.Omega.{arith}
use lib.Dec.{eqb, T_not}
use lib.Pow.{pow_pos}
use Rattle.sets.specs.declared.Tag.{Tag}
use Rattle.sets.specs.Sets.{size, with, only}
use Rattle.sets.specs.Inner.{◌∈◌}
use Rattle.sets.proofs.Laws.{with_in, in_with_old, in_with_new, with_lt, only_lt, only_in, size_none, size_only, size_join, within}
use Rattle.tables.specs.declared.Conf.{Conf}
use Rattle.tables.specs.declared.Client.{Client}
use Rattle.tables.specs.declared.Message.{Message}
use Rattle.tables.specs.declared.Party.TheVariants.{AClient}
use Rattle.tables.specs.Kinds.{sender_of}
use Rattle.tables.specs.Tables.{Page, Machine, no_message, client_at, directory_at, replica_at, slot_at, no_page}
use Rattle.tables.proofs.All.{All, none, cons, all_map, all_row}
use Rattle.rules.specs.declared.Outcome.{Outcome}
use Rattle.rules.specs.Answers.{answer_of}
use Rattle.rules.specs.Replica.{gossip_post}
use Rattle.rules.specs.Client.{awaited, heard, moved, started, idle, client_after}
use Rattle.rules.proofs.Heard.{heard_keeps, heard_answered}
use Rattle.rules.proofs.Views.{Timely, Completes, View, v_stale, v_waits, v_1, v_2, v_3, v_4, v_spent, v_5, v_6}
use Rattle.machine.specs.Effects.{Effect, applied}
use Rattle.machine.specs.Calls.{Call, down_client}
use Rattle.machine.proofs.Arrivals.{many_sixteen}
use Rattle.runs.proofs.Codes.{one_of_lem}
use Rattle.runs.proofs.Acts.{Acts, reads, writes, empties, directs, stores, hears, gossips, tidies, crashes, begun, answered}
use Rattle.runs.proofs.Sound.{Sound}
use Rattle.runs.proofs.Rows.{numbers_of_lem}
use Rattle.runs.proofs.Kept.{Arrives, arrives}
use Rattle.history.proofs.Rows.{OfClient, of_downed, each_client, Sent, all_slots}
use Rattle.history.proofs.Invariant.{MessageOk, Invariant}
use Rattle.history.proofs.Later.{reply_past}
use Rattle.history.proofs.Keeping.{unsent}
use Rattle.fewest.specs.Fewest.{is_deliver, least_to_read, least_to_write, read_price, write_price}
use Rattle.fewest.proofs.Quorums.{needed, enough_least}
use Rattle.fewest.proofs.Replies.{awaited_reply, Replies, NoReply, request_asks, client_asks, directory_own, replica_own}

-- ---- the cost

-- what the phases before p have cost
abbrev pub paid_before : Conf → ℕ → ℕ
paid_before k p =
    if eqb p 2 then 2 * least_to_read k
    else if eqb p 3 then 2 * least_to_read k + 2 * least_to_write k
    else if eqb p 5 then 2 * least_to_read k
    else if eqb p 6 then 2 * least_to_read k + 2 * (k.f + 1)
    else 0

-- the row w of client c after d deliveries: a delivery for each party that has replied to the present message number, and one for each reply that was heard
pub record Cost (k : Conf) (c : ℕ) (ss : List Message) (d : ℕ) (w : Client) : Type 0 where
  pub replied : ℕ
  pub few : w.answered < 2 ^ 16
  pub inside : (p : ℕ) → p ∈ w.answered → p ∈ replied
  pub waits : 1 ≤ w.phase → All (λ (x : Message). Replies c w.number x → x.sender ∈ replied) ss
  pub paid : paid_before k w.phase + size replied + size w.answered ≤ d

-- ---- a step

sizes : (a p : ℕ) → 1 ≤ p → size (with a p) ≤ size a + 1
sizes a p h = omega (arith, size_join a (only p), size_only p h)

-- a set with a member is not empty
some_size : (s p : ℕ) → 1 ≤ p → p ≤ 16 → p ∈ s → 1 ≤ size s
some_size s p l h m = omega (arith, size_only p l, within 16 (only p) s (only_lt 16 p h) (λ q k. rw (only_in q p k) m))

module _ (M : Machine) (c : ℕ) where
  -- of the slots after an effect
  slots_wait : (e : Effect) (n r : ℕ) → Sent (λ (x : Message). Replies c n x → x.sender ∈ r) e.post
      → All (λ (x : Message). Replies c n x → x.sender ∈ r) M.slots → All (λ (x : Message). Replies c n x → x.sender ∈ r) (applied e M).slots
  unfolding no_message
  slots_wait e n r h hs = all_slots (λ (x : Message). Replies c n x → x.sender ∈ r) M e (λ q. absurd q.kind) h hs

  module _ {k : Conf} {d d' : ℕ} {w : Client} (e : Effect) where
    -- no reply is posted
    quiet : Sent NoReply e.post → d ≤ d' → Cost k c M.slots d w → Cost k c (applied e M).slots d' w
    quiet h l g =
        record {
          replied = g.replied;
          few = g.few;
          inside = g.inside;
          waits = λ o. slots_wait e w.number g.replied (λ p m q. absurd (h p m q.kind)) (g.waits o);
          paid = omega (arith, g.paid);
        }

    -- party q replies
    answers : (q : ℕ) → 1 ≤ q → Sent (λ (x : Message). x.sender ≡ q) e.post → d + 1 ≤ d' → Cost k c M.slots d w → Cost k c (applied e M).slots d' w
    answers q lq h l g =
        record {
          replied = with g.replied q;
          few = g.few;
          inside = λ p m. in_with_old g.replied q p (g.inside p m);
          waits = λ o. slots_wait e w.number (with g.replied q) (λ p m _. rw (h p m) (in_with_new g.replied q lq))
              (all_map (λ x f r. in_with_old g.replied q x.sender (f r)) (g.waits o));
          paid = omega (arith, g.paid, sizes g.replied q lq);
        }

  -- a new message number: nothing answers it yet
  renewed : Invariant M → {k : Conf} {d : ℕ} {w : Client} (e : Effect) → Sent NoReply e.post → (client_at M c).number < w.number → w.answered ≡ 0
      → paid_before k w.phase ≤ d → Cost k c (applied e M).slots d w
  renewed v {k} {d} {w} e h n a l =
      record {
        replied = 0;
        few = rw a (pow_pos 16);
        inside = λ p m. rw a at m;
        waits = λ _. slots_wait e w.number 0 (λ p m q. absurd (h p m q.kind))
            (all_map (λ x ok q. absurd (late x ok q)) v.messages);
        paid = omega (arith, size_none, ap size a);
      }
    where
      late : (x : Message) → MessageOk M x → Replies c w.number x → ⊥
      late x ok q = omega (arith, q.number, subst (λ (b : ℕ). x.number ≤ (client_at M b).number) q.to (reply_past M x ok q.kind))

-- ---- a reply at the client

-- the least that an answer with this code has cost
abbrev pub price_of : Conf → ℕ → ℕ
price_of k code = if eqb code 1 then read_price k else if eqb code 2 then write_price k else 0

module _ (M : Machine) (z : Sound M) (few : M.conf.directories ≤ 16) (v : Invariant M) (s : ℕ) (page : Page) (m : Arrives M AClient s) where
  abbrev x : Message
  x = slot_at M s

  abbrev w : Client
  w = client_at M x.receiver

  module _ (d : ℕ) (g : Cost M.conf x.receiver M.slots d w) where
    module _ (t : Timely w x) where
      full : x.kind ≡ 0 → ⊥
      full e = T_not (eqb x.kind 0) m.full (rw e tt)

      -- an idle client awaits nothing
      opened : 1 ≤ w.phase
      unfolding awaited
      opened = go (ℕ_discrete w.phase 0)
        where
          go : Dec (w.phase ≡ 0) → 1 ≤ w.phase
          go (yes e) = absurd (full (t.kind ∙ ap awaited e))
          go (no e) = omega arith

      sender_few : x.sender ≤ 16
      sender_few = omega (arith, m.facts.sender, many_sixteen (numbers_of_lem z) few (sender_of x.kind))

      sent_before : x.sender ∈ g.replied
      unfolding no_message
      sent_before =
          all_row {P = λ (y : Message). Replies x.receiver w.number y → y.sender ∈ g.replied} no_message s (λ q. absurd q.kind) (g.waits opened)
          (record { to = refl; kind = rw t.kind (awaited_reply w.phase (λ e. full (t.kind ∙ e))); number = t.number })

      -- with the reply counted in
      heard_few : (heard w x).answered < 2 ^ 16
      heard_few = rw (heard_answered w x) (with_lt 16 w.answered x.sender g.few sender_few)

      heard_inside : (p : ℕ) → p ∈ (heard w x).answered → p ∈ g.replied
      heard_inside p h = ⊎_elim (λ u. g.inside p u) (λ (u : p ≡ x.sender). rw u sent_before) (with_in w.answered x.sender p (rw (heard_answered w x) at h))

      heard_size : size (heard w x).answered ≤ size w.answered + 1
      heard_size = rw (heard_answered w x) (sizes w.answered x.sender m.facts.some_sender)

      heard_within : size (heard w x).answered ≤ size g.replied
      heard_within = within 16 (heard w x).answered g.replied heard_few heard_inside

      waits_on : Cost M.conf x.receiver M.slots (d + 1) (heard w x)
      waits_on =
          record {
            replied = g.replied;
            few = heard_few;
            inside = heard_inside;
            waits = λ _. subst (λ (n : ℕ). All (λ (y : Message). Replies x.receiver n y → y.sender ∈ g.replied) M.slots) (sym (heard_keeps w x).number) (g.waits opened);
            paid = subst (λ (p : ℕ). paid_before M.conf p + size g.replied + size (heard w x).answered ≤ d + 1) (sym (heard_keeps w x).phase) (omega (arith, g.paid, heard_size));
          }

    -- a phase that is complete has cost two deliveries for each that it needs
    completed : (p : ℕ) → Completes M.conf w x p → paid_before M.conf p + needed M.conf p + needed M.conf p ≤ d + 1
    completed p c =
        let n = enough_least M.conf (numbers_of_lem z).quorums p (heard w x).answered c.enough in
        omega (
          arith,
          subst (λ (q : ℕ). paid_before M.conf q + size g.replied + size w.answered ≤ d) c.phase g.paid,
          heard_size c.timely,
          heard_within c.timely,
        )

    -- the read's last phase
    last : Completes M.conf w x 3 → read_price M.conf ≤ d + 1
    last c =
        omega (
          arith,
          subst (λ (q : ℕ). paid_before M.conf q + size g.replied + size w.answered ≤ d) c.phase g.paid,
          some_size g.replied x.sender m.facts.some_sender (sender_few c.timely) (sent_before c.timely),
        )

    turns : (e : Effect) → Sent NoReply e.post → (p : ℕ) (u : Tag) → Completes M.conf w x p → paid_before M.conf (p + 1) ≤ d + 1
        → Cost M.conf x.receiver (applied e M).slots (d + 1) (moved (heard w x) u)
    turns e h p u c l =
        renewed M x.receiver v e h (omega (arith, (heard_keeps w x).number)) refl
        (subst (λ (q : ℕ). paid_before M.conf (q + 1) ≤ d + 1) (sym ((heard_keeps w x).phase ∙ c.phase)) l)

    rests : (e : Effect) → Cost M.conf x.receiver (applied e M).slots (d + 1) (idle w)
    rests e =
        record { replied = 0; few = pow_pos 16; inside = λ p h. h; waits = λ o. absurd (omega arith); paid = omega (arith, size_none) }

    hears_own : {o : Outcome} (e : Effect) → View M.conf x.receiver w x o → Sent NoReply e.post
        → Cost M.conf x.receiver (applied e M).slots (d + 1) (client_after w x o)
    unfolding client_after
    hears_own e (v_stale _) h = quiet M x.receiver e h (omega arith) g
    hears_own e (v_waits t _) h = quiet M x.receiver e h (omega arith) (waits_on t)
    hears_own e (v_1 c) h = turns e h 1 _ c (omega (arith, completed 1 c))
    hears_own e (v_2 c) h = turns e h 2 _ c (omega (arith, completed 2 c))
    hears_own e (v_3 c) h = rests e
    hears_own e (v_4 c _) h = turns e h 4 _ c (omega (arith, completed 4 c))
    hears_own e (v_spent c _) h = rests e
    hears_own e (v_5 c) h = turns e h 5 _ c (omega (arith, completed 5 c))
    hears_own e (v_6 c) h = rests e

    ends_own : {o : Outcome} → View M.conf x.receiver w x o → price_of M.conf (answer_of x.receiver o).code ≤ d + 1
    ends_own (v_stale _) = omega arith
    ends_own (v_waits t _) = omega arith
    ends_own (v_1 c) = omega arith
    ends_own (v_2 c) = omega arith
    ends_own (v_3 c) = last c
    ends_own (v_4 c _) = omega arith
    ends_own (v_spent c _) = omega arith
    ends_own (v_5 c) = omega arith
    ends_own (v_6 c) = omega (arith, completed 6 c)

-- ---- any call that acts

abbrev pub cost_of : Call → ℕ
cost_of q = if is_deliver q then 1 else 0

module _ (M : Machine) (z : Sound M) (few : M.conf.directories ≤ 16) (v : Invariant M) (c d : ℕ) (g : Cost M.conf c M.slots d (client_at M c)) where
  -- of the row of client b, if it is the one whose operation is paid for
  abbrev Paid : Effect → ℕ → ℕ → Client → Type 0
  Paid e d' b w = b ≡ c → Cost M.conf c (applied e M).slots d' w

  -- an effect that posts no reply
  asks : (e : Effect) (d' : ℕ) → d ≤ d' → Sent NoReply e.post → OfClient (Paid e d') e.change → Cost M.conf c (applied e M).slots d' (client_at (applied e M) c)
  asks e d' l h y =
      each_client (Paid e d') M e.change y
      (λ b (q : b ≡ c). subst (λ (a : ℕ). Cost M.conf c (applied e M).slots d' (client_at M a)) (sym q) (quiet M c e h l g)) c refl

  begins : (a p : ℕ) (page : Page) → paid_before M.conf p ≡ 0
      → Cost M.conf c (applied (begun M a p page) M).slots (d + 0) (client_at (applied (begun M a p page) M) c)
  begins a p page l =
      let h : Sent NoReply (begun M a p page).post = λ _ _. request_asks M.conf a (started (client_at M a) p page) in
      asks (begun M a p page) (d + 0) (omega arith) h
      (λ (q : a ≡ c). renewed M c v (begun M a p page) h (subst (λ (b : ℕ). (client_at M b).number < (client_at M a).number + 1) q (omega arith)) refl (omega arith))

  pub spends : {q : Call} {e : Effect} → Acts M q e → Cost M.conf c (applied e M).slots (d + cost_of q) (client_at (applied e M) c)
  unfolding gossip_post
  spends (reads a _) = begins a 1 no_page refl
  spends (writes a page _) = begins a 4 page refl
  spends {e = e} (empties q slots n _ _) = quiet M c e (unsent NoReply) (omega arith) g
  spends {e = e} (directs s page k) = answers M c e (slot_at M s).receiver (arrives z k).receiver.low (directory_own (slot_at M s) (directory_at M (slot_at M s).receiver)) (omega arith) g
  spends {e = e} (stores s page k _) =
      answers M c e (slot_at M s).receiver (arrives z k).receiver.low (replica_own (slot_at M s) M.conf.directories (replica_at M (slot_at M s).receiver).entries) (omega arith) g
  spends (hears s page {o} k w) =
      let e : Effect = answered M s (slot_at M s) page o in
      let own : ℕ = (slot_at M s).receiver in
      let y : Client = client_after (client_at M own) (slot_at M s) o in
      let h = client_asks M.conf own (client_at M own) y o in
      asks e (d + 1) (omega arith) h
      (λ (q : own ≡ c).
      subst (λ (b : ℕ). Cost M.conf b M.slots d (client_at M b) → Cost M.conf b (applied e M).slots (d + 1) y) q
      (λ g. hears_own M z few v s page (arrives z k) d g e w h) g)
  spends {e = e} (gossips from to _ _) = quiet M c e (λ p m h. h) (omega arith) g
  spends {e = e} (tidies r _) = quiet M c e (unsent NoReply) (omega arith) g
  spends {e = e} (crashes kind id who _) =
      asks e (d + 0) (omega arith) (unsent NoReply)
      (of_downed (Paid e (d + 0)) M who id
      (λ (q : id ≡ c). downs (subst (λ (b : ℕ). Cost M.conf c (applied e M).slots (d + 0) (client_at M b)) (sym q) (quiet M c e (unsent NoReply) (omega arith) g))))
    where
      -- its flag costs nothing
      downs : {k : Conf} {ss : List Message} {d : ℕ} {w : Client} → Cost k c ss d w → Cost k c ss d (down_client w)
      downs g = record { replied = g.replied; few = g.few; inside = g.inside; waits = g.waits; paid = g.paid }

  pub ends : {q : Call} {e : Effect} → Acts M q e → e.answer.client ≡ c → price_of M.conf e.answer.code ≤ d + cost_of q
  ends (reads a _) h = omega arith
  ends (writes a page _) h = omega arith
  ends (empties q slots n o _) h = one_of_lem (λ (code : ℕ). price_of M.conf code ≤ d + cost_of q) n (0 ∷ 4 ∷ []) (cons (omega arith) (cons (omega arith) none)) o
  ends (directs s page k) h = omega arith
  ends (stores s page k _) h = omega arith
  ends (hears s page {o} k w) h = of w h
    where
      own : {o : Outcome} → View M.conf (slot_at M s).receiver (client_at M (slot_at M s).receiver) (slot_at M s) o → (slot_at M s).receiver ≡ c
          → price_of M.conf (answer_of (slot_at M s).receiver o).code ≤ d + 1
      own {o} u q =
          subst (λ (b : ℕ). Cost M.conf b M.slots d (client_at M b) → price_of M.conf (answer_of (slot_at M s).receiver o).code ≤ d + 1) q
          (λ g. ends_own M z few v s page (arrives z k) d g u) g

      of : {o : Outcome} → View M.conf (slot_at M s).receiver (client_at M (slot_at M s).receiver) (slot_at M s) o → (answer_of (slot_at M s).receiver o).client ≡ c
          → price_of M.conf (answer_of (slot_at M s).receiver o).code ≤ d + 1
      of (v_stale _) h = omega arith
      of (v_waits _ _) h = omega arith
      of (v_1 _) h = omega arith
      of (v_2 _) h = omega arith
      of (v_3 q) h = own (v_3 q) h
      of (v_4 _ _) h = omega arith
      of (v_spent _ _) h = omega arith
      of (v_5 _) h = omega arith
      of (v_6 q) h = own (v_6 q) h
  ends (gossips from to _ _) h = omega arith
  ends (tidies r _) h = omega arith
  ends (crashes kind id who _) h = omega arith
