-- THE LAYERED MACHINE KEEPS TO THE METHOD: one walk through what a call may do gives each way its case of `Does`.
use Rattle.std.specs.Prelude.{Some}
use mathlib.Core.Path.{◌≡◌, refl, sym, ap, subst, ◌∙◌}
use mathlib.Core.Bool.{true, not}
use mathlib.Core.List.{[], ◌∷◌}
use Prim.Native.Nat.{ℕ, ◌+◌, ◌%◌, ◌≤◌}
use native.Mathlib.Omega.{arith}
use lib.Dec.{T}
use Rattle.sets.specs.Plain.{one_of}
use Rattle.sets.specs.declared.Tag.{Tag}
use Rattle.sets.specs.Tags.{tag}
use Rattle.sets.proofs.TagOrder.{◌≼◌, ◌≺◌, ≼_trans}
use Rattle.tables.specs.declared.Client.{Client}
use Rattle.tables.specs.declared.Message.{Message}
use Rattle.tables.specs.declared.Party.TheVariants.{AClient, ADirectory}
use Rattle.tables.specs.Kinds.{sender_of, carries_page}
use Rattle.tables.specs.Phases.{asks_directories}
use Rattle.tables.specs.Tables.{Page, Machine, no_page, client_at, slot_at}
use Rattle.tables.proofs.All.{none, cons}
use Rattle.rules.specs.declared.Outcome.{Outcome}
use Rattle.rules.specs.declared.Outcome.TheVariants.{Next, ReadEnded, WriteEnded, Spent}
use Rattle.rules.specs.Answers.{coded}
use Rattle.rules.specs.Quorums.{enough_to_read}
use Rattle.rules.specs.Client.{awaited, enough_for, heard, moved, started, client_after}
use Rattle.rules.proofs.Covers.{copied_reaches}
use Rattle.rules.proofs.Heard.{heard_keeps}
use Rattle.rules.proofs.Views.{Completes, View, v_stale, v_waits, v_1, v_2, v_3, v_4, v_spent, v_5, v_6}
use Rattle.machine.specs.Effects.{Effect, applied}
use Rattle.machine.specs.Calls.{Call, deliver}
use Rattle.machine.specs.Steps.{step}
use Rattle.machine.specs.Buffers.{wrong_page}
use Rattle.runs.specs.Runs.{Renews}
use Rattle.runs.proofs.Codes.{one_of_lem}
use Rattle.runs.proofs.Acts.{Acts, reads as startsRead, writes as startsWrite, empties, directs, stores, hears, gossips, tidies, crashes, answered}
use Rattle.runs.proofs.Sound.{Sound}
use Rattle.runs.proofs.Rows.{numbers_of_lem}
use Rattle.runs.proofs.Kept.{Arrives, arrives, step_sound}
use Rattle.order.specs.Run.{Event, nothing, Calls}
use Rattle.order.specs.Method.{writes, Method, Others, Does, quietly, begins_read, begins_write, chooses, ends_read, ends_write, spends, never_gives_up, KeepsTo}
use Rattle.history.specs.Show.{beginning, event_of}
use Rattle.history.proofs.Rows.{OfClient, of_map, of_downed, each_client}
use Rattle.history.proofs.Shape.{client_in, client_set}
use Rattle.history.proofs.Invariant.{Known, Fact, Invariant}
use Rattle.history.proofs.Later.{Later, known_later}
use Rattle.history.proofs.Clients.{present, awaited_fact, at_phase, heard_phase, asked_in, ended_known}
use Rattle.history.proofs.Kept.{acts_later, message_ok, invariant_acts}
use Rattle.history.proofs.Track.{Asking, TrackAt, TrackOf, Track, track_later, new_asking, hear_row, asked}
use Rattle.history.proofs.Pages.{ClientIn, Within, RowIn, heard_in, message_row, client_row_lem, within_acts, within_map}
use Rattle.history.proofs.Ranks.{rank_of, tag_of, rank_back, rank_least, rank_above, stand_at, stand_of, stand_heard}
use Rattle.history.proofs.Ways.{Way, stays, goes, way, no_giving_up}

pub record Good (M : Machine) : Type 0 where
  pub sound : Sound M
  pub invariant : Invariant M

-- H of ranks, as one of tags
abbrev pub Ranked : (ℕ → Page → Type 0) → Tag → Page → Type 0
Ranked H t q = H (rank_of t) q

abbrev pub layered : Method Machine
layered =
    record {
      Good = Good;
      stand = λ M c. stand_of (client_at M c);
      Known = λ M r. Known M (tag_of r);
      Track = λ M c r. Track M c (tag_of r);
      Within = λ H M. Within (Ranked H) M;
      owner = λ r. r % 16;
    }

module _ (M : Machine) (G : Good M) where
  -- ---- any call that acts

  module _ {a : Call} {e : Effect} (k : Acts M a e) where
    abbrev N : Machine
    N = applied e M

    l : Later M (applied e M)
    l = acts_later M k

    on : (c : ℕ) (F : Tag) (w : Client) → TrackOf M c F w → TrackOf N c F w
    on c F w t = track_later M k l c F w t

    carry : ((H : ℕ → Page → Type 0) → Within (Ranked H) M → RowIn (Ranked H) e.change) → (H : ℕ → Page → Type 0) → Within (Ranked H) M → Within (Ranked H) N
    carry f H v = within_acts (Ranked H) M v G.sound k (f H v)

    -- client c goes on with the row w
    abbrev Goes : ℕ → Client → Type 0
    Goes c w = (stand_of w ≡ stand_of (client_at M c)) × ((r : ℕ) → Track M c (tag_of r) → TrackOf N c (tag_of r) w)

    same : (c : ℕ) → Goes c (client_at M c)
    same c = (refl, λ r t. on c (tag_of r) (client_at M c) t)

    others : (c : ℕ) → OfClient (λ d _. d ≡ c) e.change → Others layered M N c
    others c h = each_client (λ d w. (d ≡ c → ⊥) → Goes d w) M e.change (of_map (λ d w q n. absurd (n q)) e.change h) (λ d _. same d)

    quiet : OfClient Goes e.change → ((H : ℕ → Page → Type 0) → Within (Ranked H) M → RowIn (Ranked H) e.change) → Does layered M N nothing
    quiet h f = quietly (each_client Goes M e.change h same) (carry f)

  stand_at_lem : (c p : ℕ) → (client_at M c).phase ≡ p → stand_of (client_at M c) ≡ stand_at (client_at M c).page (client_at M c).tag p
  stand_at_lem c p q = ap (stand_at (client_at M c).page (client_at M c).tag) q

  -- ---- a reply at a client

  module _ (s : ℕ) (page : Page) (m : Arrives M AClient s) where
    abbrev x : Message
    x = slot_at M s

    abbrev c : ℕ
    c = (slot_at M s).receiver

    abbrev w : Client
    w = client_at M (slot_at M s).receiver

    abbrev y : Client
    y = heard (client_at M (slot_at M s).receiver) (slot_at M s)

    few : c ≤ 8
    few = let n = numbers_of_lem G.sound in omega (arith, m.receiver.high)

    new : (o : Outcome) → client_at (applied (answered M s x page o) M) c ≡ client_after w x o
    new o = client_set M G.sound c m.receiver (client_after w x o)

    fact : (p : ℕ) → Completes M.conf w x p → Fact M x (awaited p)
    fact p i = awaited_fact M x i.timely p i.phase (message_ok G.invariant s)

    same_page : y.page ≡ w.page
    same_page = (heard_keeps w x).page

    -- the operation as it stands, and with the reply counted in
    track_at : (F : Tag) (p : ℕ) → Completes M.conf w x p → Track M c F → TrackAt M c F w.number w.answered w.tag p
    track_at F p i t = subst (TrackAt M c F w.number w.answered w.tag) i.phase t

    track_heard : (F : Tag) (p : ℕ) → Completes M.conf w x p → Track M c F → TrackAt M c F y.number y.answered y.tag p
    track_heard F p i t = subst (TrackAt M c F y.number y.answered y.tag) (heard_phase w x p i) (hear_row M s F i.timely t)

    -- enough directories have told of F or more
    told : (F : Tag) (p : ℕ) → Completes M.conf w x p → asks_directories p ≡ true → sender_of (awaited p) ≡ Some ADirectory → T (enough_to_read M.conf y.answered)
        → Asking M c y.number y.answered y.tag F → F ≼ y.tag
    told F p i q d e t =
        asked M c y.number y.answered y.tag F t (numbers_of_lem G.sound).quorums (asked_in M G.sound x m.facts m.receiver p q d i) e

    -- the row after a change of phase
    abbrev turned : ℕ → Tag → Client
    turned p t = moved (at_phase y p) t

    turned_is : (p : ℕ) (t : Tag) → Completes M.conf w x p → turned p t ≡ client_after w x (Next t)
    unfolding client_after
    turned_is p t i = ap (λ (q : ℕ). moved (at_phase y q) t) (sym (heard_phase w x p i))

    -- the rank of a tag in the machine is the tag's alone
    known_rank : {N : Machine} (t : Tag) → t.client ≤ M.conf.clients → Known N t → Known N (tag_of (rank_of t))
    known_rank {N} t h k = let n = numbers_of_lem G.sound in subst (Known N) (sym (rank_back t (omega arith))) k

    hear : {o : Outcome} → View M.conf c w x o → (k : Acts M (deliver s page) (answered M s x page o))
        → Does layered M (applied (answered M s x page o) M) (event_of (deliver s page) (answered M s x page o).answer (answered M s x page o).page)
    unfolding event_of client_after enough_for awaited sender_of
    hear (v_stale _) k = quiet k (same k c) (λ H v. client_row_lem (Ranked H) M v c)
    hear (v_waits i _) k =
        quiet k (stand_heard w x, λ r t. on k c (tag_of r) y (hear_row M s (tag_of r) i t)) (λ H v. heard_in (Ranked H) w x (client_row_lem (Ranked H) M v c))
    hear (v_1 i) k =
        quiet k
        (subst (Goes k c) (turned_is 1 y.tag i) (sym (stand_at_lem c 1 i.phase), λ r t. told (tag_of r) 1 i refl refl i.enough (track_heard (tag_of r) 1 i t)))
        (λ H v. subst (ClientIn (Ranked H)) (turned_is 1 y.tag i) (λ z. absurd z))
    hear (v_2 i) k =
        quiet k (subst (Goes k c) (turned_is 2 y.tag i) (sym (stand_at_lem c 2 i.phase), λ r t. track_heard (tag_of r) 2 i t))
        (λ H v. subst (ClientIn (Ranked H)) (turned_is 2 y.tag i) (λ z. absurd z))
    hear (v_3 i) k =
        let f : Fact M x 12 = fact 3 i in
        ends_read c x.page (rank_of x.tag) (stand_at_lem c 3 i.phase) (ap stand_of (new (ReadEnded x.tag x.set)))
        (λ r t.
        rank_least r x.tag
        (≼_trans (track_at (tag_of r) 3 i t) (copied_reaches (present M x i.timely 3 i.phase f.0))))
        (known_rank x.tag m.facts.tag.client (known_later (l k) f.1))
        (λ H v. message_row (Ranked H) M v s (subst (λ (q : ℕ). T (carries_page q)) (sym (i.timely.kind ∙ ap awaited i.phase)) tt))
        (others k c refl) (carry k (λ H v z. absurd z))
    hear (v_4 i _) k =
        chooses c w.page (rank_of t) (stand_at_lem c 4 i.phase)
        (ap stand_of (new (Next t) ∙ sym (turned_is 4 t i)) ∙ ap (λ (q : Page). writes q (rank_of t)) same_page) (omega (arith, few))
        (λ r u. let b : tag_of r ≺ t = above (tag_of r) u in
        (rank_above r t b, subst (TrackOf (N k) c (tag_of r)) (turned_is 4 t i ∙ sym (new (Next t))) b))
        (others k c refl)
        (λ H v h. within_acts (Ranked H) M v G.sound k (subst (ClientIn (Ranked H)) (turned_is 4 t i) (λ _. subst (H (rank_of t)) (sym same_page) h)))
      where
        t : Tag
        t = tag (y.tag.number + 1) c

        above : (F : Tag) → Track M c F → F ≺ t
        above F u =
            let d : F ≼ y.tag = told F 4 i refl refl i.enough (track_heard F 4 i u) in
            record { number = omega (arith, d.number); client = λ q. absurd (omega (arith, d.number)) }
    hear (v_spent i _) k =
        spends c w.page (stand_at_lem c 4 i.phase) (ap stand_of (new Spent)) (others k c refl) (carry k (λ H v z. absurd z))
    hear (v_5 i) k =
        quiet k
        (subst (Goes k c) (turned_is 5 y.tag i)
        (sym (ap (stand_at y.page y.tag) (heard_phase w x 5 i)) ∙ stand_heard w x, λ r t. track_heard (tag_of r) 5 i t))
        (λ H v. subst (ClientIn (Ranked H)) (turned_is 5 y.tag i)
        (λ _. heard_in (Ranked H) w x (client_row_lem (Ranked H) M v c) (subst (λ (q : ℕ). T (one_of q (5 ∷ 6 ∷ []))) (sym (heard_phase w x 5 i)) tt)))
    hear (v_6 i) k =
        ends_write c w.page (rank_of w.tag) (stand_at_lem c 6 i.phase) (ap stand_of (new (WriteEnded y.tag)))
        (known_rank w.tag (client_in M G.sound c m.receiver).tag.client
        (known_later (l k) (ended_known M G.sound G.invariant x (message_ok G.invariant s) m.facts m.receiver i)))
        (others k c refl) (carry k (λ H v z. absurd z))

  -- ---- every call

  acts_does : {a : Call} {e : Effect} → Acts M a e → Does layered M (applied e M) (event_of a e.answer e.page)
  unfolding event_of
  acts_does (startsRead c o) =
      let k = startsRead c o in
      let n = client_set M G.sound c o.client (started (client_at M c) 1 no_page) in
      begins_read c (stand_at_lem c 0 o.idle) (ap stand_of n)
      (λ r h. subst (TrackOf (N k) c (tag_of r)) (sym n) (new_asking M k (l k) c (tag_of r) G.invariant h)) (others k c refl) (carry k (λ H v z. absurd z))
  acts_does (startsWrite c page o) =
      let k = startsWrite c page o in
      let n = client_set M G.sound c o.client (started (client_at M c) 4 page) in
      begins_write c page (stand_at_lem c 0 o.idle) (ap stand_of n)
      (λ r h. subst (TrackOf (N k) c (tag_of r)) (sym n) (new_asking M k (l k) c (tag_of r) G.invariant h)) (others k c refl) (carry k (λ H v z. absurd z))
  acts_does {e = e} (empties c slots n q h) =
      subst (Does layered M (applied e M)) (sym (one_of_lem (λ (k : ℕ). event_of c (coded k) e.page ≡ nothing) n (0 ∷ 4 ∷ []) (cons (ap beginning h) (cons refl none)) q))
      (quiet (empties c slots n q h) tt (λ H v. tt))
  acts_does (directs s page m) = quiet (directs s page m) tt (λ H v. tt)
  acts_does (stores s page m n) = quiet (stores s page m n) tt (λ H v. tt)
  acts_does (hears s page m i) = hear s page (arrives G.sound m) i (hears s page m i)
  acts_does (gossips from to a b) = quiet (gossips from to a b) tt (λ H v. tt)
  acts_does (tidies r a) = quiet (tidies r a) tt (λ H v. tt)
  acts_does (crashes kind id who a) =
      let k = crashes kind id who a in
      quiet k (of_downed (Goes k) M who id (same k id))
      (λ H v. of_downed (λ c w. ClientIn (Ranked H) w) M who id (client_row_lem (Ranked H) M v id))

-- ---- the machine

module _ (M : Machine) (c : Call) (G : Good M) (n : Renews c (step c M).answer → ⊥) where
  step_invariant : Invariant (step c M).machine
  step_invariant = go (way M c n)
    where
      go : {N : Machine} {v : Event} → Way M c N v → Invariant N
      go stays = G.invariant
      go (goes k) = invariant_acts M G.sound G.invariant k

  step_known : (t : Tag) → Known M t → Known (step c M).machine t
  step_known t h = go (way M c n)
    where
      go : {N : Machine} {v : Event} → Way M c N v → Known N t
      go stays = h
      go (goes k) = known_later (acts_later M k) h

  step_does : Does layered M (step c M).machine (event_of c (step c M).answer (step c M).page)
  step_does = go (way M c n)
    where
      go : {N : Machine} {v : Event} → Way M c N v → Does layered M N v
      go stays = quietly (λ c. (refl, λ t h. h)) (λ H v. v)
      go (goes k) = acts_does M G k

-- the calls of a machine, each with a page of the right size and no accepted set-up
abbrev pub on_machine : Calls Machine Call
on_machine =
    record {
      after = λ M c. (step c M).machine;
      shows = λ M c. event_of c (step c M).answer (step c M).page;
      Meant = λ M c. T (not (wrong_page c)) × (Renews c (step c M).answer → ⊥);
    }

pub keeps : KeepsTo layered on_machine
keeps =
    record {
      good = λ M c G m. record { sound = step_sound c M G.sound m.0; invariant = step_invariant M c G m.1 };
      known = λ M c G m t h. step_known M c G m.1 (tag_of t) h;
      carried = λ M H H' f v. within_map (λ t p h. f (rank_of t) p h) M v;
      does = λ M c G m. step_does M c G m.1;
      new = never_gives_up (λ M c G m d. no_giving_up c (step c M).answer (step c M).page d);
    }
