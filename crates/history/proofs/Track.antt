-- One operation of client c, followed from its start against a tag F that was known then: it will not end below F.
use mathlib.Core.Path.{◌≡◌, refl, sym, ap, subst}
use mathlib.Core.Bool.{Bool}
use mathlib.Core.Logic.{inl, inr, ⊎_elim}
use mathlib.Core.List.{List, [], ◌∷◌}
use Prim.Native.Nat.{ℕ, ◌+◌, ◌^◌, ◌≤◌, ◌<◌}
use native.Mathlib.Omega.{arith}
use lib.Dec.{T, eqb, eqb→eq}
use Rattle.sets.specs.Plain.{one_of}
use Rattle.sets.specs.declared.Tag.{Tag}
use Rattle.sets.specs.Tags.{first}
use Rattle.sets.specs.Inner.{◌∈◌}
use Rattle.sets.proofs.Laws.{none_in, with_in}
use Rattle.sets.proofs.Tests.{or_elim, if_ind}
use Rattle.sets.proofs.TagOrder.{◌≼◌, ◌≺◌, ≼_trans}
use Rattle.tables.specs.declared.Conf.{Conf}
use Rattle.tables.specs.declared.Client.{Client}
use Rattle.tables.specs.declared.Entry.{Entry}
use Rattle.tables.specs.declared.Message.{Message}
use Rattle.tables.specs.Tables.{Machine, no_message, client_at, directory_at, replica_at, slot_at}
use Rattle.tables.proofs.All.{All, none, cons, all_row, all_map}
use Rattle.tables.proofs.Quorums.{Quorums}
use Rattle.mail.specs.declared.Post.{Post}
use Rattle.rules.specs.declared.Outcome.{Outcome}
use Rattle.rules.specs.declared.Outcome.TheVariants.{Waiting, Next, ReadEnded, WriteEnded, Spent, Stale}
use Rattle.rules.specs.Quorums.{enough_to_read, enough_to_write}
use Rattle.rules.specs.Directory.{directory_post}
use Rattle.rules.specs.Replica.{replica_post, gossip_post}
use Rattle.rules.specs.Client.{awaited, heard, request, secures, client_post}
use Rattle.rules.proofs.Enough.{quorums_meet}
use Rattle.rules.proofs.Heard.{heard_keeps, heard_answered, heard_over}
use Rattle.rules.proofs.Views.{Timely}
use Rattle.machine.specs.Effects.{Effect, applied}
use Rattle.machine.specs.Calls.{Call}
use Rattle.runs.proofs.Codes.{one_of_lem}
use Rattle.runs.proofs.Acts.{Acts, reads, writes, empties, directs, stores, hears, gossips, tidies, crashes}
use Rattle.history.proofs.Rows.{Sent, all_slots}
use Rattle.history.proofs.Invariant.{if_t, Reached, Known, MessageOk, Invariant}
use Rattle.history.proofs.Later.{is_reply, reply_past, settled, Later, if_t_with, if_t_map, reached_later}
use Rattle.history.proofs.Keeping.{unsent}
use Rattle.history.proofs.Clients.{heard_settled}

-- a directory's reply with a tag: rread-ok, wread-ok
abbrev is_tag_reply : ℕ → Bool
is_tag_reply k = one_of k (5 ∷ 7 ∷ [])

-- what a reply to client c under number n, from one of the set q, must carry
abbrev Counts : ℕ → ℕ → ℕ → Tag → Message → Type 0
Counts c n q F x = T (is_tag_reply x.kind) → x.receiver ≡ c → x.number ≡ n → x.sender ∈ q → F ≼ x.tag

-- phases 1 and 4: a write quorum has F, and each of its directories that answered, or whose reply waits, tells of F or more
pub record Asking (M : Machine) (c n a : ℕ) (t F : Tag) : Type 0 where
  pub quorum : ℕ
  pub inside : quorum < 2 ^ M.conf.directories
  pub enough : T (enough_to_write M.conf quorum)
  pub reached : Reached M F quorum
  pub heard : (d : ℕ) → d ∈ a → d ∈ quorum → F ≼ t
  pub replies : All (Counts c n quorum F) M.slots

-- client c is in phase p under number n with answered set a and tag t
abbrev pub TrackAt : Machine → ℕ → Tag → (n a : ℕ) → Tag → ℕ → Type 0
TrackAt M c F n a t p =
    if_t (one_of p (1 ∷ 4 ∷ [])) (Asking M c n a t F)
    (if_t (one_of p (2 ∷ 3 ∷ [])) (F ≼ t)
    (if_t (one_of p (5 ∷ 6 ∷ [])) (F ≺ t)
    ⊥))

abbrev pub TrackOf : Machine → ℕ → Tag → Client → Type 0
TrackOf M c F w = TrackAt M c F w.number w.answered w.tag w.phase

abbrev pub Track : Machine → ℕ → Tag → Type 0
Track M c F = TrackOf M c F (client_at M c)

-- ---- what is sent: only directories send replies with a tag, and their own

module _ (c n q : ℕ) (F : Tag) where
  abbrev C : Message → Type 0
  C x = Counts c n q F x

  abbrev P : Post → Type 0
  P y = Sent C y

  count_request : (k : Conf) (own : ℕ) (w : Client) → P (request k own w)
  unfolding request
  count_request k own w =
      if_ind P (eqb w.phase 1) (λ _ p h z. absurd z)
      (λ _. if_ind P (eqb w.phase 2) (λ _ p h z. absurd z)
      (λ _. if_ind P (eqb w.phase 3) (λ _ p h z. absurd z)
      (λ _. if_ind P (eqb w.phase 4) (λ _ p h z. absurd z)
      (λ _. if_ind P (eqb w.phase 5) (λ _ p h z. absurd z)
      (λ _. if_ind P (eqb w.phase 6) (λ _ p h z. absurd z) (λ _. unsent C))))))

  count_client : (k : Conf) (own : ℕ) (w v : Client) (o : Outcome) → P (client_post k own w v o)
  unfolding client_post secures
  count_client k own w v Stale = unsent C
  count_client k own w v Waiting = unsent C
  count_client k own w v (Next t) = count_request k own v
  count_client k own w v (ReadEnded t n) = unsent C
  count_client k own w v (WriteEnded t) = λ p h z. absurd z
  count_client k own w v Spent = unsent C

  count_directory : (M : Machine) (x : Message) → Reached M F q → P (directory_post (directory_at M x.receiver) x)
  unfolding directory_post
  count_directory M x r =
      if_ind P (eqb x.kind 1) (λ _ p h _ _ _ m. r x.receiver m)
      (λ _. if_ind P (eqb x.kind 2) (λ _ p h z. absurd z)
      (λ _. if_ind P (eqb x.kind 3) (λ _ p h _ _ _ m. r x.receiver m)
      (λ _. if_ind P (eqb x.kind 4) (λ _ p h z. absurd z) (λ _. unsent C))))

  count_replica : (nd : ℕ) (es : List Entry) (x : Message) → P (replica_post nd es x)
  unfolding replica_post
  count_replica nd es x =
      if_ind P (eqb x.kind 9) (λ _ p h z. absurd z)
      (λ _. if_ind P (eqb x.kind 10) (λ _ p h z. absurd z) (λ _. if_ind P (eqb x.kind 15) (λ _ p h z. absurd z) (λ _. unsent C)))

  counts : {M : Machine} {a : Call} {e : Effect} → Acts M a e → Reached M F q → P e.post
  unfolding gossip_post
  counts {M} (reads d _) r = count_request M.conf d _
  counts {M} (writes d page _) r = count_request M.conf d _
  counts (empties c slots n _ _) r = unsent C
  counts {M} (directs s page _) r = count_directory M (slot_at M s) r
  counts {M} (stores s page _ _) r = count_replica M.conf.directories (replica_at M (slot_at M s).receiver).entries (slot_at M s)
  counts {M} (hears s page {o} _ _) r = count_client M.conf (slot_at M s).receiver (client_at M (slot_at M s).receiver) _ o
  counts (gossips from to _ _) r = λ p h z. absurd z
  counts (tidies s _) r = unsent C
  counts (crashes kind id who _) r = unsent C

-- ---- a row that stays

module _ (M : Machine) {a : Call} {e : Effect} (k : Acts M a e) (l : Later M (applied e M)) (c : ℕ) (F : Tag) where
  all_count : (n q : ℕ) → Reached M F q → All (Counts c n q F) M.slots → All (Counts c n q F) (applied e M).slots
  unfolding no_message
  all_count n q r h = all_slots (Counts c n q F) M e (λ z. absurd z) (counts c n q F k r) h

  asking_later : {n b : ℕ} {t : Tag} → Asking M c n b t F → Asking (applied e M) c n b t F
  asking_later {n} h =
      record {
        quorum = h.quorum;
        inside = rw l.conf h.inside;
        enough = rw l.conf h.enough;
        reached = reached_later l F h.quorum h.reached;
        heard = h.heard;
        replies = all_count n h.quorum h.reached h.replies;
      }

  pub track_later : (w : Client) → TrackOf M c F w → TrackOf (applied e M) c F w
  track_later w = if_t_map (one_of w.phase (1 ∷ 4 ∷ [])) (λ h. asking_later h) (λ h. h)

  -- no reply to a coming number waits
  late : (x : Message) → MessageOk M x → T (is_tag_reply x.kind) → x.receiver ≡ c → x.number ≡ (client_at M c).number + 1 → ⊥
  late x g h r n =
      let p = reply_past M x g (one_of_lem (λ k. T (is_reply k)) x.kind (5 ∷ 7 ∷ []) (cons tt (cons tt none)) h) in
      omega (arith, subst (λ (d : ℕ). x.number ≤ (client_at M d).number) r p)

  -- an operation begins
  pub new_asking : Invariant M → Known M F → Asking (applied e M) c ((client_at M c).number + 1) 0 first F
  new_asking v h =
      asking_later
      (record {
        quorum = h.quorum;
        inside = h.inside;
        enough = h.enough;
        reached = h.reached;
        heard = λ d m _. absurd (none_in d m);
        replies = all_map (λ x g z r n _. absurd (late x g z r n)) v.messages;
      })

-- ---- the client hears a reply

module _ (M : Machine) (s : ℕ) (F : Tag) (k : Timely (client_at M (slot_at M s).receiver) (slot_at M s)) where
  abbrev x : Message
  x = slot_at M s

  abbrev c : ℕ
  c = x.receiver

  abbrev w : Client
  w = client_at M c

  abbrev y : Client
  y = heard w x

  hear_asking : T (one_of w.phase (1 ∷ 4 ∷ [])) → Asking M c w.number w.answered w.tag F → Asking M c y.number y.answered y.tag F
  unfolding awaited no_message
  hear_asking b h =
      let o = heard_over w x (⊎_elim (λ u. inl (eqb→eq w.phase 1 u)) (λ u. inr (eqb→eq w.phase 4 u)) (or_elim (eqb w.phase 1) (eqb w.phase 4) b)) in
      let reply : T (is_tag_reply x.kind) = rw k.kind (one_of_lem (λ p. T (is_tag_reply (awaited p))) w.phase (1 ∷ 4 ∷ []) (cons tt (cons tt none)) b) in
      record {
        quorum = h.quorum;
        inside = h.inside;
        enough = h.enough;
        reached = h.reached;
        heard = λ d m q.
            ⊎_elim (λ u. ≼_trans (h.heard d u q) o.own)
            (λ (u : d ≡ x.sender). ≼_trans (all_row {P = Counts c w.number h.quorum F} no_message s (λ z. absurd z) h.replies reply refl k.number (rw u at q)) o.told)
            (with_in w.answered x.sender d (rw (heard_answered w x) at m));
        replies = rw (heard_keeps w x).number h.replies;
      }

  pub hear_row : TrackOf M c F w → TrackOf M c F y
  hear_row t =
      subst (TrackAt M c F y.number y.answered y.tag) (sym (heard_keeps w x).phase)
      (if_t_with (one_of w.phase (1 ∷ 4 ∷ [])) hear_asking
      (λ _. if_t_with (one_of w.phase (2 ∷ 3 ∷ [])) (λ b h. subst (λ (u : Tag). F ≼ u) (sym (stays (one_of_lem (λ p. T (settled p)) w.phase (2 ∷ 3 ∷ []) (cons tt (cons tt none)) b))) h)
      (λ _. if_t_with (one_of w.phase (5 ∷ 6 ∷ [])) (λ b h. subst (λ (u : Tag). F ≺ u) (sym (stays (one_of_lem (λ p. T (settled p)) w.phase (5 ∷ 6 ∷ []) (cons tt (cons tt none)) b))) h)
      (λ _ h. h))) t)
    where
      stays : T (settled w.phase) → y.tag ≡ w.tag
      stays q = ap (λ (v : Client). v.tag) (heard_settled w x w.phase refl q)

-- enough answers: one of them is from the quorum
pub asked : (M : Machine) (c n a : ℕ) (t F : Tag) → Asking M c n a t F → Quorums M.conf → a < 2 ^ M.conf.directories
    → T (enough_to_read M.conf a) → F ≼ t
asked M c n a t F h q i e = let r = quorums_meet M.conf a h.quorum q i h.inside e h.enough in h.heard r.0 r.3 r.4
