-- The invariant over a delivery to a client, and over the starts.
use Rattle.std.specs.Prelude.{Option, Some}
use mathlib.Core.Path.{◌≡◌, refl, sym, ap, subst, ◌∙◌}
use mathlib.Core.Bool.{true, not}
use mathlib.Core.Logic.{⊎_elim}
use Prim.Native.Nat.{ℕ, ◌+◌, ◌^◌, ◌≤◌, ◌<◌}
use native.Mathlib.Nat.{le_of_eq}
use lib.Bits.{or_zero_l}
use lib.Dec.{T, eqb, leb→le, eqb→eq, T_not}
use Rattle.sets.specs.declared.Tag.{Tag}
use Rattle.std.specs.declared.cmp.Ordering.{Ordering}
use Rattle.std.specs.declared.cmp.Ordering.TheVariants.{Less, Equal, Greater}
use Rattle.sets.specs.Tags.{tag, against}
use Rattle.sets.specs.Sets.{size, join, with}
use Rattle.sets.specs.Inner.{◌∈◌}
use Rattle.sets.proofs.Laws.{none_in, with_in, with_lt}
use Rattle.sets.proofs.Tests.{if_ind}
use Rattle.sets.proofs.TagOrder.{◌≼◌, ◌≺◌, ≺-≼, ≺_irrefl, first_least, view as compare, is_below, is_same, is_above}
use Rattle.tables.specs.declared.Conf.{Conf}
use Rattle.tables.specs.declared.Client.{Client}
use Rattle.tables.specs.declared.Message.{Message}
use Rattle.tables.specs.declared.Party.{Party}
use Rattle.tables.specs.declared.Party.TheVariants.{ADirectory}
use Rattle.tables.specs.Kinds.{sender_of, many_named}
use Rattle.tables.specs.Phases.{asks_directories}
use Rattle.tables.specs.Tables.{Page, Machine, no_client, client_at, directory_at}
use Rattle.tables.proofs.All.{all_row}
use Rattle.inspect.proofs.Facts.{MessageFacts}
use Rattle.rules.specs.declared.Outcome.{Outcome}
use Rattle.rules.specs.declared.Outcome.TheVariants.{Next}
use Rattle.rules.specs.Quorums.{enough_to_read, enough_to_write}
use Rattle.rules.specs.Client.{awaited, enough_for, hearing, gathered as gatheredBy, raised, heard, moved, started, client_after, request, secures, client_post}
use Rattle.rules.proofs.Enough.{none_read}
use Rattle.rules.proofs.Heard.{heard_keeps, heard_answered}
use Rattle.rules.proofs.Views.{Timely, Completes, View, v_stale, v_waits, v_1, v_2, v_3, v_4, v_spent, v_5, v_6}
use Rattle.runs.proofs.Acts.{Among}
use Rattle.runs.proofs.Sound.{Sound}
use Rattle.runs.proofs.Rows.{numbers_of_lem}
use Rattle.history.proofs.Rows.{Sent}
use Rattle.history.proofs.Shape.{client_in}
use Rattle.history.proofs.Invariant.{CoversAt, Told, Reached, Known, While, Fact, MessageOk, Gathering, unheard, gathered, PhaseFact, ClientOk, Invariant}
use Rattle.history.proofs.Later.{Later, settled, if_t_with, told_later, known_later}
use Rattle.history.proofs.Keeping.{unsent}
use Rattle.history.proofs.Directories.{told_more}

-- of any client
pub client_ok : {M : Machine} → Invariant M → (c : ℕ) → ClientOk M (client_at M c)
unfolding no_client
client_ok v c = all_row no_client c tt v.clients

-- where the tag is settled a reply adds its sender
pub heard_settled : (w : Client) (x : Message) (p : ℕ) → w.phase ≡ p → T (settled p) → heard w x ≡ hearing w (with w.answered x.sender) w.replicas w.tag
unfolding heard
heard_settled w x p e s =
    if_ind P (eqb w.phase 1) (λ h. absurd (not_at 1 h (λ z. z)))
    (λ _. if_ind P (eqb w.phase 4) (λ h. absurd (not_at 4 h (λ z. z))) (λ _. refl))
  where
    P : Client → Type 0
    P y = y ≡ hearing w (with w.answered x.sender) w.replicas w.tag

    not_at : (q : ℕ) → T (eqb w.phase q) → (T (settled q) → ⊥) → ⊥
    not_at q h n = n (subst (λ (r : ℕ). T (settled r)) (sym e ∙ eqb→eq w.phase q h) s)

-- one more answer
one_more : (P : ℕ → Type 0) (a s : ℕ) → ((r : ℕ) → r ∈ a → P r) → P s → (r : ℕ) → r ∈ with a s → P r
one_more P a s f h r k = ⊎_elim (λ u. f r u) (λ (u : r ≡ s). rw u h) (with_in a s r k)

-- a new row's own messages
pub while_new : {N : Machine} (c p : ℕ) (w : Client) → client_at N c ≡ w → While N c p w.number (λ t. w.tag ≡ t)
while_new c p w e = record { past = le_of_eq (ap (λ (v : Client). v.number) (sym e)); now = λ t st. sym (ap (λ (v : Client). v.tag) e) ∙ st.tag }

module _ (M : Machine) (x : Message) (k : Timely (client_at M x.receiver) x) where
  abbrev w : Client
  w = client_at M x.receiver

  -- what the message says in the client's phase
  pub awaited_fact : (p : ℕ) → w.phase ≡ p → MessageOk M x → Fact M x (awaited p)
  awaited_fact p e g = subst (Fact M x) (k.kind ∙ ap awaited e) g

  -- and of its present tag
  pub present : {P : Tag → Type 0} (p : ℕ) → w.phase ≡ p → While M x.receiver p x.number P → P w.tag
  present p e u = u.now w.tag (record { phase = e; number = sym k.number; tag = refl })

  module _ (v : Invariant M) (g : MessageOk M x) where
    gathers : Told M x.tag x.set → Gathering M w.tag w.replicas w.answered → (a : ℕ) → w.phase ≡ 1
        → ClientOk M (gatheredBy w a x.tag x.set (against x.tag w.tag))
    gathers u h a e =
        elim (compare x.tag w.tag) [
          | is_below q l ↦ rw q (at (lower l h))
          | is_same q l ↦ rw q (at (same l h))
          | is_above q l ↦ rw q (at (gathered u))
        ]
      where
        at : {t : Tag} {s : ℕ} → Gathering M t s a → PhaseFact M t s a w.phase
        at {t} {s} h = subst (PhaseFact M t s a) (sym e) h

        lower : x.tag ≺ w.tag → Gathering M w.tag w.replicas w.answered → Gathering M w.tag w.replicas a
        lower l (gathered h) = gathered h
        lower l (unheard t s a) = absurd (≺_irrefl (≺-≼ (rw t at l) (first_least x.tag)))

        same : x.tag ≡ w.tag → Gathering M w.tag w.replicas w.answered → Gathering M w.tag (join w.replicas x.set) a
        same l (gathered h) = gathered (told_more _ h (λ r q. subst (CoversAt M r) l (u.covers r q)))
        same l (unheard t s a) = gathered (rw (s, or_zero_l x.set) (subst (λ (z : Tag). Told M z x.set) l u))

    reach : (p : ℕ) → w.phase ≡ p → Reached M w.tag w.answered → While M x.receiver p x.number (λ t. t ≼ (directory_at M x.sender).tag)
        → Reached M w.tag (with w.answered x.sender)
    reach p e f u = one_more (λ d. w.tag ≼ (directory_at M d).tag) w.answered x.sender f (present p e u)

    answers : T (not (eqb w.phase 1)) → PhaseFact M w.tag w.replicas (with w.answered x.sender) w.phase
    unfolding awaited
    answers n =
        if_t_with (eqb w.phase 1) (λ h. absurd (T_not (eqb w.phase 1) n h))
        (λ _. if_t_with (eqb w.phase 2) (λ h f. let e : w.phase ≡ 2 = eqb→eq w.phase 2 h in (f.0, reach 2 e f.1 (awaited_fact 2 e g)))
        (λ _. if_t_with (eqb w.phase 3) (λ _ f. f)
        (λ _. if_t_with (eqb w.phase 5)
        (λ h f. let e : w.phase ≡ 5 = eqb→eq w.phase 5 h in one_more (λ r. CoversAt M r w.tag) w.answered x.sender f (present 5 e (awaited_fact 5 e g)))
        (λ _. if_t_with (eqb w.phase 6) (λ h f. let e : w.phase ≡ 6 = eqb→eq w.phase 6 h in (f.0, reach 6 e f.1 (awaited_fact 6 e g)))
        (λ _ f. f)))))
        (client_ok v x.receiver)

    raises : w.phase ≡ 4 → (a : ℕ) (o : Ordering) → ClientOk M (raised w a x.tag o)
    raises e a Less = subst (PhaseFact M w.tag w.replicas a) (sym e) tt
    raises e a Equal = subst (PhaseFact M w.tag w.replicas a) (sym e) tt
    raises e a Greater = subst (PhaseFact M x.tag w.replicas a) (sym e) tt

    pub heard_ok : ClientOk M (heard w x)
    unfolding heard awaited
    heard_ok =
        if_ind (ClientOk M) (eqb w.phase 1)
        (λ h. let e : w.phase ≡ 1 = eqb→eq w.phase 1 h in
        gathers (awaited_fact 1 e g).1 (subst (PhaseFact M w.tag w.replicas w.answered) e (client_ok v x.receiver)) (with w.answered x.sender) e)
        (λ n. if_ind (ClientOk M) (eqb w.phase 4)
        (λ h. raises (eqb→eq w.phase 4 h) (with w.answered x.sender) (against x.tag w.tag)) (λ _. answers n))

-- the row with another phase
abbrev pub at_phase : Client → ℕ → Client
at_phase w p =
    record { down = w.down; phase = p; number = w.number; answered = w.answered; replicas = w.replicas; tag = w.tag; spare = w.spare; page = w.page }

pub heard_phase : {k : Conf} (w : Client) (x : Message) (p : ℕ) → Completes k w x p → (heard w x).phase ≡ p
heard_phase w x p c = (heard_keeps w x).phase ∙ c.phase

-- directories answer from within their range
pub asked_in : (M : Machine) → Sound M → (x : Message) → MessageFacts M.conf x → Among M.conf.clients x.receiver → (p : ℕ) → asks_directories p ≡ true → sender_of (awaited p) ≡ Some ADirectory
    → Completes M.conf (client_at M x.receiver) x p → (heard (client_at M x.receiver) x).answered < 2 ^ M.conf.directories
asked_in M z x f a p q d c =
    rw (heard_answered (client_at M x.receiver) x)
    (with_lt M.conf.directories (client_at M x.receiver).answered x.sender ((client_in M z x.receiver a).asked (rw c.phase q))
    (subst (λ (s : Option Party). x.sender ≤ many_named M.conf s) (ap sender_of (c.timely.kind ∙ ap awaited c.phase) ∙ d) f.sender))

module _ (M : Machine) (z : Sound M) (v : Invariant M) (x : Message) (g : MessageOk M x) (f : MessageFacts M.conf x) (a : Among M.conf.clients x.receiver) where
  abbrev own : ℕ
  own = x.receiver

  abbrev old : Client
  old = client_at M x.receiver

  abbrev u : Client
  u = heard old x

  phase_ok : (p : ℕ) → Completes M.conf old x p → PhaseFact M u.tag u.replicas u.answered p
  phase_ok p c = subst (PhaseFact M u.tag u.replicas u.answered) (heard_phase old x p c) (heard_ok M x c.timely v g)

  reached_known : (p : ℕ) → asks_directories p ≡ true → sender_of (awaited p) ≡ Some ADirectory → (c : Completes M.conf old x p) → T (enough_to_write M.conf u.answered)
      → Reached M u.tag u.answered → Known M u.tag
  reached_known p q d c e r = record { quorum = u.answered; inside = asked_in M z x f a p q d c; enough = e; reached = r }

  -- a write ends: its tag is known
  pub ended_known : Completes M.conf old x 6 → Known M old.tag
  unfolding enough_for awaited sender_of
  ended_known c =
      subst (Known M) (ap (λ (w : Client). w.tag) (heard_settled old x 6 c.phase tt)) (reached_known 6 refl refl c c.enough (phase_ok 6 c).1)

  told : Completes M.conf old x 1 → Told M u.tag u.replicas
  unfolding enough_for
  told c = go (phase_ok 1 c)
    where
      go : Gathering M u.tag u.replicas u.answered → Told M u.tag u.replicas
      go (gathered h) = h
      go (unheard t s e) = absurd (none_read M.conf (numbers_of_lem z).quorums (subst (λ (b : ℕ). T (enough_to_read M.conf b)) e c.enough))

  module _ {N : Machine} (l : Later M N) where
    -- the row afterwards, and what is sent where the machine has that row
    abbrev pub Fine : Outcome → Type 0
    Fine o =
        ClientOk M (client_after old x o)
        × (client_at N own ≡ client_after old x o → Sent (MessageOk N) (client_post M.conf own old (client_after old x o) o))

    turns : (p : ℕ) (t : Tag) → Completes M.conf old x p
        → ClientOk M (moved (at_phase u p) t) × (client_at N own ≡ moved (at_phase u p) t → Sent (MessageOk N) (request M.conf own (moved (at_phase u p) t)))
        → Fine (Next t)
    unfolding client_after client_post
    turns p t c h =
        subst (λ (r : Client). ClientOk M r × (client_at N own ≡ r → Sent (MessageOk N) (request M.conf own r)))
        (ap (λ (q : ℕ). moved (at_phase u q) t) (sym (heard_phase old x p c))) h

    pub fine : {o : Outcome} → View M.conf own old x o → Fine o
    unfolding client_after client_post request secures enough_for awaited sender_of
    fine (v_stale _) = (client_ok v own, λ _. unsent (MessageOk N))
    fine (v_waits k _) = (heard_ok M x k v g, λ _. unsent (MessageOk N))
    fine (v_1 c) =
        turns 1 u.tag c
        ((told c, λ d h. absurd (none_in d h)), λ e p h. (while_new own 2 (moved (at_phase u 1) u.tag) e, told_later l (told c)))
    fine (v_2 c) =
        let k : Known M u.tag = reached_known 2 refl refl c c.enough (phase_ok 2 c).1 in
        turns 2 u.tag c (
          ((phase_ok 2 c).0, k),
          λ e p h. (while_new own 3 (moved (at_phase u 2) u.tag) e, l.replicas p u.tag ((phase_ok 2 c).0.covers p h), known_later l k),
        )
    fine (v_3 _) = (tt, λ _. unsent (MessageOk N))
    fine (v_4 c _) =
        turns 4 (tag (u.tag.number + 1) own) c
        ((λ r h. absurd (none_in r h)), λ e p h. while_new own 5 (moved (at_phase u 4) (tag (u.tag.number + 1) own)) e)
    fine (v_spent _ _) = (tt, λ _. unsent (MessageOk N))
    fine (v_5 c) =
        let t : Told M u.tag u.answered = record { enough = leb→le (M.conf.f + 1) (size u.answered) c.enough; covers = phase_ok 5 c } in
        turns 5 u.tag c
        ((t, λ d h. absurd (none_in d h)), λ e p h. (while_new own 6 (moved (at_phase u 5) u.tag) e, told_later l t))
    fine (v_6 c) = (tt, λ _ p h. known_later l (ended_known c))

-- ---- the starts

module _ (M N : Machine) (c : ℕ) (page : Page) where
  pub read_starts : ClientOk M (started (client_at M c) 1 page)
      × (client_at N c ≡ started (client_at M c) 1 page → Sent (MessageOk N) (request M.conf c (started (client_at M c) 1 page)))
  unfolding request
  read_starts = (unheard refl refl refl, λ e p h. (while_new {N = N} c 1 (started (client_at M c) 1 page) e).past)

  pub write_starts : ClientOk M (started (client_at M c) 4 page)
      × (client_at N c ≡ started (client_at M c) 4 page → Sent (MessageOk N) (request M.conf c (started (client_at M c) 4 page)))
  unfolding request
  write_starts = (tt, λ e p h. (while_new {N = N} c 4 (started (client_at M c) 4 page) e).past)
