-- What never falls in a machine, and that every fact of the invariant then stays.
use mathlib.Core.Path.{◌≡◌, refl, sym}
use mathlib.Core.Bool.{Bool, true, false, not, ◌||◌}
use mathlib.Core.List.{List, [], ◌∷◌}
use Prim.Native.Nat.{ℕ, ◌≤◌}
use native.Mathlib.Nat.{le_refl, le_trans}
use lib.Dec.{T, eqb}
use Rattle.sets.specs.Plain.{one_of}
use Rattle.sets.specs.declared.Tag.{Tag}
use Rattle.sets.proofs.TagOrder.{◌≼◌, ≼_refl, ≼_trans}
use Rattle.tables.specs.declared.Client.{Client}
use Rattle.tables.specs.declared.Message.{Message}
use Rattle.tables.specs.Tables.{Replica, Machine, no_client, no_directory, no_replica, client_at, directory_at, with_slots}
use Rattle.tables.proofs.All.{All, none, cons, all_map}
use Rattle.rules.proofs.Covers.{Covers}
use Rattle.machine.specs.Effects.{Change, nothing, client, directory, replica, anew, Effect, changed, applied}
use Rattle.runs.proofs.Codes.{one_of_lem}
use Rattle.runs.proofs.Rows.{row_ind}
use Rattle.history.proofs.Invariant.{if_t, CoversAt, Told, Reached, Known, Stands, Past, While, Fact, MessageOk, Gathering, unheard, gathered, PhaseFact, ClientOk, ReplicaOk}

-- the replies to clients
abbrev pub is_reply : ℕ → Bool
is_reply k = one_of k (5 ∷ 6 ∷ 7 ∷ 8 ∷ 12 ∷ 13 ∷ [])

-- the number of a waiting reply is not to come
pub reply_past : (M : Machine) (x : Message) → MessageOk M x → T (is_reply x.kind) → Past M x.receiver x.number
reply_past M x ok h = one_of_lem (λ (k : ℕ). Fact M x k → Past M x.receiver x.number) x.kind (5 ∷ 6 ∷ 7 ∷ 8 ∷ 12 ∷ 13 ∷ []) each h ok
  where
    at : (k : ℕ) → (Fact M x k → Past M x.receiver x.number) → Fact M x k → Past M x.receiver x.number
    at k f = f

    each : All (λ (k : ℕ). Fact M x k → Past M x.receiver x.number) (5 ∷ 6 ∷ 7 ∷ 8 ∷ 12 ∷ 13 ∷ [])
    each =
        cons (at 5 (λ f. f.0))
        (cons (at 6 (λ f. f.past))
        (cons (at 7 (λ f. f)) (cons (at 8 (λ f. f.past)) (cons (at 12 (λ f. f.0.past)) (cons (at 13 (λ f. f.past)) none)))))

-- ---- what never falls

-- the phases whose tag stays
abbrev pub settled : ℕ → Bool
settled p = one_of p (2 ∷ 3 ∷ 5 ∷ 6 ∷ [])

-- the message number never falls, and under one number phase and tag stay, once the tag is settled
pub record Moves (w v : Client) : Type 0 where
  pub number : w.number ≤ v.number
  pub back : (p n : ℕ) (t : Tag) → T (settled p) → n ≤ w.number → Stands v p n t → Stands w p n t

pub record Later (M N : Machine) : Type 0 where
  pub conf : N.conf ≡ M.conf
  pub clients : (c : ℕ) → Moves (client_at M c) (client_at N c)
  pub directories : (d : ℕ) → (directory_at M d).tag ≼ (directory_at N d).tag
  pub replicas : (r : ℕ) (t : Tag) → CoversAt M r t → CoversAt N r t

pub moves_not : (w : Client) → Moves w w
moves_not w = record { number = le_refl w.number; back = λ p n t s l h. h }

-- a changed row stands so to the row that it replaces
abbrev pub Moved : Machine → Change → Type 0
Moved M nothing = Unit
Moved M (client c w) = Moves (client_at M c) w
Moved M (directory d w) = (directory_at M d).tag ≼ w.tag
Moved M (replica r w) = (t : Tag) → CoversAt M r t → Covers w.entries t
Moved M (anew k page) = ⊥

pub later : (M : Machine) (e : Effect) → Moved M e.change → Later M (applied e M)
later M e h = go e.change (applied e M).slots h
  where
    same : Later M M
    same = record { conf = refl; clients = λ c. moves_not (client_at M c); directories = λ d. ≼_refl (directory_at M d).tag; replicas = λ r t k. k }

    go : (y : Change) (ss : List Message) → Moved M y → Later M (with_slots (changed y M) ss)
    go nothing ss g = record { conf = refl; clients = same.clients; directories = same.directories; replicas = same.replicas }
    go (client a w) ss g =
        record {
          conf = refl;
          clients = λ c. row_ind (Moves (client_at M c)) no_client M.clients a c w (λ e. rw e at g) (same.clients c);
          directories = same.directories;
          replicas = same.replicas;
        }
    go (directory a w) ss g =
        record {
          conf = refl;
          clients = same.clients;
          directories = λ d. row_ind (λ v. (directory_at M d).tag ≼ v.tag) no_directory M.directories a d w (λ e. rw e at g) (same.directories d);
          replicas = same.replicas;
        }
    go (replica a w) ss g =
        record {
          conf = refl;
          clients = same.clients;
          directories = same.directories;
          replicas = λ r t k. row_ind (λ v. Covers v.entries t) no_replica M.replicas a r w (λ e. g t (rw (sym e) at k)) k;
        }
    go (anew k page) ss g = absurd g

-- ---- the facts stay

pub if_t_with : (b : Bool) {X Y X' Y' : Type 0} → (T b → X → X') → (T (not b) → Y → Y') → if_t b X Y → if_t b X' Y'
if_t_with true f g h = f tt h
if_t_with false f g h = g tt h

pub if_t_map : (b : Bool) {X Y X' Y' : Type 0} → (X → X') → (Y → Y') → if_t b X Y → if_t b X' Y'
if_t_map b f g = if_t_with b (λ _. f) (λ _. g)

module _ {M N : Machine} (l : Later M N) where
  pub told_later : {t : Tag} {s : ℕ} → Told M t s → Told N t s
  told_later {t} h = record { enough = rw l.conf h.enough; covers = λ r k. l.replicas r t (h.covers r k) }

  pub reached_later : (t : Tag) (s : ℕ) → Reached M t s → Reached N t s
  reached_later t s h d k = ≼_trans (h d k) (l.directories d)

  pub known_later : {t : Tag} → Known M t → Known N t
  known_later {t} h =
      record {
        quorum = h.quorum;
        inside = rw l.conf h.inside;
        enough = rw l.conf h.enough;
        reached = reached_later t h.quorum h.reached;
      }

  pub past_later : (c n : ℕ) → Past M c n → Past N c n
  past_later c n h = le_trans h (l.clients c).number

  pub while_later : {c n : ℕ} {P Q : Tag → Type 0} (p : ℕ) → T (settled p) → ((t : Tag) → P t → Q t) → While M c p n P → While N c p n Q
  while_later {c} {n} p s f h =
      record { past = le_trans h.past (l.clients c).number; now = λ t k. f t (h.now t ((l.clients c).back p n t s h.past k)) }

  fact_later : (x : Message) (k : ℕ) → Fact M x k → Fact N x k
  fact_later x k =
      if_t_map (eqb k 1 || eqb k 3) (λ h. past_later x.sender x.number h)
      (if_t_map (eqb k 2) (λ h. (while_later 2 tt (λ t e. e) h.0, told_later h.1))
      (if_t_map (eqb k 4) (λ h. (while_later 6 tt (λ t e. e) h.0, told_later h.1))
      (if_t_map (eqb k 5) (λ h. (past_later x.receiver x.number h.0, told_later h.1))
      (if_t_map (eqb k 6) (λ h. while_later 2 tt (λ t e. ≼_trans e (l.directories x.sender)) h)
      (if_t_map (eqb k 7) (λ h. past_later x.receiver x.number h)
      (if_t_map (eqb k 8) (λ h. while_later 6 tt (λ t e. ≼_trans e (l.directories x.sender)) h)
      (if_t_map (eqb k 9) (λ h. (while_later 3 tt (λ t e. e) h.0, l.replicas x.receiver x.tag h.1, known_later h.2))
      (if_t_map (eqb k 10) (λ h. while_later 5 tt (λ t e. e) h)
      (if_t_map (eqb k 12) (λ h. (while_later 3 tt (λ t e. e) h.0, known_later h.1))
      (if_t_map (eqb k 13) (λ h. while_later 5 tt (λ t e. l.replicas x.sender t e) h)
      (if_t_map (eqb k 14) (λ h. l.replicas x.sender x.tag h)
      (if_t_map (eqb k 11 || eqb k 15) (λ h. known_later h)
      (λ h. h)))))))))))))

  gathering_later : {t : Tag} {s a : ℕ} → Gathering M t s a → Gathering N t s a
  gathering_later (unheard a b c) = unheard a b c
  gathering_later (gathered h) = gathered (told_later h)

  phase_later : (t : Tag) (s a p : ℕ) → PhaseFact M t s a p → PhaseFact N t s a p
  phase_later t s a p =
      if_t_map (eqb p 1) (λ h. gathering_later h)
      (if_t_map (eqb p 2) (λ h. (told_later h.0, reached_later t a h.1))
      (if_t_map (eqb p 3) (λ h. (told_later h.0, known_later h.1))
      (if_t_map (eqb p 5) (λ h r k. l.replicas r t (h r k))
      (if_t_map (eqb p 6) (λ h. (told_later h.0, reached_later t a h.1))
      (λ h. h)))))

  pub client_later : (w : Client) → ClientOk M w → ClientOk N w
  client_later w h = phase_later w.tag w.replicas w.answered w.phase h

  pub replica_later : (w : Replica) → ReplicaOk M w → ReplicaOk N w
  replica_later w h = all_map (λ e k s. known_later (k s)) h

  pub message_later : (x : Message) → MessageOk M x → MessageOk N x
  message_later x h = fact_later x x.kind h
