-- What holds of every machine reached from set-up: one fact for each kind of message, phase, directory and replica.
use mathlib.Core.Path.{◌≡◌}
use mathlib.Core.Bool.{Bool, true, false, ◌||◌}
use Prim.Native.Nat.{ℕ, ◌+◌, ◌^◌, ◌≤◌, ◌<◌}
use lib.Dec.{T, eqb}
use Rattle.sets.specs.declared.Tag.{Tag}
use Rattle.sets.specs.Tags.{first}
use Rattle.sets.specs.Sets.{size}
use Rattle.sets.specs.Inner.{◌∈◌}
use Rattle.sets.proofs.TagOrder.{◌≼◌}
use Rattle.tables.specs.declared.Client.{Client}
use Rattle.tables.specs.declared.Message.{Message}
use Rattle.tables.specs.Tables.{Replica, Machine, client_at, directory_at, replica_at}
use Rattle.tables.proofs.All.{All}
use Rattle.rules.specs.Quorums.{enough_to_write}
use Rattle.rules.proofs.Covers.{Covers, Copied}
use Rattle.rules.proofs.Every.{Secured}

abbrev pub if_t : Bool → Type 0 → Type 0 → Type 0
if_t true X Y = X
if_t false X Y = Y

-- replica r has the tag, or has secured a higher one
abbrev pub CoversAt : Machine → ℕ → Tag → Type 0
CoversAt M r t = Covers (replica_at M r).entries t

-- a tag with a set of replicas, all of which cover it, and f + 1 at least
pub record Told (M : Machine) (t : Tag) (s : ℕ) : Type 0 where
  pub enough : M.conf.f + 1 ≤ size s
  pub covers : (r : ℕ) → r ∈ s → CoversAt M r t

-- all these directories have the tag or a higher one
abbrev pub Reached : Machine → Tag → ℕ → Type 0
Reached M t s = (d : ℕ) → d ∈ s → t ≼ (directory_at M d).tag

-- a write quorum has the tag or a higher one
pub record Known (M : Machine) (t : Tag) : Type 0 where
  pub quorum : ℕ
  pub inside : quorum < 2 ^ M.conf.directories
  pub enough : T (enough_to_write M.conf quorum)
  pub reached : Reached M t quorum

-- ---- messages

-- the row is in phase p under message number n with tag t
pub record Stands (w : Client) (p n : ℕ) (t : Tag) : Type 0 where
  pub phase : w.phase ≡ p
  pub number : w.number ≡ n
  pub tag : w.tag ≡ t

-- message number n of client c is not to come
abbrev pub Past : Machine → ℕ → ℕ → Type 0
Past M c n = n ≤ (client_at M c).number

-- what message number n means while client c is in phase p with it: P of the client's tag
pub record While (M : Machine) (c p n : ℕ) (P : Tag → Type 0) : Type 0 where
  pub past : Past M c n
  pub now : (t : Tag) → Stands (client_at M c) p n t → P t

-- of a message of kind k
abbrev pub Fact : Machine → Message → ℕ → Type 0
Fact M x k =
    if_t (eqb k 1 || eqb k 3) (Past M x.sender x.number)
    (if_t (eqb k 2) (While M x.sender 2 x.number (λ t. x.tag ≡ t) × Told M x.tag x.set)
    (if_t (eqb k 4) (While M x.sender 6 x.number (λ t. x.tag ≡ t) × Told M x.tag x.set)
    (if_t (eqb k 5) (Past M x.receiver x.number × Told M x.tag x.set)
    (if_t (eqb k 6) (While M x.receiver 2 x.number (λ t. t ≼ (directory_at M x.sender).tag))
    (if_t (eqb k 7) (Past M x.receiver x.number)
    (if_t (eqb k 8) (While M x.receiver 6 x.number (λ t. t ≼ (directory_at M x.sender).tag))
    (if_t (eqb k 9) (While M x.sender 3 x.number (λ t. x.tag ≡ t) × CoversAt M x.receiver x.tag × Known M x.tag)
    (if_t (eqb k 10) (While M x.sender 5 x.number (λ t. x.tag ≡ t))
    (if_t (eqb k 12) (While M x.receiver 3 x.number (λ t. Copied t x.tag x.set) × Known M x.tag)
    (if_t (eqb k 13) (While M x.receiver 5 x.number (λ t. CoversAt M x.sender t))
    (if_t (eqb k 14) (CoversAt M x.sender x.tag)
    (if_t (eqb k 11 || eqb k 15) (Known M x.tag)
    Unit))))))))))))

abbrev pub MessageOk : Machine → Message → Type 0
MessageOk M x = Fact M x x.kind

-- ---- rows

-- phase 1: nothing heard yet, or a told tag
pub data Gathering (M : Machine) (t : Tag) (s a : ℕ) : Type 0 where
  unheard : t ≡ first → s ≡ 0 → a ≡ 0 → Gathering M t s a
  gathered : Told M t s → Gathering M t s a

-- of a client in phase p with tag t, replica set s and answered set a
abbrev pub PhaseFact : Machine → Tag → (s a p : ℕ) → Type 0
PhaseFact M t s a p =
    if_t (eqb p 1) (Gathering M t s a)
    (if_t (eqb p 2) (Told M t s × Reached M t a)
    (if_t (eqb p 3) (Told M t s × Known M t)
    (if_t (eqb p 5) ((r : ℕ) → r ∈ a → CoversAt M r t)
    (if_t (eqb p 6) (Told M t s × Reached M t a)
    Unit))))

abbrev pub ClientOk : Machine → Client → Type 0
ClientOk M w = PhaseFact M w.tag w.replicas w.answered w.phase

-- every secured tag is known
abbrev pub ReplicaOk : Machine → Replica → Type 0
ReplicaOk M w = Secured (Known M) w.entries

pub record Invariant (M : Machine) : Type 0 where
  pub clients : All (ClientOk M) M.clients
  pub directories : (d : ℕ) → 1 ≤ d → d ≤ M.conf.directories → Told M (directory_at M d).tag (directory_at M d).set
  pub replicas : All (ReplicaOk M) M.replicas
  pub messages : All (MessageOk M) M.slots
