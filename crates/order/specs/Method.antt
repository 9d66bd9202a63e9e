-- WHAT A MACHINE KEEPS TO, call by call, for its runs to stand in one line.
-- Every write has a rank, a number above 0 by which the writes are ordered; the first page has rank 0.
use Rattle.std.specs.Prelude.{◌≡◌, ◌⊎◌, List, [], ◌∷◌, ℕ, ◌≤◌, ◌<◌}
use Rattle.order.specs.Run.{Page, Event, Calls, read_begins, write_begins, read_ends, write_ends, write_spent, gives_up, nothing}

-- ---- the calls of a run

-- each call is meant, where it comes
unfoldable pub AllMeant : {M C : Type 0} → Calls M C → M → List C → Type 0
AllMeant A m [] = Unit {0}
AllMeant A m (x ∷ xs) = A.Meant m x × AllMeant A (A.after m x) xs

-- ---- the method

-- what a client is doing: nothing, a read, a write that has no rank yet, a write with its rank
pub data Stand : Type 0 where
  idle : Stand
  reads : Stand
  asks : (page : Page) → Stand
  writes : (page : Page) → (rank : ℕ) → Stand

pub record Method (M : Type 0) : Type 1 where
  -- what a machine must be for the rest to hold
  pub Good : M → Type 0
  pub stand : M → ℕ → Stand
  -- an operation that begins cannot miss rank t
  pub Known : M → ℕ → Type 0
  -- client c's operation will not end below rank t
  pub Track : M → ℕ → ℕ → Type 0
  -- H holds of each rank with its page, wherever the machine carries them
  pub Within : (ℕ → Page → Type 0) → M → Type 0
  -- the client that alone may choose a rank
  pub owner : ℕ → ℕ

module _ {M : Type 0} (K : Method M) where
  -- client c's operation goes on
  abbrev pub GoesOn : M → M → ℕ → Type 0
  GoesOn m n c = (K.stand n c ≡ K.stand m c) × ((t : ℕ) → K.Track m c t → K.Track n c t)

  -- those of all clients but c do
  abbrev pub Others : M → M → ℕ → Type 0
  Others m n c = (d : ℕ) → (d ≡ c → ⊥) → GoesOn m n d

  -- nothing is carried that was not
  abbrev pub Carries : M → M → Type 1
  Carries m n = (H : ℕ → Page → Type 0) → K.Within H m → K.Within H n

  -- what is known is not missed by an operation that client c begins
  abbrev pub Follows : M → M → ℕ → Type 0
  Follows m n c = (t : ℕ) → K.Known m t → K.Track n c t

  -- rank t is not below what client c tracks
  abbrev pub Reaches : M → ℕ → ℕ → Type 0
  Reaches m c t = (s : ℕ) → K.Track m c s → s ≤ t

  -- rank t is above what client c tracks, which it tracks still
  abbrev pub Above : M → M → ℕ → ℕ → Type 0
  Above m n c t = (s : ℕ) → K.Track m c s → (s < t) × K.Track n c s

  -- a call that leads from m to n and shows the event
  pub data Does (m n : M) : Event → Type 1 where
    quietly : ((c : ℕ) → GoesOn m n c) → Carries m n → Does m n nothing
    begins_read : (c : ℕ) → K.stand m c ≡ idle → K.stand n c ≡ reads → Follows m n c → Others m n c → Carries m n → Does m n (read_begins c)
    begins_write : (c : ℕ) (p : Page) → K.stand m c ≡ idle → K.stand n c ≡ asks p → Follows m n c → Others m n c → Carries m n → Does m n (write_begins c p)
    -- from now on the rank is carried with the page
    chooses : (c : ℕ) (p : Page) (t : ℕ) → K.stand m c ≡ asks p → K.stand n c ≡ writes p t → K.owner t ≡ c → Above m n c t → Others m n c
        → ((H : ℕ → Page → Type 0) → K.Within H m → H t p → K.Within H n) → Does m n nothing
    -- the page shown was carried under its rank
    ends_read : (c : ℕ) (p : Page) (t : ℕ) → K.stand m c ≡ reads → K.stand n c ≡ idle → Reaches m c t → K.Known n t
        → ((H : ℕ → Page → Type 0) → K.Within H m → H t p) → Others m n c → Carries m n → Does m n (read_ends c p)
    ends_write : (c : ℕ) (p : Page) (t : ℕ) → K.stand m c ≡ writes p t → K.stand n c ≡ idle → K.Known n t → Others m n c → Carries m n → Does m n (write_ends c)
    spends : (c : ℕ) (p : Page) → K.stand m c ≡ asks p → K.stand n c ≡ idle → Others m n c → Carries m n → Does m n (write_spent c)
    ends_unfinished : (c : ℕ) → (K.stand m c ≡ idle → ⊥) → K.stand n c ≡ idle → Others m n c → Carries m n → Does m n (gives_up c)

  -- a machine that has just been set up with first page p
  pub record Fresh (p : Page) (m : M) : Type 0 where
    pub good : K.Good m
    pub none : (c : ℕ) → K.stand m c ≡ idle
    pub known : K.Known m 0
    pub first : K.Within (λ t q. (t ≡ 0) × (q ≡ p)) m

  module _ {C : Type 0} (A : Calls M C) where
    -- what holds of every call that is meant
    abbrev pub Always : (M → C → Type 0) → Type 0
    Always P = (m : M) (x : C) → K.Good m → A.Meant m x → P m x

    -- Why a client never chooses a rank that it chose before: nothing is ever given up, so that its earlier writes have ended, and it tracks no less than their ranks;
    -- or the machine keeps a bound on what each client chose.
    pub data NewRanks : Type 0 where
      never_gives_up : Always (λ m x. (c : ℕ) → A.shows m x ≡ gives_up c → ⊥) → NewRanks
      keeps_last : (last : M → ℕ → ℕ) → Always (λ m x. (c : ℕ) → last m c ≤ last (A.after m x) c)
          → Always (λ m x. (c : ℕ) (p : Page) (t : ℕ) → K.stand m c ≡ asks p → K.stand (A.after m x) c ≡ writes p t → (last m c < t) × (t ≤ last (A.after m x) c))
          → NewRanks

    pub record KeepsTo : Type 1 where
      pub good : Always (λ m x. K.Good (A.after m x))
      pub known : Always (λ m x. (t : ℕ) → K.Known m t → K.Known (A.after m x) t)
      pub carried : (m : M) (H H' : ℕ → Page → Type 0) → ((t : ℕ) (p : Page) → H t p → H' t p) → K.Within H m → K.Within H' m
      pub does : (m : M) (x : C) → K.Good m → A.Meant m x → Does m (A.after m x) (A.shows m x)
      pub new : NewRanks

-- ---- a state of another type that is seen as a machine

-- a call shows nothing and changes nothing that is seen, or is a call of the machine
abbrev pub SeenAs : {M C W X : Type 0} → Calls M C → (W → M) → Calls W X → W → X → Type 0
SeenAs {C = C} A view B w x =
    ((B.shows w x ≡ nothing) × (view (B.after w x) ≡ view w))
    ⊎ ((y : C) × A.Meant (view w) y × (B.shows w x ≡ A.shows (view w) y) × (view (B.after w x) ≡ A.after (view w) y))
