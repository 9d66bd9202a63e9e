-- THE THIRD DEMAND: what a run shows the callers, which operations it has, and what it is for them to stand in one line.
-- Nothing here speaks of tags, directories or messages.
use Rattle.std.specs.Prelude.{Bool, true, false, ◌&&◌, ◌≡◌, ◌⊎◌, ℕ, suc, ◌<◌, eqb, List, [], ◌∷◌, ◌++◌, map, if◌then◌else◌}
use Rattle.sets.specs.Plain.{Memᴰ}

infix 4 ◌∈◌
abbrev pub ◌∈◌ : {A : Type 0} → A → List A → Type 0
a ∈ l = Memᴰ a l

abbrev pub Page : Type 0
Page = List ℕ

-- What one call showed its caller: step k of a run is its k-th call, counted from 0. Any other call, refused or accepted, a crash too, is `nothing`.
-- `gives_up`, and the fate `left` that it leads to, stand here for request [9]: no call of document 01 shows it.
pub data Event : Type 0 where
  read_begins : (client : ℕ) → Event
  write_begins : (client : ℕ) → (page : Page) → Event
  read_ends : (client : ℕ) → (page : Page) → Event
  write_ends : (client : ℕ) → Event
  write_spent : (client : ℕ) → Event
  gives_up : (client : ℕ) → Event
  nothing : Event

-- ---- the runs of a machine

-- calls of type C on a state of type M: what a call leaves, what it shows its caller, and whether it is meant (an accepted set-up is not: it begins another run)
pub record Calls (M C : Type 0) : Type 1 where
  pub after : M → C → M
  pub shows : M → C → Event
  pub Meant : M → C → Type 0

module _ {M C : Type 0} (A : Calls M C) where
  -- the run of a list of calls
  unfoldable pub events : M → List C → List Event
  events m [] = []
  events m (x ∷ xs) = A.shows m x ∷ events (A.after m x) xs

-- ---- the operations of a run

pub data Kind : Type 0 where
  reading : Kind
  writing : Kind

-- what has become of an operation: still open; ended at a step; ended for want of a number; given up by its client
pub data Fate : Type 0 where
  running : Fate
  ended : (step : ℕ) → Fate
  spent : Fate
  left : Fate

-- `began` is the step of its start, `page` the page written, or the page that an ended read has shown
pub record Op : Type 0 where
  pub client : ℕ
  pub began : ℕ
  pub kind : Kind
  pub page : Page
  pub fate : Fate

abbrev pub begun : ℕ → ℕ → Kind → Page → Op
begun k c kd p = record { client = c; began = k; kind = kd; page = p; fate = running }

abbrev pub with_fate : Fate → Op → Op
with_fate f o = record { client = o.client; began = o.began; kind = o.kind; page = o.page; fate = f }

abbrev pub with_page : Page → Op → Op
with_page p o = record { client = o.client; began = o.began; kind = o.kind; page = p; fate = o.fate }

abbrev pub open? : Fate → Bool
open? running = true
open? (ended k) = false
open? spent = false
open? left = false

-- client c has it open
abbrev pub mine? : ℕ → Op → Bool
mine? c o = eqb o.client c && open? o.fate

-- what client c has open is changed, anything else stays
abbrev pub change : ℕ → (Op → Op) → Op → Op
change c f o = if mine? c o then f o else o

-- the operations after step k, from those before it
unfoldable pub enter : ℕ → Event → List Op → List Op
enter k (read_begins c) l = begun k c reading [] ∷ l
enter k (write_begins c p) l = begun k c writing p ∷ l
enter k (read_ends c p) l = map (change c (λ o. with_page p (with_fate (ended k) o))) l
enter k (write_ends c) l = map (change c (with_fate (ended k))) l
enter k (write_spent c) l = map (change c (with_fate spent)) l
enter k (gives_up c) l = map (change c (with_fate left)) l
enter k nothing l = l

unfoldable pub from : ℕ → List Op → List Event → List Op
from k l [] = l
from k l (e ∷ es) = from (suc k) (enter k e l) es

unfoldable pub ops : List Event → List Op
ops run = from 0 [] run

-- ---- the answers fit: a client begins nothing while it has something open, and what ends is open, and of its kind

abbrev pub Idle : List Op → ℕ → Type 0
Idle l c = (o : Op) → o ∈ l → o.client ≡ c → o.fate ≡ running → ⊥

abbrev pub Open : List Op → ℕ → Type 0
Open l c = (o : Op) × (o ∈ l) × (o.client ≡ c) × (o.fate ≡ running)

abbrev pub OpenAs : Kind → List Op → ℕ → Type 0
OpenAs k l c = (o : Op) × (o ∈ l) × (o.client ≡ c) × (o.fate ≡ running) × (o.kind ≡ k)

unfoldable pub Fits : List Op → Event → Type 0
Fits l (read_begins c) = Idle l c
Fits l (write_begins c p) = Idle l c
Fits l (read_ends c p) = OpenAs reading l c
Fits l (write_ends c) = OpenAs writing l c
Fits l (write_spent c) = OpenAs writing l c
Fits l (gives_up c) = Open l c
Fits l nothing = Unit {0}

unfoldable pub AllFit : ℕ → List Op → List Event → Type 0
AllFit k l [] = Unit {0}
AllFit k l (e ∷ es) = Fits l e × AllFit (suc k) (enter k e l) es

unfoldable pub Proper : List Event → Type 0
Proper run = AllFit 0 [] run

-- ---- one line

abbrev pub Finished : Op → Type 0
Finished o = (k : ℕ) × (o.fate ≡ ended k)

abbrev pub UnfinishedWrite : Op → Type 0
UnfinishedWrite o = (o.kind ≡ writing) × ((o.fate ≡ running) ⊎ (o.fate ≡ left))

-- a had ended when b began
abbrev pub EndedBefore : Op → Op → Type 0
EndedBefore a b = (k : ℕ) × (a.fate ≡ ended k) × (k < b.began)

-- a stands earlier in the line than b
abbrev pub Earlier : Op → Op → List Op → Type 0
Earlier a b line = (xs : List Op) × (ys : List Op) × (zs : List Op) × (line ≡ xs ++ a ∷ (ys ++ b ∷ zs))

abbrev pub page_after : Page → Kind → Page → Page
page_after p reading q = p
page_after p writing q = q

-- the page of the last write of a list of operations, or p where it has none
unfoldable pub last_page : Page → List Op → Page
last_page p [] = p
last_page p (o ∷ l) = last_page (page_after p o.kind o.page) l

pub record OneLine (first : Page) (run : List Event) : Type 0 where
  pub line : List Op
  -- "the finished reads and writes"
  pub every : (o : Op) → o ∈ ops run → Finished o → o ∈ line
  -- "with some unfinished writes put in", and nothing else
  pub only : (o : Op) → o ∈ line → (o ∈ ops run) × (Finished o ⊎ UnfinishedWrite o)
  -- "stand in one line": each has one place
  pub once : (o : Op) → Earlier o o line → ⊥
  -- "that keeps real-time order"
  pub order : (a b : Op) → a ∈ line → b ∈ line → EndedBefore a b → Earlier a b line
  -- "and each read shows the page of the last write before it, or the first page"
  pub shows : (r : Op) (xs ys : List Op) → line ≡ xs ++ r ∷ ys → r.kind ≡ reading → r.page ≡ last_page first xs
  -- "A write that ended for want of a number is not in it."
  pub unspent : (o : Op) → o ∈ line → o.fate ≡ spent → ⊥
