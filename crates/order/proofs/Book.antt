-- The book beside a run: each operation with its floor and its rank, what a step makes of it, and what is asked of the step.
use Rattle.std.specs.Prelude.{if◌then◌else◌}
use mathlib.Core.Path.{◌≡◌, refl, sym, ap, ◌∙◌, subst}
use mathlib.Core.List.{List, [], ◌∷◌, map}
use mathlib.Core.Logic.{◌⊎◌}
use Prim.Native.Nat.{ℕ, suc, max, ◌≤◌, ◌<◌}
use lib.Dec.{T, T_not, eqb, eqb→eq, eqb_refl}
use mathlib.Core.Bool.{Bool, true, false, not}
use Rattle.sets.proofs.Tests.{and_elim, and_intro, if_ind}
use Rattle.order.specs.Run.{◌∈◌, Page, Kind, reading, writing, Fate, running, ended, spent, left, Op, begun, Event, read_begins, write_begins, read_ends, write_ends, write_spent, gives_up, nothing, with_fate, with_page, open?, mine?, change, enter, Idle, OpenAs, Fits}
use Rattle.order.proofs.Lists.{mem_of, mem_map, map_mem}

-- the floor is the highest rank of an operation that had ended when this one began; rank 0 is none yet, or that of the first page
pub record Ranked : Type 0 where
  pub op : Op
  pub floor : ℕ
  pub rank : ℕ

abbrev pub op_of : Ranked → Op
op_of e = e.op

-- what a step showed, with the rank of a read that ends; or, unseen by its caller, a write takes its rank
pub data Note : Type 0 where
  seen : (event : Event) → (rank : ℕ) → Note
  chose : (client : ℕ) → (rank : ℕ) → Note

abbrev pub shown : Note → Event
shown (seen e t) = e
shown (chose c t) = nothing

-- ---- the book after a step

abbrev pub rank_if : Fate → ℕ → ℕ
rank_if running t = 0
rank_if (ended k) t = t
rank_if spent t = 0
rank_if left t = 0

-- the highest rank of an operation that has ended
abbrev pub top : List Ranked → ℕ
top [] = 0
top (e ∷ g) = max (rank_if e.op.fate e.rank) (top g)

abbrev pub opened : ℕ → ℕ → Kind → Page → List Ranked → Ranked
opened k c kd p g = record { op = begun k c kd p; floor = top g; rank = 0 }

abbrev pub turned : Fate → Page → ℕ → Ranked → Ranked
turned f p t e = record { op = with_page p (with_fate f e.op); floor = e.floor; rank = t }

abbrev pub closed : Fate → Ranked → Ranked
closed f e = turned f e.op.page e.rank e

abbrev pub ranked : ℕ → Ranked → Ranked
ranked t e = turned e.op.fate e.op.page t e

abbrev pub renew : ℕ → (Ranked → Ranked) → Ranked → Ranked
renew c f e = if mine? c e.op then f e else e

unfoldable pub book : ℕ → Note → List Ranked → List Ranked
book k (seen (read_begins c) t) g = opened k c reading [] g ∷ g
book k (seen (write_begins c p) t) g = opened k c writing p g ∷ g
book k (seen (read_ends c p) t) g = map (renew c (turned (ended k) p t)) g
book k (seen (write_ends c) t) g = map (renew c (closed (ended k))) g
book k (seen (write_spent c) t) g = map (renew c (closed spent)) g
book k (seen (gives_up c) t) g = map (renew c (closed left)) g
book k (seen nothing t) g = g
book k (chose c t) g = map (renew c (ranked t)) g

-- ---- what is asked of a step

-- client c has it open
abbrev pub Mine : ℕ → Ranked → Type 0
Mine c e = (e.op.client ≡ c) × (e.op.fate ≡ running)

-- page p has rank t: the first page at rank 0, or the page of the write of that rank
abbrev pub Source : Page → List Ranked → ℕ → Page → Type 0
Source first g t p =
    ((t ≡ 0) × (p ≡ first)) ⊎ ((w : Ranked) × (w ∈ g) × (w.op.kind ≡ writing) × (0 < w.rank) × (w.rank ≡ t) × (w.op.page ≡ p))

-- client c has an operation of this kind open, of which P holds
abbrev pub Has : List Ranked → ℕ → Kind → (Ranked → Type 0) → Type 0
Has g c kd P = (e : Ranked) × (e ∈ g) × Mine c e × (e.op.kind ≡ kd) × P e

abbrev pub Free : List Ranked → ℕ → Type 0
Free g c = (e : Ranked) → e ∈ g → Mine c e → ⊥

-- no write has rank t
abbrev pub Unused : List Ranked → ℕ → Type 0
Unused g t = (e : Ranked) → e ∈ g → e.op.kind ≡ writing → e.rank ≡ t → ⊥

unfoldable pub Guard : Page → List Ranked → Note → Type 0
Guard first g (seen (read_begins c) t) = Free g c
Guard first g (seen (write_begins c p) t) = Free g c
Guard first g (seen (read_ends c p) t) = Has g c reading (λ e. (e.floor ≤ t) × Source first g t p)
Guard first g (seen (write_ends c) t) = Has g c writing (λ e. 0 < e.rank)
Guard first g (seen (write_spent c) t) = Has g c writing (λ e. e.rank ≡ 0)
Guard first g (seen (gives_up c) t) = (e : Ranked) × (e ∈ g) × Mine c e
Guard first g (seen nothing t) = Unit {0}
Guard first g (chose c t) = Has g c writing (λ e. (e.rank ≡ 0) × (e.floor < t) × Unused g t)

-- every step of the run has a note that is allowed
unfoldable pub Keeps : Page → ℕ → List Ranked → List Event → Type 0
Keeps first k g [] = Unit {0}
Keeps first k g (e ∷ es) = (n : Note) × (shown n ≡ e) × Guard first g n × Keeps first (suc k) (book k n g) es

-- ---- what client c has open, and the rest

open_running : (f : Fate) → T (open? f) → f ≡ running
open_running running t = refl
open_running (ended k) t = absurd t
open_running spent t = absurd t
open_running left t = absurd t

mine_is : (c : ℕ) (e : Ranked) → T (mine? c e.op) → Mine c e
mine_is c e t = let h = and_elim (eqb e.op.client c) (open? e.op.fate) t in (eqb→eq e.op.client c h.0, open_running e.op.fate h.1)

mine_not : (c : ℕ) (e : Ranked) → T (not (mine? c e.op)) → Mine c e → ⊥
mine_not c e n (q, r) =
    T_not (mine? c e.op) n
    (and_intro (eqb e.op.client c) (open? e.op.fate) (subst (λ (i : ℕ). T (eqb e.op.client i)) q (eqb_refl e.op.client)) (subst (λ (f : Fate). T (open? f)) (sym r) tt))

module _ (c : ℕ) (f : Ranked → Ranked) where
  pub renew_ind : (P : Ranked → Type 0) (e : Ranked) → (Mine c e → P (f e)) → ((Mine c e → ⊥) → P e) → P (renew c f e)
  renew_ind P e h k = if_ind P (mine? c e.op) (λ t. h (mine_is c e t)) (λ n. k (mine_not c e n))

  -- what holds of a changed book
  pub renew_all : (P : Ranked → Type 0) (g : List Ranked) → ((e : Ranked) → e ∈ g → Mine c e → P (f e)) → ((e : Ranked) → e ∈ g → (Mine c e → ⊥) → P e)
      → (d : Ranked) → d ∈ map (renew c f) g → P d
  renew_all P g h k d m = let r = map_mem (renew c f) g m in subst P (sym r.2) (renew_ind P r.0 (h r.0 r.1) (k r.0 r.1))

  pub renew_moves : (g : List Ranked) (e : Ranked) → e ∈ g → Mine c e → f e ∈ map (renew c f) g
  renew_moves g e m h = mem_of (renew_ind (λ d. d ≡ f e) e (λ _. refl) (λ n. absurd (n h))) (mem_map (renew c f) m)

  pub renew_stays : (g : List Ranked) (e : Ranked) → e ∈ g → (Mine c e → ⊥) → e ∈ map (renew c f) g
  renew_stays g e m n = mem_of (renew_ind (λ d. d ≡ e) e (λ h. absurd (n h)) (λ _. refl)) (mem_map (renew c f) m)

-- ---- the book's operations are those of the run, and where the guard holds the answer fits

renew_ops : (c : ℕ) (f : Ranked → Ranked) (h : Op → Op) → ((e : Ranked) → (f e).op ≡ h e.op) → (g : List Ranked) → map op_of (map (renew c f) g) ≡ map (change c h) (map op_of g)
renew_ops c f h q [] = refl
renew_ops c f h q (e ∷ g) = λ i. one (mine? c e.op) i ∷ renew_ops c f h q g i
  where
    one : (b : Bool) → op_of (if b then f e else e) ≡ (if b then h e.op else e.op)
    one true = q e
    one false = refl

renew_same : (c t : ℕ) (g : List Ranked) → map op_of (map (renew c (ranked t)) g) ≡ map op_of g
renew_same c t [] = refl
renew_same c t (e ∷ g) = λ i. one (mine? c e.op) i ∷ renew_same c t g i
  where
    one : (b : Bool) → op_of (if b then ranked t e else e) ≡ e.op
    one true = refl
    one false = refl

pub book_ops : (k : ℕ) (n : Note) (g : List Ranked) → map op_of (book k n g) ≡ enter k (shown n) (map op_of g)
unfolding book enter
book_ops k (seen (read_begins c) t) g = refl
book_ops k (seen (write_begins c p) t) g = refl
book_ops k (seen (read_ends c p) t) g = renew_ops c _ _ (λ e. refl) g
book_ops k (seen (write_ends c) t) g = renew_ops c _ _ (λ e. refl) g
book_ops k (seen (write_spent c) t) g = renew_ops c _ _ (λ e. refl) g
book_ops k (seen (gives_up c) t) g = renew_ops c _ _ (λ e. refl) g
book_ops k (seen nothing t) g = refl
book_ops k (chose c t) g = renew_same c t g

has_open : (g : List Ranked) (c : ℕ) (kd : Kind) (P : Ranked → Type 0) → Has g c kd P → OpenAs kd (map op_of g) c
has_open g c kd P (e, m, s, q, h) = (e.op, mem_map op_of m, s.0, s.1, q)

free_idle : (g : List Ranked) (c : ℕ) → Free g c → Idle (map op_of g) c
free_idle g c h o m s t = let z = map_mem op_of g m in h z.0 z.1 (ap (λ (x : Op). x.client) (sym z.2) ∙ s, ap (λ (x : Op). x.fate) (sym z.2) ∙ t)

pub guard_fits : (first : Page) (g : List Ranked) (n : Note) → Guard first g n → Fits (map op_of g) (shown n)
unfolding Guard Fits
guard_fits first g (seen (read_begins c) t) h = free_idle g c h
guard_fits first g (seen (write_begins c p) t) h = free_idle g c h
guard_fits first g (seen (read_ends c p) t) h = has_open g c reading _ h
guard_fits first g (seen (write_ends c) t) h = has_open g c writing _ h
guard_fits first g (seen (write_spent c) t) h = has_open g c writing _ h
guard_fits first g (seen (gives_up c) t) (e, m, s) = (e.op, mem_map op_of m, s.0, s.1)
guard_fits first g (seen nothing t) h = tt
guard_fits first g (chose c t) h = tt
