-- The line of a run whose every step keeps to its guard: the operations that are in it sorted by rank, a write before the reads of its rank, and among these by their start.
use mathlib.Core.Path.{◌≡◌, refl, sym, ap, ◌∙◌, subst, subst₂}
use mathlib.Core.Bool.{Bool, true, false}
use mathlib.Core.List.Memᴰ
use mathlib.Core.List.Memᴰ.{head as here}
use mathlib.Core.List.Memᴰ.{tail as there}
use mathlib.Core.List.{List, [], ◌∷◌, ◌++◌, map}
use mathlib.Core.Logic.{◌⊎◌, inl, inr, ⊎_elim}
use Prim.Native.Nat.{ℕ, suc, ◌+◌, ◌*◌, ◌≤◌, ◌<◌}
use native.Mathlib.Omega.{arith}
use native.Mathlib.Decide.{dec_lt}
use borrow.Author.Tests.{lt-ltb}
use lib.Dec.{T, ltb, ltb→lt}
use Rattle.sets.proofs.Tests.{true-T}
use Rattle.order.specs.Run.{◌∈◌, Page, Kind, reading, writing, Fate, running, ended, spent, left, Op, Event, enter, from, ops, Fits, AllFit, Proper, Finished, UnfinishedWrite, EndedBefore, Earlier, page_after, last_page, OneLine}
use Rattle.order.proofs.Lists.{in_cons, mem_split, mem_middle, mem_of, mem_map, map_mem, Pairs, pairs_cut, pairs_before, pairs_map, Before, either, map_cut, map_append, before_map, sorted, in_sorted, of_sorted, sorted_pairs}
use Rattle.order.proofs.Book.{Ranked, op_of, book, Source, Keeps, book_ops, guard_fits}
use Rattle.order.proofs.Held.{unlike, fate_number, read_write, Ok, Apart, Held, held_start, same_op, next}

-- ---- what is in the line: the reads that have ended, and the writes that have a rank

abbrev placed? : Kind → Fate → ℕ → Bool
placed? reading running t = false
placed? reading (ended k) t = true
placed? reading spent t = false
placed? reading left t = false
placed? writing f t = ltb 0 t

abbrev in_line? : Ranked → Bool
in_line? e = placed? e.op.kind e.op.fate e.rank

above_0 : (t : ℕ) → 0 < t → T (ltb 0 t)
above_0 t h = true-T (ltb 0 t) (lt-ltb 0 t h)

module _ (S : ℕ → Page → Type 0) (e : Ranked) where
  placed_read : (f : Fate) → T (placed? reading f e.rank) → Ok S reading f e → ((k : ℕ) × (f ≡ ended k)) × (e.floor ≤ e.rank) × S e.rank e.op.page
  placed_read running t o = absurd t
  placed_read (ended k) t o = ((k, refl), o.0, o.1)
  placed_read spent t o = absurd t
  placed_read left t o = absurd t

  placed_write : (f : Fate) → 0 < e.rank → Ok S writing f e → (((k : ℕ) × (f ≡ ended k)) ⊎ ((f ≡ running) ⊎ (f ≡ left))) × (e.floor < e.rank)
  placed_write running t o = (inr (inl refl), o t)
  placed_write (ended k) t o = (inl (k, refl), o)
  placed_write spent t o = absurd (omega arith)
  placed_write left t o = (inr (inr refl), o t)

  done_placed : (kd : Kind) (k : ℕ) → Ok S kd (ended k) e → T (placed? kd (ended k) e.rank)
  done_placed reading k o = tt
  done_placed writing k o = above_0 e.rank (omega (arith, o))

-- ---- the order of the line

abbrev side : Kind → ℕ
side writing = 0
side reading = 1

side≤1 : (kd : Kind) → side kd ≤ 1
side≤1 writing = omega arith
side≤1 reading = omega arith

abbrev weight : Ranked → ℕ
weight e = 2 * e.rank + side e.op.kind

abbrev Under : Ranked → Ranked → Type 0
Under a b = (weight a ≤ weight b) × (weight a ≡ weight b → a.op.began < b.op.began)

decide : (a b : Ranked) → Under a b ⊎ (Apart a b → Under b a)
decide a b = go (dec_lt (weight a) (weight b)) (dec_lt (weight b) (weight a)) (dec_lt a.op.began b.op.began)
  where
    go : Dec (weight a < weight b) → Dec (weight b < weight a) → Dec (a.op.began < b.op.began) → Under a b ⊎ (Apart a b → Under b a)
    go (yes p) q r = inl (omega arith, λ e. absurd (omega arith))
    go (no p) (yes q) r = inr (λ _. (omega arith, λ e. absurd (omega arith)))
    go (no p) (no q) (yes r) = inl (omega arith, λ _. r)
    go (no p) (no q) (no r) = inr (λ h. (omega arith, λ _. omega arith))

trans : (a b c : Ranked) → Under a b → Under b c → Under a c
trans a b c p q = (omega arith, λ e. omega (arith, p.1 (omega arith), q.1 (omega arith)))

-- ---- the last page

pub last_none : (p : Page) (l : List Op) → ((o : Op) → o ∈ l → o.kind ≡ writing → ⊥) → last_page p l ≡ p
unfolding last_page
last_none p [] h = refl
last_none p (o ∷ l) h = go o.kind refl (last_none p l (λ x m. h x (there m)))
  where
    go : (kd : Kind) → o.kind ≡ kd → last_page p l ≡ p → last_page (page_after p kd o.page) l ≡ p
    go reading e r = r
    go writing e r = absurd (h o (here refl) e)

last_write : (p : Page) (xs : List Op) (w : Op) (ys : List Op) → w.kind ≡ writing → last_page p (xs ++ w ∷ ys) ≡ last_page w.page ys
unfolding last_page
last_write p [] w ys e = ap (λ (kd : Kind). last_page (page_after p kd w.page) ys) e
last_write p (x ∷ xs) w ys e = last_write (page_after p x.kind x.page) xs w ys e

-- ---- the line

module _ (first : Page) (k : ℕ) (g : List Ranked) (H : Held first k g) where
  row : List Ranked
  row = sorted Under Apart decide trans in_line? g

  row_pairs : Pairs Under row
  unfolding row
  row_pairs = sorted_pairs Under Apart decide trans in_line? g H.apart

  in_row : {e : Ranked} → e ∈ g → T (in_line? e) → e ∈ row
  unfolding row
  in_row m t = in_sorted Under Apart decide trans in_line? g m t

  of_row : {e : Ranked} → e ∈ row → (e ∈ g) × T (in_line? e)
  unfolding row
  of_row m = of_sorted Under Apart decide trans in_line? g m

  module _ (e : Ranked) (m : e ∈ row) where
    abbrev AsKind : Kind → Type 0
    AsKind kd = T (placed? kd e.op.fate e.rank) × Ok (Source first g) kd e.op.fate e

    as_kind : {kd : Kind} → e.op.kind ≡ kd → AsKind kd
    as_kind q = subst AsKind q ((of_row m).1, H.ok e (of_row m).0)

    row_read : e.op.kind ≡ reading → Finished e.op × (e.floor ≤ e.rank) × Source first g e.rank e.op.page
    row_read q = let z = as_kind q in placed_read (Source first g) e e.op.fate z.0 z.1

    row_write : e.op.kind ≡ writing → (Finished e.op ⊎ ((e.op.fate ≡ running) ⊎ (e.op.fate ≡ left))) × (e.floor < e.rank)
    row_write q = let z = as_kind q in placed_write (Source first g) e e.op.fate (ltb→lt 0 e.rank z.0) z.1

    which : (kd : Kind) → e.op.kind ≡ kd → Finished e.op ⊎ UnfinishedWrite e.op
    which reading q = inl (row_read q).0
    which writing q = ⊎_elim inl (λ h. inr (q, h)) (row_write q).0

  done_in_row : (e : Ranked) → e ∈ g → Finished e.op → e ∈ row
  done_in_row e m (j, q) =
      in_row m (subst (λ (f : Fate). T (placed? e.op.kind f e.rank)) (sym q)
      (done_placed (Source first g) e e.op.kind j (subst (λ (f : Fate). Ok (Source first g) e.op.kind f e) q (H.ok e m))))

  -- who ended before another began weighs no more
  weighs : (a b : Ranked) → a ∈ row → b ∈ row → EndedBefore a.op b.op → weight a ≤ weight b
  weighs a b m n h = go b.op.kind refl
    where
      low : a.rank ≤ b.floor
      low = (H.agree a b (of_row m).0 (of_row n).0).floors h

      go : (kd : Kind) → b.op.kind ≡ kd → weight a ≤ weight b
      go writing q = omega (arith, side≤1 a.op.kind, low, (row_write b n q).1)
      go reading q = omega (arith, side≤1 a.op.kind, low, (row_read b n q).1, ap side q)

  in_order : (a b : Ranked) → a ∈ row → b ∈ row → EndedBefore a.op b.op → Before a b row
  in_order a b m n h = go (either row a b m n)
    where
      young : a.op.began < b.op.began
      young = omega (arith, H.span a (of_row m).0 h.0 h.1, h.2)

      go : (a ≡ b) ⊎ (Before a b row ⊎ Before b a row) → Before a b row
      go (inl e) = absurd (omega (arith, ap (λ (t : Ranked). t.op.began) e, young))
      go (inr (inl c)) = c
      go (inr (inr c)) = let u = pairs_before Under row_pairs c in absurd (omega (arith, young, u.1 (omega (arith, u.0, weighs a b m n h))))

  module _ (r : Ranked) (xs ys : List Ranked) (cut : row ≡ xs ++ r ∷ ys) (kr : r.op.kind ≡ reading) where
    parts : ((x : Ranked) → x ∈ xs → Under x r) × ((y : Ranked) → y ∈ ys → Under r y) × Pairs Under xs
    parts = pairs_cut Under xs r ys (subst (Pairs Under) cut row_pairs)

    fore : {e : Ranked} → e ∈ xs → e ∈ row
    fore m = rw cut (Memᴰ.append_left (r ∷ ys) m)

    -- a write among these operations
    write_of : {o : Op} (l : List Ranked) → o ∈ map op_of l → o.kind ≡ writing → (e : Ranked) × (e ∈ l) × (e.op.kind ≡ writing)
    write_of l m q = let t = map_mem op_of l m in (t.0, t.1, ap (λ (o : Op). o.kind) (sym t.2) ∙ q)

    from_first : r.rank ≡ 0 → (o : Op) → o ∈ map op_of xs → o.kind ≡ writing → ⊥
    from_first z o m q =
        let (e, n, ke) = write_of xs m q in
        omega (arith, (parts.0 e n).0, (row_write e (fore n) ke).1, ap side kr)

    module _ (w : Ranked) (m : w ∈ g) (kw : w.op.kind ≡ writing) (pos : 0 < w.rank) (same : w.rank ≡ r.rank) where
      -- the write of r's rank stands before r
      w_fore : w ∈ xs
      w_fore =
          ⊎_elim (λ n. n)
          (λ n. in_cons n (λ e. read_write (ap (λ (t : Ranked). t.op.kind) e ∙ kr) kw) (λ n'. absurd (omega (arith, ap side kw, ap side kr, (parts.1 w n').0))))
          (Memᴰ.append_cases xs (subst (λ (l : List Ranked). w ∈ l) cut (in_row m w_in)))
        where
          w_in : T (in_line? w)
          w_in = subst (λ (kd : Kind). T (placed? kd w.op.fate w.rank)) (sym kw) (above_0 w.rank pos)

      -- and no other write between them
      none_between : (us vs : List Ranked) → xs ≡ us ++ w ∷ vs → (o : Op) → o ∈ map op_of vs → o.kind ≡ writing → ⊥
      none_between us vs e o n q =
          let (v, i, kv) = write_of vs n q in
          let j : v ∈ xs = subst (λ (l : List Ranked). v ∈ l) (sym e) (Memᴰ.append_right us (there i)) in
          let u : Under w v = (pairs_cut Under us w vs (subst (Pairs Under) e parts.2)).1 v i in
          let s : w.rank ≡ v.rank = omega (arith, u.0, (parts.0 v j).0, ap side kw, ap side kv, ap side kr) in
          omega (arith, u.1 (omega (arith, s, ap side kw, ap side kv)), (H.agree w v m (of_row (fore j)).0).alone kw kv pos s)

      last_is : last_page first (map op_of xs) ≡ w.op.page
      last_is =
          let s = mem_split w_fore in
          ap (λ (l : List Ranked). last_page first (map op_of l)) s.2
          ∙ ap (last_page first) (map_append op_of s.0 (w ∷ s.1))
          ∙ last_write first (map op_of s.0) w.op (map op_of s.1) kw
          ∙ last_none w.op.page (map op_of s.1) (none_between s.0 s.1 s.2)

    shows_last : r.op.page ≡ last_page first (map op_of xs)
    shows_last =
        ⊎_elim (λ z. z.1 ∙ sym (last_none first (map op_of xs) (from_first z.0)))
        (λ z. sym z.5 ∙ sym (last_is z.0 z.1 z.2 z.3 z.4))
        (row_read r (rw cut (mem_middle xs r ys)) kr).2

  held_line : (run : List Event) → map op_of g ≡ ops run → OneLine first run
  held_line run q = record {
    line = map op_of row;
    every = λ o m h.
        let z = map_mem op_of {b = o} g (rw q m) in
        mem_of (sym z.2) (mem_map op_of (done_in_row z.0 z.1 (subst Finished z.2 h)));
    only = λ o m.
        let z = map_mem op_of row m in
        (mem_of (sym z.2) (rw (← q) (mem_map op_of (of_row z.1).0)), subst (λ (x : Op). Finished x ⊎ UnfinishedWrite x) (sym z.2) (kept z.0 z.1));
    once = λ o c. pairs_before NotOne (pairs_map op_of Under NotOne row two_ops row_pairs) c refl;
    order = λ a b m n h.
        let s = map_mem op_of row m in
        let t = map_mem op_of row n in
        subst₂ (λ (x y : Op). Earlier x y (map op_of row)) (sym s.2) (sym t.2)
        (before_map op_of (in_order s.0 t.0 s.1 t.1 (subst₂ EndedBefore s.2 t.2 h)));
    shows = λ r xs ys e kr.
        let c = map_cut op_of row xs r ys e in
        ap (λ (o : Op). o.page) (sym c.5) ∙ shows_last c.1 c.0 c.2 c.3 (ap (λ (o : Op). o.kind) c.5 ∙ kr) ∙ ap (last_page first) c.4;
    unspent = λ o m s. let z = map_mem op_of row m in unspent z.0 (kept z.0 z.1) (ap (λ (x : Op). x.fate) (sym z.2) ∙ s);
  }
    where
      kept : (e : Ranked) → e ∈ row → Finished e.op ⊎ UnfinishedWrite e.op
      kept e m = which e m e.op.kind refl

      NotOne : Op → Op → Type 0
      NotOne a b = a ≡ b → ⊥

      two_ops : (a b : Ranked) → a ∈ row → b ∈ row → Under a b → NotOne a.op b.op
      two_ops a b m n u s =
          let e : a ≡ b = same_op first k g H a b (of_row m).0 (of_row n).0 (ap (λ (o : Op). o.began) s) in
          omega (arith, ap (λ (o : Op). o.began) s, u.1 (ap weight e))

      unspent : (e : Ranked) → Finished e.op ⊎ UnfinishedWrite e.op → e.op.fate ≡ spent → ⊥
      unspent e (inl (j, r)) s = unlike fate_number s r tt
      unspent e (inr (_, inl r)) s = unlike fate_number s r tt
      unspent e (inr (_, inr r)) s = unlike fate_number s r tt

-- ---- the theorem for guards

run_on : (first : Page) (run : List Event) (k : ℕ) (g : List Ranked) → Held first k g → Keeps first k g run
    → (j : ℕ) × (d : List Ranked) × Held first j d × (map op_of d ≡ from k (map op_of g) run) × AllFit k (map op_of g) run
unfolding Keeps from AllFit
run_on first [] k g H K = (k, g, H, refl, tt)
run_on first (e ∷ run) k g H (n, q, G, K) =
    let s : map op_of (book k n g) ≡ enter k e (map op_of g) = book_ops k n g ∙ ap (λ (x : Event). enter k x (map op_of g)) q in
    let z = run_on first run (suc k) (book k n g) (next first k g H n G).held K in (
      z.0,
      z.1,
      z.2,
      z.3 ∙ ap (λ (l : List Op). from (suc k) l run) s,
      (subst (Fits (map op_of g)) q (guard_fits first g n G), subst (λ (l : List Op). AllFit (suc k) l run) s z.4),
    )

pub one_line : (first : Page) (run : List Event) → Keeps first 0 [] run → Proper run × OneLine first run
unfolding ops Proper
one_line first run K = let z = run_on first run 0 [] (held_start first) K in (z.4, held_line first z.0 z.1 z.2 run z.3)
