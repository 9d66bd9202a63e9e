-- What the third demand's statement rules out and what it allows, on small runs. Seven is the first page.
use mathlib.Core.Path.{◌≡◌, refl, sym, ap, ◌∙◌, subst}
use mathlib.Core.List.Memᴰ
use mathlib.Core.List.Memᴰ.{head as here}
use mathlib.Core.List.Memᴰ.{tail as there}
use mathlib.Core.List.{List, [], ◌∷◌, ◌++◌, head-eq_of_cons-eq}
use mathlib.Core.Logic.{inr}
use Prim.Native.Nat.{ℕ}
use native.Mathlib.Omega.{arith}
use Rattle.order.specs.Run.{◌∈◌, Page, Kind, reading, writing, Fate, running, ended, spent, left, Op, Event, read_begins, write_begins, read_ends, write_ends, write_spent, gives_up, nothing, enter, from, ops, Finished, EndedBefore, page_after, last_page, Proper, OneLine}
use Rattle.order.proofs.Lists.{none_in, in_cons, mem_split}
use Rattle.order.proofs.Book.{Ranked, seen, chose, book, Guard, Keeps}
use Rattle.order.proofs.Held.{read_write}
use Rattle.order.proofs.Line.{last_none, one_line}
use Rattle.order.proofs.Hours.{hours}

abbrev seven : Page
seven = 7 ∷ []

abbrev nine : Page
nine = 9 ∷ []

differ : seven ≡ nine → ⊥
differ e = omega (arith, head-eq_of_cons-eq e)

-- ---- where every write has page p, p stays

last_stays : (p : Page) (l : List Op) → ((o : Op) → o ∈ l → o.kind ≡ writing → o.page ≡ p) → last_page p l ≡ p
unfolding last_page
last_stays p [] h = refl
last_stays p (o ∷ l) h = go o.kind refl (last_stays p l (λ x m. h x (there m)))
  where
    go : (kd : Kind) → o.kind ≡ kd → last_page p l ≡ p → last_page (page_after p kd o.page) l ≡ p
    go reading e r = r
    go writing e r = ap (λ (q : Page). last_page q l) (h o (here refl) e) ∙ r

stays : (first p : Page) (run : List Event) → OneLine first run → ((o : Op) → o ∈ ops run → o.kind ≡ writing → o.page ≡ p)
    → (a r : Op) → a ∈ ops run → r ∈ ops run → EndedBefore a r → a.page ≡ p → r.kind ≡ reading → Finished r → r.page ≡ p
stays first p run L w a r m n h pa kr done =
    let (xs, ys, zs, cut, q) = hours first run L a r m n h kr done in
    q ∙ ap (λ (s : Page). last_page s ys) pa
    ∙ last_stays p ys (λ o i. w o (L.only o (subst (λ (l : List Op). o ∈ l) (sym cut) (Memᴰ.append_right xs (there (Memᴰ.append_left (r ∷ zs) i))))).0)

-- every write of l has page p, as a statement that computes
abbrev If : Kind → Type 0 → Type 0
If writing P = P
If reading P = Unit {0}

abbrev Writes : Page → List Op → Type 0
Writes p [] = Unit {0}
Writes p (o ∷ l) = If o.kind (o.page ≡ p) × Writes p l

writes_mem : (p : Page) (l : List Op) → Writes p l → (o : Op) → o ∈ l → o.kind ≡ writing → o.page ≡ p
writes_mem p [] h o m q = none_in m
writes_mem p (x ∷ l) h o m q =
    in_cons m (λ (e : o ≡ x). subst (λ (y : Op). y.kind ≡ writing → y.page ≡ p) (sym e) (λ c. subst (λ (kd : Kind). If kd (x.page ≡ p)) c h.0) q) (λ n. writes_mem p l h.1 o n q)

abbrev read : ℕ → Page → Fate → Op
read k p f = record { client = 2; began = k; kind = reading; page = p; fate = f }

abbrev write : Fate → Op
write f = record { client = 1; began = 0; kind = writing; page = nine; fate = f }

-- ---- a write of page 9 ends, and a later read shows 7: ruled out

abbrev stale : List Event
stale = write_begins 1 nine ∷ write_ends 1 ∷ read_begins 2 ∷ read_ends 2 seven ∷ []

stale_ops : ops stale ≡ read 2 seven (ended 3) ∷ write (ended 1) ∷ []
unfolding ops from enter
stale_ops = refl

no_stale : OneLine seven stale → ⊥
no_stale L =
    differ
    (stays seven nine stale L (rw stale_ops (writes_mem nine (read 2 seven (ended 3) ∷ write (ended 1) ∷ []) (tt, (refl, tt))))
    (write (ended 1)) (read 2 seven (ended 3)) (rw stale_ops (there (here refl))) (rw stale_ops (here refl)) (1, refl, omega arith) refl refl (3, refl))

-- ---- a write is given up, a read shows its page, 9, and a later read goes back to 7: ruled out

abbrev back : List Event
back = write_begins 1 nine ∷ read_begins 2 ∷ read_ends 2 nine ∷ gives_up 1 ∷ read_begins 2 ∷ read_ends 2 seven ∷ []

back_ops : ops back ≡ read 4 seven (ended 5) ∷ read 1 nine (ended 2) ∷ write left ∷ []
unfolding ops from enter
back_ops = refl

no_back : OneLine seven back → ⊥
no_back L =
    differ
    (stays seven nine back L (rw back_ops (writes_mem nine (read 4 seven (ended 5) ∷ read 1 nine (ended 2) ∷ write left ∷ []) (tt, (tt, (refl, tt)))))
    (read 1 nine (ended 2)) (read 4 seven (ended 5)) (rw back_ops (there (here refl))) (rw back_ops (here refl)) (2, refl, omega arith) refl refl (5, refl))

-- ---- a write ends for want of a number, and a read shows its page, 9: ruled out

abbrev unsaid : List Event
unsaid = write_begins 1 nine ∷ write_spent 1 ∷ read_begins 2 ∷ read_ends 2 nine ∷ []

unsaid_ops : ops unsaid ≡ read 2 nine (ended 3) ∷ write spent ∷ []
unfolding ops from enter
unsaid_ops = refl

no_unsaid : OneLine seven unsaid → ⊥
no_unsaid L = let (xs, ys, cut) = mem_split (L.every (read 2 nine (ended 3)) (rw unsaid_ops (here refl)) (3, refl)) in go xs ys cut
  where
    go : (xs ys : List Op) → L.line ≡ xs ++ read 2 nine (ended 3) ∷ ys → ⊥
    go xs ys cut = let e : nine ≡ seven = L.shows (read 2 nine (ended 3)) xs ys cut refl ∙ last_none seven xs none in differ (sym e)
      where
        none : (o : Op) → o ∈ xs → o.kind ≡ writing → ⊥
        none o m w =
            let i : o ∈ L.line = rw cut (Memᴰ.append_left (read 2 nine (ended 3) ∷ ys) m) in
            in_cons (rw unsaid_ops at (L.only o i).0) (λ e. read_write (ap (λ (x : Op). x.kind) e) w) (λ n. in_cons n (λ e. L.unspent o i (ap (λ (x : Op). x.fate) e)) none_in)

-- ---- a write is given up, and a read shows its page: allowed, the unfinished write is put in before the read

abbrev put_in : List Event
put_in = write_begins 1 nine ∷ nothing ∷ read_begins 2 ∷ read_ends 2 nine ∷ gives_up 1 ∷ []

abbrev at : Op → ℕ → Ranked
at o t = record { op = o; floor = 0; rank = t }

one : {P : Type 0} {e d : Ranked} → e ∈ d ∷ [] → (e ≡ d → P) → P
one m f = in_cons m f none_in

put_in_line : Proper put_in × OneLine seven put_in
unfolding Keeps book Guard
put_in_line =
    one_line seven put_in (
      seen (write_begins 1 nine) 0,
      refl,
      (λ e m s. none_in m),
      (
        chose 1 17,
        refl,
        (at (write running) 0, here refl, (refl, refl), refl, (refl, omega arith, λ e m q r. one m (λ z. omega (arith, ap (λ (x : Ranked). x.rank) z)))),
        (
          seen (read_begins 2) 0,
          refl,
          (λ e m s. one m (λ z. omega (arith, ap (λ (x : Ranked). x.op.client) z, s.0))),
          (
            seen (read_ends 2 nine) 17,
            refl,
            (at (read 2 [] running) 0, here refl, (refl, refl), refl, (omega arith, inr (at (write running) 17, there (here refl), refl, omega arith, refl, refl))),
            (
              seen (gives_up 1) 0,
              refl,
              (at (write running) 17, there (here refl), (refl, refl)),
              tt,
            ),
          ),
        ),
      ),
    )
