-- Rows of one width, read from words and written to them.
use mathlib.Core.Path.{◌≡◌, refl, sym, ap, ◌∙◌}
use mathlib.Core.Bool.{true}
use mathlib.Core.List.{List, [], ◌∷◌, ◌++◌, append_assoc, append-nil}
use Prim.Native.Nat.{ℕ, zero, suc, ◌+◌, ◌*◌, ◌≤◌, ◌<◌}
use native.Mathlib.Nat.{le_refl, suc-add, le_of_suc-le-suc, not-suc-le-zero, zero-mul, suc-mul, zero-add, add-zero, add_comm, add_assoc}
use native.Mathlib.Numerals.{add-one}
use native.Mathlib.Omega.{arith}
use borrow.Author.Tests.{ltb-true}
use lib.Dec.{ltb}
use lib.ListN.{length, get_or, set, take, drop, length-append, length-drop}
use lib.Seq.{drop-cons, drop-drop, drop-length, drop_at, drop-append-le, drop-append-add, get_or-take, set_split, take-add, take-append-le, take-append-add, take-nil, take-take}
use Rattle.tables.specs.Rows.{rows_words}
use Rattle.tables.specs.Inner.{put}
use Rattle.tables.specs.Machines.{rows_of}
use Rattle.tables.proofs.All.{All, none, cons, all_at}

-- ---- words

-- the n words from place k on, one by one: at numerals it computes to `get_or l k 0 ∷ get_or l (k + 1) 0 ∷ ..`
abbrev pub cells : List ℕ → ℕ → ℕ → List ℕ
cells l k zero = []
cells l k (suc n) = get_or l k 0 ∷ cells l (suc k) n

pub take_cells : (l : List ℕ) (k n : ℕ) → k + n ≤ length l → take n (drop k l) ≡ cells l k n
take_cells l k zero h = refl
take_cells l k (suc n) h =
    rw (drop-cons l k 0 (omega arith)) (ap (λ (q : List ℕ). get_or l k 0 ∷ q) (take_cells l (suc k) n (omega arith)))

pub drop_take : (n k : ℕ) (l : List ℕ) → drop n (take (n + k) l) ≡ take k (drop n l)
drop_take zero k l = rw (zero-add k)
drop_take (suc n) k [] = rw (take-nil {A = ℕ} k, take-nil {A = ℕ} (suc n + k))
drop_take (suc n) k (x ∷ l) = rw (suc-add n k) (drop_take n k l)

-- a word and a part of the words before a cut
pub get_or_cut : (n : ℕ) (l : List ℕ) (i : ℕ) → ltb i n ≡ true → get_or (take n l) i 0 ≡ get_or l i 0
get_or_cut n l i e = get_or-take n l i 0 (ltb-true i n e)

pub part_cut : (n k : ℕ) (l : List ℕ) → take k (drop n (take (n + k) l)) ≡ take k (drop n l)
part_cut n k l = rw (drop_take n k l) (take-take k k (drop n l) (le_refl k))

-- a row more
pub wider : (n w : ℕ) → suc n * w ≡ w + n * w
wider n w = suc-mul n w ∙ add_comm (n * w) w

-- ---- rows read

module _ {A : Type 0} (g : List ℕ → A) where
  pub length_rows_of : (n w : ℕ) (l : List ℕ) → length (rows_of g n w l) ≡ n
  unfolding rows_of
  length_rows_of zero w l = refl
  length_rows_of (suc n) w l = ap suc (length_rows_of n w (drop w l))

  pub get_or_rows_of : (n w : ℕ) (l : List ℕ) (i : ℕ) (d : A) → i < n → get_or (rows_of g n w l) i d ≡ g (drop (i * w) l)
  unfolding rows_of
  get_or_rows_of zero w l i d h = absurd (not-suc-le-zero h)
  get_or_rows_of (suc n) w l zero d h = rw (zero-mul w)
  get_or_rows_of (suc n) w l (suc i) d h = get_or_rows_of n w (drop w l) i d (le_of_suc-le-suc h) ∙ rw (drop-drop (i * w) w l, wider i w)

  -- only the words of the rows are read
  pub rows_of_cut : (n w : ℕ) (l : List ℕ) → ((q : List ℕ) → g (take w q) ≡ g q) → rows_of g n w (take (n * w) l) ≡ rows_of g n w l
  unfolding rows_of
  rows_of_cut zero w l cut = refl
  rows_of_cut (suc n) w l cut =
      let e : g (take (w + n * w) l) ≡ g l = sym (cut (take (w + n * w) l)) ∙ ap g (take-take w (w + n * w) l (omega arith)) ∙ cut l in
      rw (wider n w, e, drop_take w (n * w) l, rows_of_cut n w (drop w l) cut)

  -- rows read and written again are the words
  pub rows_words_back : (f : A → List ℕ) (n w : ℕ) (l : List ℕ) → ((q : List ℕ) → w ≤ length q → f (g q) ≡ take w q) → n * w ≤ length l
      → rows_words f (rows_of g n w l) ≡ take (n * w) l
  unfolding rows_of rows_words
  rows_words_back f zero w l kept h = rw (zero-mul w)
  rows_words_back f (suc n) w l kept h =
      let h' : w + n * w ≤ length l = rw (wider n w) at h in
      rw (wider n w, take-add w (n * w) l, kept l (omega arith), rows_words_back f n w (drop w l) kept (rw length-drop (omega arith)))

  -- each record is read from words as long as a row
  pub rows_of_all : {P : A → Type 0} (n w : ℕ) (l : List ℕ) → ((q : List ℕ) → w ≤ length q → P (g q)) → n * w ≤ length l → All P (rows_of g n w l)
  unfolding rows_of
  rows_of_all zero w l each h = none
  rows_of_all (suc n) w l each h =
      let h' : w + n * w ≤ length l = rw (wider n w) at h in
      cons (each l (omega arith)) (rows_of_all n w (drop w l) each (rw length-drop (omega arith)))

-- ---- words written over others

pub put_after : (p q : List ℕ) (at : ℕ) (r : List ℕ) → put (p ++ q) (length p + at) r ≡ p ++ put q at r
unfolding put
put_after p q at r =
    rw (take-append-add p q at, add_assoc (length p) at (length r), drop-append-add p q (at + length r))
    (append_assoc p (take at q) (r ++ drop (at + length r) q))

pub put_before : (q s : List ℕ) (at : ℕ) (r : List ℕ) → at + length r ≤ length q → put (q ++ s) at r ≡ put q at r ++ s
unfolding put
put_before q s at r h =
    rw (take-append-le at q s (omega arith), drop-append-le (at + length r) q s h) (simp append_assoc)

-- over all the words
pub put_all : (l r : List ℕ) → length l ≡ length r → put l 0 r ≡ r
unfolding put
put_all l r e = rw (zero-add (length r), ← e, drop-length l) (append-nil r)

-- a store is a row of one word
pub set_put : (l : List ℕ) (i v : ℕ) → i < length l → set l i v ≡ put l i (v ∷ [])
unfolding put
set_put l i v h = rw (add-one i) (set_split l i v h)

-- ---- rows written

module _ {A : Type 0} (f : A → List ℕ) where
  -- a record with the same words
  pub rows_same : (xs : List A) (i : ℕ) (a d : A) → f a ≡ f (get_or xs i d) → rows_words f (set xs i a) ≡ rows_words f xs
  unfolding rows_words
  rows_same [] i a d e = refl
  rows_same (x ∷ xs) zero a d e = ap (λ (q : List ℕ). q ++ rows_words f xs) e
  rows_same (x ∷ xs) (suc i) a d e = ap (λ (q : List ℕ). f x ++ q) (rows_same xs i a d e)

  module _ (w : ℕ) where
    -- each row has w words
    abbrev pub Wide : List A → Type 0
    Wide xs = All (λ a. length (f a) ≡ w) xs

    pub length_rows : {xs : List A} → Wide xs → length (rows_words f xs) ≡ length xs * w
    unfolding rows_words
    length_rows none = sym (zero-mul w)
    length_rows (cons {x} {xs} e es) = rw (length-append (f x) (rows_words f xs), e, length_rows es, wider (length xs) w)

    -- part of a row written
    pub rows_put : {xs : List A} → Wide xs → (i j : ℕ) (a d : A) (r : List ℕ) → i < length xs → j + length r ≤ w → put (f (get_or xs i d)) j r ≡ f a
        → put (rows_words f xs) (i * w + j) r ≡ rows_words f (set xs i a)
    unfolding rows_words
    rows_put none i j a d r h g q = absurd (not-suc-le-zero h)
    rows_put (cons {x} {xs} e es) zero j a d r h g q =
        rw (zero-mul w, zero-add j) (put_before (f x) (rows_words f xs) j r (rw e g) ∙ ap (λ (z : List ℕ). z ++ rows_words f xs) q)
    rows_put (cons {x} {xs} e es) (suc i) j a d r h g q =
        let place : suc i * w + j ≡ length (f x) + (i * w + j) = rw (wider i w, e) (add_assoc w (i * w) j) in
        rw (place, put_after (f x) (rows_words f xs) (i * w + j) r, rows_put es i j a d r (le_of_suc-le-suc h) g q)

    -- a row written is a record replaced
    pub rows_set : {xs : List A} → Wide xs → (i : ℕ) (a : A) → i < length xs → length (f a) ≡ w → put (rows_words f xs) (i * w) (f a) ≡ rows_words f (set xs i a)
    rows_set {xs} ws i a h e =
        rw (add-zero (i * w)) at (rows_put ws i 0 a a (f a) h (omega arith) (put_all (f (get_or xs i a)) (f a) (all_at i a ws h ∙ sym e)))

    module _ (g : List ℕ → A) {P : A → Type 0} (wide : (a : A) → P a → length (f a) ≡ w) (back : (a : A) (q : List ℕ) → P a → g (f a ++ q) ≡ a) where
      rows_back : {xs : List A} → All P xs → (t : List ℕ) → rows_of g (length xs) w (rows_words f xs ++ t) ≡ xs
      unfolding rows_of rows_words
      rows_back none t = refl
      rows_back (cons {x} {xs} p ps) t =
          rw (append_assoc (f x) (rows_words f xs) t, back x (rows_words f xs ++ t) p, drop_at (f x) (rows_words f xs ++ t) w (wide x p), rows_back ps t)

      -- rows written and read again are the records
      pub rows_of_back : {xs : List A} → All P xs → (n : ℕ) (t : List ℕ) → length xs ≡ n → rows_of g n w (rows_words f xs ++ t) ≡ xs
      rows_of_back {xs} ps n t e = ap (λ (k : ℕ). rows_of g k w (rows_words f xs ++ t)) (sym e) ∙ rows_back ps t
