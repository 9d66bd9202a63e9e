-- Loops over the rows of a list, said of the rows that are left: a count.
use mathlib.Core.Path.{◌≡◌}
use mathlib.Core.Bool.{Bool, true, false}
use mathlib.Core.List.{List, [], ◌∷◌}
use Prim.Native.Nat.{ℕ, suc, ◌+◌, ◌≤◌, ◌<◌}
use native.Mathlib.Numerals.{add-one}
use native.Mathlib.Omega.{arith}
use lib.ListN.{length, get_or, drop, drop_of_length-le}
use lib.Seq.{drop-cons}
use Rattle.tables.specs.Rows.{count}

-- ---- a turn at row i of n; t is where the loop ends, d any row
module _ {A : Type 0} (d : A) (rows : List A) (n : ℕ) (many : length rows ≡ n) (i : ℕ) (h : i < n) where
  pub turn : drop i rows ≡ get_or rows i d ∷ drop (i + 1) rows
  turn = rw (add-one i) (drop-cons rows i d (rw many h))

  module _ (p : A → Bool) (t : ℕ) where
    pub counted : (k : ℕ) → k + count p (drop i rows) ≡ t → p (get_or rows i d) ≡ true → k + 1 + count p (drop (i + 1) rows) ≡ t
    counted k e y =
        let z : count p (drop i rows) ≡ suc (count p (drop (i + 1) rows)) = rw (turn, y) in
        omega arith

    pub not_counted : (k : ℕ) → k + count p (drop i rows) ≡ t → p (get_or rows i d) ≡ false → k + count p (drop (i + 1) rows) ≡ t
    not_counted k e y =
        let z : count p (drop i rows) ≡ count p (drop (i + 1) rows) = rw (turn, y) in
        omega arith

-- ---- after the last row
module _ {A : Type 0} (rows : List A) (n : ℕ) (many : length rows ≡ n) (i : ℕ) (h : n ≤ i) where
  pub no_more : drop i rows ≡ []
  no_more = drop_of_length-le rows {i = i} (rw many h)

  module _ (p : A → Bool) where
    pub counted_all : (t k : ℕ) → k + count p (drop i rows) ≡ t → k ≡ t
    counted_all t k e =
        let z : count p (drop i rows) ≡ 0 = rw no_more in
        omega arith
