-- A table of which every row passes a test, row by row.
use mathlib.Core.Bool.{Bool, true}
use mathlib.Core.List.{List, [], ◌∷◌}
use mathlib.Core.Path.{◌≡◌, refl}
use Prim.Native.Nat.{ℕ, zero, suc, ◌+◌, ◌≤◌, ◌<◌, zero-le, suc-le-suc}
use native.Mathlib.Nat.{add_comm, add-zero, add-suc, suc-add, not-suc-le-zero, le_of_suc-le-suc}
use native.Mathlib.Numerals.{add-one}
use native.Mathlib.Omega.{arith}
use lib.ListN.{length, get_or, set}
use Rattle.tables.specs.Rows.{row, with_row}
use Rattle.inspect.specs.Good.{each_row}
use Rattle.inspect.proofs.Tests.{and_l, and_r}

module _ {A : Type 0} (test : ℕ → A → Bool) where
  pub each_at : (n : ℕ) (rows : List A) (i : ℕ) (blank : A) → i < length rows → each_row test n rows ≡ true → test (n + i) (get_or rows i blank) ≡ true
  each_at n [] i blank h g = absurd (not-suc-le-zero h)
  each_at n (x ∷ xs) zero blank h g = rw add-zero (and_l (test n x) (each_row test (suc n) xs) g)
  each_at n (x ∷ xs) (suc i) blank h g =
      rw (add-suc, ← suc-add) (each_at (suc n) xs i blank (le_of_suc-le-suc h) (and_r (test n x) (each_row test (suc n) xs) g))

  pub each_all : (n : ℕ) (rows : List A) (blank : A) → ((i : ℕ) → i < length rows → test (n + i) (get_or rows i blank) ≡ true) → each_row test n rows ≡ true
  each_all n [] blank h = refl
  each_all n (x ∷ xs) blank h =
      rw (rw add-zero at (h 0 (suc-le-suc zero-le)))
      (each_all (suc n) xs blank (λ i l. rw (suc-add, ← add-suc) (h (suc i) (suc-le-suc l))))

  each_set : (n : ℕ) (rows : List A) (i : ℕ) (x : A) → test (n + i) x ≡ true → each_row test n rows ≡ true → each_row test n (set rows i x) ≡ true
  each_set n [] i x t g = g
  each_set n (y ∷ ys) zero x t g = rw (rw add-zero at t) (and_r (test n y) (each_row test (suc n) ys) g)
  each_set n (y ∷ ys) (suc i) x t g =
      rw (and_l (test n y) (each_row test (suc n) ys) g)
      (each_set (suc n) ys i x (rw (suc-add, ← add-suc) t) (and_r (test n y) (each_row test (suc n) ys) g))

  -- row p passes
  pub row_passes : (rows : List A) (blank : A) (p : ℕ) → 1 ≤ p → p ≤ length rows → each_row test 1 rows ≡ true → test p (row blank rows p) ≡ true
  row_passes rows blank zero l h g = absurd (omega arith)
  row_passes rows blank (suc i) l h g = rw (add_comm 1 i, add-one) at (each_at 1 rows i blank h g)

  -- row p is replaced by one that passes
  pub row_replaced : (rows : List A) (p : ℕ) (x : A) → test p x ≡ true → each_row test 1 rows ≡ true → each_row test 1 (with_row rows p x) ≡ true
  row_replaced rows zero x t g = g
  row_replaced rows (suc i) x t g = each_set 1 rows i x (rw (add_comm 1 i, add-one) t) g
