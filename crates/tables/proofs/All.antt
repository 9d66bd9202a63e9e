-- What holds of every element of a list, and of every row of a list of rows that count from 1.
use mathlib.Core.Path.{◌≡◌, refl}
use mathlib.Core.List.{List, [], ◌∷◌}
use Prim.Native.Nat.{ℕ, zero, suc, ◌<◌}
use native.Mathlib.Nat.{le_of_suc-le-suc, not-suc-le-zero}
use lib.ListN.{length, get_or, set, replicate, length-set}
use Rattle.tables.specs.Rows.{row, with_row}

pub data All {A : Type 0} (P : A → Type 0) : List A → Type 0 where
  none : All P []
  cons : {x : A} {xs : List A} → P x → All P xs → All P (x ∷ xs)

pub length_with_row : {A : Type 0} (xs : List A) (p : ℕ) (a : A) → length (with_row xs p a) ≡ length xs
length_with_row xs zero a = refl
length_with_row xs (suc p) a = length-set xs p a

module _ {A : Type 0} {P : A → Type 0} where
  pub all_at : {xs : List A} (i : ℕ) (d : A) → All P xs → i < length xs → P (get_or xs i d)
  all_at i d none h = absurd (not-suc-le-zero h)
  all_at zero d (cons p ps) h = p
  all_at (suc i) d (cons p ps) h = all_at i d ps (le_of_suc-le-suc h)

  -- at every place, where it holds of what is read past the end
  pub all_get_or : {xs : List A} (i : ℕ) (d : A) → P d → All P xs → P (get_or xs i d)
  all_get_or i d q none = q
  all_get_or zero d q (cons p ps) = p
  all_get_or (suc i) d q (cons p ps) = all_get_or i d q ps

  pub all_row : {xs : List A} (d : A) (p : ℕ) → P d → All P xs → P (row d xs p)
  all_row d zero q ps = q
  all_row d (suc p) q ps = all_get_or p d q ps

  pub all_set : {xs : List A} (i : ℕ) (a : A) → P a → All P xs → All P (set xs i a)
  all_set i a q none = none
  all_set zero a q (cons p ps) = cons q ps
  all_set (suc i) a q (cons p ps) = cons p (all_set i a q ps)

  pub all_with_row : {xs : List A} (p : ℕ) (a : A) → P a → All P xs → All P (with_row xs p a)
  all_with_row zero a q ps = ps
  all_with_row (suc p) a q ps = all_set p a q ps

  pub all_of_lem : ((a : A) → P a) → (xs : List A) → All P xs
  all_of_lem f [] = none
  all_of_lem f (x ∷ xs) = cons (f x) (all_of_lem f xs)

  pub all_map : {Q : A → Type 0} → ((a : A) → P a → Q a) → {xs : List A} → All P xs → All Q xs
  all_map f none = none
  all_map f (cons {x} p ps) = cons (f x p) (all_map f ps)

  pub all_replicate : (n : ℕ) (a : A) → P a → All P (replicate n a)
  all_replicate zero a p = none
  all_replicate (suc n) a p = cons p (all_replicate n a p)
