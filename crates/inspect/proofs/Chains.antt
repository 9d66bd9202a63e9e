-- Chains over a table: `as_chunks` gives its rows, and what `all` and `any` say of them is what the tests of Good say.
use Rattle.std.specs.Prelude.{fold, if◌then◌else◌}
use mathlib.Core.Bool.{Bool, true, false, ◌&&◌, ◌||◌, and_assoc, and-true}
use mathlib.Core.List.{List, [], ◌∷◌, map}
use mathlib.Core.Path.{◌≡◌, refl, sym}
use Prim.Native.Nat.{ℕ, zero, suc, ◌*◌, ◌/◌, ◌<◌}
use native.Mathlib.Numerals.{add-one}
use native.Mathlib.Omega.{arith}
use lib.Bits.{bit_or}
use lib.Dec.{eqb}
use lib.ListN.{length, take, drop}
use Rattle.std.proofs.Math.Nat.{mul-div_cancel}
use Rattle.std.specs.List.{list_all, list_any, enumerate_from, zip}
use Rattle.std.specs.Simd.{first_chunks}
use Rattle.tables.specs.Rows.{some?}
use Rattle.tables.specs.Tables.{Replica}
use Rattle.tables.specs.Machines.{rows_of, entry_of, entries_of, replicas_of}
use Rattle.tables.proofs.Read.{entry_cut, entries_cut}
use Rattle.inspect.specs.Good.{zeros, each_row}
use Rattle.inspect.proofs.Tests.{eqb_or}

-- a table of n rows of w words, of which g reads one
module _ {A : Type 0} (g : List ℕ → A) (w : ℕ) (cut : (q : List ℕ) → g (take w q) ≡ g q) where
  read : (n : ℕ) (l : List ℕ) → map g (first_chunks w n l) ≡ rows_of g n w l
  unfolding rows_of
  read zero l = refl
  read (suc n) l = rw (cut l, read n (drop w l))

  pub its_rows : (n : ℕ) (l : List ℕ) (rows : List (List ℕ)) → rows ≡ first_chunks w (length l / w) l → 0 < w → length l ≡ n * w → map g rows ≡ rows_of g n w l
  its_rows n l rows e some many = rw (e, many, mul-div_cancel n some) (read n l)

pub its_entries : (l : List ℕ) (rows : List (List ℕ)) → rows ≡ first_chunks 20 (length l / 20) l → length l ≡ 240 → map entry_of rows ≡ entries_of l
unfolding entries_of
its_entries l rows e many = its_rows entry_of 20 entry_cut 12 l rows e (omega arith) (omega arith)

-- what `all` says, of the rows by number, and where the test does not ask for it
pub each_listed : {X A : Type 0} (g : X → A) (test : ℕ → A → Bool) (n : ℕ) (rows : List X)
    → list_all (λ p. test (suc p.0) (g p.1)) (enumerate_from n rows) ≡ each_row test (suc n) (map g rows)
each_listed g test n [] = refl
each_listed g test n (x ∷ xs) = rw (add-one, each_listed g test (suc n) xs)

pub all_listed : {X A : Type 0} (g : X → A) (test : A → Bool) (n : ℕ) (rows : List X) → list_all (λ r. test (g r)) rows ≡ each_row (λ i. test) n (map g rows)
all_listed g test n [] = refl
all_listed g test n (x ∷ xs) = rw (all_listed g test (suc n) xs)

or_if : (a b : Bool) → (if a then true else b) ≡ a || b
or_if true b = refl
or_if false b = refl

-- what `any` says
pub some_listed : {X A : Type 0} (g : X → A) (test : A → Bool) (rows : List X) → list_any (λ r. test (g r)) rows ≡ some? test (map g rows)
some_listed g test [] = refl
some_listed g test (x ∷ xs) = rw (or_if, some_listed g test xs)

-- replicas: a flag and a row of entries each
pub replicas_listed : (test : ℕ → Replica → Bool) (i n : ℕ) (flags l : List ℕ) → length flags ≡ n
    → list_all (λ p. test (suc p.0) (record { down = p.1.0; entries = entries_of p.1.1 })) (enumerate_from i (zip flags (first_chunks 240 n l))) ≡ each_row test (suc i) (replicas_of n flags l)
unfolding replicas_of
replicas_listed test i zero [] l h = refl
replicas_listed test i (suc n) [] l h = absurd (omega arith)
replicas_listed test i zero (f ∷ flags) l h = absurd (omega arith)
replicas_listed test i (suc n) (f ∷ flags) l h =
    rw (add-one, entries_cut l, replicas_listed test (suc i) n flags (drop 240 l) (omega arith))

-- words joined by `|`
pub joined_zeros : (a : ℕ) (l : List ℕ) → eqb (fold (λ m n. bit_or m n) a l) 0 ≡ eqb a 0 && zeros l
unfolding zeros
joined_zeros a [] = sym (and-true (eqb a 0))
joined_zeros a (n ∷ l) = rw (joined_zeros (bit_or a n) l, eqb_or, and_assoc)
