-- Membership, and plain functions of lists; truth values, numbers, lists and the choice by a test are the library's. Nothing of the paper stands here.
use Rattle.std.specs.Prelude.{Bool, false, ◌||◌, ℕ, zero, suc, eqb, List, [], ◌∷◌, if◌then◌else◌}
pub use mathlib.Core.List.{Memᴰ}

-- the elements that pass the test
abbrev pub keep : {A : Type 0} → (A → Bool) → List A → List A
keep p [] = []
keep p (x ∷ xs) = let rest = keep p xs in if p x then x ∷ rest else rest

-- k, k + 1, ..: n numbers
abbrev pub numbers : ℕ → ℕ → List ℕ
numbers k zero = []
numbers k (suc n) = k ∷ numbers (suc k) n

-- x is one of the numbers
abbrev pub one_of : ℕ → List ℕ → Bool
one_of x [] = false
one_of x (a ∷ []) = eqb x a
one_of x (a ∷ b ∷ l) = eqb x a || one_of x (b ∷ l)
