-- "A set of parties is a word in which party p is bit p − 1; its size is the number of ones."
use Rattle.std.specs.Prelude.{Bool, false, ℕ, zero, suc, ◌-◌, ◌/◌, ◌%◌, ◌^◌, eqb, List}
use Rattle.sets.specs.Plain.{keep, numbers}
use Rattle.std.specs.Int.Bits.{bit_or}
use Rattle.std.specs.Int.Count.{ones}

-- party p is in s
abbrev pub has : ℕ → ℕ → Bool
has s zero = false
has s (suc p) = eqb (s / 2 ^ p % 2) 1

-- how many parties are in s
abbrev pub size : ℕ → ℕ
size s = ones s

-- the parties of both
abbrev pub join : ℕ → ℕ → ℕ
join s t = bit_or s t

-- the set of one party
abbrev pub only : ℕ → ℕ
only zero = 0
only (suc p) = 2 ^ p

-- s and the party p
abbrev pub with : ℕ → ℕ → ℕ
with s p = join s (only p)

-- the parties 1 to n
abbrev pub all : ℕ → ℕ
all n = 2 ^ n - 1

-- the members of s among n parties, rising
abbrev pub members : ℕ → ℕ → List ℕ
members n s = keep (has s) (numbers 1 n)
