-- What the laws say beside the definitions: party p is in s. Nothing of the paper stands here.
use Rattle.std.specs.Prelude.{ℕ, T}
use Rattle.sets.specs.Sets.{has}

infix 20 ◌∈◌
abbrev pub ◌∈◌ : ℕ → ℕ → Type 0
p ∈ s = T (has s p)
