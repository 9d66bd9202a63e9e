use mathlib.Core.Bool.{Bool}
use mathlib.Core.Path.{◌≡◌}
use Prim.Native.Nat.{ℕ, ◌+◌, ◌-◌}
use Rattle.sets.specs.Plain.{numbers}
use Rattle.rules.specs.Inner.{stands, met}
use Rattle.rules.proofs.quorums.columns_of.Given as goal

-- the directories from d on are still to be walked
abbrev pub Walked : (n c s : ℕ) → (inside : Bool) → (known d : ℕ) → Type 0
Walked n c s inside known d = met c (stands s inside) known (numbers d (n + 1 - d)) ≡ met c (stands s inside) 0 (numbers 1 n)

abbrev pub invariant-loop-d : goal.invariant-loop-d
invariant-loop-d l = Walked l.k.directories l.k.columns l.s l.inside l.known l.d
