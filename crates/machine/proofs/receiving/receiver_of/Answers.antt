use Rattle.std.specs.Prelude.{None, Some}
use mathlib.Core.Path.{◌≡◌}
use Prim.Native.Nat.{ℕ, ◌≤◌, ◌<◌}
use native.Mathlib.Omega.{arith}
use borrow.Author.Tests.{le-ltb, lt-ltb}
use Rattle.tables.specs.declared.Party.TheVariants.{AClient, ADirectory, AReplica}
use Rattle.tables.specs.Kinds.{receiver_of}
use Rattle.machine.proofs.receiving.receiver_of.Goals as goal

module _ (n : ℕ) where
  below : n < 1 → None ≡ receiver_of n
  unfolding receiver_of
  below h = simp (lt-ltb _ _ h)

  from_one : 1 ≤ n → n < 5 → Some ADirectory ≡ receiver_of n
  unfolding receiver_of
  from_one l h = simp (le-ltb _ _ l, lt-ltb _ _ h)

  from_five : 5 ≤ n → n < 9 → Some AClient ≡ receiver_of n
  unfolding receiver_of
  from_five l h = simp (le-ltb n 1 (omega arith), le-ltb _ _ l, lt-ltb _ _ h)

  from_nine : 9 ≤ n → n < 12 → Some AReplica ≡ receiver_of n
  unfolding receiver_of
  from_nine l h = simp (le-ltb n 1 (omega arith), le-ltb n 5 (omega arith), le-ltb _ _ l, lt-ltb _ _ h)

  from_twelve : 12 ≤ n → n < 14 → Some AClient ≡ receiver_of n
  unfolding receiver_of
  from_twelve l h = simp (le-ltb n 1 (omega arith), le-ltb n 5 (omega arith), le-ltb n 9 (omega arith), le-ltb _ _ l, lt-ltb _ _ h)

  fourteen : n ≡ 14 → Some ADirectory ≡ receiver_of n
  unfolding receiver_of
  fourteen e = rw e

  fifteen : n ≡ 15 → Some AReplica ≡ receiver_of n
  unfolding receiver_of
  fifteen e = rw e

  above : 14 ≤ n → (n ≡ 14 → ⊥) → (n ≡ 15 → ⊥) → None ≡ receiver_of n
  unfolding receiver_of
  above l p q =
      let h : 16 ≤ n = omega (arith, p, q) in
      simp (
        le-ltb n 1 (omega arith),
        le-ltb n 5 (omega arith),
        le-ltb n 9 (omega arith),
        le-ltb n 12 (omega arith),
        le-ltb n 14 (omega arith),
        le-ltb n 15 (omega arith),
        le-ltb n 16 h,
      )

pub returns-in-5-to-8 : goal.returns-in-5-to-8
returns-in-5-to-8 c = search from_five

pub returns-in-5-to-8-2 : goal.returns-in-5-to-8-2
returns-in-5-to-8-2 c = search from_twelve

pub returns-in_default : goal.returns-in_default
returns-in_default c = search below

pub returns-in_default-2 : goal.returns-in_default-2
returns-in_default-2 c = search above

pub returns-in-9-to-11 : goal.returns-in-9-to-11
returns-in-9-to-11 c = search fifteen

pub returns-in-9-to-11-2 : goal.returns-in-9-to-11-2
returns-in-9-to-11-2 c = search from_nine

pub returns-in-1-to-4 : goal.returns-in-1-to-4
returns-in-1-to-4 c = search fourteen

pub returns-in-1-to-4-2 : goal.returns-in-1-to-4-2
returns-in-1-to-4-2 c = search from_one
