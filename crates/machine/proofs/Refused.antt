-- What the numbers of refusals say of a buffer and its slots: 0 is none.
use Rattle.std.specs.Prelude.{Result, Err, IsErrAnd, if◌then◌else◌}
use Rattle.std.proofs.lemmas.Result.{err_from_is_err_and}
use mathlib.Core.Path.{◌≡◌, ap, ◌∙◌}
use mathlib.Core.Bool.{Bool, true, false, not, ◌||◌}
use mathlib.Core.List.{List}
use Prim.Native.Nat.{ℕ}
use native.Mathlib.Omega.{arith}
use borrow.Author.Tests.{le-ltb}
use lib.Dec.{ltb, eqb}
use lib.ListN.{length}
use Rattle.tables.specs.declared.Layout.{Layout}
use Rattle.tables.specs.Inner.{Fits}
use Rattle.tables.specs.Layouts.{extent}
use Rattle.inspect.specs.Good.{good}
use Rattle.machine.specs.declared.refusal.Refusal.{Refusal}
use Rattle.machine.specs.declared.refusal.Refusal.TheVariants.{Size, BadMachine, BadArgument, Down, Busy, Worn, Empty, Full, NoSlot}
use Rattle.machine.specs.Told.{number_of}
use Rattle.machine.specs.Inner.{size_code, buffer_code}

-- what a `?` hands on is what it got
pub handed_on : {A : Type 0} (r : Result A Refusal) (e : Refusal) → IsErrAnd r (λ x. x ≡ e) → r ≡ Err e
handed_on r e h = let p = err_from_is_err_and r h in p.1 ∙ ap Err p.2

-- no refusal has the number 0
pub numbered : (r : Refusal) → number_of r ≡ 0 → ⊥
numbered Size e = omega arith
numbered BadMachine e = omega arith
numbered BadArgument e = omega arith
numbered Down e = omega arith
numbered Busy e = omega arith
numbered Worn e = omega arith
numbered Empty e = omega arith
numbered Full e = omega arith
numbered NoSlot e = omega arith

module _ (lay : Layout) (m : List ℕ) (n : ℕ) where
  -- SIZE stands first
  pub size_first : (r : Refusal) → number_of r ≡ size_code lay m n → number_of r ≡ buffer_code lay m n
  unfolding size_code buffer_code
  size_first r e = go (ltb (length m) (extent lay) || not (eqb n 16)) (number_of r) (numbered r) e
    where
      go : (b : Bool) (s : ℕ) → (s ≡ 0 → ⊥) → s ≡ (if b then 16 else 0) → s ≡ (if b then 16 else if not (good lay m) then 17 else 0)
      go true s z e = e
      go false s z e = absurd (z e)

  pub then_bad : Fits lay m → n ≡ 16 → false ≡ good lay m → 17 ≡ buffer_code lay m n
  unfolding buffer_code
  then_bad f e g = rw (le-ltb _ _ f.long, e, ← g)
