use Rattle.std.specs.Prelude.{if◌then◌else◌}
use mathlib.Core.Bool.{Bool, true, false, beq}
use mathlib.Core.Path.{◌≡◌, sym, ◌∙◌}
use Prim.Native.Nat.{ℕ, suc, ◌+◌, ◌-◌, ◌%◌, ◌≤◌, ◌<◌}
use native.Mathlib.Numerals.{add-one}
use native.Mathlib.Omega.{arith}
use Rattle.sets.specs.Plain.{numbers}
use Rattle.sets.specs.Sets.{has, with}
use Rattle.rules.specs.Inner.{stands, met}
use Rattle.rules.proofs.quorums.columns_of.Goals.{Joined-is_in-inside, then-is_in-inside, else-is_in-inside}
use Rattle.rules.proofs.quorums.columns_of.Invariants.{Walked}
use Rattle.rules.proofs.quorums.columns_of.Goals as goal

-- the code's test
told : (s d : ℕ) (inside r b : Bool) → r ≡ has s d → beq r inside ≡ b → stands s inside d ≡ b
told s d true true b e f = sym e ∙ f
told s d true false b e f = sym e ∙ f
told s d false true b e f = rw (← e) f
told s d false false b e f = rw (← e) f

-- one directory more
turn : (n c s : ℕ) (inside : Bool) (known d : ℕ) → d ≤ n → Walked n c s inside known d → (r b : Bool) → r ≡ has s d → beq r inside ≡ b
    → (new : ℕ) → new ≡ (if b then with known ((d - 1) % c + 1) else known) → Walked n c s inside new (d + 1)
unfolding met
turn n c s inside known d more w r b is test new e =
    let z : n + 1 - d ≡ suc (n + 1 - suc d) = omega arith in
    rw (add-one d, e, ← told s d inside r b is test) (rw z at w)

over : (n c s known d : ℕ) (inside : Bool) → Walked n c s inside known d → n < d → known ≡ met c (stands s inside) 0 (numbers 1 n)
unfolding met
over n c s known d inside w h = let z : n + 1 - d ≡ 0 = omega arith in rw z at w

-- the directories after d are still to be walked
walked : (c : Joined-is_in-inside) → Walked c.args.k.directories c.args.k.columns c.args.s c.args.inside c.if-is_in-inside.known (c.loop-d.d + 1)
walked c = elim c.if-is_in-inside.branch [
  | then-is_in-inside w ↦ turn _ _ _ _ _ _ c.loop-d-test.true c.loop-d.invariant _ true c.is_in.ensures w.if-is_in-inside.true _ (w.known-is ∙ w.added-known.ensures)
  | else-is_in-inside w ↦ turn _ _ _ _ _ _ c.loop-d-test.true c.loop-d.invariant _ false c.is_in.ensures w.if-is_in-inside.false _ w.known-is
]

pub loop-d-init : goal.loop-d-init
loop-d-init c = let e : c.args.k.directories + 1 - 1 ≡ c.args.k.directories = omega arith in rw e

pub loop-d-preserved : goal.loop-d-preserved
loop-d-preserved c = walked (goal.at.loop-d-preserved c).Joined-is_in-inside

pub returns-after-is_in-inside : goal.returns-after-is_in-inside
returns-after-is_in-inside c = over _ _ _ _ _ _ (walked (goal.at.returns-after-is_in-inside c).Joined-is_in-inside) (omega arith)

pub returns : goal.returns
returns c = over _ _ _ _ _ _ c.loop-d.invariant c.loop-d-test.false
