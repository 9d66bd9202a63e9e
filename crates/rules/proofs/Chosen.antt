-- The tag that a write chooses.
use mathlib.Core.Path.{◌≡◌, refl}
use Prim.Native.Nat.{ℕ, ◌+◌, ◌≤◌, ◌<◌}
use native.Mathlib.Omega.{arith}
use lib.Dec.{leb, nleb→lt}
use Rattle.sets.specs.declared.Tag.{Tag}
use Rattle.sets.specs.Tags.{tag}
use Rattle.sets.proofs.Tests.{if_ind}
use Rattle.rules.specs.declared.Outcome.{Outcome}
use Rattle.rules.specs.declared.Outcome.TheVariants.{Next, Spent}
use Rattle.rules.specs.Client.{chosen}

-- one above t, of client `own`, and never above top
pub record NewTag (top own : ℕ) (t u : Tag) : Type 0 where
  pub number : u.number ≡ t.number + 1
  pub low : u.number ≤ top
  pub client : u.client ≡ own

pub chosen_new : (top own : ℕ) (t u : Tag) → chosen top own t ≡ Next u → NewTag top own t u
unfolding chosen
chosen_new top own t u =
    if_ind (λ (o : Outcome). o ≡ Next u → NewTag top own t u) (leb top t.number) (λ _ e. absurd (never e))
    (λ l e. taken (nleb→lt top t.number l) e)
  where
    never : Spent ≡ Next u → ⊥
    never e = let z : ◌≡◌ {A = ℕ} 0 1 = cc in omega arith

    taken : t.number < top → Next (tag (t.number + 1) own) ≡ Next u → NewTag top own t u
    taken l e =
        let z : tag (t.number + 1) own ≡ u = cc in
        rw (← z) (record { number = refl; low = omega arith; client = refl })
