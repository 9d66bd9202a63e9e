-- Calls on a buffer that holds a good machine, as steps of it.
use Rattle.std.specs.Prelude.{if◌then◌else◌}
use mathlib.Core.Path.{◌≡◌, refl, ap, subst, ◌∙◌}
use mathlib.Core.Bool.{Bool, true, false, not}
use mathlib.Core.List.{List}
use Prim.Native.Nat.{ℕ, ◌≤◌}
use native.Mathlib.Omega.{arith}
use lib.Dec.{T}
use Rattle.tables.specs.declared.Layout.{Layout}
use Rattle.tables.specs.Tables.{Machine}
use Rattle.machine.specs.Effects.{Effect}
use Rattle.machine.specs.Calls.{Call, asks}
use Rattle.machine.specs.Steps.{effect_of, Result, refused, code_of, step}
use Rattle.machine.specs.Buffers.{wrong_page, is_set_up, call}
use Rattle.runs.specs.Runs.{sized_step}
use Rattle.runs.proofs.Acts.{Acts, Accepted, renews, acts, accepted_by}
use Rattle.runs.proofs.Rows.{numbers_of_lem}
use Rattle.history.proofs.Reached.{Held, held, held_call, held_answer}

-- ---- steps

-- what an accepted call but set-up does
pub call_acts : (q : Call) (M : Machine) → T (not (is_set_up q)) → code_of q M ≡ 0 → Acts M q (effect_of q M)
call_acts q M n h = go (accepted_by q M h) n
  where
    go : {q : Call} {e : Effect} → Accepted M q e → T (not (is_set_up q)) → Acts M q e
    go (renews k page _) n = absurd n
    go (acts _ a) n = a

-- with a page of 16 words
sized_is : (q : Call) (M : Machine) → T (not (wrong_page q)) → sized_step q M ≡ step q M
sized_is q M h = go (wrong_page q) h
  where
    go : (b : Bool) → T (not b) → (if b then refused 16 (asks q).fill M else step q M) ≡ step q M
    go true h = absurd h
    go false h = refl

-- ---- buffers

module _ (lay : Layout) where
  -- a call with a page of 16 words is the step
  pub answer_is : (q : Call) {M : Machine} {m : List ℕ} → Held lay M m → T (not (wrong_page q)) → (call lay q m).answer ≡ (step q M).answer
  answer_is q {M} H h = held_answer lay q H ∙ ap (λ (r : Result). r.answer) (sized_is q M h)

  pub held_step : (q : Call) {M : Machine} {m : List ℕ} → Held lay M m → T (not (wrong_page q)) → Held lay (step q M).machine (call lay q m).buffer
  held_step q {M} {m} H h = subst (λ (r : Result). Held lay r.machine (call lay q m).buffer) (sized_is q M h) (held_call lay q H)

  pub held_few : lay.directories ≤ 16 → {M : Machine} {m : List ℕ} → Held lay M m → M.conf.directories ≤ 16
  held_few f (held G r t) = omega (arith, (numbers_of_lem G.sound).few_directories)
