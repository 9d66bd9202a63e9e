-- Where no deliver call is accepted, none ever is, however many are tried.
use mathlib.Core.Path.{◌≡◌, refl}
use mathlib.Core.Bool.{Bool, false, ◌&&◌, ◌||◌}
use mathlib.Core.List.{List, [], ◌∷◌}
use Prim.Native.Nat.{ℕ, ◌≤◌}
use native.Mathlib.Omega.{arith}
use borrow.Author.Tests.{ne_eqb}
use lib.Dec.{T, eqb, T_not}
use Rattle.sets.specs.Plain.{numbers, one_of}
use Rattle.sets.proofs.Members.{in_numbers}
use Rattle.sets.proofs.Tests.{true-T, not_not}
use Rattle.tables.specs.Tables.{Machine, no_page}
use Rattle.tables.proofs.Lists.{none_passes}
use Rattle.inspect.specs.Good.{between}
use Rattle.machine.specs.Calls.{Call, deliver}
use Rattle.machine.specs.Refusals.{accepted_codes}
use Rattle.machine.specs.Steps.{Result, step}
use Rattle.runs.proofs.Ways.{StepWay, refuses, accepts, step_way, allowed}
use Rattle.runs.proofs.Acts.{Among, among}
use Rattle.runs.proofs.Refused.{step_accepts}
use Rattle.fewest.specs.Fewest.{delivering}
use Rattle.fewest.specs.Hangs.{after, is_answered, is_stuck, Hangs}
use Rattle.fewest.proofs.Ready.{of_each}

module _ (code c : ℕ) (low : code ≤ 5) where
  module _ (M : Machine) (z : T (is_stuck M)) where
    abbrev is_taken : ℕ → Bool
    is_taken s = one_of (step (deliver s no_page) M).answer.code accepted_codes

    -- a refusal, and the machine stays
    record Stays (r : Result) : Type 0 where
      refused : 16 ≤ r.answer.code
      machine : r.machine ≡ M

    stays : (s : ℕ) → Stays (step (deliver s no_page) M)
    stays s = go (step_way (deliver s no_page) M)
      where
        go : {r : Result} → StepWay (deliver s no_page) M r → Stays r
        go (refuses k) = record { refused = omega arith; machine = refl }
        go (accepts e) =
            let i : Among 128 s = among 128 s (not_not (between 1 128 s) (allowed (deliver s no_page) M e).argument) in
            let no = of_each (none_passes is_taken (numbers 1 128) z) (in_numbers 1 128 s i.low (omega (arith, i.high))) in
            absurd (T_not (is_taken s) no (step_accepts (deliver s no_page) M e))

    never : (slots : List ℕ) → is_answered code c M (delivering slots) ≡ false
    never [] = refl
    never (s ∷ slots) = go (step (deliver s no_page) M) (stays s) (never slots)
      where
        go : (r : Result) → Stays r → is_answered code c M (delivering slots) ≡ false
            → eqb r.answer.code code && eqb r.answer.client c || is_answered code c r.machine (delivering slots) ≡ false
        go r k h = rw (ne_eqb r.answer.code code (λ e. omega (arith, k.refused)), k.machine) h

  -- the operation that hangs is not ended by any deliveries
  pub hangs_on : (M : Machine) (start : Call) (slots : List ℕ) → Hangs M start code c slots → (more : List ℕ)
      → is_answered code c (after M (start ∷ delivering slots)) (delivering more) ≡ false
  hangs_on M start slots h more = never (after M (start ∷ delivering slots)) (true-T _ h.stuck) more
