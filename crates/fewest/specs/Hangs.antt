-- How an operation hangs: the words of the examples that show each premise to be needed.
use Rattle.std.specs.Prelude.{◌≡◌, Bool, true, false, not, ◌&&◌, ◌||◌, ℕ, eqb, List, [], ◌∷◌, map}
use Rattle.sets.specs.Plain.{numbers, one_of}
use Rattle.tables.specs.Rows.{some?}
use Rattle.tables.specs.Tables.{Machine, no_page}
use Rattle.machine.specs.Calls.{Call, deliver}
use Rattle.machine.specs.Refusals.{accepted_codes}
use Rattle.machine.specs.Steps.{step}
use Rattle.fewest.specs.Fewest.{delivering}

-- the machine after some calls
abbrev pub after : Machine → List Call → Machine
after M [] = M
after M (q ∷ qs) = after (step q M).machine qs

-- some call of the sequence answers client c with this code
abbrev pub is_answered : (code c : ℕ) → Machine → List Call → Bool
is_answered code c M [] = false
is_answered code c M (q ∷ qs) = eqb (step q M).answer.code code && eqb (step q M).answer.client c || is_answered code c (step q M).machine qs

-- no deliver call is accepted
abbrev pub is_stuck : Machine → Bool
is_stuck M = not (some? (λ s. one_of (step (deliver s no_page) M).answer.code accepted_codes) (numbers 1 128))

-- n tests, of which the i-th alone fails
abbrev pub all_but : (i n : ℕ) → List Bool
all_but i n = map (λ j. not (eqb j i)) (numbers 1 n)

-- the start, and these slots delivered after it, do not bring client c the code, and then no deliver call is accepted any more
pub record Hangs (M : Machine) (start : Call) (code c : ℕ) (slots : List ℕ) : Type 0 where
  pub unended : is_answered code c M (start ∷ delivering slots) ≡ false
  pub stuck : is_stuck (after M (start ∷ delivering slots)) ≡ true
