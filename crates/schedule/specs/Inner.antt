-- What the functions beneath reading and printing promise.
use Rattle.std.specs.Prelude.{ℕ, ◌+◌, ◌≤◌, ◌<◌, ◌≡◌, List, ◌++◌, length, take, drop, Option, Some, None}
use Rattle.schedule.specs.declared.Command.{Command}
use Rattle.schedule.specs.declared.Command.TheVariants.{Malformed}
use Rattle.schedule.specs.Lines.{push, after, start, numbers_of}

-- the number n begins at a place of a line, and ends before the next
pub record NumberAt (n next : ℕ) (l : List ℕ) (at : ℕ) : Type 0 where
  pub further : at < next
  pub within : next ≤ length l
  pub same : numbers_of (drop at l) start ≡ push n (numbers_of (drop next l) after)

-- what was found there: a number and the place after it, or nothing
abbrev pub FoundAt : Option (ℕ × ℕ) → List ℕ → ℕ → Type 0
FoundAt (Some found) l at = NumberAt found.0 found.1 l at
FoundAt None l at = numbers_of (drop at l) start ≡ None

-- a line that is no command is malformed
abbrev pub or_malformed : Option Command → Command
or_malformed (Some c) = c
or_malformed None = Malformed

-- the text t was put at a place, in at most `room` bytes; what stood before it is unchanged, and r is the place after it
pub record Printed (room : ℕ) (old : List ℕ) (at : ℕ) (t new : List ℕ) (r : ℕ) : Type 0 where
  pub low : at ≤ r
  pub high : r ≤ at + room
  pub text : take r new ≡ take at old ++ t
