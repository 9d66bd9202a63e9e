-- The refusals of the code by their numbers in the table of codes, and what a call hands back of a result.
use Rattle.std.specs.Prelude.{ℕ, Result, Ok, Err, ⊤}
use Rattle.rules.specs.declared.Answer.{Answer}
use Rattle.rules.specs.Answers.{coded}
use Rattle.machine.specs.declared.Counts.{Counts}
use Rattle.machine.specs.declared.refusal.Refusal.{Refusal}
use Rattle.machine.specs.declared.refusal.Refusal.TheVariants.{Size, BadMachine, BadArgument, Down, Busy, Worn, Empty, Full, NoSlot}

abbrev pub number_of : Refusal → ℕ
number_of Size = 16
number_of BadMachine = 17
number_of BadArgument = 18
number_of Down = 19
number_of Busy = 20
number_of Worn = 21
number_of Empty = 22
number_of Full = 23
number_of NoSlot = 24

-- the answer, or a refusal's number alone
abbrev pub told : Result Answer Refusal → Answer
told (Ok a) = a
told (Err r) = coded (number_of r)

-- a refusal's number, and 0 for none
abbrev pub checked : Result ⊤ Refusal → ℕ
checked (Ok u) = 0
checked (Err r) = number_of r

-- the counts, or a refusal's number
abbrev pub told_counts : Result Counts Refusal → Counts
told_counts (Ok c) = c
told_counts (Err r) = record { code = number_of r; waiting = 0; down = 0 }
