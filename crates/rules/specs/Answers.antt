-- "A step's answer is code, client, tag number, tag client. Only codes 1 and 2 fill all; 3 has the client; the rest are zero."
-- And of the mark: "the step's answer gains a fifth number with it, zero for all codes but 1".
use Rattle.std.specs.Prelude.{ℕ}
use Rattle.sets.specs.declared.Tag.{Tag}
use Rattle.sets.specs.Tags.{first}
use Rattle.rules.specs.declared.Answer.{Answer}
use Rattle.rules.specs.declared.Outcome.{Outcome}
use Rattle.rules.specs.declared.Outcome.TheVariants.{Waiting, Next, ReadEnded, WriteEnded, Spent, Stale}

abbrev pub answer : (code client : ℕ) → Tag → ℕ → Answer
answer code client t mark = record { code = code; client = client; tag = t; mark = mark }

-- a code alone
abbrev pub coded : ℕ → Answer
coded code = answer code 0 first 0

-- the paper's code and values of each outcome at client `own`
abbrev pub answer_of : ℕ → Outcome → Answer
answer_of own Waiting = coded 0
answer_of own (Next t) = coded 0
answer_of own (ReadEnded t mark) = answer 1 own t mark
answer_of own (WriteEnded t) = answer 2 own t 0
answer_of own Spent = answer 3 own first 0
answer_of own Stale = coded 5
