-- "`rehearse` starts from 4,992 zero words and reads standard input. [..] Any other line, or a last one without LF, gets code 18.
-- Each line prints line number, code, client, tag number, tag client, and the first page word if the code is 1, else 0."
-- And of the mark: "The rehearsal program prints it last on each line."
-- And of columns: "a machine has 5,036 words [..]. The program's set-up line is `C nc nd nr f columns top w`."
use Rattle.std.specs.Prelude.{min, Bool, true, false, List, [], ◌∷◌, ◌++◌, ℕ, ◌+◌, eqb, get_or, replicate, Option, None, Some, if◌then◌else◌}
use Rattle.tables.specs.declared.Layout.{Layout}
use Rattle.tables.specs.Layouts.{base, wide}
use Rattle.tables.specs.Tables.{Page}
use Rattle.rules.specs.Answers.{coded}
use Rattle.machine.specs.Calls.{Call, set_up, start_read, start_write, deliver, gossip, tidy, crash}
use Rattle.machine.specs.Buffers.{Outcomes, call}
use Rattle.schedule.specs.declared.Command.{Command}
use Rattle.schedule.specs.declared.Command.TheVariants.{SetUp, Columns, Read, Write, Deliver, Gossip, Tidy, Crash, Malformed}
use Rattle.schedule.specs.Text.{letter_of, answer_text}
use Rattle.schedule.specs.Input.{commands_of}

-- "w is the page's first word, the others are zero"
abbrev pub page_of : ℕ → Page
page_of w = w ∷ replicate 15 0

-- the call that a command is: a page to fill is all zero, and a malformed line is no call
abbrev pub call_of : Command → Option Call
call_of (SetUp nc nd nr f rq wq top w) =
    Some (set_up (record { clients = nc; directories = nd; replicas = nr; f = f; rq = rq; wq = wq; top = top; columns = 0 }) (page_of w))
call_of (Columns nc nd nr f columns top w) =
    Some (set_up (record { clients = nc; directories = nd; replicas = nr; f = f; rq = 0; wq = 0; top = top; columns = columns }) (page_of w))
call_of (Read client) = Some (start_read client)
call_of (Write client w) = Some (start_write client (page_of w))
call_of (Deliver slot) = Some (deliver slot (page_of 0))
call_of (Gossip from to) = Some (gossip from to)
call_of (Tidy replica) = Some (tidy replica)
call_of (Crash kind id) = Some (crash kind id)
call_of Malformed = None

-- what a line leaves on a machine: what its call does, or code 18 and no change
abbrev pub made : Layout → Option Call → List ℕ → Outcomes
made lay None m = record { answer = coded 18; page = []; buffer = m }
made lay (Some c) m = call lay c m

-- the machine of 4,992 words, the wide one of 5,036, and whether the wide one is in force
pub record Machines : Type 0 where
  pub base : List ℕ
  pub wide : List ℕ
  pub is_wide : Bool

abbrev pub machines : Bool → List ℕ → List ℕ → Machines
machines is_wide m w = record { base = m; wide = w; is_wide = is_wide }

-- before the first line
abbrev pub zeros : Machines
zeros = machines false (replicate 4992 0) (replicate 5036 0)

-- the machine that a line goes to: S names the first, C the wide one, any other line the one in force
abbrev pub goes_wide : Command → Bool → Bool
goes_wide c is_wide = if eqb (letter_of c) 83 then false else if eqb (letter_of c) 67 then true else is_wide

-- what it leaves there
abbrev pub outcome_of : Command → Machines → Outcomes
outcome_of c a =
    let named : Bool = goes_wide c a.is_wide in
    made (if named then wide else base) (call_of c) (if named then a.wide else a.base)

-- in force after a line is the machine that it names; but a refused set-up leaves the one before it
abbrev pub in_force : ℕ → Bool → Bool → Bool
in_force code named before = if eqb code 0 then named else before

-- the two machines after a line: the one that it does not name is as it was
abbrev pub machines_after : Command → Machines → Machines
machines_after c a =
    let named : Bool = goes_wide c a.is_wide in
    let o : Outcomes = outcome_of c a in
    record {
      base = if named then a.base else o.buffer;
      wide = if named then o.buffer else a.wide;
      is_wide = in_force o.answer.code named a.is_wide;
    }

-- the line that it prints
unfoldable pub printed : ℕ → Outcomes → List ℕ
printed n o =
    answer_text n o.answer.code o.answer.client o.answer.tag.number o.answer.tag.client (get_or o.page 0 0) o.answer.mark

-- lines count from 1, in 64 bits: at their top the count stays
abbrev pub following : ℕ → ℕ
following n = min (n + 1) 18446744073709551615

-- the output of commands on the machines, after n lines
unfoldable pub output_of : ℕ → Machines → List Command → List ℕ
output_of n a [] = []
output_of n a (c ∷ cs) = printed (following n) (outcome_of c a) ++ output_of (following n) (machines_after c a) cs

-- the output of an input
unfoldable pub rehearsal : List ℕ → List ℕ
rehearsal l = output_of 0 zeros (commands_of l)
