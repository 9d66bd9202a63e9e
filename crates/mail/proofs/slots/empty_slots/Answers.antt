use native.Mathlib.Omega.{arith}
use Rattle.tables.specs.Tables.{no_message}
use Rattle.tables.proofs.Loops.{counted, not_counted, counted_all}
use Rattle.tables.proofs.Read.{slots_many}
use Rattle.mail.proofs.Words.{slot_empty, slot_taken}
use Rattle.mail.proofs.slots.empty_slots.Goals as goal
use Rattle.mail.proofs.slots.empty_slots.Goals.{then-l-s-eq0, else-l-s-eq0}

pub loop-s-preserved : goal.loop-s-preserved
loop-s-preserved c =
    elim c.if-l-s-eq0.branch [
      | then-l-s-eq0 w ↦ (omega arith, rw w.n-is (search (counted no_message, slot_empty, slots_many)))
      | else-l-s-eq0 w ↦ (omega arith, rw w.n-is (search (not_counted no_message, slot_taken, slots_many)))
    ]

pub returns : goal.returns
returns c = search (counted_all, slots_many)
