use mathlib.Core.Path.{◌≡◌}
use Prim.Native.Nat.{◌+◌, ◌≤◌}
use lib.ListN.{drop}
use Rattle.tables.specs.Rows.{count}
use Rattle.tables.specs.Tables.{is_empty}
use Rattle.tables.specs.Machines.{slots_of}
use Rattle.mail.proofs.slots.empty_slots.Given as goal

abbrev pub invariant-loop-s : goal.invariant-loop-s
invariant-loop-s l = (l.n ≤ l.s) × (l.n + count is_empty (drop l.s (slots_of l.l)) ≡ count is_empty (slots_of l.l))
