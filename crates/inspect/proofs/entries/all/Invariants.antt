use mathlib.Core.Bool.{true}
use mathlib.Core.List.{List, map}
use mathlib.Core.Path.{◌≡◌}
use Prim.Native.Nat.{ℕ}
use lib.ListN.{take}
use Rattle.tables.specs.declared.Conf.{Conf}
use Rattle.tables.specs.declared.Entry.{Entry}
use Rattle.tables.specs.Machines.{entry_of}
use Rattle.inspect.specs.Inner.{good_entries, Marked}
use Rattle.inspect.proofs.entries.all.Given as goal

-- the entries passed are good, and have left their marks
pub record Sound (k : Conf) (es : List Entry) (marks : ℕ) : Type 0 where
  pub good : good_entries k es ≡ true
  pub marked : Marked es marks

abbrev pub invariant-loop-j : goal.invariant-loop-j
invariant-loop-j l = Sound l.k (map entry_of (take l.j l.entries)) l.marks
