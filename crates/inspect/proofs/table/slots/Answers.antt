use mathlib.Core.Path.{ap, ◌∙◌}
use native.Mathlib.Omega.{arith}
use borrow.Author.Rules.{rules}
use borrow.Author.Tests.{tests}
use Rattle.std.proofs.lemmas.Iterator.{YieldsList-from_slice}
use Rattle.std.proofs.lemmas.Iterator.Search.{all_from_yields_List}
use Rattle.tables.specs.Machines.{message_of, slots_of}
use Rattle.tables.proofs.Read.{message_cut}
use Rattle.inspect.specs.Good.{each_row, slot_row}
use Rattle.inspect.proofs.Chains.{its_rows, all_listed}
use Rattle.inspect.proofs.table.slots.Goals as goal

pub returns : goal.returns
unfolding slots_of slot_row
returns c =
    all_from_yields_List (λ r. slot_row c.args.k 0 (message_of r)) _ _ _ c.all.ensures.ran
    (YieldsList-from_slice (c.as_chunks.result.0.now) (search rules))
    (λ x b q k. search (rules, tests))
    ∙ all_listed message_of (slot_row c.args.k 0) 1 c.as_chunks.result.0.now
    ∙ ap (each_row (slot_row c.args.k) 1) (its_rows message_of 24 message_cut 128 c.args.l.now c.as_chunks.result.0.now c.as_chunks.ensures.front (omega arith) (omega arith))
