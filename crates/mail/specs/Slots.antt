-- "All messages of a step enter together, in order of receiver, each into the lowest empty slot.
-- A delivered message's slot is empty before the replies are placed, and is used again."
use Rattle.std.specs.Prelude.{ℕ, List, [], ◌∷◌}
use Rattle.tables.specs.declared.Message.{Message}
use Rattle.tables.specs.Rows.{with_row, count, put_first}
use Rattle.tables.specs.Tables.{no_message, is_empty}

-- the messages come in order of receiver
abbrev pub placed : List Message → List Message → List Message
placed [] slots = slots
placed (x ∷ xs) slots = placed xs (put_first is_empty x slots)

-- the slots with these numbers emptied
abbrev pub freed : List ℕ → List Message → List Message
freed [] slots = slots
freed (s ∷ ss) slots = with_row (freed ss slots) s no_message

abbrev pub empty_slots : List Message → ℕ
empty_slots slots = count is_empty slots
