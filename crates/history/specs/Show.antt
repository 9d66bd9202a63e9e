-- What a call shows its caller, by its answer; and the calls on a lent buffer, as `order` reads them.
use Rattle.std.specs.Prelude.{ℕ, eqb, List, Option, None, Some, if◌then◌else◌}
use Rattle.tables.specs.declared.Layout.{Layout}
use Rattle.tables.specs.Tables.{Page}
use Rattle.rules.specs.declared.Answer.{Answer}
use Rattle.machine.specs.Calls.{Call, Start, a_read, a_write, asks}
use Rattle.machine.specs.Buffers.{call}
use Rattle.runs.specs.Runs.{Renews}
use Rattle.order.specs.Run.{Event, read_begins, write_begins, read_ends, write_ends, write_spent, nothing, Calls}

abbrev pub beginning : Option Start → Event
beginning None = nothing
beginning (Some (a_read c)) = read_begins c
beginning (Some (a_write c page)) = write_begins c page

-- 0 DONE of a start, 1 READ ENDED with the page filled, 2 WRITE ENDED, 3 SPENT; a is the answer, p what the page to fill holds afterwards
unfoldable pub event_of : Call → Answer → Page → Event
event_of c a p =
    if eqb a.code 0 then beginning (asks c).start
    else if eqb a.code 1 then read_ends a.client p
    else if eqb a.code 2 then write_ends a.client
    else if eqb a.code 3 then write_spent a.client
    else nothing

abbrev pub on_buffer : Layout → Calls (List ℕ) Call
on_buffer lay =
    record {
      after = λ m c. (call lay c m).buffer;
      shows = λ m c. event_of c (call lay c m).answer (call lay c m).page;
      Meant = λ m c. Renews c (call lay c m).answer → ⊥;
    }
