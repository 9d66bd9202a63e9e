-- The table of codes, 18 to 24: one test for each line, in one ordered list. "The lowest that applies is given, and none is given otherwise."
use Rattle.std.specs.Prelude.{Bool, false, not, ◌&&◌, ◌||◌, ℕ, ◌+◌, ltb, eqb, List, [], ◌∷◌, length, if◌then◌else◌}
use Rattle.tables.specs.declared.Message.{Message}
use Rattle.tables.specs.declared.Party.{Party}
use Rattle.tables.specs.declared.Party.TheVariants.{AClient, AReplica}
use Rattle.tables.specs.Tables.{Machine, client_at, replica_at, slot_at, is_empty}
use Rattle.tables.specs.Phases.{is_idle}
use Rattle.mail.specs.Posts.{messages_of}
use Rattle.mail.specs.Slots.{freed, empty_slots}
use Rattle.inspect.specs.Good.{between, good_numbers, is_party, is_named_party}
use Rattle.rules.specs.Replica.{is_full}
use Rattle.machine.specs.Effects.{Effect}
use Rattle.machine.specs.Calls.{Call, set_up, start_read, start_write, deliver, gossip, tidy, crash, report, party_of, starter, asks, asked, is_down}

-- 18 BAD ARGUMENT: "a number out of range; gossip to itself"
abbrev pub bad_argument : Call → Machine → Bool
bad_argument (set_up k page) M = not (good_numbers (length M.directories) k)
bad_argument (start_read c) M = not (is_party M.conf AClient c)
bad_argument (start_write c page) M = not (is_party M.conf AClient c)
bad_argument (deliver s page) M = not (between 1 128 s)
bad_argument (gossip from to) M =
    not (is_party M.conf AReplica from) || not (is_party M.conf AReplica to) || eqb from to
bad_argument (tidy r) M = not (is_party M.conf AReplica r)
bad_argument (crash kind id) M = not (is_named_party M.conf (party_of kind) id)
bad_argument report M = false

-- 19 DOWN: "starter, gossip sender, tidied or crashed party is down"
abbrev pub down_party : Machine → Party × ℕ → Bool
down_party M q = is_down M q.0 q.1

-- 20 BUSY: "start while not idle"
abbrev pub is_busy : Machine → ℕ → Bool
is_busy M c = not (is_idle (client_at M c).phase)

-- 21 WORN: "start with message number + 3 above top"
abbrev pub is_worn : Machine → ℕ → Bool
is_worn M c = ltb M.conf.top ((client_at M c).number + 3)

-- 22 EMPTY: "deliver an empty slot"
abbrev pub is_void : Machine → ℕ → Bool
is_void M s = is_empty (slot_at M s)

-- 23 FULL: "10 or 15, receiver up, new tag, no free entry"
abbrev pub is_overfull : Machine → Message → Bool
is_overfull M x = not (is_down M AReplica x.receiver) && is_full (replica_at M x.receiver).entries x

-- 24 NO SLOT: "more messages than empty slots, the delivered one counted empty"
abbrev pub no_slot : Machine → Effect → Bool
no_slot M e = ltb (empty_slots (freed e.emptied M.slots)) (length (messages_of e.post))

-- ---- the list

-- the code of the first test that applies, 0 where none does
abbrev pub first_of : List (ℕ × Bool) → ℕ
first_of [] = 0
first_of (t ∷ ts) = if t.1 then t.0 else first_of ts

-- the effect is the one that the call would have
abbrev pub tests : Call → Machine → Effect → List (ℕ × Bool)
tests c M e =
    (18, bad_argument c M)
    ∷ (19, asked (down_party M) (asks c).up)
    ∷ (20, asked (λ o. is_busy M (starter o)) (asks c).start)
    ∷ (21, asked (λ o. is_worn M (starter o)) (asks c).start)
    ∷ (22, asked (is_void M) (asks c).slot)
    ∷ (23, asked (λ s. is_overfull M (slot_at M s)) (asks c).delivered)
    ∷ (24, no_slot M e)
    ∷ []

unfoldable pub refusal : Call → Machine → Effect → ℕ
refusal c M e = first_of (tests c M e)

-- ---- the listed codes

abbrev pub accepted_codes : List ℕ
accepted_codes = 0 ∷ 1 ∷ 2 ∷ 3 ∷ 4 ∷ 5 ∷ []

abbrev pub refused_codes : List ℕ
refused_codes = 16 ∷ 17 ∷ 18 ∷ 19 ∷ 20 ∷ 21 ∷ 22 ∷ 23 ∷ 24 ∷ []
