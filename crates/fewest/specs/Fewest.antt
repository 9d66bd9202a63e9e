-- How few deliveries will do: what is asked, what an operation then costs, what is counted, and what it is to take so many.
use Rattle.sets.specs.Plain.{keep, numbers}
use Rattle.std.specs.Prelude.{◌≤◌, ◌≡◌, ◌⊎◌, Bool, true, not, ◌&&◌, ℕ, ◌+◌, ◌*◌, ◌/◌, T, leb, eqb, List, [], ◌∷◌, ◌++◌, map, length, if◌then◌else◌}
use Rattle.sets.specs.Sets.{with}
use Rattle.tables.specs.declared.Layout.{Layout}
use Rattle.tables.specs.declared.Conf.{Conf}
use Rattle.tables.specs.declared.Party.{Party}
use Rattle.tables.specs.declared.Party.TheVariants.{AClient, ADirectory, AReplica}
use Rattle.tables.specs.Kinds.{many_of}
use Rattle.tables.specs.Rows.{some?, count}
use Rattle.tables.specs.Tables.{Machine, no_page, directory_at, replica_at, is_free}
use Rattle.mail.specs.Slots.{empty_slots}
use Rattle.inspect.specs.Good.{is_party}
use Rattle.rules.specs.Quorums.{enough_to_read, enough_to_write}
use Rattle.machine.specs.Calls.{Call, deliver, asks, asked, is_down}
use Rattle.machine.specs.Refusals.{is_busy, is_worn}
use Rattle.machine.specs.Buffers.{is_set_up, call}

-- ---- what is asked, one test a premise

-- all of these tests hold
abbrev pub all_of : List Bool → Bool
all_of [] = true
all_of (b ∷ bs) = b && all_of bs

-- the fewest directories that are enough for reading, and for writing: "rq and wq become the column height and the columns"
abbrev pub least_to_read : Conf → ℕ
least_to_read k = if eqb k.columns 0 then k.rq else k.directories / k.columns

abbrev pub least_to_write : Conf → ℕ
least_to_write k = if eqb k.columns 0 then k.wq else k.columns

-- the parties of a kind that are up, and those that are down
abbrev pub ups : Machine → Party → List ℕ
ups M who = keep (λ p. not (is_down M who p)) (numbers 1 (many_of M.conf who))

abbrev pub downs : Machine → Party → List ℕ
downs M who = keep (is_down M who) (numbers 1 (many_of M.conf who))

-- a set and the parties of a list
abbrev pub gather : ℕ → List ℕ → ℕ
gather s [] = s
gather s (p ∷ ps) = gather (with s p) ps

abbrev pub set_of : List ℕ → ℕ
set_of ps = gather 0 ps

-- 21 with 5 directory rows, and 43 with 16
abbrev pub slots_asked : Machine → ℕ
slots_asked M = 2 * length M.directories + 11

-- "an idle client that is up, with three message numbers left; at most f replicas down; at least the greater of rq and wq directories up; 21 empty slots";
-- in columns "one whole column up and one up in each column": the directories that are up are enough for reading, and for writing
abbrev pub asked_to_read : Machine → ℕ → List Bool
asked_to_read M c =
    is_party M.conf AClient c
    ∷ not (is_busy M c)
    ∷ not (is_down M AClient c)
    ∷ not (is_worn M c)
    ∷ leb (length (downs M AReplica)) M.conf.f
    ∷ enough_to_read M.conf (set_of (ups M ADirectory))
    ∷ enough_to_write M.conf (set_of (ups M ADirectory))
    ∷ leb (slots_asked M) (empty_slots M.slots)
    ∷ []

-- the replicas that are up and have a free entry
abbrev pub keepers : Machine → List ℕ
keepers M = keep (λ r. not (is_down M AReplica r) && some? is_free (replica_at M r).entries) (numbers 1 M.conf.replicas)

abbrev pub is_at_top : Machine → ℕ → Bool
is_at_top M d = eqb (directory_at M d).tag.number M.conf.top

-- "ask also .. that f + 1 replicas that are up have a free entry each, that no directory that is up has its number at top"
abbrev pub asked_to_write : Machine → ℕ → List Bool
asked_to_write M c =
    asked_to_read M c
    ++ leb (M.conf.f + 1) (length (keepers M))
    ∷ not (some? (is_at_top M) (ups M ADirectory))
    ∷ []

-- ---- what an operation then costs

-- "2rq + 2wq + 2"
abbrev pub read_price : Conf → ℕ
read_price k = 2 * least_to_read k + 2 * least_to_write k + 2

-- "2rq + 2wq + 2f + 2"
abbrev pub write_price : Conf → ℕ
write_price k = 2 * least_to_read k + 2 * least_to_write k + 2 * k.f + 2

-- ---- "Counted are the deliver calls of a sequence without set-up": refused ones too

abbrev pub is_deliver : Call → Bool
is_deliver c = asked (λ s. true) (asks c).delivered

abbrev pub deliveries : List Call → ℕ
deliveries cs = count is_deliver cs

abbrev pub no_set_up : List Call → Bool
no_set_up cs = not (some? is_set_up cs)

-- ---- "can be started and ended by .. deliveries and by no fewer"

-- some call of the sequence answers client c with this code
abbrev pub Answers : Layout → (code c : ℕ) → List ℕ → List Call → Type 0
Answers lay code c m [] = ⊥
Answers lay code c m (q ∷ qs) = (((call lay q m).answer.code ≡ code) × ((call lay q m).answer.client ≡ c)) ⊎ Answers lay code c (call lay q m).buffer qs

-- the messages of these slots, one after the other
abbrev pub delivering : List ℕ → List Call
delivering slots = map (λ s. deliver s no_page) slots

-- by n, from the buffer m: the start is accepted; after it the messages of some slots, n of them, bring client c the answer with this code;
-- and every sequence of calls without set-up that brings it has n deliver calls or more, wherever in it the operation starts
pub record Takes (lay : Layout) (n : ℕ) (start : Call) (code c : ℕ) (m : List ℕ) : Type 0 where
  pub starts : (call lay start m).answer.code ≡ 0
  pub slots : List ℕ
  pub many : length slots ≡ n
  pub ends : Answers lay code c (call lay start m).buffer (delivering slots)
  pub least : (qs : List Call) → T (no_set_up qs) → Answers lay code c m qs → n ≤ deliveries qs
