-- What the inner functions ask and give. Nothing of the paper stands here.
use Rattle.std.specs.Prelude.{Bool, true, false, not, ◌||◌, List, [], ◌∷◌, ◌≡◌, ℕ, suc, ◌+◌, ◌^◌, ◌≤◌, ◌<◌, zero, ◌*◌, leb, ltb, eqb, length, drop, set, get_or, replicate, Some, Result, Ok, Err, ⊤, nat_eq, count_by, if◌then◌else◌}
use Rattle.std.specs.List.{range_with_len}
use Rattle.sets.specs.Sets.{size}
use Rattle.tables.specs.declared.Layout.{Layout}
use Rattle.tables.specs.Layouts.{extent}
use Rattle.tables.specs.Inner.{Fits, most_of}
use Rattle.tables.specs.declared.Conf.{Conf}
use Rattle.tables.specs.declared.Client.{Client}
use Rattle.tables.specs.declared.Entry.{Entry}
use Rattle.tables.specs.declared.Message.{Message}
use Rattle.tables.specs.declared.Party.{Party}
use Rattle.tables.specs.Tables.{Page, Replica, Machine, no_message, replica_at, slot_at, with_slots, no_client, no_directory, no_replica, with_replica}
use Rattle.tables.specs.Words.{words}
use Rattle.tables.specs.Machines.{machine_of}
use Rattle.tables.specs.Kinds.{receiver_of, many_of}
use Rattle.inspect.specs.Good.{good, between, good_numbers}
use Rattle.rules.specs.declared.Answer.{Answer}
use Rattle.mail.specs.declared.Post.{Post}
use Rattle.rules.specs.Answers.{coded}
use Rattle.mail.specs.Posts.{messages_of}
use Rattle.rules.specs.declared.Outcome.{Outcome}
use Rattle.rules.specs.Client.{client_after, client_post, request}
use Rattle.rules.specs.Inner.{Sender, AfterAble, Few}
use Rattle.mail.specs.Slots.{placed, empty_slots}
use Rattle.machine.specs.Effects.{Change, changed, Effect, client}
use Rattle.machine.specs.Calls.{deliver, start_read, done, start_effect}
use Rattle.machine.specs.Steps as steps
use Rattle.machine.specs.Steps.{refused, accepted, step, waiting, parties_down}
use Rattle.tables.specs.declared.Directory.{Directory}
use Rattle.tables.specs.Rows.{with_row}
use Rattle.tables.specs.Phases.{is_idle}
use Rattle.rules.specs.Replica.{tidied}
use Rattle.machine.specs.Refusals.{no_slot, refusal}
use Rattle.machine.specs.declared.Counts.{Counts}
use Rattle.machine.specs.declared.refusal.Refusal.{Refusal}
use Rattle.machine.specs.Told.{number_of}

-- 16 or 0, where the call's page has n words (16 where it has none)
unfoldable pub size_code : Layout → List ℕ → ℕ → ℕ
size_code lay m n = if ltb (length m) (extent lay) || not (eqb n 16) then 16 else 0

-- 16, 17 or 0
unfoldable pub buffer_code : Layout → List ℕ → ℕ → ℕ
buffer_code lay m n = if ltb (length m) (extent lay) || not (eqb n 16) then 16 else if not (good lay m) then 17 else 0

-- 24 or 0: a message to each of the set has room once `more` slots are emptied
unfoldable pub room_code : Machine → ℕ → ℕ → ℕ
room_code M more to = if leb (size to) (empty_slots M.slots + more) then 0 else 24

-- a buffer on which a step is taken
pub record Ready (lay : Layout) (m : List ℕ) : Type 0 where
  pub long : Fits lay m
  pub fine : good lay m ≡ true

-- what `ask_size` found: a buffer and a page that are long enough, or SIZE
abbrev pub Sized : Layout → List ℕ → ℕ → Result ⊤ Refusal → Type 0
Sized lay m n (Ok u) = Fits lay m × (n ≡ 16)
Sized lay m n (Err r) = number_of r ≡ size_code lay m n

-- what `ask` found: such a buffer and a page of 16 words, or the first refusal
abbrev pub Asked : Layout → List ℕ → ℕ → Result ⊤ Refusal → Type 0
Asked lay m n (Ok u) = Ready lay m × (n ≡ 16)
Asked lay m n (Err r) = number_of r ≡ buffer_code lay m n

-- what `place` found: where number id of n stands, or BAD ARGUMENT
abbrev pub Placed : ℕ → ℕ → Result ℕ Refusal → Type 0
Placed n id (Ok i) = (suc i ≡ id) × (id ≤ n)
Placed n id (Err r) = (between 1 n id ≡ false) × (number_of r ≡ 18)

-- the step r is what answer a, page p and the buffer n show of it; the buffer was m
pub record Took (lay : Layout) (r : steps.Result) (a : Answer) (p m n : List ℕ) : Type 0 where
  pub answer : a ≡ r.answer
  pub page : p ≡ r.page
  pub buffer : n ≡ words r.machine (drop (extent lay) m)

-- ---- set-up

-- a machine with room for n directories and the numbers k alone
unfoldable pub blank : ℕ → Conf → Machine
blank n k =
    record {
      conf = k;
      spare = replicate 8 0;
      clients = replicate 8 no_client;
      directories = replicate n no_directory;
      gap = replicate 5 0;
      replicas = replicate 7 no_replica;
      slots = replicate 128 no_message;
    }

-- f of each of the first n rows
abbrev pub first_rows : {A : Type 0} → ℕ → (A → A) → List A → List A
first_rows zero f rows = rows
first_rows (suc n) f [] = []
first_rows (suc n) f (x ∷ xs) = f x ∷ first_rows n f xs

-- the entry x as the first of a replica
abbrev pub with_first : Entry → Replica → Replica
with_first x r = record { down = r.down; entries = with_row r.entries 1 x }

-- the first n directories with the row x
abbrev pub with_directories : Machine → ℕ → Directory → Machine
with_directories M n x =
    record { conf = M.conf; spare = M.spare; clients = M.clients; directories = first_rows n (λ d. x) M.directories; gap = M.gap; replicas = M.replicas; slots = M.slots }

-- the first n replicas with the entry x as their first
abbrev pub with_replicas : Machine → ℕ → Entry → Machine
with_replicas M n x =
    record { conf = M.conf; spare = M.spare; clients = M.clients; directories = M.directories; gap = M.gap; replicas = first_rows n (with_first x) M.replicas; slots = M.slots }

-- ---- report

-- n rows of w words
pub record RowsIn (l : List ℕ) (w n : ℕ) : Type 0 where
  pub some : 1 ≤ w
  pub few : n ≤ 16
  pub within : n * w ≤ length l

-- how many of n rows of w words begin with 1
unfoldable pub rows_down : List ℕ → ℕ → ℕ → ℕ
rows_down l w n = count_by (λ i. nat_eq (get_or l (i * w) 0) 1) (range_with_len 0 n)

abbrev pub counts : Machine → Counts
counts M = record { code = 0; waiting = waiting M; down = parties_down M }

-- ---- tidy

-- the machine with replica r tidied
abbrev pub with_tidied : Machine → ℕ → Machine
with_tidied M r = with_replica M r (record { down = (replica_at M r).down; entries = tidied (replica_at M r).entries })

-- ---- gossip

-- a replica of the buffer, counted from 0, and a receiver
pub record Gossips (lay : Layout) (m : List ℕ) (i to : ℕ) : Type 0 where
  pub long : Fits lay m
  pub row : i < 7
  pub receiver : Sender to

-- ---- start

-- 19, 20, 21 or 0, by the row of the starter
unfoldable pub start_code : Conf → Client → ℕ
start_code k w =
    if eqb w.down 1 then 19
    else if not (is_idle w.phase) then 20
    else if ltb k.top (w.number + 3) then 21
    else 0

-- the row y of client c and the request of its phase, where there is room
unfoldable pub launch_step : Machine → Conf → ℕ → Client → steps.Result
launch_step M k c y =
    let e : Effect = done (client c y) (request k c y) in
    if no_slot M e then refused 24 [] M else accepted e M

pub record Launches (lay : Layout) (m : List ℕ) (k : Conf) (c : ℕ) (y : Client) : Type 0 where
  pub ready : Ready lay m
  pub numbers : good_numbers lay.directories k ≡ true
  pub low : 1 ≤ c
  pub high : c ≤ 8
  pub set : y.replicas < 2 ^ 16

-- start read in phase 1, start write in phase 4: one step for both
unfoldable pub start_step : Machine → ℕ → ℕ → Page → steps.Result
start_step M c phase page =
    let e : Effect = start_effect M c phase page in
    let code : ℕ = refusal (start_read c) M e in
    if eqb code 0 then accepted e M else refused code [] M

-- ---- deliver

-- x waits in slot s, counted from 0, of a buffer on which a step is taken, for a party of the kind `who`
pub record Arrived (lay : Layout) (who : Party) (m : List ℕ) (s : ℕ) (x : Message) : Type 0 where
  pub long : Fits lay m
  pub fine : good lay m ≡ true
  pub slot : s < 128
  pub here : x ≡ slot_at (machine_of lay m) (suc s)
  pub some : x.kind ≡ 0 → ⊥
  pub whose : receiver_of x.kind ≡ Some who
  pub sender : Sender x.sender
  pub few : x.sender ≤ 16
  pub set : x.set < 2 ^ 16
  pub low : 1 ≤ x.receiver
  pub high : x.receiver ≤ most_of lay who
  pub inside : x.receiver ≤ many_of (machine_of lay m).conf who

-- the delivery of slot s, whatever the page to fill; the page stays
pub record Delivered (lay : Layout) (M : Machine) (s : ℕ) (a : Answer) (m n : List ℕ) : Type 0 where
  pub took : (page : Page) → Took lay (step (deliver s page) M) a page m n

-- the messages have room once one slot is emptied
abbrev pub has_room : Machine → Post → Bool
has_room M y = leb (size y.to) (empty_slots M.slots + 1)

-- the answer a and the buffer n, where a change is made, slot s, counted from 0, emptied and y sent, as far as there is room
pub record Committed (lay : Layout) (m : List ℕ) (s : ℕ) (change : Change) (y : Post) (given a : Answer) (n : List ℕ) : Type 0 where
  pub answer : a ≡ (if has_room (machine_of lay m) y then given else coded 24)
  pub buffer : n ≡ (if has_room (machine_of lay m) y
      then words (with_slots (changed change (machine_of lay m)) (placed (messages_of y) (set (changed change (machine_of lay m)).slots s no_message))) (drop (extent lay) m)
      else m)

-- the replica r with other entries
abbrev pub stocked : Machine → ℕ → List Entry → Replica
stocked M r es = record { down = (replica_at M r).down; entries = es }

-- what a client's turn asks: the row w of the receiver, and the outcome o
pub record Turned (lay : Layout) (m : List ℕ) (s : ℕ) (x : Message) (k : Conf) (w : Client) (o : Outcome) : Type 0 where
  pub long : Fits lay m
  pub slot : s < 128
  pub low : 1 ≤ x.receiver
  pub high : x.receiver ≤ 8
  pub few : Few k
  pub able : AfterAble w x o
  pub sent : (client_post k x.receiver w (client_after w x o) o).to < 2 ^ 16
