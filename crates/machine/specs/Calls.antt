-- The calls, what each asks for, and the effect of each but deliver.
use Rattle.std.specs.Prelude.{Bool, true, false, ℕ, eqb, List, [], Option, None, Some, option_map, if◌then◌else◌}
use Rattle.tables.specs.declared.Conf.{Conf}
use Rattle.tables.specs.declared.Client.{Client}
use Rattle.tables.specs.declared.Directory.{Directory}
use Rattle.tables.specs.declared.Party.{Party}
use Rattle.tables.specs.declared.Party.TheVariants.{AClient, ADirectory, AReplica}
use Rattle.tables.specs.Tables.{Page, Replica, Machine, client_at, directory_at, replica_at, down_word}
use Rattle.mail.specs.declared.Post.{Post}
use Rattle.mail.specs.Posts.{no_post}
use Rattle.rules.specs.Answers.{coded}
use Rattle.rules.specs.Client.{started, request}
use Rattle.rules.specs.Replica.{tidied, gossip_post}
use Rattle.machine.specs.Effects.{Change, nothing, client, directory, replica, Effect}

pub data Call : Type 0 where
  set_up : Conf → Page → Call
  start_read : ℕ → Call
  start_write : ℕ → Page → Call
  deliver : ℕ → Page → Call
  gossip : ℕ → ℕ → Call
  tidy : ℕ → Call
  crash : ℕ → ℕ → Call
  report : Call

-- ---- what a call asks for

-- a party's kind: 1 client, 2 directory, 3 replica
unfoldable pub party_of : ℕ → Option Party
party_of kind =
    if eqb kind 1 then Some AClient
    else if eqb kind 2 then Some ADirectory
    else if eqb kind 3 then Some AReplica
    else None

-- an operation of a client
pub data Start : Type 0 where
  a_read : ℕ → Start
  a_write : ℕ → Page → Start

abbrev pub starter : Start → ℕ
starter (a_read c) = c
starter (a_write c page) = c

pub record Asks : Type 0 where
  pub anew : Bool  -- whether it makes the machine anew
  pub page : Option Page  -- the page that it brings
  pub fill : Page  -- the page to fill, as it was
  pub up : Option (Party × ℕ)  -- who must be up
  pub start : Option Start  -- what it starts
  pub slot : Option ℕ  -- the slot that must have a message
  pub delivered : Option ℕ  -- the slot whose message is delivered

-- one row a call; `none` where the paper asks nothing of the kind
abbrev pub asks : Call → Asks
asks (set_up k page) = record { anew = true; page = Some page; fill = []; up = None; start = None; slot = None; delivered = None }
asks (start_read c) = record { anew = false; page = None; fill = []; up = Some (AClient, c); start = Some (a_read c); slot = None; delivered = None }
asks (start_write c page) = record { anew = false; page = Some page; fill = []; up = Some (AClient, c); start = Some (a_write c page); slot = None; delivered = None }
asks (deliver s page) = record { anew = false; page = Some page; fill = page; up = None; start = None; slot = Some s; delivered = Some s }
asks (gossip from to) = record { anew = false; page = None; fill = []; up = Some (AReplica, from); start = None; slot = None; delivered = None }
asks (tidy r) = record { anew = false; page = None; fill = []; up = Some (AReplica, r); start = None; slot = None; delivered = None }
asks (crash kind id) = record { anew = false; page = None; fill = []; up = option_map (λ who. (who, id)) (party_of kind); start = None; slot = None; delivered = None }
asks report = record { anew = false; page = None; fill = []; up = None; start = None; slot = None; delivered = None }

-- the test holds of what is asked for
abbrev pub asked : {A : Type 0} → (A → Bool) → Option A → Bool
asked test None = false
asked test (Some a) = test a

-- ---- effects

-- the party of a kind that a number names is down
abbrev pub is_down : Machine → Party → ℕ → Bool
is_down M who p = eqb (down_word M who p) 1

-- DONE, with no slot emptied
abbrev pub done : Change → Post → Effect
done change post = record { emptied = []; change = change; post = post; answer = coded 0; page = [] }

-- these slots are emptied, and no more
abbrev pub emptying : List ℕ → ℕ → Page → Effect
emptying slots code page = record { emptied = slots; change = nothing; post = no_post; answer = coded code; page = page }

-- "Start read: message number plus 1, phase 1, rread to every directory. Start write keeps the page; phase 4, wread to every directory."
unfoldable pub start_effect : Machine → ℕ → ℕ → Page → Effect
start_effect M c phase page =
    let w : Client = started (client_at M c) phase page in
    done (client c w) (request M.conf c w)

unfoldable pub gossip_effect : Machine → ℕ → ℕ → Effect
gossip_effect M from to = done nothing (gossip_post (replica_at M from).entries from to)

unfoldable pub tidy_effect : Machine → ℕ → Effect
tidy_effect M r =
    let w : Replica = replica_at M r in
    done (replica r (record { down = w.down; entries = tidied w.entries })) no_post

-- "Crash of a party (1 client, 2 directory, 3 replica): down becomes 1. Its waiting messages stay."
abbrev pub down_client : Client → Client
down_client w =
    record { down = 1; phase = w.phase; number = w.number; answered = w.answered; replicas = w.replicas; tag = w.tag; spare = w.spare; page = w.page }

abbrev pub down_directory : Directory → Directory
down_directory d = record { down = 1; tag = d.tag; set = d.set }

-- nothing where no party is named
abbrev pub downed : Machine → Option Party → ℕ → Change
downed M None p = nothing
downed M (Some AClient) p = client p (down_client (client_at M p))
downed M (Some ADirectory) p = directory p (down_directory (directory_at M p))
downed M (Some AReplica) p = replica p (record { down = 1; entries = (replica_at M p).entries })

unfoldable pub crash_effect : Machine → ℕ → ℕ → Effect
crash_effect M kind id = done (downed M (party_of kind) id) no_post
