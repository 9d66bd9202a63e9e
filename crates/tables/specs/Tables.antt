-- "The tables": the machine as records. Each row has the fields that the paper lists, in its order; a spare word is a field too.
use Rattle.std.specs.Prelude.{Bool, not, ◌&&◌, ℕ, eqb, List, replicate}
use Rattle.sets.specs.Tags.{first, same}
use Rattle.sets.specs.declared.Tag.{Tag}
use Rattle.tables.specs.declared.Conf.{Conf}
use Rattle.tables.specs.declared.Client.{Client}
use Rattle.tables.specs.declared.Directory.{Directory}
use Rattle.tables.specs.declared.Entry.{Entry}
use Rattle.tables.specs.declared.Message.{Message}
use Rattle.tables.specs.declared.Party.{Party}
use Rattle.tables.specs.declared.Party.TheVariants.{AClient, ADirectory, AReplica}
use Rattle.tables.specs.Rows.{row, with_row}

-- 16 words
abbrev pub Page : Type 0
Page = List ℕ

unfoldable pub no_page : Page
no_page = replicate 16 0

-- a replica's down flag and its 12 entries
pub record Replica : Type 0 where
  pub down : ℕ
  pub entries : List Entry

-- `spare` is words 8 to 15, `gap` words 235 to 239 where there are 5 directory rows
pub record Machine : Type 0 where
  pub conf : Conf
  pub spare : List ℕ
  pub clients : List Client
  pub directories : List Directory
  pub gap : List ℕ
  pub replicas : List Replica
  pub slots : List Message

-- "Rows and spare words not in use are zero."
unfoldable pub no_client : Client
no_client = record { down = 0; phase = 0; number = 0; answered = 0; replicas = 0; tag = first; spare = 0; page = no_page }

unfoldable pub no_directory : Directory
no_directory = record { down = 0; tag = first; set = 0 }

unfoldable pub no_entry : Entry
no_entry = record { state = 0; tag = first; spare = 0; page = no_page }

unfoldable pub no_replica : Replica
no_replica = record { down = 0; entries = replicate 12 no_entry }

unfoldable pub no_message : Message
no_message = record { kind = 0; sender = 0; receiver = 0; tag = first; set = 0; number = 0; spare = 0; page = no_page }

-- parties and slots count from 1
abbrev pub client_at : Machine → ℕ → Client
client_at M c = row no_client M.clients c

abbrev pub directory_at : Machine → ℕ → Directory
directory_at M d = row no_directory M.directories d

abbrev pub replica_at : Machine → ℕ → Replica
replica_at M r = row no_replica M.replicas r

abbrev pub slot_at : Machine → ℕ → Message
slot_at M s = row no_message M.slots s

-- the down word of party p of a kind
abbrev pub down_word : Machine → Party → ℕ → ℕ
down_word M AClient p = (client_at M p).down
down_word M ADirectory p = (directory_at M p).down
down_word M AReplica p = (replica_at M p).down

-- the machine with one row replaced
abbrev pub with_client : Machine → ℕ → Client → Machine
with_client M c x =
    record { conf = M.conf; spare = M.spare; clients = with_row M.clients c x; directories = M.directories; gap = M.gap; replicas = M.replicas; slots = M.slots }

abbrev pub with_directory : Machine → ℕ → Directory → Machine
with_directory M d x =
    record { conf = M.conf; spare = M.spare; clients = M.clients; directories = with_row M.directories d x; gap = M.gap; replicas = M.replicas; slots = M.slots }

abbrev pub with_replica : Machine → ℕ → Replica → Machine
with_replica M r x =
    record { conf = M.conf; spare = M.spare; clients = M.clients; directories = M.directories; gap = M.gap; replicas = with_row M.replicas r x; slots = M.slots }

abbrev pub with_slots : Machine → List Message → Machine
with_slots M ss =
    record { conf = M.conf; spare = M.spare; clients = M.clients; directories = M.directories; gap = M.gap; replicas = M.replicas; slots = ss }

abbrev pub with_slot : Machine → ℕ → Message → Machine
with_slot M s x = with_slots M (with_row M.slots s x)

-- "state (0 free, 1 held, 2 secured)", "kind (0 empty)"
abbrev pub is_free : Entry → Bool
is_free e = eqb e.state 0

abbrev pub is_secured : Entry → Bool
is_secured e = eqb e.state 2

-- an entry in use has the tag
abbrev pub has_tag : Tag → Entry → Bool
has_tag t e = not (is_free e) && same e.tag t

abbrev pub is_empty : Message → Bool
is_empty x = eqb x.kind 0
