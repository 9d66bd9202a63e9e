-- What the inner functions ask and give, beside the tables. Nothing of the paper stands here.
use Rattle.std.specs.Prelude.{List, ◌++◌, ℕ, ◌+◌, ◌*◌, ◌≤◌, length, take, drop}
use Rattle.tables.specs.declared.Layout.{Layout}
use Rattle.tables.specs.declared.Client.{Client}
use Rattle.tables.specs.declared.Directory.{Directory}
use Rattle.tables.specs.declared.Entry.{Entry}
use Rattle.tables.specs.declared.Party.{Party}
use Rattle.tables.specs.declared.Party.TheVariants.{AClient, ADirectory, AReplica}
use Rattle.tables.specs.Layouts.{flags_at, extent}
use Rattle.tables.specs.Rows.{rows_words, with_row}
use Rattle.tables.specs.Tables.{Machine, client_at, directory_at, replica_at, with_client, with_directory, with_replica}
use Rattle.tables.specs.Words.{entry_words}

-- a buffer that is long enough for the layout
pub record Fits (lay : Layout) (m : List ℕ) : Type 0 where
  pub few : lay.directories ≤ 16
  pub long : extent lay ≤ length m

-- the words l with the row r written over them from place `at` on
unfoldable pub put : List ℕ → ℕ → List ℕ → List ℕ
put l at r = take at l ++ (r ++ drop (at + length r) l)

-- the words l of a replica with other entries
abbrev pub with_entries : List ℕ → List Entry → List ℕ
with_entries l es = put l 0 (rows_words entry_words es)

-- how many parties of a kind there may be
abbrev pub most_of : Layout → Party → ℕ
most_of lay AClient = 8
most_of lay ADirectory = lay.directories
most_of lay AReplica = 7

-- where the down word of party i of a kind, counted from 0, stands: the first of its row, or a flag
abbrev pub down_at : Layout → Party → ℕ → ℕ
down_at lay AClient i = 16 + i * 24
down_at lay ADirectory i = 208 + i * 4
down_at lay AReplica i = flags_at lay + i

-- the machine with another down word of party p
abbrev pub with_down : Machine → Party → ℕ → ℕ → Machine
with_down M AClient p x =
    let w : Client = client_at M p in
    with_client M p (record { down = x; phase = w.phase; number = w.number; answered = w.answered; replicas = w.replicas; tag = w.tag; spare = w.spare; page = w.page })
with_down M ADirectory p x =
    let d : Directory = directory_at M p in
    with_directory M p (record { down = x; tag = d.tag; set = d.set })
with_down M AReplica p x = with_replica M p (record { down = x; entries = (replica_at M p).entries })

-- the replica r with another entry e
abbrev pub with_entry : Machine → ℕ → ℕ → Entry → Machine
with_entry M r e x =
    with_replica M r (record { down = (replica_at M r).down; entries = with_row (replica_at M r).entries e x })
