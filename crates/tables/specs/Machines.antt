-- The machine of words, row by row. Of a buffer that is long enough for the layout it is the one machine that has these words: theorems `words_back` and `machine_back` (proofs/Round).
use Rattle.std.specs.Prelude.{ℕ, zero, suc, List, [], ◌∷◌, get_or, take, drop}
use Rattle.sets.specs.Tags.{tag}
use Rattle.tables.specs.declared.Layout.{Layout}
use Rattle.tables.specs.declared.Conf.{Conf}
use Rattle.tables.specs.declared.Client.{Client}
use Rattle.tables.specs.declared.Directory.{Directory}
use Rattle.tables.specs.declared.Entry.{Entry}
use Rattle.tables.specs.declared.Message.{Message}
use Rattle.tables.specs.Tables.{Replica, Machine}
use Rattle.tables.specs.Layouts.{flags_at, gap_at, entries_at, slots_at}

-- ---- the row that words begin with

unfoldable pub conf_of : List ℕ → Conf
conf_of l =
    record {
      clients = get_or l 0 0;
      directories = get_or l 1 0;
      replicas = get_or l 2 0;
      f = get_or l 3 0;
      rq = get_or l 4 0;
      wq = get_or l 5 0;
      top = get_or l 6 0;
      columns = get_or l 7 0;
    }

unfoldable pub client_of : List ℕ → Client
client_of l =
    record {
      down = get_or l 0 0;
      phase = get_or l 1 0;
      number = get_or l 2 0;
      answered = get_or l 3 0;
      replicas = get_or l 4 0;
      tag = tag (get_or l 5 0) (get_or l 6 0);
      spare = get_or l 7 0;
      page = take 16 (drop 8 l);
    }

unfoldable pub directory_of : List ℕ → Directory
directory_of l = record { down = get_or l 0 0; tag = tag (get_or l 1 0) (get_or l 2 0); set = get_or l 3 0 }

unfoldable pub entry_of : List ℕ → Entry
entry_of l = record { state = get_or l 0 0; tag = tag (get_or l 1 0) (get_or l 2 0); spare = get_or l 3 0; page = take 16 (drop 4 l) }

unfoldable pub message_of : List ℕ → Message
message_of l =
    record {
      kind = get_or l 0 0;
      sender = get_or l 1 0;
      receiver = get_or l 2 0;
      tag = tag (get_or l 3 0) (get_or l 4 0);
      set = get_or l 5 0;
      number = get_or l 6 0;
      spare = get_or l 7 0;
      page = take 16 (drop 8 l);
    }

-- n records, each read from a row of w words
unfoldable pub rows_of : {A : Type 0} → (List ℕ → A) → ℕ → ℕ → List ℕ → List A
rows_of g zero w l = []
rows_of g (suc n) w l = g l ∷ rows_of g n w (drop w l)

-- 8 clients of 24, n directories of 4, 128 slots of 24
unfoldable pub clients_of : List ℕ → List Client
clients_of l = rows_of client_of 8 24 l

unfoldable pub directories_of : ℕ → List ℕ → List Directory
directories_of n l = rows_of directory_of n 4 l

unfoldable pub slots_of : List ℕ → List Message
slots_of l = rows_of message_of 128 24 l

-- 12 entries of 20
unfoldable pub entries_of : List ℕ → List Entry
entries_of l = rows_of entry_of 12 20 l

-- n replicas: a flag each, and 240 words each
unfoldable pub replicas_of : ℕ → List ℕ → List ℕ → List Replica
replicas_of zero flags l = []
replicas_of (suc n) flags l = record { down = get_or flags 0 0; entries = entries_of l } ∷ replicas_of n (drop 1 flags) (drop 240 l)

-- ---- the whole

unfoldable pub machine_of : Layout → List ℕ → Machine
machine_of lay m =
    record {
      conf = conf_of m;
      spare = take 8 (drop 8 m);
      clients = clients_of (drop 16 m);
      directories = directories_of lay.directories (drop 208 m);
      gap = take 5 (drop (gap_at lay) m);
      replicas = replicas_of 7 (drop (flags_at lay) m) (drop (entries_at lay) m);
      slots = slots_of (drop (slots_at lay) m);
    }
