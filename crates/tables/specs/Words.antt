-- "A machine is the first 4,992 words of a lent buffer": its words, row by row, each field in the paper's order.
use Rattle.std.specs.Prelude.{ℕ, List, [], ◌∷◌}
use Rattle.tables.specs.declared.Conf.{Conf}
use Rattle.tables.specs.declared.Client.{Client}
use Rattle.tables.specs.declared.Directory.{Directory}
use Rattle.tables.specs.declared.Entry.{Entry}
use Rattle.tables.specs.declared.Message.{Message}
use Rattle.tables.specs.Rows.{rows_words, joined}
use Rattle.tables.specs.Tables.{Replica, Machine}

-- ---- the words of each row

unfoldable pub conf_words : Conf → List ℕ
conf_words k = k.clients ∷ k.directories ∷ k.replicas ∷ k.f ∷ k.rq ∷ k.wq ∷ k.top ∷ k.columns ∷ []

unfoldable pub client_words : Client → List ℕ
client_words w =
    w.down ∷ w.phase ∷ w.number ∷ w.answered ∷ w.replicas ∷ w.tag.number ∷ w.tag.client ∷ w.spare ∷ w.page

unfoldable pub directory_words : Directory → List ℕ
directory_words d = d.down ∷ d.tag.number ∷ d.tag.client ∷ d.set ∷ []

unfoldable pub down_words : Replica → List ℕ
down_words r = r.down ∷ []

unfoldable pub entry_words : Entry → List ℕ
entry_words e = e.state ∷ e.tag.number ∷ e.tag.client ∷ e.spare ∷ e.page

unfoldable pub replica_words : Replica → List ℕ
replica_words r = rows_words entry_words r.entries

unfoldable pub message_words : Message → List ℕ
message_words x =
    x.kind ∷ x.sender ∷ x.receiver ∷ x.tag.number ∷ x.tag.client ∷ x.set ∷ x.number ∷ x.spare ∷ x.page

-- ---- the whole

-- the tables in their order, and the later words t of the buffer
unfoldable pub blocks : Machine → List ℕ → List (List ℕ)
blocks M t =
    conf_words M.conf ∷ M.spare
    ∷ rows_words client_words M.clients
    ∷ rows_words directory_words M.directories
    ∷ rows_words down_words M.replicas ∷ M.gap
    ∷ rows_words replica_words M.replicas
    ∷ rows_words message_words M.slots
    ∷ t ∷ []

unfoldable pub words : Machine → List ℕ → List ℕ
words M t = joined (blocks M t)
