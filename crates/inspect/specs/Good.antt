-- "A bad machine is one where .. Nothing else is bad": `good` is true where the machine is not bad, and false where it is.
-- Each line of a conjunction is one of the paper's conditions.
use Rattle.std.specs.Prelude.{Bool, true, false, not, ◌&&◌, ◌||◌, ℕ, suc, ◌+◌, ◌*◌, ◌%◌, ◌^◌, leb, ltb, eqb, List, [], ◌∷◌, length, Option, None, Some, if◌then◌else◌}
use Rattle.sets.specs.declared.Tag.{Tag}
use Rattle.tables.specs.declared.Layout.{Layout}
use Rattle.tables.specs.declared.Conf.{Conf}
use Rattle.tables.specs.declared.Party.{Party}
use Rattle.tables.specs.declared.Client.{Client}
use Rattle.tables.specs.declared.Directory.{Directory}
use Rattle.tables.specs.declared.Entry.{Entry}
use Rattle.tables.specs.declared.Message.{Message}
use Rattle.tables.specs.Layouts.{in_columns}
use Rattle.tables.specs.Rows.{some?}
use Rattle.tables.specs.Tables.{Replica, Machine, is_free, has_tag, is_secured, is_empty}
use Rattle.tables.specs.Words.{client_words, directory_words, entry_words, replica_words, message_words}
use Rattle.tables.specs.Machines.{machine_of}
use Rattle.tables.specs.Kinds.{sender_of, receiver_of, many_of, carries_set, carries_mark, carries_tag, carries_page, carries_number}
use Rattle.tables.specs.Phases.{is_idle, uses_tag, asks_directories, asks_replicas, uses_replica_set, uses_page, rounds_left}

-- ---- tests

abbrev pub between : ℕ → ℕ → ℕ → Bool
between low high n = leb low n && leb n high

-- every word is zero
unfoldable pub zeros : List ℕ → Bool
zeros [] = true
zeros (n ∷ l) = eqb n 0 && zeros l

-- a field in use is in range, and one not in use is zero
abbrev pub field : (used in_range is_zero : Bool) → Bool
field used in_range is_zero = used && in_range || not used && is_zero

-- every row passes its test, which is told the row's number
abbrev pub each_row : {A : Type 0} → (ℕ → A → Bool) → ℕ → List A → Bool
each_row test n [] = true
each_row test n (x ∷ xs) = test n x && each_row test (suc n) xs

-- ---- "Numbers and parties"

-- "read quorum rq, write quorum wq: 1 to nd, with rq + wq greater than nd"; word 7 is a spare
abbrev pub good_counts : Conf → Bool
good_counts k =
    between 1 k.directories k.rq
    && between 1 k.directories k.wq
    && ltb k.directories (k.rq + k.wq)
    && eqb k.columns 0

-- "2 to 16 directories stand in equal columns"; "columns outside 1 to nd, or not dividing nd"; "Fixed rq and wq are zero here"
abbrev pub good_columns : Conf → Bool
good_columns k =
    leb 2 k.directories
    && between 1 k.directories k.columns
    && eqb (k.directories % k.columns) 0
    && eqb k.rq 0
    && eqb k.wq 0

-- "directories nd: 1 to 5" in a machine with 5 rows for them, and 1 to n in one with n
unfoldable pub good_numbers : ℕ → Conf → Bool
good_numbers n k =
    between 1 8 k.clients
    && between 1 n k.directories
    && between 1 7 k.replicas
    && leb k.f 3
    && leb (2 * k.f + 1) k.replicas
    && (if in_columns n then good_columns k else good_counts k)
    && between 3 4294967295 k.top

-- at most that number and that client, and both are 0 or neither is
abbrev pub tag_within : (number client : ℕ) → Tag → Bool
tag_within number client t =
    leb t.number number
    && leb t.client client
    && (eqb t.number 0 && eqb t.client 0 || leb 1 t.number && leb 1 t.client)

-- "a tag number exceeds top or a tag client nc, just one of the two is 0" is bad
abbrev pub good_tag : Conf → Tag → Bool
good_tag k t = tag_within k.top k.clients t

abbrev pub zero_tag : Tag → Bool
zero_tag t = eqb t.number 0 && eqb t.client 0

-- a set of n parties has no bit above n
abbrev pub good_set : ℕ → ℕ → Bool
good_set n s = ltb s (2 ^ n)

-- "1 for the exact tag and 0 for the other, any other value making a bad machine"
abbrev pub good_mark : ℕ → Bool
good_mark n = leb n 1

-- a message's set word: a set of replicas, a mark or neither, by what the kind carries
abbrev pub good_set_word : Conf → ℕ → ℕ → Bool
good_set_word k kind s = field (carries_set kind) (good_set k.replicas s) (field (carries_mark kind) (good_mark s) (eqb s 0))

-- a client's answered set: one of directories or of replicas, by what the phase asks
abbrev pub good_answered : Conf → ℕ → ℕ → Bool
good_answered k phase s =
    asks_directories phase && good_set k.directories s || asks_replicas phase && good_set k.replicas s || eqb s 0

-- ---- rows: a row in use passes its test, and one not in use is zero

unfoldable pub good_client : Conf → Client → Bool
good_client k w =
    leb w.down 1
    && leb w.phase 6
    && (is_idle w.phase || leb 1 w.number)
    && leb (w.number + rounds_left w.phase) k.top
    && good_answered k w.phase w.answered
    && field (uses_replica_set w.phase) (good_set k.replicas w.replicas) (eqb w.replicas 0)
    && field (uses_tag w.phase) (good_tag k w.tag) (zero_tag w.tag)
    && eqb w.spare 0
    && (uses_page w.phase || zeros w.page)

unfoldable pub good_directory : Conf → Directory → Bool
good_directory k d = leb d.down 1 && good_tag k d.tag && good_set k.replicas d.set

unfoldable pub good_entry : Conf → Entry → Bool
good_entry k e =
    if is_free e then zeros (entry_words e)
    else leb e.state 2 && good_tag k e.tag && eqb e.spare 0

-- no tag stands in two entries
unfoldable pub tags_once : List Entry → Bool
tags_once [] = true
tags_once (e ∷ es) = (is_free e || not (some? (has_tag e.tag) es)) && tags_once es

unfoldable pub good_replica : Conf → Replica → Bool
good_replica k r =
    leb r.down 1
    && each_row (λ e. good_entry k) 1 r.entries
    && tags_once r.entries
    && some? is_secured r.entries

-- a party of that kind
abbrev pub is_party : Conf → Party → ℕ → Bool
is_party k who p = between 1 (many_of k who) p

-- a party of the kind that a number names: none where it names none
abbrev pub is_named_party : Conf → Option Party → ℕ → Bool
is_named_party k None p = false
is_named_party k (Some who) p = is_party k who p

unfoldable pub good_message : Conf → Message → Bool
good_message k x =
    leb x.kind 15
    && is_named_party k (sender_of x.kind) x.sender
    && is_named_party k (receiver_of x.kind) x.receiver
    && field (carries_tag x.kind) (good_tag k x.tag) (zero_tag x.tag)
    && good_set_word k x.kind x.set
    && field (carries_number x.kind) (between 1 k.top x.number) (eqb x.number 0)
    && eqb x.spare 0
    && (carries_page x.kind || zeros x.page)

-- ---- the tables: the first nc client rows are in use, and so on

unfoldable pub client_row : Conf → ℕ → Client → Bool
client_row k c w = if leb c k.clients then good_client k w else zeros (client_words w)

unfoldable pub directory_row : Conf → ℕ → Directory → Bool
directory_row k d w = if leb d k.directories then good_directory k w else zeros (directory_words w)

unfoldable pub replica_row : Conf → ℕ → Replica → Bool
replica_row k r w = if leb r k.replicas then good_replica k w else eqb w.down 0 && zeros (replica_words w)

unfoldable pub slot_row : Conf → ℕ → Message → Bool
slot_row k s x = if is_empty x then zeros (message_words x) else good_message k x

unfoldable pub good_machine : Machine → Bool
good_machine M =
    good_numbers (length M.directories) M.conf
    && zeros M.spare
    && each_row (client_row M.conf) 1 M.clients
    && each_row (directory_row M.conf) 1 M.directories
    && zeros M.gap
    && each_row (replica_row M.conf) 1 M.replicas
    && each_row (slot_row M.conf) 1 M.slots

-- the machine of a buffer is not bad
unfoldable pub good : Layout → List ℕ → Bool
good lay m = good_machine (machine_of lay m)
