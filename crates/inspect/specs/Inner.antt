-- What the inner functions ask and give, beside the tests of Good. Nothing of the paper stands here.
use Rattle.std.specs.Prelude.{Bool, true, not, ◌&&◌, ◌||◌, List, [], ◌∷◌, ◌≡◌, ℕ, zero, suc, ◌+◌, ◌-◌, ◌*◌, ◌%◌, ◌^◌, ◌≤◌, leb, eqb, get_or, if◌then◌else◌}
use Rattle.sets.specs.Sets.{with}
use Rattle.sets.specs.Inner.{◌∈◌}
use Rattle.sets.specs.declared.Tag.{Tag}
use Rattle.tables.specs.declared.Conf.{Conf}
use Rattle.tables.specs.declared.Client.{Client}
use Rattle.tables.specs.declared.Entry.{Entry}
use Rattle.tables.specs.declared.Message.{Message}
use Rattle.tables.specs.Kinds.{sender_of, receiver_of, many_named, carries_set, carries_mark, carries_tag, carries_page, carries_number}
use Rattle.tables.specs.Phases.{is_idle, uses_tag, asks_directories, asks_replicas, uses_replica_set, uses_page, rounds_left}
use Rattle.tables.specs.Rows.{some?}
use Rattle.tables.specs.Tables.{Replica, is_free, has_tag}
use Rattle.tables.specs.Words.{replica_words}
use Rattle.tables.specs.Machines.{entries_of}
use Rattle.inspect.specs.declared.limits.Limits.{Limits}
use Rattle.inspect.specs.Good.{between, zeros, tag_within, each_row, good_entry, tags_once, good_replica}

-- few enough parties for a set in a word, and numbers for an operation's rounds; a clause and no type, since all definitions take a plain Conf
pub record Few (k : Conf) : Type 0 where
  pub directories : k.directories ≤ 31
  pub replicas : k.replicas ≤ 31
  pub rounds : 2 ≤ k.top

-- a replica, by its flag and its words
unfoldable pub replica_in : Conf → Bool → ℕ → List ℕ → Bool
replica_in k used down l =
    let r : Replica = record { down = down; entries = entries_of l } in
    if used then good_replica k r else eqb down 0 && zeros (replica_words r)

-- ---- the entries of a replica

-- an entry is free, or its tag is in none of those before it
unfoldable pub fresh_after : List Entry → Entry → Bool
fresh_after es e = is_free e || not (some? (has_tag e.tag) es)

-- and it is good
unfoldable pub good_after : Conf → List Entry → Entry → Bool
good_after k es e = good_entry k e && fresh_after es e

-- every entry is good, and no tag stands in two
unfoldable pub good_entries : Conf → List Entry → Bool
good_entries k es = each_row (λ e. good_entry k) 1 es && tags_once es

-- a tag's mark, one of 32; marks are kept as a set of parties is
abbrev pub mark_of : Tag → ℕ
mark_of t = t.number % 4 * 8 + t.client % 8 + 1

-- the marks, and that of an entry that is in use
unfoldable pub marked_by : Entry → ℕ → ℕ
marked_by e marks = if is_free e then marks else with marks (mark_of e.tag)

-- a tag of these entries has left its mark
pub record Marked (es : List Entry) (marks : ℕ) : Type 0 where
  pub left : (t : Tag) → some? (has_tag t) es ≡ true → mark_of t ∈ marks

-- ---- limits: what a row in use may hold, by its kind or phase

-- a field may be at most n where it is in use, and 0 where it is not
abbrev pub limit : Bool → ℕ → ℕ
limit used n = if used then n else 0

unfoldable pub kind_limits : Conf → ℕ → Limits
kind_limits k kind =
    record {
      first = many_named k (sender_of kind);
      second = many_named k (receiver_of kind);
      number = limit (carries_tag kind) k.top;
      client = limit (carries_tag kind) k.clients;
      set = if carries_set kind then 2 ^ k.replicas - 1 else limit (carries_mark kind) 1;
      least = limit (carries_number kind) 1;
      most = limit (carries_number kind) k.top;
      page = limit (carries_page kind) 4294967295;
    }

unfoldable pub phase_limits : Conf → ℕ → Limits
phase_limits k phase =
    record {
      first = if asks_directories phase then 2 ^ k.directories - 1 else limit (asks_replicas phase) (2 ^ k.replicas - 1);
      second = 0;
      number = limit (uses_tag phase) k.top;
      client = limit (uses_tag phase) k.clients;
      set = limit (uses_replica_set phase) (2 ^ k.replicas - 1);
      least = limit (not (is_idle phase)) 1;
      most = k.top - rounds_left phase;
      page = limit (uses_page phase) 4294967295;
    }

-- a row of a table of limits
unfoldable pub limits_words : Limits → List ℕ
limits_words y = y.first ∷ y.second ∷ y.number ∷ y.client ∷ y.set ∷ y.least ∷ y.most ∷ y.page ∷ []

unfoldable pub limits_of : List ℕ → Limits
limits_of l =
    record {
      first = get_or l 0 0;
      second = get_or l 1 0;
      number = get_or l 2 0;
      client = get_or l 3 0;
      set = get_or l 4 0;
      least = get_or l 5 0;
      most = get_or l 6 0;
      page = get_or l 7 0;
    }

-- n rows, from that of kind or phase i on
unfoldable pub limits_table : (ℕ → Limits) → ℕ → ℕ → List (List ℕ)
limits_table f i zero = []
limits_table f i (suc n) = limits_words (f i) ∷ limits_table f (suc i) n

-- kinds 0 to 15, and phases 0 to 6
abbrev pub kind_table : Conf → List (List ℕ)
kind_table k = limits_table (kind_limits k) 0 16

abbrev pub phase_table : Conf → List (List ℕ)
phase_table k = limits_table (phase_limits k) 0 7

-- ---- within limits; the page is told by its words joined

abbrev pub within : Limits → Tag → ℕ → ℕ → ℕ → ℕ → Bool
within y t set n spare page =
    tag_within y.number y.client t
    && leb set y.set
    && between y.least y.most n
    && eqb spare 0
    && leb page y.page

abbrev pub client_within : Limits → Client → ℕ → Bool
client_within y w page = leb w.down 1 && leb w.answered y.first && within y w.tag w.replicas w.number w.spare page

abbrev pub message_within : Limits → Message → ℕ → Bool
message_within y x page =
    between 1 y.first x.sender && between 1 y.second x.receiver && within y x.tag x.set x.number x.spare page
