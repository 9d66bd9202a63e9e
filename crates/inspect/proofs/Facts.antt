-- What a good machine says: the conditions of Good, taken out; of a message those that later steps use.
use Rattle.std.specs.Prelude.{Option, if◌then◌else◌}
use mathlib.Core.Bool.{Bool, true, false, and-false, or-false, false≢true}
use mathlib.Core.Path.{◌≡◌, refl, sym, subst, ◌∙◌}
use Prim.Native.Nat.{ℕ, suc, ◌+◌, ◌*◌, ◌%◌, ◌^◌, ◌≤◌, ◌<◌}
use native.Mathlib.Omega.{arith}
use borrow.Author.Tests.{eq-eqb, ne_eqb, eqb-true, leb-true, leb-false, ltb-true, ltb-false, lt-leb, le-leb, lt-ltb}
use lib.Dec.{leb, eqb}
use lib.ListN.{length, get_or}
use lib.Pow.{pow_pos, pow_mono}
use Rattle.sets.specs.declared.Tag.{Tag}
use Rattle.sets.proofs.Tests.{passes_by}
use Rattle.tables.specs.declared.Conf.{Conf}
use Rattle.tables.specs.declared.Client.{Client}
use Rattle.tables.specs.declared.Directory.{Directory}
use Rattle.tables.specs.declared.Entry.{Entry}
use Rattle.tables.specs.declared.Message.{Message}
use Rattle.tables.specs.declared.Party.{Party}
use Rattle.tables.specs.Layouts.{in_columns}
use Rattle.tables.specs.Kinds.{sender_of, receiver_of, many_named, carries_set, carries_mark, carries_tag, carries_number}
use Rattle.tables.specs.Phases.{asks_directories, asks_replicas, uses_replica_set, uses_tag, uses_page, rounds_left}
use Rattle.tables.specs.Rows.{some?}
use Rattle.tables.specs.Tables.{Replica, no_entry, is_free, is_secured}
use Rattle.tables.specs.Words.{entry_words}
use Rattle.tables.proofs.Quorums.{Counts, Columns, Quorums, counts, columns}
use Rattle.inspect.specs.Good.{between, zeros, field, each_row, good_counts, good_columns, good_numbers, good_tag, zero_tag, good_set, good_mark, good_set_word, good_answered, good_client, good_directory, good_entry, tags_once, good_replica, is_named_party, good_message}
use Rattle.inspect.specs.Inner.{Few}
use Rattle.inspect.proofs.Tests.{named_between, and_l, and_r, le_by, eq_by, field_any, field_used, field_zero}
use Rattle.inspect.proofs.Each.{each_at}

-- ---- the numbers

pub record NumbersFacts (n : ℕ) (k : Conf) : Type 0 where
  pub some_clients : 1 ≤ k.clients
  pub few_clients : k.clients ≤ 8
  pub some_directories : 1 ≤ k.directories
  pub few_directories : k.directories ≤ n
  pub some_replicas : 1 ≤ k.replicas
  pub few_replicas : k.replicas ≤ 7
  pub few_crashes : k.f ≤ 3
  pub enough_replicas : 2 * k.f + 1 ≤ k.replicas
  pub quorums : Quorums k
  pub some_rounds : 3 ≤ k.top
  pub top_fits : k.top ≤ 4294967295

module _ (k : Conf) where
  counts_facts : good_counts k ≡ true → Counts k
  counts_facts g =
      record {
        none = eq_by k.columns 0 (good_counts k) (λ f. simp (f, and-false)) g;
        some_read = le_by 1 k.rq (good_counts k) (λ f. simp f) g;
        read_within = le_by k.rq k.directories (good_counts k) (λ f. simp (f, and-false)) g;
        some_written = le_by 1 k.wq (good_counts k) (λ f. simp (f, and-false)) g;
        written_within = le_by k.wq k.directories (good_counts k) (λ f. simp (f, and-false)) g;
        meet = le_by (suc k.directories) (k.rq + k.wq) (good_counts k) (λ f. simp (f, and-false)) g;
      }

  columns_facts : good_columns k ≡ true → Columns k
  columns_facts g =
      record {
        some = le_by 1 k.columns (good_columns k) (λ f. simp (f, and-false)) g;
        within = le_by k.columns k.directories (good_columns k) (λ f. simp (f, and-false)) g;
        equal = eq_by (k.directories % k.columns) 0 (good_columns k) (λ f. simp (f, and-false)) g;
      }

  either_quorums : (b : Bool) → (if b then good_columns k else good_counts k) ≡ true → Quorums k
  either_quorums true g = columns (columns_facts g)
  either_quorums false g = counts (counts_facts g)

module _ (n : ℕ) (k : Conf) (g : good_numbers n k ≡ true) where
  at_most : (a b : ℕ) → (leb a b ≡ false → good_numbers n k ≡ false) → a ≤ b
  at_most a b h = le_by a b (good_numbers n k) h g

  pub numbers_facts : NumbersFacts n k
  unfolding good_numbers
  numbers_facts =
      record {
        some_clients = at_most 1 k.clients (λ f. simp f);
        few_clients = at_most k.clients 8 (λ f. simp (f, and-false));
        some_directories = at_most 1 k.directories (λ f. simp (f, and-false));
        few_directories = at_most k.directories n (λ f. simp (f, and-false));
        some_replicas = at_most 1 k.replicas (λ f. simp (f, and-false));
        few_replicas = at_most k.replicas 7 (λ f. simp (f, and-false));
        few_crashes = at_most k.f 3 (λ f. simp (f, and-false));
        enough_replicas = at_most (2 * k.f + 1) k.replicas (λ f. simp (f, and-false));
        quorums = either_quorums k (in_columns n) (passes_by _ (good_numbers n k) (λ (f : (if in_columns n then good_columns k else good_counts k) ≡ false). simp (f, and-false)) g);
        some_rounds = at_most 3 k.top (λ f. simp (f, and-false));
        top_fits = at_most k.top 4294967295 (λ f. simp (f, and-false));
      }

  pub few : n ≤ 31 → Few k
  few h = let n = numbers_facts in record { directories = omega arith; replicas = omega arith; rounds = omega arith }

-- ---- a tag

pub record TagFacts (k : Conf) (t : Tag) : Type 0 where
  pub number : t.number ≤ k.top
  pub client : t.client ≤ k.clients
  pub first : t.number ≡ 0 → t.client ≡ 0
  pub later : t.client ≡ 0 → t.number ≡ 0

pub tag_facts : (k : Conf) (t : Tag) → good_tag k t ≡ true → TagFacts k t
tag_facts k t g =
    record {
      number = le_by t.number k.top (good_tag k t) (λ f. simp f) g;
      client = le_by t.client k.clients (good_tag k t) (λ f. simp (f, and-false)) g;
      first = λ z. eq_by t.client 0 (good_tag k t) (λ f. simp (f, lt-leb 1 t.number (omega arith), and-false)) g;
      later = λ z. eq_by t.number 0 (good_tag k t) (λ f. simp (f, lt-leb 1 t.client (omega arith), and-false)) g;
    }

-- a tag and a set are in range, used or not
tag_in : (k : Conf) (used : Bool) (t : Tag) → field used (good_tag k t) (zero_tag t) ≡ true → TagFacts k t
tag_in k used t g = tag_facts k t (field_any used (good_tag k t) (zero_tag t) none g)
  where
    none : zero_tag t ≡ true → good_tag k t ≡ true
    none z =
        let n : t.number ≡ 0 = eq_by t.number 0 (zero_tag t) (λ f. simp f) z in
        let c : t.client ≡ 0 = eq_by t.client 0 (zero_tag t) (λ f. simp (f, and-false)) z in
        simp (eq-eqb _ _ n, eq-eqb _ _ c, le-leb t.number k.top (omega arith), le-leb t.client k.clients (omega arith))

set_in : (n : ℕ) (used : Bool) (s : ℕ) → field used (good_set n s) (eqb s 0) ≡ true → s < 2 ^ n
set_in n used s g =
    ltb-true _ _
    (field_any used (good_set n s) (eqb s 0) (λ z. lt-ltb s (2 ^ n) (omega (arith, eqb-true s 0 z, pow_pos n))) g)

above_none : (n s : ℕ) → good_set n s ≡ false → eqb s 0 ≡ false
above_none n s f = ne_eqb s 0 (λ (z : s ≡ 0). omega (arith, ltb-false s (2 ^ n) f, pow_pos n))

-- ---- a client's row

pub record ClientFacts (k : Conf) (w : Client) : Type 0 where
  pub down : w.down ≤ 1
  pub phase : w.phase ≤ 6
  pub numbered : 1 ≤ w.phase → 1 ≤ w.number
  pub rounds : w.number + rounds_left w.phase ≤ k.top
  pub asked : asks_directories w.phase ≡ true → w.answered < 2 ^ k.directories
  pub asked_replicas : w.phase ≡ 5 → w.answered < 2 ^ k.replicas
  pub unasked : asks_directories w.phase ≡ false → asks_replicas w.phase ≡ false → w.answered ≡ 0
  pub set : w.replicas < 2 ^ k.replicas
  pub no_set : uses_replica_set w.phase ≡ false → w.replicas ≡ 0
  pub tag : TagFacts k w.tag
  pub no_tag : uses_tag w.phase ≡ false → zero_tag w.tag ≡ true
  pub spare : w.spare ≡ 0
  pub blank_page : uses_page w.phase ≡ false → zeros w.page ≡ true

not_five : (p : ℕ) → asks_directories p ≡ true → eqb p 5 ≡ false
not_five p a = ne_eqb p 5 (λ q. false≢true (rw q at a))

module _ (k : Conf) (p s : ℕ) (g : good_answered k p s ≡ true) where
  answered_directories : asks_directories p ≡ true → s < 2 ^ k.directories
  answered_directories a =
      ltb-true _ _
      (passes_by (good_set k.directories s) (good_answered k p s)
      (λ f. simp (f, not_five p a, above_none k.directories s f, and-false))
      g)

  answered_replicas : p ≡ 5 → s < 2 ^ k.replicas
  answered_replicas e =
      ltb-true _ _
      (passes_by (good_set k.replicas s) (good_answered k p s)
      (λ f. simp (e, f, above_none k.replicas s f))
      g)

  answered_none : asks_directories p ≡ false → asks_replicas p ≡ false → s ≡ 0
  answered_none a b = eq_by s 0 (good_answered k p s) (λ f. simp (f, a, b)) g

module _ (k : Conf) (w : Client) (g : good_client k w ≡ true) where
  client_tag : field (uses_tag w.phase) (good_tag k w.tag) (zero_tag w.tag) ≡ true
  unfolding good_client
  client_tag = passes_by (field (uses_tag w.phase) (good_tag k w.tag) (zero_tag w.tag)) (good_client k w) (λ f. simp (f, and-false)) g

  client_set : field (uses_replica_set w.phase) (good_set k.replicas w.replicas) (eqb w.replicas 0) ≡ true
  unfolding good_client
  client_set =
      passes_by (field (uses_replica_set w.phase) (good_set k.replicas w.replicas) (eqb w.replicas 0)) (good_client k w) (λ f. simp (f, and-false)) g

  client_answered : good_answered k w.phase w.answered ≡ true
  unfolding good_client
  client_answered = passes_by (good_answered k w.phase w.answered) (good_client k w) (λ f. simp (f, and-false)) g

  pub client_facts : ClientFacts k w
  unfolding good_client
  client_facts =
      record {
        down = le_by w.down 1 (good_client k w) (λ f. simp f) g;
        phase = le_by w.phase 6 (good_client k w) (λ f. simp (f, and-false)) g;
        numbered = λ h. le_by 1 w.number (good_client k w) (λ f. simp (f, ne_eqb w.phase 0 (λ z. omega arith), and-false)) g;
        rounds = le_by (w.number + rounds_left w.phase) k.top (good_client k w) (λ f. simp (f, and-false)) g;
        asked = answered_directories k w.phase w.answered client_answered;
        asked_replicas = answered_replicas k w.phase w.answered client_answered;
        unasked = answered_none k w.phase w.answered client_answered;
        set = set_in k.replicas (uses_replica_set w.phase) w.replicas client_set;
        no_set = λ u. eqb-true _ _ (field_zero _ _ _ u client_set);
        tag = tag_in k (uses_tag w.phase) w.tag client_tag;
        no_tag = λ u. field_zero _ _ _ u client_tag;
        spare = eq_by w.spare 0 (good_client k w) (λ f. simp (f, and-false)) g;
        blank_page = λ u. passes_by (zeros w.page) (good_client k w) (λ f. simp (f, u, and-false)) g;
      }

-- ---- a directory's row

pub record DirectoryFacts (k : Conf) (d : Directory) : Type 0 where
  pub down : d.down ≤ 1
  pub tag : TagFacts k d.tag
  pub set : d.set < 2 ^ k.replicas

pub directory_facts : (k : Conf) (d : Directory) → good_directory k d ≡ true → DirectoryFacts k d
unfolding good_directory
directory_facts k d g =
    record {
      down = le_by d.down 1 (good_directory k d) (λ f. simp f) g;
      tag = tag_facts k d.tag (passes_by (good_tag k d.tag) (good_directory k d) (λ f. simp (f, and-false)) g);
      set = ltb-true _ _ (passes_by (good_set k.replicas d.set) (good_directory k d) (λ f. simp (f, and-false)) g);
    }

-- ---- a replica and its entries

-- of an entry in use
pub record EntryFacts (k : Conf) (e : Entry) : Type 0 where
  pub state : e.state ≤ 2
  pub tag : TagFacts k e.tag
  pub spare : e.spare ≡ 0

pub entry_facts : (k : Conf) (e : Entry) → good_entry k e ≡ true → is_free e ≡ false → EntryFacts k e
unfolding good_entry
entry_facts k e g u =
    record {
      state = le_by e.state 2 (good_entry k e) (λ f. simp (u, f)) g;
      tag = tag_facts k e.tag (passes_by (good_tag k e.tag) (good_entry k e) (λ f. simp (u, f, and-false)) g);
      spare = eq_by e.spare 0 (good_entry k e) (λ f. simp (u, f, and-false)) g;
    }

pub free_zero : (k : Conf) (e : Entry) → good_entry k e ≡ true → is_free e ≡ true → zeros (entry_words e) ≡ true
unfolding good_entry
free_zero k e g u = rw u at g

pub record ReplicaFacts (k : Conf) (r : Replica) : Type 0 where
  pub down : r.down ≤ 1
  pub entries : (j : ℕ) → j < length r.entries → good_entry k (get_or r.entries j no_entry) ≡ true
  pub once : tags_once r.entries ≡ true
  pub secured : some? is_secured r.entries ≡ true

pub replica_facts : (k : Conf) (r : Replica) → good_replica k r ≡ true → ReplicaFacts k r
unfolding good_replica
replica_facts k r g =
    let all : each_row (λ e. good_entry k) 1 r.entries ≡ true =
    passes_by (each_row (λ e. good_entry k) 1 r.entries) (good_replica k r) (λ f. simp (f, and-false)) g in
    record {
      down = le_by r.down 1 (good_replica k r) (λ f. simp f) g;
      entries = λ j h. each_at (λ e. good_entry k) 1 r.entries j no_entry h all;
      once = passes_by (tags_once r.entries) (good_replica k r) (λ f. simp (f, and-false)) g;
      secured = passes_by (some? is_secured r.entries) (good_replica k r) (λ f. simp (f, and-false)) g;
    }

-- ---- a message

pub record MessageFacts (k : Conf) (x : Message) : Type 0 where
  pub kind : x.kind ≤ 15
  pub some_sender : 1 ≤ x.sender
  pub sender : x.sender ≤ many_named k (sender_of x.kind)
  pub some_receiver : 1 ≤ x.receiver
  pub receiver : x.receiver ≤ many_named k (receiver_of x.kind)
  pub tag : TagFacts k x.tag
  pub set : x.set < 2 ^ k.replicas
  pub numbered : carries_number x.kind ≡ true → 1 ≤ x.number
  pub number : x.number ≤ k.top

named_facts : (k : Conf) (who : Option Party) (p : ℕ) → is_named_party k who p ≡ true → (1 ≤ p) × (p ≤ many_named k who)
named_facts k who p g =
    let b : between 1 (many_named k who) p ≡ true = sym (named_between k who p) ∙ g in
    (leb-true 1 p (and_l (leb 1 p) (leb p (many_named k who)) b), leb-true p (many_named k who) (and_r (leb 1 p) (leb p (many_named k who)) b))

module _ (k : Conf) (x : Message) (g : good_message k x ≡ true) where
  message_tag : field (carries_tag x.kind) (good_tag k x.tag) (zero_tag x.tag) ≡ true
  unfolding good_message
  message_tag = passes_by (field (carries_tag x.kind) (good_tag k x.tag) (zero_tag x.tag)) (good_message k x) (λ f. simp (f, and-false)) g

  message_set : good_set_word k x.kind x.set ≡ true
  unfolding good_message
  message_set = passes_by (good_set_word k x.kind x.set) (good_message k x) (λ f. simp (f, and-false)) g

  message_number : field (carries_number x.kind) (between 1 k.top x.number) (eqb x.number 0) ≡ true
  unfolding good_message
  message_number =
      passes_by (field (carries_number x.kind) (between 1 k.top x.number) (eqb x.number 0)) (good_message k x) (λ f. simp (f, and-false)) g

  at_top : leb x.number k.top ≡ true
  at_top =
      passes_by (leb x.number k.top) (field (carries_number x.kind) (between 1 k.top x.number) (eqb x.number 0))
      (λ f. simp (f, ne_eqb x.number 0 (λ (z : x.number ≡ 0). omega (arith, leb-false x.number k.top f)), and-false))
      message_number

  sender_lem : (1 ≤ x.sender) × (x.sender ≤ many_named k (sender_of x.kind))
  unfolding good_message
  sender_lem =
      named_facts k (sender_of x.kind) x.sender (passes_by (is_named_party k (sender_of x.kind) x.sender) (good_message k x) (λ f. simp (f, and-false)) g)

  receiver_lem : (1 ≤ x.receiver) × (x.receiver ≤ many_named k (receiver_of x.kind))
  unfolding good_message
  receiver_lem =
      named_facts k (receiver_of x.kind) x.receiver (passes_by (is_named_party k (receiver_of x.kind) x.receiver) (good_message k x) (λ f. simp (f, and-false)) g)

  -- a mark comes from a replica: there is one, so that a mark is in range as a set is
  unset : field (carries_mark x.kind) (good_mark x.set) (eqb x.set 0) ≡ true → good_set k.replicas x.set ≡ true
  unfolding sender_of
  unset = go (carries_mark x.kind) refl
    where
      go : (b : Bool) → carries_mark x.kind ≡ b → field b (good_mark x.set) (eqb x.set 0) ≡ true → good_set k.replicas x.set ≡ true
      go true e h =
          let r : x.sender ≤ k.replicas = subst (λ (n : ℕ). x.sender ≤ many_named k (sender_of n)) (eqb-true x.kind 12 e) sender_lem.1 in
          let two : 2 ^ 1 ≤ 2 ^ k.replicas = pow_mono {i = 1} {j = k.replicas} (omega (arith, sender_lem.0)) in
          lt-ltb x.set (2 ^ k.replicas) (omega (arith, leb-true x.set 1 (rw (or-false (good_mark x.set)) at h)))
      go false e h = lt-ltb x.set (2 ^ k.replicas) (omega (arith, eqb-true x.set 0 h, pow_pos k.replicas))

  pub message_facts : MessageFacts k x
  unfolding good_message
  message_facts =
      record {
        kind = le_by x.kind 15 (good_message k x) (λ f. simp f) g;
        some_sender = sender_lem.0;
        sender = sender_lem.1;
        some_receiver = receiver_lem.0;
        receiver = receiver_lem.1;
        tag = tag_in k (carries_tag x.kind) x.tag message_tag;
        set = ltb-true _ _ (field_any (carries_set x.kind) (good_set k.replicas x.set) _ unset message_set);
        numbered = λ u. le_by 1 x.number (between 1 k.top x.number) (λ f. simp f) (field_used _ _ _ u message_number);
        number = leb-true _ _ at_top;
      }
