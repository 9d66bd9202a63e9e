-- A row within the limits of its kind or phase is a good row.
use Rattle.std.specs.Prelude.{if◌then◌else◌}
use mathlib.Core.Bool.{Bool, true, false, not, ◌&&◌, ◌||◌, false≢true, and-true, and-false, and_comm, and_assoc, or-true, or-false}
use mathlib.Core.List.{List}
use mathlib.Core.Path.{◌≡◌, refl, sym, ◌∙◌}
use Prim.Native.Nat.{ℕ, zero, suc, ◌+◌, ◌-◌, ◌^◌, ◌≤◌, ◌<◌}
use native.Mathlib.Nat.{zero-add, add-zero, add-suc, suc-add, not-suc-le-zero, le_of_suc-le-suc}
use native.Mathlib.Omega.{arith}
use borrow.Author.Tests.{eqb-true, eqb-false, leb-true, le-leb, lt-leb}
use lib.Dec.{leb, eqb, leb→le, le→leb}
use lib.ListN.{get_or}
use lib.Pow.{pow_pos}
use Rattle.sets.specs.declared.Tag.{Tag}
use Rattle.sets.proofs.Tests.{T-ext}
use Rattle.tables.specs.declared.Conf.{Conf}
use Rattle.tables.specs.declared.Client.{Client}
use Rattle.tables.specs.declared.Message.{Message}
use Rattle.tables.specs.Kinds.{sender_of, receiver_of, carries_set, carries_mark, carries_tag, carries_page, carries_number}
use Rattle.tables.specs.Phases.{is_idle, uses_tag, asks_directories, asks_replicas, uses_replica_set, uses_page, rounds_left}
use Rattle.inspect.specs.declared.limits.Limits.{Limits}
use Rattle.inspect.specs.Good.{between, zeros, field, good_tag, zero_tag, good_set, good_mark, good_client, good_message, tag_within}
use Rattle.inspect.specs.Inner.{limit, kind_limits, phase_limits, limits_words, limits_of, limits_table, client_within, message_within}
use Rattle.inspect.proofs.Tests.{named_between}

-- ---- tests

same : (a b c d : ℕ) → (a ≤ b → c ≤ d) → (c ≤ d → a ≤ b) → leb a b ≡ leb c d
same a b c d f g = T-ext (leb a b) (leb c d) (λ t. le→leb c d (f (leb→le a b t))) (λ t. le→leb a b (g (leb→le c d t)))

at_zero : (n : ℕ) → leb n 0 ≡ eqb n 0
at_zero n = go (eqb n 0) refl
  where
    go : (b : Bool) → eqb n 0 ≡ b → leb n 0 ≡ b
    go true e = le-leb n 0 (omega (arith, eqb-true n 0 e))
    go false e = lt-leb n 0 (omega (arith, eqb-false n 0 e))

left_comm : (a b c : Bool) → a && (b && c) ≡ b && (a && c)
left_comm true b c = refl
left_comm false b c = sym (and-false b)

-- ---- fields

tag_within_lem : (used : Bool) (k : Conf) (t : Tag) → field used (good_tag k t) (zero_tag t) ≡ tag_within (limit used k.top) (limit used k.clients) t
tag_within_lem true k t = or-false (good_tag k t)
tag_within_lem false k t =
    rw (at_zero t.number, at_zero t.client) (absorbed (eqb t.number 0) (eqb t.client 0) (leb 1 t.number && leb 1 t.client))
  where
    absorbed : (a b c : Bool) → a && b ≡ a && b && (a && b || c)
    absorbed true true c = refl
    absorbed true false c = refl
    absorbed false b c = refl

below : (n s : ℕ) → good_set n s ≡ leb s (2 ^ n - 1)
below n s = let h : 1 ≤ 2 ^ n = pow_pos n in same (suc s) (2 ^ n) s (2 ^ n - 1) (λ g. omega arith) (λ g. omega arith)

set_within : (used : Bool) (n s : ℕ) → field used (good_set n s) (eqb s 0) ≡ leb s (limit used (2 ^ n - 1))
set_within true n s = or-false (good_set n s) ∙ below n s
set_within false n s = sym (at_zero s)

-- of a message: a set, a mark or neither
word_within : (a b : Bool) (n s : ℕ) → field a (good_set n s) (field b (good_mark s) (eqb s 0)) ≡ leb s (if a then 2 ^ n - 1 else limit b 1)
word_within true b n s = or-false (good_set n s) ∙ below n s
word_within false true n s = or-false (good_mark s)
word_within false false n s = sym (at_zero s)

or_none : (n s : ℕ) → good_set n s || eqb s 0 ≡ leb s (2 ^ n - 1)
or_none n s = go (eqb s 0) refl
  where
    go : (b : Bool) → eqb s 0 ≡ b → good_set n s || b ≡ leb s (2 ^ n - 1)
    go true e = or-true (good_set n s) ∙ sym (le-leb s (2 ^ n - 1) (omega (arith, eqb-true s 0 e)))
    go false e = or-false (good_set n s) ∙ below n s

-- of directories, of replicas or of neither
answered_within : (a b : Bool) (d r s : ℕ) → (b ≡ true → a ≡ false)
    → a && good_set d s || b && good_set r s || eqb s 0 ≡ leb s (if a then 2 ^ d - 1 else limit b (2 ^ r - 1))
answered_within true true d r s h = absurd (false≢true (sym (h refl)))
answered_within true false d r s h = rw (or-false (good_set d s)) (or_none d s)
answered_within false true d r s h = or_none r s
answered_within false false d r s h = sym (at_zero s)

number_within : (used : Bool) (top n : ℕ) → field used (between 1 top n) (eqb n 0) ≡ between (limit used 1) (limit used top) n
number_within true top n = or-false (between 1 top n)
number_within false top n = rw (at_zero n, le-leb 0 n (omega arith))

-- with the rounds still to come; an idle client has none
rounds_within : (idle : Bool) (rounds top n : ℕ) → (idle ≡ true → rounds ≡ 0)
    → (idle || leb 1 n) && leb (n + rounds) top ≡ between (limit (not idle) 1) (top - rounds) n
rounds_within true rounds top n h =
    rw (le-leb 0 n (omega arith)) (same (n + rounds) top n (top - rounds) (λ g. omega arith) (λ g. omega (arith, h refl)))
rounds_within false rounds top n h = go (leb 1 n) refl
  where
    go : (b : Bool) → leb 1 n ≡ b → b && leb (n + rounds) top ≡ b && leb n (top - rounds)
    go true e = same (n + rounds) top n (top - rounds) (λ g. omega arith) (λ g. omega (arith, leb-true 1 n e))
    go false e = refl

-- p is the page's words joined, a word itself
page_within : (used : Bool) (p : ℕ) (page : List ℕ) → eqb p 0 ≡ zeros page → p < 4294967296 → used || zeros page ≡ leb p (limit used 4294967295)
page_within true p page e fits = sym (le-leb p 4294967295 (omega arith))
page_within false p page e fits = sym e ∙ sym (at_zero p)

-- ---- rows

pub message_within_lem : (k : Conf) (x : Message) (p : ℕ) → eqb p 0 ≡ zeros x.page → p < 4294967296 → x.kind ≤ 15
    → message_within (kind_limits k x.kind) x p ≡ good_message k x
unfolding kind_limits good_message
message_within_lem k x p e fits h =
    rw (
      le-leb x.kind 15 h,
      named_between k (sender_of x.kind) x.sender,
      named_between k (receiver_of x.kind) x.receiver,
      tag_within_lem (carries_tag x.kind) k x.tag,
      word_within (carries_set x.kind) (carries_mark x.kind) k.replicas x.set,
      number_within (carries_number x.kind) k.top x.number,
      page_within (carries_page x.kind) p x.page e fits,
    )
    (simp and_assoc)

pub client_within_lem : (k : Conf) (w : Client) (p : ℕ) → eqb p 0 ≡ zeros w.page → p < 4294967296 → w.phase ≤ 6
    → client_within (phase_limits k w.phase) w p ≡ good_client k w
unfolding phase_limits good_client
client_within_lem k w p e fits h =
    rw (
      le-leb w.phase 6 h,
      ← rounds_within (is_idle w.phase) (rounds_left w.phase) k.top w.number (λ i. rw (eqb-true w.phase 0 i)),
      answered_within (asks_directories w.phase) (asks_replicas w.phase) k.directories k.replicas w.answered
          (λ i. rw (eqb-true w.phase 5 i)),
      set_within (uses_replica_set w.phase) k.replicas w.replicas,
      tag_within_lem (uses_tag w.phase) k w.tag,
      page_within (uses_page w.phase) p w.page e fits,
    )
    (turned (leb w.down 1) (is_idle w.phase || leb 1 w.number) (leb (w.number + rounds_left w.phase) k.top)
    (leb w.answered y.first) (leb w.replicas y.set) (tag_within y.number y.client w.tag) (eqb w.spare 0) (leb p y.page))
  where
    y : Limits
    y = phase_limits k w.phase

    -- the same tests in another order
    turned : (d i r a s t z g : Bool) → d && a && (t && s && (i && r) && z && g) ≡ d && true && i && r && a && s && t && z && g
    turned d i r a s t z g = simp (and-true, and_assoc, and_comm, left_comm)

-- ---- tables

row_from : (f : ℕ → Limits) (a n i : ℕ) (d : List ℕ) → i < n → get_or (limits_table f a n) i d ≡ limits_words (f (a + i))
unfolding limits_table
row_from f a zero i d h = absurd (not-suc-le-zero h)
row_from f a (suc n) zero d h = rw (add-zero a)
row_from f a (suc n) (suc i) d h = rw (add-suc, ← suc-add) (row_from f (suc a) n i d (le_of_suc-le-suc h))

-- row i of a table is the limits of kind or phase i
pub limits_at : (f : ℕ → Limits) (n i : ℕ) (d : List ℕ) → i < n → limits_of (get_or (limits_table f 0 n) i d) ≡ f i
unfolding limits_of limits_words
limits_at f n i d h = rw (row_from f 0 n i d h, zero-add i)
