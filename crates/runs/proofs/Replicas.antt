-- A replica after a good message, and after a tidy, is good, and so is what it sends.
use mathlib.Core.Bool.{true, false, not, ◌||◌, and-false}
use mathlib.Core.List.{List}
use mathlib.Core.Path.{◌≡◌, refl}
use Prim.Native.Nat.{ℕ, ◌≤◌}
use native.Mathlib.Omega.{arith}
use borrow.Author.Tests.{le-leb, ne_eqb}
use lib.Dec.{T, not_T}
use Rattle.sets.specs.declared.Tag.{Tag}
use Rattle.sets.proofs.Tests.{T_true, true-T, T_false, passes_by, if_ind}
use Rattle.tables.specs.declared.Conf.{Conf}
use Rattle.tables.specs.declared.Entry.{Entry}
use Rattle.tables.specs.declared.Message.{Message}
use Rattle.tables.specs.declared.Party.TheVariants.{AReplica}
use Rattle.tables.specs.Kinds.{sender_of, receiver_of}
use Rattle.tables.specs.Rows.{some?}
use Rattle.tables.specs.Tables.{Replica, no_page, no_entry, is_free, is_secured, has_tag}
use Rattle.tables.specs.Words.{entry_words}
use Rattle.tables.proofs.All.{All, all_map}
use Rattle.tables.proofs.Whole.{Paged, Stocked, blank_entry}
use Rattle.inspect.specs.Good.{zeros, good_tag, good_mark, each_row, is_party, good_entry, tags_once, good_replica, replica_row}
use Rattle.inspect.proofs.Facts.{TagFacts, EntryFacts, MessageFacts, entry_facts, replica_facts}
use Rattle.inspect.proofs.Made.{entry_made}
use Rattle.rules.specs.Replica.{entry, entry_with, highest, secured, there, read, mark, tidied, replica_after, replica_post, gossip_post}
use Rattle.rules.proofs.Stock.{Stock}
use Rattle.rules.proofs.Highest.{highest_of}
use Rattle.rules.proofs.Changes.{free_not_secured, tag_has}
use Rattle.rules.proofs.Covers.{highest_tag, read_of}
use Rattle.rules.proofs.Every.{all_after, all_tidied, all_entry_with, all_read, stock_after, stock_tidied, some_after, some_tidied}
use Rattle.runs.proofs.Sound.{each_in, each_out, Sends}
use Rattle.runs.proofs.Sent.{in_use, good_tag_lem, sends_all, sends_one, sends_none, sends_by}
use Rattle.runs.proofs.Once.{once_after, once_tidied}

-- what a good replica has
pub record Stores (k : Conf) (es : List Entry) : Type 0 where
  pub good : All (λ e. good_entry k e ≡ true) es
  pub once : tags_once es ≡ true
  pub secured : T (some? is_secured es)
  pub stock : Stock es

pub stores : (k : Conf) (r : Replica) → good_replica k r ≡ true → Stocked r → Stores k r.entries
unfolding good_replica
stores k r g s =
    let f = replica_facts k r g in
    record {
      good = each_in (good_entry k) 1 r.entries (passes_by (each_row (λ e. good_entry k) 1 r.entries) (good_replica k r) (λ f. simp (f, and-false)) g);
      once = f.once;
      secured = true-T (some? is_secured r.entries) f.secured;
      stock = record { many = s.many; pages = s.pages };
    }

-- a row in use with these entries
pub replica_fits : (k : Conf) (p : ℕ) (r : Replica) → p ≤ k.replicas → r.down ≤ 1 → Stores k r.entries → (replica_row k p r ≡ true) × Stocked r
unfolding replica_row good_replica
replica_fits k p r h d s = (
  rw (
    le-leb p k.replicas h,
    le-leb r.down 1 d,
    each_out (good_entry k) 1 s.good,
    s.once,
    T_true (some? is_secured r.entries) s.secured,
  ),
  record { many = s.stock.many; pages = s.stock.pages },
)

no_entry_lem : (k : Conf) → good_entry k no_entry ≡ true
unfolding good_entry entry_words no_entry no_page zeros
no_entry_lem k = refl

is_mark : (t : Tag) (es : List Entry) → good_mark (mark t es) ≡ true
unfolding mark
is_mark t es = if_ind (λ (n : ℕ). good_mark n ≡ true) (there t es) (λ _. refl) (λ _. refl)

module _ (k : Conf) {es : List Entry} (s : Stores k es) where
  -- an entry in use
  entry_used : (e : Entry) → good_entry k e ≡ true → T (not (is_free e)) → EntryFacts k e
  entry_used e g u = entry_facts k e g (T_false (is_free e) u)

  secured_tags : All (λ e. T (is_secured e) → TagFacts k e.tag) es
  secured_tags = all_map (λ e g h. (entry_used e g (not_T (is_free e) (λ f. free_not_secured e f h))).tag) s.good

  pub stores_tidied : Stores k (tidied es)
  stores_tidied =
      record {
        good = all_tidied {P = λ e. good_entry k e ≡ true} (no_entry_lem k) s.good;
        once = once_tidied es s.once;
        secured = some_tidied es s.secured;
        stock = stock_tidied s.stock;
      }

  pub gossip_sends : (from to : ℕ) → is_party k AReplica from ≡ true → is_party k AReplica to ≡ true → Sends k (gossip_post es from to)
  unfolding gossip_post sender_of receiver_of
  gossip_sends from to a b =
      sends_one k
      (record {
        rest = refl;
        sender = a;
        tag = good_tag_lem k (entry_with (highest es) es).tag (rw (highest_tag es s.secured) (highest_of (TagFacts k) secured_tags s.secured));
        set = refl;
        number = refl;
        page = all_entry_with {P = λ e. Paged e.page} (highest es) blank_entry s.stock.pages;
      }) to b

  module _ (x : Message) (g : MessageFacts k x) (p : Paged x.page) where
    put_good : (state : ℕ) → 1 ≤ state → state ≤ 2 → good_entry k (entry state x.tag x.page) ≡ true
    put_good state l h = entry_made k (entry state x.tag x.page) (record { state = h; tag = g.tag; spare = refl }) (ne_eqb state 0 (λ e. omega arith))

    pub stores_after : Stores k (replica_after es x)
    stores_after =
        record {
          good =
              all_after {P = λ e. good_entry k e ≡ true} x (λ _. put_good 1 (omega arith) (omega arith)) (λ _. put_good 2 (omega arith) (omega arith))
              (λ _. turned) s.good;
          once = once_after es x s.once;
          secured = some_after es x s.secured;
          stock = stock_after x p s.stock;
        }
      where
        turned : (e : Entry) → T (has_tag x.tag e) → good_entry k e ≡ true → good_entry k (secured e) ≡ true
        turned e h q =
            let f = entry_used e q (tag_has x.tag e h).0 in
            entry_made k (secured e) (record { state = omega arith; tag = f.tag; spare = f.spare }) refl

    read_tag : good_tag k (read x.tag es).tag || false ≡ true
    read_tag = good_tag_lem k (read x.tag es).tag (read_of es s.secured x.tag (TagFacts k) g.tag secured_tags)

    pub replica_sends : Sends k (replica_post k.directories es x)
    unfolding replica_post sender_of receiver_of zeros no_page
    replica_sends =
        sends_by k x g 9 (λ c. sends_one k (record { rest = refl; sender = c.receiver; tag = read_tag; set = in_use (good_mark (mark x.tag es)) (is_mark x.tag es); number = c.number; page = all_read {P = λ e. Paged e.page} x.tag blank_entry s.stock.pages }) x.sender c.sender)
        (sends_by k x g 10 (λ c. sends_one k (record { rest = refl; sender = c.receiver; tag = refl; set = refl; number = c.number; page = refl }) x.sender c.sender)
        (sends_by k x g 15 (λ c. sends_all k (record { rest = refl; sender = c.receiver; tag = good_tag_lem k x.tag g.tag; set = refl; number = refl; page = refl }))
        (sends_none k)))
