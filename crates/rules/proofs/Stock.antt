-- The words of a replica with other entries: read again, written again, and with one entry replaced.
use Rattle.std.specs.Prelude.{None, Some, position}
use mathlib.Core.Path.{◌≡◌, sym, ap, ◌∙◌}
use mathlib.Core.List.{List, ◌++◌}
use Prim.Native.Nat.{ℕ, ◌*◌, ◌-◌, ◌≤◌, ◌<◌}
use native.Mathlib.Omega.{arith}
use lib.ListN.{length, get_or, set, take, drop, length-set, take-append-drop}
use lib.Seq.{drop_at, set_out}
use Rattle.tables.specs.declared.Entry.{Entry}
use Rattle.tables.specs.Rows.{rows_words, put_first}
use Rattle.tables.specs.Inner.{put, with_entries}
use Rattle.tables.specs.Tables.{no_entry, is_free}
use Rattle.tables.specs.Words.{entry_words, replica_words}
use Rattle.tables.specs.Machines.{entry_of, entries_of}
use Rattle.tables.proofs.All.{all_map, all_set}
use Rattle.tables.proofs.Lists.{put_first_some, put_first_none}
use Rattle.tables.proofs.Table.{put_before, rows_set}
use Rattle.tables.proofs.Parts.{rest_all, put_rest}
use Rattle.tables.proofs.Read.{replica_words_lem, entry_at, entries_many}
use Rattle.tables.proofs.Whole.{Paged, Stocked, stocked_read}
use Rattle.tables.proofs.Round.{entry_wide, replica_wide, entries_back}

-- 12 entries with pages of 16 words
abbrev pub Stock : List Entry → Type 0
Stock es = Stocked (record { down = 0; entries = es })

own_words : (l : List ℕ) → 240 ≤ length l → rows_words entry_words (entries_of l) ≡ take 240 l
unfolding replica_words
own_words l h = replica_words_lem 0 l h

-- ---- the words l with the entries es
module _ (l : List ℕ) (es : List Entry) (s : Stock es) where
  rows_long : length (rows_words entry_words es) ≡ 240
  unfolding replica_words
  rows_long = replica_wide (record { down = 0; entries = es }) s

  with_is : with_entries l es ≡ rows_words entry_words es ++ drop 240 l
  unfolding put
  with_is = rw rows_long

  pub entries_with : entries_of (with_entries l es) ≡ es
  unfolding replica_words
  entries_with = rw with_is (entries_back (record { down = 0; entries = es }) (drop 240 l) s)

  rest_with : drop 240 (with_entries l es) ≡ drop 240 l
  rest_with = rw with_is (drop_at (rows_words entry_words es) (drop 240 l) 240 rows_long)

-- entries written twice
pub with_with : (l : List ℕ) (es fs : List Entry) → Stock es → Stock fs → with_entries (with_entries l es) fs ≡ with_entries l fs
with_with l es fs s u = with_is (with_entries l es) fs u ∙ rw (rest_with l es s) (sym (with_is l fs u))

-- one entry replaced
pub stock_set : {es : List Entry} (j : ℕ) (e : Entry) → Paged e.page → Stock es → Stock (set es j e)
stock_set {es} j e p s = record { many = length-set es j e ∙ s.many; pages = all_set j e p s.pages }

module _ (l : List ℕ) (h : 240 ≤ length l) where
  pub stock_read : Stock (entries_of l)
  stock_read = stocked_read 0 l h

  pub with_own : with_entries l (entries_of l) ≡ l
  with_own = with_is l (entries_of l) stock_read ∙ rw (own_words l h) (take-append-drop 240 l)

  module _ (j : ℕ) (e : Entry) (p : length e.page ≡ 16) where
    entry_put : j < 12 → put l (j * 20) (entry_words e) ≡ with_entries l (set (entries_of l) j e)
    entry_put k =
        let w : length (entry_words e) ≡ 20 = entry_wide e p in
        ap (λ (q : List ℕ). put q (j * 20) (entry_words e)) (sym with_own ∙ with_is l (entries_of l) stock_read)
        ∙ put_before (rows_words entry_words (entries_of l)) (drop 240 l) (j * 20) (entry_words e) (rw (w, rows_long l (entries_of l) stock_read) (omega arith))
        ∙ ap (λ (q : List ℕ). q ++ drop 240 l) (rows_set entry_words 20 (all_map entry_wide stock_read.pages) j e (rw (entries_many l) k) w)
        ∙ sym (with_is l (set (entries_of l) j e) (stock_set j e p stock_read))

    -- what a callee wrote at the start of a part
    pub entry_written : (ys : List ℕ) → j < 12 → ys ≡ put (take (length l - j * 20) (drop (j * 20) l)) 0 (entry_words e)
        → take (j * 20) l ++ (ys ++ drop (length l - j * 20) (drop (j * 20) l)) ≡ with_entries l (set (entries_of l) j e)
    entry_written ys k f = put_rest l (j * 20) (entry_words e) ys f ∙ entry_put k

    -- past the last entry nothing changes
    pub entry_past : 12 ≤ j → l ≡ with_entries l (set (entries_of l) j e)
    entry_past k = rw (set_out (entries_of l) j e (rw (entries_many l) k)) (sym with_own)

-- entry j, read from the part that begins with it
pub entry_got : (l : List ℕ) (j : ℕ) (e : Entry) → j < 12 → e ≡ entry_of (take (length l - j * 20) (drop (j * 20) l)) → e ≡ get_or (entries_of l) j no_entry
entry_got l j e h f = f ∙ rw (rest_all l (j * 20)) (sym (entry_at l j h))

-- an entry put into the lowest free one
module _ (l : List ℕ) (e : Entry) where
  pub stored : (j : ℕ) (m : List ℕ) → Some j ≡ position is_free (entries_of l) → m ≡ with_entries l (set (entries_of l) j e)
      → m ≡ with_entries l (put_first is_free e (entries_of l))
  stored j m k h = rw (put_first_some is_free e (entries_of l) k) h

  pub not_stored : 240 ≤ length l → None ≡ position is_free (entries_of l) → l ≡ with_entries l (put_first is_free e (entries_of l))
  not_stored h k = rw (put_first_none is_free e (entries_of l) k) (sym (with_own l h))
