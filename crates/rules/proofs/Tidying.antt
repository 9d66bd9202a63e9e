-- Tidy's walk over the entries: the first of them are tidied, one by one.
use Rattle.std.specs.declared.cmp.Ordering.{Ordering}
use Rattle.std.specs.declared.cmp.Ordering.TheVariants.{Less, Equal, Greater}
use Rattle.std.specs.Ordering.{is_lt}
use mathlib.Core.Path.{◌≡◌, refl, sym, ap, ◌∙◌}
use mathlib.Core.Bool.{true, false}
use mathlib.Core.List.{List, [], ◌∷◌, ◌++◌, map, append-nil}
use Prim.Native.Nat.{ℕ, zero, suc, ◌+◌, ◌≤◌, ◌<◌}
use native.Mathlib.Nat.{le_of_suc-le-suc, not-suc-le-zero}
use native.Mathlib.Numerals.{add-one}
use lib.ListN.{length, get_or, set, take, drop, drop_of_length-le}
use lib.Seq.{take_all, set-get_or}
use Rattle.sets.specs.declared.Tag.{Tag}
use Rattle.sets.specs.Tags.{lower, is_lower}
use Rattle.tables.specs.declared.Entry.{Entry}
use Rattle.tables.specs.Tables.{no_entry}
use Rattle.tables.specs.Machines.{entries_of}
use Rattle.tables.specs.Inner.{with_entries}
use Rattle.tables.proofs.Read.{entries_many}
use Rattle.tables.proofs.Whole.{blank_entry}
use Rattle.rules.specs.Replica.{highest, free_below, tidied}
use Rattle.rules.proofs.Stock.{Stock, entries_with, with_own, with_with, stock_set, stock_read}

module _ {A : Type 0} (f : A → A) where
  -- the list with f of each of its first j
  abbrev pub mapped : List A → ℕ → List A
  mapped xs j = map f (take j xs) ++ drop j xs

  mapped_here : (xs : List A) (j : ℕ) (d : A) → get_or (mapped xs j) j d ≡ get_or xs j d
  mapped_here [] zero d = refl
  mapped_here [] (suc j) d = refl
  mapped_here (x ∷ xs) zero d = refl
  mapped_here (x ∷ xs) (suc j) d = mapped_here xs j d

  mapped_more : (xs : List A) (j : ℕ) (d : A) → j < length xs → mapped xs (suc j) ≡ set (mapped xs j) j (f (get_or xs j d))
  mapped_more [] j d h = absurd (not-suc-le-zero h)
  mapped_more (x ∷ xs) zero d h = refl
  mapped_more (x ∷ xs) (suc j) d h = ap (λ (l : List A). f x ∷ l) (mapped_more xs j d (le_of_suc-le-suc h))

pub lt_lower : (o : Ordering) → is_lt o ≡ is_lower o
lt_lower Less = refl
lt_lower Equal = refl
lt_lower Greater = refl

-- l is l₀ with the first j entries tidied below t
pub record Tidying (l₀ : List ℕ) (t : Tag) (j : ℕ) (l : List ℕ) : Type 0 where
  pub stock : Stock (mapped (free_below t) (entries_of l₀) j)
  pub words : l ≡ with_entries l₀ (mapped (free_below t) (entries_of l₀) j)

module _ (l₀ : List ℕ) (t : Tag) where
  pub tidying_start : 240 ≤ length l₀ → Tidying l₀ t 0 l₀
  tidying_start h = record { stock = stock_read l₀ h; words = sym (with_own l₀ h) }

  module _ (j : ℕ) (l : List ℕ) (g : Tidying l₀ t j l) where
    abbrev es : List Entry
    es = mapped (free_below t) (entries_of l₀) j

    own : entries_of l ≡ es
    own = ap entries_of g.words ∙ entries_with l₀ es g.stock

    here : (e : Entry) → e ≡ get_or (entries_of l) j no_entry → e ≡ get_or (entries_of l₀) j no_entry
    here e k = k ∙ ap (λ (fs : List Entry). get_or fs j no_entry) own ∙ mapped_here (free_below t) (entries_of l₀) j no_entry

    more : j < 12 → (x : Entry) → free_below t (get_or (entries_of l₀) j no_entry) ≡ x → mapped (free_below t) (entries_of l₀) (j + 1) ≡ set es j x
    more h x k = rw (add-one j, ← k) (mapped_more (free_below t) (entries_of l₀) j no_entry (rw (entries_many l₀) h))

    -- entry j goes
    pub freed : (e : Entry) (m : List ℕ) → j < 12 → e ≡ get_or (entries_of l) j no_entry → lower e.tag t ≡ true → m ≡ with_entries l (set (entries_of l) j no_entry)
        → Tidying l₀ t (j + 1) m
    freed e m h k b q =
        let s : Stock (set es j no_entry) = stock_set j no_entry blank_entry g.stock in
        let n = more h no_entry (rw (← here e k, b)) in
        record { stock = rw n s; words = q ∙ rw (own, n) (ap (λ (w : List ℕ). with_entries w (set es j no_entry)) g.words ∙ with_with l₀ es (set es j no_entry) g.stock s) }

    -- it stays
    pub stays : (e : Entry) → j < 12 → e ≡ get_or (entries_of l) j no_entry → lower e.tag t ≡ false → Tidying l₀ t (j + 1) l
    stays e h k b =
        let n = more h e (rw (← here e k, b)) ∙ ap (set es j) (k ∙ ap (λ (fs : List Entry). get_or fs j no_entry) own) ∙ set-get_or es j no_entry in
        record { stock = rw n g.stock; words = rw n g.words }

    pub tidying_end : t ≡ highest (entries_of l₀) → 12 ≤ j → l ≡ with_entries l₀ (tidied (entries_of l₀))
    unfolding tidied
    tidying_end e h =
        let k : length (entries_of l₀) ≤ j = rw (entries_many l₀) h in
        g.words ∙ rw (take_all j (entries_of l₀) k, drop_of_length-le (entries_of l₀) {i = j} k, append-nil (map (free_below t) (entries_of l₀)), ← e)
