-- The replica's rule said by the place of an entry: the entry with a tag, and the highest secured tag.
use Rattle.std.specs.Prelude.{Option, None, Some, MatchOption, is_some, unwrap_or, cond, find, position, if◌then◌else◌}
use Rattle.std.specs.Option.{option_map}
use mathlib.Core.Path.{◌≡◌, refl, sym, ap, subst, ◌∙◌}
use mathlib.Core.Bool.{Bool, true, false}
use mathlib.Core.List.{List, [], ◌∷◌}
use Prim.Native.Nat.{ℕ, suc, ◌+◌, ◌-◌, ◌<◌, ◌≤◌}
use native.Mathlib.Omega.{arith}
use lib.ListN.{length, get_or, set, drop}
use Rattle.sets.specs.declared.Tag.{Tag}
use Rattle.sets.specs.Tags.{first}
use Rattle.tables.specs.declared.Entry.{Entry}
use Rattle.tables.specs.Tables.{no_entry, has_tag}
use Rattle.tables.specs.Machines.{entries_of}
use Rattle.tables.proofs.Lists.{position_ind, position_lt, some_position, some_find, find_position}
use Rattle.tables.proofs.Loops.{turn, no_more}
use Rattle.tables.proofs.Read.{entries_many}
use Rattle.tables.specs.Inner.{with_entries}
use Rattle.rules.specs.declared.replica.Found.{Found}
use Rattle.rules.specs.Replica.{there, entry_with, higher_of, highest, secured, secure, read, mark}
use Rattle.rules.proofs.Stock.{with_own}

-- ---- the entry with a tag

-- the place that a search gives is one of the twelve
pub inside : (p : Entry → Bool) (l : List ℕ) (j : ℕ) → Some j ≡ position p (entries_of l) → j < 12
inside p l j e = rw (entries_many l) at (position_lt p (entries_of l) e)

module _ (t : Tag) where
  pub entry_with_find : (es : List Entry) → unwrap_or (find (has_tag t) es) no_entry ≡ entry_with t es
  unfolding entry_with
  entry_with_find [] = refl
  entry_with_find (e ∷ es) = go (has_tag t e) (entry_with_find es)
    where
      go : (b : Bool) → unwrap_or (find (has_tag t) es) no_entry ≡ entry_with t es
          → unwrap_or (cond b (Some e) (find (has_tag t) es)) no_entry ≡ (if b then e else entry_with t es)
      go true q = refl
      go false q = q

  secure_at : (es : List Entry) → MatchOption (position (has_tag t) es) (secure t es ≡ es) (λ j. secure t es ≡ set es j (secured (get_or es j no_entry)))
  unfolding secure
  secure_at = position_ind (has_tag t) (λ es r. MatchOption r (secure t es ≡ es) (λ j. secure t es ≡ set es j (secured (get_or es j no_entry)))) refl (λ e es q. rw q) later
    where
      later : (e : Entry) (es : List Entry) (r : Option ℕ) → has_tag t e ≡ false → MatchOption r (secure t es ≡ es) (λ j. secure t es ≡ set es j (secured (get_or es j no_entry)))
          → MatchOption (option_map suc r) (secure t (e ∷ es) ≡ e ∷ es) (λ j. secure t (e ∷ es) ≡ set (e ∷ es) j (secured (get_or (e ∷ es) j no_entry)))
      later e es None q h = rw q (ap (λ (l : List Entry). e ∷ l) h)
      later e es (Some j) q h = rw q (ap (λ (l : List Entry). e ∷ l) h)

  module _ (es : List Entry) where
    its_case : {r : Option ℕ} → r ≡ position (has_tag t) es → MatchOption r (secure t es ≡ es) (λ j. secure t es ≡ set es j (secured (get_or es j no_entry)))
    its_case e =
        subst (λ (r : Option ℕ). MatchOption r (secure t es ≡ es) (λ j. secure t es ≡ set es j (secured (get_or es j no_entry)))) (sym e) (secure_at es)

module _ (t : Tag) (l : List ℕ) where
  its_entry : {r : Option ℕ} → r ≡ position (has_tag t) (entries_of l) → option_map (λ j. get_or (entries_of l) j no_entry) r ≡ find (has_tag t) (entries_of l)
  its_entry k = ap (option_map (λ j. get_or (entries_of l) j no_entry)) k ∙ sym (find_position (has_tag t) no_entry (entries_of l))

  pub found : (j : ℕ) (e : Entry) → Some j ≡ position (has_tag t) (entries_of l) → e ≡ get_or (entries_of l) j no_entry → Some e ≡ find (has_tag t) (entries_of l)
  found j e k f = ap Some f ∙ its_entry k

  pub not_found : None ≡ position (has_tag t) (entries_of l) → None ≡ find (has_tag t) (entries_of l)
  not_found k = its_entry k

module _ (t : Tag) (l : List ℕ) where
  pub secures : (j : ℕ) (e : Entry) (m : List ℕ) → Some j ≡ position (has_tag t) (entries_of l) → e ≡ get_or (entries_of l) j no_entry
      → m ≡ with_entries l (set (entries_of l) j (secured e)) → m ≡ with_entries l (secure t (entries_of l))
  secures j e m k f q = let s : secure t (entries_of l) ≡ set (entries_of l) j (secured (get_or (entries_of l) j no_entry)) = its_case t (entries_of l) k in
      rw s (rw f at q)

  pub not_secures : 240 ≤ length l → None ≡ position (has_tag t) (entries_of l) → l ≡ with_entries l (secure t (entries_of l))
  not_secures h k = let s : secure t (entries_of l) ≡ entries_of l = its_case t (entries_of l) k in rw s (sym (with_own l h))

-- whether the tag is there: r is what its search gave
pub there_by : (t : Tag) (es : List Entry) (r : Option ℕ) (b : Bool) → r ≡ position (has_tag t) es → is_some r ≡ b → there t es ≡ b
there_by t es r b e f = some_position (has_tag t) es ∙ ap is_some (sym e) ∙ f

-- ---- what a read finds

-- an entry with its mark
abbrev pub marked : ℕ → Entry → Found
marked n e = record { entry = e; mark = n }

module _ (t : Tag) (es : List Entry) (e : Entry) where
  its_mark : (r : Option Entry) → r ≡ find (has_tag t) es → there t es ≡ is_some r
  its_mark r k = some_find (has_tag t) es ∙ ap is_some (sym k)

  pub read_found : Some e ≡ find (has_tag t) es → marked 1 e ≡ marked (mark t es) (read t es)
  unfolding read mark
  read_found k = rw (its_mark (Some e) k) (ap (marked 1) (ap (λ (r : Option Entry). unwrap_or r no_entry) k ∙ entry_with_find t es))

  pub read_missing : None ≡ find (has_tag t) es → e ≡ entry_with (highest es) es → marked 0 e ≡ marked (mark t es) (read t es)
  unfolding read mark
  read_missing k h = rw (its_mark None k, h)

-- ---- the highest secured tag, from the last entry to the first

pub highest_none : (l : List ℕ) → first ≡ highest (drop 12 (entries_of l))
unfolding highest
highest_none l = rw (no_more (entries_of l) 12 (entries_many l) 12 (omega arith))

pub highest_more : (l : List ℕ) (j : ℕ) (t r : Tag) (e : Entry) → 0 < j → j ≤ 12 → t ≡ highest (drop j (entries_of l))
    → e ≡ get_or (entries_of l) (j - 1) no_entry → r ≡ higher_of t e → r ≡ highest (drop (j - 1) (entries_of l))
unfolding highest
highest_more l j t r e h k f g q =
    let b : j - 1 + 1 ≡ j = omega arith in
    let d : drop (j - 1) (entries_of l) ≡ get_or (entries_of l) (j - 1) no_entry ∷ drop (j - 1 + 1) (entries_of l) =
    turn no_entry (entries_of l) 12 (entries_many l) (j - 1) (omega arith) in
    q ∙ rw (f, g, d, b)

pub highest_end : (l : List ℕ) (j : ℕ) (t : Tag) → j ≤ 0 → t ≡ highest (drop j (entries_of l)) → t ≡ highest (entries_of l)
highest_end l j t h e =
    let z : j ≡ 0 = omega arith in
    rw z at e
