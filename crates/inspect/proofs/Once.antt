-- No tag stands in two entries: said entry by entry, and of each pair of entries.
use Rattle.std.specs.Prelude.{if◌then◌else◌}
use mathlib.Core.Bool.{Bool, true, false, not, ◌&&◌, ◌||◌, and-false, and-true, and_assoc, false≢true}
use mathlib.Core.List.{List, [], ◌∷◌, ◌++◌, append-nil, append_assoc}
use mathlib.Core.Path.{◌≡◌, refl, sym, ap, ◌∙◌}
use Prim.Native.Nat.{ℕ, zero, suc, ◌<◌, zero-le, suc-le-suc}
use native.Mathlib.Nat.{not-suc-le-zero, le_of_suc-le-suc}
use borrow.Author.Tests.{eq-eqb, ne_eqb, eqb-true, eqb-false, not-true}
use lib.Dec.{eqb}
use lib.ListN.{length, get_or}
use Rattle.sets.specs.Tags.{same}
use Rattle.sets.specs.declared.Tag.{Tag}
use Rattle.tables.specs.declared.Conf.{Conf}
use Rattle.tables.specs.declared.Entry.{Entry}
use Rattle.tables.specs.Rows.{some?}
use Rattle.tables.specs.Tables.{no_entry, is_free, has_tag}
use Rattle.inspect.specs.Good.{each_row, good_entry, tags_once}
use Rattle.inspect.specs.Inner.{good_entries, fresh_after, good_after}
use Rattle.inspect.proofs.Tests.{and_l, and_r}

eqb_sym : (a b : ℕ) → eqb a b ≡ eqb b a
eqb_sym a b = go (eqb b a) refl
  where
    go : (t : Bool) → eqb b a ≡ t → eqb a b ≡ t
    go true e = eq-eqb a b (sym (eqb-true b a e))
    go false e = ne_eqb a b (λ q. eqb-false b a e (sym q))

same_sym : (t u : Tag) → same t u ≡ same u t
same_sym t u = rw (eqb_sym t.number u.number, eqb_sym t.client u.client)

passes_no : (a b : Bool) → (if a then true else b) ≡ false → (a ≡ false) × (b ≡ false)
passes_no true b e = absurd (false≢true (sym e))
passes_no false b e = (refl, e)

pub some_snoc : {A : Type 0} (p : A → Bool) (xs : List A) (x : A) → some? p (xs ++ x ∷ []) ≡ some? p xs || p x
some_snoc p [] x = go (p x)
  where
    go : (b : Bool) → (if b then true else false) ≡ b
    go true = refl
    go false = refl
some_snoc p (y ∷ xs) x = go (p y) (some_snoc p xs x)
  where
    go : (b : Bool) → some? p (xs ++ x ∷ []) ≡ some? p xs || p x
        → (if b then true else some? p (xs ++ x ∷ [])) ≡ (if b then true else some? p xs) || p x
    go true e = refl
    go false e = e

-- two entries, free or not, with one tag or not, and what holds of the entries between
apart : (free free' one had had' rest : Bool)
    → (free || not (had || not free' && one)) && (rest && (free' || not had'))
    ≡ (free || not had) && rest && (free' || not (if not free && one then true else had'))
apart true free' one had had' rest = refl
apart false true one true had' rest = refl
apart false true one false had' rest = refl
apart false false one true had' rest = refl
apart false false true false had' rest = sym (and-false rest)
apart false false false false had' rest = refl

once_snoc : (xs : List Entry) (e : Entry) → tags_once (xs ++ e ∷ []) ≡ tags_once xs && (is_free e || not (some? (has_tag e.tag) xs))
unfolding tags_once
once_snoc [] e = and-true _
once_snoc (x ∷ xs) e =
    rw (tags_once, some_snoc (has_tag x.tag) xs e, once_snoc xs e, same_sym x.tag e.tag)
    (apart (is_free x) (is_free e) (same e.tag x.tag) (some? (has_tag x.tag) xs) (some? (has_tag e.tag) xs) (tags_once xs))

-- ---- the test of all entries: good as far as the entry before, and with one that is not good never good again

each_snoc : {A : Type 0} (p : A → Bool) (n : ℕ) (xs : List A) (x : A) → each_row (λ i. p) n (xs ++ x ∷ []) ≡ each_row (λ i. p) n xs && p x
each_snoc p n [] x = and-true (p x)
each_snoc p n (y ∷ xs) x = rw (each_snoc p (suc n) xs x, and_assoc)

regroup : (a g o f : Bool) → (a && g) && (o && f) ≡ (a && o) && (g && f)
regroup true true o f = refl
regroup true false o f = sym (and-false o)
regroup false g o f = refl

pub good_snoc : (k : Conf) (es : List Entry) (e : Entry) → good_entries k (es ++ e ∷ []) ≡ good_entries k es && good_after k es e
unfolding good_entries good_after fresh_after
good_snoc k es e = rw (each_snoc (good_entry k) 1 es e, once_snoc es e) (regroup (each_row (λ i. good_entry k) 1 es) (good_entry k e) (tags_once es) _)

pub bad_stays : (k : Conf) (xs ys : List Entry) → good_entries k xs ≡ false → good_entries k (xs ++ ys) ≡ false
bad_stays k xs [] h = rw append-nil h
bad_stays k xs (y ∷ ys) h = ap (good_entries k) (sym (append_assoc xs (y ∷ []) ys)) ∙ bad_stays k (xs ++ y ∷ []) ys (good_snoc k xs y ∙ rw h)

-- ---- by pairs: of two entries in use, the later has not the tag of the earlier

module _ {A : Type 0} (p : A → Bool) (d : A) where
  none_at : (xs : List A) → some? p xs ≡ false → (j : ℕ) → j < length xs → p (get_or xs j d) ≡ false
  none_at [] e j h = absurd (not-suc-le-zero h)
  none_at (x ∷ xs) e zero h = (passes_no (p x) (some? p xs) e).0
  none_at (x ∷ xs) e (suc j) h = none_at xs (passes_no (p x) (some? p xs) e).1 j (le_of_suc-le-suc h)

  at_none : (xs : List A) → ((j : ℕ) → j < length xs → p (get_or xs j d) ≡ false) → some? p xs ≡ false
  at_none [] h = refl
  at_none (x ∷ xs) h = rw (h 0 (suc-le-suc zero-le)) (at_none xs (λ j l. h (suc j) (suc-le-suc l)))

pub record Apart (es : List Entry) : Type 0 where
  pub apart_at : (i j : ℕ) → i < j → j < length es → is_free (get_or es i no_entry) ≡ false → has_tag (get_or es i no_entry).tag (get_or es j no_entry) ≡ false

once_at : (es : List Entry) → tags_once es ≡ true → (i j : ℕ) → i < j → j < length es → is_free (get_or es i no_entry) ≡ false
    → has_tag (get_or es i no_entry).tag (get_or es j no_entry) ≡ false
unfolding tags_once
once_at [] g i j l h u = absurd (not-suc-le-zero h)
once_at (e ∷ es) g i zero l h u = absurd (not-suc-le-zero l)
once_at (e ∷ es) g zero (suc j) l h u =
    let s : is_free e || not (some? (has_tag e.tag) es) ≡ true = and_l (is_free e || not (some? (has_tag e.tag) es)) (tags_once es) g in
    none_at (has_tag e.tag) no_entry es (not-true (some? (has_tag e.tag) es) (rw u at s)) j (le_of_suc-le-suc h)
once_at (e ∷ es) g (suc i) (suc j) l h u =
    once_at es (and_r (is_free e || not (some? (has_tag e.tag) es)) (tags_once es) g) i j (le_of_suc-le-suc l) (le_of_suc-le-suc h) u

pub once_apart : (es : List Entry) → tags_once es ≡ true → Apart es
once_apart es g = record { apart_at = once_at es g }

pub apart_once : (es : List Entry) → Apart es → tags_once es ≡ true
unfolding tags_once
apart_once [] a = refl
apart_once (e ∷ es) a =
    rw (first (is_free e) refl, apart_once es (record { apart_at = λ i j l h u. a.apart_at (suc i) (suc j) (suc-le-suc l) (suc-le-suc h) u }))
  where
    first : (b : Bool) → is_free e ≡ b → b || not (some? (has_tag e.tag) es) ≡ true
    first true u = refl
    first false u = rw (at_none (has_tag e.tag) no_entry es (λ j h. a.apart_at 0 (suc j) (suc-le-suc zero-le) (suc-le-suc h) u))
