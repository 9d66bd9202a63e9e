-- The highest secured tag: no secured entry is above it, it is the tag of one, and tidy keeps it.
use Rattle.std.specs.Prelude.{if◌then◌else◌}
use mathlib.Core.Path.{◌≡◌, refl, subst}
use mathlib.Core.Bool.{Bool, true, false, not, ◌&&◌}
use mathlib.Core.Logic.{⊎_elim}
use mathlib.Core.List.{List, [], ◌∷◌, map}
use lib.Dec.{T, T_not}
use Rattle.sets.specs.declared.Tag.{Tag}
use Rattle.sets.specs.Tags.{first, lower}
use Rattle.sets.proofs.Tests.{true-T, false-T, either, and_elim, not_both, if_ind}
use Rattle.sets.proofs.TagOrder.{◌≼◌, ◌≺◌, ≼_refl, ≼_trans, ≺→≼, ≺-≼, ≼-≺, ≺_irrefl, ≼_antisym, first_least, lower→≺, not_lower→≼}
use Rattle.tables.specs.declared.Entry.{Entry}
use Rattle.tables.specs.Rows.{some?}
use Rattle.tables.specs.Tables.{no_entry, is_secured}
use Rattle.tables.proofs.All.{All, none, cons, all_map}
use Rattle.tables.proofs.Lists.{none_passes, all_mapped}
use Rattle.rules.specs.Replica.{higher_of, highest, free_below, tidied}

-- an entry that is secured has a tag that is at most u
abbrev pub Below : Tag → Entry → Type 0
Below u e = T (is_secured e) → e.tag ≼ u

blank_below : (u : Tag) → Below u no_entry
unfolding no_entry
blank_below u s = absurd s

-- ---- the higher of a tag and an entry's

module _ (t : Tag) (e : Entry) where
  higher_ind : (P : Tag → Type 0) → (T (is_secured e) → t ≺ e.tag → P e.tag) → (Below t e → P t) → P (higher_of t e)
  unfolding higher_of
  higher_ind P f g =
      if_ind P (is_secured e && lower t e.tag)
      (λ h. let q = and_elim (is_secured e) (lower t e.tag) h in f q.0 (lower→≺ t e.tag q.1))
      (λ h. g (λ s. ⊎_elim (λ n. absurd (T_not (is_secured e) n s)) (not_lower→≼ t e.tag) (not_both (is_secured e) (lower t e.tag) h)))

  higher_least : {u : Tag} → t ≼ u → Below u e → higher_of t e ≼ u
  higher_least {u} p q = higher_ind (λ (r : Tag). r ≼ u) (λ s _. q s) (λ _. p)

  higher_over : t ≼ higher_of t e
  higher_over = higher_ind (λ (r : Tag). t ≼ r) (λ _ l. ≺→≼ l) (λ _. ≼_refl t)

  higher_above : Below (higher_of t e) e
  higher_above s = higher_ind (λ (r : Tag). e.tag ≼ r) (λ _ _. ≼_refl e.tag) (λ f. f s)

  higher_up : T (is_secured e) → t ≺ e.tag → higher_of t e ≡ e.tag
  higher_up s l = higher_ind (λ (r : Tag). r ≡ e.tag) (λ _ _. refl) (λ f. absurd (≺_irrefl (≺-≼ l (f s))))

  higher_same : Below t e → higher_of t e ≡ t
  higher_same f = higher_ind (λ (r : Tag). r ≡ t) (λ s l. absurd (≺_irrefl (≺-≼ l (f s)))) (λ _. refl)

-- ---- the least tag that no secured entry is above

pub highest_least : {u : Tag} {es : List Entry} → All (Below u) es → highest es ≼ u
unfolding highest
highest_least {u = u} none = first_least u
highest_least (cons {x = e} {xs = es} b bs) = higher_least (highest es) e (highest_least bs) b

pub highest_above : (es : List Entry) → All (Below (highest es)) es
unfolding highest
highest_above [] = none
highest_above (e ∷ es) =
    cons (higher_above (highest es) e) (all_map (λ a b s. ≼_trans (b s) (higher_over (highest es) e)) (highest_above es))

-- where none is secured
highest_first : (es : List Entry) → T (not (some? is_secured es)) → highest es ≼ first
highest_first es n = highest_least (all_map (λ e m s. absurd (T_not (is_secured e) m s)) (none_passes is_secured es n))

the_other : (a b : Bool) → T (if a then true else b) → T (not b) → T a
the_other true b h n = tt
the_other false b h n = absurd (T_not b n h)

-- what holds of every secured tag holds of the highest
pub highest_of : (K : Tag → Type 0) {es : List Entry} → All (λ e. T (is_secured e) → K e.tag) es → T (some? is_secured es) → K (highest es)
unfolding highest
highest_of K none h = absurd h
highest_of K (cons {x = e} {xs = es} k ks) h =
    higher_ind (highest es) e K (λ s _. k s)
    (λ f. ⊎_elim (λ (y : some? is_secured es ≡ true). highest_of K ks (true-T (some? is_secured es) y))
    (λ (n : some? is_secured es ≡ false). only f (false-T (some? is_secured es) n)) (either (some? is_secured es)))
  where
    only : Below (highest es) e → T (not (some? is_secured es)) → K (highest es)
    only f n =
        let s : T (is_secured e) = the_other (is_secured e) (some? is_secured es) h n in
        subst K (≼_antisym (f s) (≼_trans (highest_first es n) (first_least e.tag))) (k s)

-- ---- what is freed below a tag

module _ (g : Tag) where
  freed_low : (es : List Entry) → highest (map (free_below g) es) ≼ highest es
  freed_low es =
      highest_least (all_mapped (free_below g) (λ e b. if_ind (Below (highest es)) (lower e.tag g) (λ _. blank_below (highest es)) (λ _. b)) (highest_above es))

  freed_high : (es : List Entry) → g ≼ highest es → highest (map (free_below g) es) ≡ highest es
  unfolding highest
  freed_high [] h = refl
  freed_high (e ∷ es) h =
      higher_ind (highest es) e (λ (r : Tag). g ≼ r → higher_of (highest (map (free_below g) es)) (free_below g e) ≡ r)
      (λ s l k.
      if_ind (λ (x : Entry). higher_of (highest (map (free_below g) es)) x ≡ e.tag) (lower e.tag g)
      (λ q. absurd (≺_irrefl (≺-≼ (lower→≺ e.tag g q) k)))
      (λ _. higher_up (highest (map (free_below g) es)) e s (≼-≺ (freed_low es) l)))
      (λ f k.
      rw (freed_high es k)
      (higher_same (highest es) (free_below g e) (if_ind (Below (highest es)) (lower e.tag g) (λ _. blank_below (highest es)) (λ _. f))))
      h

-- tidy keeps the highest secured tag
pub tidied_highest : (es : List Entry) → highest (tidied es) ≡ highest es
unfolding tidied
tidied_highest es = freed_high (highest es) es (≼_refl (highest es))
