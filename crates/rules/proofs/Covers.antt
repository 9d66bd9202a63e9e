-- A covered tag: it is never lost, a message with room covers its tag, and a read of it gets it, marked 1, or a greater one, marked 0.
use Rattle.std.specs.Prelude.{if◌then◌else◌}
use mathlib.Core.Path.{◌≡◌, refl, sym, subst}
use mathlib.Core.Bool.{Bool, true, false, not, ◌&&◌}
use mathlib.Core.Logic.{◌⊎◌, inl, inr, ⊎_elim}
use mathlib.Core.List.{List, [], ◌∷◌}
use Prim.Native.Nat.{ℕ}
use native.Mathlib.Omega.{arith}
use lib.Dec.{T, eqb, eqb→eq, T_not, not_T}
use Rattle.sets.specs.Plain.{one_of}
use Rattle.sets.specs.declared.Tag.{Tag}
use Rattle.sets.proofs.Tests.{not_not, and_intro, or_elim, not_both}
use Rattle.sets.proofs.TagOrder.{◌≼◌, ◌≺◌, ≼_refl, ≺→≼, ≺-≼}
use Rattle.tables.specs.declared.Entry.{Entry}
use Rattle.tables.specs.declared.Message.{Message}
use Rattle.tables.specs.Rows.{some?, put_first}
use Rattle.tables.specs.Tables.{is_free, is_secured, has_tag}
use Rattle.tables.proofs.All.{All, none, cons, all_map}
use Rattle.tables.proofs.Lists.{put_some, Each, ends, next}
use Rattle.rules.specs.Replica.{entry, there, entry_with, highest, read, mark, tidied, replica_after, is_full}
use Rattle.rules.proofs.Highest.{highest_of}
use Rattle.rules.proofs.Changes.{some_first, some_later, has_its_tag, tag_has, Kept, was_free, stays, made_secure, dropped, Grows, free_not_secured, highest_grows, secure_kept, tidied_grows, After, holds, writes, secures, confirms, hears, other, after, after_grows}

-- ---- whether a tag is there

kept_tag : {h : Tag} (t : Tag) (e e' : Entry) → T (has_tag t e) → Kept h e e' → T (has_tag t e') ⊎ (t ≺ h)
kept_tag t e e' k (was_free f) = absurd (T_not (is_free e) (tag_has t e k).0 f)
kept_tag t e e' k (stays q) = inl (rw q k)
kept_tag t e e' k (made_secure q) = inl (has_its_tag t e' (rw q tt) (rw q (tag_has t e k).1))
kept_tag t e e' k (dropped l) = inr (rw (tag_has t e k).1 at l)

there_grows : {h : Tag} {es es' : List Entry} (t : Tag) → Each (Kept h) es es' → T (there t es) → T (there t es') ⊎ (t ≺ h)
there_grows t ends k = absurd k
there_grows {h} t (next {x = e} {y = e'} {xs = es} {ys = es'} r rs) k = go (has_tag t e) refl k (λ m. there_grows t rs m)
  where
    go : (b : Bool) → has_tag t e ≡ b → T (if b then true else there t es) → (T (there t es) → T (there t es') ⊎ (t ≺ h)) → T (there t (e' ∷ es')) ⊎ (t ≺ h)
    go true q k f = ⊎_elim (λ a. inl (some_first (has_tag t) e' es' a)) (λ l. inr l) (kept_tag t e e' (rw q tt) r)
    go false q k f = ⊎_elim (λ a. inl (some_later (has_tag t) e' es' a)) (λ l. inr l) (f k)

-- ---- an entry in use has the tag, or it is below the highest secured tag

pub data Covers (es : List Entry) (t : Tag) : Type 0 where
  held : T (there t es) → Covers es t
  beyond : t ≺ highest es → Covers es t

pub covers_grows : {es es' : List Entry} {t : Tag} → Grows es es' → Covers es t → Covers es' t
covers_grows {t = t} g (held h) = ⊎_elim (λ k. held k) (λ l. beyond l) (there_grows t g h)
covers_grows g (beyond l) = beyond (≺-≼ l (highest_grows g))

pub covers_after : (es : List Entry) (x : Message) (t : Tag) → Covers es t → Covers (replica_after es x) t
covers_after es x t c = covers_grows (after_grows es x) c

pub covers_tidied : (es : List Entry) (t : Tag) → Covers es t → Covers (tidied es) t
covers_tidied es t c = covers_grows (tidied_grows es) c

module _ (es : List Entry) (x : Message) (k : T (one_of x.kind (10 ∷ 15 ∷ []))) (n : T (not (is_full es x))) where
  -- FULL was not given
  room : T (not (there x.tag es)) → T (some? is_free es)
  unfolding is_full
  room m =
      let q : T (one_of x.kind (10 ∷ 15 ∷ []) && not (there x.tag es)) = and_intro (one_of x.kind (10 ∷ 15 ∷ [])) (not (there x.tag es)) k m in
      not_not (some? is_free es)
      (⊎_elim (λ u. absurd (T_not (one_of x.kind (10 ∷ 15 ∷ []) && not (there x.tag es)) u q)) (λ u. u)
      (not_both (one_of x.kind (10 ∷ 15 ∷ []) && not (there x.tag es)) (not (some? is_free es)) n))

  put_there : (s : ℕ) → T (not (eqb s 0)) → T (not (there x.tag es)) → T (there x.tag (put_first is_free (entry s x.tag x.page) es))
  put_there s u m = put_some is_free (has_tag x.tag) (entry s x.tag x.page) es (has_its_tag x.tag (entry s x.tag x.page) u refl) (room m)

  kinds : T (not (eqb x.kind 10)) → T (not (eqb x.kind 15)) → ⊥
  kinds a b = ⊎_elim (λ u. T_not (eqb x.kind 10) a u) (λ u. T_not (eqb x.kind 15) b u) (or_elim (eqb x.kind 10) (eqb x.kind 15) k)

  covers_by : {r : List Entry} → After es x r → Covers r x.tag
  covers_by (holds _ h) = held h
  covers_by (writes _ m) = held (put_there 1 tt m)
  covers_by (secures e) =
      absurd (kinds (not_T (eqb x.kind 10) (λ u. omega (arith, eqb→eq))) (not_T (eqb x.kind 15) (λ u. omega (arith, eqb→eq))))
  covers_by (confirms _ h) = covers_grows (secure_kept x.tag es) (held h)
  covers_by (hears _ m) = held (put_there 2 tt m)
  covers_by (other a b) = absurd (kinds a b)

  -- after 10 or 15 with room the tag is covered
  pub covers_new : Covers (replica_after es x) x.tag
  covers_new = covers_by (after es x)

-- ---- what is read and gossiped

pub entry_with_has : (t : Tag) (es : List Entry) → T (there t es) → T (has_tag t (entry_with t es))
unfolding entry_with
entry_with_has t [] h = absurd h
entry_with_has t (e ∷ es) h = go (has_tag t e) refl h (λ k. entry_with_has t es k)
  where
    go : (b : Bool) → has_tag t e ≡ b → T (if b then true else there t es) → (T (there t es) → T (has_tag t (entry_with t es)))
        → T (has_tag t (if b then e else entry_with t es))
    go true q h f = rw q tt
    go false q h f = f h

all_there : (es : List Entry) → All (λ e. T (is_secured e) → T (there e.tag es)) es
all_there [] = none
all_there (e ∷ es) =
    cons (λ s. some_first (has_tag e.tag) e es (has_its_tag e.tag e (not_T (is_free e) (λ f. free_not_secured e f s)) refl))
    (all_map (λ a f s. some_later (has_tag a.tag) e es (f s)) (all_there es))

-- what a read got, by its mark: the tag asked for, or a greater one
pub data Copied (asked got : Tag) : ℕ → Type 0 where
  itself : got ≡ asked → Copied asked got 1
  higher : asked ≺ got → Copied asked got 0

pub copied_reaches : {asked got : Tag} {n : ℕ} → Copied asked got n → asked ≼ got
copied_reaches {asked} (itself e) = subst (λ (t : Tag). asked ≼ t) (sym e) (≼_refl asked)
copied_reaches (higher l) = ≺→≼ l

-- two choices by one test
if_by : {A B : Type 0} (P : A → B → Type 0) (b : Bool) {x y : A} {u v : B} → (T b → P x u) → (T (not b) → P y v) → P (if b then x else y) (if b then u else v)
if_by P true f g = f tt
if_by P false f g = g tt

module _ (es : List Entry) (s : T (some? is_secured es)) where
  -- the highest secured tag has an entry
  pub highest_there : T (there (highest es) es)
  highest_there = highest_of (λ (u : Tag). T (there u es)) (all_there es) s

  pub highest_tag : (entry_with (highest es) es).tag ≡ highest es
  highest_tag = (tag_has (highest es) (entry_with (highest es) es) (entry_with_has (highest es) es highest_there)).1

  module _ (t : Tag) where
    -- the tag asked for, or the highest secured tag
    read_ind : (P : Tag → ℕ → Type 0) → (T (there t es) → P t 1) → (T (not (there t es)) → P (highest es) 0) → P (read t es).tag (mark t es)
    unfolding read mark
    read_ind P f g =
        if_by (λ (r : Entry) (n : ℕ). P r.tag n) (there t es)
        (λ h. subst (λ (u : Tag). P u 1) (sym (tag_has t (entry_with t es) (entry_with_has t es h)).1) (f h)) (λ n. subst (λ (u : Tag). P u 0) (sym highest_tag) (g n))

    -- a read of a covered tag
    pub read_copies : Covers es t → Copied t (read t es).tag (mark t es)
    read_copies (held h) = read_ind (Copied t) (λ _. itself refl) (λ n. absurd (T_not (there t es) n h))
    read_copies (beyond l) = read_ind (Copied t) (λ _. itself refl) (λ _. higher l)

    -- what holds of the tag asked for and of every secured tag holds of the answer
    pub read_of : (K : Tag → Type 0) → K t → All (λ e. T (is_secured e) → K e.tag) es → K (read t es).tag
    read_of K k ks = read_ind (λ u _. K u) (λ _. k) (λ _. highest_of K ks s)
