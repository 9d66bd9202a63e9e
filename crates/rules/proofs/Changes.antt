-- How a message and tidy change a replica's entries: one relation for all changes, and the ways through a message.
use mathlib.Core.Path.{◌≡◌, refl}
use mathlib.Core.Bool.{Bool, not}
use mathlib.Core.List.{List, [], ◌∷◌}
use native.Mathlib.Omega.{arith}
use lib.Dec.{T, eqb, eqb→eq, T_not}
use Rattle.sets.specs.declared.Tag.{Tag}
use Rattle.sets.specs.Tags.{lower, same}
use Rattle.sets.proofs.Tests.{and_elim, and_intro, if_ind}
use Rattle.sets.proofs.TagOrder.{◌≼◌, ◌≺◌, ≺→≼, lower→≺, same→≡, ≡→same}
use Rattle.tables.specs.declared.Entry.{Entry}
use Rattle.tables.specs.declared.Message.{Message}
use Rattle.tables.specs.Rows.{some?, put_first}
use Rattle.tables.specs.Tables.{is_free, is_secured, has_tag}
use Rattle.tables.proofs.Lists.{Each, ends, next, each_same, each_map, each_put_first, each_back}
use Rattle.rules.specs.Replica.{entry, there, highest, secured, secure, write, hear_gossip, free_below, tidied, replica_after}
use Rattle.rules.proofs.Highest.{Below, highest_least, highest_above, tidied_highest}

-- some entry passes a test
module _ (p : Entry → Bool) (e : Entry) (es : List Entry) where
  pub some_first : T (p e) → T (some? p (e ∷ es))
  some_first h = if_ind T (p e) (λ _. tt) (λ n. absurd (T_not (p e) n h))

  pub some_later : T (some? p es) → T (some? p (e ∷ es))
  some_later h = if_ind T (p e) (λ _. tt) (λ _. h)

-- an entry in use with the tag
module _ (t : Tag) (e : Entry) where
  pub has_its_tag : T (not (is_free e)) → e.tag ≡ t → T (has_tag t e)
  has_its_tag u q = and_intro (not (is_free e)) (same e.tag t) u (≡→same e.tag t q)

  pub tag_has : T (has_tag t e) → T (not (is_free e)) × (e.tag ≡ t)
  tag_has h =
      let q = and_elim (not (is_free e)) (same e.tag t) h in
      (q.0, same→≡ e.tag t q.1)

-- ---- one relation for all changes; h is the highest secured tag afterwards

pub data Kept (h : Tag) (e e' : Entry) : Type 0 where
  was_free : T (is_free e) → Kept h e e'
  stays : e' ≡ e → Kept h e e'
  made_secure : e' ≡ secured e → Kept h e e'
  dropped : e.tag ≺ h → Kept h e e'

abbrev pub Grows : List Entry → List Entry → Type 0
Grows es es' = Each (Kept (highest es')) es es'

pub free_not_secured : (e : Entry) → T (is_free e) → T (is_secured e) → ⊥
free_not_secured e f s = omega (arith, eqb→eq)

kept_below : {h : Tag} (e e' : Entry) → Kept h e e' → Below h e' → Below h e
kept_below e e' (was_free f) b s = absurd (free_not_secured e f s)
kept_below e e' (stays q) b s = (rw q at b) s
kept_below e e' (made_secure q) b s = (rw q at b) tt
kept_below e e' (dropped l) b s = ≺→≼ l

-- the highest secured tag never falls
pub highest_grows : {es es' : List Entry} → Grows es es' → highest es ≼ highest es'
highest_grows {es' = es'} g = highest_least (each_back kept_below g (highest_above es'))

-- ---- the changes

pub secure_kept : {h : Tag} (t : Tag) (es : List Entry) → Each (Kept h) es (secure t es)
unfolding secure
secure_kept t [] = ends
secure_kept {h} t (e ∷ es) =
    if_ind (Each (Kept h) (e ∷ es)) (has_tag t e) (λ _. next (made_secure refl) (each_same (λ a. stays refl) es)) (λ _. next (stays refl) (secure_kept t es))

put_kept : {h : Tag} (x : Entry) (es : List Entry) → Each (Kept h) es (put_first is_free x es)
put_kept x es = each_put_first is_free x (λ a. stays refl) (λ a f. was_free f) es

pub tidied_grows : (es : List Entry) → Grows es (tidied es)
unfolding tidied
tidied_grows es =
    rw (tidied_highest es)
    (each_map (free_below (highest es))
    (λ a. if_ind (Kept (highest es) a) (lower a.tag (highest es)) (λ l. dropped (lower→≺ a.tag (highest es) l)) (λ _. stays refl)) es)

-- the ways through a message
pub data After (es : List Entry) (x : Message) : List Entry → Type 0 where
  holds : T (eqb x.kind 10) → T (there x.tag es) → After es x es
  writes : T (eqb x.kind 10) → T (not (there x.tag es)) → After es x (put_first is_free (entry 1 x.tag x.page) es)
  secures : T (eqb x.kind 11) → After es x (secure x.tag es)
  confirms : T (eqb x.kind 15) → T (there x.tag es) → After es x (secure x.tag es)
  hears : T (eqb x.kind 15) → T (not (there x.tag es)) → After es x (put_first is_free (entry 2 x.tag x.page) es)
  other : T (not (eqb x.kind 10)) → T (not (eqb x.kind 15)) → After es x es

pub after : (es : List Entry) (x : Message) → After es x (replica_after es x)
unfolding replica_after write hear_gossip
after es x =
    if_ind (After es x) (eqb x.kind 10)
    (λ k. if_ind (After es x) (there x.tag es) (λ h. holds k h) (λ n. writes k n))
    (λ a.
    if_ind (After es x) (eqb x.kind 11) (λ k. secures k)
    (λ _.
    if_ind (After es x) (eqb x.kind 15)
    (λ k. if_ind (After es x) (there x.tag es) (λ h. confirms k h) (λ n. hears k n))
    (λ b. other a b)))

-- whatever tag h is: a message drops nothing
pub after_kept : {h : Tag} {es : List Entry} {x : Message} {r : List Entry} → After es x r → Each (Kept h) es r
after_kept {es = es} (holds _ _) = each_same (λ a. stays refl) es
after_kept {es = es} {x = x} (writes _ _) = put_kept (entry 1 x.tag x.page) es
after_kept {es = es} {x = x} (secures _) = secure_kept x.tag es
after_kept {es = es} {x = x} (confirms _ _) = secure_kept x.tag es
after_kept {es = es} {x = x} (hears _ _) = put_kept (entry 2 x.tag x.page) es
after_kept {es = es} (other _ _) = each_same (λ a. stays refl) es

pub after_grows : (es : List Entry) (x : Message) → Grows es (replica_after es x)
after_grows es x = after_kept (after es x)

pub highest_after : (es : List Entry) (x : Message) → highest es ≼ highest (replica_after es x)
highest_after es x = highest_grows (after_grows es x)
