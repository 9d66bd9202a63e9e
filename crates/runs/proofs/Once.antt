-- No tag stands in two entries, whatever message comes and after a tidy.
use mathlib.Core.Bool.{Bool, true, false, not, ◌||◌}
use mathlib.Core.List.{List, [], ◌∷◌, map}
use mathlib.Core.Logic.{⊎_elim}
use mathlib.Core.Path.{◌≡◌, refl, sym, ◌∙◌}
use lib.Dec.{T, T_not, not_T}
use Rattle.sets.specs.declared.Tag.{Tag}
use Rattle.sets.specs.Tags.{lower}
use Rattle.sets.proofs.Tests.{T_true, true-T, and_elim, and_intro, or_elim, if_ind}
use Rattle.tables.specs.declared.Entry.{Entry}
use Rattle.tables.specs.declared.Message.{Message}
use Rattle.tables.specs.Rows.{put_first}
use Rattle.tables.specs.Tables.{no_entry, is_free, has_tag}
use Rattle.tables.proofs.All.{All, none, cons}
use Rattle.tables.proofs.Lists.{none_passes, all_put_first, Each, ends, next, each_same, each_some}
use Rattle.inspect.specs.Good.{tags_once}
use Rattle.rules.specs.Replica.{entry, there, highest, secure, free_below, tidied, replica_after}
use Rattle.rules.proofs.Changes.{has_its_tag, tag_has, After, holds, writes, secures, confirms, hears, other, after}

data Once : List Entry → Type 0 where
  empty : Once []
  more : {e : Entry} {es : List Entry} → (T (not (is_free e)) → T (not (there e.tag es))) → Once es → Once (e ∷ es)

once_in : (es : List Entry) → T (tags_once es) → Once es
unfolding tags_once
once_in [] h = empty
once_in (e ∷ es) h =
    let a = and_elim (is_free e || not (there e.tag es)) (tags_once es) h in
    more (λ u. ⊎_elim (λ f. absurd (T_not (is_free e) u f)) (λ n. n) (or_elim (is_free e) (not (there e.tag es)) a.0)) (once_in es a.1)

once_out : {es : List Entry} → Once es → T (tags_once es)
unfolding tags_once
once_out empty = tt
once_out (more {e} {es} f o) =
    and_intro (is_free e || not (there e.tag es)) (tags_once es) (go (is_free e) (λ u. f u)) (once_out o)
  where
    go : (b : Bool) → (T (not b) → T (not (there e.tag es))) → T (b || not (there e.tag es))
    go true g = tt
    go false g = g tt

-- ---- an entry afterwards is free, or was there with its tag

record Was (e' e : Entry) : Type 0 where
  used : T (not (is_free e')) → T (not (is_free e))
  tag : T (not (is_free e')) → e'.tag ≡ e.tag

was_same : (e : Entry) → Was e e
was_same e = record { used = λ u. u; tag = λ _. refl }

was_tag : (t : Tag) (e' e : Entry) → Was e' e → T (has_tag t e') → T (has_tag t e)
was_tag t e' e w h =
    let a = tag_has t e' h in
    has_its_tag t e (w.used a.0) (sym (w.tag a.0) ∙ a.1)

once_was : {es' es : List Entry} → Each Was es' es → Once es → Once es'
once_was ends o = empty
once_was (next {x = e'} {y = e} {xs = es'} {ys = es} w ws) (more f o) = more (λ u. no_more u (f (w.used u))) (once_was ws o)
  where
    no_more : T (not (is_free e')) → T (not (there e.tag es)) → T (not (there e'.tag es'))
    no_more u n =
        not_T (there e'.tag es')
        (λ h. T_not (there e.tag es) n (rw (sym (w.tag u)) (each_some (has_tag e'.tag) (was_tag e'.tag) ws h)))

secure_was : (t : Tag) (es : List Entry) → Each Was (secure t es) es
unfolding secure
secure_was t [] = ends
secure_was t (e ∷ es) =
    if_ind (λ (l : List Entry). Each Was l (e ∷ es)) (has_tag t e)
    (λ h. next (record { used = λ _. (tag_has t e h).0; tag = λ _. refl }) (each_same was_same es)) (λ _. next (was_same e) (secure_was t es))

freed_was : (t : Tag) (es : List Entry) → Each Was (map (free_below t) es) es
unfolding no_entry
freed_was t [] = ends
freed_was t (e ∷ es) =
    next (if_ind (λ (e' : Entry). Was e' e) (lower e.tag t) (λ _. record { used = λ u. absurd u; tag = λ u. absurd u }) (λ _. was_same e)) (freed_was t es)

-- ---- a new tag is put into the lowest free entry

-- the entries without the tag
abbrev Without : Tag → List Entry → Type 0
Without t es = All (λ a. T (not (has_tag t a))) es

none_there : (t : Tag) {es : List Entry} → Without t es → T (not (there t es))
none_there t none = tt
none_there t (cons {x = e} {xs = es} n ns) = if_ind (λ (b : Bool). T (not b)) (has_tag t e) (λ h. T_not (has_tag t e) n h) (λ _. none_there t ns)

once_put : (x : Entry) {es : List Entry} → Without x.tag es → Once es → Once (put_first is_free x es)
once_put x none o = empty
once_put x (cons {x = e} {xs = es} n ns) (more f o) =
    if_ind Once (is_free e) (λ _. more (λ _. none_there x.tag ns) o)
    (λ u. more (λ _. none_there e.tag (all_put_first is_free x (not_T (has_tag e.tag x) (apart u)) (none_passes (has_tag e.tag) es (f u)))) (once_put x ns o))
  where
    apart : T (not (is_free e)) → T (has_tag e.tag x) → ⊥
    apart u h = T_not (has_tag x.tag e) n (has_its_tag x.tag e u (sym (tag_has e.tag x h).1))

-- ---- a message, and tidy

pub once_after : (es : List Entry) (x : Message) → tags_once es ≡ true → tags_once (replica_after es x) ≡ true
once_after es x h = T_true (tags_once (replica_after es x)) (once_out (go (after es x)))
  where
    o : Once es
    o = once_in es (true-T (tags_once es) h)

    go : {r : List Entry} → After es x r → Once r
    go (holds _ _) = o
    go (writes _ n) = once_put (entry 1 x.tag x.page) (none_passes (has_tag x.tag) es n) o
    go (secures _) = once_was (secure_was x.tag es) o
    go (confirms _ _) = once_was (secure_was x.tag es) o
    go (hears _ n) = once_put (entry 2 x.tag x.page) (none_passes (has_tag x.tag) es n) o
    go (other _ _) = o

pub once_tidied : (es : List Entry) → tags_once es ≡ true → tags_once (tidied es) ≡ true
unfolding tidied
once_tidied es h =
    T_true (tags_once (tidied es)) (once_out (once_was (freed_was (highest es) es) (once_in es (true-T (tags_once es) h))))
