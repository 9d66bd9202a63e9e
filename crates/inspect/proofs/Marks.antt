-- The marks of the tags passed: an entry with a tag leaves the tag's mark.
use Rattle.std.specs.Prelude.{if◌then◌else◌}
use mathlib.Core.Bool.{Bool, true, false, ◌||◌, false≢true}
use mathlib.Core.List.{List, [], ◌∷◌, ◌++◌}
use mathlib.Core.Path.{◌≡◌, refl}
use Prim.Native.Nat.{ℕ}
use native.Mathlib.Omega.{arith}
use borrow.Author.Tests.{eqb-true}
use lib.Dec.{eqb}
use Rattle.sets.specs.Sets.{with}
use Rattle.sets.specs.Inner.{◌∈◌}
use Rattle.sets.specs.Tags.{same}
use Rattle.sets.specs.declared.Tag.{Tag}
use Rattle.sets.proofs.Laws.{in_with_old, in_with_new}
use Rattle.tables.specs.declared.Entry.{Entry}
use Rattle.tables.specs.Rows.{some?}
use Rattle.tables.specs.Tables.{is_free, has_tag}
use Rattle.inspect.specs.Inner.{mark_of, marked_by, Marked}
use Rattle.inspect.proofs.Tests.{and_l, and_r}
use Rattle.inspect.proofs.Once.{some_snoc}

one_mark : (t u : Tag) → same t u ≡ true → mark_of t ≡ mark_of u
one_mark t u e =
    rw (
      eqb-true t.number u.number (and_l (eqb t.number u.number) (eqb t.client u.client) e),
      eqb-true t.client u.client (and_r (eqb t.number u.number) (eqb t.client u.client) e),
    )

pub marks_none : Marked [] 0
marks_none = record { left = λ t e. absurd (false≢true e) }

pub marks_more : (es : List Entry) (e : Entry) (marks : ℕ) → Marked es marks → Marked (es ++ e ∷ []) (marked_by e marks)
unfolding marked_by
marks_more es x marks m = record { left = λ t h. go t (is_free x) refl (some? (has_tag t) es) refl (rw (some_snoc (has_tag t) es x) at h) }
  where
    go : (t : Tag) (free : Bool) → is_free x ≡ free → (b : Bool) → some? (has_tag t) es ≡ b → b || has_tag t x ≡ true
        → mark_of t ∈ (if free then marks else with marks (mark_of x.tag))
    go t true f true e h = m.left t e
    go t true f false e h = absurd (false≢true (rw f at h))
    go t false f true e h = in_with_old marks (mark_of x.tag) (mark_of t) (m.left t e)
    go t false f false e h = rw (← one_mark x.tag t (rw f at h)) (in_with_new marks (mark_of x.tag) (omega arith))
