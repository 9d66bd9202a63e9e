-- What a message does to a directory's row, by cases, and what follows for its tag.
use mathlib.Core.Path.{◌≡◌, refl}
use mathlib.Core.Bool.{not}
use mathlib.Core.List.{[], ◌∷◌}
use Prim.Native.Nat.{ℕ, ◌+◌, ◌≤◌, ◌<◌}
use native.Mathlib.Omega.{arith}
use lib.Dec.{T, eqb, leb, leb→le, nleb→lt, T_not}
use Rattle.sets.specs.Plain.{one_of}
use Rattle.std.specs.declared.cmp.Ordering.TheVariants.{Greater}
use Rattle.sets.specs.Tags.{against}
use Rattle.sets.specs.Sets.{size, join, with}
use Rattle.sets.proofs.Tests.{if_ind}
use Rattle.sets.proofs.TagOrder.{◌≼◌, ◌≺◌, ≼_refl, ≺→≼, ≺_irrefl, view, is_below, is_same, is_above, Greater→≻}
use Rattle.tables.specs.declared.Directory.{Directory}
use Rattle.tables.specs.declared.Message.{Message}
use Rattle.rules.specs.Directory.{holding, told, noticed, directory_after}

-- rwrite and wwrite
abbrev pub Tells : Message → Type 0
Tells x = T (one_of x.kind (2 ∷ 4 ∷ []))

pub data DirectoryView (f : ℕ) (d : Directory) (x : Message) : Directory → Type 0 where
  joins : Tells x → x.tag ≡ d.tag → DirectoryView f d x (holding d d.tag (join d.set x.set))
  takes : Tells x → d.tag ≺ x.tag → f + 1 ≤ size x.set → DirectoryView f d x (holding d x.tag x.set)
  adds : T (eqb x.kind 14) → x.tag ≡ d.tag → DirectoryView f d x (holding d d.tag (with d.set x.sender))
  stays : (Tells x → f + 1 ≤ size x.set → x.tag ≺ d.tag) → DirectoryView f d x d

module _ (f : ℕ) (d : Directory) (x : Message) where
  told_view : Tells x → DirectoryView f d x (told f d x.tag x.set (against x.tag d.tag))
  told_view t =
      elim (view x.tag d.tag) [
        | is_below e h ↦ rw e (stays (λ _ _. h))
        | is_same e h ↦ rw e (joins t h)
        | is_above e h ↦ rw e
            (if_ind (DirectoryView f d x) (leb (f + 1) (size x.set)) (λ l. takes t h (leb→le (f + 1) (size x.set) l))
            (λ l. stays (λ _ m. absurd (omega (arith, nleb→lt (f + 1) (size x.set) l)))))
      ]

  untold : T (not (one_of x.kind (2 ∷ 4 ∷ []))) → DirectoryView f d x d
  untold n = stays (λ k _. absurd (T_not (one_of x.kind (2 ∷ 4 ∷ [])) n k))

  noticed_view : T (not (one_of x.kind (2 ∷ 4 ∷ []))) → T (eqb x.kind 14)
      → DirectoryView f d x (noticed d x.sender (against x.tag d.tag))
  noticed_view n t =
      elim (view x.tag d.tag) [
        | is_below e h ↦ rw e (untold n)
        | is_same e h ↦ rw e (adds t h)
        | is_above e h ↦ rw e (untold n)
      ]

  pub directory_view : DirectoryView f d x (directory_after f d x)
  unfolding directory_after
  directory_view =
      if_ind (DirectoryView f d x) (one_of x.kind (2 ∷ 4 ∷ [])) told_view
      (λ n. if_ind (DirectoryView f d x) (eqb x.kind 14) (noticed_view n) (λ _. untold n))

  -- a directory's tag never falls
  pub tag_rises : d.tag ≼ (directory_after f d x).tag
  tag_rises = go directory_view
    where
      go : {y : Directory} → DirectoryView f d x y → d.tag ≼ y.tag
      go (joins _ _) = ≼_refl _
      go (takes _ h _) = ≺→≼ h
      go (adds _ _) = ≼_refl _
      go (stays _) = ≼_refl _

  -- a tag told with a set of f + 1 is reached
  pub tag_reached : Tells x → f + 1 ≤ size x.set → x.tag ≼ (directory_after f d x).tag
  tag_reached t l = go directory_view
    where
      go : {y : Directory} → DirectoryView f d x y → x.tag ≼ y.tag
      go (joins _ e) = rw e (≼_refl _)
      go (takes _ _ _) = ≼_refl _
      go (adds _ e) = rw e (≼_refl _)
      go (stays h) = ≺→≼ (h t l)

  -- a greater tag with a set of too few is not taken
  pub too_few : size x.set < f + 1 → against x.tag d.tag ≡ Greater → directory_after f d x ≡ d
  too_few l g = go directory_view
    where
      above : x.tag ≡ d.tag → ⊥
      above e = ≺_irrefl (rw e at (Greater→≻ x.tag d.tag g))

      go : {y : Directory} → DirectoryView f d x y → y ≡ d
      go (joins _ e) = absurd (above e)
      go (takes _ _ m) = absurd (omega arith)
      go (adds _ e) = absurd (above e)
      go (stays _) = refl
