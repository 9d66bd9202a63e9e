-- What a client's row keeps while a reply is counted in, and how its tag rises.
use mathlib.Core.Path.{◌≡◌, refl}
use mathlib.Core.Logic.{◌⊎◌, ⊎_elim}
use Prim.Native.Nat.{ℕ}
use lib.Dec.{eqb, T_not}
use Rattle.sets.specs.declared.Tag.{Tag}
use Rattle.std.specs.declared.cmp.Ordering.{Ordering}
use Rattle.std.specs.declared.cmp.Ordering.TheVariants.{Less, Equal, Greater}
use Rattle.sets.specs.Tags.{against}
use Rattle.sets.specs.Sets.{with}
use Rattle.sets.proofs.Tests.{if_ind}
use Rattle.sets.proofs.TagOrder.{◌≼◌, ≼_refl, ≺→≼, view, is_below, is_same, is_above}
use Rattle.tables.specs.declared.Client.{Client}
use Rattle.tables.specs.declared.Message.{Message}
use Rattle.rules.specs.Client.{hearing, gathered, raised, heard}

pub record Kept (w y : Client) : Type 0 where
  pub down : y.down ≡ w.down
  pub phase : y.phase ≡ w.phase
  pub number : y.number ≡ w.number
  pub spare : y.spare ≡ w.spare
  pub page : y.page ≡ w.page

module _ (w : Client) (x : Message) where
  -- what holds whichever set and tag the row then has
  pub heard_ind : (P : Client → Type 0) → ((s : ℕ) (t : Tag) → P (hearing w (with w.answered x.sender) s t)) → P (heard w x)
  unfolding heard
  heard_ind P f =
      if_ind P (eqb w.phase 1) (λ _. gathers (against x.tag w.tag))
      (λ _. if_ind P (eqb w.phase 4) (λ _. raises (against x.tag w.tag)) (λ _. f _ _))
    where
      gathers : (o : Ordering) → P (gathered w (with w.answered x.sender) x.tag x.set o)
      gathers Greater = f _ _
      gathers Equal = f _ _
      gathers Less = f _ _

      raises : (o : Ordering) → P (raised w (with w.answered x.sender) x.tag o)
      raises Greater = f _ _
      raises Equal = f _ _
      raises Less = f _ _

  pub heard_keeps : Kept w (heard w x)
  heard_keeps = heard_ind (Kept w) (λ s t. record { down = refl; phase = refl; number = refl; spare = refl; page = refl })

  pub heard_answered : (heard w x).answered ≡ with w.answered x.sender
  heard_answered = heard_ind (λ (y : Client). y.answered ≡ with w.answered x.sender) (λ s t. refl)

  -- the tag is at least the row's and the reply's
  pub record Over (y : Client) : Type 0 where
    pub own : w.tag ≼ y.tag
    pub told : x.tag ≼ y.tag

  over : (y : Ordering → Client) → (y Less).tag ≡ w.tag → (y Equal).tag ≡ w.tag → (y Greater).tag ≡ x.tag → Over (y (against x.tag w.tag))
  over y l s g =
      elim (view x.tag w.tag) [
        | is_below e h ↦ rw e (record { own = rw l (≼_refl _); told = rw l (≺→≼ h) })
        | is_same e h ↦ rw e (record { own = rw s (≼_refl _); told = rw (s, h) (≼_refl _) })
        | is_above e h ↦ rw e (record { own = rw g (≺→≼ h); told = rw g (≼_refl _) })
      ]

  -- in phases 1 and 4 the greater tag stays
  pub heard_over : (w.phase ≡ 1) ⊎ (w.phase ≡ 4) → Over (heard w x)
  unfolding heard
  heard_over h =
      let a : ℕ = with w.answered x.sender in
      if_ind Over (eqb w.phase 1) (λ _. over (gathered w a x.tag x.set) refl refl refl)
      (λ n. if_ind Over (eqb w.phase 4) (λ _. over (raised w a x.tag) refl refl refl)
      (λ m. absurd (⊎_elim (λ (e : w.phase ≡ 1). T_not (eqb w.phase 1) n (rw e tt)) (λ (e : w.phase ≡ 4). T_not (eqb w.phase 4) m (rw e tt)) h)))
