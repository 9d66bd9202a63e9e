-- The order of tags as two facts about numbers, and what `against`, `lower` and `same` say of it.
use mathlib.Core.Path.{◌≡◌, refl, sym, ap₂}
use mathlib.Core.Bool.{not}
use mathlib.Core.Logic.{◌⊎◌, inl, inr}
use Prim.Native.Nat.{ℕ, ◌≤◌, ◌<◌}
use native.Mathlib.Omega.{arith}
use native.Mathlib.Decide.{dec_lt}
use borrow.Author.Tests.{lt-ltb, le-ltb}
use lib.Dec.{T, eqb, eqb→eq, eqb_refl}
use Rattle.sets.specs.declared.Tag.{Tag}
use Rattle.std.specs.declared.cmp.Ordering.TheVariants.{Less, Equal, Greater}
use Rattle.sets.specs.Tags.{tag, first, against, lower, same}
use Rattle.sets.proofs.Tests.{T-ext, and_elim, and_intro}

infix 20 ◌≼◌
infix 20 ◌≺◌
pub record ◌≼◌ (a b : Tag) : Type 0 where
  pub number : a.number ≤ b.number
  pub client : a.number ≡ b.number → a.client ≤ b.client

pub record ◌≺◌ (a b : Tag) : Type 0 where
  pub number : a.number ≤ b.number
  pub client : a.number ≡ b.number → a.client < b.client

pub ≼_refl : (a : Tag) → a ≼ a
≼_refl a = omega arith

pub ≼_trans : {a b c : Tag} → a ≼ b → b ≼ c → a ≼ c
≼_trans p q = record { number = omega arith; client = λ e. omega (arith, p.client (omega arith), q.client (omega arith)) }

pub ≺→≼ : {a b : Tag} → a ≺ b → a ≼ b
≺→≼ p = record { number = p.number; client = λ e. omega (arith, p.client e) }

pub ≺-≼ : {a b c : Tag} → a ≺ b → b ≼ c → a ≺ c
≺-≼ p q = record { number = omega arith; client = λ e. omega (arith, p.client (omega arith), q.client (omega arith)) }

pub ≼-≺ : {a b c : Tag} → a ≼ b → b ≺ c → a ≺ c
≼-≺ p q = record { number = omega arith; client = λ e. omega (arith, p.client (omega arith), q.client (omega arith)) }

pub ≺_irrefl : {a : Tag} → a ≺ a → ⊥
≺_irrefl p = omega (arith, p.client refl)

pub ≼_antisym : {a b : Tag} → a ≼ b → b ≼ a → a ≡ b
≼_antisym p q = ap₂ tag (omega arith) (omega (arith, p.client (omega arith), q.client (omega arith)))

pub first_least : (a : Tag) → first ≼ a
first_least a = record { number = omega arith; client = λ e. omega arith }

-- the five ways through the comparison
module _ (a b : Tag) where
  pub by_number : a.number < b.number → Less ≡ against a b
  unfolding against
  by_number h = simp (lt-ltb _ _ h)

  module _ (h : b.number ≤ a.number) where
    pub over_number : b.number < a.number → Greater ≡ against a b
    unfolding against
    over_number k = simp (le-ltb _ _ h, lt-ltb _ _ k)

    module _ (k : a.number ≤ b.number) where
      pub by_client : a.client < b.client → Less ≡ against a b
      unfolding against
      by_client l = simp (le-ltb _ _ h, le-ltb _ _ k, lt-ltb _ _ l)

      module _ (l : b.client ≤ a.client) where
        pub over_client : b.client < a.client → Greater ≡ against a b
        unfolding against
        over_client m = simp (le-ltb _ _ h, le-ltb _ _ k, le-ltb _ _ l, lt-ltb _ _ m)

        pub no_less : a.client ≤ b.client → Equal ≡ against a b
        unfolding against
        no_less m = simp (le-ltb _ _ h, le-ltb _ _ k, le-ltb _ _ l, le-ltb _ _ m)

-- how a stands against b, in the code's word and in the order
pub data View (a b : Tag) : Type 0 where
  is_below : against a b ≡ Less → a ≺ b → View a b
  is_same : against a b ≡ Equal → a ≡ b → View a b
  is_above : against a b ≡ Greater → b ≺ a → View a b

pub view : (a b : Tag) → View a b
view a b = go (dec_lt a.number b.number) (dec_lt b.number a.number) (dec_lt a.client b.client) (dec_lt b.client a.client)
  where
    go : Dec (a.number < b.number) → Dec (b.number < a.number) → Dec (a.client < b.client) → Dec (b.client < a.client) → View a b
    go (yes h) _ _ _ = is_below (sym (by_number a b h)) (record { number = omega arith; client = λ e. omega arith })
    go (no h) (yes k) _ _ = is_above (sym (over_number a b (omega arith) k)) (record { number = omega arith; client = λ e. omega arith })
    go (no h) (no k) (yes l) _ =
        is_below (sym (by_client a b (omega arith) (omega arith) l)) (record { number = omega arith; client = λ e. l })
    go (no h) (no k) (no l) (yes m) =
        is_above (sym (over_client a b (omega arith) (omega arith) (omega arith) m)) (record { number = omega arith; client = λ e. m })
    go (no h) (no k) (no l) (no m) =
        is_same (sym (no_less a b (omega arith) (omega arith) (omega arith) (omega arith))) (ap₂ tag (omega arith) (omega arith))

clash : ◌≡◌ {A = ℕ} 0 1 → ⊥
clash e = omega arith

-- what the code's word says of the order, and back
module _ (a b : Tag) where
  pub Less→≺ : against a b ≡ Less → a ≺ b
  Less→≺ e = elim (view a b) [ is_below _ h ↦ h | is_same f _ ↦ absurd (clash (cc)) | is_above f _ ↦ absurd (clash (cc)) ]

  pub Equal→≡ : against a b ≡ Equal → a ≡ b
  Equal→≡ e = elim (view a b) [ is_below f _ ↦ absurd (clash (cc)) | is_same _ h ↦ h | is_above f _ ↦ absurd (clash (cc)) ]

  pub Greater→≻ : against a b ≡ Greater → b ≺ a
  Greater→≻ e = elim (view a b) [ is_below f _ ↦ absurd (clash (cc)) | is_same f _ ↦ absurd (clash (cc)) | is_above _ h ↦ h ]

  pub ≺→Less : a ≺ b → against a b ≡ Less
  ≺→Less p =
      elim (view a b) [ is_below e _ ↦ e | is_same _ e ↦ absurd (≺_irrefl (rw e at p)) | is_above _ h ↦ absurd (≺_irrefl (≺-≼ p (≺→≼ h))) ]

  pub ≻→Greater : b ≺ a → against a b ≡ Greater
  ≻→Greater p =
      elim (view a b) [ is_below _ h ↦ absurd (≺_irrefl (≺-≼ p (≺→≼ h))) | is_same _ e ↦ absurd (≺_irrefl (rw e at p)) | is_above e _ ↦ e ]

  pub ≼_total : (a ≼ b) ⊎ (b ≼ a)
  ≼_total = elim (view a b) [ is_below _ h ↦ inl (≺→≼ h) | is_same _ e ↦ inl (rw e (≼_refl b)) | is_above _ h ↦ inr (≺→≼ h) ]

  pub lower→≺ : T (lower a b) → a ≺ b
  lower→≺ h = elim (view a b) [ is_below _ p ↦ p | is_same e _ ↦ absurd (rw e at h) | is_above e _ ↦ absurd (rw e at h) ]

  pub ≺→lower : a ≺ b → T (lower a b)
  ≺→lower p = rw (≺→Less p) tt

  pub not_lower→≼ : T (not (lower a b)) → b ≼ a
  not_lower→≼ h = elim (view a b) [ is_below e _ ↦ absurd (rw e at h) | is_same _ e ↦ rw e (≼_refl b) | is_above _ p ↦ ≺→≼ p ]

  pub same→≡ : T (same a b) → a ≡ b
  same→≡ h =
      let q = and_elim (eqb a.number b.number) (eqb a.client b.client) h in
      ap₂ tag (eqb→eq a.number b.number q.0) (eqb→eq a.client b.client q.1)

  pub ≡→same : a ≡ b → T (same a b)
  ≡→same e = rw e (and_intro (eqb b.number b.number) (eqb b.client b.client) (eqb_refl b.number) (eqb_refl b.client))

pub against_self : (a : Tag) → against a a ≡ Equal
against_self a = elim (view a a) [ is_below _ h ↦ absurd (≺_irrefl h) | is_same e _ ↦ e | is_above _ h ↦ absurd (≺_irrefl h) ]

-- `same` is the comparison's test of Equal
pub same→Equal : (a b : Tag) → T (same a b) → against a b ≡ Equal
same→Equal a b h = rw (same→≡ a b h) (against_self b)

pub Equal→same : (a b : Tag) → against a b ≡ Equal → T (same a b)
Equal→same a b e = ≡→same a b (Equal→≡ a b e)

pub same_comm : (a b : Tag) → same a b ≡ same b a
same_comm a b = T-ext (same a b) (same b a) (λ h. ≡→same b a (sym (same→≡ a b h))) (λ h. ≡→same a b (sym (same→≡ b a h)))
