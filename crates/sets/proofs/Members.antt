-- The members of a set in rising order: which they are, how many, and one by one as a loop meets them.
use Rattle.std.specs.Prelude.{if◌then◌else◌}
use mathlib.Core.Path.{◌≡◌, refl, sym, ap, ◌∙◌}
use mathlib.Core.Bool.{Bool, true, false}
use mathlib.Core.List.Memᴰ
use mathlib.Core.List.{List, [], ◌∷◌, Memᴰ}
use mathlib.Core.Logic.{◌⊎◌, inl, inr, ⊎_elim}
use Prim.Native.Nat.{ℕ, zero, suc, ◌+◌, ◌/◌, ◌%◌, ◌^◌, ◌≤◌, ◌<◌}
use native.Mathlib.Nat.{div-one, zero-add, add-suc, suc-add}
use native.Mathlib.Numerals.{add-one}
use native.Mathlib.Decide.{ℕ_discrete}
use native.Mathlib.Omega.{arith}
use borrow.Author.Tests.{eq-eqb, ne_eqb}
use lib.Arith.{lt-one}
use lib.Pow.{shr-shr}
use lib.ListN.{length}
use lib.Count.{ones_step}
use lib.Dec.{T, eqb}
use Rattle.sets.specs.Plain.{keep, numbers}
use Rattle.sets.specs.Sets.{has, size, only, all, members}
use Rattle.sets.specs.Inner.{◌∈◌}
use Rattle.sets.proofs.Digits.{half_lt, pow_half, pow_even, ones_half, ones_odd}
use Rattle.sets.proofs.Laws.{size_none}

-- the members of s among n parties from p on, by halving
unfoldable pub halves : ℕ → ℕ → ℕ → List ℕ
halves zero s p = []
halves (suc n) s p = let rest = halves n (s / 2) (suc p) in if eqb (s % 2) 1 then p ∷ rest else rest

pub halves_end : (s p : ℕ) → halves 0 s p ≡ []
unfolding halves
halves_end s p = refl

pub halves_in : (n rest p : ℕ) → rest % 2 ≡ 1 → halves (suc n) rest p ≡ p ∷ halves n (rest / 2) (suc p)
unfolding halves
halves_in n rest p e = rw (eq-eqb _ _ e)

pub halves_out : (n rest p : ℕ) → (rest % 2 ≡ 1 → ⊥) → halves (suc n) rest p ≡ halves n (rest / 2) (suc p)
unfolding halves
halves_out n rest p e = rw (ne_eqb _ _ e)

pub members_halves : (n s : ℕ) → members n s ≡ halves n s 1
unfolding halves
members_halves n s = from n 0 ∙ ap (λ (r : ℕ). halves n r 1) (div-one s)
  where
    next : (i : ℕ) → s / 2 ^ suc i ≡ s / 2 ^ i / 2
    next i = sym (shr-shr s i 1 ∙ rw (add-one i))

    from : (n i : ℕ) → keep (has s) (numbers (suc i) n) ≡ halves n (s / 2 ^ i) (suc i)
    from zero i = refl
    from (suc n) i = rw (from n (suc i), next i)

-- ---- the members of some sets

pub halves_none : (n p : ℕ) → halves n 0 p ≡ []
unfolding halves
halves_none zero p = refl
halves_none (suc n) p = halves_none n (suc p)

pub members_none : (n : ℕ) → members n 0 ≡ []
members_none n = members_halves n 0 ∙ halves_none n 1

pub members_all : (n : ℕ) → members n (all n) ≡ numbers 1 n
unfolding halves
members_all n = members_halves n (all n) ∙ go n 1
  where
    go : (n p : ℕ) → halves n (all n) p ≡ numbers p n
    go zero p = refl
    go (suc n) p = rw (ones_odd n, ones_half n, go n (suc p))

pub members_only : (n p : ℕ) → 1 ≤ p → p ≤ n → members n (only p) ≡ p ∷ []
unfolding halves
members_only n zero l h = absurd (omega arith)
members_only n (suc p) l h = members_halves n (2 ^ p) ∙ go n p 1 h ∙ rw (add-one p)
  where
    go : (n i p : ℕ) → i < n → halves n (2 ^ i) p ≡ (i + p) ∷ []
    go zero i p l = absurd (omega arith)
    go (suc n) zero p l = rw (halves_none n (suc p), zero-add p)
    go (suc n) (suc i) p l = rw (pow_even i, pow_half i) (go n i (suc p) (omega arith) ∙ rw (add-suc i p, suc-add i p))

-- more parties than the set's own add none
pub members_wide : (n k s : ℕ) → s < 2 ^ n → n ≤ k → members k s ≡ members n s
unfolding halves
members_wide n k s l h = members_halves k s ∙ go n k s 1 l h ∙ sym (members_halves n s)
  where
    go : (n k s p : ℕ) → s < 2 ^ n → n ≤ k → halves k s p ≡ halves n s p
    go zero k s p l h = rw (lt-one l) (halves_none k p)
    go (suc n) zero s p l h = absurd (omega arith)
    go (suc n) (suc k) s p l h = rw (go n k (s / 2) (suc p) (half_lt n s l) (omega arith))

pub length_members : (n s : ℕ) → s < 2 ^ n → length (members n s) ≡ size s
unfolding halves
length_members n s l = ap length (members_halves n s) ∙ go n s 1 l
  where
    turn : (n s p : ℕ) → Dec (s % 2 ≡ 1) → length (halves n (s / 2) (suc p)) ≡ size (s / 2) → length (halves (suc n) s p) ≡ size s
    turn n s p (yes e) h = ap length (halves_in n s p e) ∙ omega (arith, ones_step s)
    turn n s p (no e) h = ap length (halves_out n s p e) ∙ omega (arith, ones_step s)

    go : (n s p : ℕ) → s < 2 ^ n → length (halves n s p) ≡ size s
    go zero s p l = rw (lt-one l) (sym size_none)
    go (suc n) s p l = turn n s p (ℕ_discrete (s % 2) 1) (go n (s / 2) (suc p) (half_lt n s l))

-- ---- an element of the members is a member, and back

module _ {A : Type 0} (t : A → Bool) {x : A} where
  pub keep_in : (xs : List A) → Memᴰ x (keep t xs) → T (t x) × Memᴰ x xs
  keep_in [] m = absurd (Memᴰ.not-nil m)
  keep_in (y ∷ xs) m = go (t y) refl m (keep_in xs)
    where
      deeper : T (t x) × Memᴰ x xs → T (t x) × Memᴰ x (y ∷ xs)
      deeper r = (r.0, Memᴰ.tail r.1)

      go : (b : Bool) → t y ≡ b → Memᴰ x (if b then y ∷ keep t xs else keep t xs) → (Memᴰ x (keep t xs) → T (t x) × Memᴰ x xs)
          → T (t x) × Memᴰ x (y ∷ xs)
      go true e m ih = ⊎_elim (λ (q : x ≡ y). (rw (q, e) tt, Memᴰ.head q)) (λ k. deeper (ih k)) (Memᴰ.cases_cons m)
      go false e m ih = deeper (ih m)

  pub in_keep : (xs : List A) → T (t x) → Memᴰ x xs → Memᴰ x (keep t xs)
  in_keep [] h m = m
  in_keep (y ∷ xs) h m = go (t y) refl (Memᴰ.cases_cons m) (in_keep xs h)
    where
      go : (b : Bool) → t y ≡ b → (x ≡ y) ⊎ Memᴰ x xs → (Memᴰ x xs → Memᴰ x (keep t xs)) → Memᴰ x (if b then y ∷ keep t xs else keep t xs)
      go true e (inl q) ih = Memᴰ.head q
      go true e (inr k) ih = Memᴰ.tail (ih k)
      go false e (inl q) ih = absurd (rw (q, e) at h)
      go false e (inr k) ih = ih k

pub numbers_in : (k n p : ℕ) → Memᴰ p (numbers k n) → (k ≤ p) × (p < k + n)
numbers_in k zero p m = absurd (Memᴰ.not-nil m)
numbers_in k (suc n) p m = go (Memᴰ.cases_cons m) (numbers_in (suc k) n p)
  where
    go : (p ≡ k) ⊎ Memᴰ p (numbers (suc k) n) → (Memᴰ p (numbers (suc k) n) → (suc k ≤ p) × (p < suc k + n)) → (k ≤ p) × (p < k + suc n)
    go (inl e) ih = omega arith
    go (inr l) ih = omega (arith, ih l)

pub in_numbers : (k n p : ℕ) → k ≤ p → p < k + n → Memᴰ p (numbers k n)
in_numbers k zero p l h = absurd (omega arith)
in_numbers k (suc n) p l h = go (ℕ_discrete p k) (in_numbers (suc k) n p)
  where
    go : Dec (p ≡ k) → (suc k ≤ p → p < suc k + n → Memᴰ p (numbers (suc k) n)) → Memᴰ p (numbers k (suc n))
    go (yes e) ih = Memᴰ.head e
    go (no e) ih = Memᴰ.tail (ih (omega arith) (omega arith))

pub members_in : (n s p : ℕ) → Memᴰ p (members n s) → (1 ≤ p) × (p ≤ n) × (p ∈ s)
members_in n s p m =
    let r = keep_in (has s) (numbers 1 n) m in
    let k : (1 ≤ p) × (p < 1 + n) = numbers_in 1 n p r.1 in
    (k.0, omega arith, r.0)

pub in_members : (n s p : ℕ) → 1 ≤ p → p ≤ n → p ∈ s → Memᴰ p (members n s)
in_members n s p l h k = in_keep (has s) (numbers 1 n) k (in_numbers 1 n p l (omega arith))
