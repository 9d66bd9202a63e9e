-- Sets of parties: members, joins, sizes, and the quorum law, over the number n of parties.
use mathlib.Core.Path.{◌≡◌, refl, sym, ap, ◌∙◌}
use mathlib.Core.Bool.{◌||◌}
use mathlib.Core.Logic.{◌⊎◌, inl, inr, ⊎_elim}
use Prim.Native.Nat.{ℕ, zero, suc, ◌+◌, ◌-◌, ◌/◌, ◌%◌, ◌^◌, ◌≤◌, ◌<◌, max}
use native.Mathlib.Nat.{zero-max, max-eq_left, div-eq_of_lt, zero-div, div_self, pow-suc, lt_of_not-le, le_of_suc-le-suc}
use native.Mathlib.Decide.{ℕ_discrete, dec_le}
use native.Mathlib.Omega.{arith}
use lib.Arith.{bin_ind}
use lib.Pow.{pow-lt, pow_mono, pow_pos, ones_lt}
use lib.Bits.{bit_or, or_lt, or_zero_l, or_zero_r, or_self, or_comm}
use lib.Count.{ones, ones_step, ones-le, ones-ones}
use lib.Dec.{T, eqb, eqb→eq}
use Rattle.sets.specs.Sets.{has, size, join, only, with, all}
use Rattle.sets.specs.Inner.{◌∈◌}
use Rattle.sets.proofs.Tests.{or_elim, or_left, or_right}
use Rattle.sets.proofs.Digits.{digit_low, digit_half, half_lt, pow_half, ones_half, ones_odd, digit_pow, or_low, or_half, or_digit}

-- ---- members, digit by digit

is_one_lem : (x : ℕ) → x ≡ 1 → T (eqb x 1)
is_one_lem x e = rw e tt

pub odd_in : (s : ℕ) → s % 2 ≡ 1 → 1 ∈ s
odd_in s e = is_one_lem (s / 2 ^ 0 % 2) (digit_low s ∙ e)

pub in_odd : (s : ℕ) → 1 ∈ s → s % 2 ≡ 1
in_odd s h = sym (digit_low s) ∙ eqb→eq (s / 2 ^ 0 % 2) 1 h

pub half_in : (s p : ℕ) → p ∈ s / 2 → suc p ∈ s
half_in s zero h = absurd h
half_in s (suc p) h = rw (digit_half s p) h

pub in_half : (s p : ℕ) → 1 ≤ p → suc p ∈ s → p ∈ s / 2
in_half s zero l h = absurd (omega arith)
in_half s (suc p) l h = rw (digit_half s p) at h

-- a party's bit, in the words of the code
pub has_at : (s p : ℕ) → 1 ≤ p → eqb (s / 2 ^ (p - 1) % 2) 1 ≡ has s p
has_at s zero h = absurd (omega arith)
has_at s (suc p) h = let e : suc p - 1 ≡ p = omega arith in rw e

pub only_at : (p : ℕ) → 1 ≤ p → 2 ^ (p - 1) ≡ only p
only_at zero h = absurd (omega arith)
only_at (suc p) h = let e : suc p - 1 ≡ p = omega arith in rw e

pub none_in : (p : ℕ) → p ∈ 0 → ⊥
none_in zero h = h
none_in (suc p) h = omega (arith, eqb→eq (0 / 2 ^ p % 2) 1 h, zero-div (2 ^ p))

pub in_range : (n s p : ℕ) → s < 2 ^ n → p ∈ s → (1 ≤ p) × (p ≤ n)
in_range n s zero l h = absurd h
in_range n s (suc p) l h = (omega arith, go (dec_le n p))
  where
    go : Dec (n ≤ p) → suc p ≤ n
    go (yes k) = absurd (omega (arith, eqb→eq (s / 2 ^ p % 2) 1 h, div-eq_of_lt {n = s} {m = 2 ^ p} (omega (arith, pow_mono k))))
    go (no k) = omega arith

-- sets of n parties with the same members are equal
pub set_ext : (n a b : ℕ) → a < 2 ^ n → b < 2 ^ n → ((p : ℕ) → p ∈ a → p ∈ b) → ((p : ℕ) → p ∈ b → p ∈ a) → a ≡ b
set_ext zero a b ha hb f g = omega arith
set_ext (suc n) a b ha hb f g =
    go (set_ext n (a / 2) (b / 2) (half_lt n a ha) (half_lt n b hb) (below a b f) (below b a g)) (ℕ_discrete (a % 2) 1)
  where
    below : (a b : ℕ) → ((p : ℕ) → p ∈ a → p ∈ b) → (p : ℕ) → p ∈ a / 2 → p ∈ b / 2
    below a b f zero h = h
    below a b f (suc p) h = in_half b (suc p) (omega arith) (f (suc (suc p)) (half_in a (suc p) h))

    go : a / 2 ≡ b / 2 → Dec (a % 2 ≡ 1) → a ≡ b
    go e (yes o) = omega (arith, in_odd b (f 1 (odd_in a o)))
    go e (no o) = let k : b % 2 ≡ 1 → ⊥ = λ q. o (in_odd a (g 1 (odd_in b q))) in omega arith

-- ---- joins

max_one : (x y : ℕ) → x < 2 → y < 2 → eqb (max x y) 1 ≡ eqb x 1 || eqb y 1
max_one zero y hx hy = rw (zero-max y)
max_one (suc zero) y hx hy = rw (max-eq_left (le_of_suc-le-suc hy))
max_one (suc (suc x)) y hx hy = absurd (omega arith)

pub has_join : (a b p : ℕ) → has (join a b) p ≡ has a p || has b p
has_join a b zero = refl
has_join a b (suc p) = rw (or_digit a b p) (max_one (a / 2 ^ p % 2) (b / 2 ^ p % 2) (omega arith) (omega arith))

pub join_in : (a b p : ℕ) → p ∈ join a b → (p ∈ a) ⊎ (p ∈ b)
join_in a b p h = or_elim (has a p) (has b p) (rw (has_join a b p) at h)

pub in_join_left : (a b p : ℕ) → p ∈ a → p ∈ join a b
in_join_left a b p h = rw (has_join a b p) (or_left (has a p) (has b p) h)

pub in_join_right : (a b p : ℕ) → p ∈ b → p ∈ join a b
in_join_right a b p h = rw (has_join a b p) (or_right (has a p) (has b p) h)

pub join_lt : (n a b : ℕ) → a < 2 ^ n → b < 2 ^ n → join a b < 2 ^ n
join_lt = or_lt

pub join_none : (a : ℕ) → join a 0 ≡ a
join_none = or_zero_r

pub join_comm : (a b : ℕ) → join a b ≡ join b a
join_comm = or_comm

pub join_assoc : (a b c : ℕ) → join (join a b) c ≡ join a (join b c)
join_assoc a =
    bin_ind (λ (a : ℕ). (b c : ℕ) → join (join a b) c ≡ join a (join b c))
    (λ b c. rw (or_zero_l b, or_zero_l (join b c)))
    (λ a ih b c. let h : join (join a b) c / 2 ≡ join a (join b c) / 2 =
    rw (or_half (join a b) c, or_half a b, or_half a (join b c), or_half b c) (ih (b / 2) (c / 2)) in
    omega (arith, or_low (join a b) c, or_low a b, or_low a (join b c), or_low b c)) a

pub join_same : (a : ℕ) → join a a ≡ a
join_same = or_self

-- joining a part changes nothing
pub join_part : (n a b : ℕ) → a < 2 ^ n → b < 2 ^ n → ((p : ℕ) → p ∈ b → p ∈ a) → join a b ≡ a
join_part n a b ha hb f =
    set_ext n (join a b) a (or_lt n a b ha hb) ha (λ p h. ⊎_elim (λ l. l) (f p) (join_in a b p h)) (in_join_left a b)

-- ---- one party, one party more, all parties

pub only_in : (p q : ℕ) → p ∈ only q → p ≡ q
only_in zero q h = absurd h
only_in (suc p) zero h = absurd (none_in (suc p) h)
only_in (suc p) (suc q) h = ap suc (sym (digit_pow q p (eqb→eq (2 ^ q / 2 ^ p % 2) 1 h)))

pub in_only : (p : ℕ) → 1 ≤ p → p ∈ only p
in_only zero h = absurd (omega arith)
in_only (suc p) h = rw (div_self (pow_pos p)) tt

pub only_lt : (n p : ℕ) → p ≤ n → only p < 2 ^ n
only_lt n zero h = pow_pos n
only_lt n (suc p) h = pow-lt h

pub with_in : (s p q : ℕ) → q ∈ with s p → (q ∈ s) ⊎ (q ≡ p)
with_in s p q h = ⊎_elim (λ l. inl l) (λ l. inr (only_in q p l)) (join_in s (only p) q h)

pub in_with_old : (s p q : ℕ) → q ∈ s → q ∈ with s p
in_with_old s p = in_join_left s (only p)

pub in_with_new : (s p : ℕ) → 1 ≤ p → p ∈ with s p
in_with_new s p h = in_join_right s (only p) p (in_only p h)

pub with_lt : (n s p : ℕ) → s < 2 ^ n → p ≤ n → with s p < 2 ^ n
with_lt n s p l h = or_lt n s (only p) l (only_lt n p h)

pub all_lt : (n : ℕ) → all n < 2 ^ n
all_lt = ones_lt

pub all_in : (n p : ℕ) → p ∈ all n → (1 ≤ p) × (p ≤ n)
all_in n p h = in_range n (all n) p (all_lt n) h

pub in_all : (n p : ℕ) → 1 ≤ p → p ≤ n → p ∈ all n
in_all n zero l h = absurd (omega arith)
in_all zero (suc p) l h = absurd (omega arith)
in_all (suc n) (suc zero) l h = odd_in (all (suc n)) (ones_odd n)
in_all (suc n) (suc (suc p)) l h =
    half_in (all (suc n)) (suc p) (rw (ones_half n) (in_all n (suc p) (omega arith) (omega arith)))

-- ---- sizes

pub size_none : size 0 ≡ 0
unfolding ones
size_none = refl

pub size_all : (n : ℕ) → size (all n) ≡ n
size_all = ones-ones

-- a join is as large as each part, and no larger than both
sizes : (a b : ℕ) → (size a ≤ size (join a b)) × (size b ≤ size (join a b)) × (size (join a b) ≤ size a + size b)
sizes a =
    bin_ind (λ (a : ℕ). (b : ℕ) → (size a ≤ size (join a b)) × (size b ≤ size (join a b)) × (size (join a b) ≤ size a + size b))
    (λ b. rw (or_zero_l b) (omega (arith, size_none)))
    (λ a ih b. omega (arith, ones_step a, ones_step b, ones_step (join a b), or_low a b, ap ones (or_half a b), ih (b / 2))) a

pub size_join_left : (a b : ℕ) → size a ≤ size (join a b)
size_join_left a b = (sizes a b).0

pub size_join_right : (a b : ℕ) → size b ≤ size (join a b)
size_join_right a b = (sizes a b).1

pub size_join : (a b : ℕ) → size (join a b) ≤ size a + size b
size_join a b = (sizes a b).2

-- a party more counts once
size_digit : (s i : ℕ) → size (join s (2 ^ i)) + s / 2 ^ i % 2 ≡ size s + 1
size_digit s zero = omega (arith, digit_low s, ones_step s, ones_step (join s 1), or_low s 1, ap ones (or_half s 1 ∙ or_zero_r (s / 2)))
size_digit s (suc i) =
    omega (
      arith,
      digit_half s i,
      ones_step s,
      ones_step (join s (2 ^ suc i)),
      or_low s (2 ^ suc i),
      pow-suc 2 i,
      ap ones (or_half s (2 ^ suc i) ∙ ap (bit_or (s / 2)) (pow_half i)),
      size_digit (s / 2) i,
    )

pub size_new : (s p : ℕ) → 1 ≤ p → (p ∈ s → ⊥) → size (with s p) ≡ size s + 1
size_new s zero l h = absurd (omega arith)
size_new s (suc p) l h =
    let k : s / 2 ^ p % 2 ≡ 1 → ⊥ = λ e. h (is_one_lem (s / 2 ^ p % 2) e) in
    omega (arith, size_digit s p)

pub size_old : (s p : ℕ) → p ∈ s → size (with s p) ≡ size s
size_old s zero h = absurd h
size_old s (suc p) h = omega (arith, size_digit s p, eqb→eq (s / 2 ^ p % 2) 1 h)

pub size_only : (p : ℕ) → 1 ≤ p → size (only p) ≡ 1
size_only p h = omega (arith, ap ones (or_zero_l (only p)), size_new 0 p h (none_in p), size_none)

-- a set with more members than another has one that the other has not
pub more : (n a b : ℕ) → a < 2 ^ n → size b < size a → (p : ℕ) × (1 ≤ p) × (p ≤ n) × (p ∈ a) × (p ∈ b → ⊥)
more zero a b ha h = absurd (omega (arith, ones-le 0 a ha))
more (suc n) a b ha h = go (dec_le (a % 2) (b % 2)) (more n (a / 2) (b / 2) (half_lt n a ha))
  where
    go : Dec (a % 2 ≤ b % 2) → (size (b / 2) < size (a / 2) → (p : ℕ) × (1 ≤ p) × (p ≤ n) × (p ∈ a / 2) × (p ∈ b / 2 → ⊥))
        → (p : ℕ) × (1 ≤ p) × (p ≤ suc n) × (p ∈ a) × (p ∈ b → ⊥)
    go (no l) f = (1, omega arith, omega arith, odd_in a (omega arith), λ k. omega (arith, in_odd b k))
    go (yes l) f = let r = f (omega (arith, ones_step a, ones_step b)) in
        (suc r.0, omega arith, omega (arith, r.2), half_in a r.0 r.3, λ k. r.4 (in_half b r.0 r.1 k))

pub within : (n a b : ℕ) → a < 2 ^ n → ((p : ℕ) → p ∈ a → p ∈ b) → size a ≤ size b
within n a b ha f = le_of_suc-le-suc (lt_of_not-le (λ h. let r = more n a b ha h in r.4 (f r.0 r.3)))

pub some_member : (n s : ℕ) → s < 2 ^ n → 0 < size s → (p : ℕ) × (1 ≤ p) × (p ≤ n) × (p ∈ s)
some_member n s l h = let r = more n s 0 l (omega (arith, size_none)) in (r.0, r.1, r.2, r.3)

-- of more than f parties one is up where at most f are down
pub some_up : (n f s down : ℕ) → s < 2 ^ n → f < size s → size down ≤ f → (p : ℕ) × (1 ≤ p) × (p ≤ n) × (p ∈ s) × (p ∈ down → ⊥)
some_up n f s down l h k = more n s down l (omega arith)

-- THE QUORUM LAW: two sets of n parties with more than n members between them share one
pub meet : (n a b : ℕ) → a < 2 ^ n → b < 2 ^ n → n < size a + size b → (p : ℕ) × (1 ≤ p) × (p ≤ n) × (p ∈ a) × (p ∈ b)
meet zero a b ha hb h = absurd (omega (arith, ones-le 0 a ha, ones-le 0 b hb))
meet (suc n) a b ha hb h = go (dec_le 2 (a % 2 + b % 2)) (meet n (a / 2) (b / 2) (half_lt n a ha) (half_lt n b hb))
  where
    go : Dec (2 ≤ a % 2 + b % 2) → (n < size (a / 2) + size (b / 2) → (p : ℕ) × (1 ≤ p) × (p ≤ n) × (p ∈ a / 2) × (p ∈ b / 2))
        → (p : ℕ) × (1 ≤ p) × (p ≤ suc n) × (p ∈ a) × (p ∈ b)
    go (yes l) f = (1, omega arith, omega arith, odd_in a (omega arith), odd_in b (omega arith))
    go (no l) f = let r = f (omega (arith, ones_step a, ones_step b)) in
        (suc r.0, omega arith, omega (arith, r.2), half_in a r.0 r.3, half_in b r.0 r.4)
