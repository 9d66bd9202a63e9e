-- Binary digits: the digit of s at the place i is `s / 2 ^ i % 2`.
use mathlib.Core.Path.{◌≡◌, refl, sym, ap, ◌∙◌}
use Prim.Native.Nat.{ℕ, zero, suc, ◌-◌, ◌*◌, ◌/◌, ◌%◌, ◌^◌, ◌<◌, max}
use native.Mathlib.Nat.{one-mul, mod-eq_of_lt, pow-suc, pow-succ', div-one, zero-div, div-div-eq-div-mul}
use native.Mathlib.Omega.{arith}
use lib.Pow.{pow-lt, pow_pos}
use lib.Bits.{bit_or, or_step, or_shr}

pub digit_low : (s : ℕ) → s / 2 ^ 0 % 2 ≡ s % 2
digit_low s = rw (div-one s)

pub digit_half : (s i : ℕ) → s / 2 ^ suc i % 2 ≡ s / 2 / 2 ^ i % 2
digit_half s i = rw (pow-succ' 2 i, div-div-eq-div-mul s 2 (2 ^ i))

pub half_lt : (n s : ℕ) → s < 2 ^ suc n → s / 2 < 2 ^ n
half_lt n s h = omega (arith, pow-suc 2 n)

pub pow_half : (i : ℕ) → 2 ^ suc i / 2 ≡ 2 ^ i
pow_half i = omega (arith, pow-suc 2 i)

pub pow_even : (i : ℕ) → 2 ^ suc i % 2 ≡ 0
pow_even i = omega (arith, pow-suc 2 i)

pub ones_half : (n : ℕ) → (2 ^ suc n - 1) / 2 ≡ 2 ^ n - 1
ones_half n = omega (arith, pow-suc 2 n, pow_pos n)

pub ones_odd : (n : ℕ) → (2 ^ suc n - 1) % 2 ≡ 1
ones_odd n = omega (arith, pow-suc 2 n, pow_pos n)

-- a shift of 1 that stays in the word
pub one_shl : (k w : ℕ) → k < w → 1 * 2 ^ k % 2 ^ w ≡ 2 ^ k
one_shl k w h = rw (one-mul, mod-eq_of_lt (pow-lt h))

-- a power has a one only at its own place
pub digit_pow : (r i : ℕ) → 2 ^ r / 2 ^ i % 2 ≡ 1 → r ≡ i
digit_pow zero zero e = refl
digit_pow zero (suc i) e = absurd (omega (arith, digit_half 1 i, e, zero-div (2 ^ i)))
digit_pow (suc r) zero e = absurd (omega (arith, digit_low (2 ^ suc r), pow_even r))
digit_pow (suc r) (suc i) e = ap suc (digit_pow r i (ap (λ (x : ℕ). x / 2 ^ i % 2) (sym (pow_half r)) ∙ sym (digit_half (2 ^ suc r) i) ∙ e))

pub or_low : (a b : ℕ) → bit_or a b % 2 ≡ max (a % 2) (b % 2)
or_low a b = omega (arith, or_step a b)

pub or_half : (a b : ℕ) → bit_or a b / 2 ≡ bit_or (a / 2) (b / 2)
or_half a b = or_shr a b 1

pub or_digit : (a b i : ℕ) → bit_or a b / 2 ^ i % 2 ≡ max (a / 2 ^ i % 2) (b / 2 ^ i % 2)
or_digit a b i = rw (or_shr a b i) (or_low (a / 2 ^ i) (b / 2 ^ i))
