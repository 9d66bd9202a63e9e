-- Tests and their outcomes: a conjunct of a test that passes, and words joined by `|`.
use Rattle.std.specs.Prelude.{Option, None, Some}
use mathlib.Core.Bool.{Bool, true, false, ◌&&◌, and-false, and_assoc}
use mathlib.Core.List.{List, [], ◌∷◌, ◌++◌}
use mathlib.Core.Path.{◌≡◌, refl, sym, ap, ◌∙◌}
use Prim.Native.Nat.{ℕ, zero, suc, ◌+◌, ◌≤◌}
use native.Mathlib.Omega.{arith}
use borrow.Author.Tests.{eq-eqb, ne_eqb, eqb-true, eqb-false, leb-true, lt-leb}
use lib.Bits.{bit_or, or_add_and, and_le_l, and_le_r}
use lib.Dec.{leb, eqb}
use lib.ListN.{length, take, drop}
use lib.Seq.{take-add, take_all}
use Rattle.sets.proofs.Tests.{passes_by}
use Rattle.tables.specs.declared.Conf.{Conf}
use Rattle.tables.specs.declared.Party.{Party}
use Rattle.tables.specs.Kinds.{many_named}
use Rattle.inspect.specs.Good.{between, zeros, field, is_named_party}

pub and_l : (a b : Bool) → a && b ≡ true → a ≡ true
and_l a b e = passes_by a (a && b) (λ f. rw f) e

pub and_r : (a b : Bool) → a && b ≡ true → b ≡ true
and_r a b e = passes_by b (a && b) (λ f. rw (f, and-false)) e

pub le_by : (a b : ℕ) (x : Bool) → (leb a b ≡ false → x ≡ false) → x ≡ true → a ≤ b
le_by a b x h e = leb-true a b (passes_by (leb a b) x h e)

pub eq_by : (a b : ℕ) (x : Bool) → (eqb a b ≡ false → x ≡ false) → x ≡ true → a ≡ b
eq_by a b x h e = eqb-true a b (passes_by (eqb a b) x h e)

-- a field in use is in range; it is in range in any case where zero is; one not in use is zero
pub field_used : (used in_range is_zero : Bool) → used ≡ true → field used in_range is_zero ≡ true → in_range ≡ true
field_used used in_range is_zero u e = passes_by in_range (field used in_range is_zero) (λ f. simp (f, u)) e

pub field_any : (used in_range is_zero : Bool) → (is_zero ≡ true → in_range ≡ true) → field used in_range is_zero ≡ true → in_range ≡ true
field_any used true is_zero h e = refl
field_any true false is_zero h e = e
field_any false false is_zero h e = h e

pub field_zero : (used in_range is_zero : Bool) → used ≡ false → field used in_range is_zero ≡ true → is_zero ≡ true
field_zero used in_range is_zero u e = passes_by is_zero (field used in_range is_zero) (λ f. simp (f, u)) e

-- a party of the kind that a number names is one of so many: of none, where it names none
pub named_between : (k : Conf) (who : Option Party) (p : ℕ) → is_named_party k who p ≡ between 1 (many_named k who) p
named_between k None zero = refl
named_between k None (suc p) = rw (lt-leb (suc p) 0 (omega arith), and-false)
named_between k (Some who) p = refl

pub eqb_or : (a b : ℕ) → eqb (bit_or a b) 0 ≡ eqb a 0 && eqb b 0
eqb_or a b = go (eqb a 0) (eqb b 0) refl refl
  where
    go : (p q : Bool) → eqb a 0 ≡ p → eqb b 0 ≡ q → eqb (bit_or a b) 0 ≡ p && q
    go true true e f = eq-eqb (bit_or a b) 0 (omega (arith, or_add_and a b, eqb-true a 0 e, eqb-true b 0 f))
    go true false e f = ne_eqb (bit_or a b) 0 (λ (z : bit_or a b ≡ 0). eqb-false b 0 f (omega (arith, or_add_and a b, and_le_l a b)))
    go false q e f = ne_eqb (bit_or a b) 0 (λ (z : bit_or a b ≡ 0). eqb-false a 0 e (omega (arith, or_add_and a b, and_le_r a b)))

zeros_append : (xs ys : List ℕ) → zeros (xs ++ ys) ≡ zeros xs && zeros ys
unfolding zeros
zeros_append [] ys = refl
zeros_append (n ∷ xs) ys = rw (zeros_append xs ys, and_assoc)

-- a row of n + k words is zero where its first n and its last k are
pub zeros_parts : (n k : ℕ) (l : List ℕ) → length l ≡ n + k → zeros (take n l) && zeros (take k (drop n l)) ≡ zeros l
zeros_parts n k l wide = sym (zeros_append (take n l) (take k (drop n l))) ∙ ap zeros (sym (take-add n k l) ∙ take_all (n + k) l (omega arith))
