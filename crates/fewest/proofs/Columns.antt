-- Directories in columns: a whole column is as many as the column height, and of every column one can be had by just as many as there are columns.
use Rattle.std.specs.Prelude.{if◌then◌else◌}
use mathlib.Core.Path.{◌≡◌, refl, sym, ap}
use mathlib.Core.Bool.{Bool}
use mathlib.Core.List.{List, [], ◌∷◌, Memᴰ}
use mathlib.Core.Logic.{◌⊎◌, inl, inr, ⊎_elim}
use Prim.Native.Nat.{ℕ, zero, suc, ◌+◌, ◌-◌, ◌*◌, ◌/◌, ◌%◌, ◌≤◌, ◌<◌}
use native.Mathlib.Nat.{suc-mul, zero-mul, div-add-mod, mul_comm}
use native.Mathlib.Decide.{dec_lt}
use native.Mathlib.Omega.{arith}
use lib.Arith.{digits_mod}
use lib.Dec.{T, eqb, T_not, eqb→eq, eqb_refl}
use lib.ListN.{length}
use Rattle.sets.specs.Plain.{keep, numbers}
use Rattle.sets.specs.Sets.{has, size, with, all}
use Rattle.sets.specs.Inner.{◌∈◌}
use Rattle.sets.proofs.Laws.{none_in, with_in, in_all, size_none, size_new, size_old, size_all}
use Rattle.sets.proofs.Tests.{true-T, false-T, either, if_ind}
use Rattle.sets.proofs.Members.{numbers_in}
use Rattle.tables.specs.Rows.{some?, every?}
use Rattle.tables.proofs.Lists.{some_in, in_some, every_in, in_every}
use Rattle.rules.specs.Quorums.{column, has_column, meets_columns}
use Rattle.rules.specs.Inner.{met}
use Rattle.rules.proofs.Columns.{in_column, met_all}
use Rattle.fewest.specs.Fewest.{set_of}
use Rattle.fewest.proofs.Choose.{Rising, end, next, rising_less, rising_of, rising_keep, in_gather, Member, Just}

-- ---- the column height

-- directory d stands in column j
abbrev here : (c j : ℕ) → ℕ → Bool
here c j d = eqb ((d - 1) % c) j

module _ (c j : ℕ) (l : j < c) where
  -- n of the column are left, with r directories of the row passed, to the end of k rows
  abbrev Left : (r k n : ℕ) → Type 0
  Left r k n = (r ≤ j → n ≡ k) × (j < r → suc n ≡ k)

  one_more : (d r k : ℕ) (ds : List ℕ) → (d - 1) % c ≡ r → Left (suc r) k (length ds) → Left r k (length (if here c j d then d ∷ ds else ds))
  one_more d r k ds e h =
      if_ind (λ (l : List ℕ). Left r k (length l)) (here c j d) (λ y. let z = eqb→eq ((d - 1) % c) j y in (λ _. h.1 (omega arith), λ i. absurd (omega arith)))
      (λ n. let z : r ≡ j → ⊥ = λ q. T_not (here c j d) n (rw (e, q) (eqb_refl j)) in (λ i. h.0 (omega arith), λ i. h.1 (omega arith)))

  left : (m b q r k : ℕ) → b ≡ q * c + r → r < c → m + r ≡ k * c → Left r k (length (keep (here c j) (numbers (suc b) m)))
  left zero b q r zero z i e = (λ _. refl, λ h. omega (arith, zero-mul c))
  left zero b q r (suc k) z i e = absurd (omega (arith, suc-mul k c))
  left (suc m) b q r zero z i e = absurd (omega (arith, zero-mul c))
  left (suc m) b q r (suc k) z i e =
      one_more (suc b) r (suc k) (keep (here c j) (numbers (suc (suc b)) m)) at
      (go (dec_lt (suc r) c) (λ h. left m (suc b) q (suc r) (suc k) (omega arith) h (omega arith))
      (λ h. left m (suc b) (suc q) 0 k (omega (arith, suc-mul q c)) (omega arith) (omega (arith, suc-mul k c))))
    where
      at : (suc b - 1) % c ≡ r
      at = let e : suc b - 1 ≡ q * c + r = omega arith in rw e (digits_mod q i)

      -- the row goes on, or the next one begins
      go : {n : ℕ} → Dec (suc r < c) → (suc r < c → Left (suc r) (suc k) n) → (c ≡ suc r → Left 0 k n) → Left (suc r) (suc k) n
      go (yes h) f g = f h
      go (no h) f g = (λ i. absurd (omega arith), λ _. ap suc ((g (omega arith)).0 (omega arith)))

  pub column_height : (n : ℕ) → n % c ≡ 0 → length (column n c j) ≡ n / c
  column_height n e =
      (left n 0 0 0 (n / c) (omega (arith, zero-mul c)) (omega arith) (omega (arith, div-add-mod n c, mul_comm c (n / c)))).0 (omega arith)

-- ---- just enough

module _ (n c s : ℕ) where
  -- one whole column
  pub just_column : n % c ≡ 0 → T (has_column n c s) → Just n (has_column n c) s (n / c)
  unfolding has_column
  just_column e h = go (some_in (λ j. every? (has s) (column n c j)) (numbers 0 c) h)
    where
      go : (j : ℕ) × Memᴰ j (numbers 0 c) × T (every? (has s) (column n c j)) → Just n (has_column n c) s (n / c)
      go (j, m, i) =
          let k : j < c = omega (arith, (numbers_in 0 c j m).1) in
          let r : Rising (Member n s) 0 (column n c j) =
          rising_keep (here c j) 0 n
          (λ d l k u. record { high = omega arith; inside = every_in (has s) (column n c j) i (in_column n c j {d = d} l (omega arith) (eqb→eq ((d - 1) % c) j u)) }) in
          record {
            chosen = record { list = column n c j; count = column_height c j k n e; rising = r };
            pass =
                in_some (λ i. every? (has (set_of (column n c j))) (column n c i)) (numbers 0 c) m
                (in_every (has (set_of (column n c j))) (column n c j) (λ d k. in_gather 0 r k));
          }

  -- a member of every column
  module _ (some : 1 ≤ c) where
    -- the column of d, as a member of a set of columns
    abbrev place : ℕ → ℕ
    place d = (d - 1) % c + 1

    -- members of s above b, one of each column that is known after them and was not before
    record Firsts (b before after : ℕ) : Type 0 where
      list : List ℕ
      rising : Rising (Member n s) b list
      count : size after ≡ size before + length list
      meet : (p : ℕ) → p ∈ after → (p ∈ before) ⊎ ((d : ℕ) × Memᴰ d list × (place d ≡ p))

    module _ (b before : ℕ) {after : ℕ} where
      passed : Firsts (suc b) before after → Firsts b before after
      passed r = record { list = r.list; rising = rising_less (omega arith) r.rising; count = r.count; meet = r.meet }

      module _ (r : Firsts (suc b) (with before (place (suc b))) after) where
        known : place (suc b) ∈ before → Firsts b before after
        known k =
            passed (record {
              list = r.list;
              rising = r.rising;
              count = omega (arith, r.count, size_old before (place (suc b)) k);
              meet = λ p i. ⊎_elim (λ v. inl (old p (with_in before (place (suc b)) p v))) (λ v. inr v) (r.meet p i);
            })
          where
            old : (p : ℕ) → (p ∈ before) ⊎ (p ≡ place (suc b)) → p ∈ before
            old p (inl v) = v
            old p (inr e) = rw e k

        new : (place (suc b) ∈ before → ⊥) → Member n s (suc b) → Firsts b before after
        new k h =
            record {
              list = suc b ∷ r.list;
              rising = next {q = suc b} {b = b} (omega arith) h r.rising;
              count = omega (arith, r.count, size_new before (place (suc b)) (omega arith) k);
              meet = λ p i. ⊎_elim (λ v. first p (with_in before (place (suc b)) p v)) (λ v. inr (v.0, Memᴰ.tail v.1, v.2)) (r.meet p i);
            }
          where
            first : (p : ℕ) → (p ∈ before) ⊎ (p ≡ place (suc b)) → (p ∈ before) ⊎ ((d : ℕ) × Memᴰ d (suc b ∷ r.list) × (place d ≡ p))
            first p (inl v) = inl v
            first p (inr e) = inr (suc b, Memᴰ.head refl, sym e)

    firsts : (m before b : ℕ) → b + m ≤ n → Firsts b before (met c (has s) before (numbers (suc b) m))
    unfolding met
    firsts zero before b h = record { list = []; rising = end; count = omega arith; meet = λ p i. inl i }
    firsts (suc m) before b h =
        if_ind (λ (k : ℕ). Firsts b before (met c (has s) k (numbers (suc (suc b)) m))) (has s (suc b))
        (λ u. let r = firsts m (with before (place (suc b))) (suc b) (omega arith) in
        let z = has before (place (suc b)) in
        ⊎_elim (λ e. known b before r (true-T z e)) (λ e. new b before r (T_not z (false-T z e)) (record { high = omega arith; inside = u })) (either z))
        (λ _. passed b before (firsts m before (suc b) (omega arith)))

    pub just_columns : T (meets_columns n c s) → Just n (meets_columns n c) s c
    unfolding meets_columns
    just_columns h =
        record {
          chosen = record { list = r.list; count = omega (arith, r.count, ap size e, size_all c, size_none); rising = r.rising };
          pass =
              in_every (λ j. some? (has (set_of r.list)) (column n c j)) (numbers 0 c)
              (λ j m. let i : j < c = omega (arith, (numbers_in 0 c j m).1) in one j (r.meet (j + 1) (rw e (in_all c (j + 1) (omega arith) (omega arith)))));
        }
      where
        e : met c (has s) 0 (numbers 1 n) ≡ all c
        e = eqb→eq (met c (has s) 0 (numbers 1 n)) (all c) (rw (met_all c some (has s) n) h)

        r : Firsts 0 0 (met c (has s) 0 (numbers 1 n))
        r = firsts n 0 0 (omega arith)

        one : (j : ℕ) → (j + 1 ∈ 0) ⊎ ((d : ℕ) × Memᴰ d r.list × (place d ≡ j + 1)) → T (some? (has (set_of r.list)) (column n c j))
        one j (inl k) = absurd (none_in (j + 1) k)
        one j (inr (d, m, q)) =
            let i = rising_of r.rising m in
            in_some (has (set_of r.list)) (column n c j) (in_column n c j {d = d} i.0 i.1.high (omega arith)) (in_gather 0 r.rising m)
