-- Columns: a walk over the directories finds the columns in which one of them passes a test, and `met` is all of them just where each has one.
use Rattle.std.specs.Prelude.{if◌then◌else◌}
use mathlib.Core.Path.{◌≡◌, refl, sym, ap, ◌∙◌}
use mathlib.Core.Bool.{Bool, true, false, not}
use mathlib.Core.List.Memᴰ
use mathlib.Core.List.{List, [], ◌∷◌, Memᴰ}
use mathlib.Core.Logic.{◌⊎◌, inl, inr, ⊎_elim}
use Prim.Native.Nat.{ℕ, ◌+◌, ◌-◌, ◌%◌, ◌^◌, ◌≤◌, ◌<◌}
use native.Mathlib.Nat.{mod-lt}
use native.Mathlib.Omega.{arith}
use lib.Dec.{T, eqb, eqb→eq, eqb_refl, T_not}
use lib.Pow.{pow_pos}
use Rattle.sets.specs.Plain.{numbers}
use Rattle.sets.specs.Sets.{has, with, all}
use Rattle.sets.specs.Inner.{◌∈◌}
use Rattle.sets.proofs.Tests.{T-ext, if_ind}
use Rattle.sets.proofs.Laws.{none_in, in_range, with_in, in_with_old, in_with_new, with_lt, all_lt, all_in, in_all, set_ext}
use Rattle.sets.proofs.Members.{keep_in, in_keep, numbers_in, in_numbers}
use Rattle.tables.specs.Rows.{some?, every?}
use Rattle.tables.proofs.Lists.{some_in, in_some, every_in, in_every, not_every}
use Rattle.rules.specs.Quorums.{column, has_column, meets_columns}
use Rattle.rules.specs.Inner.{stands, met}

-- some directory of each column passes the test
abbrev pub each_column : (n c : ℕ) → (ℕ → Bool) → Bool
each_column n c t = every? (λ j. some? t (column n c j)) (numbers 0 c)

module _ (n c j : ℕ) where
  pub column_in : {d : ℕ} → Memᴰ d (column n c j) → (1 ≤ d) × (d ≤ n) × ((d - 1) % c ≡ j)
  column_in {d} m =
      let r = keep_in (λ d. eqb ((d - 1) % c) j) (numbers 1 n) m in
      let b : (1 ≤ d) × (d < 1 + n) = numbers_in 1 n d r.1 in
      (b.0, omega arith, eqb→eq ((d - 1) % c) j r.0)

  pub in_column : {d : ℕ} → 1 ≤ d → d ≤ n → (d - 1) % c ≡ j → Memᴰ d (column n c j)
  in_column {d} l h e = in_keep (λ d. eqb ((d - 1) % c) j) (numbers 1 n) (rw e (eqb_refl j)) (in_numbers 1 n d l (omega arith))

module _ (c : ℕ) (some : 1 ≤ c) (t : ℕ → Bool) where
  pub met_lt : (known : ℕ) (ds : List ℕ) → known < 2 ^ c → met c t known ds < 2 ^ c
  unfolding met
  met_lt known [] l = l
  met_lt known (d ∷ ds) l =
      met_lt (if t d then with known ((d - 1) % c + 1) else known) ds
      (if_ind (λ (s : ℕ). s < 2 ^ c) (t d) (λ _. with_lt c known ((d - 1) % c + 1) l (omega (arith, mod-lt (d - 1) some))) (λ _. l))

  pub met_old : (known : ℕ) (ds : List ℕ) (p : ℕ) → p ∈ known → p ∈ met c t known ds
  unfolding met
  met_old known [] p h = h
  met_old known (d ∷ ds) p h =
      met_old (if t d then with known ((d - 1) % c + 1) else known) ds p
      (if_ind (λ (s : ℕ). p ∈ s) (t d) (λ _. in_with_old known ((d - 1) % c + 1) p h) (λ _. h))

  pub in_met : (known : ℕ) (ds : List ℕ) {d : ℕ} → Memᴰ d ds → T (t d) → (d - 1) % c + 1 ∈ met c t known ds
  unfolding met
  in_met known [] m h = absurd (Memᴰ.not-nil m)
  in_met known (e ∷ ds) {d} m h =
      ⊎_elim (λ (q : d ≡ e). rw q (met_old (if t e then with known ((e - 1) % c + 1) else known) ds ((e - 1) % c + 1) (first (rw q at h))))
      (λ k. in_met (if t e then with known ((e - 1) % c + 1) else known) ds k h) (Memᴰ.cases_cons m)
    where
      first : T (t e) → (e - 1) % c + 1 ∈ (if t e then with known ((e - 1) % c + 1) else known)
      first y =
          if_ind (λ (s : ℕ). (e - 1) % c + 1 ∈ s) (t e) (λ _. in_with_new known ((e - 1) % c + 1) (omega arith)) (λ z. absurd (T_not (t e) z y))

  -- a directory of the list that passes, in the column of p
  abbrev Found : ℕ → List ℕ → Type 0
  Found p ds = (d : ℕ) × Memᴰ d ds × T (t d) × (p ≡ (d - 1) % c + 1)

  pub met_in : (known : ℕ) (ds : List ℕ) (p : ℕ) → p ∈ met c t known ds → (p ∈ known) ⊎ Found p ds
  unfolding met
  met_in known [] p h = inl h
  met_in known (d ∷ ds) p h = ⊎_elim here (λ r. inr (r.0, Memᴰ.tail r.1, r.2, r.3)) (met_in (if t d then with known ((d - 1) % c + 1) else known) ds p h)
    where
      here : p ∈ (if t d then with known ((d - 1) % c + 1) else known) → (p ∈ known) ⊎ Found p (d ∷ ds)
      here =
          if_ind (λ (s : ℕ). p ∈ s → (p ∈ known) ⊎ Found p (d ∷ ds)) (t d)
          (λ y k. ⊎_elim (λ (o : p ∈ known). inl o) (λ (q : p ≡ (d - 1) % c + 1). inr (d, Memᴰ.head refl, y, q)) (with_in known ((d - 1) % c + 1) p k)) (λ _ k. inl k)

  pub met_all : (n : ℕ) → eqb (met c t 0 (numbers 1 n)) (all c) ≡ each_column n c t
  met_all n = T-ext (eqb (met c t 0 (numbers 1 n)) (all c)) (each_column n c t) whole back
    where
      there : met c t 0 (numbers 1 n) ≡ all c → (j : ℕ) → Memᴰ j (numbers 0 c) → T (some? t (column n c j))
      there e j m =
          let b = numbers_in 0 c j m in
          let k : j + 1 ∈ all c = in_all c (j + 1) (omega arith) (omega (arith, b.1)) in
          ⊎_elim (λ (o : j + 1 ∈ 0). absurd (none_in (j + 1) o))
          (λ (r : Found (j + 1) (numbers 1 n)). let i = numbers_in 1 n r.0 r.1 in
          in_some t (column n c j) (in_column n c j {d = r.0} i.0 (omega (arith, i.1)) (omega (arith, r.3))) r.2)
          (met_in 0 (numbers 1 n) (j + 1) (rw e k))

      whole : T (eqb (met c t 0 (numbers 1 n)) (all c)) → T (each_column n c t)
      whole h = in_every (λ j. some? t (column n c j)) (numbers 0 c) (there (eqb→eq (met c t 0 (numbers 1 n)) (all c) h))

      back : T (each_column n c t) → T (eqb (met c t 0 (numbers 1 n)) (all c))
      back h = rw (set_ext c (met c t 0 (numbers 1 n)) (all c) low (all_lt c) (λ p k. in_all c p (up p k).0 (up p k).1) down) (eqb_refl (all c))
        where
          low : met c t 0 (numbers 1 n) < 2 ^ c
          low = met_lt 0 (numbers 1 n) (pow_pos c)

          up : (p : ℕ) → p ∈ met c t 0 (numbers 1 n) → (1 ≤ p) × (p ≤ c)
          up p k = in_range c (met c t 0 (numbers 1 n)) p low k

          down : (p : ℕ) → p ∈ all c → p ∈ met c t 0 (numbers 1 n)
          down p k =
              let b = all_in c p k in
              let r = some_in t (column n c (p - 1)) (every_in (λ j. some? t (column n c j)) (numbers 0 c) h (in_numbers 0 c (p - 1) (omega arith) (omega (arith, b.0, b.1)))) in
              let i = column_in n c (p - 1) r.1 in
              let q : (r.0 - 1) % c + 1 ≡ p = omega (arith, i.2, b.0) in
              rw (← q) (in_met 0 (numbers 1 n) (in_numbers 1 n r.0 i.0 (omega (arith, i.1))) r.2)

-- ---- the two tests by what was met

module _ (n c s : ℕ) (some : 1 ≤ c) where
  pub meets_met : meets_columns n c s ≡ eqb (met c (stands s true) 0 (numbers 1 n)) (all c)
  unfolding meets_columns
  meets_met = sym (met_all c some (stands s true) n)

  -- a column is whole where not each has a directory out of s
  missing : (js : List ℕ) → some? (λ j. every? (has s) (column n c j)) js ≡ not (every? (λ j. some? (stands s false) (column n c j)) js)
  missing [] = refl
  missing (j ∷ js) = rw (not_every (has s) (column n c j)) (go (every? (has s) (column n c j)) (missing js))
    where
      go : (b : Bool) → some? (λ j. every? (has s) (column n c j)) js ≡ not (every? (λ j. some? (stands s false) (column n c j)) js)
          → (if b then true else some? (λ j. every? (has s) (column n c j)) js) ≡ not (if not b then every? (λ j. some? (stands s false) (column n c j)) js else false)
      go true e = refl
      go false e = e

  pub has_met : has_column n c s ≡ not (eqb (met c (stands s false) 0 (numbers 1 n)) (all c))
  unfolding has_column
  has_met = missing (numbers 0 c) ∙ ap not (sym (met_all c some (stands s false) n))
