-- When an answered set of directories is enough: more are enough too, none is not, all are, and a read quorum meets a write quorum.
use Rattle.std.specs.Prelude.{if◌then◌else◌}
use mathlib.Core.Path.{◌≡◌, refl}
use mathlib.Core.Bool.{Bool, true, false}
use mathlib.Core.List.{[], ◌∷◌, Memᴰ}
use Prim.Native.Nat.{ℕ, ◌+◌, ◌-◌, ◌^◌, ◌≤◌, ◌<◌}
use native.Mathlib.Nat.{mod-eq_of_lt}
use native.Mathlib.Omega.{arith}
use lib.Dec.{T, leb, eqb, leb→le, le→leb}
use Rattle.sets.specs.Plain.{numbers}
use Rattle.sets.specs.Sets.{has, size, all, members}
use Rattle.sets.specs.Inner.{◌∈◌}
use Rattle.sets.proofs.Laws.{none_in, in_all, size_none, size_all, within, meet}
use Rattle.sets.proofs.Members.{numbers_in}
use Rattle.tables.specs.declared.Conf.{Conf}
use Rattle.tables.specs.Rows.{some?, every?}
use Rattle.tables.proofs.Lists.{some_in, in_some, every_in, in_every}
use Rattle.tables.proofs.Quorums.{Quorums, counts, columns, by_counts, by_columns}
use Rattle.rules.specs.Quorums.{column, has_column, meets_columns, enough_to_read, enough_to_write}
use Rattle.rules.proofs.Columns.{column_in, in_column}

-- ---- columns

module _ (n c : ℕ) where
  -- THE COLUMN LAW: a set with one whole column and a set that meets every column share a directory
  pub columns_meet : (a b : ℕ) → T (has_column n c a) → T (meets_columns n c b) → (d : ℕ) × (1 ≤ d) × (d ≤ n) × T (has a d) × T (has b d)
  unfolding has_column meets_columns
  columns_meet a b r w =
      let j = some_in (λ j. every? (has a) (column n c j)) (numbers 0 c) r in
      let d = some_in (has b) (column n c j.0) (every_in (λ j. some? (has b) (column n c j)) (numbers 0 c) w j.1) in
      let i = column_in n c j.0 d.1 in
      (d.0, i.0, i.1, every_in (has a) (column n c j.0) j.2 d.1, d.2)

  module _ (a b : ℕ) (sub : (p : ℕ) → p ∈ a → p ∈ b) where
    pub column_grows : T (has_column n c a) → T (has_column n c b)
    unfolding has_column
    column_grows h =
        let j = some_in (λ j. every? (has a) (column n c j)) (numbers 0 c) h in
        in_some (λ j. every? (has b) (column n c j)) (numbers 0 c) j.1
        (in_every (has b) (column n c j.0) (λ d m. sub d (every_in (has a) (column n c j.0) j.2 m)))

    pub meets_grows : T (meets_columns n c a) → T (meets_columns n c b)
    unfolding meets_columns
    meets_grows h =
        in_every (λ j. some? (has b) (column n c j)) (numbers 0 c)
        (λ j m. let d = some_in (has a) (column n c j) (every_in (λ j. some? (has a) (column n c j)) (numbers 0 c) h m) in
        in_some (has b) (column n c j) d.1 (sub d.0 d.2))

  module _ (few : c ≤ n) where
    -- directory j + 1 stands in column j
    first_in : {j : ℕ} → Memᴰ j (numbers 0 c) → Memᴰ (j + 1) (column n c j)
    first_in {j} m =
        let b = numbers_in 0 c j m in
        let e : j + 1 - 1 ≡ j = omega arith in
        let l : j < c = omega (arith, b.1) in
        in_column n c j (omega arith) (omega arith) (rw e (mod-eq_of_lt l))

    none_whole : T (has_column n c 0) → ⊥
    unfolding has_column
    none_whole h =
        let j = some_in (λ j. every? (has 0) (column n c j)) (numbers 0 c) h in
        none_in (j.0 + 1) (every_in (has 0) (column n c j.0) j.2 (first_in j.1))

    all_meet : T (meets_columns n c (all n))
    unfolding meets_columns
    all_meet =
        in_every (λ j. some? (has (all n)) (column n c j)) (numbers 0 c)
        (λ j m. let f = first_in m in let i = column_in n c j f in in_some (has (all n)) (column n c j) f (in_all n (j + 1) i.0 i.1))

-- twelve directories in three columns: {1, 4, 7, 10} is a whole column, and {1, 5, 12} one of each; neither is both
pub twelve_in_three : (has_column 12 3 585 ≡ true) × (meets_columns 12 3 585 ≡ false) × (meets_columns 12 3 2065 ≡ true) × (has_column 12 3 2065 ≡ false)
unfolding has_column meets_columns
twelve_in_three = (refl, refl, refl, refl)

-- two sets that meet every column need share no directory: {1, 2} and {3, 4} of four in two columns
pub rows_apart : (meets_columns 4 2 3 ≡ true) × (meets_columns 4 2 12 ≡ true) × (members 4 3 ≡ 1 ∷ 2 ∷ []) × (members 4 12 ≡ 3 ∷ 4 ∷ [])
unfolding meets_columns
rows_apart = (refl, refl, refl, refl)

-- ---- counts or columns

by : (b x y z w : Bool) → (T x → T z) → (T y → T w) → T (if b then x else y) → T (if b then z else w)
by true x y z w f g h = f h
by false x y z w f g h = g h

module _ (k : Conf) where
  module _ (n a b : ℕ) (h : a < 2 ^ n) (sub : (p : ℕ) → p ∈ a → p ∈ b) where
    grows : (q : ℕ) → T (leb q (size a)) → T (leb q (size b))
    grows q e = le→leb q (size b) (omega (arith, leb→le q (size a) e, within n a b h sub))

    pub read_grows : T (enough_to_read k a) → T (enough_to_read k b)
    unfolding enough_to_read
    read_grows =
        by (eqb k.columns 0) (leb k.rq (size a)) (has_column k.directories k.columns a) (leb k.rq (size b)) (has_column k.directories k.columns b)
        (grows k.rq) (column_grows k.directories k.columns a b sub)

    pub write_grows : T (enough_to_write k a) → T (enough_to_write k b)
    unfolding enough_to_write
    write_grows =
        by (eqb k.columns 0) (leb k.wq (size a)) (meets_columns k.directories k.columns a) (leb k.wq (size b)) (meets_columns k.directories k.columns b)
        (grows k.wq) (meets_grows k.directories k.columns a b sub)

  pub none_read : Quorums k → T (enough_to_read k 0) → ⊥
  unfolding enough_to_read
  none_read (counts q) h = omega (arith, leb→le k.rq (size 0) (rw (by_counts k q) at h), size_none, q.some_read)
  none_read (columns q) h = none_whole k.directories k.columns q.within (rw (by_columns k q) at h)

  pub all_write : Quorums k → T (enough_to_write k (all k.directories))
  unfolding enough_to_write
  all_write (counts q) = rw (by_counts k q) (le→leb k.wq (size (all k.directories)) (omega (arith, size_all k.directories, q.written_within)))
  all_write (columns q) = rw (by_columns k q) (all_meet k.directories k.columns q.within)

  pub quorums_meet : (a b : ℕ) → Quorums k → a < 2 ^ k.directories → b < 2 ^ k.directories
      → T (enough_to_read k a) → T (enough_to_write k b) → (p : ℕ) × (1 ≤ p) × (p ≤ k.directories) × (p ∈ a) × (p ∈ b)
  unfolding enough_to_read enough_to_write
  quorums_meet a b (counts q) ha hb r w =
      let z = by_counts k q in
      meet k.directories a b ha hb (omega (arith, q.meet, leb→le k.rq (size a) (rw z at r), leb→le k.wq (size b) (rw z at w)))
  quorums_meet a b (columns q) ha hb r w =
      let z = by_columns k q in
      columns_meet k.directories k.columns a b (rw z at r) (rw z at w)
