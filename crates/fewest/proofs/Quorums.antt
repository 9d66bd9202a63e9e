-- What the quorum tests cost: every enough set has at least so many members, and just so many of it are enough. What speaks of a quorum stands here and in Voters, and in no other proof.
use Rattle.std.specs.Prelude.{if◌then◌else◌}
use mathlib.Core.Bool.{Bool, true, false}
use mathlib.Core.List.{[], ◌∷◌}
use Prim.Native.Nat.{ℕ, ◌+◌, ◌^◌, ◌≤◌, ◌<◌}
use native.Mathlib.Nat.{le-div_iff_mul-le}
use native.Mathlib.Omega.{arith}
use lib.Dec.{T, leb, eqb, leb→le}
use lib.ListN.{length}
use Rattle.sets.specs.Plain.{one_of}
use Rattle.sets.specs.Sets.{size}
use Rattle.tables.specs.declared.Conf.{Conf}
use Rattle.tables.specs.Tables.{Machine}
use Rattle.tables.proofs.Quorums.{Quorums, counts, columns, by_counts, by_columns}
use Rattle.rules.specs.Quorums.{enough_to_read, enough_to_write}
use Rattle.rules.specs.Client.{enough_for}
use Rattle.fewest.specs.Fewest.{least_to_read, least_to_write}
use Rattle.fewest.proofs.Choose.{Just, just_size, just_as, just_count}
use Rattle.fewest.proofs.Columns.{just_column, just_columns}

module _ (k : Conf) where
  module _ (s : ℕ) where
    read_least : Quorums k → T (enough_to_read k s) → least_to_read k ≤ size s
    unfolding enough_to_read
    read_least (counts q) h = let z = by_counts k q in rw z (leb→le k.rq (size s) (rw z at h))
    read_least (columns q) h = let z = by_columns k q in rw z (just_size (just_column k.directories k.columns s q.equal (rw z at h)))

    write_least : Quorums k → T (enough_to_write k s) → least_to_write k ≤ size s
    unfolding enough_to_write
    write_least (counts q) h = let z = by_counts k q in rw z (leb→le k.wq (size s) (rw z at h))
    write_least (columns q) h = let z = by_columns k q in rw z (just_size (just_columns k.directories k.columns s q.some (rw z at h)))

    -- just enough of an enough set
    module _ (l : s < 2 ^ k.directories) where
      pub just_readers : Quorums k → T (enough_to_read k s) → Just k.directories (enough_to_read k) s (least_to_read k)
      unfolding enough_to_read
      just_readers (counts q) h = let z = by_counts k q in rw z (just_as (λ a i. rw z i) (just_count k.directories k.rq s l (rw z at h)))
      just_readers (columns q) h = let z = by_columns k q in rw z (just_as (λ a i. rw z i) (just_column k.directories k.columns s q.equal (rw z at h)))

      pub just_writers : Quorums k → T (enough_to_write k s) → Just k.directories (enough_to_write k) s (least_to_write k)
      unfolding enough_to_write
      just_writers (counts q) h = let z = by_counts k q in rw z (just_as (λ a i. rw z i) (just_count k.directories k.wq s l (rw z at h)))
      just_writers (columns q) h = let z = by_columns k q in rw z (just_as (λ a i. rw z i) (just_columns k.directories k.columns s q.some (rw z at h)))

  pub some_readers : Quorums k → 1 ≤ least_to_read k
  some_readers (counts q) = rw (by_counts k q) q.some_read
  some_readers (columns q) = rw (by_columns k q) ((le-div_iff_mul-le q.some).1 (omega (arith, q.within)))

  pub some_writers : Quorums k → 1 ≤ least_to_write k
  some_writers (counts q) = rw (by_counts k q) q.some_written
  some_writers (columns q) = rw (by_columns k q) q.some

-- how many must answer in phase p; phase 3 has one answer
abbrev pub needed : Conf → ℕ → ℕ
needed k p = if one_of p (1 ∷ 4 ∷ []) then least_to_read k else if one_of p (2 ∷ 6 ∷ []) then least_to_write k else if eqb p 5 then k.f + 1 else 0

pub enough_least : (k : Conf) → Quorums k → (p s : ℕ) → T (enough_for k p s) → needed k p ≤ size s
unfolding enough_for
enough_least k q p s = go (one_of p (1 ∷ 4 ∷ [])) (one_of p (2 ∷ 6 ∷ [])) (eqb p 5)
  where
    go : (a b e : Bool) → T (if a then enough_to_read k s else if b then enough_to_write k s else if e then leb (k.f + 1) (size s) else true)
        → (if a then least_to_read k else if b then least_to_write k else if e then k.f + 1 else 0) ≤ size s
    go true b e h = read_least k s q h
    go false true e h = write_least k s q h
    go false false true h = leb→le (k.f + 1) (size s) h
    go false false false h = omega arith

-- there are never more directories
abbrev pub most_directories : Machine → ℕ
most_directories M = length M.directories
