-- Numbers by which a read and a write have a directory in common: two counts, or columns.
use mathlib.Core.Bool.{true, false}
use mathlib.Core.Path.{◌≡◌}
use Prim.Native.Nat.{◌+◌, ◌%◌, ◌≤◌, ◌<◌}
use native.Mathlib.Omega.{arith}
use borrow.Author.Tests.{eq-eqb, ne_eqb}
use lib.Dec.{eqb}
use Rattle.tables.specs.declared.Conf.{Conf}

pub record Counts (k : Conf) : Type 0 where
  pub none : k.columns ≡ 0
  pub some_read : 1 ≤ k.rq
  pub read_within : k.rq ≤ k.directories
  pub some_written : 1 ≤ k.wq
  pub written_within : k.wq ≤ k.directories
  pub meet : k.directories < k.rq + k.wq

pub record Columns (k : Conf) : Type 0 where
  pub some : 1 ≤ k.columns
  pub within : k.columns ≤ k.directories
  pub equal : k.directories % k.columns ≡ 0

pub data Quorums (k : Conf) : Type 0 where
  counts : Counts k → Quorums k
  columns : Columns k → Quorums k

-- which of the two a test asks
module _ (k : Conf) where
  pub by_counts : Counts k → eqb k.columns 0 ≡ true
  by_counts q = eq-eqb k.columns 0 q.none

  pub by_columns : Columns k → eqb k.columns 0 ≡ false
  by_columns q = ne_eqb k.columns 0 (λ e. omega (arith, q.some))

pub columns_within : (k : Conf) → Quorums k → k.columns ≤ k.directories
columns_within k (counts q) = omega (arith, q.none)
columns_within k (columns q) = q.within
