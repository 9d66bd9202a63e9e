-- When an answered set of directories is enough, by counts or by columns.
use Rattle.std.specs.Prelude.{Bool, ℕ, ◌-◌, ◌%◌, leb, eqb, List, if◌then◌else◌}
use Rattle.sets.specs.Plain.{keep, numbers}
use Rattle.sets.specs.Sets.{has, size}
use Rattle.tables.specs.declared.Conf.{Conf}
use Rattle.tables.specs.Rows.{some?, every?}

-- ---- columns of n directories

-- "directory d in column (d − 1) mod columns": the directories of column j; columns count from 0
abbrev pub column : (n columns j : ℕ) → List ℕ
column n columns j = keep (λ d. eqb ((d - 1) % columns) j) (numbers 1 n)

-- "enough for reading when it has one whole column"
unfoldable pub has_column : (n columns : ℕ) → ℕ → Bool
has_column n columns s = some? (λ j. every? (has s) (column n columns j)) (numbers 0 columns)

-- "enough for writing when it meets every column"
unfoldable pub meets_columns : (n columns : ℕ) → ℕ → Bool
meets_columns n columns s = every? (λ j. some? (has s) (column n columns j)) (numbers 0 columns)

-- ---- the two tests

-- "A count here means that many parties answered, or more"; with columns, "these two tests in place of the counts"
unfoldable pub enough_to_read : Conf → ℕ → Bool
enough_to_read k s = if eqb k.columns 0 then leb k.rq (size s) else has_column k.directories k.columns s

unfoldable pub enough_to_write : Conf → ℕ → Bool
enough_to_write k s = if eqb k.columns 0 then leb k.wq (size s) else meets_columns k.directories k.columns s
