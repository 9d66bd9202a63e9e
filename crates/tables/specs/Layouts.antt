-- Where each table begins, by the directory rows that a machine has room for: 208, 228, 235, 240 and 1,920 with 5 of them, and all after the directories 44 words later with 16.
use Rattle.std.specs.Prelude.{Bool, ℕ, ◌+◌, ◌*◌, eqb}
use Rattle.tables.specs.declared.Layout.{Layout}

-- "5 directory rows of 4": 4,992 words in all
abbrev pub base : Layout
base = record { directories = 5 }

-- "there are 16 directory rows, all later words move by 44, and a machine has 5,036 words"
abbrev pub wide : Layout
wide = record { directories = 16 }

-- the directories of a machine with that many rows for them stand in columns; elsewhere counts make a quorum
abbrev pub in_columns : ℕ → Bool
in_columns rows = eqb rows 16

abbrev pub flags_at : Layout → ℕ
flags_at lay = 208 + lay.directories * 4

abbrev pub gap_at : Layout → ℕ
gap_at lay = 215 + lay.directories * 4

abbrev pub entries_at : Layout → ℕ
entries_at lay = 220 + lay.directories * 4

abbrev pub slots_at : Layout → ℕ
slots_at lay = 1900 + lay.directories * 4

-- how many words a machine has
abbrev pub extent : Layout → ℕ
extent lay = 4972 + lay.directories * 4
