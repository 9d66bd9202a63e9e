-- "Phases: 0 idle, 1 rdr, 2 rdw, 3 rrr, 4 wdr, 5 wrw, 6 wdw": the fields of a client's row that each uses.
use Rattle.std.specs.Prelude.{Bool, not, ℕ, eqb, [], ◌∷◌, if◌then◌else◌}
use Rattle.sets.specs.Plain.{one_of}

abbrev pub is_idle : ℕ → Bool
is_idle p = eqb p 0

-- the tag is used in all but idle
abbrev pub uses_tag : ℕ → Bool
uses_tag p = not (is_idle p)

-- the answered set is one of directories in 1, 2, 4, 6, and one of replicas in 5
abbrev pub asks_directories : ℕ → Bool
asks_directories p = one_of p (1 ∷ 2 ∷ 4 ∷ 6 ∷ [])

abbrev pub asks_replicas : ℕ → Bool
asks_replicas p = eqb p 5

abbrev pub uses_replica_set : ℕ → Bool
uses_replica_set p = one_of p (1 ∷ 2 ∷ 3 ∷ 6 ∷ [])

abbrev pub uses_page : ℕ → Bool
uses_page p = one_of p (4 ∷ 5 ∷ 6 ∷ [])

-- rounds still to come
abbrev pub rounds_left : ℕ → ℕ
rounds_left p = if one_of p (1 ∷ 4 ∷ []) then 2 else if one_of p (2 ∷ 5 ∷ []) then 1 else 0
