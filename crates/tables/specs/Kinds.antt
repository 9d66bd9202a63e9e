-- "Kinds" and "Carried fields": who sends and who receives a message of each kind, and what it carries. A number that is no kind has neither.
use Rattle.std.specs.Prelude.{Bool, not, ℕ, ltb, eqb, [], ◌∷◌, Option, None, Some, if◌then◌else◌}
use Rattle.sets.specs.Plain.{one_of}
use Rattle.tables.specs.declared.Conf.{Conf}
use Rattle.tables.specs.declared.Party.{Party}
use Rattle.tables.specs.declared.Party.TheVariants.{AClient, ADirectory, AReplica}

-- 1 to 4 and 9 to 11 clients, 5 to 8 directories, 12 to 15 replicas
unfoldable pub sender_of : ℕ → Option Party
sender_of k =
    if ltb k 1 then None
    else if ltb k 5 then Some AClient
    else if ltb k 9 then Some ADirectory
    else if ltb k 12 then Some AClient
    else if ltb k 16 then Some AReplica
    else None

-- 1 to 4 and 14 directories, 5 to 8, 12 and 13 clients, 9 to 11 and 15 replicas
unfoldable pub receiver_of : ℕ → Option Party
receiver_of k =
    if ltb k 1 then None
    else if ltb k 5 then Some ADirectory
    else if ltb k 9 then Some AClient
    else if ltb k 12 then Some AReplica
    else if ltb k 14 then Some AClient
    else if ltb k 15 then Some ADirectory
    else if ltb k 16 then Some AReplica
    else None

-- how many parties of that kind there are
abbrev pub many_of : Conf → Party → ℕ
many_of k AClient = k.clients
many_of k ADirectory = k.directories
many_of k AReplica = k.replicas

-- and of the kind that a number names: none where it names none
abbrev pub many_named : Conf → Option Party → ℕ
many_named k None = 0
many_named k (Some who) = many_of k who

abbrev pub carries_set : ℕ → Bool
carries_set k = one_of k (2 ∷ 4 ∷ 5 ∷ [])

-- the set word of 12 is a mark: "1 for the exact tag and 0 for the other"
abbrev pub carries_mark : ℕ → Bool
carries_mark k = eqb k 12

abbrev pub carries_tag : ℕ → Bool
carries_tag k = one_of k (2 ∷ 4 ∷ 5 ∷ 7 ∷ 9 ∷ 10 ∷ 11 ∷ 12 ∷ 14 ∷ 15 ∷ [])

abbrev pub carries_page : ℕ → Bool
carries_page k = one_of k (10 ∷ 12 ∷ 15 ∷ [])

-- the message number is in all but 14 and 15
abbrev pub carries_number : ℕ → Bool
carries_number k = not (one_of k (14 ∷ 15 ∷ []))
