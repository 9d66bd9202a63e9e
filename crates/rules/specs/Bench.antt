-- "Bench examples": the twelve, of the definitions, as one table under one theorem; a read with its mark.
use Rattle.std.specs.Prelude.{◌≡◌, refl, List, [], ◌∷◌, ℕ}
use Rattle.std.specs.Int.Count.{ones}
use Rattle.sets.specs.declared.Tag.{Tag}
use Rattle.std.specs.declared.cmp.Ordering.TheVariants.{Less}
use Rattle.sets.specs.Tags.{tag, first, against}
use Rattle.sets.specs.Sets.{with}
use Rattle.tables.specs.declared.Directory.{Directory}
use Rattle.tables.specs.declared.Entry.{Entry}
use Rattle.tables.specs.declared.Message.{Message}
use Rattle.tables.specs.Tables.{no_page, no_entry}
use Rattle.mail.specs.declared.Post.{Post}
use Rattle.mail.specs.Posts.{message, to_receiver, no_post}
use Rattle.rules.specs.declared.Outcome.{Outcome}
use Rattle.rules.specs.declared.Outcome.TheVariants.{Next, Spent}
use Rattle.rules.specs.Quorums.{enough_to_read}
use Rattle.rules.specs.Directory.{directory_after, reply, directory_post}
use Rattle.rules.specs.Replica.{entry, entry_with, higher_of, highest, read, mark, tidied}
use Rattle.rules.specs.Client.{awaited, enough_for, is_stale, heard, chosen, turned, outcome}

-- ---- the words of the table

-- a set by its parties
abbrev pub set : List ℕ → ℕ
set [] = 0
set (p ∷ ps) = with (set ps) p

abbrev pub directory : Tag → List ℕ → Directory
directory t ps = record { down = 0; tag = t; set = set ps }

abbrev pub D : Directory
D = directory (tag 3 1) (1 ∷ 2 ∷ [])

-- wwrite from client 1, notice from replica r
abbrev pub wwrite : Tag → List ℕ → Message
wwrite t ps = to_receiver (message 4 1 t (set ps) 1 no_page) 1

abbrev pub notice : Tag → ℕ → Message
notice t r = to_receiver (message 14 r t 0 0 no_page) 1

-- D's row afterwards and what it sends, at f = 1
abbrev pub takes : Message → Directory × Post
takes x = (directory_after 1 D x, directory_post D x)

abbrev pub replies : Directory → Directory × Post
replies d = (d, reply (wwrite first []) 8 first 0)

abbrev pub silent : Directory → Directory × Post
silent d = (d, no_post)

abbrev pub held : ℕ → ℕ → Entry
held n c = entry 1 (tag n c) no_page

abbrev pub secured : ℕ → ℕ → Entry
secured n c = entry 2 (tag n c) no_page

-- the tag that a read of t gets, and its mark
abbrev pub gets : Tag → List Entry → Tag × ℕ
gets t es = ((read t es).tag, mark t es)

-- client 1 in its phase 4 gets the only reply that it waits for
abbrev pub hears : (top greatest : ℕ) → Outcome
hears top n =
    outcome (record { clients = 1; directories = 1; replicas = 3; f = 1; rq = 1; wq = 1; top = top; columns = 0 }) 1
    (record { down = 0; phase = 4; number = 1; answered = 0; replicas = 0; tag = first; spare = 0; page = no_page })
    (to_receiver (message 7 1 (tag n 1) 0 1 no_page) 1)

-- ---- the table

-- number, case, outcome; case 12 has two
pub data Line : Type 1 where
  line : {A : Type 0} → ℕ → A → A → Line

abbrev pub Hold : List Line → Type 0
Hold [] = Unit {0}
Hold (line n case result ∷ ls) = (case ≡ result) × Hold ls

abbrev pub table : List Line
table =
    line 1 (against (tag 1 2) (tag 2 1)) Less
    ∷ line 2 (against (tag 2 1) (tag 2 2)) Less
    ∷ line 3 (takes (wwrite (tag 3 1) (2 ∷ 3 ∷ []))) (replies (directory (tag 3 1) (1 ∷ 2 ∷ 3 ∷ [])))
    ∷ line 4 (takes (wwrite (tag 2 2) (2 ∷ 3 ∷ []))) (replies D)
    ∷ line 5 (takes (wwrite (tag 4 1) (3 ∷ []))) (replies D)
    ∷ line 6 (takes (wwrite (tag 4 1) (2 ∷ 3 ∷ []))) (replies (directory (tag 4 1) (2 ∷ 3 ∷ [])))
    ∷ line 7 (takes (notice (tag 4 1) 3)) (silent D)
    ∷ line 8 (gets (tag 2 1) (secured 0 0 ∷ held 2 1 ∷ [])) (tag 2 1, 1)
    ∷ line 9 (gets (tag 1 1) (secured 0 0 ∷ held 2 1 ∷ [])) (tag 0 0, 0)
    ∷ line 10 (tidied (secured 0 0 ∷ held 2 1 ∷ held 3 1 ∷ [])) (secured 0 0 ∷ held 2 1 ∷ held 3 1 ∷ [])
    ∷ line 11 (tidied (secured 0 0 ∷ secured 2 1 ∷ held 1 2 ∷ [])) (no_entry ∷ secured 2 1 ∷ no_entry ∷ [])
    ∷ line 12 (hears 3 3) Spent
    ∷ line 12 (hears 3 2) (Next (tag 3 1))
    ∷ []

pub bench : Hold table
unfolding against directory_after directory_post entry_with higher_of highest read mark tidied awaited enough_to_read enough_for is_stale heard chosen turned outcome ones
bench = (refl, (refl, (refl, (refl, (refl, (refl, (refl, (refl, (refl, (refl, (refl, (refl, (refl, tt)))))))))))))
