-- "Replica", "Gossip" and "Tidy": the entries of a replica after a message, and what it sends.
use Rattle.std.specs.Prelude.{Bool, not, ◌&&◌, ℕ, eqb, List, [], ◌∷◌, map, if◌then◌else◌}
use Rattle.sets.specs.Plain.{one_of}
use Rattle.sets.specs.declared.Tag.{Tag}
use Rattle.sets.specs.Tags.{first, lower}
use Rattle.sets.specs.Sets.{only, all}
use Rattle.tables.specs.declared.Entry.{Entry}
use Rattle.tables.specs.declared.Message.{Message}
use Rattle.tables.specs.Rows.{some?, put_first}
use Rattle.tables.specs.Tables.{Page, no_page, no_entry, is_free, is_secured, has_tag}
use Rattle.mail.specs.declared.Post.{Post}
use Rattle.mail.specs.Posts.{message, post, no_post}

abbrev pub entry : ℕ → Tag → Page → Entry
entry state t page = record { state = state; tag = t; spare = 0; page = page }

-- the tag is there
abbrev pub there : Tag → List Entry → Bool
there t es = some? (has_tag t) es

-- the entry that has the tag
unfoldable pub entry_with : Tag → List Entry → Entry
entry_with t [] = no_entry
entry_with t (e ∷ es) = let rest = entry_with t es in if has_tag t e then e else rest

-- the higher of t and an entry's tag, where the entry is secured
unfoldable pub higher_of : Tag → Entry → Tag
higher_of t e = if is_secured e && lower t e.tag then e.tag else t

-- the highest secured tag
unfoldable pub highest : List Entry → Tag
highest [] = first
highest (e ∷ es) = higher_of (highest es) e

abbrev pub secured : Entry → Entry
secured e = record { state = 2; tag = e.tag; spare = e.spare; page = e.page }

-- 11: "make the entry secured, if it is there"
unfoldable pub secure : Tag → List Entry → List Entry
secure t [] = []
secure t (e ∷ es) = let rest = secure t es in if has_tag t e then secured e ∷ es else e ∷ rest

-- 10: "if the tag is not there, put it as held in the lowest free entry"
unfoldable pub write : Tag → Page → List Entry → List Entry
write t page es = if there t es then es else put_first is_free (entry 1 t page) es

-- 15: "put it as secured, or make its entry secured"
unfoldable pub hear_gossip : Tag → Page → List Entry → List Entry
hear_gossip t page es = if there t es then secure t es else put_first is_free (entry 2 t page) es

-- 9: "if the tag is there, reply it with its page; else reply the highest secured tag and page"
unfoldable pub read : Tag → List Entry → Entry
read t es = if there t es then entry_with t es else entry_with (highest es) es

-- "1 for the exact tag and 0 for the other"
unfoldable pub mark : Tag → List Entry → ℕ
mark t es = if there t es then 1 else 0

-- "frees every entry whose tag is below its highest secured tag"
abbrev pub free_below : Tag → Entry → Entry
free_below t e = if lower e.tag t then no_entry else e

unfoldable pub tidied : List Entry → List Entry
tidied es = map (free_below (highest es)) es

unfoldable pub replica_after : List Entry → Message → List Entry
replica_after es x =
    if eqb x.kind 10 then write x.tag x.page es
    else if eqb x.kind 11 then secure x.tag es
    else if eqb x.kind 15 then hear_gossip x.tag x.page es
    else es

-- 9 gets read-ok, 10 write-ok; after 15 a notice goes to every directory
unfoldable pub replica_post : ℕ → List Entry → Message → Post
replica_post nd es x =
    let found : Entry = read x.tag es in
    if eqb x.kind 9 then post (message 12 x.receiver found.tag (mark x.tag es) x.number found.page) (only x.sender)
    else if eqb x.kind 10 then post (message 13 x.receiver first 0 x.number no_page) (only x.sender)
    else if eqb x.kind 15 then post (message 14 x.receiver x.tag 0 0 no_page) (all nd)
    else no_post

-- FULL: "10 or 15, .. new tag, no free entry"
unfoldable pub is_full : List Entry → Message → Bool
is_full es x = one_of x.kind (10 ∷ 15 ∷ []) && not (there x.tag es) && not (some? is_free es)

-- "Gossip from one replica to another: its highest secured entry"
unfoldable pub gossip_post : List Entry → (from to : ℕ) → Post
gossip_post es from to =
    let e : Entry = entry_with (highest es) es in
    post (message 15 from e.tag 0 0 e.page) (only to)
