-- "Directory": its row after a message, and its reply.
use Rattle.std.specs.Prelude.{ℕ, ◌+◌, leb, eqb, [], ◌∷◌, if◌then◌else◌}
use Rattle.sets.specs.Plain.{one_of}
use Rattle.sets.specs.declared.Tag.{Tag}
use Rattle.std.specs.declared.cmp.Ordering.{Ordering}
use Rattle.std.specs.declared.cmp.Ordering.TheVariants.{Less, Equal, Greater}
use Rattle.sets.specs.Tags.{first, against}
use Rattle.sets.specs.Sets.{size, join, only, with}
use Rattle.tables.specs.declared.Directory.{Directory}
use Rattle.tables.specs.declared.Message.{Message}
use Rattle.tables.specs.Tables.{no_page}
use Rattle.mail.specs.declared.Post.{Post}
use Rattle.mail.specs.Posts.{message, post, no_post}

abbrev pub holding : Directory → Tag → ℕ → Directory
holding d t s = record { down = d.down; tag = t; set = s }

-- 2 and 4 with tag t and set s, by how t stands against the directory's own: "equals its own, join the sets;
-- greater and the set has at least f + 1 members, take tag and set; otherwise no change"
abbrev pub told : ℕ → Directory → Tag → ℕ → Ordering → Directory
told f d t s Equal = holding d d.tag (join d.set s)
told f d t s Greater = if leb (f + 1) (size s) then holding d t s else d
told f d t s Less = d

-- 14 from replica r: "equal tag, add the sender; otherwise no change"
abbrev pub noticed : Directory → ℕ → Ordering → Directory
noticed d r Equal = holding d d.tag (with d.set r)
noticed d r Greater = d
noticed d r Less = d

unfoldable pub directory_after : ℕ → Directory → Message → Directory
directory_after f d x =
    if one_of x.kind (2 ∷ 4 ∷ []) then told f d x.tag x.set (against x.tag d.tag)
    else if eqb x.kind 14 then noticed d x.sender (against x.tag d.tag)
    else d

-- the reply goes to the sender, under the message's number
abbrev pub reply : Message → ℕ → Tag → ℕ → Post
reply x kind t set = post (message kind x.receiver t set x.number no_page) (only x.sender)

-- "1: reply tag and set. 3: reply tag. 2 and 4: reply in every case. 14: no reply"
unfoldable pub directory_post : Directory → Message → Post
directory_post d x =
    if eqb x.kind 1 then reply x 5 d.tag d.set
    else if eqb x.kind 2 then reply x 6 first 0
    else if eqb x.kind 3 then reply x 7 d.tag 0
    else if eqb x.kind 4 then reply x 8 first 0
    else no_post
