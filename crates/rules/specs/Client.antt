-- "Client": what a reply leads to, the row afterwards, and what is sent.
use Rattle.std.specs.Prelude.{Bool, true, not, ◌||◌, ℕ, ◌+◌, leb, eqb, [], ◌∷◌, if◌then◌else◌}
use Rattle.sets.specs.Plain.{one_of}
use Rattle.sets.specs.declared.Tag.{Tag}
use Rattle.std.specs.declared.cmp.Ordering.{Ordering}
use Rattle.std.specs.declared.cmp.Ordering.TheVariants.{Less, Equal, Greater}
use Rattle.sets.specs.Tags.{tag, first, against}
use Rattle.sets.specs.Sets.{has, size, join, with, all}
use Rattle.tables.specs.declared.Conf.{Conf}
use Rattle.tables.specs.declared.Client.{Client}
use Rattle.tables.specs.declared.Message.{Message}
use Rattle.tables.specs.Tables.{Page, no_page}
use Rattle.mail.specs.declared.Post.{Post}
use Rattle.rules.specs.declared.Outcome.{Outcome}
use Rattle.rules.specs.declared.Outcome.TheVariants.{Waiting, Next, ReadEnded, WriteEnded, Spent, Stale}
use Rattle.mail.specs.Posts.{message, post, no_post}
use Rattle.rules.specs.Quorums.{enough_to_read, enough_to_write}

-- ---- the phases

-- the kind of reply that a phase awaits; idle awaits none
unfoldable pub awaited : ℕ → ℕ
awaited p =
    if eqb p 1 then 5
    else if eqb p 2 then 6
    else if eqb p 3 then 12
    else if eqb p 4 then 7
    else if eqb p 5 then 13
    else if eqb p 6 then 8
    else 0

-- "At rq: phase 1 .., phase 4 ..; phase 2 at wq; phase 3 ends at its first reply; phase 5 at f + 1; phase 6 at wq"
unfoldable pub enough_for : Conf → ℕ → ℕ → Bool
enough_for k p s =
    if one_of p (1 ∷ 4 ∷ []) then enough_to_read k s
    else if one_of p (2 ∷ 6 ∷ []) then enough_to_write k s
    else if eqb p 5 then leb (k.f + 1) (size s)
    else true

-- ---- a reply

-- "of the wrong kind for the phase or another message number, or from a party already answered"
unfoldable pub is_stale : Client → Message → Bool
is_stale w x =
    not (eqb x.kind (awaited w.phase)) || not (eqb x.number w.number) || has w.answered x.sender

abbrev pub hearing : Client → (answered replicas : ℕ) → Tag → Client
hearing w a s t =
    record { down = w.down; phase = w.phase; number = w.number; answered = a; replicas = s; tag = t; spare = w.spare; page = w.page }

-- "In 1, a greater tag replaces tag and set, an equal tag joins the sets": the reply has tag t and set s
abbrev pub gathered : Client → ℕ → Tag → ℕ → Ordering → Client
gathered w a t s Greater = hearing w a s t
gathered w a t s Equal = hearing w a (join w.replicas s) w.tag
gathered w a t s Less = hearing w a w.replicas w.tag

-- "in 4, the greater tag stays"
abbrev pub raised : Client → ℕ → Tag → Ordering → Client
raised w a t Greater = hearing w a w.replicas t
raised w a t Equal = hearing w a w.replicas w.tag
raised w a t Less = hearing w a w.replicas w.tag

-- the row with the reply counted in
unfoldable pub heard : Client → Message → Client
heard w x =
    let a : ℕ = with w.answered x.sender in
    if eqb w.phase 1 then gathered w a x.tag x.set (against x.tag w.tag)
    else if eqb w.phase 4 then raised w a x.tag (against x.tag w.tag)
    else hearing w a w.replicas w.tag

-- "phase 4 goes to 5 with tag (greatest number + 1, own number) .., or, if the number is top, the write ends SPENT"
unfoldable pub chosen : (top own : ℕ) → Tag → Outcome
chosen top own t = if leb top t.number then Spent else Next (tag (t.number + 1) own)

-- w has heard the reply x, and enough have answered
unfoldable pub turned : Conf → ℕ → Client → Message → Outcome
turned k own w x =
    if eqb w.phase 3 then ReadEnded x.tag x.set
    else if eqb w.phase 4 then chosen k.top own w.tag
    else if eqb w.phase 6 then WriteEnded w.tag
    else Next w.tag

unfoldable pub outcome : Conf → ℕ → Client → Message → Outcome
outcome k own w x =
    if is_stale w x then Stale
    else if enough_for k w.phase (heard w x).answered then turned k own (heard w x) x
    else Waiting

-- ---- the row afterwards

-- "An idle row has only down and message number"
abbrev pub idle : Client → Client
idle w =
    record { down = w.down; phase = 0; number = w.number; answered = 0; replicas = 0; tag = first; spare = w.spare; page = no_page }

-- "Every change of phase empties the answered set and, unless it ends, adds 1 to the message number";
-- 1 goes to 2, 2 to 3, 4 to 5, 5 to 6, and there "the answered set becomes the replica set"
abbrev pub moved : Client → Tag → Client
moved w t =
    record {
      down = w.down;
      phase = w.phase + 1;
      number = w.number + 1;
      answered = 0;
      replicas = if eqb w.phase 5 then w.answered else w.replicas;
      tag = t;
      spare = w.spare;
      page = w.page;
    }

-- "Start read: message number plus 1, phase 1 .. Start write keeps the page; phase 4"
abbrev pub started : Client → ℕ → Page → Client
started w p page =
    record { down = w.down; phase = p; number = w.number + 1; answered = 0; replicas = 0; tag = first; spare = w.spare; page = page }

unfoldable pub client_after : Client → Message → Outcome → Client
client_after w x Stale = w
client_after w x Waiting = heard w x
client_after w x (Next t) = moved (heard w x) t
client_after w x (ReadEnded t mark) = idle w
client_after w x (WriteEnded t) = idle w
client_after w x Spent = idle w

-- ---- what is sent

-- the request of the row's phase, from client `own`: rread, rwrite, read, wread, write, wwrite
unfoldable pub request : Conf → ℕ → Client → Post
request k own w =
    if eqb w.phase 1 then post (message 1 own first 0 w.number no_page) (all k.directories)
    else if eqb w.phase 2 then post (message 2 own w.tag w.replicas w.number no_page) (all k.directories)
    else if eqb w.phase 3 then post (message 9 own w.tag 0 w.number no_page) w.replicas
    else if eqb w.phase 4 then post (message 3 own first 0 w.number no_page) (all k.directories)
    else if eqb w.phase 5 then post (message 10 own w.tag 0 w.number w.page) (all k.replicas)
    else if eqb w.phase 6 then post (message 4 own w.tag w.replicas w.number no_page) (all k.directories)
    else no_post

-- "secure, under the same message number, to each in the set"
unfoldable pub secures : ℕ → Client → Post
secures own w = post (message 11 own w.tag 0 w.number no_page) w.replicas

-- from the row w before the reply and the row y afterwards
unfoldable pub client_post : Conf → ℕ → (w y : Client) → Outcome → Post
client_post k own w y Stale = no_post
client_post k own w y Waiting = no_post
client_post k own w y (Next t) = request k own y
client_post k own w y (ReadEnded t mark) = no_post
client_post k own w y (WriteEnded t) = secures own w
client_post k own w y Spent = no_post
