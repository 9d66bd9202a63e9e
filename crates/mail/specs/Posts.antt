-- What a step sends: one message to a set of receivers.
use Rattle.std.specs.Prelude.{ℕ, List, map}
use Rattle.sets.specs.declared.Tag.{Tag}
use Rattle.sets.specs.Sets.{members}
use Rattle.tables.specs.declared.Message.{Message}
use Rattle.tables.specs.Tables.{Page, no_message}
use Rattle.mail.specs.declared.Post.{Post}

-- a message of kind k from its sender, with what it carries
abbrev pub message : (kind sender : ℕ) → Tag → (set number : ℕ) → Page → Message
message kind sender t set number page =
    record { kind = kind; sender = sender; receiver = 0; tag = t; set = set; number = number; spare = 0; page = page }

abbrev pub post : Message → ℕ → Post
post x to = record { message = x; to = to }

abbrev pub no_post : Post
no_post = post no_message 0

abbrev pub to_receiver : Message → ℕ → Message
to_receiver x p =
    record { kind = x.kind; sender = x.sender; receiver = p; tag = x.tag; set = x.set; number = x.number; spare = x.spare; page = x.page }

-- its messages, in order of receiver; there are never more than 16 parties of a kind
unfoldable pub messages_of : Post → List Message
messages_of y = map (to_receiver y.message) (members 16 y.to)
