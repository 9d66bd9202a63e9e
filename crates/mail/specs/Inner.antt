-- What the functions over slots give. Nothing of the paper stands here.
use Rattle.std.specs.Prelude.{List, ℕ}
use Rattle.tables.specs.declared.Message.{Message}
use Rattle.tables.specs.Rows.{rows_words}
use Rattle.tables.specs.Inner.{put}
use Rattle.tables.specs.Words.{message_words}

-- the words l, which begin with the slots, with other slots
abbrev pub with_mail : List ℕ → List Message → List ℕ
with_mail l xs = put l 0 (rows_words message_words xs)
