-- "whether the copy was the one asked for": what the fifth number of an answer says.
use Rattle.std.specs.Prelude.{◌≡◌, T}
use Rattle.sets.specs.declared.Tag.{Tag}
use Rattle.sets.specs.Tags.{lower}
use Rattle.rules.specs.declared.Answer.{Answer}

-- `asked` is the tag that the client had asked for: a read ended with it, or with "a newer one", and no other answer is marked
pub data Tells (asked : Tag) (a : Answer) : Type 0 where
  exact : a.code ≡ 1 → a.mark ≡ 1 → a.tag ≡ asked → Tells asked a
  newer : a.code ≡ 1 → a.mark ≡ 0 → T (lower asked a.tag) → Tells asked a
  other : (a.code ≡ 1 → ⊥) → a.mark ≡ 0 → Tells asked a
