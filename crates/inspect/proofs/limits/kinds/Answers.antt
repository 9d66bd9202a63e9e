use Rattle.tables.specs.Kinds.{sender_of, receiver_of}
use Rattle.inspect.specs.Inner.{kind_limits, limits_words, limits_table}
use Rattle.inspect.proofs.limits.kinds.Goals as goal

pub returns : goal.returns
unfolding kind_limits limits_words limits_table sender_of receiver_of
returns c = rw c.sets_of-s.ensures
