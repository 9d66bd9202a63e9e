use Rattle.tables.specs.Words.{message_words}
use Rattle.tables.proofs.Parts.{put_two}
use Rattle.tables.proofs.rows.put_message.Goals as goal

pub returns : goal.returns
unfolding message_words
returns c = search put_two
