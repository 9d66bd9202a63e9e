use Rattle.tables.specs.Words.{entry_words}
use Rattle.tables.proofs.Parts.{put_two}
use Rattle.tables.proofs.rows.put_entry.Goals as goal

pub returns : goal.returns
unfolding entry_words
returns c = search put_two
