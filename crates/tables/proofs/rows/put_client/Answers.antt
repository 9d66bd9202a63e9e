use Rattle.tables.specs.Words.{client_words}
use Rattle.tables.proofs.Parts.{put_two}
use Rattle.tables.proofs.rows.put_client.Goals as goal

pub returns : goal.returns
unfolding client_words
returns c = search put_two
