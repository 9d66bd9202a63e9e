use Rattle.rules.proofs.Stock.{stored}
use Rattle.rules.proofs.replica.store.Goals as goal

pub returns-in-Some : goal.returns-in-Some
returns-in-Some c = stored _ _ _ _ c.in-Some.ensures c.put_in.ensures
