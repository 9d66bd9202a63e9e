use Rattle.rules.proofs.Entries.{secures}
use Rattle.rules.proofs.replica.secure_in.Goals as goal

pub returns-in-Some : goal.returns-in-Some
returns-in-Some c = secures _ _ _ _ _ c.in-Some.ensures c.entry_at-e.ensures c.put_in.ensures
