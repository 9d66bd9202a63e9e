use Rattle.mail.proofs.Sending.{entered}
use Rattle.mail.proofs.slots.enter.Goals as goal

pub returns-in-Some : goal.returns-in-Some
returns-in-Some c = search (entered, c.in-Some.ensures, c.set_slot.ensures)
