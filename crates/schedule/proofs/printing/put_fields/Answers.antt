use Rattle.schedule.proofs.Digits.{no_fields, next_field}
use Rattle.schedule.proofs.printing.put_fields.Goals as goal

pub loop-n-init : goal.loop-n-init
loop-n-init c = search no_fields

pub loop-n-preserved : goal.loop-n-preserved
loop-n-preserved c = search next_field
