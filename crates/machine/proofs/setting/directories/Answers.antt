use Rattle.tables.proofs.Holds.{holds_start}
use Rattle.machine.proofs.Laid.{directory_more}
use Rattle.machine.proofs.setting.directories.Goals as goal

pub loop-i-init : goal.loop-i-init
loop-i-init c = search holds_start

pub loop-i-preserved : goal.loop-i-preserved
loop-i-preserved c = search directory_more
