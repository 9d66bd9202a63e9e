use mathlib.Core.Path.{◌≡◌}
use borrow.Author.Rules.{rules}
use lib.ListN.{length}
use Rattle.tables.proofs.Holds.{holds_start}
use Rattle.machine.proofs.Laid.{replica_more}
use Rattle.machine.proofs.setting.replicas.Goals as goal

pub loop-i-init : goal.loop-i-init
loop-i-init c = search holds_start

pub loop-i-preserved : goal.loop-i-preserved
loop-i-preserved c =
    let page_wide : length c.args.x.page ≡ 16 = search rules in
    search (replica_more, page_wide)
