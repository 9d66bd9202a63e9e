use mathlib.Core.Path.{◌≡◌}
use lib.ListN.{length}
use Prim.Native.Nat.{◌-◌, ◌<◌}
use borrow.Author.Rules.{rules}
use Rattle.machine.proofs.Replicas.{directories_few, replica_few, replica_down, replica_full, replica_takes}
use Rattle.machine.proofs.Landings.{commits_not, commits_replica}
use Rattle.machine.proofs.Refused.{handed_on}
use Rattle.machine.proofs.receiving.to_replica.Goals as goal

pub returns-then-down-eq1 : goal.returns-then-down-eq1
returns-then-down-eq1 c = search replica_down

pub returns-then-is_full : goal.returns-then-is_full
returns-then-is_full c = search replica_full

pub post_of-y-requires : goal.post_of-y-requires
post_of-y-requires c = (search rules, search rules, search directories_few, search rules)

pub returns-in_err-ask_room : goal.returns-in_err-ask_room
returns-in_err-ask_room c =
    rw (handed_on c.from_residual.result _ c.from_residual.ensures.1)
    (replica_takes c.requires _ c.down.ensures c.if-down-eq1.false _ c.is_full.ensures _ _ _ _ c.if-is_full.false c.conf_at-k.ensures c.post_of-y.ensures (search (commits_not, c.in_err-ask_room.ensures)))

pub replace-requires : goal.replace-requires
replace-requires c = (search rules, search rules, search replica_few)

pub returns : goal.returns
returns c =
    let page_wide : length c.args.x.page ≡ 16 = search rules in
    let row : c.args.x.receiver - 1 < 7 = search rules in
    replica_takes c.requires _ c.down.ensures c.if-down-eq1.false _ c.is_full.ensures _ _ _ _ c.if-is_full.false c.conf_at-k.ensures c.post_of-y.ensures (search (commits_replica, page_wide, row, c.in_ok-ask_room.ensures))
