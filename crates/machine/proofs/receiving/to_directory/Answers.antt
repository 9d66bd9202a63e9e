use borrow.Author.Rules.{rules}
use Rattle.machine.proofs.Directories.{directory_able, directory_few, directory_down, directory_takes}
use Rattle.machine.proofs.Landings.{commits_not, commits_directory}
use Rattle.machine.proofs.Refused.{handed_on}
use Rattle.machine.proofs.receiving.to_directory.Goals as goal

pub returns-then-d-eq1 : goal.returns-then-d-eq1
returns-then-d-eq1 c = search directory_down

pub after-new-requires : goal.after-new-requires
after-new-requires c = search directory_able

pub returns-in_err-ask_room : goal.returns-in_err-ask_room
returns-in_err-ask_room c =
    rw (handed_on c.from_residual.result _ c.from_residual.ensures.1)
    (directory_takes c.requires _ c.directory-d.ensures _ _ _ _ _ c.if-d-eq1.false c.conf_at-k.ensures c.after-new.ensures c.post-y.ensures (search (commits_not, c.in_err-ask_room.ensures)))

pub replace-requires : goal.replace-requires
replace-requires c = (search rules, search rules, search directory_few)

pub returns : goal.returns
returns c =
    directory_takes c.requires _ c.directory-d.ensures _ _ _ _ _ c.if-d-eq1.false c.conf_at-k.ensures c.after-new.ensures c.post-y.ensures (search (commits_directory, c.in_ok-ask_room.ensures))
