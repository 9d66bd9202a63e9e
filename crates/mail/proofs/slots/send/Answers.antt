use mathlib.Core.Path.{◌≡◌, sym, ◌∙◌}
use Prim.Native.Nat.{◌+◌, ◌-◌}
use native.Mathlib.Omega.{arith}
use borrow.Author.Rules.{rules}
use lib.Count.{count_leading_zeros}
use lib.ListN.{length}
use Rattle.mail.proofs.Sending.{Sending, sending_start, sends, passes, sends_end}
use Rattle.mail.proofs.slots.send.Goals as goal
use Rattle.mail.proofs.slots.send.Goals.{Joined-is_in, then-is_in, else-is_in}

-- the receivers after p are still to be sent to
sending : (c : Joined-is_in) → Sending c.args.l.now c.args.y (32 - count_leading_zeros 32 c.args.y.to) c.if-is_in.l (c.loop-p.p + 1)
sending c =
    let g = c.loop-p.invariant in
    let e = c.is_in.ensures in
    elim c.if-is_in.branch [
      | then-is_in w ↦ rw w.l-is (sends g c.loop-p-test.true _ (sym e ∙ w.if-is_in.true) w.enter.ensures)
      | else-is_in w ↦ rw w.l-is (passes g c.loop-p-test.true (sym e ∙ w.if-is_in.false))
    ]

pub loop-p-init : goal.loop-p-init
loop-p-init c =
    let page_wide : length c.args.y.message.page ≡ 16 = search rules in
    sending_start _ _ c.requires.0 c.requires.1 page_wide

pub loop-p-preserved : goal.loop-p-preserved
loop-p-preserved c = sending (goal.at.loop-p-preserved c).Joined-is_in

pub returns-after-is_in : goal.returns-after-is_in
returns-after-is_in c = sends_end (sending (goal.at.returns-after-is_in c).Joined-is_in) (omega arith)

pub returns : goal.returns
returns c = sends_end c.loop-p.invariant (omega arith)
