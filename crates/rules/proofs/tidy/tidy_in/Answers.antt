use mathlib.Core.Path.{◌≡◌, sym, ap, ◌∙◌}
use Rattle.sets.specs.Tags.{lower, is_lower}
use Rattle.rules.proofs.Tidying.{lt_lower, tidying_start, freed, stays, tidying_end}
use Rattle.rules.proofs.tidy.tidy_in.Goals.{then-is_lt, else-is_lt}
use Rattle.rules.proofs.tidy.tidy_in.Goals as goal

pub loop-j-init : goal.loop-j-init
loop-j-init c = tidying_start _ _ c.requires

pub loop-j-preserved : goal.loop-j-preserved
loop-j-preserved c =
    let test : lower c.entry_at.result.tag c.highest_of-high.result ≡ c.is_lt.result = sym (c.is_lt.ensures ∙ lt_lower c.compare.result ∙ ap is_lower c.compare.ensures) in
    elim c.if-is_lt.branch [
      | then-is_lt w ↦
          rw w.l-is
          (freed _ _ _ _ c.loop-j.invariant _ _ c.loop-j-test.true c.entry_at.ensures (test ∙ w.if-is_lt.true) (rw w.no_entry.ensures at w.put_in.ensures))
      | else-is_lt w ↦ rw w.l-is (stays _ _ _ _ c.loop-j.invariant _ c.loop-j-test.true c.entry_at.ensures (test ∙ w.if-is_lt.false))
    ]

pub returns : goal.returns
returns c = tidying_end _ _ _ _ c.loop-j.invariant c.highest_of-high.ensures c.loop-j-test.false
