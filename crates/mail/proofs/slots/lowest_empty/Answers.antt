use Rattle.std.proofs.Common.{rules, tests}
use Rattle.std.proofs.lemmas.Iterator.Search.{position_from_yields_List}
use Rattle.tables.specs.Tables.{is_empty}
use Rattle.tables.specs.Machines.{message_of}
use Rattle.tables.proofs.Chains.{slots_yielded}
use Rattle.mail.proofs.slots.lowest_empty.Goals as goal

pub returns : goal.returns
unfolding message_of
returns c =
    search (
      rules,
      tests,
      position_from_yields_List is_empty _ _ c.position.result c.position.ensures.ran (slots_yielded c.args.l.now c.chunks_exact.ensures.size c.chunks_exact.ensures.rest c.requires)
          (λ x b q k. search (rules, tests)),
    )
