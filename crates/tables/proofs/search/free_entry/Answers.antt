use Rattle.std.proofs.Common.{rules, tests}
use Rattle.std.proofs.lemmas.Iterator.Search.{position_from_yields_List}
use Rattle.tables.specs.Tables.{is_free}
use Rattle.tables.specs.Machines.{entry_of}
use Rattle.tables.proofs.Chains.{entries_yielded}
use Rattle.tables.proofs.search.free_entry.Goals as goal

pub returns : goal.returns
unfolding entry_of
returns c =
    position_from_yields_List is_free _ _ c.position.result c.position.ensures.ran (entries_yielded c.args.l.now c.chunks_exact.ensures.size c.chunks_exact.ensures.rest c.requires)
    (λ x b q k. search (rules, tests))
