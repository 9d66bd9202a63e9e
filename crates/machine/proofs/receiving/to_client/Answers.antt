use Rattle.machine.proofs.Clients.{client_down, client_able, client_turned, client_takes}
use Rattle.machine.proofs.receiving.to_client.Goals as goal

pub returns-then-w-eq1 : goal.returns-then-w-eq1
returns-then-w-eq1 c = search client_down

pub outcome_of-o-requires : goal.outcome_of-o-requires
outcome_of-o-requires c = search client_able

pub turn-requires : goal.turn-requires
turn-requires c = search client_turned

pub returns : goal.returns
returns c =
    client_takes c.requires.arrived _ c.client-w.ensures _ c.conf_at-k.ensures _ c.outcome_of-o.ensures _ _ _ _ c.if-w-eq1.false c.fill.ensures c.turn.ensures
