use mathlib.Core.Path.{◌≡◌, refl, sym, ap, ◌∙◌}
use mathlib.Core.Bool.{true, false, not, ◌||◌}
use mathlib.Core.List.{List, []}
use Prim.Native.Nat.{ℕ, suc, ◌^◌, ◌≤◌, ◌<◌}
use native.Mathlib.Omega.{arith}
use borrow.Author.Rules.{rules}
use borrow.Author.Tests.{eq-eqb, ne_eqb}
use lib.Dec.{eqb}
use lib.ListN.{drop}
use Rattle.sets.proofs.Laws.{only_lt}
use Rattle.tables.specs.declared.Layout.{Layout}
use Rattle.tables.specs.declared.Conf.{Conf}
use Rattle.tables.specs.declared.Party.TheVariants.{AReplica}
use Rattle.tables.specs.Layouts.{extent}
use Rattle.tables.specs.Tables.{replica_at, with_slots}
use Rattle.tables.specs.Words.{words}
use Rattle.tables.specs.Machines.{conf_of, machine_of}
use Rattle.mail.specs.declared.Post.{Post}
use Rattle.mail.specs.Posts.{messages_of}
use Rattle.mail.specs.Slots.{placed}
use Rattle.inspect.specs.Good.{between, is_party}
use Rattle.rules.specs.declared.Answer.{Answer}
use Rattle.rules.specs.Answers.{coded}
use Rattle.rules.specs.Replica.{gossip_post}
use Rattle.machine.specs.Effects.{nothing}
use Rattle.machine.specs.Calls.{gossip, gossip_effect}
use Rattle.machine.specs.Refusals.{refusal}
use Rattle.machine.specs.Steps.{effect_of, step}
use Rattle.machine.specs.declared.refusal.Refusal.{Refusal}
use Rattle.machine.specs.declared.refusal.Refusal.TheVariants.{BadArgument}
use Rattle.machine.specs.Told.{number_of}
use Rattle.machine.specs.Inner.{room_code, Ready, Took, Gossips}
use Rattle.machine.proofs.Parties.{in_range, replica_place, numbers_of_lem}
use Rattle.machine.proofs.Refused.{handed_on, numbered}
use Rattle.machine.proofs.Rooms.{crowded, has_slots, lacks_slots}
use Rattle.machine.proofs.Steps.{took_refused, took_accepted, call_refused, call_taken}
use Rattle.machine.proofs.others.gossip.Goals as goal

module _ (lay : Layout) (m : List ℕ) (g : Ready lay m) (from to : ℕ) (k : Conf) (at : k ≡ conf_of m) where
  -- refused unless both are replicas and not the same
  test_is : not (is_party (machine_of lay m).conf AReplica from) || not (is_party (machine_of lay m).conf AReplica to) || eqb from to
      ≡ (not (between 1 k.replicas from) || not (between 1 k.replicas to) || eqb from to)
  unfolding machine_of
  test_is = rw (← at)

  refuses : (r : Refusal) → not (between 1 k.replicas from) || not (between 1 k.replicas to) || eqb from to ≡ true → number_of r ≡ 18
      → Took lay (step (gossip from to) (machine_of lay m)) (coded (number_of r)) [] m m
  unfolding refusal
  refuses r h q = took_refused lay (gossip from to) m 18 _ g.long (λ z. omega arith) (rw (test_is, h)) (ap coded q)

  out_from : (r : Refusal) → between 1 k.replicas from ≡ false → number_of r ≡ 18 → Took lay (step (gossip from to) (machine_of lay m)) (coded (number_of r)) [] m m
  out_from r h q = refuses r (rw h) q

  module _ (i : ℕ) (o : suc i ≡ from) (h : from ≤ k.replicas) where
    out_to : (r : Refusal) → between 1 k.replicas to ≡ false → number_of r ≡ 18 → Took lay (step (gossip from to) (machine_of lay m)) (coded (number_of r)) [] m m
    out_to r e q = refuses r (rw (in_range i from o k.replicas h, e)) q

    module _ (j : ℕ) (v : suc j ≡ to) (l : to ≤ k.replicas) where
      itself : i ≡ j → Took lay (step (gossip from to) (machine_of lay m)) (coded 18) [] m m
      itself e = refuses BadArgument (rw (in_range i from o k.replicas h, in_range j to v k.replicas l, eq-eqb from to (omega arith))) refl

      seven : k.replicas ≤ 7
      seven = (numbers_of_lem lay m g.fine k at).few_replicas

      able : Gossips lay m i to
      able = record { long = g.long; row = omega (arith, seven); receiver = record { low = omega arith; high = omega (arith, seven) } }

      module _ (n : i ≡ j → ⊥) (d : ℕ) (z : d ≡ (replica_at (machine_of lay m) (suc i)).down) (a : Answer) where
        passes : not (is_party (machine_of lay m).conf AReplica from) || not (is_party (machine_of lay m).conf AReplica to) || eqb from to ≡ false
        passes = test_is ∙ rw (in_range i from o k.replicas h, in_range j to v k.replicas l, ne_eqb from to (λ e. n (omega arith)))

        own_down : (replica_at (machine_of lay m) from).down ≡ d
        own_down = sym (z ∙ ap (λ (r : ℕ). (replica_at (machine_of lay m) r).down) o)

        down : d ≡ 1 → a ≡ coded 19 → Took lay (step (gossip from to) (machine_of lay m)) a [] m m
        unfolding refusal
        down y q = took_refused lay (gossip from to) m 19 a g.long (λ x. omega arith) (rw (passes, own_down, eq-eqb _ _ y)) q

        module _ (up : d ≡ 1 → ⊥) (p : Post) (s : p ≡ gossip_post (replica_at (machine_of lay m) (suc i)).entries from to) where
          post_is : gossip_post (replica_at (machine_of lay m) from).entries from to ≡ p
          post_is = sym (s ∙ ap (λ (r : ℕ). gossip_post (replica_at (machine_of lay m) r).entries from to) o)

          few : p.to < 2 ^ 16
          unfolding gossip_post
          few = rw s (only_lt 16 to (omega (arith, seven)))

          full : (r : Refusal) → number_of r ≡ room_code (machine_of lay m) 0 p.to → Took lay (step (gossip from to) (machine_of lay m)) (coded (number_of r)) [] m m
          unfolding refusal effect_of gossip_effect
          full r y =
              took_refused lay (gossip from to) m (number_of r) _ g.long (numbered r)
              (rw (passes, own_down, ne_eqb _ _ up, post_is, lacks_slots (machine_of lay m) nothing p few r y, (crowded (machine_of lay m) 0 p.to r y).1)) refl

          done : (l : List ℕ) → 0 ≡ room_code (machine_of lay m) 0 p.to → a ≡ coded 0
              → l ≡ words (with_slots (machine_of lay m) (placed (messages_of p) (machine_of lay m).slots)) (drop (extent lay) m)
              → Took lay (step (gossip from to) (machine_of lay m)) a [] m l
          unfolding refusal effect_of gossip_effect
          done l y q t =
              took_accepted lay (gossip from to) m l [] a
              (rw (passes, own_down, ne_eqb _ _ up, post_is, has_slots (machine_of lay m) nothing p few y)) q refl (rw post_is t)

pub returns-in_err-ask : goal.returns-in_err-ask
returns-in_err-ask c =
    rw (handed_on c.from_residual.result _ c.from_residual.ensures.1) (search (call_refused, c.in_err-ask.ensures))

pub returns-in_err-sender : goal.returns-in_err-sender
returns-in_err-sender c =
    rw (handed_on c.from_residual-in_err-sender.result _ c.from_residual-in_err-sender.ensures.1) (search (call_taken, out_from, c.in_ok-ask.ensures.0, c.in_err-sender.ensures))

pub returns-in_err-receiver : goal.returns-in_err-receiver
returns-in_err-receiver c =
    rw (handed_on c.from_residual-in_err-receiver.result _ c.from_residual-in_err-receiver.ensures.1) (search (call_taken, out_to, c.in_ok-ask.ensures.0, c.in_ok-sender.ensures, c.in_err-receiver.ensures))

pub returns-then-sender-receiver : goal.returns-then-sender-receiver
returns-then-sender-receiver c = search (call_taken, itself, c.in_ok-ask.ensures.0, c.in_ok-sender.ensures, c.in_ok-receiver.ensures)

pub down-requires : goal.down-requires
down-requires c = let g = c.in_ok-ask.ensures.0 in (search rules, search (replica_place, c.in_ok-sender.ensures))

pub returns-then-down-eq1 : goal.returns-then-down-eq1
returns-then-down-eq1 c = search (call_taken, down, c.in_ok-ask.ensures.0, c.in_ok-sender.ensures, c.in_ok-receiver.ensures)

pub gossip_post-p-requires : goal.gossip_post-p-requires
gossip_post-p-requires c = search (able, c.in_ok-ask.ensures.0, c.in_ok-sender.ensures, c.in_ok-receiver.ensures)

pub returns-in_err-ask_room : goal.returns-in_err-ask_room
returns-in_err-ask_room c =
    rw (handed_on c.from_residual-in_err-ask_room.result _ c.from_residual-in_err-ask_room.ensures.1) (search (call_taken, full, c.in_ok-ask.ensures.0, c.in_ok-sender.ensures, c.in_ok-receiver.ensures, c.in_err-ask_room.ensures))

pub send-requires : goal.send-requires
send-requires c = let g = c.in_ok-ask.ensures.0 in (search rules, search (few, c.in_ok-sender.ensures, c.in_ok-receiver.ensures))

pub returns : goal.returns
returns c = search (call_taken, done, c.in_ok-ask.ensures.0, c.in_ok-sender.ensures, c.in_ok-receiver.ensures, c.in_ok-ask_room.ensures)
