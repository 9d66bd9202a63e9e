-- A delivery to a client.
use Rattle.std.specs.Prelude.{if◌then◌else◌}
use mathlib.Core.Path.{◌≡◌, refl, sym, ap, ◌∙◌}
use mathlib.Core.Bool.{Bool, true, false}
use mathlib.Core.List.{List}
use mathlib.Core.Logic.{⊎_elim}
use Prim.Native.Nat.{ℕ, suc, ◌-◌, ◌^◌, ◌≤◌, ◌<◌}
use native.Mathlib.Omega.{arith}
use borrow.Author.Tests.{eq-eqb, ne_eqb, eqb-true}
use lib.Dec.{eqb}
use lib.ListN.{length, drop}
use Rattle.tables.specs.Layouts.{extent}
use Rattle.sets.specs.declared.Tag.{Tag}
use Rattle.sets.proofs.Tests.{either, false-T}
use Rattle.tables.specs.declared.Layout.{Layout}
use Rattle.tables.specs.declared.Client.{Client}
use Rattle.tables.specs.declared.Conf.{Conf}
use Rattle.tables.specs.declared.Message.{Message}
use Rattle.tables.specs.declared.Party.TheVariants.{AClient}
use Rattle.tables.specs.Phases.{asks_directories, asks_replicas}
use Rattle.tables.specs.Tables.{Page, no_message, is_empty, client_at, with_slot}
use Rattle.tables.specs.Words.{words}
use Rattle.tables.specs.Machines.{conf_of, machine_of}
use Rattle.tables.proofs.Read.{clients_many}
use Rattle.tables.proofs.Quorums.{columns_within}
use Rattle.inspect.proofs.Facts.{NumbersFacts, ClientFacts, client_facts}
use Rattle.inspect.proofs.Machines.{client_good, good_machine_lem}
use Rattle.rules.specs.declared.Answer.{Answer}
use Rattle.rules.specs.declared.Outcome.{Outcome}
use Rattle.rules.specs.declared.Outcome.TheVariants.{Waiting, Next, ReadEnded, WriteEnded, Spent, Stale}
use Rattle.rules.specs.Answers.{coded, answer_of}
use Rattle.rules.specs.Client.{outcome, client_after, client_post}
use Rattle.rules.specs.Inner.{ClientAble}
use Rattle.rules.proofs.Views.{next_room}
use Rattle.machine.specs.Effects.{client}
use Rattle.machine.specs.Calls.{deliver, is_down}
use Rattle.machine.specs.Deliver.{taken, filled, client_effect, deliver_effect}
use Rattle.machine.specs.Steps.{step}
use Rattle.machine.specs.Inner.{Took, Arrived, has_room, Committed, Turned}
use Rattle.machine.proofs.Arrivals.{conf_of_lem, below_two}
use Rattle.machine.proofs.Addressed.{Small, client_few}
use Rattle.machine.proofs.Parties.{ready_numbers, few_sets, numbers_of_lem}
use Rattle.machine.proofs.Landings.{own, effect_up, lands, drops, not_full, room_none, page_kept}

-- the page is filled only where nothing is sent
filled_by : (x : Message) (page : Page) (o : Outcome) (b : Bool) → ((t : Tag) (n : ℕ) → o ≡ ReadEnded t n → b ≡ true) → filled o x page ≡ (if b then filled o x page else page)
filled_by x page (ReadEnded t n) b h = rw (h t n refl)
filled_by x page Waiting b h = page_kept b page
filled_by x page (Next t) b h = page_kept b page
filled_by x page (WriteEnded t) b h = page_kept b page
filled_by x page Spent b h = page_kept b page
filled_by x page Stale b h = page_kept b page

many_clients : (lay : Layout) (m : List ℕ) → length (machine_of lay m).clients ≡ 8
unfolding machine_of
many_clients lay m = clients_many (drop 16 m)

module _ {lay : Layout} {m : List ℕ} {s : ℕ} {x : Message} (g : Arrived lay AClient m s x) where
  module _ (w : Client) (e : w ≡ client_at (machine_of lay m) (suc (x.receiver - 1))) where
    here : w ≡ client_at (machine_of lay m) x.receiver
    here = e ∙ ap (λ (n : ℕ). client_at (machine_of lay m) n) (own g)

    flag : (b : Bool) → eqb w.down 1 ≡ b → is_down (machine_of lay m) AClient x.receiver ≡ b
    flag b h = rw here at h

    pub client_down : (page : List ℕ) (a : Answer) (l : List ℕ) → w.down ≡ 1 → a ≡ coded 4 → l ≡ words (with_slot (machine_of lay m) (suc s) no_message) (drop (extent lay) m)
        → Took lay (step (deliver (suc s) page) (machine_of lay m)) a page m l
    client_down page a l f h k = drops g page (flag true (eq-eqb _ _ f)) (not_full g (λ q. cc)) a l h k

    module _ (k : Conf) (c : k ≡ conf_of m) where
      facts : ClientFacts k w
      facts =
          rw (c ∙ conf_of_lem lay m, here)
          (client_facts (machine_of lay m).conf (client_at (machine_of lay m) x.receiver)
          (client_good (machine_of lay m) (good_machine_lem lay m g.fine) x.receiver g.low g.inside (omega (arith, g.high, many_clients lay m))))

      numbers : NumbersFacts lay.directories k
      numbers = numbers_of_lem lay m g.fine k c

      -- the parties of a word
      few_parties : (n : ℕ) → n ≤ 16 → (s : ℕ) → s < 2 ^ n → Small s
      few_parties n h s l = below_two n 16 s l (omega arith)

      pub client_able : ClientAble k w x
      client_able =
          let n = numbers in
          let d : k.directories ≤ 31 = omega (arith, n.few_directories) in
          record { few = n.few_crashes; columns = omega (arith, columns_within k n.quorums); directories = d; room = facts.rounds; sender = g.sender }

      answered_few : Small w.answered
      answered_few =
          ⊎_elim (λ (h : asks_directories w.phase ≡ true). few_parties k.directories (omega (arith, numbers.few_directories)) w.answered (facts.asked h))
          (λ (h : asks_directories w.phase ≡ false).
          ⊎_elim (λ (j : asks_replicas w.phase ≡ true). few_parties k.replicas (omega (arith, numbers.few_replicas)) w.answered (facts.asked_replicas (eqb-true w.phase 5 j)))
          (λ (j : asks_replicas w.phase ≡ false). omega (arith, facts.unasked h j)) (either (asks_replicas w.phase)))
          (either (asks_directories w.phase))

      module _ (o : Outcome) (q : o ≡ outcome k x.receiver w x) where
        pub client_turned : Turned lay m s x k w o
        client_turned =
            let n = numbers in
            record {
              long = g.long;
              slot = g.slot;
              low = g.low;
              high = g.high;
              few = few_sets lay.directories k g.long.few (ready_numbers lay m g.fine k c);
              able = record {
                sender = g.sender;
                low = facts.phase;
                next = λ t h. omega (arith, facts.rounds, n.top_fits, next_room k x.receiver w x t (false-T (is_empty x) (ne_eqb _ _ g.some)) (sym q ∙ h));
              };
              sent = client_few lay.directories g.long.few k n w x answered_few (few_parties k.replicas (omega (arith, n.few_replicas)) w.replicas facts.set) g.set (omega (arith, g.few)) x.receiver o;
            }

        pub client_takes : (page p : List ℕ) (a : Answer) (l : List ℕ) → (w.down ≡ 1 → ⊥) → p ≡ filled o x page
            → Committed lay m s (client (suc (x.receiver - 1)) (client_after w x o)) (client_post k x.receiver w (client_after w x o) o) (answer_of x.receiver o) a l
            → Took lay (step (deliver (suc s) page) (machine_of lay m)) a p m l
        unfolding client_effect client_post
        client_takes page p a l f u v =
            lands g page (not_full g (λ q. cc)) (client (suc (x.receiver - 1)) (client_after w x o)) (client_post k x.receiver w (client_after w x o) o)
            (answer_of x.receiver o) (filled o x page) effect client_turned.sent a p l v
            (u ∙ filled_by x page o (has_room (machine_of lay m) (client_post k x.receiver w (client_after w x o) o)) room)
          where
            effect : deliver_effect (machine_of lay m) (suc s) page
                ≡ taken (suc s) (client (suc (x.receiver - 1)) (client_after w x o)) (client_post k x.receiver w (client_after w x o) o) (answer_of x.receiver o) (filled o x page)
            effect = effect_up g page (flag false (ne_eqb _ _ f)) ∙ rw (own g, q, c, conf_of_lem lay m, here)

            room : (t : Tag) (n : ℕ) → o ≡ ReadEnded t n → has_room (machine_of lay m) (client_post k x.receiver w (client_after w x o) o) ≡ true
            room t n h = rw h (room_none (machine_of lay m))
