-- What a good machine says of the message in a slot: its receiver and its sender are parties of their kinds.
use Rattle.std.specs.Prelude.{Option, None, Some}
use Rattle.std.proofs.lemmas.Option.{none-some}
use mathlib.Core.Path.{◌≡◌, refl, sym, ap, ◌∙◌}
use mathlib.Core.List.{List}
use Prim.Native.Nat.{ℕ, suc, ◌^◌, ◌≤◌, ◌<◌}
use native.Mathlib.Nat.{lt_of_lt_of_le}
use native.Mathlib.Decide.{ℕ_discrete}
use native.Mathlib.Omega.{arith}
use borrow.Author.Tests.{ne_eqb}
use lib.Pow.{pow_mono}
use Rattle.sets.specs.Sets.{all}
use Rattle.sets.proofs.Laws.{all_lt}
use Rattle.tables.specs.declared.Layout.{Layout}
use Rattle.tables.specs.declared.Conf.{Conf}
use Rattle.tables.specs.declared.Message.{Message}
use Rattle.tables.specs.declared.Party.{Party}
use Rattle.tables.specs.declared.Party.TheVariants.{AClient, ADirectory, AReplica}
use Rattle.tables.specs.Kinds.{sender_of, receiver_of, many_of, many_named}
use Rattle.tables.specs.Tables.{slot_at}
use Rattle.tables.specs.Machines.{conf_of, machine_of}
use Rattle.tables.proofs.Read.{its_slots}
use Rattle.inspect.proofs.Facts.{NumbersFacts, MessageFacts, message_facts}
use Rattle.inspect.proofs.Machines.{message_good, good_machine_lem}
use Rattle.machine.specs.Inner.{Ready, Arrived}
use Rattle.machine.proofs.Parties.{numbers_of_lem, many_few}

-- the numbers of a buffer
pub conf_of_lem : (lay : Layout) (m : List ℕ) → conf_of m ≡ (machine_of lay m).conf
unfolding machine_of
conf_of_lem lay m = refl

-- a set of few parties is one of many
pub below_two : (n k s : ℕ) → s < 2 ^ n → n ≤ k → s < 2 ^ k
below_two n k s h l = lt_of_lt_of_le h (pow_mono l)

pub all_small : (n : ℕ) → n ≤ 16 → all n < 2 ^ 16
all_small n h = below_two n 16 (all n) (all_lt n) h

pub many_sixteen : {n : ℕ} {k : Conf} → NumbersFacts n k → k.directories ≤ 16 → (who : Option Party) → many_named k who ≤ 16
many_sixteen f h None = omega arith
many_sixteen f h (Some AClient) = omega (arith, f.few_clients)
many_sixteen f h (Some ADirectory) = h
many_sixteen f h (Some AReplica) = omega (arith, f.few_replicas)

module _ (lay : Layout) (m : List ℕ) (s : ℕ) (x : Message) (g : Ready lay m) (b : s < 128) (e : x ≡ slot_at (machine_of lay m) (suc s)) where
  message_of_lem : (x.kind ≡ 0 → ⊥) → MessageFacts (machine_of lay m).conf x
  message_of_lem z =
      rw e
      (message_facts (machine_of lay m).conf (slot_at (machine_of lay m) (suc s))
      (message_good (machine_of lay m) (good_machine_lem lay m g.fine) (suc s) (omega arith) (omega (arith, its_slots lay m)) (ne_eqb _ 0 (λ q. z (ap (λ (y : Message). y.kind) e ∙ q)))))

  -- a message for nobody is none
  pub is_void_lem : receiver_of x.kind ≡ None → x.kind ≡ 0
  is_void_lem q = go (ℕ_discrete x.kind 0)
    where
      go : Dec (x.kind ≡ 0) → x.kind ≡ 0
      go (yes z) = z
      go (no z) = let f = message_of_lem z in absurd (omega (arith, f.some_receiver, rw q at f.receiver))

  pub arrived : (who : Party) → receiver_of x.kind ≡ Some who → Arrived lay who m s x
  unfolding receiver_of
  arrived who q =
      let some : x.kind ≡ 0 → ⊥ = λ k. none-some who (ap receiver_of (sym k) ∙ q) in
      let f = message_of_lem some in
      let n = numbers_of_lem lay m g.fine (machine_of lay m).conf (sym (conf_of_lem lay m)) in
      let from : x.sender ≤ 16 = omega (arith, f.sender, many_sixteen n (omega (arith, n.few_directories, g.long.few)) (sender_of x.kind)) in
      let to : x.receiver ≤ many_of (machine_of lay m).conf who = rw q at f.receiver in
      record {
        long = g.long;
        fine = g.fine;
        slot = b;
        here = e;
        some = some;
        whose = q;
        sender = record { low = f.some_sender; high = omega arith };
        few = from;
        set = below_two (machine_of lay m).conf.replicas 16 x.set f.set (omega (arith, n.few_replicas));
        low = f.some_receiver;
        high = omega (arith, to, many_few lay (machine_of lay m).conf n who);
        inside = to;
      }
