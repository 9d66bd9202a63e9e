-- A party whose number is in range, on a machine that is not bad: where its row stands.
use mathlib.Core.Path.{◌≡◌}
use mathlib.Core.Bool.{Bool, true}
use mathlib.Core.List.{List}
use Prim.Native.Nat.{ℕ, suc, ◌≤◌, ◌<◌}
use native.Mathlib.Omega.{arith}
use borrow.Author.Tests.{le-leb}
use Rattle.tables.specs.declared.Layout.{Layout}
use Rattle.tables.specs.declared.Conf.{Conf}
use Rattle.tables.specs.declared.Party.{Party}
use Rattle.tables.specs.declared.Party.TheVariants.{AClient, ADirectory, AReplica}
use Rattle.tables.specs.Kinds.{many_of}
use Rattle.tables.specs.Inner.{most_of}
use Rattle.tables.specs.Machines.{conf_of, machine_of}
use Rattle.tables.proofs.Read.{its_room}
use Rattle.inspect.specs.Good.{between, is_party, good_numbers, good}
use Rattle.inspect.proofs.Facts.{NumbersFacts, numbers_facts}
use Rattle.inspect.proofs.Machines.{numbers_pass, good_machine_lem}
use Rattle.rules.specs.Inner.{Few}
use Rattle.machine.specs.Inner.{Ready}

pub own_party : (lay : Layout) (m : List ℕ) (k : Conf) → k ≡ conf_of m → (who : Party) (id : ℕ) (b : Bool) → b ≡ is_party k who id → is_party (machine_of lay m).conf who id ≡ b
unfolding machine_of
own_party lay m k at who id b e = rw (← at, e)

-- the numbers of a machine that is not bad
pub ready_numbers : (lay : Layout) (m : List ℕ) → good lay m ≡ true → (k : Conf) → k ≡ conf_of m → good_numbers lay.directories k ≡ true
unfolding machine_of
ready_numbers lay m g k at = rw (at, ← its_room lay m) (numbers_pass (machine_of lay m) (good_machine_lem lay m g))

pub numbers_of_lem : (lay : Layout) (m : List ℕ) → good lay m ≡ true → (k : Conf) → k ≡ conf_of m → NumbersFacts lay.directories k
numbers_of_lem lay m g k at = numbers_facts lay.directories k (ready_numbers lay m g k at)

pub few_sets : (d : ℕ) (k : Conf) → d ≤ 16 → good_numbers d k ≡ true → Few k
few_sets d k h g = let n = numbers_facts d k g in record { directories = omega arith; replicas = omega arith }

pub many_few : (lay : Layout) (k : Conf) (n : NumbersFacts lay.directories k) (who : Party) → many_of k who ≤ most_of lay who
many_few lay k n AClient = n.few_clients
many_few lay k n ADirectory = n.few_directories
many_few lay k n AReplica = n.few_replicas

-- number id stands at i, counted from 0
module _ (i id : ℕ) (o : suc i ≡ id) where
  pub in_range : (n : ℕ) → id ≤ n → between 1 n id ≡ true
  in_range n h = rw (le-leb 1 id (omega arith), le-leb id n h)

  module _ (lay : Layout) (m : List ℕ) (g : Ready lay m) (k : Conf) (at : k ≡ conf_of m) where
    pub party_place : (who : Party) (n : ℕ) → n ≡ many_of k who → id ≤ n → i < most_of lay who
    party_place who n q h = omega (arith, many_few lay k (numbers_of_lem lay m g.fine k at) who)

    pub client_place : id ≤ k.clients → i < 8
    client_place h = omega (arith, (numbers_of_lem lay m g.fine k at).few_clients)

    pub replica_place : id ≤ k.replicas → i < 7
    replica_place h = omega (arith, (numbers_of_lem lay m g.fine k at).few_replicas)
