-- The receivers of what a client sends: a set of at most 16 parties.
use Prim.Native.Nat.{ℕ, ◌^◌, ◌≤◌, ◌<◌}
use native.Mathlib.Omega.{arith}
use lib.Dec.{eqb}
use Rattle.std.specs.declared.cmp.Ordering.{Ordering}
use Rattle.std.specs.declared.cmp.Ordering.TheVariants.{Less, Equal, Greater}
use Rattle.sets.specs.Tags.{against}
use Rattle.sets.specs.Sets.{with, all}
use Rattle.sets.proofs.Laws.{join_lt, with_lt}
use Rattle.sets.proofs.Tests.{if_ind}
use Rattle.tables.specs.declared.Client.{Client}
use Rattle.tables.specs.declared.Conf.{Conf}
use Rattle.tables.specs.declared.Message.{Message}
use Rattle.mail.specs.declared.Post.{Post}
use Rattle.inspect.proofs.Facts.{NumbersFacts}
use Rattle.rules.specs.declared.Outcome.{Outcome}
use Rattle.rules.specs.declared.Outcome.TheVariants.{Waiting, Next, ReadEnded, WriteEnded, Spent, Stale}
use Rattle.rules.specs.Client.{gathered, raised, heard, moved, client_after, request, secures, client_post}
use Rattle.rules.proofs.Heard.{heard_answered}
use Rattle.machine.proofs.Arrivals.{all_small}

abbrev pub Small : ℕ → Type 0
Small n = n < 2 ^ 16

abbrev pub Sends : Post → Type 0
Sends y = y.to < 2 ^ 16

module _ (d : ℕ) (few : d ≤ 16) (k : Conf) (n : NumbersFacts d k) where
  pub request_few : (own : ℕ) (y : Client) → Small y.replicas → Sends (request k own y)
  unfolding request
  request_few own y h =
      let d : Small (all k.directories) = all_small k.directories (omega (arith, n.few_directories)) in
      let r : Small (all k.replicas) = all_small k.replicas (omega (arith, n.few_replicas)) in
      if_ind Sends (eqb y.phase 1) (λ _. d)
      (λ _. if_ind Sends (eqb y.phase 2) (λ _. d)
      (λ _. if_ind Sends (eqb y.phase 3) (λ _. h)
      (λ _. if_ind Sends (eqb y.phase 4) (λ _. d)
      (λ _. if_ind Sends (eqb y.phase 5) (λ _. r)
      (λ _. if_ind Sends (eqb y.phase 6) (λ _. d) (λ _. omega arith))))))

  module _ (w : Client) (x : Message) (a : Small w.answered) (s : Small w.replicas) (t : Small x.set) (p : x.sender ≤ 16) where
    heard_set : Small (heard w x).replicas
    unfolding heard
    heard_set =
        if_ind (λ (y : Client). Small y.replicas) (eqb w.phase 1) (λ _. gathers (against x.tag w.tag))
        (λ _. if_ind (λ (y : Client). Small y.replicas) (eqb w.phase 4) (λ _. raises (against x.tag w.tag)) (λ _. s))
      where
        gathers : (o : Ordering) → Small (gathered w (with w.answered x.sender) x.tag x.set o).replicas
        gathers Greater = t
        gathers Equal = join_lt 16 w.replicas x.set s t
        gathers Less = s

        raises : (o : Ordering) → Small (raised w (with w.answered x.sender) x.tag o).replicas
        raises Greater = s
        raises Equal = s
        raises Less = s

    pub client_few : (own : ℕ) (o : Outcome) → Sends (client_post k own w (client_after w x o) o)
    unfolding client_post client_after secures
    client_few own Stale = omega arith
    client_few own Waiting = omega arith
    client_few own (Next t) =
        request_few own (moved (heard w x) t)
        (if_ind Small (eqb (heard w x).phase 5) (λ _. rw (heard_answered w x) (with_lt 16 w.answered x.sender a p)) (λ _. heard_set))
    client_few own (ReadEnded t n) = omega arith
    client_few own (WriteEnded t) = s
    client_few own Spent = omega arith
