use mathlib.Core.Path.{◌≡◌, refl, sym, ap, ◌∙◌}
use mathlib.Core.Bool.{Bool, true, false}
use mathlib.Core.List.{List, []}
use Prim.Native.Nat.{ℕ, suc, ◌≤◌}
use native.Mathlib.Omega.{arith}
use borrow.Author.Rules.{rules}
use borrow.Author.Tests.{eq-eqb, ne_eqb}
use lib.ListN.{drop}
use Rattle.tables.specs.declared.Layout.{Layout}
use Rattle.tables.specs.declared.Conf.{Conf}
use Rattle.tables.specs.declared.Party.TheVariants.{AReplica}
use Rattle.tables.specs.Layouts.{extent}
use Rattle.tables.specs.Tables.{replica_at}
use Rattle.tables.specs.Words.{words}
use Rattle.tables.specs.Machines.{conf_of, machine_of}
use Rattle.inspect.specs.Good.{between, is_party}
use Rattle.rules.specs.declared.Answer.{Answer}
use Rattle.rules.specs.Answers.{coded}
use Rattle.rules.specs.Replica.{tidied}
use Rattle.machine.specs.Effects.{Change, replica}
use Rattle.machine.specs.Calls.{tidy, tidy_effect}
use Rattle.machine.specs.Refusals.{refusal}
use Rattle.machine.specs.Steps.{effect_of, step}
use Rattle.machine.specs.declared.refusal.Refusal.{Refusal}
use Rattle.machine.specs.Told.{number_of}
use Rattle.machine.specs.Inner.{Ready, Took, with_tidied}
use Rattle.machine.proofs.Parties.{in_range, own_party, replica_place}
use Rattle.machine.proofs.Quiet.{quiet_fits, quiet_applied}
use Rattle.machine.proofs.Steps.{took_refused, took_accepted, call_refused, call_taken}
use Rattle.machine.proofs.Refused.{handed_on}
use Rattle.machine.proofs.others.tidy.Goals as goal

module _ (lay : Layout) (m : List ℕ) (g : Ready lay m) (r : ℕ) (k : Conf) (at : k ≡ conf_of m) where
  party_is : (b : Bool) → between 1 k.replicas r ≡ b → is_party (machine_of lay m).conf AReplica r ≡ b
  party_is b e = own_party lay m k at AReplica r b (sym e)

  out : (e : Refusal) → between 1 k.replicas r ≡ false → number_of e ≡ 18 → Took lay (step (tidy r) (machine_of lay m)) (coded (number_of e)) [] m m
  unfolding refusal
  out e h q = took_refused lay (tidy r) m 18 _ g.long (λ z. omega arith) (rw (party_is false h)) (ap coded q)

  module _ (i : ℕ) (o : suc i ≡ r) (h : r ≤ k.replicas) (a : Answer) (d : ℕ) (f : d ≡ (replica_at (machine_of lay m) (suc i)).down) where
    own_down : (replica_at (machine_of lay m) r).down ≡ d
    own_down = sym (f ∙ ap (λ (p : ℕ). (replica_at (machine_of lay m) p).down) o)

    down : d ≡ 1 → a ≡ coded 19 → Took lay (step (tidy r) (machine_of lay m)) a [] m m
    unfolding refusal
    down z q = took_refused lay (tidy r) m 19 a g.long (λ y. omega arith) (rw (party_is true (in_range i r o k.replicas h), own_down, eq-eqb _ _ z)) q

    done : (l : List ℕ) → (d ≡ 1 → ⊥) → a ≡ coded 0 → l ≡ words (with_tidied (machine_of lay m) (suc i)) (drop (extent lay) m)
        → Took lay (step (tidy r) (machine_of lay m)) a [] m l
    unfolding refusal effect_of tidy_effect
    done l z q s =
        let change : Change = replica r (record { down = (replica_at (machine_of lay m) r).down; entries = tidied (replica_at (machine_of lay m) r).entries }) in
        took_accepted lay (tidy r) m l [] a (rw (party_is true (in_range i r o k.replicas h), own_down, ne_eqb _ _ z, quiet_fits (machine_of lay m) change)) q refl
        (rw (quiet_applied (machine_of lay m) change) (s ∙ ap (λ (p : ℕ). words (with_tidied (machine_of lay m) p) (drop (extent lay) m)) o))

pub returns-in_err-ask : goal.returns-in_err-ask
returns-in_err-ask c =
    rw (handed_on c.from_residual.result _ c.from_residual.ensures.1) (search (call_refused, c.in_err-ask.ensures))

pub returns-in_err-i : goal.returns-in_err-i
returns-in_err-i c =
    rw (handed_on c.from_residual-in_err-i.result _ c.from_residual-in_err-i.ensures.1) (search (call_taken, out, c.in_ok-ask.ensures.0, c.in_err-i.ensures))

pub down-requires : goal.down-requires
down-requires c = let g = c.in_ok-ask.ensures.0 in (search rules, search (replica_place, c.in_ok-i.ensures))

pub returns-then-down-eq1 : goal.returns-then-down-eq1
returns-then-down-eq1 c = search (call_taken, down, c.in_ok-ask.ensures.0, c.in_ok-i.ensures)

pub tidy_replica-requires : goal.tidy_replica-requires
tidy_replica-requires c = let g = c.in_ok-ask.ensures.0 in (search rules, search (replica_place, c.in_ok-i.ensures))

pub returns : goal.returns
returns c = search (call_taken, done, c.in_ok-ask.ensures.0, c.in_ok-i.ensures)
