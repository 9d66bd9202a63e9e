-- Crash of a party of any kind: the ways out.
use Rattle.std.specs.Prelude.{Option, None, Some}
use mathlib.Core.Path.{◌≡◌, refl, sym, ap, subst, ◌∙◌}
use mathlib.Core.Bool.{Bool, true, false}
use mathlib.Core.List.{List, []}
use Prim.Native.Nat.{ℕ, suc, ◌≤◌}
use native.Mathlib.Omega.{arith}
use borrow.Author.Tests.{eq-eqb, ne_eqb}
use lib.ListN.{drop}
use Rattle.tables.specs.declared.Layout.{Layout}
use Rattle.tables.specs.declared.Conf.{Conf}
use Rattle.tables.specs.declared.Party.{Party}
use Rattle.tables.specs.declared.Party.TheVariants.{AClient, ADirectory, AReplica}
use Rattle.tables.specs.Layouts.{extent}
use Rattle.tables.specs.Kinds.{many_of}
use Rattle.tables.specs.Tables.{Machine, down_word}
use Rattle.tables.specs.Inner.{with_down}
use Rattle.tables.specs.Words.{words}
use Rattle.tables.specs.Machines.{conf_of, machine_of}
use Rattle.inspect.specs.Good.{between, is_party}
use Rattle.rules.specs.declared.Answer.{Answer}
use Rattle.rules.specs.Answers.{coded}
use Rattle.machine.specs.Effects.{Change, changed}
use Rattle.machine.specs.Calls.{crash, party_of, downed, crash_effect}
use Rattle.machine.specs.Refusals.{refusal}
use Rattle.machine.specs.Steps.{effect_of, step}
use Rattle.machine.specs.declared.refusal.Refusal.{Refusal}
use Rattle.machine.specs.Told.{number_of}
use Rattle.machine.specs.Inner.{Ready, Took}
use Rattle.machine.proofs.Parties.{in_range, own_party}
use Rattle.machine.proofs.Quiet.{quiet_fits, quiet_applied}
use Rattle.machine.proofs.Steps.{took_refused, took_accepted}

-- the machine that is written is the one of the definitions
downed_is : (M : Machine) (who : Party) (p : ℕ) → with_down M who p 1 ≡ changed (downed M (Some who) p) M
downed_is M AClient p = refl
downed_is M ADirectory p = refl
downed_is M AReplica p = refl

-- the number names no kind
pub crash_unnamed : (lay : Layout) (m : List ℕ) (g : Ready lay m) (kind id : ℕ) (w : Option Party) → w ≡ party_of kind → w ≡ None → (a : Answer) → a ≡ coded 18
    → Took lay (step (crash kind id) (machine_of lay m)) a [] m m
unfolding refusal
crash_unnamed lay m g kind id w v o a q = took_refused lay (crash kind id) m 18 a g.long (λ z. omega arith) (rw (← v, o)) q

-- n parties of the kind that the number names
module _ (lay : Layout) (m : List ℕ) (g : Ready lay m) (kind id : ℕ) (w : Option Party) (v : w ≡ party_of kind) (k : Conf) (at : k ≡ conf_of m) (who : Party) (o : w ≡ Some who)
    (n : ℕ) (many : n ≡ many_of k who) where
  named : party_of kind ≡ Some who
  named = sym v ∙ o

  party_is : (b : Bool) → between 1 n id ≡ b → is_party (machine_of lay m).conf who id ≡ b
  party_is b e = own_party lay m k at who id b (sym e ∙ rw many)

  pub crash_out : (r : Refusal) → between 1 n id ≡ false → number_of r ≡ 18 → Took lay (step (crash kind id) (machine_of lay m)) (coded (number_of r)) [] m m
  unfolding refusal
  crash_out r h q = took_refused lay (crash kind id) m 18 _ g.long (λ z. omega arith) (rw (named, party_is false h)) (ap coded q)

  -- d is the down word of its row, which stands at i, counted from 0
  module _ (i : ℕ) (at_place : suc i ≡ id) (h : id ≤ n) (a : Answer) (d : ℕ) (f : d ≡ down_word (machine_of lay m) who (suc i)) where
    own_down : down_word (machine_of lay m) who id ≡ d
    own_down = subst (λ (p : ℕ). down_word (machine_of lay m) who p ≡ d) at_place (sym f)

    pub crash_down : d ≡ 1 → a ≡ coded 19 → Took lay (step (crash kind id) (machine_of lay m)) a [] m m
    unfolding refusal
    crash_down z q = took_refused lay (crash kind id) m 19 a g.long (λ y. omega arith) (rw (named, party_is true (in_range i id at_place n h), own_down, eq-eqb _ _ z)) q

    pub crash_done : (l : List ℕ) → (d ≡ 1 → ⊥) → a ≡ coded 0 → l ≡ words (with_down (machine_of lay m) who (suc i) 1) (drop (extent lay) m)
        → Took lay (step (crash kind id) (machine_of lay m)) a [] m l
    unfolding refusal effect_of crash_effect
    crash_done l z q s =
        let change : Change = downed (machine_of lay m) (Some who) id in
        took_accepted lay (crash kind id) m l [] a (rw (named, party_is true (in_range i id at_place n h), own_down, ne_eqb _ _ z, quiet_fits (machine_of lay m) change)) q refl
        (rw (named, quiet_applied (machine_of lay m) change)
        (subst (λ (p : ℕ). l ≡ words (changed (downed (machine_of lay m) (Some who) p) (machine_of lay m)) (drop (extent lay) m)) at_place
        (s ∙ ap (λ (M : Machine). words M (drop (extent lay) m)) (downed_is (machine_of lay m) who (suc i)))))
