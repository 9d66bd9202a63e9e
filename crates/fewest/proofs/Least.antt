-- NO FEWER: where a client is idle, no sequence of calls without set-up ends an operation of it below the price, whoever is up and whatever room there is.
use Rattle.std.specs.Prelude.{if◌then◌else◌}
use mathlib.Core.Path.{◌≡◌, refl, subst}
use mathlib.Core.Bool.{Bool, true, false, not}
use mathlib.Core.List.{List, [], ◌∷◌}
use mathlib.Core.Logic.{◌⊎◌, inl, inr}
use Prim.Native.Nat.{ℕ, suc, ◌+◌, ◌≤◌}
use native.Mathlib.Nat.{zero-add}
use native.Mathlib.Omega.{arith}
use lib.Dec.{T, eqb, eqb→eq}
use lib.Pow.{pow_pos}
use Rattle.sets.proofs.Laws.{size_none}
use Rattle.sets.proofs.Tests.{if_ind}
use Rattle.tables.specs.declared.Layout.{Layout}
use Rattle.tables.specs.declared.Conf.{Conf}
use Rattle.tables.specs.Tables.{Page, Machine, client_at}
use Rattle.rules.specs.Answers.{coded}
use Rattle.rules.specs.declared.Answer.{Answer}
use Rattle.machine.specs.Calls.{Call}
use Rattle.machine.specs.Steps.{effect_of, Result, accepted, code_of, step}
use Rattle.machine.specs.Buffers.{wrong_page, is_set_up, call}
use Rattle.runs.specs.Runs.{sized_step}
use Rattle.runs.proofs.Ways.{StepWay, refuses, accepts, step_way}
use Rattle.runs.proofs.Acts.{Among}
use Rattle.history.proofs.Shape.{client_in}
use Rattle.history.proofs.Kept.{acts_later}
use Rattle.history.proofs.Walk.{Good}
use Rattle.history.proofs.Reached.{Held, held, held_call, held_answer}
use Rattle.fewest.specs.Fewest.{is_deliver, deliveries, no_set_up, Answers}
use Rattle.fewest.proofs.Spent.{Cost, price_of, cost_of, spends, ends}
use Rattle.fewest.proofs.Held.{call_acts, held_few}

-- ---- one call

record Costs (M : Machine) (c d : ℕ) (q : Call) (r : Result) : Type 0 where
  conf : r.machine.conf ≡ M.conf
  next : Cost M.conf c r.machine.slots (d + cost_of q) (client_at r.machine c)
  price : r.answer.client ≡ c → price_of M.conf r.answer.code ≤ d + cost_of q

-- a refusal ends nothing
no_price : (k : Conf) (n d : ℕ) → 16 ≤ n → price_of k n ≤ d
no_price k n d h =
    if_ind (λ (p : ℕ). p ≤ d) (eqb n 1) (λ e. absurd (omega (arith, eqb→eq n 1 e)))
    (λ _. if_ind (λ (p : ℕ). p ≤ d) (eqb n 2) (λ e. absurd (omega (arith, eqb→eq n 2 e))) (λ _. omega arith))

module _ (M : Machine) (G : Good M) (few : M.conf.directories ≤ 16) (c d : ℕ) (g : Cost M.conf c M.slots d (client_at M c)) (q : Call)
    (n : T (not (is_set_up q))) where
  stays : (code : ℕ) (page : Page) → 16 ≤ code → Costs M c d q (record { answer = coded code; page = page; machine = M })
  stays code page h =
      record {
        conf = refl;
        next = record { replied = g.replied; few = g.few; inside = g.inside; waits = g.waits; paid = omega (arith, g.paid) };
        price = λ _. no_price M.conf code (d + cost_of q) h;
      }

  acted : code_of q M ≡ 0 → Costs M c d q (accepted (effect_of q M) M)
  acted h =
      let a = call_acts q M n h in
      record {
        conf = (acts_later M a).conf;
        next = spends M G.sound few G.invariant c d g a;
        price = ends M G.sound few G.invariant c d g a;
      }

  stepped : Costs M c d q (step q M)
  stepped = go (step_way q M)
    where
      go : {r : Result} → StepWay q M r → Costs M c d q r
      go (refuses k) = stays (code_of q M) _ (omega arith)
      go (accepts h) = acted h

  costs : Costs M c d q (sized_step q M)
  costs = if_ind (Costs M c d q) (wrong_page q) (λ _. stays 16 _ (omega arith)) (λ _. stepped)

-- ---- a sequence of calls on a buffer

both : (a b : Bool) → T (not (if a then true else b)) → T (not a) × T (not b)
both true b h = absurd h
both false b h = (tt, h)

counted : (b : Bool) (n : ℕ) → (if b then suc n else n) ≡ (if b then 1 else 0) + n
counted true n = omega arith
counted false n = omega arith

module _ (lay : Layout) (few : lay.directories ≤ 16) (code c : ℕ) where
  least : (qs : List Call) (d : ℕ) {M : Machine} {m : List ℕ} → T (no_set_up qs) → Held lay M m → Cost M.conf c M.slots d (client_at M c)
      → Answers lay code c m qs → price_of M.conf code ≤ d + deliveries qs
  least [] d n H g a = absurd a
  least (q ∷ qs) d {M} {m} n (held G r t) g a =
      go a (least qs (d + cost_of q) n'.1 (held_call lay q (held G r t)) (rw k.conf k.next))
    where
      n' : T (not (is_set_up q)) × T (no_set_up qs)
      n' = both (is_set_up q) _ n

      k : Costs M c d q (sized_step q M)
      k = costs M G (held_few lay few (held G r t)) c d g q n'.0

      go : (((call lay q m).answer.code ≡ code) × ((call lay q m).answer.client ≡ c)) ⊎ Answers lay code c (call lay q m).buffer qs
          → (Answers lay code c (call lay q m).buffer qs → price_of (sized_step q M).machine.conf code ≤ d + cost_of q + deliveries qs)
          → price_of M.conf code ≤ d + deliveries (q ∷ qs)
      go (inl e) f =
          let s = subst (λ (x : Answer). (x.code ≡ code) × (x.client ≡ c)) (held_answer lay q (held G r t)) e in
          omega (arith, counted (is_deliver q) (deliveries qs), subst (λ (z : ℕ). price_of M.conf z ≤ d + cost_of q) s.0 (k.price s.1))
      go (inr a) f =
          omega (arith, counted (is_deliver q) (deliveries qs), subst (λ (z : Conf). price_of z code ≤ d + cost_of q + deliveries qs) k.conf (f a))

  -- an idle client owes nothing yet
  idle_cost : (M : Machine) → Good M → Among M.conf.clients c → (client_at M c).phase ≡ 0 → Cost M.conf c M.slots 0 (client_at M c)
  idle_cost M G i e =
      record {
        replied = 0;
        few = rw none (pow_pos 16);
        inside = λ p m. rw none at m;
        waits = λ o. absurd (omega arith);
        paid = rw (e, none) (omega (arith, size_none));
      }
    where
      none : (client_at M c).answered ≡ 0
      none = (client_in M G.sound c i).unasked (rw e) (rw e)

  pub no_fewer : {M : Machine} {m : List ℕ} → Held lay M m → Among M.conf.clients c → (client_at M c).phase ≡ 0
      → (qs : List Call) → T (no_set_up qs) → Answers lay code c m qs → price_of M.conf code ≤ deliveries qs
  no_fewer {M} (held G r t) i e qs n a = rw zero-add at (least qs 0 n (held G r t) (idle_cost M G i e) a)
