-- The ways through a call that is no accepted set-up: it is refused and shows nothing, or it acts.
use Rattle.std.specs.Prelude.{Option, None, Some, if◌then◌else◌}
use mathlib.Core.Path.{◌≡◌, refl, sym, subst}
use Prim.Native.Nat.{ℕ, ◌≤◌}
use native.Mathlib.Omega.{arith}
use lib.Dec.{eqb, eqb→eq}
use Rattle.sets.proofs.Tests.{if_ind}
use Rattle.tables.specs.Tables.{Page, Machine}
use Rattle.rules.specs.declared.Answer.{Answer}
use Rattle.rules.specs.Answers.{coded}
use Rattle.machine.specs.Effects.{Effect, applied}
use Rattle.machine.specs.Calls.{Call, Start, a_read, a_write, asks}
use Rattle.machine.specs.Steps.{Result, code_of, step}
use Rattle.runs.specs.Runs.{Renews}
use Rattle.runs.proofs.Codes.{Refusing}
use Rattle.runs.proofs.Ways.{StepWay, refuses, accepts, step_way}
use Rattle.runs.proofs.Acts.{Acts, Accepted, renews, acts, accepted_by}
use Rattle.order.specs.Run.{Event, gives_up, nothing}
use Rattle.history.specs.Show.{beginning, event_of}

-- a refusal is none of the codes that show something
not_code : (n : ℕ) (a : Answer) (x y : Event) → n ≤ 3 → Refusing a.code → y ≡ nothing → (if eqb a.code n then x else y) ≡ nothing
not_code n a x y l h e = if_ind (λ (e : Event). e ≡ nothing) (eqb a.code n) (λ z. absurd (omega (arith, h.high, eqb→eq a.code n z))) (λ _. e)

pub refused_shows : (c : Call) (a : Answer) (p : Page) → Refusing a.code → event_of c a p ≡ nothing
unfolding event_of
refused_shows c a p h =
    not_code _ a _ _ (omega arith) h (not_code _ a _ _ (omega arith) h (not_code _ a _ _ (omega arith) h (not_code _ a _ _ (omega arith) h refl)))

-- no call gives up
pub no_giving_up : (c : Call) (a : Answer) (p : Page) (d : ℕ) → event_of c a p ≡ gives_up d → ⊥
unfolding event_of
no_giving_up c a p d =
    if_ind P (eqb a.code 0) (λ _. begun (asks c).start)
    (λ _. if_ind P (eqb a.code 1) (λ _ e. clash (cc))
    (λ _. if_ind P (eqb a.code 2) (λ _ e. clash (cc)) (λ _. if_ind P (eqb a.code 3) (λ _ e. clash (cc)) (λ _ e. clash (cc)))))
  where
    clash : ◌≡◌ {A = ℕ} 0 1 → ⊥
    clash e = omega arith

    P : Event → Type 0
    P e = e ≡ gives_up d → ⊥

    begun : (o : Option Start) → P (beginning o)
    begun None e = clash (cc)
    begun (Some (a_read c)) e = clash (cc)
    begun (Some (a_write c page)) e = clash (cc)

-- ---- the ways

pub data Way (M : Machine) (c : Call) : Machine → Event → Type 0 where
  stays : Way M c M nothing
  goes : {e : Effect} → Acts M c e → Way M c (applied e M) (event_of c e.answer e.page)

pub way : (M : Machine) (c : Call) → (Renews c (step c M).answer → ⊥) → Way M c (step c M).machine (event_of c (step c M).answer (step c M).page)
way M c = go (step_way c M)
  where
    acted : {c : Call} {e : Effect} → Accepted M c e → (Renews c e.answer → ⊥) → Way M c (applied e M) (event_of c e.answer e.page)
    acted (renews k page _) n = absurd (n (tt, refl))
    acted (acts _ a) n = goes a

    go : {r : Result} → StepWay c M r → (Renews c r.answer → ⊥) → Way M c r.machine (event_of c r.answer r.page)
    go (refuses k) n = subst (Way M c M) (sym (refused_shows c (coded (code_of c M)) (asks c).fill k)) stays
    go (accepts h) n = acted (accepted_by c M h) n
