-- What is asked, as facts about the machine.
use mathlib.Core.Path.{◌≡◌, refl, sym, subst}
use mathlib.Core.Bool.{Bool, not}
use mathlib.Core.Logic.{⊎_elim}
use mathlib.Core.List.Memᴰ
use mathlib.Core.List.{List, [], ◌∷◌, Memᴰ}
use Prim.Native.Nat.{ℕ, zero, suc, ◌+◌, ◌≤◌, ◌<◌}
use native.Mathlib.Decide.{ℕ_discrete}
use native.Mathlib.Omega.{arith}
use lib.Dec.{T, eqb, leb, T_not, leb→le, nltb→le, eqb→eq, eqb_refl}
use lib.ListN.{length}
use Rattle.sets.specs.Plain.{numbers}
use Rattle.sets.proofs.Members.{in_keep, in_numbers}
use Rattle.sets.proofs.Tests.{not_not, and_elim}
use Rattle.tables.specs.declared.Party.TheVariants.{AClient, ADirectory, AReplica}
use Rattle.tables.specs.Rows.{some?}
use Rattle.tables.specs.Tables.{Machine, client_at, directory_at}
use Rattle.tables.proofs.All.{All, none, cons}
use Rattle.tables.proofs.Lists.{none_passes}
use Rattle.mail.specs.Slots.{empty_slots}
use Rattle.inspect.specs.Good.{is_party}
use Rattle.rules.specs.Quorums.{enough_to_read, enough_to_write}
use Rattle.machine.specs.Calls.{is_down}
use Rattle.machine.specs.Refusals.{is_busy, is_worn}
use Rattle.runs.proofs.Acts.{Among, among}
use Rattle.runs.proofs.Rows.{directory_of_lem}
use Rattle.history.proofs.Shape.{client_in}
use Rattle.history.proofs.Walk.{Good}
use Rattle.fewest.specs.Fewest.{ups, downs, set_of, slots_asked, asked_to_read, keepers, is_at_top, asked_to_write, all_of}

pub record Ready (M : Machine) (c : ℕ) : Type 0 where
  pub low : 1 ≤ c
  pub high : c ≤ M.conf.clients
  pub idle : (client_at M c).phase ≡ 0
  pub up : (client_at M c).down ≡ 0
  pub unworn : (client_at M c).number + 3 ≤ M.conf.top
  pub replicas : length (downs M AReplica) ≤ M.conf.f
  pub readers : T (enough_to_read M.conf (set_of (ups M ADirectory)))
  pub writers : T (enough_to_write M.conf (set_of (ups M ADirectory)))
  pub slots : slots_asked M ≤ empty_slots M.slots

pub record ReadyToWrite (M : Machine) (c : ℕ) : Type 0 where
  pub ready : Ready M c
  pub entries : M.conf.f + 1 ≤ length (keepers M)
  pub below : (d : ℕ) → 1 ≤ d → d ≤ M.conf.directories → T (not (is_down M ADirectory d)) → (directory_at M d).tag.number < M.conf.top

-- a down word is 0 or 1
is_up : (n : ℕ) → n ≤ 1 → T (not (eqb n 1)) → n ≡ 0
is_up zero h k = refl
is_up (suc zero) h k = absurd k
is_up (suc (suc n)) h k = absurd (omega arith)

each_test : (bs : List Bool) → T (all_of bs) → All T bs
each_test [] h = none
each_test (b ∷ bs) h = let a = and_elim b (all_of bs) h in cons a.0 (each_test bs a.1)

not_at : (a b : ℕ) → a ≤ b → T (not (eqb a b)) → a < b
not_at a b h n = go (ℕ_discrete a b)
  where
    go : Dec (a ≡ b) → a < b
    go (yes e) = absurd (T_not (eqb a b) n (rw e (eqb_refl b)))
    go (no e) = omega arith

pub of_each : {P : ℕ → Type 0} {x : ℕ} {xs : List ℕ} → All P xs → Memᴰ x xs → P x
of_each none m = absurd (Memᴰ.not-nil m)
of_each {P} (cons h hs) m = ⊎_elim (λ e. subst P (sym e) h) (λ n. of_each hs n) (Memᴰ.cases_cons m)

module _ (M : Machine) (G : Good M) (c : ℕ) where
  facts : T (is_party M.conf AClient c) → T (not (is_busy M c)) → T (not (is_down M AClient c)) → T (not (is_worn M c))
      → T (leb (length (downs M AReplica)) M.conf.f) → T (enough_to_read M.conf (set_of (ups M ADirectory)))
      → T (enough_to_write M.conf (set_of (ups M ADirectory))) → T (leb (slots_asked M) (empty_slots M.slots)) → Ready M c
  facts client idle up unworn replicas readers writers slots =
      let p : Among M.conf.clients c = among M.conf.clients c client in
      record {
        low = p.low;
        high = p.high;
        idle = eqb→eq (client_at M c).phase 0 (not_not (eqb (client_at M c).phase 0) idle);
        up = is_up (client_at M c).down (client_in M G.sound c p).down up;
        unworn = nltb→le M.conf.top ((client_at M c).number + 3) unworn;
        replicas = leb→le _ _ replicas;
        readers = readers;
        writers = writers;
        slots = leb→le _ _ slots;
      }

  under : (d : ℕ) → 1 ≤ d → d ≤ M.conf.directories → T (not (is_down M ADirectory d)) → T (not (some? (is_at_top M) (ups M ADirectory)))
      → (directory_at M d).tag.number < M.conf.top
  under d l h u n =
      not_at (directory_at M d).tag.number M.conf.top (directory_of_lem G.sound d l h).tag.number
      (of_each (none_passes (is_at_top M) (ups M ADirectory) n)
      (in_keep _ (numbers 1 M.conf.directories) u (in_numbers 1 M.conf.directories d l (omega arith))))

  pub ready : T (all_of (asked_to_read M c)) → Ready M c
  ready h = go (each_test (asked_to_read M c) h)
    where
      go : All T (asked_to_read M c) → Ready M c
      go (cons client (cons idle (cons up (cons unworn (cons replicas (cons readers (cons writers (cons slots none)))))))) =
          facts client idle up unworn replicas readers writers slots

  pub ready_to_write : T (all_of (asked_to_write M c)) → ReadyToWrite M c
  ready_to_write h = go (each_test (asked_to_write M c) h)
    where
      go : All T (asked_to_write M c) → ReadyToWrite M c
      go (cons client (cons idle (cons up (cons unworn (cons replicas (cons readers (cons writers (cons slots (cons entries (cons below none)))))))))) =
          record {
            ready = facts client idle up unworn replicas readers writers slots;
            entries = leb→le _ _ entries;
            below = λ d l h u. under d l h u below;
          }
