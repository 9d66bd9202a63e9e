-- THE FAULT OF OLD: from one accepted set-up to the next message numbers of clients and tags of directories never fall, and no number exceeds top, whatever the calls.
use Rattle.std.specs.Prelude.{Some}
use mathlib.Core.Bool.{true, false}
use mathlib.Core.List.{List, [], ◌∷◌, ◌++◌}
use mathlib.Core.Logic.{⊎_elim}
use mathlib.Core.Path.{◌≡◌, refl, ap, subst, ◌∙◌}
use Prim.Native.Nat.{ℕ, ◌≤◌}
use native.Mathlib.Omega.{arith}
use borrow.Author.Tests.{eqb-true}
use lib.Dec.{eqb, not_T}
use Rattle.sets.specs.Tags.{lower}
use Rattle.sets.proofs.Tests.{T_false, either, if_ind}
use Rattle.sets.proofs.TagOrder.{◌≼◌, ≼_refl, ≼_trans, ≼-≺, ≺_irrefl, lower→≺}
use Rattle.tables.specs.declared.Layout.{Layout}
use Rattle.tables.specs.declared.Conf.{Conf}
use Rattle.tables.specs.declared.Client.{Client}
use Rattle.tables.specs.declared.Directory.{Directory}
use Rattle.tables.specs.declared.Entry.{Entry}
use Rattle.tables.specs.declared.Message.{Message}
use Rattle.tables.specs.declared.Party.{Party}
use Rattle.tables.specs.declared.Party.TheVariants.{AClient, ADirectory, AReplica}
use Rattle.tables.specs.Tables.{Page, Machine, no_client, no_directory, no_entry, client_at, directory_at, slot_at, with_slots, is_free, is_empty}
use Rattle.tables.specs.Words.{entry_words}
use Rattle.tables.specs.Machines.{machine_of}
use Rattle.tables.proofs.All.{all_map, all_row}
use Rattle.inspect.specs.Good.{zeros, good_entry}
use Rattle.inspect.proofs.Tests.{and_l, and_r}
use Rattle.inspect.proofs.Facts.{client_facts, entry_facts, free_zero}
use Rattle.rules.specs.declared.Outcome.{Outcome}
use Rattle.rules.specs.declared.Outcome.TheVariants.{Waiting, Next, ReadEnded, WriteEnded, Spent, Stale}
use Rattle.rules.specs.Client.{client_after}
use Rattle.rules.proofs.Heard.{heard_keeps}
use Rattle.rules.proofs.DirectoryViews.{tag_rises}
use Rattle.machine.specs.SetUp.{new_machine}
use Rattle.machine.specs.Effects.{Change, nothing, client, directory, replica, anew, Effect, changed, applied}
use Rattle.machine.specs.Calls.{Call, set_up, downed}
use Rattle.machine.specs.Steps.{Result, step}
use Rattle.machine.specs.Buffers.{wrong_page, call}
use Rattle.runs.specs.Runs.{Renews, buffer_after, NoneRenews, Run, Rises, Within}
use Rattle.runs.proofs.Ways.{StepWay, refuses, accepts, step_way}
use Rattle.runs.proofs.Acts.{Acts, reads, writes, empties, directs, stores, hears, gossips, tidies, crashes, Accepted, renews, acts, accepted_by}
use Rattle.runs.proofs.Sound.{Sound}
use Rattle.runs.proofs.Rows.{row_ind, client_of_lem, directory_of_lem, stores_of, message_of_lem}
use Rattle.runs.proofs.Runs.{Fine, fine_call, fine_machine, fine_on, fine_after, made_machine, made_fine}

-- ---- nothing falls

-- conf stays, and no number and no tag falls
record Climbs (M N : Machine) : Type 0 where
  conf : N.conf ≡ M.conf
  numbers : (c : ℕ) → (client_at M c).number ≤ (client_at N c).number
  tags : (d : ℕ) → (directory_at M d).tag ≼ (directory_at N d).tag

climbs_not : (M : Machine) → Climbs M M
climbs_not M = record { conf = refl; numbers = λ c. omega arith; tags = λ d. ≼_refl _ }

climbs_on : {M N O : Machine} → Climbs M N → Climbs N O → Climbs M O
climbs_on p q =
    record {
      conf = q.conf ∙ p.conf;
      numbers = λ c. omega (arith, p.numbers c, q.numbers c);
      tags = λ d. ≼_trans (p.tags d) (q.tags d);
    }

climbs_rises : {M N : Machine} → Climbs M N → Rises M N
climbs_rises {M} {N} h =
    record { conf = h.conf; numbers = h.numbers; tags = λ d. not_T (lower (directory_at N d).tag (directory_at M d).tag) (λ l. ≺_irrefl (≼-≺ (h.tags d) (lower→≺ _ _ l))) }

-- a row that has not fallen
abbrev Higher : Machine → Change → Type 0
Higher M nothing = Unit {0}
Higher M (client c w) = (client_at M c).number ≤ w.number
Higher M (directory d w) = (directory_at M d).tag ≼ w.tag
Higher M (replica r w) = Unit {0}
Higher M (anew k page) = ⊥

changed_climbs : (M : Machine) (x : Change) (ss : List Message) → Higher M x → Climbs M (with_slots (changed x M) ss)
changed_climbs M nothing ss h = record { conf = refl; numbers = λ c. omega arith; tags = λ d. ≼_refl _ }
changed_climbs M (client c w) ss h =
    record {
      conf = refl;
      numbers = λ p. row_ind (λ (b : Client). (client_at M p).number ≤ b.number) no_client M.clients c p w (λ e. rw e at h) (omega arith);
      tags = λ d. ≼_refl _;
    }
changed_climbs M (directory d w) ss h =
    record {
      conf = refl;
      numbers = λ c. omega arith;
      tags = λ p. row_ind (λ (b : Directory). (directory_at M p).tag ≼ b.tag) no_directory M.directories d p w (λ e. rw e at h) (≼_refl _);
    }
changed_climbs M (replica r w) ss h = record { conf = refl; numbers = λ c. omega arith; tags = λ d. ≼_refl _ }
changed_climbs M (anew k page) ss h = absurd h

client_higher : (w : Client) (x : Message) (o : Outcome) → w.number ≤ (client_after w x o).number
unfolding client_after
client_higher w x Stale = omega arith
client_higher w x Waiting = omega (arith, (heard_keeps w x).number)
client_higher w x (Next t) = omega (arith, (heard_keeps w x).number)
client_higher w x (ReadEnded t n) = omega arith
client_higher w x (WriteEnded t) = omega arith
client_higher w x Spent = omega arith

downed_higher : (M : Machine) (who : Party) (p : ℕ) → Higher M (downed M (Some who) p)
downed_higher M AClient p = omega arith
downed_higher M ADirectory p = ≼_refl _
downed_higher M AReplica p = tt

acts_higher : (M : Machine) {c : Call} {e : Effect} → Acts M c e → Higher M e.change
acts_higher M (reads c _) = omega arith
acts_higher M (writes c page _) = omega arith
acts_higher M (empties c slots n _ _) = tt
acts_higher M (directs s page _) = tag_rises M.conf.f (directory_at M (slot_at M s).receiver) (slot_at M s)
acts_higher M (stores s page _ _) = tt
acts_higher M (hears s page {o} _ _) = client_higher (client_at M (slot_at M s).receiver) (slot_at M s) o
acts_higher M (gossips from to _ _) = tt
acts_higher M (tidies r _) = tt
acts_higher M (crashes kind id who _) = downed_higher M who id

step_climbs : (c : Call) (M : Machine) → (Renews c (step c M).answer → ⊥) → Climbs M (step c M).machine
step_climbs c M n = go (step_way c M) n
  where
    acted : {c : Call} {e : Effect} → Accepted M c e → (Renews c e.answer → ⊥) → Climbs M (applied e M)
    acted (renews k page _) n = absurd (n (tt, refl))
    acted {e = e} (acts _ a) n = changed_climbs M e.change _ (acts_higher M a)

    go : {r : Result} → StepWay c M r → (Renews c r.answer → ⊥) → Climbs M r.machine
    go (refuses _) n = climbs_not M
    go (accepts h) n = acted (accepted_by c M h) n

-- ---- nothing exceeds top

entry_within : (k : Conf) (e : Entry) → good_entry k e ≡ true → e.tag.number ≤ k.top
unfolding entry_words zeros
entry_within k e g =
    ⊎_elim
    (λ (u : is_free e ≡ true). omega (arith, eqb-true e.tag.number 0 (and_l (eqb e.tag.number 0) _ (and_r (eqb e.state 0) _ (free_zero k e g u)))))
    (λ (u : is_free e ≡ false). (entry_facts k e g u).tag.number) (either (is_free e))

sound_within : {M : Machine} → Sound M → Within M.conf.top M
unfolding no_entry
sound_within {M} z =
    record {
      client_number = λ c l h. let f = client_facts M.conf (client_at M c) (client_of_lem z c l h) in omega (arith, f.rounds);
      client_tag = λ c l h. (client_facts M.conf (client_at M c) (client_of_lem z c l h)).tag.number;
      directory_tag = λ d l h. (directory_of_lem z d l h).tag.number;
      entry_tag = λ r e l h. all_row {P = λ (x : Entry). x.tag.number ≤ M.conf.top} no_entry e (omega arith) (all_map (entry_within M.conf) (stores_of z r l h).good);
      message_number = λ s l h u. (message_of_lem z s l h (T_false (is_empty (slot_at M s)) u)).number;
      message_tag = λ s l h u. (message_of_lem z s l h (T_false (is_empty (slot_at M s)) u)).tag.number;
    }

-- ---- over a lent buffer, in any layout

module _ (lay : Layout) where
  call_climbs : (c : Call) (m : List ℕ) → Fine lay m → (Renews c (call lay c m).answer → ⊥) → Climbs (machine_of lay m) (machine_of lay (call lay c m).buffer)
  call_climbs c m f n =
      rw (fine_machine lay c m f)
      (if_ind (λ (r : Result). (Renews c r.answer → ⊥) → Climbs (machine_of lay m) r.machine) (wrong_page c) (λ _ _. climbs_not (machine_of lay m))
      (λ _. step_climbs c (machine_of lay m)) (rw (fine_call lay c m f) at n))

  climbs_after : (cs : List Call) (m : List ℕ) → Fine lay m → NoneRenews lay m cs → Climbs (machine_of lay m) (machine_of lay (buffer_after lay m cs))
  climbs_after [] m f n = climbs_not (machine_of lay m)
  climbs_after (c ∷ cs) m f n = climbs_on (call_climbs c m f n.0) (climbs_after cs (call lay c m).buffer (fine_on lay c m f) n.1)

  -- the later part of a run
  rises_from : (cs ds : List Call) (m : List ℕ) → Fine lay m → NoneRenews lay m (cs ++ ds) → Rises (machine_of lay (buffer_after lay m cs)) (machine_of lay (buffer_after lay m (cs ++ ds)))
  rises_from [] ds m f n = climbs_rises (climbs_after ds m f n)
  rises_from (c ∷ cs) ds m f n = rises_from cs ds (call lay c m).buffer (fine_on lay c m f) n.1

-- any layout, any buffer, an accepted set-up, any calls after it up to the next
module _ (lay : Layout) (m : List ℕ) (k : Conf) (p : Page) where
  -- the buffer that the set-up leaves
  abbrev made : List ℕ
  made = (call lay (set_up k p) m).buffer

  -- no number and no tag is ever lower than before
  pub never_falls : (cs ds : List Call) → Run lay m k p (cs ++ ds) → Rises (machine_of lay (buffer_after lay made cs)) (machine_of lay (buffer_after lay made (cs ++ ds)))
  never_falls cs ds r = rises_from lay cs ds made (made_fine lay k p m r.begins) r.goes

  -- none exceeds top
  pub never_exceeds : (cs : List Call) → Run lay m k p cs → Within k.top (machine_of lay (buffer_after lay made cs))
  unfolding new_machine
  never_exceeds cs r =
      let f = made_fine lay k p m r.begins in
      let kept : (machine_of lay (buffer_after lay made cs)).conf ≡ k = (climbs_after lay cs made f r.goes).conf ∙ ap (λ (N : Machine). N.conf) (made_machine lay k p m r.begins) in
      subst (λ (k : Conf). Within k.top (machine_of lay (buffer_after lay made cs))) kept (sound_within (fine_after lay cs made f).sound)
