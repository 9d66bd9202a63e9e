-- A run of calls on a buffer is the run of steps on its machine, and the later words of the buffer never change.
use mathlib.Core.Bool.{true, false, not, and-false}
use mathlib.Core.List.{List, [], ◌∷◌, map}
use mathlib.Core.Logic.{⊎_elim}
use mathlib.Core.Path.{◌≡◌, refl, sym, ap, subst, ◌∙◌}
use Prim.Native.Nat.{ℕ, ◌≤◌}
use native.Mathlib.Omega.{arith}
use borrow.Author.Tests.{le-ltb, eq-eqb}
use lib.Dec.{T, eqb, eqb→eq, T_not}
use lib.ListN.{length, drop, length-drop}
use Rattle.sets.proofs.Tests.{T_true, not_not, not_both, either, if_ind}
use Rattle.tables.specs.declared.Layout.{Layout}
use Rattle.tables.specs.declared.Conf.{Conf}
use Rattle.tables.specs.Tables.{Page, Machine}
use Rattle.tables.specs.Layouts.{extent}
use Rattle.tables.specs.Words.{words}
use Rattle.tables.specs.Machines.{machine_of}
use Rattle.tables.proofs.Read.{its_room}
use Rattle.tables.proofs.Whole.{Paged, Whole, Room, whole_of}
use Rattle.tables.proofs.Round.{words_back, machine_back, rest_words, length_words}
use Rattle.inspect.specs.Good.{good_numbers, good}
use Rattle.inspect.proofs.Machines.{good_machine_lem}
use Rattle.rules.specs.Answers.{coded}
use Rattle.machine.specs.SetUp.{new_machine}
use Rattle.machine.specs.Effects.{anew}
use Rattle.machine.specs.Calls.{Call, set_up}
use Rattle.machine.specs.Refusals.{refusal}
use Rattle.machine.specs.Steps.{effect_of, Result, code_of, step}
use Rattle.machine.specs.Buffers.{wrong_page, wrong_size, is_set_up, bad_machine, Outcomes, left, call}
use Rattle.machine.proofs.Quiet.{quiet_fits, quiet_applied}
use Rattle.runs.specs.Runs.{Beyond, Renews, buffer_after, sized_step, shown, ran, called}
use Rattle.runs.proofs.Ways.{StepWay, refuses, accepts, step_way, allowed, CallWay, sized, bad, steps, call_way, is_long, is_paged}
use Rattle.runs.proofs.Sound.{Sound}
use Rattle.runs.proofs.New.{new_room, new_sound}
use Rattle.runs.proofs.Kept.{accepted_sound, step_sound, step_room}

-- ---- one call

pub sized_sound : (c : Call) (M : Machine) → Sound M → Sound (sized_step c M).machine
sized_sound c M z = if_ind (λ (r : Result). Sound r.machine) (wrong_page c) (λ _. z) (λ n. step_sound c M z n)

pub sized_room : {lay : Layout} (c : Call) (M : Machine) → Room lay M → Room lay (sized_step c M).machine
sized_room {lay} c M i = if_ind (λ (r : Result). Room lay r.machine) (wrong_page c) (λ _. i) (λ _. step_room c M ∙ i)

-- a buffer that is long enough and not bad
pub buffer_sound : (lay : Layout) (m : List ℕ) → extent lay ≤ length m → good lay m ≡ true → Sound (machine_of lay m)
buffer_sound lay m h g = record { good = good_machine_lem lay m g; whole = whole_of lay m h }

pub words_good : {lay : Layout} {M : Machine} → Room lay M → Sound M → (t : List ℕ) → good lay (words M t) ≡ true
unfolding good
words_good {lay} {M} i z t = rw (machine_back lay M t z.whole i) z.good

module _ {lay : Layout} (c : Call) {M : Machine} (i : Room lay M) (z : Sound M) (t : List ℕ) where
  pub call_is : call lay c (words M t) ≡ shown t (sized_step c M)
  unfolding call good
  call_is =
      ⊎_elim (λ (w : wrong_page c ≡ true). rw (le-ltb (length (words M t)) (extent lay) long, w))
      (λ (w : wrong_page c ≡ false). rw (le-ltb (length (words M t)) (extent lay) long, w, machine_back lay M t z.whole i, z.good, and-false, rest_words lay M t z.whole i))
      (either (wrong_page c))
    where
      long : extent lay ≤ length (words M t)
      long = omega (arith, length_words lay M t z.whole i)

-- ---- a list of calls

-- the buffers and answers are the words and answers of the steps
pub run_is : (lay : Layout) (cs : List Call) {M : Machine} → Room lay M → Sound M → (t : List ℕ) → called lay (words M t) cs ≡ map (shown t) (ran M cs)
unfolding called ran
run_is lay [] i z t = refl
run_is lay (c ∷ cs) {M} i z t =
    ap (λ (o : Outcomes). o ∷ called lay o.buffer cs) (call_is c i z t)
    ∙ ap (λ (os : List Outcomes). shown t (sized_step c M) ∷ os) (run_is lay cs (sized_room c M i) (sized_sound c M z) t)

-- on a buffer that is not bad
pub run_on : (lay : Layout) (m : List ℕ) → extent lay ≤ length m → good lay m ≡ true → (cs : List Call)
    → called lay m cs ≡ map (shown (drop (extent lay) m)) (ran (machine_of lay m) cs)
run_on lay m h g cs =
    ap (λ (l : List ℕ). called lay l cs) (sym (words_back lay m h)) ∙ run_is lay cs (its_room lay m) (buffer_sound lay m h g) (drop (extent lay) m)

-- ---- a set-up, on whatever buffer

module _ (lay : Layout) (k : Conf) (page : Page) where
  -- the machine that it makes
  abbrev N : Machine
  N = new_machine lay.directories k page

  module _ (g : good_numbers lay.directories k ≡ true) (p : Paged page) where
    pub set_up_accepted : (M : Machine) → Room lay M → code_of (set_up k page) M ≡ 0
    unfolding refusal effect_of
    set_up_accepted M i = rw (i, g, quiet_fits M (anew k page))

    pub set_up_is : (m : List ℕ) → extent lay ≤ length m → call lay (set_up k page) m ≡ left (coded 0) [] (words N (drop (extent lay) m))
    unfolding call step effect_of
    set_up_is m h =
        rw (le-ltb (length m) (extent lay) h, eq-eqb (length page) 16 p, set_up_accepted (machine_of lay m) (its_room lay m), quiet_applied (machine_of lay m) (anew k page), its_room lay m)

  -- what an accepted one has passed
  pub record Passed (m : List ℕ) : Type 0 where
    pub numbers : good_numbers lay.directories k ≡ true
    pub paged : Paged page
    pub long : extent lay ≤ length m

  module _ (m : List ℕ) (r : Renews (set_up k page) (call lay (set_up k page) m).answer) where
    pub set_up_passed : Passed m
    set_up_passed = go (call_way lay (set_up k page) m) r.1
      where
        rows : ℕ
        rows = length (machine_of lay m).directories

        stepped : T (not (wrong_size lay (set_up k page) m)) → {x : Result} → StepWay (set_up k page) (machine_of lay m) x → x.answer.code ≡ 0 → Passed m
        stepped w (refuses h) e = absurd (omega arith)
        stepped w (accepts h) e =
            record {
              numbers = subst (λ (n : ℕ). good_numbers n k ≡ true) (its_room lay m)
                  (T_true (good_numbers rows k) (not_not (good_numbers rows k) (allowed (set_up k page) (machine_of lay m) h).argument));
              paged = eqb→eq (length page) 16 (not_not (eqb (length page) 16) (is_paged lay (set_up k page) m w));
              long = is_long lay (set_up k page) m w;
            }

        go : {o : Outcomes} → CallWay lay (set_up k page) m o → o.answer.code ≡ 0 → Passed m
        go (sized _) e = absurd (omega arith)
        go (bad _ b) e = absurd b
        go (steps w _) e = stepped w (step_way (set_up k page) (machine_of lay m)) e

    pub set_up_made : call lay (set_up k page) m ≡ left (coded 0) [] (words N (drop (extent lay) m))
    set_up_made = let a = set_up_passed in set_up_is a.numbers a.paged m a.long

    pub run_from : (cs : List Call) → called lay m (set_up k page ∷ cs) ≡ left (coded 0) [] (words N (drop (extent lay) m)) ∷ map (shown (drop (extent lay) m)) (ran N cs)
    unfolding called
    run_from cs =
        let a = set_up_passed in
        ap (λ (o : Outcomes). o ∷ called lay o.buffer cs) set_up_made
        ∙ ap (λ (os : List Outcomes). left (coded 0) [] (words N (drop (extent lay) m)) ∷ os)
        (run_is lay cs (new_room lay.directories k page) (new_sound k page a.paged lay.directories a.numbers) (drop (extent lay) m))

-- ---- the later words, for every call and every buffer

pub later_kept : (lay : Layout) (c : Call) (m : List ℕ) → Beyond lay m (call lay c m).buffer
later_kept lay c m = go (call_way lay c m)
  where
    same : Beyond lay m m
    same = record { words = refl; long = refl }

    whole : extent lay ≤ length m → {M : Machine} → Whole M → Room lay M → Beyond lay m (words M (drop (extent lay) m))
    whole h {M} w i =
        record {
          words = rest_words lay M (drop (extent lay) m) w i;
          long = length_words lay M (drop (extent lay) m) w i ∙ rw length-drop (omega arith);
        }

    sound_before : extent lay ≤ length m → T (not (bad_machine lay c m)) → T (not (is_set_up c)) → Sound (machine_of lay m)
    sound_before h b a =
        buffer_sound lay m h
        (T_true (good lay m) (⊎_elim (λ n. absurd (T_not (not (is_set_up c)) n a)) (λ n. not_not (good lay m) n) (not_both (not (is_set_up c)) (not (good lay m)) b)))

    stepped : T (not (wrong_size lay c m)) → T (not (bad_machine lay c m)) → {r : Result} → StepWay c (machine_of lay m) r
        → Room lay r.machine → Beyond lay m (words r.machine (drop (extent lay) m))
    stepped n b (refuses _) i = whole (is_long lay c m n) (whole_of lay m (is_long lay c m n)) i
    stepped n b (accepts e) i =
        whole (is_long lay c m n) (accepted_sound c (machine_of lay m) (sound_before (is_long lay c m n) b) (is_paged lay c m n) e).whole i

    go : {o : Outcomes} → CallWay lay c m o → Beyond lay m o.buffer
    go (sized _) = same
    go (bad _ _) = same
    go (steps n b) = stepped n b (step_way c (machine_of lay m)) (step_room c (machine_of lay m) ∙ its_room lay m)

-- ---- buffers that are not bad

pub record Fine (lay : Layout) (m : List ℕ) : Type 0 where
  pub long : extent lay ≤ length m
  pub sound : Sound (machine_of lay m)

module _ (lay : Layout) (c : Call) (m : List ℕ) (f : Fine lay m) where
  abbrev M : Machine
  M = machine_of lay m

  pub fine_call : call lay c m ≡ shown (drop (extent lay) m) (sized_step c M)
  fine_call = ap (call lay c) (sym (words_back lay m f.long)) ∙ call_is c (its_room lay m) f.sound (drop (extent lay) m)

  pub fine_machine : machine_of lay (call lay c m).buffer ≡ (sized_step c M).machine
  fine_machine =
      ap (λ (o : Outcomes). machine_of lay o.buffer) fine_call
      ∙ machine_back lay (sized_step c M).machine (drop (extent lay) m) (sized_sound c M f.sound).whole (sized_room c M (its_room lay m))

  pub fine_on : Fine lay (call lay c m).buffer
  fine_on =
      record { long = rw (later_kept lay c m).long f.long; sound = rw fine_machine (sized_sound c M f.sound) }

pub fine_after : (lay : Layout) (cs : List Call) (m : List ℕ) → Fine lay m → Fine lay (buffer_after lay m cs)
fine_after lay [] m f = f
fine_after lay (c ∷ cs) m f = fine_after lay cs (call lay c m).buffer (fine_on lay c m f)

-- the machine of an accepted set-up
module _ (lay : Layout) (k : Conf) (page : Page) (m : List ℕ) (r : Renews (set_up k page) (call lay (set_up k page) m).answer) where
  pub made_machine : machine_of lay (call lay (set_up k page) m).buffer ≡ new_machine lay.directories k page
  made_machine =
      let a = set_up_passed lay k page m r in
      ap (λ (o : Outcomes). machine_of lay o.buffer) (set_up_made lay k page m r)
      ∙ machine_back lay (new_machine lay.directories k page) (drop (extent lay) m)
      (new_sound k page a.paged lay.directories a.numbers).whole (new_room lay.directories k page)

  pub made_fine : Fine lay (call lay (set_up k page) m).buffer
  made_fine =
      let a = set_up_passed lay k page m r in
      record {
        long = rw (later_kept lay (set_up k page) m).long a.long;
        sound = rw made_machine (new_sound k page a.paged lay.directories a.numbers);
      }

  -- no buffer is bad that calls lead to from an accepted set-up
  pub never_bad : (cs : List Call) → good lay (buffer_after lay (call lay (set_up k page) m).buffer cs) ≡ true
  unfolding good
  never_bad cs = (fine_after lay cs (call lay (set_up k page) m).buffer made_fine).sound.good
