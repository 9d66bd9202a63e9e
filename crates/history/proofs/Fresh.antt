-- A machine that has just been set up: the invariant holds, its clients are idle, and all it carries is the first page.
use mathlib.Core.Path.{◌≡◌, refl, sym, ap, subst, ◌∙◌}
use mathlib.Core.Bool.{true, not}
use mathlib.Core.List.{map}
use Prim.Native.Nat.{ℕ, zero, suc, ◌+◌, ◌≤◌, ◌<◌}
use native.Mathlib.Omega.{arith}
use lib.Dec.{T, leb, nleb→lt}
use lib.ListN.{get_or}
use Rattle.sets.specs.Plain.{numbers}
use Rattle.sets.specs.declared.Tag.{Tag}
use Rattle.sets.specs.Tags.{first}
use Rattle.sets.specs.Sets.{all}
use Rattle.sets.proofs.Laws.{all_in, all_lt, size_all}
use Rattle.sets.proofs.Tests.{if_ind}
use Rattle.sets.proofs.TagOrder.{first_least}
use Rattle.tables.specs.declared.Conf.{Conf}
use Rattle.tables.specs.declared.Directory.{Directory}
use Rattle.tables.specs.Rows.{row}
use Rattle.tables.specs.Tables.{Page, Replica, Machine, no_client, no_directory, no_entry, no_replica, no_message, directory_at, is_free}
use Rattle.tables.proofs.All.{All, cons, all_replicate, all_row}
use Rattle.tables.proofs.Whole.{Paged}
use Rattle.inspect.specs.Good.{good_numbers}
use Rattle.inspect.proofs.Facts.{NumbersFacts, numbers_facts}
use Rattle.rules.proofs.Enough.{all_write}
use Rattle.rules.proofs.Covers.{Covers, held}
use Rattle.machine.specs.SetUp.{first_directory, first_replica, new_machine}
use Rattle.runs.proofs.New.{new_sound}
use Rattle.order.specs.Method.{idle, Fresh}
use Rattle.mail.proofs.Messages.{all_from}
use Rattle.history.proofs.Invariant.{CoversAt, Told, Known, ReplicaOk, Invariant}
use Rattle.history.proofs.Pages.{Within}
use Rattle.history.proofs.Ranks.{stand_of}
use Rattle.history.proofs.Walk.{Ranked, layered}

module _ {A : Type 0} (d : A) (f : ℕ → A) where
  numbers_at : (k n i : ℕ) → i < n → get_or (map f (numbers k n)) i d ≡ f (k + i)
  numbers_at k zero i h = absurd (omega arith)
  numbers_at k (suc n) zero h = ap f (omega arith)
  numbers_at k (suc n) (suc i) h = numbers_at (suc k) n i (omega arith) ∙ ap f (omega arith)

  -- rows made from their own numbers
  row_numbers : (n p : ℕ) → 1 ≤ p → p ≤ n → row d (map f (numbers 1 n)) p ≡ f p
  row_numbers n zero h k = absurd (omega arith)
  row_numbers n (suc p) h k = numbers_at 1 n p k ∙ ap f (omega arith)

-- room for r directories
module _ (r : ℕ) (k : Conf) (p : Page) (g : good_numbers r k ≡ true) where
  abbrev M : Machine
  M = new_machine r k p

  n : NumbersFacts r k
  n = numbers_facts r k g

  known : Known M first
  unfolding new_machine
  known =
      record {
        quorum = all k.directories;
        inside = all_lt k.directories;
        enough = all_write k n.quorums;
        reached = λ d _. first_least (directory_at (new_machine r k p) d).tag;
      }

  covers : (i : ℕ) → 1 ≤ i → i ≤ k.replicas → CoversAt M i first
  unfolding new_machine
  covers i l h =
      subst (λ (w : Replica). Covers w.entries first) (sym (row_numbers no_replica (first_replica k p) 7 i l (omega (arith, n.few_replicas))))
      (if_ind (λ (w : Replica). Covers w.entries first) (leb i k.replicas) (λ _. held tt) (λ m. absurd (omega (arith, nleb→lt i k.replicas m))))

  told : Told M first (all k.replicas)
  unfolding new_machine
  told =
      record {
        enough = omega (arith, size_all k.replicas, n.enough_replicas);
        covers = λ i h. let q = all_in k.replicas i h in covers i q.0 q.1;
      }

  directory_told : (d : ℕ) → 1 ≤ d → d ≤ k.directories → Told M (directory_at M d).tag (directory_at M d).set
  unfolding new_machine
  directory_told d l h =
      subst (λ (w : Directory). Told M w.tag w.set) (sym (row_numbers no_directory (first_directory k) r d l (omega (arith, n.few_directories))))
      (if_ind (λ (w : Directory). Told M w.tag w.set) (leb d k.directories) (λ _. told) (λ m. absurd (omega (arith, nleb→lt d k.directories m))))

  new_invariant : Invariant M
  unfolding new_machine no_client no_replica no_entry no_message
  new_invariant =
      record {
        clients = all_replicate 8 no_client tt;
        directories = directory_told;
        replicas = all_from (first_replica k p) (numbers 1 7)
            (λ i _. if_ind (ReplicaOk M) (leb i k.replicas) (λ _. cons (λ _. known) (all_replicate 11 no_entry (λ s. absurd s))) (λ _. all_replicate 12 no_entry (λ s. absurd s)));
        messages = all_replicate 128 no_message tt;
      }

  new_within : (H : Tag → Page → Type 0) → H first p → Within H M
  unfolding new_machine no_client no_replica no_entry no_message
  new_within H h =
      record {
        clients = all_replicate 8 no_client (λ z. absurd z);
        replicas = all_from (first_replica k p) (numbers 1 7)
            (λ i _. if_ind (λ (w : Replica). All (λ e. T (not (is_free e)) → H e.tag e.page) w.entries) (leb i k.replicas)
            (λ _. cons (λ _. h) (all_replicate 11 no_entry (λ z. absurd z))) (λ _. all_replicate 12 no_entry (λ z. absurd z)));
        messages = all_replicate 128 no_message (λ z. absurd z);
      }

  pub fresh : Paged p → Fresh layered p M
  unfolding new_machine no_client
  fresh q =
      record {
        good = record { sound = new_sound k p q r g; invariant = new_invariant };
        none = λ c. all_row {P = λ w. stand_of w ≡ idle} no_client c refl (all_replicate 8 no_client refl);
        known = known;
        first = new_within (Ranked (λ t q. (t ≡ 0) × (q ≡ p))) (refl, refl);
      }
