-- A delivery to a replica.
use mathlib.Core.Path.{◌≡◌, sym, ap, ◌∙◌}
use mathlib.Core.Bool.{Bool, true, false}
use mathlib.Core.List.{List}
use Prim.Native.Nat.{ℕ, suc, ◌-◌, ◌≤◌}
use native.Mathlib.Omega.{arith}
use borrow.Author.Tests.{eq-eqb, ne_eqb}
use lib.Dec.{eqb}
use lib.ListN.{drop}
use Rattle.sets.specs.Sets.{only, all}
use Rattle.sets.proofs.Laws.{only_lt}
use Rattle.sets.proofs.Tests.{if_ind}
use Rattle.tables.specs.declared.Layout.{Layout}
use Rattle.tables.specs.declared.Conf.{Conf}
use Rattle.tables.specs.declared.Entry.{Entry}
use Rattle.tables.specs.declared.Message.{Message}
use Rattle.tables.specs.declared.Party.TheVariants.{AReplica}
use Rattle.tables.specs.Layouts.{extent}
use Rattle.tables.specs.Tables.{Page, no_message, replica_at, slot_at, with_slot}
use Rattle.tables.specs.Words.{words}
use Rattle.tables.specs.Machines.{conf_of, machine_of}
use Rattle.mail.specs.declared.Post.{Post}
use Rattle.rules.specs.declared.Answer.{Answer}
use Rattle.rules.specs.Answers.{coded}
use Rattle.rules.specs.Replica.{is_full, replica_after, replica_post}
use Rattle.machine.specs.Effects.{Effect, replica}
use Rattle.machine.specs.Calls.{is_down}
use Rattle.machine.specs.Deliver.{taken, replica_effect, deliver_effect}
use Rattle.machine.specs.Refusals.{is_overfull}
use Rattle.machine.specs.Inner.{Arrived, Delivered, has_room, Committed, stocked}
use Rattle.machine.proofs.Arrivals.{conf_of_lem, all_small}
use Rattle.machine.proofs.Addressed.{Small, Sends}
use Rattle.machine.proofs.Parties.{numbers_of_lem}
use Rattle.machine.proofs.Landings.{own, effect_up, lands, overfull, drops, page_kept}

module _ {lay : Layout} {m : List ℕ} {s : ℕ} {x : Message} (g : Arrived lay AReplica m s x) where
  pub directories_few : (k : Conf) → k ≡ conf_of m → k.directories ≤ 31
  directories_few k e = omega (arith, (numbers_of_lem lay m g.fine k e).few_directories)

  -- it replies to the sender alone, or tells every directory
  pub replica_few : (k : Conf) (es : List Entry) (p : Post) → k ≡ conf_of m → p ≡ replica_post k.directories es x → Sends p
  unfolding replica_post
  replica_few k es p c e =
      let h : Small (only x.sender) = only_lt 16 x.sender (omega (arith, g.few)) in
      let d : Small (all k.directories) = all_small k.directories (omega (arith, (numbers_of_lem lay m g.fine k c).few_directories)) in
      rw e
      (if_ind Sends (eqb x.kind 9) (λ _. h)
      (λ _. if_ind Sends (eqb x.kind 10) (λ _. h)
      (λ _. if_ind Sends (eqb x.kind 15) (λ _. d) (λ _. omega arith))))

  -- the test of 23, said of the receiver's row
  over : (b : Bool) → is_overfull (machine_of lay m) x ≡ b → is_overfull (machine_of lay m) (slot_at (machine_of lay m) (suc s)) ≡ b
  over b h = ap (λ (y : Message). is_overfull (machine_of lay m) y) (sym g.here) ∙ h

  module _ (f : ℕ) (e : f ≡ (replica_at (machine_of lay m) (suc (x.receiver - 1))).down) where
    flag : (b : Bool) → eqb f 1 ≡ b → is_down (machine_of lay m) AReplica x.receiver ≡ b
    flag b h = ap (λ (n : ℕ). eqb n 1) (sym (e ∙ ap (λ (n : ℕ). (replica_at (machine_of lay m) n).down) (own g))) ∙ h

    pub replica_down : (a : Answer) (l : List ℕ) → f ≡ 1 → a ≡ coded 4 → l ≡ words (with_slot (machine_of lay m) (suc s) no_message) (drop (extent lay) m)
        → Delivered lay (machine_of lay m) (suc s) a m l
    replica_down a l z h k =
        let d : is_down (machine_of lay m) AReplica x.receiver ≡ true = flag true (eq-eqb _ _ z) in
        record { took = λ page. drops g page d (over false (rw d)) a l h k }

    module _ (z : f ≡ 1 → ⊥) (b : Bool) (r : b ≡ is_full (replica_at (machine_of lay m) (suc (x.receiver - 1))).entries x) where
      up : is_down (machine_of lay m) AReplica x.receiver ≡ false
      up = flag false (ne_eqb _ _ z)

      by_entries : is_overfull (machine_of lay m) x ≡ b
      by_entries = rw up (sym (r ∙ ap (λ (n : ℕ). is_full (replica_at (machine_of lay m) n).entries x) (own g)))

      pub replica_full : (a : Answer) → b ≡ true → a ≡ coded 23 → Delivered lay (machine_of lay m) (suc s) a m m
      replica_full a t h = record { took = λ page. overfull g page (over true (by_entries ∙ t)) a h }

      pub replica_takes : (k : Conf) (p : Post) (a : Answer) (l : List ℕ) → b ≡ false → k ≡ conf_of m
          → p ≡ replica_post k.directories (replica_at (machine_of lay m) (suc (x.receiver - 1))).entries x
          → Committed lay m s (replica (suc (x.receiver - 1)) (stocked (machine_of lay m) (suc (x.receiver - 1)) (replica_after (replica_at (machine_of lay m) (suc (x.receiver - 1))).entries x))) p (coded 0) a l
          → Delivered lay (machine_of lay m) (suc s) a m l
      unfolding replica_effect
      replica_takes k p a l t c q w =
          record {
            took = λ page.
                lands g page (over false (by_entries ∙ t))
                (replica (suc (x.receiver - 1)) (stocked (machine_of lay m) (suc (x.receiver - 1)) (replica_after (replica_at (machine_of lay m) (suc (x.receiver - 1))).entries x)))
                p (coded 0) page (effect page) (replica_few k _ p c q) a page l w (page_kept (has_room (machine_of lay m) p) page);
          }
        where
          written : ℕ → Page → Effect
          written n page =
              taken (suc s) (replica n (stocked (machine_of lay m) n (replica_after (replica_at (machine_of lay m) n).entries x)))
              (replica_post (machine_of lay m).conf.directories (replica_at (machine_of lay m) n).entries x) (coded 0) page

          effect : (page : Page) → deliver_effect (machine_of lay m) (suc s) page
              ≡ taken (suc s) (replica (suc (x.receiver - 1)) (stocked (machine_of lay m) (suc (x.receiver - 1)) (replica_after (replica_at (machine_of lay m) (suc (x.receiver - 1))).entries x))) p (coded 0) page
          effect page = effect_up g page up ∙ ap (λ (n : ℕ). written n page) (sym (own g)) ∙ rw (q, c, conf_of_lem lay m)
