-- A delivery to a directory.
use mathlib.Core.Path.{◌≡◌, ap, ◌∙◌}
use mathlib.Core.Bool.{Bool, true, false}
use mathlib.Core.List.{List}
use Prim.Native.Nat.{ℕ, suc, ◌-◌}
use native.Mathlib.Omega.{arith}
use borrow.Author.Tests.{eq-eqb, ne_eqb}
use lib.Dec.{eqb}
use lib.ListN.{drop}
use Rattle.sets.specs.Sets.{only}
use Rattle.sets.proofs.Laws.{only_lt}
use Rattle.sets.proofs.Tests.{if_ind}
use Rattle.tables.specs.declared.Layout.{Layout}
use Rattle.tables.specs.declared.Conf.{Conf}
use Rattle.tables.specs.declared.Directory.{Directory}
use Rattle.tables.specs.declared.Message.{Message}
use Rattle.tables.specs.declared.Party.TheVariants.{ADirectory}
use Rattle.tables.specs.Layouts.{extent}
use Rattle.tables.specs.Tables.{Page, no_message, directory_at, with_slot}
use Rattle.tables.specs.Words.{words}
use Rattle.tables.specs.Machines.{conf_of, machine_of}
use Rattle.mail.specs.declared.Post.{Post}
use Rattle.rules.specs.declared.Answer.{Answer}
use Rattle.rules.specs.Answers.{coded}
use Rattle.rules.specs.Directory.{directory_after, directory_post}
use Rattle.rules.specs.Inner.{DirectoryAble}
use Rattle.machine.specs.Effects.{directory}
use Rattle.machine.specs.Calls.{is_down}
use Rattle.machine.specs.Deliver.{taken, directory_effect, deliver_effect}
use Rattle.machine.specs.Inner.{Arrived, Delivered, has_room, Committed}
use Rattle.machine.proofs.Arrivals.{conf_of_lem}
use Rattle.machine.proofs.Addressed.{Small, Sends}
use Rattle.machine.proofs.Parties.{numbers_of_lem}
use Rattle.machine.proofs.Landings.{own, effect_up, lands, drops, not_full, page_kept}

module _ {lay : Layout} {m : List ℕ} {s : ℕ} {x : Message} (g : Arrived lay ADirectory m s x) where
  pub directory_able : (k : Conf) → k ≡ conf_of m → DirectoryAble k.f x
  directory_able k e = record { few = (numbers_of_lem lay m g.fine k e).few_crashes; sender = g.sender }

  -- it replies to the sender alone
  pub directory_few : (d : Directory) (p : Post) → p ≡ directory_post d x → Sends p
  unfolding directory_post
  directory_few d p e =
      let h : Small (only x.sender) = only_lt 16 x.sender (omega (arith, g.few)) in
      rw e
      (if_ind Sends (eqb x.kind 1) (λ _. h)
      (λ _. if_ind Sends (eqb x.kind 2) (λ _. h)
      (λ _. if_ind Sends (eqb x.kind 3) (λ _. h)
      (λ _. if_ind Sends (eqb x.kind 4) (λ _. h) (λ _. omega arith)))))

  module _ (d : Directory) (e : d ≡ directory_at (machine_of lay m) (suc (x.receiver - 1))) where
    here : d ≡ directory_at (machine_of lay m) x.receiver
    here = e ∙ ap (λ (n : ℕ). directory_at (machine_of lay m) n) (own g)

    flag : (b : Bool) → eqb d.down 1 ≡ b → is_down (machine_of lay m) ADirectory x.receiver ≡ b
    flag b h = rw here at h

    pub directory_down : (a : Answer) (l : List ℕ) → d.down ≡ 1 → a ≡ coded 4 → l ≡ words (with_slot (machine_of lay m) (suc s) no_message) (drop (extent lay) m)
        → Delivered lay (machine_of lay m) (suc s) a m l
    directory_down a l f h k = record { took = λ page. drops g page (flag true (eq-eqb _ _ f)) (not_full g (λ q. cc)) a l h k }

    pub directory_takes : (k : Conf) (y : Directory) (p : Post) (a : Answer) (l : List ℕ) → (d.down ≡ 1 → ⊥) → k ≡ conf_of m
        → y ≡ directory_after k.f d x → p ≡ directory_post d x → Committed lay m s (directory (suc (x.receiver - 1)) y) p (coded 0) a l
        → Delivered lay (machine_of lay m) (suc s) a m l
    unfolding directory_effect
    directory_takes k y p a l f c v q w = record { took = λ page. lands g page (not_full g (λ q. cc)) (directory (suc (x.receiver - 1)) y) p (coded 0) page (effect page) (directory_few d p q) a page l w (page_kept (has_room (machine_of lay m) p) page) }
      where
        effect : (page : Page) → deliver_effect (machine_of lay m) (suc s) page ≡ taken (suc s) (directory (suc (x.receiver - 1)) y) p (coded 0) page
        effect page = effect_up g page (flag false (ne_eqb _ _ f)) ∙ rw (own g, v, q, c, conf_of_lem lay m, here)
