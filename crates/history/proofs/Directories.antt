-- The invariant over a delivery to a directory.
use mathlib.Core.Path.{◌≡◌, sym, subst}
use mathlib.Core.Logic.{⊎_elim}
use Prim.Native.Nat.{ℕ}
use native.Mathlib.Nat.{le_trans}
use lib.Dec.{T, eqb, eqb→eq}
use Rattle.sets.specs.declared.Tag.{Tag}
use Rattle.sets.specs.Tags.{first}
use Rattle.sets.specs.Sets.{join}
use Rattle.sets.specs.Inner.{◌∈◌}
use Rattle.sets.proofs.Laws.{join_in, only_in, size_join_left}
use Rattle.sets.proofs.Tests.{or_elim, or_left, or_right, if_ind}
use Rattle.sets.proofs.TagOrder.{◌≼◌}
use Rattle.tables.specs.declared.Directory.{Directory}
use Rattle.tables.specs.declared.Message.{Message}
use Rattle.tables.specs.Tables.{Machine, no_page, directory_at}
use Rattle.mail.specs.declared.Post.{Post}
use Rattle.mail.specs.Posts.{message}
use Rattle.rules.specs.Directory.{directory_after, directory_post}
use Rattle.rules.proofs.DirectoryViews.{Tells, DirectoryView, joins, takes, adds, stays, directory_view, tag_reached}
use Rattle.history.proofs.Rows.{Sent}
use Rattle.history.proofs.Invariant.{CoversAt, Told, While, Fact, MessageOk}
use Rattle.history.proofs.Later.{Later, settled, told_later, past_later, while_later}
use Rattle.history.proofs.Keeping.{unsent, to_one}

pub told_more : {M : Machine} {t : Tag} {a : ℕ} (b : ℕ) → Told M t a → ((r : ℕ) → r ∈ b → CoversAt M r t) → Told M t (join a b)
told_more {a = a} b h g =
    record { enough = le_trans h.enough (size_join_left a b); covers = λ r k. ⊎_elim (λ u. h.covers r u) (λ u. g r u) (join_in a b r k) }

module _ (M : Machine) (x : Message) (g : MessageOk M x) (h : Told M (directory_at M x.receiver).tag (directory_at M x.receiver).set) where
  abbrev d : Directory
  d = directory_at M x.receiver

  message_told : Tells x → Told M x.tag x.set
  message_told k =
      ⊎_elim (λ u. (subst (Fact M x) (eqb→eq x.kind 2 u) g).1) (λ u. (subst (Fact M x) (eqb→eq x.kind 4 u) g).1)
      (or_elim (eqb x.kind 2) (eqb x.kind 4) k)

  pub directory_ok : Told M (directory_after M.conf.f d x).tag (directory_after M.conf.f d x).set
  directory_ok = go (directory_view M.conf.f d x)
    where
      go : {y : Directory} → DirectoryView M.conf.f d x y → Told M y.tag y.set
      go (joins t e) = told_more _ h (λ r k. subst (CoversAt M r) e ((message_told t).covers r k))
      go (takes t _ _) = message_told t
      go (adds t e) =
          told_more _ h
          (λ r k. subst (λ (q : ℕ). CoversAt M q d.tag) (sym (only_in r x.sender k)) (subst (CoversAt M x.sender) e (subst (Fact M x) (eqb→eq x.kind 14 t) g)))
      go (stays _) = h

  -- in a later machine that has the directory's new row
  module _ {N : Machine} (l : Later M N) (new : directory_at N x.receiver ≡ directory_after M.conf.f d x) where
    answers : (p : ℕ) → T (settled p) → Tells x → While M x.sender p x.number (λ t. x.tag ≡ t) → While N x.sender p x.number (λ t. t ≼ (directory_at N x.receiver).tag)
    answers p s k a =
        while_later l p s
        (λ t q. rw new (subst (λ (z : Tag). z ≼ (directory_after M.conf.f d x).tag) q (tag_reached M.conf.f d x k (message_told k).enough))) a

    pub directory_sends : Sent (MessageOk N) (directory_post d x)
    unfolding directory_post
    directory_sends =
        if_ind P (eqb x.kind 1)
        (λ k. to_one (MessageOk N) (message 5 x.receiver d.tag d.set x.number no_page) x.sender
        (past_later l x.sender x.number (subst (Fact M x) (eqb→eq x.kind 1 k) g), told_later l h))
        (λ _. if_ind P (eqb x.kind 2)
        (λ k. to_one (MessageOk N) (message 6 x.receiver first 0 x.number no_page) x.sender
        (answers 2 tt (or_left (eqb x.kind 2) (eqb x.kind 4) k) (subst (Fact M x) (eqb→eq x.kind 2 k) g).0))
        (λ _. if_ind P (eqb x.kind 3)
        (λ k. to_one (MessageOk N) (message 7 x.receiver d.tag 0 x.number no_page) x.sender
        (past_later l x.sender x.number (subst (Fact M x) (eqb→eq x.kind 3 k) g)))
        (λ _. if_ind P (eqb x.kind 4)
        (λ k. to_one (MessageOk N) (message 8 x.receiver first 0 x.number no_page) x.sender
        (answers 6 tt (or_right (eqb x.kind 2) (eqb x.kind 4) k) (subst (Fact M x) (eqb→eq x.kind 4 k) g).0))
        (λ _. unsent (MessageOk N)))))
      where
        P : Post → Type 0
        P y = Sent (MessageOk N) y
