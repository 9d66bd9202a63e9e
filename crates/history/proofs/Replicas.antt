-- The invariant over a delivery to a replica, gossip and tidy.
use mathlib.Core.Path.{◌≡◌, subst}
use mathlib.Core.Bool.{not}
use mathlib.Core.Logic.{⊎_elim}
use mathlib.Core.List.{List, [], ◌∷◌}
use Prim.Native.Nat.{ℕ}
use lib.Dec.{T, eqb, eqb→eq}
use Rattle.sets.specs.Plain.{one_of}
use Rattle.sets.specs.declared.Tag.{Tag}
use Rattle.sets.specs.Tags.{first}
use Rattle.sets.proofs.Tests.{or_elim, or_left, or_right, if_ind}
use Rattle.tables.specs.declared.Entry.{Entry}
use Rattle.tables.specs.declared.Message.{Message}
use Rattle.tables.specs.Rows.{some?}
use Rattle.tables.specs.Tables.{Machine, no_page, no_entry, no_replica, replica_at, is_secured}
use Rattle.tables.proofs.All.{all_row, all_replicate}
use Rattle.mail.specs.declared.Post.{Post}
use Rattle.mail.specs.Posts.{message}
use Rattle.rules.specs.Replica.{highest, entry_with, read, mark, replica_after, replica_post, is_full, gossip_post}
use Rattle.rules.proofs.Highest.{highest_of}
use Rattle.rules.proofs.Covers.{Copied, covers_new, highest_tag, read_copies, read_of}
use Rattle.rules.proofs.Every.{Secured, secured_after}
use Rattle.history.proofs.Rows.{Sent}
use Rattle.history.proofs.Invariant.{CoversAt, Known, Fact, MessageOk, Invariant}
use Rattle.history.proofs.Later.{Later, known_later, while_later}
use Rattle.history.proofs.Keeping.{unsent, to_one}

-- of any replica
pub replica_ok : {M : Machine} → Invariant M → (r : ℕ) → Secured (Known M) (replica_at M r).entries
unfolding no_replica no_entry
replica_ok v r = all_row no_replica r (all_replicate 12 no_entry (λ s. absurd s)) v.replicas

module _ (M : Machine) (x : Message) (g : MessageOk M x) (es : List Entry) (ks : Secured (Known M) es) where
  pub stored_ok : Secured (Known M) (replica_after es x)
  stored_ok =
      secured_after (Known M) x
      (λ k.
      ⊎_elim (λ u. subst (Fact M x) (eqb→eq x.kind 11 u) g) (λ u. subst (Fact M x) (eqb→eq x.kind 15 u) g)
      (or_elim (eqb x.kind 11) (eqb x.kind 15) k))
      ks

  -- in a later machine that has the replica's new entries
  module _ {N : Machine} (l : Later M N) (old : (replica_at M x.receiver).entries ≡ es) (new : (replica_at N x.receiver).entries ≡ replica_after es x)
      (s : T (some? is_secured es)) (n : T (not (is_full es x))) where
    covered : T (one_of x.kind (10 ∷ 15 ∷ [])) → CoversAt N x.receiver x.tag
    covered k = rw new (covers_new es x k n)

    pub replica_sends : (nd : ℕ) → Sent (MessageOk N) (replica_post nd es x)
    unfolding replica_post
    replica_sends nd =
        if_ind P (eqb x.kind 9)
        (λ k. let u : Fact M x 9 = subst (Fact M x) (eqb→eq x.kind 9 k) g in
        to_one (MessageOk N) (message 12 x.receiver (read x.tag es).tag (mark x.tag es) x.number (read x.tag es).page) x.sender (
          while_later l 3 tt (λ t q. subst (λ (z : Tag). Copied z (read x.tag es).tag (mark x.tag es)) q (read_copies es s x.tag (rw old at u.1))) u.0,
          known_later l (read_of es s x.tag (Known M) u.2 ks),
        ))
        (λ _. if_ind P (eqb x.kind 10)
        (λ k. let u : Fact M x 10 = subst (Fact M x) (eqb→eq x.kind 10 k) g in
        to_one (MessageOk N) (message 13 x.receiver first 0 x.number no_page) x.sender
        (while_later l 5 tt (λ t q. subst (CoversAt N x.receiver) q (covered (or_left (eqb x.kind 10) (eqb x.kind 15) k))) u))
        (λ _. if_ind P (eqb x.kind 15) (λ k p h. covered (or_right (eqb x.kind 10) (eqb x.kind 15) k)) (λ _. unsent (MessageOk N))))
      where
        P : Post → Type 0
        P y = Sent (MessageOk N) y

pub gossip_sends : {M N : Machine} → Later M N → (es : List Entry) → Secured (Known M) es → T (some? is_secured es) → (from to : ℕ)
    → Sent (MessageOk N) (gossip_post es from to)
unfolding gossip_post
gossip_sends {M} {N} l es ks s from to =
    to_one (MessageOk N) (message 15 from (entry_with (highest es) es).tag 0 0 (entry_with (highest es) es).page) to
    (known_later l (rw (highest_tag es s) (highest_of (Known M) ks s)))
