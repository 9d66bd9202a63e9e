-- Replies: who awaits them, and who posts them.
use mathlib.Core.Path.{◌≡◌, refl}
use mathlib.Core.List.{List}
use Prim.Native.Nat.{ℕ}
use lib.Dec.{T, eqb}
use Rattle.sets.proofs.Tests.{if_ind}
use Rattle.tables.specs.declared.Conf.{Conf}
use Rattle.tables.specs.declared.Client.{Client}
use Rattle.tables.specs.declared.Directory.{Directory}
use Rattle.tables.specs.declared.Entry.{Entry}
use Rattle.tables.specs.declared.Message.{Message}
use Rattle.tables.specs.Tables.{no_message}
use Rattle.mail.specs.declared.Post.{Post}
use Rattle.rules.specs.declared.Outcome.{Outcome}
use Rattle.rules.specs.declared.Outcome.TheVariants.{Waiting, Next, ReadEnded, WriteEnded, Spent, Stale}
use Rattle.rules.specs.Directory.{directory_post}
use Rattle.rules.specs.Replica.{replica_post}
use Rattle.rules.specs.Client.{awaited, request, secures, client_post}
use Rattle.history.proofs.Rows.{Sent}
use Rattle.history.proofs.Later.{is_reply}
use Rattle.history.proofs.Keeping.{unsent}

-- ---- replies

pub awaited_reply : (p : ℕ) → (awaited p ≡ 0 → ⊥) → T (is_reply (awaited p))
unfolding awaited
awaited_reply p =
    if_ind P (eqb p 1) (λ _ _. tt)
    (λ _. if_ind P (eqb p 2) (λ _ _. tt)
    (λ _. if_ind P (eqb p 3) (λ _ _. tt)
    (λ _. if_ind P (eqb p 4) (λ _ _. tt)
    (λ _. if_ind P (eqb p 5) (λ _ _. tt)
    (λ _. if_ind P (eqb p 6) (λ _ _. tt) (λ _ n. absurd (n refl)))))))
  where
    P : ℕ → Type 0
    P k = (k ≡ 0 → ⊥) → T (is_reply k)

-- x answers message number n of client c
pub record Replies (c n : ℕ) (x : Message) : Type 0 where
  pub to : x.receiver ≡ c
  pub kind : T (is_reply x.kind)
  pub number : x.number ≡ n

-- ---- who posts replies

abbrev pub NoReply : Message → Type 0
NoReply x = T (is_reply x.kind) → ⊥

-- whoever is asked
pub request_asks : (k : Conf) (own : ℕ) (w : Client) → NoReply (request k own w).message
unfolding request no_message
request_asks k own w =
    if_ind P (eqb w.phase 1) (λ _ h. h)
    (λ _. if_ind P (eqb w.phase 2) (λ _ h. h)
    (λ _. if_ind P (eqb w.phase 3) (λ _ h. h)
    (λ _. if_ind P (eqb w.phase 4) (λ _ h. h)
    (λ _. if_ind P (eqb w.phase 5) (λ _ h. h)
    (λ _. if_ind P (eqb w.phase 6) (λ _ h. h) (λ _ h. h))))))
  where
    P : Post → Type 0
    P y = NoReply y.message

pub client_asks : (k : Conf) (own : ℕ) (w y : Client) (o : Outcome) → Sent NoReply (client_post k own w y o)
unfolding client_post secures
client_asks k own w y Stale = unsent NoReply
client_asks k own w y Waiting = unsent NoReply
client_asks k own w y (Next t) = λ p m. request_asks k own y
client_asks k own w y (ReadEnded t n) = unsent NoReply
client_asks k own w y (WriteEnded t) = λ p m h. h
client_asks k own w y Spent = unsent NoReply

-- a server posts under its own number
module _ (x : Message) where
  abbrev pub Own : Message → Type 0
  Own y = y.sender ≡ x.receiver

  abbrev pub OwnPost : Post → Type 0
  OwnPost y = Sent Own y

  pub directory_own : (d : Directory) → OwnPost (directory_post d x)
  unfolding directory_post
  directory_own d =
      if_ind OwnPost (eqb x.kind 1) (λ _ p m. refl)
      (λ _. if_ind OwnPost (eqb x.kind 2) (λ _ p m. refl)
      (λ _. if_ind OwnPost (eqb x.kind 3) (λ _ p m. refl)
      (λ _. if_ind OwnPost (eqb x.kind 4) (λ _ p m. refl) (λ _. unsent Own))))

  pub replica_own : (nd : ℕ) (es : List Entry) → OwnPost (replica_post nd es x)
  unfolding replica_post
  replica_own nd es =
      if_ind OwnPost (eqb x.kind 9) (λ _ p m. refl)
      (λ _. if_ind OwnPost (eqb x.kind 10) (λ _ p m. refl)
      (λ _. if_ind OwnPost (eqb x.kind 15) (λ _ p m. refl) (λ _. unsent Own)))
