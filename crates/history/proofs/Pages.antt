-- Pages follow tags: whatever holds of each tag with its page, where a write chooses it, holds of all that the machine carries.
use Rattle.std.specs.Prelude.{Some}
use mathlib.Core.Path.{◌≡◌, refl, sym, ap, subst}
use mathlib.Core.Bool.{not}
use mathlib.Core.List.{List, [], ◌∷◌}
use Prim.Native.Nat.{ℕ}
use lib.Dec.{T, eqb, eqb→eq}
use Rattle.sets.specs.Plain.{one_of}
use Rattle.sets.specs.declared.Tag.{Tag}
use Rattle.sets.proofs.Tests.{if_ind}
use Rattle.tables.specs.declared.Conf.{Conf}
use Rattle.tables.specs.declared.Client.{Client}
use Rattle.tables.specs.declared.Directory.{Directory}
use Rattle.tables.specs.declared.Entry.{Entry}
use Rattle.tables.specs.declared.Message.{Message}
use Rattle.tables.specs.declared.Party.{Party}
use Rattle.tables.specs.declared.Party.TheVariants.{AClient, ADirectory, AReplica}
use Rattle.tables.specs.Kinds.{carries_page}
use Rattle.tables.specs.Rows.{some?}
use Rattle.tables.specs.Tables.{Page, Replica, Machine, no_entry, no_replica, no_message, no_client, client_at, directory_at, replica_at, slot_at, with_slots, is_free, is_secured}
use Rattle.tables.proofs.All.{All, none, cons, all_map, all_row, all_with_row, all_replicate}
use Rattle.mail.specs.declared.Post.{Post}
use Rattle.rules.specs.declared.Outcome.{Outcome}
use Rattle.rules.specs.declared.Outcome.TheVariants.{Waiting, Next, ReadEnded, WriteEnded, Spent, Stale}
use Rattle.rules.specs.Directory.{directory_post}
use Rattle.rules.specs.Replica.{there, entry_with, highest, read, replica_after, replica_post, gossip_post}
use Rattle.rules.specs.Client.{heard, request, secures, client_post}
use Rattle.rules.proofs.Heard.{heard_keeps}
use Rattle.rules.proofs.Changes.{tag_has}
use Rattle.rules.proofs.Covers.{entry_with_has, highest_there}
use Rattle.rules.proofs.Every.{all_after, all_tidied, all_entry_with}
use Rattle.machine.specs.Effects.{Change, nothing, client, directory, replica, anew, Effect, changed, applied}
use Rattle.machine.specs.Calls.{Call, downed}
use Rattle.runs.proofs.Acts.{Acts, reads, writes, empties, directs, stores, hears, gossips, tidies, crashes}
use Rattle.runs.proofs.Sound.{Sound}
use Rattle.runs.proofs.Codes.{one_of_lem}
use Rattle.runs.proofs.Kept.{arrives}
use Rattle.history.proofs.Rows.{OfClient, Sent, all_slots}
use Rattle.history.proofs.Shape.{secured_in}
use Rattle.history.proofs.Later.{settled}
use Rattle.history.proofs.Keeping.{unsent}
use Rattle.history.proofs.Clients.{heard_settled}

module _ (H : Tag → Page → Type 0) where
  -- an entry in use, a message with a page, a client in phase 5 or 6
  abbrev EntryIn : Entry → Type 0
  EntryIn e = T (not (is_free e)) → H e.tag e.page

  abbrev EntriesIn : Replica → Type 0
  EntriesIn r = All EntryIn r.entries

  abbrev MessageIn : Message → Type 0
  MessageIn x = T (carries_page x.kind) → H x.tag x.page

  abbrev pub ClientIn : Client → Type 0
  ClientIn w = T (one_of w.phase (5 ∷ 6 ∷ [])) → H w.tag w.page

  pub record Within (M : Machine) : Type 0 where
    pub clients : All ClientIn M.clients
    pub replicas : All EntriesIn M.replicas
    pub messages : All MessageIn M.slots

  -- ---- entries

  entry_with_in : (t : Tag) (es : List Entry) → All EntryIn es → T (there t es) → H (entry_with t es).tag (entry_with t es).page
  unfolding no_entry
  entry_with_in t es h k = all_entry_with t (λ z. absurd z) h (tag_has t (entry_with t es) (entry_with_has t es k)).0

  read_in : (t : Tag) (es : List Entry) → All EntryIn es → T (some? is_secured es) → H (read t es).tag (read t es).page
  unfolding read
  read_in t es h s =
      if_ind (λ (e : Entry). H e.tag e.page) (there t es) (entry_with_in t es h) (λ _. entry_with_in (highest es) es h (highest_there es s))

  after_in : (es : List Entry) (x : Message) → MessageIn x → All EntryIn es → All EntryIn (replica_after es x)
  after_in es x g h =
      all_after x (λ k _. g (rw (eqb→eq x.kind 10 k) tt)) (λ k _. g (rw (eqb→eq x.kind 15 k) tt)) (λ _ e k p _. p (tag_has x.tag e k).0) h

  -- ---- a reply at a client

  pub heard_in : (w : Client) (x : Message) → ClientIn w → ClientIn (heard w x)
  heard_in w x g h =
      let k = heard_keeps w x in
      let q : T (one_of w.phase (5 ∷ 6 ∷ [])) = subst (λ (p : ℕ). T (one_of p (5 ∷ 6 ∷ []))) k.phase h in
      let e : (heard w x).tag ≡ w.tag = ap (λ (v : Client). v.tag) (heard_settled w x w.phase refl (one_of_lem (λ p. T (settled p)) w.phase (5 ∷ 6 ∷ []) (cons tt (cons tt none)) q)) in
      rw (e, k.page) (g q)

  -- ---- what is sent

  abbrev P : Post → Type 0
  P y = Sent MessageIn y

  request_in : (k : Conf) (own : ℕ) (w : Client) → ClientIn w → P (request k own w)
  unfolding request
  request_in k own w g =
      if_ind P (eqb w.phase 1) (λ _ p h z. absurd z)
      (λ _. if_ind P (eqb w.phase 2) (λ _ p h z. absurd z)
      (λ _. if_ind P (eqb w.phase 3) (λ _ p h z. absurd z)
      (λ _. if_ind P (eqb w.phase 4) (λ _ p h z. absurd z)
      (λ _. if_ind P (eqb w.phase 5) (λ u p h z. g (subst (λ (q : ℕ). T (one_of q (5 ∷ 6 ∷ []))) (sym (eqb→eq w.phase 5 u)) tt))
      (λ _. if_ind P (eqb w.phase 6) (λ _ p h z. absurd z) (λ _. unsent MessageIn))))))

  client_in : (k : Conf) (own : ℕ) (w v : Client) (o : Outcome) → ClientIn v → P (client_post k own w v o)
  unfolding client_post secures
  client_in k own w v Stale g = unsent MessageIn
  client_in k own w v Waiting g = unsent MessageIn
  client_in k own w v (Next t) g = request_in k own v g
  client_in k own w v (ReadEnded t n) g = unsent MessageIn
  client_in k own w v (WriteEnded t) g = λ p h z. absurd z
  client_in k own w v Spent g = unsent MessageIn

  directory_in : (d : Directory) (x : Message) → P (directory_post d x)
  unfolding directory_post
  directory_in d x =
      if_ind P (eqb x.kind 1) (λ _ p h z. absurd z)
      (λ _. if_ind P (eqb x.kind 2) (λ _ p h z. absurd z)
      (λ _. if_ind P (eqb x.kind 3) (λ _ p h z. absurd z) (λ _. if_ind P (eqb x.kind 4) (λ _ p h z. absurd z) (λ _. unsent MessageIn))))

  replica_in_lem : (nd : ℕ) (es : List Entry) (x : Message) → All EntryIn es → T (some? is_secured es) → P (replica_post nd es x)
  unfolding replica_post
  replica_in_lem nd es x h s =
      if_ind P (eqb x.kind 9) (λ _ p k z. read_in x.tag es h s)
      (λ _. if_ind P (eqb x.kind 10) (λ _ p k z. absurd z) (λ _. if_ind P (eqb x.kind 15) (λ _ p k z. absurd z) (λ _. unsent MessageIn)))

  -- ---- the calls

  abbrev pub RowIn : Change → Type 0
  RowIn y = OfClient (λ c w. ClientIn w) y

  abbrev StoreIn : Change → Type 0
  StoreIn nothing = Unit
  StoreIn (client c w) = Unit
  StoreIn (directory d w) = Unit
  StoreIn (replica r w) = EntriesIn w
  StoreIn (anew k page) = ⊥

  module _ (M : Machine) (v : Within M) where
    replica_row_lem : (r : ℕ) → EntriesIn (replica_at M r)
    unfolding no_replica no_entry
    replica_row_lem r = all_row no_replica r (all_replicate 12 no_entry (λ s. absurd s)) v.replicas

    pub message_row : (s : ℕ) → MessageIn (slot_at M s)
    unfolding no_message
    message_row s = all_row no_message s (λ k. absurd k) v.messages

    pub client_row_lem : (c : ℕ) → ClientIn (client_at M c)
    unfolding no_client
    client_row_lem c = all_row no_client c (λ k. absurd k) v.clients

    rows_in : (y : Change) (ss : List Message) → RowIn y → StoreIn y → All MessageIn ss → Within (with_slots (changed y M) ss)
    rows_in nothing ss h k ms = record { clients = v.clients; replicas = v.replicas; messages = ms }
    rows_in (client c w) ss h k ms = record { clients = all_with_row c w h v.clients; replicas = v.replicas; messages = ms }
    rows_in (directory d w) ss h k ms = record { clients = v.clients; replicas = v.replicas; messages = ms }
    rows_in (replica r w) ss h k ms = record { clients = v.clients; replicas = all_with_row r w k v.replicas; messages = ms }
    rows_in (anew k page) ss h _ ms = absurd h

    downs_in : (who : Party) (p : ℕ) → StoreIn (downed M (Some who) p)
    downs_in AClient p = tt
    downs_in ADirectory p = tt
    downs_in AReplica p = replica_row_lem p

    store_in : {c : Call} {e : Effect} → Acts M c e → StoreIn e.change
    unfolding no_entry
    store_in (reads c _) = tt
    store_in (writes c page _) = tt
    store_in (empties c slots n _ _) = tt
    store_in (directs s page _) = tt
    store_in (stores s page _ _) = after_in (replica_at M (slot_at M s).receiver).entries (slot_at M s) (message_row s) (replica_row_lem (slot_at M s).receiver)
    store_in (hears s page _ _) = tt
    store_in (gossips from to _ _) = tt
    store_in (tidies r _) = all_tidied (λ k. absurd k) (replica_row_lem r)
    store_in (crashes kind id who _) = downs_in who id

    sends_in : Sound M → {c : Call} {e : Effect} → Acts M c e → RowIn e.change → P e.post
    unfolding gossip_post
    sends_in z (reads c _) h = request_in M.conf c _ h
    sends_in z (writes c page _) h = request_in M.conf c _ h
    sends_in z (empties c slots n _ _) h = unsent MessageIn
    sends_in z (directs s page _) h = directory_in (directory_at M (slot_at M s).receiver) (slot_at M s)
    sends_in z (stores s page k _) h =
        replica_in_lem M.conf.directories (replica_at M (slot_at M s).receiver).entries (slot_at M s) (replica_row_lem (slot_at M s).receiver)
        (secured_in M z (slot_at M s).receiver (arrives z k).receiver)
    sends_in z (hears s page {o} _ _) h = client_in M.conf (slot_at M s).receiver (client_at M (slot_at M s).receiver) _ o h
    sends_in z (gossips from to a _) h =
        λ p k _. entry_with_in (highest (replica_at M from).entries) (replica_at M from).entries (replica_row_lem from) (highest_there (replica_at M from).entries (secured_in M z from a))
    sends_in z (tidies r _) h = unsent MessageIn
    sends_in z (crashes kind id who _) h = unsent MessageIn

    -- every accepted call, if it holds of the changed row
    pub within_acts : Sound M → {c : Call} {e : Effect} → Acts M c e → RowIn e.change → Within (applied e M)
    unfolding no_message
    within_acts z {c} {e} k h = rows_in e.change (applied e M).slots h (store_in k) (all_slots MessageIn M e (λ q. absurd q) (sends_in z k h) v.messages)

pub within_map : {H H' : Tag → Page → Type 0} → ((t : Tag) (p : Page) → H t p → H' t p) → (M : Machine) → Within H M → Within H' M
within_map f M v =
    record {
      clients = all_map (λ w h k. f w.tag w.page (h k)) v.clients;
      replicas = all_map (λ r h. all_map (λ e g k. f e.tag e.page (g k)) h) v.replicas;
      messages = all_map (λ x h k. f x.tag x.page (h k)) v.messages;
    }
