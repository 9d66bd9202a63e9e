-- What a message and tidy keep of all entries: a fact of every entry, pages and their number, every secured tag, and that some entry is secured.
use mathlib.Core.Path.{◌∙◌}
use mathlib.Core.List.{List, [], ◌∷◌, map}
use lib.Dec.{T, eqb}
use Rattle.sets.specs.Plain.{one_of}
use Rattle.sets.specs.declared.Tag.{Tag}
use Rattle.sets.specs.Tags.{first, lower}
use Rattle.sets.proofs.Tests.{or_left, or_right, if_ind}
use Rattle.sets.proofs.TagOrder.{≺_irrefl, ≺-≼, first_least, lower→≺}
use Rattle.tables.specs.declared.Entry.{Entry}
use Rattle.tables.specs.declared.Message.{Message}
use Rattle.tables.specs.Rows.{some?}
use Rattle.tables.specs.Tables.{no_entry, is_free, is_secured, has_tag}
use Rattle.tables.proofs.All.{All, none, cons, all_map}
use Rattle.tables.proofs.Lists.{all_put_first, all_mapped, each_length, each_some}
use Rattle.tables.proofs.Whole.{Paged, blank_entry}
use Rattle.rules.specs.Replica.{entry, there, entry_with, highest, secured, secure, read, free_below, tidied, replica_after}
use Rattle.rules.proofs.Stock.{Stock}
use Rattle.rules.proofs.Highest.{highest_of}
use Rattle.rules.proofs.Changes.{some_first, some_later, free_not_secured, Kept, was_free, stays, made_secure, dropped, After, holds, writes, secures, confirms, hears, other, after, tag_has, after_kept, after_grows, tidied_grows}

-- ---- any fact

module _ {P : Entry → Type 0} where
  all_secure : {es : List Entry} (t : Tag) → ((e : Entry) → T (has_tag t e) → P e → P (secured e)) → All P es → All P (secure t es)
  unfolding secure
  all_secure t f none = none
  all_secure t f (cons {x = e} p ps) = if_ind (All P) (has_tag t e) (λ h. cons (f e h p) ps) (λ _. cons p (all_secure t f ps))

  module _ {es : List Entry} (x : Message) (put : T (eqb x.kind 10) → P (entry 1 x.tag x.page)) (told : T (eqb x.kind 15) → P (entry 2 x.tag x.page))
      (turn : T (one_of x.kind (11 ∷ 15 ∷ [])) → (e : Entry) → T (has_tag x.tag e) → P e → P (secured e)) (ps : All P es) where
    all_by : {r : List Entry} → After es x r → All P r
    all_by (holds _ _) = ps
    all_by (writes k _) = all_put_first is_free (entry 1 x.tag x.page) (put k) ps
    all_by (secures k) = all_secure x.tag (turn (or_left (eqb x.kind 11) (eqb x.kind 15) k)) ps
    all_by (confirms k _) = all_secure x.tag (turn (or_right (eqb x.kind 11) (eqb x.kind 15) k)) ps
    all_by (hears k _) = all_put_first is_free (entry 2 x.tag x.page) (told k) ps
    all_by (other _ _) = ps

    -- what is put has it, and what is made secured keeps it
    pub all_after : All P (replica_after es x)
    all_after = all_by (after es x)

  pub all_tidied : {es : List Entry} → P no_entry → All P es → All P (tidied es)
  unfolding tidied
  all_tidied {es} q ps = all_mapped (free_below (highest es)) (λ e p. if_ind P (lower e.tag (highest es)) (λ _. q) (λ _. p)) ps

  -- what is read and gossiped
  pub all_entry_with : {es : List Entry} (t : Tag) → P no_entry → All P es → P (entry_with t es)
  unfolding entry_with
  all_entry_with t q none = q
  all_entry_with t q (cons {x = e} p ps) = if_ind P (has_tag t e) (λ _. p) (λ _. all_entry_with t q ps)

  pub all_read : {es : List Entry} (t : Tag) → P no_entry → All P es → P (read t es)
  unfolding read
  all_read {es} t q ps = if_ind P (there t es) (λ _. all_entry_with t q ps) (λ _. all_entry_with (highest es) q ps)

-- ---- 12 entries with pages of 16 words

pub stock_after : {es : List Entry} (x : Message) → Paged x.page → Stock es → Stock (replica_after es x)
stock_after {es} x p s =
    record {
      many = each_length (after_grows es x) ∙ s.many;
      pages = all_after {P = λ e. Paged e.page} x (λ _. p) (λ _. p) (λ _ e _ q. q) s.pages;
    }

pub stock_tidied : {es : List Entry} → Stock es → Stock (tidied es)
stock_tidied {es} s = record { many = each_length (tidied_grows es) ∙ s.many; pages = all_tidied blank_entry s.pages }

-- ---- every secured tag

module _ (K : Tag → Type 0) where
  abbrev pub Secured : List Entry → Type 0
  Secured es = All (λ e. T (is_secured e) → K e.tag) es

  pub secured_after : {es : List Entry} (x : Message) → (T (one_of x.kind (11 ∷ 15 ∷ [])) → K x.tag) → Secured es → Secured (replica_after es x)
  secured_after x k ks =
      all_after x (λ _ s. absurd s) (λ h _. k (or_right (eqb x.kind 11) (eqb x.kind 15) h)) (λ h e g _ _. rw (tag_has x.tag e g).1 (k h)) ks

  pub secured_tidied : {es : List Entry} → Secured es → Secured (tidied es)
  unfolding no_entry
  secured_tidied ks = all_tidied (λ s. absurd s) ks

-- ---- some entry is secured

stays_secured : (e e' : Entry) → Kept first e e' → T (is_secured e) → T (is_secured e')
stays_secured e e' (was_free f) s = absurd (free_not_secured e f s)
stays_secured e e' (stays q) s = rw q s
stays_secured e e' (made_secure q) s = rw q tt
stays_secured e e' (dropped l) s = absurd (≺_irrefl (≺-≼ l (first_least e.tag)))

pub some_after : (es : List Entry) (x : Message) → T (some? is_secured es) → T (some? is_secured (replica_after es x))
some_after es x h = each_some is_secured stays_secured (after_kept (after es x)) h

-- an entry is not freed below its own tag
all_left : (es : List Entry) → All (λ e. T (is_secured e) → T (some? is_secured (map (free_below e.tag) es))) es
all_left [] = none
all_left (e ∷ es) =
    cons
    (λ s.
    if_ind (λ (y : Entry). T (some? is_secured (y ∷ map (free_below e.tag) es))) (lower e.tag e.tag)
    (λ l. absurd (≺_irrefl (lower→≺ e.tag e.tag l)))
    (λ _. some_first is_secured e (map (free_below e.tag) es) s))
    (all_map (λ a f s. some_later is_secured (free_below a.tag e) (map (free_below a.tag) es) (f s)) (all_left es))

pub some_tidied : (es : List Entry) → T (some? is_secured es) → T (some? is_secured (tidied es))
unfolding tidied
some_tidied es h = highest_of (λ (u : Tag). T (some? is_secured (map (free_below u) es))) (all_left es) h
