-- The way back from Facts: a row of which the facts hold is good.
use mathlib.Core.Bool.{Bool, true, false, ◌&&◌, ◌||◌}
use mathlib.Core.Path.{◌≡◌, refl}
use Prim.Native.Nat.{ℕ, ◌≤◌}
use native.Mathlib.Omega.{arith}
use borrow.Author.Tests.{eq-eqb, eqb-true, eqb-false, lt-ltb, le-leb}
use lib.Dec.{leb, eqb}
use Rattle.sets.specs.declared.Tag.{Tag}
use Rattle.tables.specs.declared.Conf.{Conf}
use Rattle.tables.specs.declared.Client.{Client}
use Rattle.tables.specs.declared.Directory.{Directory}
use Rattle.tables.specs.declared.Entry.{Entry}
use Rattle.tables.specs.Phases.{is_idle, asks_directories, asks_replicas, uses_replica_set, uses_tag, uses_page}
use Rattle.tables.specs.Tables.{is_free}
use Rattle.inspect.specs.Good.{zeros, field, good_tag, zero_tag, good_set, good_client, good_directory, good_entry}
use Rattle.inspect.proofs.Facts.{TagFacts, ClientFacts, DirectoryFacts, EntryFacts}

or_by : (a b : Bool) → (a ≡ false → b ≡ true) → a || b ≡ true
or_by true b h = refl
or_by false b h = h refl

field_by : (used in_range is_zero : Bool) → in_range ≡ true → (used ≡ false → is_zero ≡ true) → field used in_range is_zero ≡ true
field_by true in_range is_zero h i = rw h
field_by false in_range is_zero h i = rw (i refl)

answered_by : (a b c d z : Bool) → (a ≡ true → b ≡ true) → (c ≡ true → d ≡ true)
    → (a ≡ false → c ≡ false → z ≡ true) → a && b || c && d || z ≡ true
answered_by true b c d z h i j = rw (h refl)
answered_by false b true d z h i j = rw (i refl)
answered_by false b false d z h i j = j refl refl

pub tag_made : (k : Conf) (t : Tag) → TagFacts k t → good_tag k t ≡ true
tag_made k t f = rw (le-leb _ _ f.number, le-leb _ _ f.client) (either (eqb t.number 0) refl)
  where
    either : (b : Bool) → eqb t.number 0 ≡ b → b && eqb t.client 0 || leb 1 t.number && leb 1 t.client ≡ true
    either true e = rw (eq-eqb t.client 0 (f.first (eqb-true t.number 0 e)))
    either false e =
        let n : t.number ≡ 0 → ⊥ = eqb-false t.number 0 e in
        let c : t.client ≡ 0 → ⊥ = λ z. n (f.later z) in
        rw (le-leb 1 t.number (omega (arith, n)), le-leb 1 t.client (omega (arith, c)))

pub client_made : (k : Conf) (w : Client) → ClientFacts k w → good_client k w ≡ true
unfolding good_client
client_made k w f =
    rw (
      le-leb _ _ f.down,
      le-leb _ _ f.phase,
      or_by (is_idle w.phase) (leb 1 w.number) (λ e. le-leb _ _ (f.numbered (some w.phase e))),
      le-leb _ _ f.rounds,
      answered_by (asks_directories w.phase) (good_set k.directories w.answered) (asks_replicas w.phase) (good_set k.replicas w.answered)
          (eqb w.answered 0) (λ a. lt-ltb _ _ (f.asked a)) (λ a. lt-ltb _ _ (f.asked_replicas (eqb-true _ _ a))) (λ a b. eq-eqb _ _ (f.unasked a b)),
      field_by (uses_replica_set w.phase) (good_set k.replicas w.replicas) (eqb w.replicas 0) (lt-ltb _ _ f.set) (λ u. eq-eqb _ _ (f.no_set u)),
      field_by (uses_tag w.phase) (good_tag k w.tag) (zero_tag w.tag) (tag_made k w.tag f.tag) f.no_tag,
      eq-eqb _ _ f.spare,
      or_by (uses_page w.phase) (zeros w.page) f.blank_page,
    )
  where
    some : (p : ℕ) → eqb p 0 ≡ false → 1 ≤ p
    some p e = omega (arith, eqb-false p 0 e)

pub directory_made : (k : Conf) (d : Directory) → DirectoryFacts k d → good_directory k d ≡ true
unfolding good_directory
directory_made k d f = rw (le-leb _ _ f.down, tag_made k d.tag f.tag, lt-ltb _ _ f.set)

pub entry_made : (k : Conf) (e : Entry) → EntryFacts k e → is_free e ≡ false → good_entry k e ≡ true
unfolding good_entry
entry_made k e f u = rw (u, le-leb _ _ f.state, tag_made k e.tag f.tag, eq-eqb _ _ f.spare)
