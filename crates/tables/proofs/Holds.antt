-- A buffer that holds a whole machine, and the later words t. One law for each kind of write: a run of writes is a run of these.
use mathlib.Core.Path.{◌≡◌, refl, sym, ap, ◌∙◌}
use mathlib.Core.List.{List, ◌++◌}
use Prim.Native.Nat.{ℕ, suc, ◌+◌, ◌*◌, ◌-◌, ◌≤◌, ◌<◌}
use native.Mathlib.Omega.{arith}
use lib.ListN.{length, take, drop}
use Rattle.tables.specs.declared.Layout.{Layout}
use Rattle.tables.specs.declared.Client.{Client}
use Rattle.tables.specs.declared.Directory.{Directory}
use Rattle.tables.specs.declared.Entry.{Entry}
use Rattle.tables.specs.Layouts.{entries_at, extent}
use Rattle.tables.specs.Inner.{Fits, put, with_entry}
use Rattle.tables.specs.Tables.{Machine, with_client, with_directory}
use Rattle.tables.specs.Words.{client_words, directory_words, entry_words, words}
use Rattle.tables.specs.Machines.{machine_of}
use Rattle.tables.proofs.All.{length_with_row}
use Rattle.tables.proofs.Parts.{put_rest}
use Rattle.tables.proofs.Read.{its_room}
use Rattle.tables.proofs.Whole.{Paged, Whole, Room, whole_of, whole_client, whole_directory, whole_entry}
use Rattle.tables.proofs.Round.{machine_back, words_back, rest_words, length_words, put_client, put_directory, put_entry}

pub record Holds (lay : Layout) (m : List ℕ) (M : Machine) (t : List ℕ) : Type 0 where
  pub is : m ≡ words M t
  pub whole : Whole M
  pub room : Room lay M

pub holds_start : (lay : Layout) (m : List ℕ) → Fits lay m → Holds lay m (machine_of lay m) (drop (extent lay) m)
holds_start lay m h = record { is = sym (words_back lay m h.long); whole = whole_of lay m h.long; room = its_room lay m }

module _ {lay : Layout} {m : List ℕ} {M : Machine} {t : List ℕ} (h : Holds lay m M t) where
  -- what is read of the buffer
  pub holds_machine : machine_of lay m ≡ M
  holds_machine = ap (machine_of lay) h.is ∙ machine_back lay M t h.whole h.room

  pub holds_rest : drop (extent lay) m ≡ t
  holds_rest = ap (λ (q : List ℕ). drop (extent lay) q) h.is ∙ rest_words lay M t h.whole h.room

  pub holds_length : length m ≡ extent lay + length t
  holds_length = ap length h.is ∙ length_words lay M t h.whole h.room

  pub holds_long : extent lay ≤ length m
  holds_long = omega (arith, holds_length)

  -- it is long enough for the layout, where another buffer is
  pub holds_fits : {m₀ : List ℕ} → Fits lay m₀ → Fits lay m
  holds_fits f = record { few = f.few; long = holds_long }

  -- a step of the machine
  pub holds_step : (F : Machine → Machine) (l : List ℕ) → l ≡ words (F (machine_of lay m)) (drop (extent lay) m) → Whole (F M) → Room lay (F M) → Holds lay l (F M) t
  holds_step F l e w r =
      record {
        is = e ∙ ap (λ (N : Machine). words (F N) (drop (extent lay) m)) holds_machine ∙ ap (λ (q : List ℕ). words (F M) q) holds_rest;
        whole = w;
        room = r;
      }

  -- a row written
  module _ (l : List ℕ) (i : ℕ) where
    pub holds_client : (x : Client) → i < 8 → Paged x.page → l ≡ put m (16 + i * 24) (client_words x) → Holds lay l (with_client M (suc i) x) t
    holds_client x b p e =
        record {
          is = e ∙ ap (λ (q : List ℕ). put q (16 + i * 24) (client_words x)) h.is ∙ put_client lay M t h.whole h.room i x b p;
          whole = whole_client h.whole (suc i) x p;
          room = h.room;
        }

    pub holds_directory : (x : Directory) → i < lay.directories → l ≡ put m (208 + i * 4) (directory_words x) → Holds lay l (with_directory M (suc i) x) t
    holds_directory x b e =
        record {
          is = e ∙ ap (λ (q : List ℕ). put q (208 + i * 4) (directory_words x)) h.is ∙ put_directory lay M t h.whole h.room i x b;
          whole = whole_directory h.whole (suc i) x;
          room = length_with_row M.directories (suc i) x ∙ h.room;
        }

    pub holds_entry : (j : ℕ) (x : Entry) → i < 7 → j < 12 → Paged x.page → l ≡ put m (entries_at lay + i * 240 + j * 20) (entry_words x)
        → Holds lay l (with_entry M (suc i) (suc j) x) t
    holds_entry j x b c p e =
        record {
          is = e ∙ ap (λ (q : List ℕ). put q (entries_at lay + i * 240 + j * 20) (entry_words x)) h.is ∙ put_entry lay M t h.whole h.room i j x b c p;
          whole = whole_entry h.whole (suc i) (suc j) x p;
          room = h.room;
        }

-- ---- what a writer did to the part that it was lent, said of the machine

module _ (lay : Layout) (m ys : List ℕ) (i : ℕ) (h : Fits lay m) where
  pub client_written : (x : Client) → i < 8 → length x.page ≡ 16 → ys ≡ put (take (length m - (16 + i * 24)) (drop (16 + i * 24) m)) 0 (client_words x)
      → take (16 + i * 24) m ++ (ys ++ drop (length m - (16 + i * 24)) (drop (16 + i * 24) m)) ≡ words (with_client (machine_of lay m) (suc i) x) (drop (extent lay) m)
  client_written x b p e = put_rest m (16 + i * 24) (client_words x) ys e ∙ (holds_client (holds_start lay m h) _ i x b p refl).is

  pub directory_written : (x : Directory) → i < lay.directories → ys ≡ put (take (length m - (208 + i * 4)) (drop (208 + i * 4) m)) 0 (directory_words x)
      → take (208 + i * 4) m ++ (ys ++ drop (length m - (208 + i * 4)) (drop (208 + i * 4) m)) ≡ words (with_directory (machine_of lay m) (suc i) x) (drop (extent lay) m)
  directory_written x b e = put_rest m (208 + i * 4) (directory_words x) ys e ∙ (holds_directory (holds_start lay m h) _ i x b refl).is

  pub entry_written : (e at : ℕ) (x : Entry) → i < 7 → e < 12 → length x.page ≡ 16 → at ≡ entries_at lay + i * 240
      → ys ≡ put (take (length m - (at + e * 20)) (drop (at + e * 20) m)) 0 (entry_words x)
      → take (at + e * 20) m ++ (ys ++ drop (length m - (at + e * 20)) (drop (at + e * 20) m)) ≡ words (with_entry (machine_of lay m) (suc i) (suc e) x) (drop (extent lay) m)
  entry_written e at x b g p k q = put_rest m (at + e * 20) (entry_words x) ys q ∙ rw k (holds_entry (holds_start lay m h) _ i e x b g p refl).is
