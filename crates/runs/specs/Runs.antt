-- The words of the theorems: what a refusal leaves, what a run of calls on a lent buffer is, and what must always hold in one.
use Rattle.std.specs.Prelude.{◌≤◌, not, ◌≡◌, ℕ, T, List, [], ◌∷◌, length, drop, if◌then◌else◌}
use Rattle.sets.specs.Plain.{one_of}
use Rattle.sets.specs.Tags.{lower}
use Rattle.tables.specs.declared.Layout.{Layout}
use Rattle.tables.specs.declared.Conf.{Conf}
use Rattle.tables.specs.Rows.{row}
use Rattle.tables.specs.Tables.{Page, Machine, no_entry, client_at, directory_at, replica_at, slot_at, is_empty}
use Rattle.tables.specs.Layouts.{extent}
use Rattle.tables.specs.Words.{words}
use Rattle.rules.specs.declared.Answer.{Answer}
use Rattle.machine.specs.Calls.{Call, set_up, asks}
use Rattle.machine.specs.Refusals.{refused_codes}
use Rattle.machine.specs.Steps.{Result, refused, step}
use Rattle.machine.specs.Buffers.{wrong_page, is_set_up, Outcomes, left, call}

-- ---- one call

-- the code is one of the refusals; page and buffer are as they were
pub record Untouched (c : Call) (m : List ℕ) (o : Outcomes) : Type 0 where
  pub code : T (one_of o.answer.code refused_codes)
  pub page : o.page ≡ (asks c).fill
  pub buffer : o.buffer ≡ m

-- the words after the machine are as they were, and the buffer is as long
pub record Beyond (lay : Layout) (m n : List ℕ) : Type 0 where
  pub words : drop (extent lay) n ≡ drop (extent lay) m
  pub long : length n ≡ length m

-- ---- a run

-- the call is an accepted set-up: it begins another run
abbrev pub Renews : Call → Answer → Type 0
Renews c a = T (is_set_up c) × (a.code ≡ 0)

-- calls on a lent buffer, each on what the call before it left
abbrev pub buffer_after : Layout → List ℕ → List Call → List ℕ
buffer_after lay m [] = m
buffer_after lay m (c ∷ cs) = buffer_after lay (call lay c m).buffer cs

-- none of them is an accepted set-up
abbrev pub NoneRenews : Layout → List ℕ → List Call → Type 0
NoneRenews lay m [] = Unit {0}
NoneRenews lay m (c ∷ cs) = (Renews c (call lay c m).answer → ⊥) × NoneRenews lay (call lay c m).buffer cs

-- from the buffer m: an accepted set-up with first page p, and calls up to the next
pub record Run (lay : Layout) (m : List ℕ) (k : Conf) (p : Page) (cs : List Call) : Type 0 where
  pub begins : Renews (set_up k p) (call lay (set_up k p) m).answer
  pub goes : NoneRenews lay (call lay (set_up k p) m).buffer cs

-- ---- what must always hold

-- from M to N no message number of a client and no tag of a directory has fallen
pub record Rises (M N : Machine) : Type 0 where
  pub conf : N.conf ≡ M.conf
  pub numbers : (c : ℕ) → (client_at M c).number ≤ (client_at N c).number
  pub tags : (d : ℕ) → T (not (lower (directory_at N d).tag (directory_at M d).tag))

-- no number exceeds top
pub record Within (top : ℕ) (M : Machine) : Type 0 where
  pub client_number : (c : ℕ) → 1 ≤ c → c ≤ M.conf.clients → (client_at M c).number ≤ top
  pub client_tag : (c : ℕ) → 1 ≤ c → c ≤ M.conf.clients → (client_at M c).tag.number ≤ top
  pub directory_tag : (d : ℕ) → 1 ≤ d → d ≤ M.conf.directories → (directory_at M d).tag.number ≤ top
  pub entry_tag : (r e : ℕ) → 1 ≤ r → r ≤ M.conf.replicas → (row no_entry (replica_at M r).entries e).tag.number ≤ top
  pub message_number : (s : ℕ) → 1 ≤ s → s ≤ 128 → T (not (is_empty (slot_at M s))) → (slot_at M s).number ≤ top
  pub message_tag : (s : ℕ) → 1 ≤ s → s ≤ 128 → T (not (is_empty (slot_at M s))) → (slot_at M s).tag.number ≤ top

-- ---- calls as steps of records

-- a step, with SIZE for a page that has not 16 words
abbrev pub sized_step : Call → Machine → Result
sized_step c M = if wrong_page c then refused 16 (asks c).fill M else step c M

-- as a buffer with the later words t shows it
abbrev pub shown : List ℕ → Result → Outcomes
shown t r = left r.answer r.page (words r.machine t)

-- the results one after the other, on a machine and on a buffer
unfoldable pub ran : Machine → List Call → List Result
ran M [] = []
ran M (c ∷ cs) = let r : Result = sized_step c M in r ∷ ran r.machine cs

unfoldable pub called : Layout → List ℕ → List Call → List Outcomes
called lay m [] = []
called lay m (c ∷ cs) = let o : Outcomes = call lay c m in o ∷ called lay o.buffer cs
