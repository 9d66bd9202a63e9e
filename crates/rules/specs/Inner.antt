-- What the rules ask of their caller, no more than every good machine gives, and what inner functions give. Nothing of the paper stands here.
use Rattle.std.specs.Prelude.{Bool, true, false, not, List, [], ◌∷◌, ◌≡◌, length, ℕ, ◌+◌, ◌-◌, ◌%◌, ◌≤◌, ◌<◌, if◌then◌else◌}
use Rattle.sets.specs.Sets.{has, with}
use Rattle.sets.specs.declared.Tag.{Tag}
use Rattle.tables.specs.declared.Conf.{Conf}
use Rattle.tables.specs.declared.Client.{Client}
use Rattle.tables.specs.declared.Message.{Message}
use Rattle.tables.specs.Phases.{rounds_left}
use Rattle.rules.specs.declared.Outcome.{Outcome}
use Rattle.rules.specs.declared.Outcome.TheVariants.{Next}

-- a party that a set can hold
pub record Sender (p : ℕ) : Type 0 where
  pub low : 1 ≤ p
  pub high : p ≤ 32

pub record DirectoryAble (f : ℕ) (x : Message) : Type 0 where
  pub few : f ≤ 3
  pub sender : Sender x.sender

pub record ReplicaAble (nd : ℕ) (l : List ℕ) (x : Message) : Type 0 where
  pub wide : 240 ≤ length l
  pub few : nd ≤ 31
  pub sender : Sender x.sender

-- message numbers enough for the rounds to come
pub record ClientAble (k : Conf) (w : Client) (x : Message) : Type 0 where
  pub few : k.f ≤ 3
  pub columns : k.columns ≤ 31
  pub directories : k.directories ≤ 31
  pub room : w.number + rounds_left w.phase ≤ k.top
  pub sender : Sender x.sender

-- a change of phase has one message number left
pub record AfterAble (w : Client) (x : Message) (o : Outcome) : Type 0 where
  pub sender : Sender x.sender
  pub low : w.phase ≤ 6
  pub next : (t : Tag) → o ≡ Next t → w.number < 4294967295

-- few enough parties for a set in a word
pub record Few (k : Conf) : Type 0 where
  pub directories : k.directories ≤ 31
  pub replicas : k.replicas ≤ 31

-- some columns, and no more of them and of directories than a set can hold
pub record FewColumns (k : Conf) : Type 0 where
  pub some : 1 ≤ k.columns
  pub columns : k.columns ≤ 31
  pub directories : k.directories ≤ 31

-- directory d is in s, or, where `inside` is false, out of it
abbrev pub stands : (s : ℕ) → (inside : Bool) → ℕ → Bool
stands s true d = has s d
stands s false d = not (has s d)

-- the columns in which one of the directories passes the test, and those of `known`; as a set, column j is party j + 1
unfoldable pub met : (columns : ℕ) → (ℕ → Bool) → (known : ℕ) → List ℕ → ℕ
met columns t known [] = known
met columns t known (d ∷ ds) = met columns t (if t d then with known ((d - 1) % columns + 1) else known) ds
