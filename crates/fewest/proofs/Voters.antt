-- Of the directories that are up, just enough for each phase that asks directories.
use mathlib.Core.Path.{◌≡◌, ap}
use mathlib.Core.Bool.{not}
use Prim.Native.Nat.{ℕ, ◌^◌, ◌≤◌, ◌<◌}
use native.Mathlib.Omega.{arith}
use borrow.Author.Tests.{eq-eqb}
use lib.Dec.{T, leb}
use lib.ListN.{length}
use lib.Pow.{pow_pos}
use Rattle.tables.specs.declared.Conf.{Conf}
use Rattle.tables.specs.declared.Party.TheVariants.{ADirectory}
use Rattle.tables.specs.Phases.{asks_directories}
use Rattle.tables.specs.Tables.{Machine}
use Rattle.tables.proofs.Quorums.{Quorums}
use Rattle.rules.specs.Quorums.{enough_to_read, enough_to_write}
use Rattle.rules.specs.Client.{enough_for}
use Rattle.machine.specs.Calls.{is_down}
use Rattle.runs.proofs.Rows.{numbers_of_lem}
use Rattle.history.proofs.Walk.{Good}
use Rattle.fewest.specs.Fewest.{ups, set_of}
use Rattle.fewest.proofs.Choose.{Rising, rising_of, rising_map, rising_keep, size_set, set_in, gather_lt, Chosen, Member, Just}
use Rattle.fewest.proofs.Quorums.{some_readers, some_writers, just_readers, just_writers, needed}
use Rattle.fewest.proofs.Ready.{Ready}
use Rattle.fewest.proofs.Serve.{Phase, rdr, rdw, rrr, wdr, wrw, wdw}

-- a directory that is up
pub record Standing (M : Machine) (d : ℕ) : Type 0 where
  pub low : 1 ≤ d
  pub high : d ≤ M.conf.directories
  pub up : T (not (is_down M ADirectory d))

module _ (M : Machine) where
  all_standing : Rising (Standing M) 0 (ups M ADirectory)
  all_standing = rising_keep (λ d. not (is_down M ADirectory d)) 0 M.conf.directories (λ d l h u. record { low = l; high = omega arith; up = u })

  -- with counts what is asked of them is "at least the greater of rq and wq directories up"
  module _ (e : M.conf.columns ≡ 0) where
    pub readers_up : enough_to_read M.conf (set_of (ups M ADirectory)) ≡ leb M.conf.rq (length (ups M ADirectory))
    unfolding enough_to_read
    readers_up = rw (eq-eqb M.conf.columns 0 e) (ap (leb M.conf.rq) (size_set all_standing))

    pub writers_up : enough_to_write M.conf (set_of (ups M ADirectory)) ≡ leb M.conf.wq (length (ups M ADirectory))
    unfolding enough_to_write
    writers_up = rw (eq-eqb M.conf.columns 0 e) (ap (leb M.conf.wq) (size_set all_standing))

-- so many of them as phase p needs, and enough by its test
pub record Voters (M : Machine) (p : ℕ) : Type 0 where
  pub some : 1 ≤ needed M.conf p
  pub chosen : Chosen (Standing M) 0 (needed M.conf p)
  pub pass : T (enough_for M.conf p (set_of chosen.list))

module _ {M : Machine} {c : ℕ} (G : Good M) (R : Ready M c) where
  abbrev k : Conf
  k = M.conf

  quorums : Quorums k
  quorums = (numbers_of_lem G.sound).quorums

  abbrev up : ℕ
  up = set_of (ups M ADirectory)

  up_few : up < 2 ^ k.directories
  up_few = gather_lt k.directories (λ d h. h.high) (pow_pos k.directories) (all_standing M)

  standing : (d : ℕ) → 0 < d → Member k.directories up d → Standing M d
  standing d l h = (rising_of (all_standing M) (set_in (ups M ADirectory) d h.inside)).1

  vote : (p : ℕ) → 1 ≤ needed k p → Just k.directories (enough_for k p) up (needed k p) → Voters M p
  vote p o j =
      let c = j.chosen in
      record { some = o; chosen = record { list = c.list; count = c.count; rising = rising_map standing c.rising }; pass = j.pass }

  pub voters : {p : ℕ} → Phase p → T (asks_directories p) → Voters M p
  unfolding enough_for
  voters rdr a = vote 1 (some_readers k quorums) (just_readers k up up_few quorums R.readers)
  voters rdw a = vote 2 (some_writers k quorums) (just_writers k up up_few quorums R.writers)
  voters rrr a = absurd a
  voters wdr a = vote 4 (some_readers k quorums) (just_readers k up up_few quorums R.readers)
  voters wrw a = absurd a
  voters wdw a = vote 6 (some_writers k quorums) (just_writers k up up_few quorums R.writers)
