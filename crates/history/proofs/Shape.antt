-- What a sound machine says of the rows of its parties.
use mathlib.Core.Path.{◌≡◌}
use Prim.Native.Nat.{ℕ}
use native.Mathlib.Omega.{arith}
use lib.Dec.{T}
use Rattle.sets.proofs.Tests.{true-T}
use Rattle.tables.specs.declared.Client.{Client}
use Rattle.tables.specs.declared.Directory.{Directory}
use Rattle.tables.specs.Rows.{some?}
use Rattle.tables.specs.Tables.{Replica, Machine, no_client, no_directory, no_replica, client_at, directory_at, replica_at, is_secured, with_client, with_directory, with_replica}
use Rattle.inspect.proofs.Facts.{ClientFacts, client_facts, replica_facts}
use Rattle.runs.proofs.Acts.{Among}
use Rattle.runs.proofs.Sound.{Sound}
use Rattle.runs.proofs.Rows.{row_same, numbers_of_lem, client_of_lem, replica_of}

module _ (M : Machine) (z : Sound M) (p : ℕ) where
  pub client_in : Among M.conf.clients p → ClientFacts M.conf (client_at M p)
  client_in a = client_facts M.conf (client_at M p) (client_of_lem z p a.low a.high)

  -- some entry is secured
  pub secured_in : Among M.conf.replicas p → T (some? is_secured (replica_at M p).entries)
  secured_in a =
      true-T (some? is_secured (replica_at M p).entries) (replica_facts M.conf (replica_at M p) (replica_of z p a.low a.high)).secured

  -- a replaced row stands in its place
  pub client_set : Among M.conf.clients p → (w : Client) → client_at (with_client M p w) p ≡ w
  client_set a w = let n = numbers_of_lem z in row_same no_client M.clients p w a.low (omega (arith, z.whole.clients))

  pub directory_set : Among M.conf.directories p → (w : Directory) → directory_at (with_directory M p w) p ≡ w
  directory_set a w = let n = numbers_of_lem z in row_same no_directory M.directories p w a.low (omega arith)

  pub replica_set : Among M.conf.replicas p → (w : Replica) → replica_at (with_replica M p w) p ≡ w
  replica_set a w = let n = numbers_of_lem z in row_same no_replica M.replicas p w a.low (omega (arith, z.whole.replicas))
