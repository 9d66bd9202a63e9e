-- EACH PREMISE IS NEEDED: for each a schedule after which all the others hold, and an operation that then hangs. Computed.
use mathlib.Core.Path.{◌≡◌, refl}
use mathlib.Core.Bool.{true}
use mathlib.Core.List.{List, [], ◌∷◌, ◌++◌}
use Prim.Native.Nat.{ℕ}
use lib.Count.{ones, ones_in}
use lib.ListN.{length, replicate}
use Rattle.sets.specs.Tags.{against}
use Rattle.tables.specs.Kinds.{sender_of, receiver_of}
use Rattle.tables.specs.Tables.{Page, Machine, no_page, no_client, no_directory, no_entry, no_replica, no_message}
use Rattle.mail.specs.Posts.{messages_of}
use Rattle.inspect.specs.Good.{good_numbers}
use Rattle.rules.specs.Quorums.{has_column, meets_columns, enough_to_read, enough_to_write}
use Rattle.rules.specs.Directory.{directory_after, directory_post}
use Rattle.rules.specs.Replica.{entry_with, higher_of, highest, secure, write, hear_gossip, read, tidied, replica_after, replica_post, is_full, gossip_post}
use Rattle.rules.specs.Client.{awaited, enough_for, is_stale, heard, chosen, turned, outcome, client_after, request, secures, client_post}
use Rattle.machine.specs.SetUp.{new_machine}
use Rattle.machine.specs.Calls.{Call, start_read, start_write, gossip, crash, party_of, start_effect, gossip_effect, tidy_effect, crash_effect}
use Rattle.machine.specs.Deliver.{client_effect, directory_effect, replica_effect, deliver_effect}
use Rattle.machine.specs.Refusals.{refusal}
use Rattle.machine.specs.Steps.{effect_of, step}
use Rattle.fewest.specs.Fewest.{delivering, asked_to_read, asked_to_write}
use Rattle.fewest.specs.Hangs.{after, all_but, Hangs}

-- a machine after set-up, with f = 0, and some calls; its quorums by counts
abbrev made_of : (clients directories replicas rq wq top : ℕ) → List Call → Machine
made_of c d r rq wq top before =
    after (new_machine 5 (record { clients = c; directories = d; replicas = r; f = 0; rq = rq; wq = wq; top = top; columns = 0 }) no_page) before

-- four directories in two columns: 1 and 3, 2 and 4
abbrev four_in_two : List Call → Machine
four_in_two before =
    after (new_machine 16 (record { clients = 1; directories = 4; replicas = 1; f = 0; rq = 0; wq = 0; top = 99; columns = 2 }) no_page) before

abbrev page : Page
page = 1 ∷ replicate 15 0

-- a write of client c with one directory and one replica, and all that it sends delivered
abbrev written : ℕ → List Call
written c = start_write c page ∷ delivering (replicate 7 1)

-- eleven writes, and nobody tidied: the replica's twelve entries are taken
abbrev eleven : List Call
eleven =
    written 1 ++ written 1 ++ written 1 ++ written 1 ++ written 1 ++ written 1 ++ written 1 ++ written 1 ++ written 1 ++ written 1 ++ written 1

-- the set-up was one that is accepted; all that is asked of client c holds but the i-th; and its read hangs
abbrev ReadHangs : (i c : ℕ) → Machine → List ℕ → Type 0
ReadHangs i c M slots = (good_numbers (length M.directories) M.conf ≡ true) × (asked_to_read M c ≡ all_but i 8) × Hangs M (start_read c) 1 c slots

-- or its write
abbrev WriteHangs : (i c : ℕ) → Machine → List ℕ → Type 0
WriteHangs i c M slots = (good_numbers (length M.directories) M.conf ≡ true) × (asked_to_write M c ≡ all_but i 10) × Hangs M (start_write c page) 2 c slots

pub record Needed : Type 0 where
  -- there is no client 2
  pub client : ReadHangs 1 2 (made_of 1 1 1 1 1 99 []) []
  -- its write waits for an entry
  pub idle : ReadHangs 2 1 (made_of 1 1 1 1 1 99 (eleven ++ start_write 1 page ∷ delivering (1 ∷ 1 ∷ []))) []
  pub up : ReadHangs 3 1 (made_of 1 1 1 1 1 99 (crash 1 1 ∷ [])) []
  -- one read has used the three numbers
  pub numbered : ReadHangs 4 1 (made_of 1 1 1 1 1 3 (start_read 1 ∷ delivering (replicate 6 1))) []
  -- the request to the replica is dropped
  pub replicas : ReadHangs 5 1 (made_of 1 1 1 1 1 99 (crash 3 1 ∷ [])) (1 ∷ 1 ∷ 1 ∷ 1 ∷ 1 ∷ [])
  -- one of two directories is down: rq is 2
  pub readers : ReadHangs 6 1 (made_of 1 2 1 2 1 99 (crash 2 2 ∷ [])) (1 ∷ 1 ∷ 2 ∷ [])
  -- or wq is
  pub writers : ReadHangs 7 1 (made_of 1 2 1 1 2 99 (crash 2 2 ∷ [])) (1 ∷ 1 ∷ 1 ∷ 1 ∷ 2 ∷ 3 ∷ [])
  -- in columns: one of each is up, and no column whole
  pub whole : ReadHangs 6 1 (four_in_two (crash 2 1 ∷ crash 2 2 ∷ [])) (1 ∷ 2 ∷ 3 ∷ 4 ∷ 1 ∷ 2 ∷ [])
  -- the first column is up, and the second down
  pub each : ReadHangs 7 1 (four_in_two (crash 2 2 ∷ crash 2 4 ∷ [])) (1 ∷ 3 ∷ 1 ∷ 3 ∷ 2 ∷ 4 ∷ 3 ∷ 6 ∷ 1 ∷ 5 ∷ 1 ∷ 2 ∷ [])
  -- 128 gossips: each would be answered by two notices, and leaves one slot
  pub slots : ReadHangs 8 1 (made_of 1 2 2 1 2 99 (replicate 128 (gossip 1 2))) []
  pub entries : WriteHangs 9 1 (made_of 1 1 1 1 1 99 eleven) (1 ∷ 1 ∷ [])
  -- three writes have used the three numbers: SPENT
  pub below : WriteHangs 10 1 (made_of 4 1 1 1 1 3 (written 2 ++ written 3 ++ written 4)) (1 ∷ 1 ∷ [])

pub needed : Needed
unfolding ones ones_in against sender_of receiver_of no_page no_client no_directory no_entry no_replica no_message good_numbers messages_of has_column meets_columns enough_to_read enough_to_write directory_after directory_post entry_with higher_of highest secure write hear_gossip read tidied replica_after replica_post is_full gossip_post awaited enough_for is_stale heard chosen turned outcome client_after request secures client_post party_of start_effect gossip_effect tidy_effect crash_effect client_effect directory_effect replica_effect deliver_effect refusal new_machine effect_of step
needed =
    record {
      client = (refl, refl, record { unended = refl; stuck = refl });
      idle = (refl, refl, record { unended = refl; stuck = refl });
      up = (refl, refl, record { unended = refl; stuck = refl });
      numbered = (refl, refl, record { unended = refl; stuck = refl });
      replicas = (refl, refl, record { unended = refl; stuck = refl });
      readers = (refl, refl, record { unended = refl; stuck = refl });
      writers = (refl, refl, record { unended = refl; stuck = refl });
      whole = (refl, refl, record { unended = refl; stuck = refl });
      each = (refl, refl, record { unended = refl; stuck = refl });
      slots = (refl, refl, record { unended = refl; stuck = refl });
      entries = (refl, refl, record { unended = refl; stuck = refl });
      below = (refl, refl, record { unended = refl; stuck = refl });
    }
