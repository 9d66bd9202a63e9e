-- The paper's worked rehearsal, run through the definitions: each line's code, client, tag, first page word and mark.
use Rattle.std.specs.Prelude.{◌≡◌, refl, List, [], ◌∷◌, ℕ, eqb, get_or, replicate, if◌then◌else◌}
use Rattle.std.specs.Int.Count.{ones, ones_in}
use Rattle.sets.specs.Tags.{against}
use Rattle.tables.specs.Kinds.{sender_of, receiver_of}
use Rattle.tables.specs.Tables.{Page, Machine, no_page, no_client, no_directory, no_entry, no_replica, no_message}
use Rattle.tables.specs.Layouts.{base}
use Rattle.tables.specs.Machines.{clients_of, directories_of, slots_of, rows_of, conf_of, client_of, directory_of, entry_of, message_of, entries_of, replicas_of, machine_of}
use Rattle.mail.specs.Posts.{messages_of}
use Rattle.inspect.specs.Good.{good_numbers}
use Rattle.rules.specs.Quorums.{enough_to_read, enough_to_write}
use Rattle.rules.specs.Directory.{directory_after, directory_post}
use Rattle.rules.specs.Replica.{entry_with, higher_of, highest, secure, write, hear_gossip, read, mark, tidied, replica_after, replica_post, is_full, gossip_post}
use Rattle.rules.specs.Client.{awaited, enough_for, is_stale, heard, chosen, turned, outcome, client_after, request, secures, client_post}
use Rattle.machine.specs.SetUp.{new_machine}
use Rattle.machine.specs.Calls.{Call, set_up, start_read, start_write, deliver, party_of, start_effect, gossip_effect, tidy_effect, crash_effect}
use Rattle.machine.specs.Deliver.{client_effect, directory_effect, replica_effect, deliver_effect}
use Rattle.machine.specs.Refusals.{refusal}
use Rattle.machine.specs.Steps.{Result, effect_of, step}

-- a page is its first word, and zeros
abbrev page_of : ℕ → Page
page_of w = w ∷ replicate 15 0

-- code, client, tag number, tag client, the first page word if the code is 1, and the mark
abbrev line_of : Result → List ℕ
line_of r =
    r.answer.code ∷ r.answer.client ∷ r.answer.tag.number ∷ r.answer.tag.client
    ∷ (if eqb r.answer.code 1 then get_or r.page 0 0 else 0) ∷ r.answer.mark ∷ []

pub lines : Machine → List Call → List (List ℕ)
lines M [] = []
lines M (c ∷ cs) = let r : Result = step c M in line_of r ∷ lines r.machine cs

abbrev d1 : Call
d1 = deliver 1 (page_of 0)

abbrev d2 : Call
d2 = deliver 2 (page_of 0)

-- S 1 1 1 0 1 1 6 7, W 1 9, six times D 1, R 1, six times D 2, R 1
pub schedule : List Call
schedule =
    set_up (record { clients = 1; directories = 1; replicas = 1; f = 0; rq = 1; wq = 1; top = 6; columns = 0 }) (page_of 7)
    ∷ start_write 1 (page_of 9) ∷ d1 ∷ d1 ∷ d1 ∷ d1 ∷ d1 ∷ d1
    ∷ start_read 1 ∷ d2 ∷ d2 ∷ d2 ∷ d2 ∷ d2 ∷ d2 ∷ start_read 1 ∷ []

abbrev quiet : List ℕ
quiet = 0 ∷ 0 ∷ 0 ∷ 0 ∷ 0 ∷ 0 ∷ []

-- from 4,992 zero words
pub rehearsed : lines (machine_of base (replicate 4992 0)) schedule
    ≡ quiet ∷ quiet ∷ quiet ∷ quiet ∷ quiet ∷ quiet ∷ quiet ∷ (2 ∷ 1 ∷ 1 ∷ 1 ∷ 0 ∷ 0 ∷ [])
    ∷ quiet ∷ quiet ∷ quiet ∷ quiet ∷ quiet ∷ quiet ∷ (1 ∷ 1 ∷ 1 ∷ 1 ∷ 9 ∷ 1 ∷ []) ∷ (21 ∷ 0 ∷ 0 ∷ 0 ∷ 0 ∷ 0 ∷ []) ∷ []
unfolding machine_of clients_of directories_of slots_of conf_of client_of directory_of entry_of message_of entries_of replicas_of rows_of lines schedule ones ones_in against sender_of receiver_of no_page no_client no_directory no_entry no_replica no_message good_numbers messages_of enough_to_read enough_to_write directory_after directory_post entry_with higher_of highest secure write hear_gossip read mark tidied replica_after replica_post is_full gossip_post awaited enough_for is_stale heard chosen turned outcome client_after request secures client_post party_of start_effect gossip_effect tidy_effect crash_effect client_effect directory_effect replica_effect deliver_effect refusal new_machine effect_of step
rehearsed = refl
