-- The paper's rehearsal as the events of its run, and a read that gets a newer page: the theorems speak of something.
use mathlib.Core.Path.{◌≡◌, refl, ap, ◌∙◌}
use mathlib.Core.List.{List, [], ◌∷◌}
use Prim.Native.Nat.{ℕ}
use lib.Count.{ones, ones_in}
use lib.ListN.{replicate}
use Rattle.sets.specs.Tags.{tag, against}
use Rattle.tables.specs.declared.Layout.{Layout}
use Rattle.tables.specs.declared.Conf.{Conf}
use Rattle.tables.specs.Kinds.{sender_of, receiver_of}
use Rattle.tables.specs.Tables.{Page, no_page, no_client, no_directory, no_entry, no_replica, no_message}
use Rattle.tables.specs.Rows.{rows_words, joined}
use Rattle.tables.specs.Layouts.{base, wide, extent}
use Rattle.tables.specs.Machines.{rows_of, clients_of, directories_of, slots_of, conf_of, client_of, directory_of, entry_of, message_of, entries_of, replicas_of, machine_of}
use Rattle.tables.specs.Words.{conf_words, client_words, directory_words, down_words, entry_words, replica_words, message_words, blocks, words}
use Rattle.inspect.specs.Good.{good_numbers, zeros, good_client, good_directory, good_entry, tags_once, good_replica, good_message, client_row, directory_row, replica_row, slot_row, good_machine, good}
use Rattle.machine.specs.SetUp.{new_machine}
use Rattle.machine.specs.Buffers.{call}
use Rattle.rules.specs.declared.Answer.{Answer}
use Rattle.rules.specs.Answers.{answer, coded}
use Rattle.mail.specs.Posts.{messages_of}
use Rattle.rules.specs.Quorums.{has_column, meets_columns, enough_to_read, enough_to_write}
use Rattle.rules.specs.Directory.{directory_after, directory_post}
use Rattle.rules.specs.Replica.{entry_with, higher_of, highest, secure, write, read, mark, tidied, replica_after, replica_post, is_full}
use Rattle.rules.specs.Client.{awaited, enough_for, is_stale, heard, chosen, turned, outcome, client_after, request, secures, client_post}
use Rattle.machine.specs.Calls.{Call, set_up, start_read, start_write, deliver, tidy, start_effect, tidy_effect}
use Rattle.machine.specs.Deliver.{client_effect, directory_effect, replica_effect, deliver_effect}
use Rattle.machine.specs.Refusals.{refusal}
use Rattle.machine.specs.Steps.{effect_of, step}
use Rattle.order.specs.Run.{Event, read_begins, write_begins, read_ends, write_ends, nothing, events}
use Rattle.history.specs.Show.{event_of, on_buffer}

-- a page is its first word, and zeros
abbrev page : ℕ → Page
page w = w ∷ replicate 15 0

abbrev small : Conf
small = record { clients = 1; directories = 1; replicas = 1; f = 0; rq = 1; wq = 1; top = 6; columns = 0 }

-- two directories in two columns: reading takes one of them, and writing both
abbrev paired : Conf
paired = record { clients = 1; directories = 2; replicas = 1; f = 0; rq = 0; wq = 0; top = 6; columns = 2 }

abbrev two : Conf
two = record { clients = 2; directories = 1; replicas = 1; f = 0; rq = 1; wq = 1; top = 6; columns = 0 }

abbrev at : ℕ → Call
at s = deliver s (page 0)

rehearsal : List Call
rehearsal =
    start_write 1 (page 9) ∷ at 1 ∷ at 1 ∷ at 1 ∷ at 1 ∷ at 1 ∷ at 1 ∷ start_read 1 ∷ at 2 ∷ at 2 ∷ at 2 ∷ at 2 ∷ at 2 ∷ at 2 ∷ start_read 1 ∷ []

-- a write, a read and a start with no numbers left, as few deliveries as will do
rehearsal_paired : List Call
rehearsal_paired =
    start_write 1 (page 9) ∷ at 1 ∷ at 1 ∷ at 1 ∷ at 1 ∷ at 1 ∷ at 1 ∷ at 3 ∷ at 1
    ∷ start_read 1 ∷ at 3 ∷ at 3 ∷ at 3 ∷ at 3 ∷ at 5 ∷ at 3 ∷ at 3 ∷ at 3 ∷ start_read 1 ∷ []

-- client 2 asks for (0,0); client 1 writes, and the replica tidies (0,0) away before the read comes to it
overtaken : List Call
overtaken =
    start_read 2 ∷ at 1 ∷ at 1 ∷ at 1 ∷ at 1 ∷ start_write 1 (page 9) ∷ at 2 ∷ at 2 ∷ at 2 ∷ at 2 ∷ at 2 ∷ at 2 ∷ at 2 ∷ tidy 1 ∷ at 1 ∷ at 1 ∷ []

-- what each call answers, and what the page to fill holds afterwards
answers : Layout → List ℕ → List Call → List (Answer × Page)
answers lay m [] = []
answers lay m (c ∷ cs) = ((call lay c m).answer, (call lay c m).page) ∷ answers lay (call lay c m).buffer cs

shown : List Call → List (Answer × Page) → List Event
shown [] l = []
shown (c ∷ cs) [] = []
shown (c ∷ cs) (a ∷ l) = event_of c a.0 a.1 ∷ shown cs l

as_shown : (lay : Layout) (m : List ℕ) (cs : List Call) → events (on_buffer lay) m cs ≡ shown cs (answers lay m cs)
unfolding events answers shown
as_shown lay m [] = refl
as_shown lay m (c ∷ cs) = ap (λ l. event_of c (call lay c m).answer (call lay c m).page ∷ l) (as_shown lay (call lay c m).buffer cs)

abbrev quiet : Answer × Page
quiet = (coded 0, page 0)

abbrev begins : Answer × Page
begins = (coded 0, [])

abbrev start : Layout → Conf → List ℕ
start lay k = (call lay (set_up k (page 7)) (replicate (extent lay) 0)).buffer

abbrev answered : List (Answer × Page)
answered =
    begins ∷ quiet ∷ quiet ∷ quiet ∷ quiet ∷ quiet ∷ (answer 2 1 (tag 1 1) 0, page 0)
    ∷ begins ∷ quiet ∷ quiet ∷ quiet ∷ quiet ∷ quiet ∷ (answer 1 1 (tag 1 1) 1, page 9) ∷ (coded 21, []) ∷ []

abbrev answered_paired : List (Answer × Page)
answered_paired =
    begins ∷ quiet ∷ quiet ∷ quiet ∷ quiet ∷ quiet ∷ quiet ∷ quiet ∷ (answer 2 1 (tag 1 1) 0, page 0)
    ∷ begins ∷ quiet ∷ quiet ∷ quiet ∷ quiet ∷ quiet ∷ quiet ∷ quiet ∷ (answer 1 1 (tag 1 1) 1, page 9) ∷ (coded 21, []) ∷ []

-- so the read gets (1,1), marked 0
abbrev answered_newer : List (Answer × Page)
answered_newer =
    begins ∷ quiet ∷ quiet ∷ quiet ∷ quiet ∷ begins ∷ quiet ∷ quiet ∷ quiet ∷ quiet ∷ quiet ∷ (answer 2 1 (tag 1 1) 0, page 0)
    ∷ quiet ∷ (coded 0, []) ∷ quiet ∷ (answer 1 2 (tag 1 1) 0, page 9) ∷ []

-- in either layout
answers_are : (answers base (start base small) rehearsal ≡ answered) × (answers wide (start wide paired) rehearsal_paired ≡ answered_paired)
    × (answers base (start base two) overtaken ≡ answered_newer)
unfolding answers call good good_machine client_row directory_row replica_row slot_row good_client good_directory good_entry good_replica good_message tags_once zeros rows_words rows_of clients_of directories_of slots_of joined conf_words client_words directory_words down_words entry_words replica_words message_words conf_of client_of directory_of entry_of message_of entries_of replicas_of blocks words machine_of rehearsal rehearsal_paired overtaken ones ones_in against sender_of receiver_of no_page no_client no_directory no_entry no_replica no_message good_numbers messages_of has_column meets_columns enough_to_read enough_to_write directory_after directory_post entry_with higher_of highest secure write read mark tidied replica_after replica_post is_full awaited enough_for is_stale heard chosen turned outcome client_after request secures client_post start_effect tidy_effect client_effect directory_effect replica_effect deliver_effect refusal new_machine effect_of step
answers_are = (refl, refl, refl)

rehearsed : events (on_buffer base) (start base small) rehearsal
    ≡ write_begins 1 (page 9) ∷ nothing ∷ nothing ∷ nothing ∷ nothing ∷ nothing ∷ write_ends 1
    ∷ read_begins 1 ∷ nothing ∷ nothing ∷ nothing ∷ nothing ∷ nothing ∷ read_ends 1 (page 9) ∷ nothing ∷ []
unfolding event_of shown rehearsal
rehearsed = as_shown base (start base small) rehearsal ∙ ap (shown rehearsal) answers_are.0

rehearsed_paired : events (on_buffer wide) (start wide paired) rehearsal_paired
    ≡ write_begins 1 (page 9) ∷ nothing ∷ nothing ∷ nothing ∷ nothing ∷ nothing ∷ nothing ∷ nothing ∷ write_ends 1
    ∷ read_begins 1 ∷ nothing ∷ nothing ∷ nothing ∷ nothing ∷ nothing ∷ nothing ∷ nothing ∷ read_ends 1 (page 9) ∷ nothing ∷ []
unfolding event_of shown rehearsal_paired
rehearsed_paired = as_shown wide (start wide paired) rehearsal_paired ∙ ap (shown rehearsal_paired) answers_are.1

-- twelve directories are more than one layout has room for; in the other they stand in 3 columns, and not in 5
abbrev twelve : ℕ → Call
twelve columns = set_up (record { clients = 1; directories = 12; replicas = 1; f = 0; rq = 0; wq = 0; top = 6; columns = columns }) (page 7)

set_up_twelve : ((call base (twelve 3) (replicate 4992 0)).answer ≡ coded 18) × ((call wide (twelve 3) (replicate 5036 0)).answer ≡ coded 0)
    × ((call wide (twelve 5) (replicate 5036 0)).answer ≡ coded 18)
unfolding call good_numbers rows_of directories_of directory_of slots_of machine_of message_of messages_of refusal effect_of step
set_up_twelve = (refl, refl, refl)
