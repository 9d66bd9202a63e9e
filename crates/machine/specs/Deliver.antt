-- Deliver: the message in a slot is removed, and its receiver takes it by its rule.
use Rattle.std.specs.Prelude.{ℕ, [], ◌∷◌, Option, None, Some, if◌then◌else◌}
use Rattle.tables.specs.declared.Client.{Client}
use Rattle.tables.specs.declared.Directory.{Directory}
use Rattle.tables.specs.declared.Message.{Message}
use Rattle.tables.specs.declared.Party.{Party}
use Rattle.tables.specs.declared.Party.TheVariants.{AClient, ADirectory, AReplica}
use Rattle.tables.specs.Tables.{Page, Replica, Machine, client_at, directory_at, replica_at, slot_at}
use Rattle.tables.specs.Kinds.{receiver_of}
use Rattle.mail.specs.declared.Post.{Post}
use Rattle.rules.specs.declared.Answer.{Answer}
use Rattle.rules.specs.declared.Outcome.{Outcome}
use Rattle.rules.specs.declared.Outcome.TheVariants.{Waiting, Next, ReadEnded, WriteEnded, Spent, Stale}
use Rattle.rules.specs.Answers.{coded, answer_of}
use Rattle.rules.specs.Directory.{directory_after, directory_post}
use Rattle.rules.specs.Replica.{replica_after, replica_post}
use Rattle.rules.specs.Client.{outcome, client_after, client_post}
use Rattle.machine.specs.Calls.{asked, is_down, emptying}
use Rattle.machine.specs.Effects.{Change, client, directory, replica, Effect}

-- slot s is emptied
abbrev pub taken : ℕ → Change → Post → Answer → Page → Effect
taken s change post answer page = record { emptied = s ∷ []; change = change; post = post; answer = answer; page = page }

-- "Deliver takes a page to fill, written by code 1 only"
abbrev pub filled : Outcome → Message → Page → Page
filled (ReadEnded t mark) x page = x.page
filled Waiting x page = page
filled (Next t) x page = page
filled (WriteEnded t) x page = page
filled Spent x page = page
filled Stale x page = page

unfoldable pub client_effect : Machine → ℕ → Message → Page → Effect
client_effect M s x page =
    let own : ℕ = x.receiver in
    let w : Client = client_at M own in
    let o : Outcome = outcome M.conf own w x in
    let y : Client = client_after w x o in
    taken s (client own y) (client_post M.conf own w y o) (answer_of own o) (filled o x page)

unfoldable pub directory_effect : Machine → ℕ → Message → Page → Effect
directory_effect M s x page =
    let d : Directory = directory_at M x.receiver in
    taken s (directory x.receiver (directory_after M.conf.f d x)) (directory_post d x) (coded 0) page

unfoldable pub replica_effect : Machine → ℕ → Message → Page → Effect
replica_effect M s x page =
    let r : Replica = replica_at M x.receiver in
    taken s (replica x.receiver (record { down = r.down; entries = replica_after r.entries x }))
    (replica_post M.conf.directories r.entries x) (coded 0) page

-- with no receiver, the slot is emptied and no more
abbrev pub received : Option Party → Machine → ℕ → Message → Page → Effect
received None M s x page = emptying (s ∷ []) 0 page
received (Some AClient) M s x page = client_effect M s x page
received (Some ADirectory) M s x page = directory_effect M s x page
received (Some AReplica) M s x page = replica_effect M s x page

-- DROPPED: "receiver down; the message is removed"
unfoldable pub deliver_effect : Machine → ℕ → Page → Effect
deliver_effect M s page =
    let x : Message = slot_at M s in
    let who : Option Party = receiver_of x.kind in
    if asked (λ party. is_down M party x.receiver) who then emptying (s ∷ []) 4 page
    else received who M s x page
