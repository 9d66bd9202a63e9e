-- A row is zero where the words written from it are.
use mathlib.Core.List.{List}
use mathlib.Core.Path.{◌≡◌}
use Prim.Native.Nat.{ℕ}
use lib.ListN.{length}
use lib.Seq.{take_all}
use native.Mathlib.Omega.{arith}
use Rattle.tables.specs.Words.{client_words, directory_words, entry_words, replica_words, message_words}
use Rattle.tables.specs.Machines.{client_of, directory_of, entry_of, entries_of, message_of}
use Rattle.tables.proofs.Read.{client_words_lem, directory_words_lem, entry_words_lem, replica_words_lem, message_words_lem}
use Rattle.inspect.specs.Good.{zeros}

pub client_zeros : (l : List ℕ) → length l ≡ 24 → zeros (client_words (client_of l)) ≡ zeros l
client_zeros l wide = rw (client_words_lem l (omega arith), take_all 24 l (omega arith))

pub directory_zeros : (l : List ℕ) → length l ≡ 4 → zeros (directory_words (directory_of l)) ≡ zeros l
directory_zeros l wide = rw (directory_words_lem l (omega arith), take_all 4 l (omega arith))

pub entry_zeros : (l : List ℕ) → length l ≡ 20 → zeros (entry_words (entry_of l)) ≡ zeros l
entry_zeros l wide = rw (entry_words_lem l (omega arith), take_all 20 l (omega arith))

pub replica_zeros : (d : ℕ) (l : List ℕ) → length l ≡ 240 → zeros (replica_words (record { down = d; entries = entries_of l })) ≡ zeros l
replica_zeros d l wide = rw (replica_words_lem d l (omega arith), take_all 240 l (omega arith))

pub message_zeros : (l : List ℕ) → length l ≡ 24 → zeros (message_words (message_of l)) ≡ zeros l
message_zeros l wide = rw (message_words_lem l (omega arith), take_all 24 l (omega arith))
