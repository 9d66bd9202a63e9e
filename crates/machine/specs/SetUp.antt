-- Set-up: "All 4,992 words are zeroed. Each replica gets entry 1: (0,0), secured, first page. Each directory gets (0,0) and the set of all replicas."
use Rattle.std.specs.Prelude.{ℕ, leb, ◌∷◌, map, replicate, if◌then◌else◌}
use Rattle.sets.specs.Plain.{numbers}
use Rattle.sets.specs.Tags.{first}
use Rattle.sets.specs.Sets.{all}
use Rattle.tables.specs.declared.Conf.{Conf}
use Rattle.tables.specs.declared.Directory.{Directory}
use Rattle.tables.specs.Tables.{Page, Replica, Machine, no_client, no_directory, no_entry, no_replica, no_message}
use Rattle.rules.specs.Replica.{entry}

abbrev pub first_directory : Conf → ℕ → Directory
first_directory k d =
    if leb d k.directories then record { down = 0; tag = first; set = all k.replicas } else no_directory

abbrev pub first_replica : Conf → Page → ℕ → Replica
first_replica k page r =
    if leb r k.replicas then record { down = 0; entries = entry 2 first page ∷ replicate 11 no_entry } else no_replica

-- with room for n directories
unfoldable pub new_machine : ℕ → Conf → Page → Machine
new_machine n k page =
    record {
      conf = k;
      spare = replicate 8 0;
      clients = replicate 8 no_client;
      directories = map (first_directory k) (numbers 1 n);
      gap = replicate 5 0;
      replicas = map (first_replica k page) (numbers 1 7);
      slots = replicate 128 no_message;
    }
