-- "A tag is (number, client). Tags compare by number, then client. The first tag is (0,0)."
use Rattle.std.specs.Prelude.{Bool, true, false, ◌&&◌, ℕ, ltb, eqb, if◌then◌else◌}
use Rattle.sets.specs.declared.Tag.{Tag}
use Rattle.std.specs.declared.cmp.Ordering.{Ordering}
use Rattle.std.specs.declared.cmp.Ordering.TheVariants.{Less, Equal, Greater}

abbrev pub tag : ℕ → ℕ → Tag
tag n c = record { number = n; client = c }

abbrev pub first : Tag
first = tag 0 0

-- how a stands against b
unfoldable pub against : Tag → Tag → Ordering
against a b =
    if ltb a.number b.number then Less
    else if ltb b.number a.number then Greater
    else if ltb a.client b.client then Less
    else if ltb b.client a.client then Greater
    else Equal

abbrev pub is_lower : Ordering → Bool
is_lower Less = true
is_lower Equal = false
is_lower Greater = false

abbrev pub lower : Tag → Tag → Bool
lower a b = is_lower (against a b)

abbrev pub same : Tag → Tag → Bool
same a b = eqb a.number b.number && eqb a.client b.client
