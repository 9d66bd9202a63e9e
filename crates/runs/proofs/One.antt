-- Two results that the contract of a call allows are equal.
use mathlib.Core.List.{List}
use mathlib.Core.Path.{◌≡◌, sym, ◌∙◌}
use Prim.Native.Nat.{ℕ}
use Rattle.tables.specs.declared.Layout.{Layout}
use Rattle.rules.specs.declared.Answer.{Answer}
use Rattle.machine.specs.Buffers.{Outcomes, Gives, reported}
use Rattle.machine.specs.declared.Counts.{Counts}

-- answer, page and buffer
pub gives_one : {o : Outcomes} {a b : Answer} {p q m n : List ℕ} → Gives o a p m → Gives o b q n → (a ≡ b) × (p ≡ q) × (m ≡ n)
gives_one g h = (g.answer ∙ sym h.answer, g.page ∙ sym h.page, g.buffer ∙ sym h.buffer)

pub report_one : (lay : Layout) (m : List ℕ) {a b : Counts} → a ≡ reported lay m → b ≡ reported lay m → a ≡ b
report_one lay m g h = g ∙ sym h
