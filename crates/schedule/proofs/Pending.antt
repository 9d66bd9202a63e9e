-- The pending line in its buffer, and the bytes of a chunk up to a line end.
use Rattle.std.proofs.Common.{◌≡◌, refl, sym, ◌∙◌, Bool, true, false, cond, List, [], ◌∷◌, ◌++◌, ℕ, zero, suc, ◌+◌, ◌<◌, ◌≤◌, eqb, append_assoc, append-nil, length, get_or, take, drop, arith, Option, Some, None, ltb-true, ltb-false}
use Rattle.std.specs.List.{position, position_or_len}
use Rattle.std.proofs.Math.Seq.{take-length, drop-length}
use Rattle.std.proofs.lemmas.Option.{cond_some}
use Rattle.std.proofs.lemmas.List.Sums.{fails_before_first, passes_at_first}
use Rattle.schedule.specs.declared.Command.TheVariants.{Malformed}
use Rattle.schedule.specs.declared.Line.{Line}
use Rattle.schedule.specs.Lines.{command_of}
use Rattle.schedule.specs.Input.{Held, FedOn, commands_from}
use Rattle.schedule.proofs.Scan.{cons_at, overlong}

pub is_overlong : (p : List ℕ) (line : Line) → Held p line → 80 < line.len → Malformed ≡ command_of p
is_overlong p line held h = overlong p (omega (arith, held.size))

-- bytes among which no line end is
no_end : (i : ℕ) (l p later : List ℕ) → i ≤ length l → ((k : ℕ) → k < i → eqb (get_or l k 0) 10 ≡ false)
    → commands_from p (l ++ later) ≡ commands_from (p ++ take i l) (drop i l ++ later)
unfolding commands_from
no_end zero l p later h n = rw append-nil refl
no_end (suc i) [] p later h n = absurd (omega arith)
no_end (suc i) (b ∷ l) p later h n =
    simp (n 0 (omega arith))
    (no_end i l (p ++ (b ∷ [])) later (omega arith) (λ k m. n (suc k) (omega arith)) ∙ rw (append_assoc p (b ∷ []) (take i l)))

no_first : (b : Bool) (x : ℕ) → cond b (Some x) None ≡ None → b ≡ false
no_first true x e = cc
no_first false x e = refl

module _ (old : Line) (chunk : List ℕ) (new : Line) (r : Option ℕ) (first : r ≡ position (λ b. eqb b 10) chunk) where
  abbrev place : ℕ
  place = position_or_len (λ b. eqb b 10) chunk

  pub fed_all : r ≡ None → ((p : List ℕ) → Held p old → Held (p ++ chunk) new) → FedOn old chunk new None
  fed_all e held =
      let all : length chunk ≤ place = ltb-false place (length chunk) (no_first _ place (sym first ∙ e)) in
      record {
        next = tt;
        added = chunk;
        held = held;
        same = λ p later.
            no_end (length chunk) chunk p later (omega arith) (λ k m. fails_before_first (λ b. eqb b 10) chunk k 0 (omega arith))
            ∙ rw (take-length chunk, drop-length chunk) refl;
      }

  pub fed_line : (end : ℕ) → r ≡ Some end → ((p : List ℕ) → Held p old → Held (p ++ take end chunk) new) → FedOn old chunk new (Some (end + 1))
  unfolding commands_from
  fed_line end e held =
      let (inside, here) = cond_some _ place end (sym first ∙ e) in
      let within : end < length chunk = rw here at (ltb-true place (length chunk) inside) in
      record {
        next = (omega arith, omega arith);
        added = take end chunk;
        held = held;
        same = λ p later.
            no_end end chunk p later (omega arith) (λ k m. fails_before_first (λ b. eqb b 10) chunk k 0 (omega arith))
            ∙ rw (cons_at chunk end within) (simp (rw here at (passes_at_first (λ b. eqb b 10) chunk 0 (omega arith))));
      }
