-- A line is a command exactly where it is that command's text, of at most 80 bytes and with numbers that may be fields.
use Rattle.std.proofs.Common.{if◌then◌else◌, ℕ, ◌≤◌, ◌≡◌, refl, sym, ap, ◌∙◌, List, [], ◌∷◌, ◌⊎◌, inl, inr, ⊎_elim, arith, length, ltb, eqb, le-ltb, ltb-false, eqb-true}
use Rattle.sets.proofs.Tests.{T_true, T_false, if_ind}
use Rattle.schedule.specs.declared.Command.{Command}
use Rattle.schedule.specs.declared.Command.TheVariants.{SetUp, Columns, Read, Write, Deliver, Gossip, Tidy, Crash, Malformed}
use Rattle.schedule.specs.Text.{fields_in, letter_of, text}
use Rattle.std.specs.Prelude.{None, Some}
use Rattle.schedule.specs.Lines.{IsText, Numbers, after, numbers_of, pick, pick_all, said_by, command_of}
use Rattle.schedule.proofs.Scan.{too_many}
use Rattle.schedule.proofs.Spelled.{read_is_spelled, fields_read}

-- a letter and numbers that are picked are those of the command
abbrev Names : ℕ → List ℕ → Command → Type 0
Names b ns c = (c ≡ Malformed → ⊥) → (b ≡ letter_of c) × (ns ≡ fields_in c)

no_name : (b : ℕ) (ns : List ℕ) → Names b ns Malformed
no_name b ns f = absurd (f refl)

named : (b k : ℕ) (ns : List ℕ) (x y : Command) → k ≡ letter_of x → ns ≡ fields_in x → Names b ns y → Names b ns (if eqb b k then x else y)
named b k ns x y p q h = if_ind (Names b ns) (eqb b k) (λ t f. (eqb-true b k (T_true _ t) ∙ p, q)) (λ t. h)

picked : (b : ℕ) (ns : List ℕ) → Names b ns (pick b (length ns) ns)
unfolding pick_all
picked b [] = no_name b _
picked b (a ∷ []) =
    named b 82 _ (Read a) _ refl refl (named b 68 _ (Deliver a) _ refl refl (named b 84 _ (Tidy a) _ refl refl (no_name b _)))
picked b (a ∷ c ∷ []) =
    named b 87 _ (Write a c) _ refl refl (named b 71 _ (Gossip a c) _ refl refl (named b 88 _ (Crash a c) _ refl refl (no_name b _)))
picked b (a ∷ c ∷ d ∷ []) = no_name b _
picked b (a ∷ c ∷ d ∷ e ∷ []) = no_name b _
picked b (a ∷ c ∷ d ∷ e ∷ f ∷ []) = no_name b _
picked b (a ∷ c ∷ d ∷ e ∷ f ∷ g ∷ []) = no_name b _
picked b (a ∷ c ∷ d ∷ e ∷ f ∷ g ∷ h ∷ []) = named b 67 _ (Columns a c d e f g h) _ refl refl (no_name b _)
picked b (a ∷ c ∷ d ∷ e ∷ f ∷ g ∷ h ∷ i ∷ []) = named b 83 _ (SetUp a c d e f g h i) _ refl refl (no_name b _)
picked b (a ∷ c ∷ d ∷ e ∷ f ∷ g ∷ h ∷ i ∷ j ∷ l) =
    λ k. absurd (k (sym (too_many b (a ∷ c ∷ d ∷ e ∷ f ∷ g ∷ h ∷ i ∷ []) j (Some l) (omega arith))))

pick_back : (c : Command) → pick (letter_of c) (length (fields_in c)) (fields_in c) ≡ c
pick_back (SetUp a b c d e f g w) = refl
pick_back (Columns a b c d e f w) = refl
pick_back (Read a) = refl
pick_back (Write a w) = refl
pick_back (Deliver s) = refl
pick_back (Gossip a b) = refl
pick_back (Tidy r) = refl
pick_back (Crash k i) = refl
pick_back Malformed = refl

-- a line that is read as a command is that command's text
pub command_is_text : (l : List ℕ) (c : Command) → command_of l ≡ c → (c ≡ Malformed → ⊥) → IsText c l
unfolding command_of said_by pick_all text
command_is_text l c e f =
    if_ind (λ (x : Command). x ≡ c → IsText c l) (ltb 80 (length l)) (λ t q. absurd (f (sym q)))
    (λ t q. by l (ltb-false 80 _ (T_false _ t)) q) e
  where
    numbers : (b : ℕ) (k : List ℕ) → length (b ∷ k) ≤ 80 → (o : Numbers) → numbers_of k after ≡ o → pick_all b o ≡ c → IsText c (b ∷ k)
    numbers b k h None q d = absurd (f (sym d))
    numbers b k h (Some ns) q d =
        let s = read_is_spelled k after ns tt q in
        let n = picked b ns (λ z. f (sym d ∙ z)) in
        let x : b ≡ letter_of c = n.0 ∙ ap letter_of d in
        let y : ns ≡ fields_in c = n.1 ∙ ap fields_in d in
        record { command = f; bytes = rw (x, s.text, y); fields = rw y at s.fields; short = h }

    by : (k : List ℕ) → length k ≤ 80 → said_by k ≡ c → IsText c k
    by [] h q = absurd (f (sym q))
    by (b ∷ k) h q = numbers b k h (numbers_of k after) refl q

-- and a command's text is read as that command
pub text_is_command : (l : List ℕ) (c : Command) → IsText c l → command_of l ≡ c
unfolding command_of said_by pick_all text
text_is_command l c t =
    simp (le-ltb 80 (length l) t.short)
    (rw t.bytes (ap (pick_all (letter_of c)) (fields_read (fields_in c) t.fields) ∙ pick_back c))

-- every other line is malformed
malformed? : (c : Command) → (c ≡ Malformed) ⊎ (c ≡ Malformed → ⊥)
malformed? (SetUp a b c d e f g w) = inr (λ e. cc)
malformed? (Columns a b c d e f w) = inr (λ e. cc)
malformed? (Read a) = inr (λ e. cc)
malformed? (Write a w) = inr (λ e. cc)
malformed? (Deliver s) = inr (λ e. cc)
malformed? (Gossip a b) = inr (λ e. cc)
malformed? (Tidy r) = inr (λ e. cc)
malformed? (Crash k i) = inr (λ e. cc)
malformed? Malformed = inl refl

pub others_malformed : (l : List ℕ) → ((c : Command) → IsText c l → ⊥) → command_of l ≡ Malformed
others_malformed l none-fits =
    ⊎_elim (λ e. e) (λ f. absurd (none-fits (command_of l) (command_is_text l (command_of l) refl f))) (malformed? (command_of l))
