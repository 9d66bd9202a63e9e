-- The slots that words begin with: what each word says, the two ways back, and a slot written.
use mathlib.Core.Path.{◌≡◌, sym, ap, ◌∙◌}
use mathlib.Core.Bool.{true, false}
use mathlib.Core.List.{List, ◌++◌}
use Prim.Native.Nat.{ℕ, suc, ◌*◌, ◌-◌, ◌≤◌, ◌<◌}
use native.Mathlib.Nat.{zero-add}
use native.Mathlib.Omega.{arith}
use borrow.Author.Tests.{eq-eqb, ne_eqb}
use lib.ListN.{length, get_or, take, drop, take-append-drop}
use lib.Seq.{drop_at}
use Rattle.tables.specs.declared.Message.{Message}
use Rattle.tables.specs.Rows.{rows_words, with_row}
use Rattle.tables.specs.Inner.{put}
use Rattle.tables.specs.Tables.{no_message, is_empty}
use Rattle.tables.specs.Words.{message_words}
use Rattle.tables.specs.Machines.{message_of, slots_of}
use Rattle.tables.proofs.All.{all_map}
use Rattle.tables.proofs.Table.{Wide, rows_words_back, length_rows, put_before, rows_set, rows_of_back}
use Rattle.tables.proofs.Parts.{first_word_lem, length_put, put_rest}
use Rattle.tables.proofs.Read.{message_words_lem, slot_at_lem, slots_many}
use Rattle.tables.proofs.Round.{message_wide, message_back}
use Rattle.tables.proofs.Whole.{Paged, slots_paged}
use Rattle.mail.specs.Slots.{empty_slots}
use Rattle.mail.specs.Inner.{with_mail}
use Rattle.mail.proofs.Messages.{count_le, Mail, mail_row}

pub few_empty : (l : List ℕ) → empty_slots (slots_of l) ≤ 128
few_empty l = omega (arith, count_le is_empty (slots_of l), slots_many l)

-- ---- an empty slot, by its first word

module _ (l : List ℕ) (s : ℕ) (h : s < 128) where
  kind_word : (get_or (slots_of l) s no_message).kind ≡ get_or l (s * 24) 0
  unfolding message_of
  kind_word = ap (λ (x : Message). x.kind) (slot_at_lem l s h) ∙ first_word_lem l (s * 24)

  pub slot_empty : get_or l (s * 24) 0 ≡ 0 → is_empty (get_or (slots_of l) s no_message) ≡ true
  slot_empty e = eq-eqb _ _ (kind_word ∙ e)

  pub slot_taken : (get_or l (s * 24) 0 ≡ 0 → ⊥) → is_empty (get_or (slots_of l) s no_message) ≡ false
  slot_taken e = rw kind_word (ne_eqb _ _ e)

-- ---- slots that are read

pub mail_read : (l : List ℕ) → 3072 ≤ length l → Mail (slots_of l)
mail_read l h = record { many = slots_many l; pages = slots_paged l h }

-- ---- slots that are written

module _ (l : List ℕ) (ss : List Message) (k : Mail ss) where
  wide : Wide message_words 24 ss
  wide = all_map message_wide k.pages

  pub mail_words : length (rows_words message_words ss) ≡ 3072
  mail_words = length_rows message_words 24 wide ∙ ap (λ (n : ℕ). n * 24) k.many

  mail_is : with_mail l ss ≡ rows_words message_words ss ++ drop 3072 l
  unfolding put
  mail_is = rw (mail_words, zero-add 3072)

  pub slots_back : slots_of (with_mail l ss) ≡ ss
  unfolding slots_of
  slots_back = ap slots_of mail_is ∙ rows_of_back message_words 24 message_of message_wide message_back k.pages 128 (drop 3072 l) k.many

  pub mail_long : 3072 ≤ length l → length (with_mail l ss) ≡ length l
  mail_long h = length_put l 0 (rows_words message_words ss) (omega (arith, mail_words))

  rest_back : drop 3072 (with_mail l ss) ≡ drop 3072 l
  rest_back = ap (λ (q : List ℕ). drop 3072 q) mail_is ∙ drop_at (rows_words message_words ss) (drop 3072 l) 3072 mail_words

-- written again
pub mail_twice : (l : List ℕ) {xs ys : List Message} → Mail xs → Mail ys → with_mail (with_mail l xs) ys ≡ with_mail l ys
mail_twice l {xs} {ys} j k =
    mail_is (with_mail l xs) ys k ∙ ap (λ (q : List ℕ). rows_words message_words ys ++ q) (rest_back l xs j) ∙ sym (mail_is l ys k)

-- its own slots leave the words as they are
pub mail_same : (l : List ℕ) → 3072 ≤ length l → with_mail l (slots_of l) ≡ l
unfolding slots_of
mail_same l h =
    mail_is l (slots_of l) (mail_read l h) ∙ rw (rows_words_back message_of message_words 128 24 l message_words_lem h) (take-append-drop 3072 l)

-- one slot
pub slot_put : (l : List ℕ) (s : ℕ) (x : Message) → 3072 ≤ length l → s < 128 → Paged x.page → put l (s * 24) (message_words x) ≡ with_mail l (with_row (slots_of l) (suc s) x)
slot_put l s x h b p =
    let k : Mail (slots_of l) = mail_read l h in
    ap (λ (q : List ℕ). put q (s * 24) (message_words x)) (sym (mail_same l h) ∙ mail_is l (slots_of l) k)
    ∙ put_before (rows_words message_words (slots_of l)) (drop 3072 l) (s * 24) (message_words x) (omega (arith, mail_words l (slots_of l) k, message_wide x p))
    ∙ ap (λ (q : List ℕ). q ++ drop 3072 l) (rows_set message_words 24 (wide l (slots_of l) k) s x (omega (arith, slots_many l)) (message_wide x p))
    ∙ sym (mail_is l (with_row (slots_of l) (suc s) x) (mail_row (suc s) x p k))

-- what a writer did to the part that it was lent
pub slot_written : (l ys : List ℕ) (i : ℕ) (x : Message) → 3072 ≤ length l → i < 128 → length x.page ≡ 16 → ys ≡ put (take (length l - i * 24) (drop (i * 24) l)) 0 (message_words x)
    → take (i * 24) l ++ (ys ++ drop (length l - i * 24) (drop (i * 24) l)) ≡ with_mail l (with_row (slots_of l) (suc i) x)
slot_written l ys i x h b p e = put_rest l (i * 24) (message_words x) ys e ∙ slot_put l i x h b p
