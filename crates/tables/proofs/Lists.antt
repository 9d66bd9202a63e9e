-- Lists of rows: the first row that passes a test, another row put in its place, a function of each row, and rows related one by one.
use Rattle.std.specs.Prelude.{Option, None, Some, MatchOption, is_some, cond, find, position, if◌then◌else◌}
use Rattle.std.specs.List.{position_or_len}
use Rattle.std.specs.Option.{option_map}
use Rattle.std.proofs.lemmas.List.Quantifiers.{position-Some}
use mathlib.Core.Path.{◌≡◌, refl, sym, ap, subst, ◌∙◌}
use mathlib.Core.Bool.{Bool, true, false, not}
use mathlib.Core.List.Memᴰ
use mathlib.Core.List.{List, [], ◌∷◌, map, Memᴰ}
use mathlib.Core.Logic.{⊎_elim}
use Prim.Native.Nat.{ℕ, suc, ◌+◌, ◌<◌}
use native.Mathlib.Numerals.{one-add}
use native.Mathlib.Omega.{arith}
use borrow.Author.Tests.{lt-ltb}
use lib.Dec.{T, ltb, leb-suc-suc, T_not}
use lib.ListN.{length, get_or, set}
use Rattle.sets.proofs.Tests.{true-T, false-T, if_ind}
use Rattle.tables.specs.Rows.{some?, every?, put_first}
use Rattle.tables.proofs.All.{All, none, cons}

the_rest : (b c : Bool) → T (if b then true else c) → (T b → ⊥) → T c
the_rest true c h n = absurd (n tt)
the_rest false c h n = h

both : (b c : Bool) → T (if b then c else false) → T b × T c
both true c h = (tt, h)
both false c h = absurd h

module _ {A : Type 0} (p : A → Bool) where
  -- what `position` gives, row by row
  pub position_ind : (P : List A → Option ℕ → Type 0) → P [] None → ((x : A) (xs : List A) → p x ≡ true → P (x ∷ xs) (Some 0))
      → ((x : A) (xs : List A) (r : Option ℕ) → p x ≡ false → P xs r → P (x ∷ xs) (option_map suc r)) → (xs : List A) → P xs (position p xs)
  position_ind P empty here later [] = empty
  position_ind P empty here later (x ∷ xs) = go (p x) refl (position_ind P empty here later xs)
    where
      n : ℕ
      n = position_or_len p xs

      mapped : (b : Bool) → option_map suc (cond b (Some n) None) ≡ cond b (Some (suc n)) None
      mapped true = refl
      mapped false = refl

      go : (b : Bool) → p x ≡ b → P xs (position p xs)
          → P (x ∷ xs) (cond (ltb (cond (not b) (1 + n) 0) (suc (length xs))) (Some (cond (not b) (1 + n) 0)) None)
      go true e h = rw (lt-ltb 0 (suc (length xs)) (omega arith)) (here x xs e)
      go false e h = rw (one-add n, leb-suc-suc (suc n) (length xs), ← mapped (ltb n (length xs))) (later x xs (position p xs) e h)

  -- some row passes just where there is a first one
  pub some_position : (xs : List A) → some? p xs ≡ is_some (position p xs)
  some_position = position_ind (λ xs r. some? p xs ≡ is_some r) refl (λ x xs e. rw e) (λ x xs r e h. rw e (h ∙ kept r))
    where
      kept : (r : Option ℕ) → is_some r ≡ is_some (option_map suc r)
      kept None = refl
      kept (Some i) = refl

  -- the first row that passes gets y
  put_first_at : (y : A) (xs : List A) → MatchOption (position p xs) (put_first p y xs ≡ xs) (λ i. put_first p y xs ≡ set xs i y)
  put_first_at y = position_ind (λ xs r. MatchOption r (put_first p y xs ≡ xs) (λ i. put_first p y xs ≡ set xs i y)) refl (λ x xs e. rw e) (λ x xs r e h. later x xs r e h)
    where
      later : (x : A) (xs : List A) (r : Option ℕ) → p x ≡ false → MatchOption r (put_first p y xs ≡ xs) (λ i. put_first p y xs ≡ set xs i y)
          → MatchOption (option_map suc r) (put_first p y (x ∷ xs) ≡ x ∷ xs) (λ i. put_first p y (x ∷ xs) ≡ set (x ∷ xs) i y)
      later x xs None e h = rw e (ap (λ (l : List A). x ∷ l) h)
      later x xs (Some i) e h = rw e (ap (λ (l : List A). x ∷ l) h)

  module _ (y : A) (xs : List A) where
    its_case : {r : Option ℕ} → r ≡ position p xs → MatchOption r (put_first p y xs ≡ xs) (λ i. put_first p y xs ≡ set xs i y)
    its_case e = subst (λ (r : Option ℕ). MatchOption r (put_first p y xs ≡ xs) (λ i. put_first p y xs ≡ set xs i y)) (sym e) (put_first_at y xs)

    pub put_first_some : {i : ℕ} → Some i ≡ position p xs → put_first p y xs ≡ set xs i y
    put_first_some e = its_case e

    pub put_first_none : None ≡ position p xs → put_first p y xs ≡ xs
    put_first_none e = its_case e

  pub position_lt : (xs : List A) {i : ℕ} → Some i ≡ position p xs → i < length xs
  position_lt [] e = cc
  position_lt (x ∷ xs) {i} e = (position-Some p (x ∷ xs) i x (sym e)).0

  pub some_find : (xs : List A) → some? p xs ≡ is_some (find p xs)
  some_find [] = refl
  some_find (x ∷ xs) = go (p x) (some_find xs)
    where
      go : (b : Bool) → some? p xs ≡ is_some (find p xs) → (if b then true else some? p xs) ≡ is_some (cond b (Some x) (find p xs))
      go true e = refl
      go false e = e

  -- what `find` gives, by its place
  pub find_position : (d : A) (xs : List A) → find p xs ≡ option_map (λ i. get_or xs i d) (position p xs)
  find_position d = position_ind (λ xs r. find p xs ≡ option_map (λ i. get_or xs i d) r) refl (λ x xs e. rw e) (λ x xs r e h. rw e (h ∙ deeper x xs r))
    where
      deeper : (x : A) (xs : List A) (r : Option ℕ) → option_map (λ i. get_or xs i d) r ≡ option_map (λ i. get_or (x ∷ xs) i d) (option_map suc r)
      deeper x xs None = refl
      deeper x xs (Some i) = refl

  pub length_put_first : (y : A) (xs : List A) → length (put_first p y xs) ≡ length xs
  length_put_first y [] = refl
  length_put_first y (x ∷ xs) = if_ind (λ (l : List A). length l ≡ suc (length xs)) (p x) (λ _. refl) (λ _. ap suc (length_put_first y xs))

  -- a row that passes, found and told; and so of every row
  pub some_in : (xs : List A) → T (some? p xs) → (x : A) × Memᴰ x xs × T (p x)
  some_in [] h = absurd h
  some_in (x ∷ xs) h = go (p x) refl h (some_in xs)
    where
      go : (b : Bool) → p x ≡ b → T (if b then true else some? p xs) → (T (some? p xs) → (y : A) × Memᴰ y xs × T (p y)) → (y : A) × Memᴰ y (x ∷ xs) × T (p y)
      go true e h f = (x, Memᴰ.head refl, true-T (p x) e)
      go false e h f = let r = f h in (r.0, Memᴰ.tail r.1, r.2)

  pub in_some : {x : A} (xs : List A) → Memᴰ x xs → T (p x) → T (some? p xs)
  in_some [] m h = absurd (Memᴰ.not-nil m)
  in_some {x} (y ∷ xs) m h =
      if_ind T (p y) (λ _. tt) (λ n. ⊎_elim (λ (e : x ≡ y). absurd (T_not (p y) n (rw e at h))) (λ k. in_some xs k h) (Memᴰ.cases_cons m))

  pub every_in : {x : A} (xs : List A) → T (every? p xs) → Memᴰ x xs → T (p x)
  every_in [] h m = absurd (Memᴰ.not-nil m)
  every_in {x} (y ∷ xs) h m =
      let r : T (p y) × T (every? p xs) = both (p y) (every? p xs) h in
      ⊎_elim (λ (e : x ≡ y). rw e r.0) (every_in xs r.1) (Memᴰ.cases_cons m)

  pub in_every : (xs : List A) → ((x : A) → Memᴰ x xs → T (p x)) → T (every? p xs)
  in_every [] f = tt
  in_every (x ∷ xs) f =
      if_ind T (p x) (λ _. in_every xs (λ y m. f y (Memᴰ.tail m))) (λ n. absurd (T_not (p x) n (f x (Memᴰ.head refl))))

  -- one fails where not all pass
  pub not_every : (xs : List A) → some? (λ x. not (p x)) xs ≡ not (every? p xs)
  not_every [] = refl
  not_every (x ∷ xs) = go (p x) (not_every xs)
    where
      go : (b : Bool) → some? (λ y. not (p y)) xs ≡ not (every? p xs)
          → (if not b then true else some? (λ y. not (p y)) xs) ≡ not (if b then every? p xs else false)
      go true e = e
      go false e = refl

module _ {A : Type 0} where
  -- where a row passes the test p, x stands afterwards
  pub put_some : (p q : A → Bool) (x : A) (ys : List A) → T (q x) → T (some? p ys) → T (some? q (put_first p x ys))
  put_some p q x [] k h = absurd h
  put_some p q x (y ∷ ys) k h = go (p y) h (λ g. put_some p q x ys k g)
    where
      go : (b : Bool) → T (if b then true else some? p ys) → (T (some? p ys) → T (some? q (put_first p x ys)))
          → T (some? q (if b then x ∷ ys else y ∷ put_first p x ys))
      go true h f = if_ind T (q x) (λ _. tt) (λ n. absurd (T_not (q x) n k))
      go false h f = if_ind T (q y) (λ _. tt) (λ _. f h)

  pub none_passes : (p : A → Bool) (xs : List A) → T (not (some? p xs)) → All (λ a. T (not (p a))) xs
  none_passes p [] n = none
  none_passes p (x ∷ xs) n = go (p x) refl n (λ m. none_passes p xs m)
    where
      go : (b : Bool) → p x ≡ b → T (not (if b then true else some? p xs)) → (T (not (some? p xs)) → All (λ a. T (not (p a))) xs) → All (λ a. T (not (p a))) (x ∷ xs)
      go true e n f = absurd n
      go false e n f = cons (false-T (p x) e) (f n)

  pub all_put_first : {P : A → Type 0} (p : A → Bool) (x : A) {ys : List A} → P x → All P ys → All P (put_first p x ys)
  all_put_first {P} p x q none = none
  all_put_first {P} p x q (cons {x = y} r rs) = if_ind (All P) (p y) (λ _. cons q rs) (λ _. cons r (all_put_first p x q rs))

  pub all_mapped : {P Q : A → Type 0} (f : A → A) → ((a : A) → P a → Q (f a)) → {xs : List A} → All P xs → All Q (map f xs)
  all_mapped f g none = none
  all_mapped f g (cons {x} p ps) = cons (g x p) (all_mapped f g ps)

  -- two lists of one length, related row by row
  pub data Each (R : A → A → Type 0) : List A → List A → Type 0 where
    ends : Each R [] []
    next : {x y : A} {xs ys : List A} → R x y → Each R xs ys → Each R (x ∷ xs) (y ∷ ys)

  module _ {R : A → A → Type 0} where
    pub each_length : {xs ys : List A} → Each R xs ys → length ys ≡ length xs
    each_length ends = refl
    each_length (next r rs) = ap suc (each_length rs)

    pub each_same : ((a : A) → R a a) → (xs : List A) → Each R xs xs
    each_same f [] = ends
    each_same f (x ∷ xs) = next (f x) (each_same f xs)

    pub each_map : (f : A → A) → ((a : A) → R a (f a)) → (xs : List A) → Each R xs (map f xs)
    each_map f g [] = ends
    each_map f g (x ∷ xs) = next (g x) (each_map f g xs)

    pub each_put_first : (p : A → Bool) (x : A) → ((a : A) → R a a) → ((a : A) → T (p a) → R a x) → (ys : List A) → Each R ys (put_first p x ys)
    each_put_first p x f g [] = ends
    each_put_first p x f g (y ∷ ys) =
        if_ind (Each R (y ∷ ys)) (p y) (λ h. next (g y h) (each_same f ys)) (λ _. next (f y) (each_put_first p x f g ys))

    -- what goes back over each pair goes back over the lists
    pub each_back : {P : A → Type 0} → ((a b : A) → R a b → P b → P a) → {xs ys : List A} → Each R xs ys → All P ys → All P xs
    each_back f ends none = none
    each_back f (next {x} {y} r rs) (cons p ps) = cons (f x y r p) (each_back f rs ps)

    pub each_some : (q : A → Bool) → ((a b : A) → R a b → T (q a) → T (q b)) → {xs ys : List A} → Each R xs ys → T (some? q xs) → T (some? q ys)
    each_some q f ends h = absurd h
    each_some q f (next {x} {y} {xs} r rs) h =
        if_ind T (q y) (λ _. tt) (λ n. each_some q f rs (the_rest (q x) (some? q xs) h (λ k. T_not (q y) n (f x y r k))))
