-- Members, pairs in order, cuts and sorting, for lists of any type.
use Rattle.std.specs.Prelude.{if◌then◌else◌}
use mathlib.Core.Path.{◌≡◌, refl, sym, ap, ◌∙◌, subst}
use mathlib.Core.List.Memᴰ
use mathlib.Core.List.Memᴰ.{head as here}
use mathlib.Core.List.Memᴰ.{tail as there}
use mathlib.Core.List.{nil≢cons, head-eq_of_cons-eq, tail-eq_of_cons-eq, List, [], ◌∷◌, ◌++◌, map}
use mathlib.Core.Bool.{Bool}
use mathlib.Core.Logic.{◌⊎◌, inl, inr, ⊎_elim}
use lib.Dec.{T, T_not}
use Rattle.sets.proofs.Tests.{if_ind}
use Rattle.order.specs.Run.{◌∈◌}

-- ---- members

module _ {A : Type 0} where
  pub none_in : {P : Type 0} {a : A} → a ∈ [] → P
  none_in m = absurd (Memᴰ.not-nil m)

  pub in_cons : {P : Type 0} {a x : A} {l : List A} → a ∈ x ∷ l → (a ≡ x → P) → (a ∈ l → P) → P
  in_cons m f g = ⊎_elim f g (Memᴰ.cases_cons m)

  pub all_cons : (P : A → Type 0) {x : A} {l : List A} → P x → ((a : A) → a ∈ l → P a) → (a : A) → a ∈ x ∷ l → P a
  all_cons P {x} h f a m = in_cons m (λ e. subst P (sym e) h) (f a)

  pub mem_of : {a b : A} {l : List A} → a ≡ b → a ∈ l → b ∈ l
  mem_of e m = Memᴰ.cast (sym e) m

  pub mem_middle : (xs : List A) (a : A) (ys : List A) → a ∈ xs ++ a ∷ ys
  mem_middle xs a ys = Memᴰ.append_right xs (here refl)

  pub mem_split : {a : A} {l : List A} → a ∈ l → (xs : List A) × (ys : List A) × (l ≡ xs ++ a ∷ ys)
  mem_split (here {xs = ys} e) = ([], ys, ap (λ (x : A). x ∷ ys) (sym e))
  mem_split (there {x = x} m) = let s = mem_split m in (x ∷ s.0, s.1, ap (λ (l : List A). x ∷ l) s.2)

module _ {A B : Type 0} (f : A → B) where
  pub mem_map : {a : A} {l : List A} → a ∈ l → f a ∈ map f l
  mem_map (here e) = here (ap f e)
  mem_map (there m) = there (mem_map m)

  pub map_mem : {b : B} (l : List A) → b ∈ map f l → (a : A) × (a ∈ l) × (b ≡ f a)
  map_mem [] m = none_in m
  map_mem {b} (x ∷ l) m = in_cons m (λ (e : b ≡ f x). (x, here refl, e)) (λ n. let r = map_mem l n in (r.0, there r.1, r.2))

-- ---- each two of a list, the earlier first

module _ {A : Type 0} (R : A → A → Type 0) where
  abbrev pub Pairs : List A → Type 0
  Pairs [] = Unit {0}
  Pairs (x ∷ l) = ((y : A) → y ∈ l → R x y) × Pairs l

  -- what stands before b, what stands after it, and the part before it
  pub pairs_cut : (xs : List A) (b : A) (ys : List A) → Pairs (xs ++ b ∷ ys) → ((x : A) → x ∈ xs → R x b) × ((y : A) → y ∈ ys → R b y) × Pairs xs
  pairs_cut [] b ys p = ((λ x m. none_in m), p.0, tt)
  pairs_cut (z ∷ xs) b ys p =
      let q = pairs_cut xs b ys p.1 in
      (all_cons (λ x. R x b) (p.0 b (mem_middle xs b ys)) q.0, q.1, ((λ y m. p.0 y (Memᴰ.append_left (b ∷ ys) m)), q.2))

pub pairs_map : {A B : Type 0} (f : A → B) (R : A → A → Type 0) (S : B → B → Type 0) (l : List A)
    → ((a b : A) → a ∈ l → b ∈ l → R a b → S (f a) (f b)) → Pairs R l → Pairs S (map f l)
pairs_map f R S [] h p = tt
pairs_map f R S (x ∷ l) h p = (
  (λ y m. let r = map_mem f l m in subst (S (f x)) (sym r.2) (h x r.0 (here refl) (there r.1) (p.0 r.0 r.1))),
  pairs_map f R S l (λ a b m n. h a b (there m) (there n)) p.1,
)

-- ---- a stands before b in l

module _ {A : Type 0} where
  abbrev pub Before : A → A → List A → Type 0
  Before a b l = (xs : List A) × (ys : List A) × (zs : List A) × (l ≡ xs ++ a ∷ (ys ++ b ∷ zs))

  before_head : {a b x : A} {l : List A} → a ≡ x → b ∈ l → Before a b (x ∷ l)
  before_head e m = let s = mem_split m in ([], s.0, s.1, λ i. sym e i ∷ s.2 i)

  before_tail : {a b : A} (x : A) {l : List A} → Before a b l → Before a b (x ∷ l)
  before_tail x s = (x ∷ s.0, s.1, s.2, ap (λ (l : List A). x ∷ l) s.3)

  -- two members are the same, or one stands before the other
  pub either : (l : List A) (a b : A) → a ∈ l → b ∈ l → (a ≡ b) ⊎ (Before a b l ⊎ Before b a l)
  either [] a b m n = none_in m
  either (x ∷ l) a b m n = step (Memᴰ.cases_cons m) (Memᴰ.cases_cons n) (either l a b)
    where
      step : (a ≡ x) ⊎ (a ∈ l) → (b ≡ x) ⊎ (b ∈ l) → (a ∈ l → b ∈ l → (a ≡ b) ⊎ (Before a b l ⊎ Before b a l)) → (a ≡ b) ⊎ (Before a b (x ∷ l) ⊎ Before b a (x ∷ l))
      step (inl e) (inl d) k = inl (e ∙ sym d)
      step (inl e) (inr n') k = inr (inl (before_head e n'))
      step (inr m') (inl d) k = inr (inr (before_head d m'))
      step (inr m') (inr n') k = ⊎_elim inl (λ c. inr (⊎_elim (λ s. inl (before_tail x s)) (λ s. inr (before_tail x s)) c)) (k m' n')

  pub pairs_before : (R : A → A → Type 0) {l : List A} {a b : A} → Pairs R l → Before a b l → R a b
  pairs_before R {l} {a} {b} p s = (pairs_cut R s.0 a (s.1 ++ b ∷ s.2) (subst (Pairs R) s.3 p)).1 b (mem_middle s.1 b s.2)

-- a cut of a mapped list is a cut of the list
pub map_cut : {A B : Type 0} (f : A → B) (l : List A) (xs : List B) (b : B) (ys : List B) → map f l ≡ xs ++ b ∷ ys
    → (us : List A) × (a : A) × (vs : List A) × (l ≡ us ++ a ∷ vs) × (map f us ≡ xs) × (f a ≡ b)
map_cut f [] [] b ys e = absurd (nil≢cons e)
map_cut f [] (x ∷ xs) b ys e = absurd (nil≢cons e)
map_cut f (a ∷ l) [] b ys e = ([], a, l, refl, refl, head-eq_of_cons-eq e)
map_cut {A} f (a ∷ l) (x ∷ xs) b ys e =
    let r = map_cut f l xs b ys (tail-eq_of_cons-eq e) in
    (a ∷ r.0, r.1, r.2, ap (λ (t : List A). a ∷ t) r.3, (λ i. head-eq_of_cons-eq e i ∷ r.4 i), r.5)

pub map_append : {A B : Type 0} (f : A → B) (xs ys : List A) → map f (xs ++ ys) ≡ map f xs ++ map f ys
map_append f [] ys = refl
map_append {A} {B} f (x ∷ xs) ys = ap (λ (t : List B). f x ∷ t) (map_append f xs ys)

pub before_map : {A B : Type 0} (f : A → B) {a b : A} {l : List A} → Before a b l → Before (f a) (f b) (map f l)
before_map {A} {B} f {a} {b} s = (
  map f s.0,
  map f s.1,
  map f s.2,
  ap (map f) s.3 ∙ map_append f s.0 (a ∷ (s.1 ++ b ∷ s.2)) ∙ ap (λ (t : List B). map f s.0 ++ f a ∷ t) (map_append f s.1 (b ∷ s.2)),
)

-- ---- the members that pass a test, sorted by R, which decides between each two that are Apart

module _ {A : Type 0} (R Apart : A → A → Type 0) (decide : (a b : A) → R a b ⊎ (Apart a b → R b a)) (trans : (a b c : A) → R a b → R b c → R a c) where
  insert : A → List A → List A
  insert x [] = x ∷ []
  insert x (y ∷ l) = ⊎_elim (λ _. x ∷ y ∷ l) (λ _. y ∷ insert x l) (decide x y)

  insert_out : {z : A} (x : A) (l : List A) → z ∈ insert x l → z ∈ x ∷ l
  unfolding insert
  insert_out x [] m = m
  insert_out {z} x (y ∷ l) m = go (decide x y) m (insert_out x l)
    where
      go : (d : R x y ⊎ (Apart x y → R y x)) → z ∈ ⊎_elim (λ _. x ∷ y ∷ l) (λ _. y ∷ insert x l) d → (z ∈ insert x l → z ∈ x ∷ l) → z ∈ x ∷ y ∷ l
      go (inl d) n k = n
      go (inr d) n k = in_cons n (λ e. there (here e)) (λ n'. in_cons (k n') here (λ n''. there (there n'')))

  insert_in : {z : A} (x : A) (l : List A) → z ∈ x ∷ l → z ∈ insert x l
  unfolding insert
  insert_in x [] m = m
  insert_in {z} x (y ∷ l) m = go (decide x y) (insert_in x l)
    where
      go : (d : R x y ⊎ (Apart x y → R y x)) → (z ∈ x ∷ l → z ∈ insert x l) → z ∈ ⊎_elim (λ _. x ∷ y ∷ l) (λ _. y ∷ insert x l) d
      go (inl d) k = m
      go (inr d) k = in_cons m (λ e. there (k (here e))) (λ n. in_cons n here (λ n'. there (k (there n'))))

  insert_pairs : (x : A) (l : List A) → ((y : A) → y ∈ l → Apart x y) → Pairs R l → Pairs R (insert x l)
  unfolding insert
  insert_pairs x [] h p = ((λ y m. none_in m), tt)
  insert_pairs x (y ∷ l) h p = go (decide x y) (insert_pairs x l (λ z m. h z (there m)) p.1)
    where
      go : (d : R x y ⊎ (Apart x y → R y x)) → Pairs R (insert x l) → Pairs R (⊎_elim (λ _. x ∷ y ∷ l) (λ _. y ∷ insert x l) d)
      go (inl d) k = (all_cons (R x) d (λ z m. trans x y z d (p.0 z m)), p)
      go (inr d) k = ((λ z m. all_cons (R y) (d (h y (here refl))) p.0 z (insert_out x l m)), k)

  module _ (test : A → Bool) where
    pub sorted : List A → List A
    sorted [] = []
    sorted (x ∷ l) = if test x then insert x (sorted l) else sorted l

    pub in_sorted : {z : A} (l : List A) → z ∈ l → T (test z) → z ∈ sorted l
    unfolding sorted
    in_sorted [] m t = m
    in_sorted {z} (x ∷ l) m t = if_ind (λ (s : List A). z ∈ s) (test x)
        (λ _. insert_in x (sorted l) (in_cons m here (λ n. there (in_sorted l n t))))
        (λ f. in_cons m (λ e. absurd (T_not (test x) f (subst (λ (y : A). T (test y)) e t))) (λ n. in_sorted l n t))

    pub of_sorted : {z : A} (l : List A) → z ∈ sorted l → (z ∈ l) × T (test z)
    unfolding sorted
    of_sorted [] m = none_in m
    of_sorted {z} (x ∷ l) m = if_ind (λ (s : List A). z ∈ s → (z ∈ x ∷ l) × T (test z)) (test x)
        (λ t n. in_cons (insert_out x (sorted l) n) (λ e. (here e, subst (λ (y : A). T (test y)) (sym e) t)) (λ n'. let r = of_sorted l n' in (there r.0, r.1)))
        (λ _ n. let r = of_sorted l n in (there r.0, r.1)) m

    pub sorted_pairs : (l : List A) → Pairs Apart l → Pairs R (sorted l)
    unfolding sorted
    sorted_pairs [] p = tt
    sorted_pairs (x ∷ l) p = if_ind (Pairs R) (test x) (λ _. insert_pairs x (sorted l) (λ y m. p.0 y (of_sorted l m).0) (sorted_pairs l p.1)) (λ _. sorted_pairs l p.1)
