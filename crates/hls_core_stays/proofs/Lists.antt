-- Lists by their places.
use Rattle.std.proofs.Common.{◌≡◌, ◌≢◌, ℕ, zero, suc, inl, inr, ◌+◌, ◌<◌, ◌≤◌, List, [], ◌∷◌, ◌++◌, Bool, true, false}
use Rattle.std.proofs.Common.{length, refl, sym, ap, ◌∙◌, arith, map, filter, take, drop, reverse, cond, ◌==◌, ◌||◌}
use Rattle.std.specs.Prelude.{Some, slice_get, slice_set, Contains, AllPairs}
use Rattle.std.specs.List.{list_any}
use Rattle.std.proofs.lemmas.Bool.{cases_lt, cases_eq, ne_eqb, eq-eqb}
use Rattle.std.proofs.lemmas.List.{reverse-append}
use Rattle.std.proofs.lemmas.Option.{slice_get_within, slice_get-get_or, get_or_from_slice_get}
use Rattle.hls_core_stays.specs.Inside.Renewals.{IsApart}

-- what is at no place is nowhere
pub map_same : {X Y : Type 0} (f g : X → Y) (xs : List X)
    → ((i : ℕ) (x : X) → slice_get xs i ≡ Some x → g x ≡ f x) → map g xs ≡ map f xs
map_same f g [] same = refl
map_same f g (x ∷ xs) same =
    ap (λ y. y ∷ map g xs) (same 0 x refl)
    ∙ ap (λ ys. f x ∷ ys) (map_same f g xs (λ i y e. same (suc i) y e))

-- what is left as it is
pub same_map : {X : Type 0} (f : X → X) (xs : List X)
    → ((i : ℕ) (x : X) → slice_get xs i ≡ Some x → f x ≡ x) → map f xs ≡ xs
same_map f [] same = refl
same_map f (x ∷ xs) same =
    ap (λ y. y ∷ map f xs) (same 0 x refl) ∙ ap (λ l. x ∷ l) (same_map f xs (λ i y e. same (suc i) y e))

-- the places of the first part of a list, and of the rest
pub get_taken : {X : Type 0} (xs : List X) (n i : ℕ) (x : X) → slice_get (take n xs) i ≡ Some x
    → (i < n) × (slice_get xs i ≡ Some x)
get_taken [] zero i x e = absurd (cc)
get_taken [] (suc n) i x e = absurd (cc)
get_taken (y ∷ xs) zero i x e = absurd (cc)
get_taken (y ∷ xs) (suc n) zero x e = (omega arith, e)
get_taken (y ∷ xs) (suc n) (suc i) x e =
    let rest = get_taken xs n i x e in (let lt = rest.0 in omega (arith, lt), rest.1)

pub get_drop : {X : Type 0} (n : ℕ) (xs : List X) (i : ℕ) → slice_get (drop n xs) i ≡ slice_get xs (n + i)
get_drop zero xs i = ap (slice_get xs) (omega arith)
get_drop (suc n) [] i = refl
get_drop (suc n) (x ∷ xs) i =
    let more : suc n + i ≡ suc (n + i) = omega arith in
    get_drop n xs i ∙ ap (slice_get (x ∷ xs)) (sym more)

-- the places of a list behind which others stand
pub get_front : {X : Type 0} (xs ys : List X) (i : ℕ) (x : X) → slice_get xs i ≡ Some x
    → slice_get (xs ++ ys) i ≡ Some x
get_front [] ys i x e = absurd (cc)
get_front (y ∷ xs) ys zero x e = e
get_front (y ∷ xs) ys (suc i) x e = get_front xs ys i x e

-- an item of two lists is in the first, or in the second
pub data IsOf {X : Type 0} (xs ys : List X) (i : ℕ) (x : X) : Type 0 where
  Front : slice_get xs i ≡ Some x → IsOf xs ys i x
  Back : (j : ℕ) → i ≡ length xs + j → slice_get ys j ≡ Some x → IsOf xs ys i x

of_later : {X : Type 0} (y : X) (xs ys : List X) (i : ℕ) (x : X) → IsOf xs ys i x → IsOf (y ∷ xs) ys (suc i) x
of_later y xs ys i x (Front e) = Front e
of_later y xs ys i x (Back j e at) = Back j (omega (arith, e)) at

pub of_either : {X : Type 0} (xs ys : List X) (i : ℕ) (x : X) → slice_get (xs ++ ys) i ≡ Some x → IsOf xs ys i x
of_either [] ys i x e = Back i (omega arith) e
of_either (y ∷ xs) ys zero x e = Front e
of_either (y ∷ xs) ys (suc i) x e = of_later y xs ys i x (of_either xs ys i x e)

-- an item of a map
pub record IsImage {X Y : Type 0} (f : X → Y) (xs : List X) (i : ℕ) (y : Y) : Type 0 where
  pub x : X
  pub there : slice_get xs i ≡ Some x
  pub is : f x ≡ y

pub image_of : {X Y : Type 0} (f : X → Y) (xs : List X) (i : ℕ) (y : Y) → slice_get (map f xs) i ≡ Some y
    → IsImage f xs i y
image_of f [] i y e = absurd (cc)
image_of f (x ∷ xs) zero y e = record { x = x; there = refl; is = let same : f x ≡ y = cc in same }
image_of f (x ∷ xs) (suc i) y e =
    let rest = image_of f xs i y e in record { x = rest.x; there = rest.there; is = rest.is }

pub get_map : {X Y : Type 0} (f : X → Y) (xs : List X) (i : ℕ) (x : X) → slice_get xs i ≡ Some x
    → slice_get (map f xs) i ≡ Some (f x)
get_map f [] i x e = absurd (cc)
get_map {X = X} f (y ∷ xs) zero x e = let same : y ≡ x = cc in ap (λ (z : X). Some (f z)) same
get_map f (y ∷ xs) (suc i) x e = get_map f xs i x e

pub get_seam : {X : Type 0} (xs : List X) (x : X) → slice_get (xs ++ x ∷ []) (length xs) ≡ Some x
get_seam [] x = refl
get_seam (y ∷ xs) x = get_seam xs x

-- the place of what a list contains
pub place_of : {X : Type 0} (xs : List X) (x : X) → Contains xs x → (i : ℕ) × (slice_get xs i ≡ Some x)
place_of {X = X} xs x c =
    (c.0, slice_get-get_or xs c.0 x c.1 ∙ ap (λ (y : X). Some y) c.2)

pub contains_at : {X : Type 0} (xs : List X) (i : ℕ) (x : X) → slice_get xs i ≡ Some x → Contains xs x
contains_at xs i x e = (i, slice_get_within xs i x e, get_or_from_slice_get xs i x x e)

pub take_next : {X : Type 0} (xs : List X) (i : ℕ) (x : X) → slice_get xs i ≡ Some x
    → take (i + 1) xs ≡ take i xs ++ x ∷ []
take_next [] i x e = absurd (cc)
take_next {X = X} (y ∷ xs) zero x e = let same : y ≡ x = cc in ap (λ (z : X). z ∷ []) same
take_next (y ∷ xs) (suc i) x e =
    let more : suc i + 1 ≡ suc (i + 1) = omega arith in
    ap (λ n. take n (y ∷ xs)) more ∙ ap (λ zs. y ∷ zs) (take_next xs i x e)

pub take_all : {X : Type 0} (xs : List X) (i : ℕ) → length xs ≤ i → take i xs ≡ xs
take_all [] zero le = refl
take_all [] (suc i) le = refl
take_all (x ∷ xs) zero le = absurd (omega (arith, le))
take_all (x ∷ xs) (suc i) le = ap (λ ys. x ∷ ys) (take_all xs i (omega (arith, le)))

-- a number is on a list
abbrev pub is_in : List ℕ → ℕ → Bool
is_in ks k = list_any (λ c. k == c) ks

pub apart_pairs : (ks : List ℕ) → AllPairs (λ (k c : ℕ). k ≢ c) ks → IsApart ks
apart_pairs ks pairs i j k e f =
    let lt = slice_get_within ks i k e in
    let less = slice_get_within ks j k f in
    elim (cases_lt i j) [
      | inl low ↦ absurd (pairs i j 0 low less
          (get_or_from_slice_get ks i k 0 e ∙ sym (get_or_from_slice_get ks j k 0 f)))
      | inr high ↦ elim (cases_lt j i) [
        | inl low ↦
            absurd (pairs j i 0 low lt (get_or_from_slice_get ks j k 0 f ∙ sym (get_or_from_slice_get ks i k 0 e)))
        | inr le ↦ omega (arith, high, le)
      ]
    ]

pub map_map : {X Y Z : Type 0} (f : Y → Z) (g : X → Y) (xs : List X) → map f (map g xs) ≡ map (λ x. f (g x)) xs
map_map f g [] = refl
map_map f g (x ∷ xs) = ap (λ zs. f (g x) ∷ zs) (map_map f g xs)

pub map_append : {X Y : Type 0} (f : X → Y) (xs ys : List X) → map f (xs ++ ys) ≡ map f xs ++ map f ys
map_append f [] ys = refl
map_append f (x ∷ xs) ys = ap (λ zs. f x ∷ zs) (map_append f xs ys)

pub map_reverse : {X Y : Type 0} (f : X → Y) (xs : List X) → map f (reverse xs) ≡ reverse (map f xs)
map_reverse f [] = refl
map_reverse f (x ∷ xs) =
    ap (map f) (reverse-append (x ∷ []) xs) ∙ map_append f (reverse xs) (x ∷ [])
    ∙ ap (λ l. l ++ f x ∷ []) (map_reverse f xs) ∙ sym (reverse-append (f x ∷ []) (map f xs))

-- a number that comes later only is not on the first part of a list
pub not_in : (ks : List ℕ) (n k : ℕ) → ((j : ℕ) → slice_get ks j ≡ Some k → n ≤ j) → is_in (take n ks) k ≡ false
not_in [] zero k later = refl
not_in [] (suc n) k later = refl
not_in (c ∷ ks) zero k later = refl
not_in (c ∷ ks) (suc n) k later = elim (cases_eq k c) [
  | inl e ↦ absurd (let le = later 0 (ap (λ (x : ℕ). Some x) (sym e)) in omega (arith, le))
  | inr ne ↦ ap (λ b. b || is_in (take n ks) k) (ne_eqb k c ne)
      ∙ not_in ks n k (λ j e. (let le = later (suc j) e in omega (arith, le)))
]

pub not_in_all : (ks : List ℕ) (k : ℕ) → ((j : ℕ) → slice_get ks j ≡ Some k → ⊥) → is_in ks k ≡ false
not_in_all ks k never =
    ap (λ l. is_in l k) (sym (take_all ks (length ks) (omega arith)))
    ∙ not_in ks (length ks) k (λ j e. absurd (never j e))

pub is_in_at : (ks : List ℕ) (i k : ℕ) → slice_get ks i ≡ Some k → is_in ks k ≡ true
is_in_at [] i k e = absurd (cc)
is_in_at (c ∷ ks) zero k e =
    (let same : c ≡ k = cc in ap (λ b. b || is_in ks k) (eq-eqb k c (sym same)))
is_in_at (c ∷ ks) (suc i) k e = or_right (k == c) (is_in ks k) (is_in_at ks i k e)
  where
    or_right : (a b : Bool) → b ≡ true → (a || b) ≡ true
    or_right true b e = refl
    or_right false b e = e

-- ---- two lists of one length, place by place

pub inner : {A : Type 0} (x y : A) → Some x ≡ Some y → x ≡ y
inner x y e = cc

pub beside : {X Y : Type 0} (xs : List X) (ys : List Y) → length xs ≡ length ys → (i : ℕ) (x : X)
    → slice_get xs i ≡ Some x → (y : Y) × (slice_get ys i ≡ Some y)
beside [] ys same i x e = absurd (cc)
beside (c ∷ xs) [] same i x e = absurd (omega (arith, same))
beside (c ∷ xs) (d ∷ ys) same zero x e = (d, refl)
beside (c ∷ xs) (d ∷ ys) same (suc i) x e = beside xs ys (omega (arith, same)) i x e

-- items at one place of two lists at whose end another item stands
pub data AreBeside {X Y : Type 0} (xs : List X) (x : X) (ys : List Y) (y : Y) (i : ℕ) (a : X) (b : Y) : Type 0 where
  Before : slice_get xs i ≡ Some a → slice_get ys i ≡ Some b → AreBeside xs x ys y i a b
  Last : x ≡ a → y ≡ b → AreBeside xs x ys y i a b

beside_later : {X Y : Type 0} (c : X) (d : Y) (xs : List X) (x : X) (ys : List Y) (y : Y) (i : ℕ) (a : X) (b : Y)
    → AreBeside xs x ys y i a b → AreBeside (c ∷ xs) x (d ∷ ys) y (suc i) a b
beside_later c d xs x ys y i a b (Before e f) = Before e f
beside_later c d xs x ys y i a b (Last e f) = Last e f

pub of_ends : {X Y : Type 0} (xs : List X) (x : X) (ys : List Y) (y : Y) → length xs ≡ length ys → (i : ℕ) (a : X)
    (b : Y) → slice_get (xs ++ x ∷ []) i ≡ Some a → slice_get (ys ++ y ∷ []) i ≡ Some b → AreBeside xs x ys y i a b
of_ends [] x [] y same zero a b e f = Last (inner x a e) (inner y b f)
of_ends [] x [] y same (suc i) a b e f = absurd (cc)
of_ends [] x (d ∷ ys) y same i a b e f = absurd (omega (arith, same))
of_ends (c ∷ xs) x [] y same i a b e f = absurd (omega (arith, same))
of_ends (c ∷ xs) x (d ∷ ys) y same zero a b e f = Before e f
of_ends (c ∷ xs) x (d ∷ ys) y same (suc i) a b e f =
    beside_later c d xs x ys y i a b (of_ends xs x ys y (omega (arith, same)) i a b e f)

-- an item of a list in which one was set
pub data IsSet {X : Type 0} (xs : List X) (i : ℕ) (x : X) (j : ℕ) (y : X) : Type 0 where
  Here : j ≡ i → x ≡ y → IsSet xs i x j y
  There : j ≢ i → slice_get xs j ≡ Some y → IsSet xs i x j y

set_later : {X : Type 0} (z : X) (xs : List X) (i : ℕ) (x : X) (j : ℕ) (y : X) → IsSet xs i x j y
    → IsSet (z ∷ xs) (suc i) x (suc j) y
set_later z xs i x j y (Here e is) = Here (ap suc e) is
set_later z xs i x j y (There ne e) = There (λ no. ne (omega (arith, no))) e

pub of_set : {X : Type 0} (xs : List X) (i : ℕ) (x : X) (j : ℕ) (y : X) → slice_get (slice_set xs i x) j ≡ Some y
    → IsSet xs i x j y
of_set [] zero x j y e = absurd (cc)
of_set [] (suc i) x j y e = absurd (cc)
of_set (z ∷ xs) zero x zero y e = Here refl (inner x y e)
of_set (z ∷ xs) zero x (suc j) y e = There (λ no. absurd (omega (arith, no))) e
of_set (z ∷ xs) (suc i) x zero y e = There (λ no. absurd (omega (arith, no))) e
of_set (z ∷ xs) (suc i) x (suc j) y e = set_later z xs i x j y (of_set xs i x j y e)

pub length-set : {A : Type 0} (xs : List A) (i : ℕ) (x : A) → length (slice_set xs i x) ≡ length xs
length-set [] zero x = refl
length-set [] (suc i) x = refl
length-set (y ∷ xs) zero x = refl
length-set (y ∷ xs) (suc i) x = ap suc (length-set xs i x)

-- what is taken out of two lists by tests that say the same, and is mapped to the same
either_alike : {X Y Z : Type 0} (f : X → Z) (g : Y → Z) (x : X) (y : Y) (b c : Bool) → b ≡ c → f x ≡ g y
    → (xs : List X) (ys : List Y) → map f xs ≡ map g ys → map f (cond b (x ∷ xs) xs) ≡ map g (cond c (y ∷ ys) ys)
either_alike f g x y true true e same xs ys rest =
    ap (λ z. z ∷ map f xs) same ∙ ap (λ l. g y ∷ l) rest
either_alike f g x y false false e same xs ys rest = rest
either_alike f g x y true false e same xs ys rest = absurd (cc)
either_alike f g x y false true e same xs ys rest = absurd (cc)

pub filter_alike : {X Y Z : Type 0} (p : X → Bool) (q : Y → Bool) (f : X → Z) (g : Y → Z) (xs : List X)
    (ys : List Y) → length xs ≡ length ys
    → ((i : ℕ) (x : X) (y : Y) → slice_get xs i ≡ Some x → slice_get ys i ≡ Some y → (p x ≡ q y) × (f x ≡ g y))
    → map f (filter p xs) ≡ map g (filter q ys)
filter_alike p q f g [] [] same each = refl
filter_alike p q f g [] (y ∷ ys) same each = absurd (omega (arith, same))
filter_alike p q f g (x ∷ xs) [] same each = absurd (omega (arith, same))
filter_alike p q f g (x ∷ xs) (y ∷ ys) same each =
    let first = each 0 x y refl refl in
    either_alike f g x y (p x) (q y) first.0 first.1 (filter p xs) (filter q ys)
    (filter_alike p q f g xs ys (omega (arith, same)) (λ i a b e f. each (suc i) a b e f))
