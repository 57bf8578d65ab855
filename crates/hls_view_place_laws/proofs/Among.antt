-- What stands in a list, and lists in which nothing stands twice.
use Rattle.std.proofs.Common.{◌≡◌, ◌≢◌, ℕ, zero, suc, ◌<◌, ◌≤◌, ◌⊎◌, List, [], ◌∷◌, ◌++◌, Bool, true, false, ◌||◌}
use Rattle.std.proofs.Common.{refl, sym, ap, subst, ◌∙◌, cond, map, filter, length, get_or, inl, inr, arith}
use Rattle.std.specs.Prelude.{Some, slice_get}
use Rattle.std.specs.List.{Contains, AllPairs, flat_map, list_any}
use Rattle.std.proofs.lemmas.Bool.{or_cases}
use Rattle.std.proofs.lemmas.List.{length-append, map-append}

abbrev pub IsIn : {X : Type 0} → X → List X → Type 0
IsIn x [] = ⊥
IsIn x (y ∷ ys) = (y ≡ x) ⊎ IsIn x ys

-- nothing stands in it twice
abbrev pub AreOnce : {X : Type 0} → List X → Type 0
AreOnce [] = Unit {0}
AreOnce (x ∷ xs) = (IsIn x xs → ⊥) × AreOnce xs

-- ---- lists made of others

pub in-front : {X : Type 0} (x : X) (xs ys : List X) → IsIn x xs → IsIn x (xs ++ ys)
in-front x [] ys has = absurd has
in-front x (z ∷ xs) ys (inl is) = inl is
in-front x (z ∷ xs) ys (inr has) = inr (in-front x xs ys has)

pub in-back : {X : Type 0} (x : X) (xs ys : List X) → IsIn x ys → IsIn x (xs ++ ys)
in-back x [] ys has = has
in-back x (z ∷ xs) ys has = inr (in-back x xs ys has)

pub in-either : {X : Type 0} (x : X) (xs ys : List X) → IsIn x (xs ++ ys) → IsIn x xs ⊎ IsIn x ys
in-either x [] ys has = inr has
in-either x (z ∷ xs) ys (inl is) = inl (inl is)
in-either x (z ∷ xs) ys (inr has) = elim (in-either x xs ys has) [
  | inl front ↦ inl (inr front)
  | inr back ↦ inr back
]

pub in-map : {X Y : Type 0} (f : X → Y) (x : X) (xs : List X) → IsIn x xs → IsIn (f x) (map f xs)
in-map f x [] has = absurd has
in-map f x (z ∷ xs) (inl is) = inl (ap f is)
in-map f x (z ∷ xs) (inr has) = inr (in-map f x xs has)

-- what something stands in a list for
pub record IsOf {X Y : Type 0} (f : X → Y) (y : Y) (xs : List X) : Type 0 where
  pub one : X
  pub has : IsIn one xs
  pub is : f one ≡ y

pub of-map : {X Y : Type 0} (f : X → Y) (y : Y) (xs : List X) → IsIn y (map f xs) → IsOf f y xs
of-map f y [] has = absurd has
of-map f y (x ∷ xs) (inl is) = record { one = x; has = inl refl; is = is }
of-map f y (x ∷ xs) (inr has) =
    let o = of-map f y xs has in record { one = o.one; has = inr o.has; is = o.is }

keep : {X : Type 0} (b : Bool) (z x : X) (xs : List X) → IsIn x xs → IsIn x (cond b (z ∷ xs) xs)
keep true z x xs has = inr has
keep false z x xs has = has

pub in-filter : {X : Type 0} (p : X → Bool) (x : X) (xs : List X) → IsIn x xs → p x ≡ true → IsIn x (filter p xs)
in-filter p x [] has e = absurd has
in-filter {X = X} p x (z ∷ xs) (inl is) e =
    let on : p z ≡ true = ap p is ∙ e in
    subst (λ (b : Bool). IsIn x (cond b (z ∷ filter p xs) (filter p xs))) (sym on) (inl is)
in-filter p x (z ∷ xs) (inr has) e = keep (p z) z x (filter p xs) (in-filter p x xs has e)

pub record IsLeft {X : Type 0} (p : X → Bool) (x : X) (xs : List X) : Type 0 where
  pub has : IsIn x xs
  pub passes : p x ≡ true

pub of-filter : {X : Type 0} (p : X → Bool) (x : X) (xs : List X) → IsIn x (filter p xs) → IsLeft p x xs
of-filter p x [] has = absurd has
of-filter {X = X} p x (z ∷ xs) has = by (p z) refl (λ rest. of-filter p x xs rest) has
  where
    later : IsLeft p x xs → IsLeft p x (z ∷ xs)
    later l = record { has = inr l.has; passes = l.passes }

    by : (b : Bool) → p z ≡ b → (IsIn x (filter p xs) → IsLeft p x xs)
        → IsIn x (cond b (z ∷ filter p xs) (filter p xs)) → IsLeft p x (z ∷ xs)
    by true e more (inl is) = record { has = inl is; passes = ap p (sym is) ∙ e }
    by true e more (inr rest) = later (more rest)
    by false e more rest = later (more rest)

pub in-flat : {X Y : Type 0} (f : X → List Y) (x : X) (y : Y) (xs : List X) → IsIn x xs → IsIn y (f x)
    → IsIn y (flat_map f xs)
in-flat f x y [] has there = absurd has
in-flat f x y (z ∷ xs) (inl is) there =
    in-front y (f z) (flat_map f xs) (subst (λ w. IsIn y (f w)) (sym is) there)
in-flat f x y (z ∷ xs) (inr has) there = in-back y (f z) (flat_map f xs) (in-flat f x y xs has there)

pub record IsFrom {X Y : Type 0} (f : X → List Y) (y : Y) (xs : List X) : Type 0 where
  pub one : X
  pub has : IsIn one xs
  pub there : IsIn y (f one)

pub of-flat : {X Y : Type 0} (f : X → List Y) (y : Y) (xs : List X) → IsIn y (flat_map f xs) → IsFrom f y xs
of-flat f y [] has = absurd has
of-flat f y (x ∷ xs) has = elim (in-either y (f x) (flat_map f xs) has) [
  | inl here ↦ record { one = x; has = inl refl; there = here }
  | inr rest ↦ (let o = of-flat f y xs rest in record { one = o.one; has = inr o.has; there = o.there })
]

-- ---- by places, and by tests

pub in-at : {X : Type 0} (xs : List X) (i : ℕ) (x : X) → slice_get xs i ≡ Some x → IsIn x xs
in-at [] i x e = absurd (cc)
in-at (y ∷ xs) zero x e = inl (cc)
in-at (y ∷ xs) (suc i) x e = inr (in-at xs i x e)

pub at-in : {X : Type 0} (x : X) (xs : List X) → IsIn x xs → (i : ℕ) × (slice_get xs i ≡ Some x)
at-in x [] has = absurd has
at-in x (y ∷ xs) (inl is) = (zero, ap (λ z. Some z) is)
at-in x (y ∷ xs) (inr has) = let r = at-in x xs has in (suc r.0, r.1)

pub contained : {X : Type 0} (x : X) (xs : List X) → IsIn x xs → Contains xs x
contained x [] has = absurd has
contained x (y ∷ xs) (inl is) = (zero, omega arith, is)
contained x (y ∷ xs) (inr has) =
    let r : Contains xs x = contained x xs has in (suc r.0, (let lt = r.1 in omega (arith, lt)), r.2)

from : {X : Type 0} (x : X) (xs : List X) (k : ℕ) → k < length xs → get_or xs k x ≡ x → IsIn x xs
from x [] k lt e = absurd (omega (arith, lt))
from x (y ∷ xs) zero lt e = inl e
from x (y ∷ xs) (suc k) lt e = inr (from x xs k (omega (arith, lt)) e)

pub in-contained : {X : Type 0} (x : X) (xs : List X) → Contains xs x → IsIn x xs
in-contained x xs has = from x xs has.0 has.1 has.2

-- one that passes a test
pub record HasSuch {X : Type 0} (p : X → Bool) (xs : List X) : Type 0 where
  pub one : X
  pub has : IsIn one xs
  pub passes : p one ≡ true

pub such : {X : Type 0} (p : X → Bool) (xs : List X) → list_any p xs ≡ true → HasSuch p xs
such p [] e = absurd (cc)
such p (x ∷ xs) e = elim (or_cases (p x) (list_any p xs) e) [
  | inl here ↦ record { one = x; has = inl refl; passes = here }
  | inr rest ↦ (let s = such p xs rest in record { one = s.one; has = inr s.has; passes = s.passes })
]

or-back : (a b : Bool) → b ≡ true → (a || b) ≡ true
or-back true b e = refl
or-back false b e = e

pub any-in : {X : Type 0} (p : X → Bool) (x : X) (xs : List X) → IsIn x xs → p x ≡ true → list_any p xs ≡ true
any-in p x [] has e = absurd has
any-in p x (y ∷ xs) (inl is) e = ap (λ b. b || list_any p xs) (ap p is ∙ e)
any-in p x (y ∷ xs) (inr has) e = or-back (p y) (list_any p xs) (any-in p x xs has e)

-- ---- nothing stands twice

pub once-append : {X : Type 0} (xs ys : List X) → AreOnce xs → AreOnce ys
    → ((x : X) → IsIn x xs → IsIn x ys → ⊥) → AreOnce (xs ++ ys)
once-append [] ys front back apart = back
once-append (x ∷ xs) ys front back apart = (
  λ has. elim (in-either x xs ys has) [ inl f ↦ front.0 f | inr b ↦ apart x (inl refl) b ],
  once-append xs ys front.1 back (λ z f b. apart z (inr f) b),
)

keep-once : {X : Type 0} (b : Bool) (x : X) (xs : List X) → (IsIn x xs → ⊥) → AreOnce xs
    → AreOnce (cond b (x ∷ xs) xs)
keep-once true x xs new once = (new, once)
keep-once false x xs new once = once

pub once-filter : {X : Type 0} (p : X → Bool) (xs : List X) → AreOnce xs → AreOnce (filter p xs)
once-filter p [] once = tt
once-filter p (x ∷ xs) once =
    keep-once (p x) x (filter p xs) (λ has. once.0 (of-filter p x xs has).has) (once-filter p xs once.1)

pub once-flat : {X Y : Type 0} (f : X → List Y) (xs : List X) → AreOnce xs
    → ((x : X) → IsIn x xs → AreOnce (f x))
    → ((x z : X) (y : Y) → IsIn x xs → IsIn z xs → IsIn y (f x) → IsIn y (f z) → x ≡ z) → AreOnce (flat_map f xs)
once-flat f [] once each apart = tt
once-flat f (x ∷ xs) once each apart =
    once-append (f x) (flat_map f xs) (each x (inl refl))
    (once-flat f xs once.1 (λ z has. each z (inr has)) (λ w z y hw hz. apart w z y (inr hw) (inr hz)))
    (λ y here rest. (let o = of-flat f y xs rest in
    once.0 (subst (λ z. IsIn z xs) (sym (apart x o.one y (inl refl) (inr o.has) here o.there)) o.has)))

-- lists that differ by what stands for their items
pub once-map : {X Y : Type 0} (f : X → Y) (xs : List X) → AreOnce (map f xs) → AreOnce xs
once-map f [] once = tt
once-map f (x ∷ xs) once = (λ has. once.0 (in-map f x xs has), once-map f xs once.1)

pub once-same : {X Y : Type 0} (f : X → Y) (xs : List X) (x z : X) → AreOnce (map f xs) → IsIn x xs → IsIn z xs
    → f x ≡ f z → x ≡ z
once-same f [] x z once hx hz e = absurd hx
once-same f (y ∷ xs) x z once (inl ex) (inl ez) e = sym ex ∙ ez
once-same f (y ∷ xs) x z once (inl ex) (inr hz) e =
    absurd (once.0 (subst (λ k. IsIn k (map f xs)) (sym e ∙ sym (ap f ex)) (in-map f z xs hz)))
once-same f (y ∷ xs) x z once (inr hx) (inl ez) e =
    absurd (once.0 (subst (λ k. IsIn k (map f xs)) (e ∙ sym (ap f ez)) (in-map f x xs hx)))
once-same f (y ∷ xs) x z once (inr hx) (inr hz) e = once-same f xs x z once.1 hx hz e

pub once-injective : {X Y : Type 0} (f : X → Y) (xs : List X) → AreOnce xs → ((x z : X) → f x ≡ f z → x ≡ z)
    → AreOnce (map f xs)
once-injective f [] once same = tt
once-injective {X = X} f (x ∷ xs) once same = (
  λ has. (let o = of-map f (f x) xs has in once.0 (subst (λ (z : X). IsIn z xs) (same o.one x o.is) o.has)),
  once-injective f xs once.1 same,
)

-- what stands for the items that a filter leaves
pub once-left : {X Y : Type 0} (f : X → Y) (p : X → Bool) (xs : List X) → AreOnce (map f xs)
    → AreOnce (map f (filter p xs))
once-left f p [] once = tt
once-left {X = X} f p (x ∷ xs) once = by (p x) (once-left f p xs once.1)
  where
    by : (b : Bool) → AreOnce (map f (filter p xs)) → AreOnce (map f (cond b (x ∷ filter p xs) (filter p xs)))
    by true rest = (
      λ has. (let o = of-map f (f x) (filter p xs) has in
          once.0 (subst (λ y. IsIn y (map f xs)) o.is (in-map f o.one xs (of-filter p o.one xs o.has).has))),
      rest,
    )
    by false rest = rest

pub once-push : {X Y : Type 0} (f : X → Y) (xs : List X) (x : X) → AreOnce (map f xs)
    → (IsIn (f x) (map f xs) → ⊥) → AreOnce (map f (xs ++ x ∷ []))
once-push f xs x once new =
    subst AreOnce (sym (map-append f xs (x ∷ [])))
    (once-append (map f xs) (f x ∷ []) once (λ has. has, tt)
    (λ y front back. elim back [ inl is ↦ new (subst (λ z. IsIn z (map f xs)) (sym is) front) | inr gone ↦ gone ]))

pub map-flat : {X Y Z : Type 0} (g : Y → Z) (f : X → List Y) (xs : List X)
    → map g (flat_map f xs) ≡ flat_map (λ x. map g (f x)) xs
map-flat g f [] = refl
map-flat g f (x ∷ xs) = map-append g (f x) (flat_map f xs) ∙ ap (λ l. map g (f x) ++ l) (map-flat g f xs)

in-place : {X : Type 0} (xs : List X) (k : ℕ) (d : X) → k < length xs → IsIn (get_or xs k d) xs
in-place [] k d lt = absurd (omega (arith, lt))
in-place (x ∷ xs) zero d lt = inl refl
in-place (x ∷ xs) (suc k) d lt = inr (in-place xs k d (omega (arith, lt)))

pub all-differ : {X : Type 0} (xs : List X) → AreOnce xs → AllPairs (λ (x z : X). x ≢ z) xs
all-differ [] once i j d lt within = absurd (omega (arith, within))
all-differ (x ∷ xs) once zero zero d lt within = absurd (omega (arith, lt))
all-differ {X = X} (x ∷ xs) once zero (suc j) d lt within =
    λ e. once.0 (subst (λ (z : X). IsIn z xs) (sym e) (in-place xs j d (omega (arith, within))))
all-differ (x ∷ xs) once (suc i) zero d lt within = absurd (omega (arith, lt))
all-differ (x ∷ xs) once (suc i) (suc j) d lt within =
    all-differ xs once.1 i j d (omega (arith, lt)) (omega (arith, within))

-- ---- a list whose items all stand in another is no longer than that

record IsSplit {X : Type 0} (x : X) (ys : List X) : Type 0 where
  front : List X
  back : List X
  is : ys ≡ front ++ x ∷ back

split : {X : Type 0} (x : X) (ys : List X) → IsIn x ys → IsSplit x ys
split x [] has = absurd has
split {X = X} x (y ∷ ys) (inl is) = record { front = []; back = ys; is = ap (λ (z : X). z ∷ ys) is }
split {X = X} x (y ∷ ys) (inr has) =
    let s = split x ys has in
    record { front = y ∷ s.front; back = s.back; is = ap (λ (zs : List X). y ∷ zs) s.is }

others : {X : Type 0} (x z : X) (front back : List X) → (x ≡ z → ⊥) → IsIn z (front ++ x ∷ back)
    → IsIn z (front ++ back)
others x z front back ne has = elim (in-either z front (x ∷ back) has) [
  | inl f ↦ in-front z front back f
  | inr b ↦ elim b [ inl is ↦ absurd (ne is) | inr rest ↦ in-back z front back rest ]
]

pub no-longer : {X : Type 0} (xs ys : List X) → AreOnce xs → ((x : X) → IsIn x xs → IsIn x ys)
    → length xs ≤ length ys
no-longer [] ys once all = omega arith
no-longer {X = X} (x ∷ xs) ys once all =
    let s = split x ys (all x (inl refl)) in
    let rest = no-longer xs (s.front ++ s.back) once.1
    (λ z has. others x z s.front s.back
    (λ e. once.0 (subst (λ (w : X). IsIn w xs) (sym e) has))
    (subst (λ (l : List X). IsIn z l) s.is (all z (inr has)))) in
    let long : length ys ≡ length (s.front ++ x ∷ s.back) = ap (λ (l : List X). length l) s.is in
    let both = length-append s.front (x ∷ s.back) in
    let less = length-append s.front s.back in
    omega (arith, rest, long, both, less)
