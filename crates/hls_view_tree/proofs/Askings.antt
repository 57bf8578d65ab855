-- Readiness at one tick, and the ways down to those that are ready.
use Rattle.std.proofs.Common.{◌≡◌, ℕ, ◌+◌, ◌<◌, List, [], ◌∷◌, ◌++◌, refl, sym, ap, ◌∙◌, arith}
use Rattle.std.proofs.Common.{length, get_or, take, map, filter}
use Rattle.std.proofs.Math.Seq.{take-suc}
use Rattle.std.specs.Prelude.{Bool, true, false, cond, nat_eq, suc, if◌then◌else◌}
use Rattle.std.proofs.lemmas.List.{map-append}
use Rattle.hls_chron.specs.Ticks.{count, one_if}

is_one : (b : Bool) → nat_eq (one_if b) 1 ≡ b
is_one true = refl
is_one false = refl

one_count : (f : ℕ → Bool) (t : ℕ) → count f t 1 ≡ one_if (f t)
unfolding count
one_count f t =
    let here : t + 0 ≡ t = omega arith in
    let one : 0 + one_if (f (t + 0)) ≡ one_if (f (t + 0)) = omega arith in
    one ∙ ap (λ n. one_if (f n)) here

-- a tick is among those counted where the count over it alone is 1
pub counted : (f : ℕ → Bool) (t n : ℕ) → n ≡ count f t 1 → nat_eq n 1 ≡ f t
counted f t n is = ap (λ k. nat_eq k 1) (is ∙ one_count f t) ∙ is_one (f t)

filter_last : {X : Type 0} (p : X → Bool) (xs : List X) (x : X)
    → filter p (xs ++ x ∷ []) ≡ filter p xs ++ (if p x then x ∷ [] else [])
filter_last p [] x = elim (p x) as (λ b. cond b (x ∷ []) [] ≡ (if b then x ∷ [] else [])) [ true ↦ refl | false ↦ refl ]
filter_last p (y ∷ xs) x =
    elim (p y) as (λ b. cond b (y ∷ filter p (xs ++ x ∷ [])) (filter p (xs ++ x ∷ []))
    ≡ cond b (y ∷ filter p xs) (filter p xs) ++ (if p x then x ∷ [] else []))
    [ true ↦ ap (λ l. y ∷ l) (filter_last p xs x) | false ↦ filter_last p xs x ]

map_if : {X Y : Type 0} (f : X → Y) (b : Bool) (x : X)
    → map f (if b then x ∷ [] else []) ≡ (if b then f x ∷ [] else [])
map_if f true x = refl
map_if f false x = refl

-- one more of those that pass a test, if it does
pub passed_more : {X Y : Type 0} (p : X → Bool) (f : X → Y) (xs : List X) (i : ℕ) (x : X) (items more : List Y)
    (b : Bool) → i < length xs → x ≡ get_or xs i x → b ≡ p x → more ≡ items ++ (if b then f x ∷ [] else [])
    → items ≡ map f (filter p (take i xs)) → more ≡ map f (filter p (take (i + 1) xs))
passed_more p f xs i x items more b lt is passes new are =
    let next : take (i + 1) xs ≡ take i xs ++ x ∷ [] =
    ap (λ n. take n xs) (let e : i + 1 ≡ suc i = omega arith in e)
    ∙ take-suc xs i x lt ∙ ap (λ y. take i xs ++ y ∷ []) (sym is) in
    new
    ∙ ap (λ l. l ++ (if b then f x ∷ [] else [])) are
    ∙ ap (λ d. map f (filter p (take i xs)) ++ (if d then f x ∷ [] else [])) passes
    ∙ ap (λ l. map f (filter p (take i xs)) ++ l) (sym (map_if f (p x) x))
    ∙ sym (ap (λ l. map f (filter p l)) next
    ∙ ap (map f) (filter_last p (take i xs) x)
    ∙ map-append f (filter p (take i xs)) (if p x then x ∷ [] else []))
