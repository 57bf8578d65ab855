-- Words, names and numbers that are read stand at the front, and those that stand there are read.
use Rattle.std.proofs.Common.{◌≡◌, ℕ, ◌^◌, ◌<◌, ◌≤◌, Bool, true, false, cond, List, [], ◌∷◌, refl}
use Rattle.std.proofs.Common.{ap, ◌∙◌, subst, arith}
use Rattle.std.specs.Prelude.{◌&&◌, nat_le, nat_lt, Result, Ok, Err, Option, Some, None}
use Rattle.std.specs.Str.{bytes_eq}
use Rattle.std.proofs.lemmas.Bool.{ltb-false, le-ltb, ltb-true, lt-ltb, leb-true, le-leb}
use Rattle.hls_text.specs.Lines.{Text}
use Rattle.hls_text.specs.Numbers.{number_of}
use Rattle.hls_text.proofs.NumberLaws.{number_is, number_again}
use Rattle.hls_chron.specs.Name.{is_name, IsName}
use Rattle.hls_lang.specs.declared.fault.Cause.{Cause}
use Rattle.hls_lang.specs.declared.fault.Cause.TheVariants as causes
use Rattle.hls_lang.specs.Words.{◌>>=◌, no_more, word_at, name_at, in_range, number_test}
use Rattle.hls_lang.specs.Words.{number_at, tick_test, tick_at, pair_at}
use Rattle.hls_scenario.specs.Forms.{the, number}
use Rattle.hls_lang.proofs.Binds.{bind_ok, bind_again, carried, test_ok, test_again}
use Rattle.hls_lang.proofs.Binds.{order_ok, same_bytes, bytes_same, and_left, and_right, and_both}
use Rattle.hls_lang.proofs.Fronts.{Front, front_join}

pub none_left : (ts : List Text) (u : Unit {0}) → no_more ts ≡ Ok u → ts ≡ []
none_left [] u e = refl
none_left (t ∷ ts) u e = absurd cc

pub no_more_again : (ts : List Text) → ts ≡ [] → no_more ts ≡ Ok tt
no_more_again ts e = ap no_more e

pub word_is : (word : Text) (ts rest : List Text) → word_at word ts ≡ Ok rest → Front (the word ∷ []) ts rest
word_is word [] rest e = absurd cc
word_is word (t ∷ ts) rest e =
    let h = test_ok (bytes_eq t word) causes.Word ts rest e in
    (same_bytes t word h.0, h.1)

pub word_next : (word : Text) (ts rest : List Text) → Front (the word ∷ []) ts rest
    → word_at word ts ≡ Ok rest
word_next word [] rest a = absurd a
word_next word (t ∷ ts) rest a =
    test_again (bytes_eq t word) causes.Word (Ok ts) rest (bytes_same t word a.0)
    (ap (λ (x : List Text). Ok x) a.1)

-- a name at the front
abbrev pub NameFront : List Text → Text × List Text → Type 0
NameFront ts p = IsName p.0 × Front (the p.0 ∷ []) ts p.1

pub name_front : (ts : List Text) (p : Text × List Text) → name_at ts ≡ Ok p → NameFront ts p
name_front [] p e = absurd cc
name_front (t ∷ ts) p e =
    let h = test_ok (is_name t) causes.Name (t, ts) p e in
    subst (NameFront (t ∷ ts)) h.1 (h.0, (refl, refl))

pub name_next : (ts : List Text) (name : Text) (rest : List Text) → IsName name
    → Front (the name ∷ []) ts rest
    → name_at ts ≡ Ok (name, rest)
name_next [] name rest named a = absurd a
name_next (t ∷ ts) name rest named a =
    test_again (is_name t) causes.Name (Ok (t, ts)) (name, rest) (ap is_name a.0 ∙ named)
    (ap (λ (x : Text). Ok (x, ts)) a.0 ∙ ap (λ (x : List Text). Ok (name, x)) a.1)

-- ---- numbers

-- a number in a range at the front
abbrev pub NumberFront : (low high : ℕ) → List Text → ℕ × List Text → Type 0
NumberFront low high ts p = (low ≤ p.0) × (p.0 ≤ high) × Front (number p.0 ∷ []) ts p.1

range_is : (low high : ℕ) (o : Option ℕ) (ts : List Text) (p : ℕ × List Text)
    → number_test (in_range low high o) ts ≡ Ok p → (o ≡ Some p.0) × (low ≤ p.0) × (p.0 ≤ high) × (ts ≡ p.1)
range_is low high None ts p e = absurd cc
range_is low high (Some n) ts p e = by_test (nat_le low n && nat_le n high) refl e
  where
    by_test : (b : Bool) → (nat_le low n && nat_le n high) ≡ b → number_test (cond b (Some n) None) ts ≡ Ok p
        → (Some n ≡ Some p.0) × (low ≤ p.0) × (p.0 ≤ high) × (ts ≡ p.1)
    by_test true t f = carried (λ (q : ℕ × List Text). (Some n ≡ Some q.0) × (low ≤ q.0) × (q.0 ≤ high) ×
        (ts ≡ q.1))
        (n, ts) p f (
          refl,
          leb-true low n (and_left (nat_le low n) _ t),
          leb-true n high
              (and_right (nat_le low n) _ t),
          refl,
        )
    by_test false t f = absurd cc

pub number_front : (low high : ℕ) (ts : List Text) (p : ℕ × List Text) → high < 2 ^ 64
    → number_at low high ts ≡ Ok p → NumberFront low high ts p
number_front low high [] p fits e = absurd cc
number_front low high (t ∷ ts) p fits e =
    let h = range_is low high (number_of t) ts p e in
    (h.1, h.2, (number_is t p.0 (omega (arith, h.2)) h.0, h.3))

pub number_next : (low high : ℕ) (ts : List Text) (n : ℕ) (rest : List Text) → high < 2 ^ 64 → low ≤ n
    → n ≤ high
    → Front (number n ∷ []) ts rest → number_at low high ts ≡ Ok (n, rest)
number_next low high [] n rest fits le ge a = absurd a
number_next low high (t ∷ ts) n rest fits le ge a =
    let of_token : number_of t ≡ Some n = ap number_of a.0 ∙ number_again n (omega arith) in
    let within : (nat_le low n && nat_le n high) ≡ true =
    and_both (nat_le low n) (nat_le n high) (le-leb low n le) (le-leb n high ge) in
    ap (λ o. number_test (in_range low high o) ts) of_token
    ∙ ap (λ b. number_test (cond b (Some n) None) ts) within ∙ ap (λ (x : List Text). Ok (n, x)) a.1

-- a tick at the front
abbrev pub TickFront : (horizon last : ℕ) → List Text → ℕ × List Text → Type 0
TickFront horizon last ts p = (last ≤ p.0) × (p.0 < horizon) × Front (number p.0 ∷ []) ts p.1

tick_is : (horizon last : ℕ) (o : Option ℕ) (ts : List Text) (p : ℕ × List Text)
    → tick_test horizon last o ts ≡ Ok p → (o ≡ Some p.0) × (last ≤ p.0) × (p.0 < horizon) × (ts ≡ p.1)
tick_is horizon last None ts p e = absurd cc
tick_is horizon last (Some n) ts p e =
    let o = order_ok (nat_lt n last) causes.Order
    (cond (nat_lt n horizon) (Ok (n, ts)) (Err causes.Late)) p e in
    let l = test_ok (nat_lt n horizon) causes.Late (n, ts) p o.1 in
    subst (λ (q : ℕ × List Text). (Some n ≡ Some q.0) × (last ≤ q.0) × (q.0 < horizon) × (ts ≡ q.1)) l.1
    (refl, ltb-false n last o.0, ltb-true n horizon l.0, refl)

pub tick_front : (horizon last : ℕ) (ts : List Text) (p : ℕ × List Text) → horizon < 2 ^ 64
    → tick_at horizon last ts ≡ Ok p → TickFront horizon last ts p
tick_front horizon last [] p fits e = absurd cc
tick_front horizon last (t ∷ ts) p fits e =
    let h = tick_is horizon last (number_of t) ts p e in
    (h.1, h.2, (number_is t p.0 (omega (arith, h.2)) h.0, h.3))

pub tick_next : (horizon last : ℕ) (ts : List Text) (n : ℕ) (rest : List Text) → horizon < 2 ^ 64 → last ≤ n
    → n < horizon → Front (number n ∷ []) ts rest → tick_at horizon last ts ≡ Ok (n, rest)
tick_next horizon last [] n rest fits le lt a = absurd a
tick_next horizon last (t ∷ ts) n rest fits le lt a =
    let of_token : number_of t ≡ Some n = ap number_of a.0 ∙ number_again n (omega arith) in
    ap (λ o. tick_test horizon last o ts) of_token
    ∙ ap (λ b. cond b (Err causes.Order) (cond (nat_lt n horizon) (Ok (n, ts)) (Err causes.Late)))
    (le-ltb n last le)
    ∙ ap (λ b. cond b (Ok (n, ts)) (Err causes.Late)) (lt-ltb n horizon lt)
    ∙ ap (λ (x : List Text). Ok (n, x)) a.1

-- ---- two numbers

abbrev pub PairFront : (most : ℕ) → List Text → ℕ × ℕ × List Text → Type 0
PairFront most ts p = (1 ≤ p.0) × (p.0 ≤ p.1) × (p.1 ≤ most) × Front (number p.0 ∷ number p.1 ∷ []) ts p.2

p2 : ℕ → ℕ × List Text → Result (ℕ × ℕ × List Text) Cause
p2 x y = Ok (x, y.0, y.1)

p1 : ℕ → ℕ × List Text → Result (ℕ × ℕ × List Text) Cause
p1 most x = number_at x.0 most x.1 >>= p2 x.0

pub pair_front : (most : ℕ) (ts : List Text) (p : ℕ × ℕ × List Text) → most < 2 ^ 64
    → pair_at most ts ≡ Ok p → PairFront most ts p
unfolding pair_at p1 p2
pair_front most ts p fits e =
    let a = bind_ok (number_at 1 most ts) (p1 most) p e in
    let b = bind_ok (number_at a.0.0 most a.0.1) (p2 a.0.0) p a.2 in
    let first = number_front 1 most ts a.0 fits a.1 in
    let second = number_front a.0.0 most a.0.1 b.0 fits b.1 in
    carried (PairFront most ts) (a.0.0, b.0.0, b.0.1) p b.2 (
      first.0,
      second.0,
      second.1,
      front_join (number a.0.0 ∷ []) (number b.0.0 ∷ []) ts a.0.1 b.0.1
          first.2 second.2,
    )

pub pair_next : (most x y : ℕ) (ts rest : List Text) → most < 2 ^ 64 → 1 ≤ x → x ≤ y → y ≤ most
    → Front (number x ∷ number y ∷ []) ts rest → pair_at most ts ≡ Ok (x, y, rest)
unfolding pair_at p1 p2
pair_next most x y [] rest fits some le ge a = absurd a
pair_next most x y (t ∷ ts) rest fits some le ge a =
    bind_again (number_at 1 most (t ∷ ts)) (p1 most) (x, ts) (x, y, rest)
    (number_next 1 most (t ∷ ts) x ts fits some (omega arith) (a.0, refl))
    (ap (λ q. q >>= p2 x) (number_next x most ts y rest fits le ge a.1))
