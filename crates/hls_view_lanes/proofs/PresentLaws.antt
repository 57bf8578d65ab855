-- The facts of rows, by the ways that begin with them.
use Rattle.std.proofs.Common.{◌≡◌, ℕ, suc, ◌+◌, ◌<◌, ◌≤◌, List, [], ◌∷◌, ◌++◌, Bool, true, false, refl, ap, sym}
use Rattle.std.proofs.Common.{◌∙◌, ◌||◌, cond, length, map, drop, get_or, set, append_assoc, subst, inl, inr, arith}
use Rattle.std.specs.Prelude.{Option, filter}
use Rattle.std.specs.List.{list_any, range_with_len}
use Rattle.std.proofs.lemmas.Bool.{cases_eq}
use Rattle.std.proofs.lemmas.List.{same_lists, get_or-map, length-map, length-set, get_or-set_other}
use Rattle.std.proofs.lemmas.Grind.{get_or-set_at}
use Rattle.std.proofs.lemmas.Option.{slice_get_read, get_or_from_slice_get}
use Rattle.std.proofs.lemmas.List.{append-nil}
use Rattle.std.proofs.Math.Seq.{drop-cons}
use Rattle.std.proofs.Math.ListN.{drop_of_length-le}
use Rattle.std.proofs.lemmas.List.FromFn.{length-map-range_with_len, get_or-map-range_with_len}
use Rattle.hls_report_text.specs.Content.{Content}
use Rattle.hls_view_tale.specs.declared.label.Label.{Label}
use Rattle.hls_view_lanes.specs.declared.asking.Asking.{Asking}
use Rattle.hls_view_lanes.specs.declared.present.Present.{Present}
use Rattle.hls_view_lanes.specs.declared.tick_facts.Facts.{Facts}
use Rattle.hls_view_lanes.specs.Likeness.{begins}
use Rattle.hls_view_lanes.specs.Facts.{facts_of, is_through}
use Rattle.hls_view_lanes.specs.Inside.Present as told

-- ---- the places of those that pass

pub places-more : (test : List Label → Bool) (n : ℕ) (way : List Label) (ways : List (List Label))
    → told.places_from test n (way ∷ ways)
    ≡ cond (test way) (n ∷ told.places_from test (suc n) ways) (told.places_from test (suc n) ways)
unfolding told.places_from
places-more test n way ways = refl

pub places-none : (test : List Label → Bool) (n : ℕ) → told.places_from test n [] ≡ []
unfolding told.places_from
places-none test n = refl

or_same : (a b : Bool) → a ≡ b → (rest : Bool) → (a || rest) ≡ (b || rest)
or_same a b e rest = ap (λ (x : Bool). x || rest) e

-- a loop over the ways, one way more
places-on : (test : List Label → Bool) (ways : List (List Label)) (at : ℕ) (way : List Label) → at < length ways
    → way ≡ get_or ways at way
    → told.places_from test at (drop at ways)
    ≡ cond (test way) (at ∷ told.places_from test (at + 1) (drop (at + 1) ways))
    (told.places_from test (at + 1) (drop (at + 1) ways))
places-on test ways at way lt is =
    let up : suc at ≡ at + 1 = omega arith in
    let one : drop at ways ≡ way ∷ drop (suc at) ways =
    drop-cons ways at way lt ∙ ap (λ (w : List Label). w ∷ drop (suc at) ways) (sym is) in
    ap (told.places_from test at) one ∙ places-more test at way (drop (suc at) ways)
    ∙ ap (λ n. cond (test way) (at ∷ told.places_from test n (drop n ways)) (told.places_from test n (drop n ways))) up

abbrev pub IsSoFar : (test : List Label → Bool) → (ways : List (List Label)) → (at : ℕ) → (found : List ℕ) → Type 0
IsSoFar test ways at found = told.places_from test 0 ways ≡ found ++ told.places_from test at (drop at ways)

pub places-in : (test : List Label → Bool) (ways : List (List Label)) (at : ℕ) (way : List Label)
    (found more : List ℕ) → at < length ways → way ≡ get_or ways at way → test way ≡ true → more ≡ found ++ at ∷ []
    → told.places_from test 0 ways ≡ found ++ told.places_from test at (drop at ways)
    → told.places_from test 0 ways ≡ more ++ told.places_from test (at + 1) (drop (at + 1) ways)
places-in test ways at way found more lt is passes e so_far =
    let rest = told.places_from test (at + 1) (drop (at + 1) ways) in
    so_far
    ∙ ap (λ (l : List ℕ). found ++ l) (places-on test ways at way lt is ∙ ap (λ b. cond b (at ∷ rest) rest) passes)
    ∙ sym (append_assoc found (at ∷ []) rest) ∙ ap (λ (l : List ℕ). l ++ rest) (sym e)

pub places-out : (test : List Label → Bool) (ways : List (List Label)) (at : ℕ) (way : List Label) (found : List ℕ)
    → at < length ways → way ≡ get_or ways at way → test way ≡ false
    → told.places_from test 0 ways ≡ found ++ told.places_from test at (drop at ways)
    → told.places_from test 0 ways ≡ found ++ told.places_from test (at + 1) (drop (at + 1) ways)
places-out test ways at way found lt is passes so_far =
    let rest = told.places_from test (at + 1) (drop (at + 1) ways) in
    so_far
    ∙ ap (λ (l : List ℕ). found ++ l) (places-on test ways at way lt is ∙ ap (λ b. cond b (at ∷ rest) rest) passes)

pub places-end : (test : List Label → Bool) (ways : List (List Label)) (at : ℕ) (found : List ℕ) → length ways ≤ at
    → told.places_from test 0 ways ≡ found ++ told.places_from test at (drop at ways)
    → found ≡ told.places_from test 0 ways
places-end test ways at found past so_far =
    sym (so_far
    ∙ ap (λ (l : List (List Label)). found ++ told.places_from test at l) (drop_of_length-le ways past)
    ∙ ap (λ (l : List ℕ). found ++ l) (places-none test at) ∙ append-nil found)

any-step : (test asks : List Label → Bool) (flags : List Bool) (n : ℕ) (way : List Label) (ways : List (List Label))
    (passes set : Bool) → passes ≡ test way → get_or flags n false ≡ set
    → told.any_at flags (told.places_from test (suc n) ways) ≡ list_any test (filter asks ways)
    → told.any_at flags (cond passes (n ∷ told.places_from test (suc n) ways) (told.places_from test (suc n) ways))
    ≡ list_any test (cond set (way ∷ filter asks ways) (filter asks ways))
any-step test asks flags n way ways true true p e rest =
    ap (λ (x : Bool). x || told.any_at flags (told.places_from test (suc n) ways)) e
    ∙ sym (ap (λ (x : Bool). x || list_any test (filter asks ways)) (sym p))
any-step test asks flags n way ways true false p e rest =
    ap (λ (x : Bool). x || told.any_at flags (told.places_from test (suc n) ways)) e ∙ rest
any-step test asks flags n way ways false true p e rest =
    rest ∙ sym (ap (λ (x : Bool). x || list_any test (filter asks ways)) (sym p))
any-step test asks flags n way ways false false p e rest = rest

-- one at these places is set exactly where one of those that are set passes
any-kept : (test asks : List Label → Bool) (flags : List Bool) (n : ℕ) (ways : List (List Label))
    → ((k : ℕ) → k < length ways → get_or flags (n + k) false ≡ asks (get_or ways k []))
    → told.any_at flags (told.places_from test n ways) ≡ list_any test (filter asks ways)
any-kept test asks flags n [] are = ap (told.any_at flags) (places-none test n)
any-kept test asks flags n (way ∷ ways) are =
    let same : n ≡ n + 0 = omega arith in
    let here : get_or flags n false ≡ asks way = ap (λ k. get_or flags k false) same ∙ are 0 (omega arith) in
    let rest = any-kept test asks flags (suc n) ways
    (λ k lt. ap (λ i. get_or flags i false) (let e : suc n + k ≡ n + suc k = omega arith in e)
    ∙ are (suc k) (omega (arith, lt))) in
    ap (told.any_at flags) (places-more test n way ways)
    ∙ any-step test asks flags n way ways (test way) (asks way) refl here rest

any-of : (test asks : List Label → Bool) (flags : List Bool) (ways : List (List Label)) → flags ≡ map asks ways
    → told.any_at flags (told.places_from test 0 ways) ≡ list_any test (filter asks ways)
any-of test asks flags ways are =
    any-kept test asks flags 0 ways (λ k lt. ap (λ i. get_or flags i false) (let e : 0 + k ≡ k = omega arith in e)
    ∙ ap (λ (l : List Bool). get_or l k false) are ∙ get_or-map asks ways k [] false lt)

-- ---- the facts of a row

-- an item, as it is read
pub read-at : {A : Type 0} (xs : List A) (i : ℕ) (x d : A) → i < length xs → x ≡ get_or xs i x → x ≡ get_or xs i d
read-at xs i x d lt is =
    sym (get_or_from_slice_get xs i x d (slice_get_read xs (length xs) i x refl lt is))

pub facts-same : (h i r q s u : Bool) → h ≡ i → r ≡ q → s ≡ u
    → (let one : Facts = record { here = h; ready = r; served = s } in one)
    ≡ (let one : Facts = record { here = i; ready = q; served = u } in one)
facts-same h i r q s u e f g =
    let make : Bool → Bool → Bool → Facts = (λ a b c. record { here = a; ready = b; served = c }) in
    ap (λ a. make a r s) e ∙ ap (λ b. make i b s) f ∙ ap (λ c. make i q c) g

facts-at : (rows ways : List (List Label)) (p : Present) (asks : List Label → Bool) (flags through : List Bool)
    (given : Option (List Label)) (i : ℕ) → p.here.items ≡ map (told.is_here ways) rows
    → p.below.items ≡ map (told.below_of ways) rows → flags ≡ map asks ways
    → through ≡ map (λ row. is_through row given) rows → i < length rows
    → told.facts_at p flags through i ≡ facts_of ways (filter asks ways) given (get_or rows i [])
facts-at rows ways p asks flags through given i here below set goes lt =
    facts-same _ _ _ _ _ _
    (ap (λ (l : List Bool). get_or l i false) here ∙ get_or-map (told.is_here ways) rows i [] false lt)
    (ap (λ (l : List (List ℕ)). told.any_at flags (get_or l i [])) below
    ∙ ap (told.any_at flags) (get_or-map (told.below_of ways) rows i [] [] lt)
    ∙ any-of (begins (get_or rows i [])) asks flags ways set)
    (ap (λ (l : List Bool). get_or l i false) goes
    ∙ get_or-map (λ row. is_through row given) rows i [] false lt)

pub facts-of-rows : (rows ways : List (List Label)) (p : Present) (asks : List Label → Bool)
    (flags through : List Bool) (given : Option (List Label)) → p.here.items ≡ map (told.is_here ways) rows
    → p.below.items ≡ map (told.below_of ways) rows → flags ≡ map asks ways
    → through ≡ map (λ row. is_through row given) rows
    → map (told.facts_at p flags through) (range_with_len 0 (length p.below.items))
    ≡ map (facts_of ways (filter asks ways) given) rows
facts-of-rows rows ways p asks flags through given here below set goes =
    let at = told.facts_at p flags through in
    let of = facts_of ways (filter asks ways) given in
    let all : length p.below.items ≡ length rows =
    ap (λ (l : List (List ℕ)). length l) below ∙ length-map rows (told.below_of ways) in
    let long = length-map-range_with_len at 0 (length p.below.items) in
    same_lists (map at (range_with_len 0 (length p.below.items))) (map of rows)
    (long ∙ all ∙ sym (length-map rows of))
    (λ i d lt. let within : i < length p.below.items = omega (arith, lt, long) in
    let there : i < length rows = omega (arith, within, all) in
    get_or-map-range_with_len at 0 (length p.below.items) i i d within (omega arith)
    ∙ facts-at rows ways p asks flags through given i here below set goes there
    ∙ sym (get_or-map of rows i [] d there))

-- ---- for how long ways ask

pub unknown-asking : (c : Content) (ways : List (List Label)) (all : List Asking) (none : Asking)
    → all ≡ map (λ (way : List Label). told.unknown) ways → told.AreAsking c ways all none
unknown-asking c ways all none are = subst (λ (l : List Asking). told.AreAsking c ways l none) (sym are) (record {
  long = length-map ways (λ (way : List Label). told.unknown);
  each = λ k lt.
      subst (λ (a : Asking). told.IsAsking c (get_or ways k []) a)
      (sym (get_or-map (λ (way : List Label). told.unknown) ways k [] none lt))
      (record { asks = λ t after before. absurd (omega (arith, before)) });
})

pub asking-set : (c : Content) (ways : List (List Label)) (all : List Asking) (none a : Asking) (place : ℕ)
    → told.AreAsking c ways all none → told.IsAsking c (get_or ways place []) a
    → told.AreAsking c ways (set all place a) none
asking-set c ways all none a place are is =
    record {
      long = length-set all place a ∙ are.long;
      each = λ k lt. elim (cases_eq k place) [
        | inl same ↦
            let long = are.long in
            let there : place < length all = omega (arith, same, lt, long) in
            subst (λ (b : Asking). told.IsAsking c (get_or ways k []) b)
            (sym (get_or-set_at all place k a none same there))
            (subst (λ n. told.IsAsking c (get_or ways n []) a) (sym same) is)
        | inr other ↦
            subst (λ (b : Asking). told.IsAsking c (get_or ways k []) b)
            (sym (get_or-set_other all place k a none other)) (are.each k lt)
      ];
    }
