-- Names that are known, each once, and their places.
use Rattle.std.proofs.Common.{◌≡◌, ℕ, suc, ◌+◌, ◌<◌, ◌≤◌, Bool, true, false, cond, List, []}
use Rattle.std.proofs.Common.{◌∷◌, ◌++◌, length, get_or, refl, sym, ap, ◌∙◌, arith, append_assoc}
use Rattle.std.specs.Prelude.{◌||◌, not, map, Some, slice_get}
use Rattle.std.specs.List.{AllByRecursion, list_any, position_or_len}
use Rattle.std.specs.Str.{bytes_eq}
use Rattle.std.proofs.lemmas.List.{append-nil, length-append, get_or_append_left}
use Rattle.std.proofs.lemmas.Option.{get_or_from_slice_get}
use Rattle.std.proofs.lemmas.Slice.Eq.{bytes_eq-Decides}
use Rattle.hls_text.specs.Lines.{Text}
use Rattle.hls_chron.specs.Name.{IsName}
use Rattle.hls_report_text.specs.WellFormed.{with_name, with_names}

-- ---- equality

pub equal-same : (a b : Text) → bytes_eq a b ≡ true → a ≡ b
equal-same a b = (bytes_eq-Decides a b).0

pub equal-self : (a : Text) → bytes_eq a a ≡ true
equal-self a = (bytes_eq-Decides a a).1 refl

pub place_is : (name : Text) (known : List Text) (place : ℕ)
    → (k : Text) × (slice_get known place ≡ Some k) × (bytes_eq name k ≡ true)
    → get_or known place [] ≡ name
place_is name known place h = get_or_from_slice_get known place h.0 [] h.1 ∙ sym (equal-same name h.0 h.2)

-- ---- further names

-- the same names, and others behind them
abbrev pub Grows : (known more : List Text) → Type 0
Grows known more = (added : List Text) × (more ≡ known ++ added)

pub grows_none : (known : List Text) → Grows known known
grows_none known = ([], sym (append-nil known))

pub grows_on : (a b c : List Text) → Grows a b → Grows b c → Grows a c
grows_on a b c g h =
    (g.0 ++ h.0, h.1 ∙ ap (λ (ns : List Text). ns ++ h.0) g.1 ∙ append_assoc a g.0 h.0)

pub name_grows : (known : List Text) (name : Text) → Grows known (with_name known name)
name_grows known name = by_test (list_any (bytes_eq name) known)
  where
    by_test : (b : Bool) → Grows known (cond b known (known ++ name ∷ []))
    by_test true = grows_none known
    by_test false = (name ∷ [], refl)

pub names_grow : (known names : List Text) → Grows known (with_names known names)
names_grow known [] = grows_none known
names_grow known (name ∷ names) =
    grows_on known (with_name known name) (with_names (with_name known name) names) (name_grows known name)
    (names_grow (with_name known name) names)

pub grown_length : (known more : List Text) → Grows known more → length known ≤ length more
grown_length known more g =
    let e : length more ≡ length known + length g.0 = ap (λ (ns : List Text). length ns) g.1
    ∙ length-append known g.0 in omega arith

-- places stay
pub grown_place : (known more : List Text) (place : ℕ) → Grows known more → place < length known
    → get_or more place [] ≡ get_or known place []
grown_place known more place g lt =
    ap (λ (ns : List Text). get_or ns place []) g.1 ∙ get_or_append_left known g.0 [] place lt

abbrev pub named_at : List Text → List ℕ → List Text
named_at known places = map (λ place. get_or known place []) places

abbrev pub AreIn : List Text → List ℕ → Type 0
AreIn known places = AllByRecursion (λ place. place < length known) places

pub grown_in : (known more : List Text) (places : List ℕ) → Grows known more → AreIn known places
    → AreIn more places
grown_in known more [] g are = tt
grown_in known more (place ∷ places) g are =
    let le = grown_length known more g in
    let lt : place < length known = are.0 in (omega arith, grown_in known more places g are.1)

pub grown_names : (known more : List Text) (places : List ℕ) → Grows known more → AreIn known places
    → named_at more places ≡ named_at known places
grown_names known more [] g are = refl
grown_names known more (place ∷ places) g are =
    ap (λ (n : Text). n ∷ named_at more places) (grown_place known more place g are.0)
    ∙ ap (λ (ns : List Text). get_or known place [] ∷ ns) (grown_names known more places g are.1)

-- ---- names that are known are names

named_more : (known : List Text) (name : Text) → AllByRecursion IsName known → IsName name
    → AllByRecursion IsName (known ++ name ∷ [])
named_more [] name are is = (is, tt)
named_more (k ∷ known) name are is = (are.0, named_more known name are.1 is)

pub name_named : (known : List Text) (name : Text) → AllByRecursion IsName known → IsName name
    → AllByRecursion IsName (with_name known name)
name_named known name are is = by_test (list_any (bytes_eq name) known)
  where
    by_test : (b : Bool) → AllByRecursion IsName (cond b known (known ++ name ∷ []))
    by_test true = are
    by_test false = named_more known name are is

pub names_named : (known names : List Text) → AllByRecursion IsName known → AllByRecursion IsName names
    → AllByRecursion IsName (with_names known names)
names_named known [] are is = are
names_named known (name ∷ names) are is =
    names_named (with_name known name) names (name_named known name are is.0) is.1

-- ---- the place of a name

abbrev pub place_of : List Text → Text → ℕ
place_of known name = position_or_len (bytes_eq name) known

pub found_place : (known : List Text) (name : Text) → list_any (bytes_eq name) known ≡ true
    → get_or known (place_of known name) [] ≡ name
found_place [] name e = absurd cc
found_place (k ∷ known) name e = by_test (bytes_eq name k) refl (found_place known name) e
  where
    by_test : (b : Bool) → bytes_eq name k ≡ b
        → (list_any (bytes_eq name) known ≡ true → get_or known (place_of known name) [] ≡ name)
        → (b || list_any (bytes_eq name) known) ≡ true
        → get_or (k ∷ known) (cond (not b) (1 + place_of known name) 0) [] ≡ name
    by_test true same more f = sym ((bytes_eq-Decides name k).0 same)
    by_test false other more f =
        let next : 1 + place_of known name ≡ suc (place_of known name) = omega arith in
        ap (λ (n : ℕ). get_or (k ∷ known) n []) next ∙ more f

any_append : (name : Text) (known added : List Text) → list_any (bytes_eq name) known ≡ true
    → list_any (bytes_eq name) (known ++ added) ≡ true
any_append name [] added e = absurd cc
any_append name (k ∷ known) added e = by_test (bytes_eq name k) (any_append name known added) e
  where
    by_test : (b : Bool)
        → (list_any (bytes_eq name) known ≡ true → list_any (bytes_eq name) (known ++ added) ≡ true)
        → (b || list_any (bytes_eq name) known) ≡ true
        → (b || list_any (bytes_eq name) (known ++ added)) ≡ true
    by_test true more f = refl
    by_test false more f = more f

pub grown_any : (known more : List Text) (name : Text) → Grows known more
    → list_any (bytes_eq name) known ≡ true → list_any (bytes_eq name) more ≡ true
grown_any known more name g e = ap (list_any (bytes_eq name)) g.1 ∙ any_append name known g.0 e

any_last : (known : List Text) (name : Text) → list_any (bytes_eq name) (known ++ name ∷ []) ≡ true
any_last [] name = rw ((bytes_eq-Decides name name).1 refl) refl
any_last (k ∷ known) name = by_test (bytes_eq name k) (any_last known name)
  where
    by_test : (b : Bool) → list_any (bytes_eq name) (known ++ name ∷ []) ≡ true
        → (b || list_any (bytes_eq name) (known ++ name ∷ [])) ≡ true
    by_test true more = refl
    by_test false more = more

pub any_known : (known : List Text) (name : Text) → list_any (bytes_eq name) (with_name known name) ≡ true
any_known known name = by_test (list_any (bytes_eq name) known) refl
  where
    by_test : (b : Bool) → list_any (bytes_eq name) known ≡ b
        → list_any (bytes_eq name) (cond b known (known ++ name ∷ [])) ≡ true
    by_test true e = e
    by_test false e = any_last known name

abbrev pub AreKnownIn : List Text → List Text → Type 0
AreKnownIn known names = AllByRecursion (λ name. list_any (bytes_eq name) known ≡ true) names

pub all_known : (known names : List Text) → AreKnownIn (with_names known names) names
all_known known [] = tt
all_known known (name ∷ names) = (
  grown_any (with_name known name) (with_names (with_name known name) names) name
      (names_grow (with_name known name) names) (any_known known name),
  all_known (with_name known name) names,
)

pub grown_known : (known more names : List Text) → Grows known more → AreKnownIn known names
    → AreKnownIn more names
grown_known known more [] g are = tt
grown_known known more (name ∷ names) g are =
    (grown_any known more name g are.0, grown_known known more names g are.1)

pub found_places : (known names : List Text) → AreKnownIn known names
    → named_at known (map (place_of known) names) ≡ names
found_places known [] are = refl
found_places known (name ∷ names) are =
    ap (λ (n : Text). n ∷ named_at known (map (place_of known) names)) (found_place known name are.0)
    ∙ ap (λ (ns : List Text). name ∷ ns) (found_places known names are.1)
