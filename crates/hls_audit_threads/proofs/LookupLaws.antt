-- Lists of keys, one by one.
use Rattle.std.proofs.Common.{◌≡◌, ℕ, zero, suc, ◌+◌, ◌-◌, ◌<◌, List, [], ◌∷◌, ◌++◌, length, take, get_or, refl}
use Rattle.std.proofs.Common.{sym, ap, ◌∙◌, inl, inr}
use Rattle.std.proofs.Common.{subst, arith}
use Rattle.std.specs.Prelude.{Option, Some, None, Bool, true, false, IfSome, slice_get, option_map}
use Rattle.std.proofs.lemmas.Bool.{cases_lt}
use Rattle.std.proofs.lemmas.List.{length-append, take_more}
use Rattle.std.proofs.lemmas.Option.{slice_get_within, slice_get-get_or}
use Rattle.std.specs.Str.{bytes_eq}
use Rattle.std.proofs.lemmas.List.{get_or_past}
use Rattle.std.proofs.lemmas.Slice.Eq.{bytes_eq-Decides}
use Rattle.hls_text.specs.Lines.{Text}
use Rattle.hls_report_text.specs.declared.report.Path.{Path}
use Rattle.hls_report_text.specs.declared.report.Run.{Run}
use Rattle.hls_report_text.specs.Content.{path_names, stretch_of}
use Rattle.hls_legal.specs.Schedule.{is_name}
use Rattle.hls_audit_threads.specs.Inside.Chains.{Keys}
use Rattle.hls_audit_threads.specs.Inside.Lookups.{AreKeys, Serves, ServesNamed}
use Rattle.hls_audit_threads.specs.Inside.Lines.{serves}
use Rattle.hls_audit_threads.proofs.OnPaths.{last_is}

front_get : {X : Type 0} (xs more : List X) (k : ℕ) → k < length xs → slice_get (xs ++ more) k ≡ slice_get xs k
front_get [] more k lt = absurd (omega (arith, lt))
front_get (x ∷ xs) more zero lt = refl
front_get (x ∷ xs) more (suc k) lt = front_get xs more k (omega (arith, lt))

seam_get : {X : Type 0} (xs : List X) (x : X) (k : ℕ) → k ≡ length xs → slice_get (xs ++ x ∷ []) k ≡ Some x
seam_get [] x zero e = refl
seam_get [] x (suc k) e = absurd (omega (arith, e))
seam_get (y ∷ xs) x zero e = absurd (omega (arith, e))
seam_get (y ∷ xs) x (suc k) e = seam_get xs x k (omega (arith, e))

pub keys_none : {A : Type 0} (Has Must : A → Text → Type 0) (items : List A) → AreKeys Has Must (take 0 items) []
keys_none Has Must items = record {
  long = refl;
  sound = λ k item name there has. absurd (let lt = slice_get_within [] k (Some name) has in omega (arith, lt));
  all = λ k item name there must. absurd (let lt = slice_get_within [] k item there in omega (arith, lt));
}

-- one item more at the end
snoc_keys : {A : Type 0} (Has Must : A → Text → Type 0) (items : List A) (keys : Keys) (here : A)
    (found : Option Text) → ((name : Text) → found ≡ Some name → Has here name)
    → ((name : Text) → Must here name → found ≡ Some name) → AreKeys Has Must items keys
    → AreKeys Has Must (items ++ here ∷ []) (keys ++ found ∷ [])
snoc_keys {A = A} Has Must items keys here found sound all are =
    let long = are.long in
    record {
      long =
          let one = length-append keys (found ∷ []) in
          let two = length-append items (here ∷ []) in
          omega (arith, one, two, long);
      sound = λ k item name there has. elim (cases_lt k (length items)) [
        | inl lt ↦ are.sound k item name (sym (front_get items (here ∷ []) k lt) ∙ there)
            (sym (front_get keys (found ∷ []) k (omega (arith, lt, long))) ∙ has)
        | inr le ↦
            let within = slice_get_within (items ++ here ∷ []) k item there in
            let two = length-append items (here ∷ []) in
            let at : k ≡ length items = omega (arith, le, within, two) in
            let one : Some here ≡ Some item = sym (seam_get items here k at) ∙ there in
            let same : here ≡ item = cc in
            let key : Some found ≡ Some (Some name) =
            sym (seam_get keys found k (omega (arith, at, long))) ∙ has in
            let is : found ≡ Some name = cc in
            subst (λ (x : A). Has x name) same (sound name is)
      ];
      all = λ k item name there must. elim (cases_lt k (length items)) [
        | inl lt ↦ front_get keys (found ∷ []) k (omega (arith, lt, long))
            ∙ are.all k item name (sym (front_get items (here ∷ []) k lt) ∙ there) must
        | inr le ↦
            let within = slice_get_within (items ++ here ∷ []) k item there in
            let two = length-append items (here ∷ []) in
            let at : k ≡ length items = omega (arith, le, within, two) in
            let one : Some here ≡ Some item = sym (seam_get items here k at) ∙ there in
            let same : here ≡ item = cc in
            seam_get keys found k (omega (arith, at, long))
            ∙ ap Some (all name (subst (λ (x : A). Must x name) (sym same) must))
      ];
    }

pub keys_more : {A : Type 0} (Has Must : A → Text → Type 0) (items : List A) (i : ℕ) (here d : A) (found : Option Text)
    (keys more : Keys) → i < length items → here ≡ get_or items i d
    → ((name : Text) → found ≡ Some name → Has here name) → ((name : Text) → Must here name → found ≡ Some name)
    → more ≡ keys ++ found ∷ [] → AreKeys Has Must (take i items) keys → AreKeys Has Must (take (i + 1) items) more
keys_more Has Must items i here d found keys more lt is sound all made are =
    subst (λ l. AreKeys Has Must l more)
    (ap (λ x. take i items ++ x ∷ []) is ∙ sym (take_more items i d lt))
    (subst (AreKeys Has Must (take i items ++ here ∷ [])) (sym made)
    (snoc_keys Has Must (take i items) keys here found sound all are))

pub if_some_at : {X : Type 0} (found : Option X) (P : X → Type 0) → IfSome found P → (x : X) → found ≡ Some x → P x
if_some_at None P is x e = absurd (cc)
if_some_at (Some y) P is x e = let same : y ≡ x = cc in subst P same is

-- ---- who is served in a run

is_at : (names : List Text) (name : Text) → Option ℕ → Bool
is_at names name None = false
is_at names name (Some at) = bytes_eq (get_or names at []) name

is_at_place : (names : List Text) (name : Text) (place : Option ℕ)
    → is_name name (option_map (λ (at : ℕ). get_or names at []) place) ≡ is_at names name place
unfolding is_at
is_at_place names name None = refl
is_at_place names name (Some at) = refl

serves_at : (names : List Text) (run : Run) (path : Path) (place : Option ℕ) (name : Text) → run.path ≡ Some path
    → place ≡ slice_get (take path.len path.names) (length (take path.len path.names) - 1)
    → serves name (stretch_of names run).path ≡ is_at names name place
serves_at names run path place name e is =
    ap (λ (p : Option Path). serves name (option_map (path_names names) p)) e
    ∙ ap (is_name name) (last_is names path place is) ∙ is_at_place names name place

serves_none : (names : List Text) (run : Run) (name : Text) → run.path ≡ None
    → serves name (stretch_of names run).path ≡ false
serves_none names run name e = ap (λ (p : Option Path). serves name (option_map (path_names names) p)) e

pub none_served : (names : List Text) (run : Run) → run.path ≡ None → (name : Text) → ¬ ServesNamed names run name
none_served names run e name is = let wrong : false ≡ true = sym (serves_none names run name e) ∙ is.1 in cc

pub no_last : (names : List Text) (run : Run) (path : Path) (place : Option ℕ) → run.path ≡ Some path
    → place ≡ slice_get (take path.len path.names) (length (take path.len path.names) - 1) → place ≡ None
    → (name : Text) → ¬ ServesNamed names run name
unfolding is_at
no_last names run path place e is none name has =
    let wrong : false ≡ true =
    sym (serves_at names run path place name e is ∙ ap (is_at names name) none) ∙ has.1 in cc

pub last_sound : (names : List Text) (run : Run) (path : Path) (place : Option ℕ) (at : ℕ) → run.path ≡ Some path
    → place ≡ slice_get (take path.len path.names) (length (take path.len path.names) - 1) → place ≡ Some at
    → (name : Text) → slice_get names at ≡ Some name → Serves names run name
unfolding is_at
last_sound names run path place at e is some name there =
    serves_at names run path place name e is ∙ ap (is_at names name) some
    ∙ (bytes_eq-Decides (get_or names at []) name).1 (read_at names at name there)
  where
    read_at : (l : List Text) (k : ℕ) (n : Text) → slice_get l k ≡ Some n → get_or l k [] ≡ n
    read_at l k n got =
        let lt = slice_get_within l k n got in
        let one : Some (get_or l k []) ≡ Some n = sym (slice_get-get_or l k [] lt) ∙ got in cc

pub last_all : (names : List Text) (run : Run) (path : Path) (place : Option ℕ) (at : ℕ) → run.path ≡ Some path
    → place ≡ slice_get (take path.len path.names) (length (take path.len path.names) - 1) → place ≡ Some at
    → (name : Text) → ServesNamed names run name → slice_get names at ≡ Some name
unfolding is_at
last_all names run path place at e is some name has =
    let on : bytes_eq (get_or names at []) name ≡ true =
    sym (serves_at names run path place name e is ∙ ap (is_at names name) some) ∙ has.1 in
    let same : get_or names at [] ≡ name = (bytes_eq-Decides (get_or names at []) name).0 on in
    elim (cases_lt at (length names)) [
      | inl lt ↦ slice_get-get_or names at [] lt ∙ ap Some same
      | inr le ↦ absurd (has.0 (sym same ∙ get_or_past names at [] le))
    ]

pub if_some_from : {X : Type 0} (found : Option X) (P : X → Type 0) → ((x : X) → found ≡ Some x → P x) → IfSome found P
if_some_from None P is = tt
if_some_from (Some x) P is = is x refl
