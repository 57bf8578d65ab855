-- The names of a path that are not passed over, where a test on the names down to each tells which are.
use Rattle.std.proofs.Common.{◌≡◌, ◌∙◌, List, [], ◌∷◌, ◌++◌, true, false, refl, ap, sym, append_assoc, subst}
use Rattle.std.specs.Prelude.{Bool, cond, not, ◌&&◌, ◌||◌}
use Rattle.std.specs.Str.{bytes_eq}
use Rattle.hls_text.specs.Lines.{Text}
use Rattle.hls_view_tracks.specs.Flame.{begins}
use Rattle.hls_view_trace_laws.proofs.Prefixes.{equal_names, begins_front, begins_less, too_long, begins_at}

abbrev pub Test : Type 0
Test = List Text → Bool

abbrev pub fresh : (skip : Test) → (above below : List Text) → List Text
fresh skip above [] = []
fresh skip above (name ∷ below) =
    cond (skip (above ++ name ∷ [])) [] (name ∷ []) ++ fresh skip (above ++ name ∷ []) below

one : (name : Text) (a b : Bool) → a ≡ b → cond {A = List Text} a [] (name ∷ []) ≡ cond b [] (name ∷ [])
one name a b is = ap (λ c. cond {A = List Text} c [] (name ∷ [])) is

pub fresh_same : (skip other : Test) (path above below : List Text) → path ≡ above ++ below
    → ((names : List Text) → begins names path ≡ true → skip names ≡ other names)
    → fresh skip above below ≡ fresh other above below
fresh_same skip other path above [] are same = refl
fresh_same skip other path above (name ∷ below) are same =
    let down = above ++ name ∷ [] in
    let all : path ≡ down ++ below = are ∙ sym (append_assoc above (name ∷ []) below) in
    let first : begins down path ≡ true = ap (begins down) all ∙ begins_front down below in
    ap (λ (l : List Text). l ++ fresh skip down below) (one name (skip down) (other down) (same down first))
    ∙ ap (λ (l : List Text). cond (other down) [] (name ∷ []) ++ l) (fresh_same skip other path down below all same)

pub fresh_none : (skip : Test) (above below : List Text) → ((names : List Text) → skip names ≡ true)
    → fresh skip above below ≡ []
fresh_none skip above [] all = refl
fresh_none skip above (name ∷ below) all =
    ap (λ (l : List Text). l ++ fresh skip (above ++ name ∷ []) below)
    (one name (skip (above ++ name ∷ [])) true (all (above ++ name ∷ [])))
    ∙ fresh_none skip (above ++ name ∷ []) below all

pub fresh_all : (skip : Test) (above below : List Text)
    → ((front : List Text) (name : Text) → skip (front ++ name ∷ []) ≡ false) → fresh skip above below ≡ below
fresh_all skip above [] none = refl
fresh_all skip above (name ∷ below) none =
    ap (λ (l : List Text). l ++ fresh skip (above ++ name ∷ []) below)
    (one name (skip (above ++ name ∷ [])) false (none above name))
    ∙ ap (λ (l : List Text). name ∷ l) (fresh_all skip (above ++ name ∷ []) below none)

append_nothing : (names : List Text) → names ++ [] ≡ names
append_nothing [] = refl
append_nothing (name ∷ names) = ap (λ (l : List Text). name ∷ l) (append_nothing names)

-- ---- where the paths of two neighbours part

abbrev IsDown : Test → Type 0
IsDown test = (names more : List Text) → test names ≡ false → test (names ++ more) ≡ false

or_on : (a : Bool) → (a || true) ≡ true
or_on true = refl
or_on false = refl

and_off : (a : Bool) → (a && false) ≡ false
and_off true = refl
and_off false = refl

dead : (old goes : Test) (above below : List Text) → IsDown goes → goes above ≡ false
    → fresh (λ names. old names || not (goes names)) above below ≡ []
dead old goes above [] down off = refl
dead old goes above (name ∷ below) down off =
    let next = above ++ name ∷ [] in
    let no : goes next ≡ false = down above (name ∷ []) off in
    let skips : (old next || not (goes next)) ≡ true = ap (λ b. old next || not b) no ∙ or_on (old next) in
    ap (λ (l : List Text). l ++ fresh (λ names. old names || not (goes names)) next below)
    (one name (old next || not (goes next)) true skips)
    ∙ dead old goes next below down no

kept : (old goes : Test) (above below : List Text) → IsDown goes → goes above ≡ false
    → fresh goes above below ≡ fresh (λ names. old names && goes names) above below
kept old goes above [] down off = refl
kept old goes above (name ∷ below) down off =
    let next = above ++ name ∷ [] in
    let no : goes next ≡ false = down above (name ∷ []) off in
    let both : (old next && goes next) ≡ false = ap (λ b. old next && b) no ∙ and_off (old next) in
    ap (λ (l : List Text). l ++ fresh goes next below) (one name (goes next) (old next && goes next) (no ∙ sym both))
    ∙ ap (λ (l : List Text). cond (old next && goes next) [] (name ∷ []) ++ l) (kept old goes next below down no)

and_down : (path : List Text) (goes : Test) → IsDown goes → IsDown (λ names. begins names path && goes names)
and_down path goes down names more off = by (begins names path) refl
  where
    by : (b : Bool) → begins names path ≡ b → (begins (names ++ more) path && goes (names ++ more)) ≡ false
    by true is =
        let no : goes names ≡ false = ap (λ b. b && goes names) (sym is) ∙ off in
        ap (λ b. begins (names ++ more) path && b) (down names more no) ∙ and_off (begins (names ++ more) path)
    by false is = ap (λ b. b && goes (names ++ more)) (begins_less names more path is)

-- one name more, at which the next path goes on as the first or not
module _ (old goes : Test) (down : IsDown goes) where
  abbrev ends : Test
  ends names = old names || not (goes names)

  abbrev stays : (path : List Text) → Test
  stays path names = begins names path && goes names

  abbrev both : (path : List Text) → Test
  both path names = old names && (begins names path && goes names)

  parted : (path above below : List Text) (name : Text) → stays path (above ++ name ∷ []) ≡ false
      → fresh (stays path) above (name ∷ below) ≡ fresh (both path) above (name ∷ below)
  parted path above below name off =
      let next = above ++ name ∷ [] in
      let no : both path next ≡ false = ap (λ b. old next && b) off ∙ and_off (old next) in
      ap (λ (l : List Text). l ++ fresh (stays path) next below)
      (one name (stays path next) (both path next) (off ∙ sym no))
      ∙ ap (λ (l : List Text). cond (both path next) [] (name ∷ []) ++ l)
      (kept old (stays path) next below (and_down path goes down) off)

  ended : (above below : List Text) (name : Text) → goes (above ++ name ∷ []) ≡ false
      → fresh ends above (name ∷ below) ≡ []
  ended above below name off =
      let next = above ++ name ∷ [] in
      let skips : ends next ≡ true = ap (λ b. old next || not b) off ∙ or_on (old next) in
      ap (λ (l : List Text). l ++ fresh ends next below) (one name (ends next) true skips)
      ∙ dead old goes next below down off

  joined : (path above p q : List Text) (name : Text) → begins (above ++ name ∷ []) path ≡ true
      → goes (above ++ name ∷ []) ≡ true
      → fresh ends (above ++ name ∷ []) p ++ fresh (stays path) (above ++ name ∷ []) q
      ≡ fresh (both path) (above ++ name ∷ []) q
      → fresh ends above (name ∷ p) ++ fresh (stays path) above (name ∷ q) ≡ fresh (both path) above (name ∷ q)
  joined path above p q name begun on rest =
      let next = above ++ name ∷ [] in
      let stay : stays path next ≡ true = ap (λ b. b && goes next) begun ∙ on in
      let left : fresh (stays path) above (name ∷ q) ≡ fresh (stays path) next q =
      ap (λ (l : List Text). l ++ fresh (stays path) next q) (one name (stays path next) true stay) in
      ap (λ (l : List Text). fresh ends above (name ∷ p) ++ l) left ∙ by (old next) refl stay
    where
      by : (b : Bool) → old (above ++ name ∷ []) ≡ b → stays path (above ++ name ∷ []) ≡ true
          → fresh ends above (name ∷ p) ++ fresh (stays path) (above ++ name ∷ []) q
          ≡ fresh (both path) above (name ∷ q)
      by true is stay =
          let next = above ++ name ∷ [] in
          let skips : ends next ≡ true = ap (λ b. b || not (goes next)) is in
          let skipped : both path next ≡ true = ap (λ b. b && stays path next) is ∙ stay in
          ap (λ (l : List Text). (l ++ fresh ends next p) ++ fresh (stays path) next q)
          (one name (ends next) true skips)
          ∙ rest
          ∙ ap (λ (l : List Text). l ++ fresh (both path) next q) (one name true (both path next) (sym skipped))
      by false is stay =
          let next = above ++ name ∷ [] in
          let here : ends next ≡ false = ap (λ b. b || not (goes next)) is ∙ ap not on in
          let also : both path next ≡ false = ap (λ b. b && stays path next) is in
          ap (λ (l : List Text). (l ++ fresh ends next p) ++ fresh (stays path) next q)
          (one name (ends next) false here)
          ∙ ap (λ (l : List Text). name ∷ l) rest
          ∙ ap (λ (l : List Text). l ++ fresh (both path) next q) (one name false (both path next) (sym also))

  pub merge : (path next above p q : List Text) → path ≡ above ++ p → next ≡ above ++ q
      → ((names : List Text) → goes names ≡ true → begins names next ≡ true)
      → fresh ends above p ++ fresh (stays path) above q ≡ fresh (both path) above q
  merge path next above [] [] is are sound = refl
  merge path next above [] (y ∷ q) is are sound =
      let empty : path ≡ above = is ∙ append_nothing above in
      let off : begins (above ++ y ∷ []) path ≡ false = ap (begins (above ++ y ∷ [])) empty ∙ too_long above [] y in
      parted path above q y (ap (λ b. b && goes (above ++ y ∷ [])) off)
  merge path next above (x ∷ p) [] is are sound = by (goes (above ++ x ∷ [])) refl
    where
      by : (b : Bool) → goes (above ++ x ∷ []) ≡ b → fresh ends above (x ∷ p) ++ [] ≡ []
      by true on =
          let empty : next ≡ above = are ∙ append_nothing above in
          let wrong : true ≡ false = sym (sound (above ++ x ∷ []) on) ∙ ap (begins (above ++ x ∷ [])) empty
          ∙ too_long above [] x in
          absurd (cc)
      by false off = ap (λ (l : List Text). l ++ []) (ended above p x off)
  merge path next above (x ∷ p) (y ∷ q) is are sound =
      by (goes (above ++ x ∷ [])) refl
      (λ first other. merge path next (above ++ x ∷ []) p q first other sound)
    where
      off_it : (b : Bool) → goes (above ++ x ∷ []) ≡ false → bytes_eq y x ≡ b → stays path (above ++ y ∷ []) ≡ false
      off_it true off same =
          let e : x ≡ y = sym (equal_names y x same) in
          let no : goes (above ++ y ∷ []) ≡ false = ap (λ (z : Text). goes (above ++ z ∷ [])) (sym e) ∙ off in
          ap (λ b. begins (above ++ y ∷ []) path && b) no ∙ and_off (begins (above ++ y ∷ []) path)
      off_it false off same =
          ap (λ b. b && goes (above ++ y ∷ [])) (ap (begins (above ++ y ∷ [])) is ∙ begins_at above p y x ∙ same)

      by : (b : Bool) → goes (above ++ x ∷ []) ≡ b
          → (path ≡ (above ++ x ∷ []) ++ p → next ≡ (above ++ x ∷ []) ++ q
          → fresh ends (above ++ x ∷ []) p ++ fresh (stays path) (above ++ x ∷ []) q
          ≡ fresh (both path) (above ++ x ∷ []) q)
          → fresh ends above (x ∷ p) ++ fresh (stays path) above (y ∷ q) ≡ fresh (both path) above (y ∷ q)
      by true on rest =
          let down_to = above ++ x ∷ [] in
          let found : begins down_to next ≡ true = sound down_to on in
          let same : bytes_eq x y ≡ true = sym (ap (begins down_to) are ∙ begins_at above q x y) ∙ found in
          let e : x ≡ y = equal_names x y same in
          let first : path ≡ down_to ++ p = is ∙ sym (append_assoc above (x ∷ []) p) in
          let other : next ≡ down_to ++ q =
          are ∙ ap (λ (z : Text). above ++ z ∷ q) (sym e) ∙ sym (append_assoc above (x ∷ []) q) in
          let begun : begins down_to path ≡ true = ap (begins down_to) first ∙ begins_front down_to p in
          subst (λ (z : Text). fresh ends above (x ∷ p) ++ fresh (stays path) above (z ∷ q)
          ≡ fresh (both path) above (z ∷ q)) e
          (joined path above p q x begun on (rest first other))
      by false off rest =
          ap (λ (l : List Text). l ++ fresh (stays path) above (y ∷ q)) (ended above p x off)
          ∙ parted path above q y (off_it (bytes_eq y x) off refl)
