-- Names that are the first of others.
use Rattle.std.proofs.Common.{◌≡◌, ◌∙◌, List, [], ◌∷◌, ◌++◌, true, false, refl, ap, sym}
use Rattle.std.specs.Prelude.{Bool, ◌&&◌}
use Rattle.std.specs.Str.{bytes_eq}
use Rattle.std.proofs.lemmas.Slice.Eq.{bytes_eq-Decides}
use Rattle.hls_text.specs.Lines.{Text}
use Rattle.hls_view_tracks.specs.Flame.{begins}

same_name : (name : Text) → bytes_eq name name ≡ true
same_name name = (bytes_eq-Decides name name).1 refl

pub equal_names : (name other : Text) → bytes_eq name other ≡ true → name ≡ other
equal_names name other same = (bytes_eq-Decides name other).0 same

pub begins_front : (names more : List Text) → begins names (names ++ more) ≡ true
begins_front [] more = refl
begins_front (name ∷ names) more =
    ap (λ b. b && begins names (names ++ more)) (same_name name) ∙ begins_front names more

pub begins_less : (names more path : List Text) → begins names path ≡ false → begins (names ++ more) path ≡ false
begins_less [] more path off = absurd (cc)
begins_less (name ∷ names) more [] off = refl
begins_less (name ∷ names) more (other ∷ path) off =
    by (bytes_eq name other) refl (begins_less names more path)
  where
    by : (b : Bool) → bytes_eq name other ≡ b
        → (begins names path ≡ false → begins (names ++ more) path ≡ false)
        → (bytes_eq name other && begins (names ++ more) path) ≡ false
    by true is less =
        let here : begins names path ≡ false = ap (λ b. b && begins names path) (sym is) ∙ off in
        ap (λ b. b && begins (names ++ more) path) is ∙ less here
    by false is less = ap (λ b. b && begins (names ++ more) path) is

pub too_long : (above more : List Text) (name : Text) → begins (above ++ name ∷ more) above ≡ false
too_long [] more name = refl
too_long (first ∷ above) more name =
    ap (λ b. b && begins (above ++ name ∷ more) above) (same_name first) ∙ too_long above more name

pub begins_at : (above path : List Text) (name other : Text)
    → begins (above ++ name ∷ []) (above ++ other ∷ path) ≡ bytes_eq name other
begins_at [] path name other = and_true (bytes_eq name other)
  where
    and_true : (b : Bool) → (b && true) ≡ b
    and_true true = refl
    and_true false = refl
begins_at (first ∷ above) path name other =
    ap (λ b. b && begins (above ++ name ∷ []) (above ++ other ∷ path)) (same_name first)
    ∙ begins_at above path name other

-- ---- names that begin others

both : (a b : Bool) → (a && b) ≡ true → (a ≡ true) × (b ≡ true)
both true b e = (refl, e)
both false b e = absurd (cc)

pub begins_all : (a b c : List Text) → begins a b ≡ true → begins b c ≡ true → begins a c ≡ true
begins_all [] b c first next = refl
begins_all (x ∷ a) [] c first next = absurd (cc)
begins_all (x ∷ a) (y ∷ b) [] first next = absurd (cc)
begins_all (x ∷ a) (y ∷ b) (z ∷ c) first next =
    let one = both (bytes_eq x y) (begins a b) first in
    let two = both (bytes_eq y z) (begins b c) next in
    let e : x ≡ z = equal_names x y one.0 ∙ equal_names y z two.0 in
    ap (λ w. w && begins a c) ((bytes_eq-Decides x z).1 e) ∙ begins_all a b c one.1 two.1

pub begins_more : (a b more : List Text) → begins a b ≡ true → begins a (b ++ more) ≡ true
begins_more a b more is = begins_all a b (b ++ more) is (begins_front b more)

-- of two beginnings of a path the one that does not begin the other is the longer
pub longer : (a b path : List Text) → begins a path ≡ true → begins b path ≡ true → begins b a ≡ false
    → begins a b ≡ true
longer [] b path of_a of_b off = refl
longer (x ∷ a) [] path of_a of_b off = absurd (cc)
longer (x ∷ a) (y ∷ b) [] of_a of_b off = absurd (cc)
longer (x ∷ a) (y ∷ b) (z ∷ path) of_a of_b off =
    let one = both (bytes_eq x z) (begins a path) of_a in
    let two = both (bytes_eq y z) (begins b path) of_b in
    let e : x ≡ y = equal_names x z one.0 ∙ sym (equal_names y z two.0) in
    let less : begins b a ≡ false = sym (ap (λ w. w && begins b a) ((bytes_eq-Decides y x).1 (sym e))) ∙ off in
    ap (λ w. w && begins a b) ((bytes_eq-Decides x y).1 e) ∙ longer a b path one.1 two.1 less
