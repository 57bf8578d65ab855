-- The path of a route, node by node.
use Rattle.std.proofs.Common.{◌≡◌, ◌≢◌, ℕ, inl, inr, ◌⊎◌, ◌+◌, ◌<◌, ◌≤◌, List, [], ◌∷◌, ◌++◌, length, take}
use Rattle.std.proofs.Common.{get_or, map}
use Rattle.std.proofs.Common.{sym, ap, ◌∙◌, subst, arith, true}
use Rattle.std.specs.Prelude.{Option, Some, None}
use Rattle.std.proofs.lemmas.List.{map-append, length-map, take_more, take_all}
use Rattle.hls_text.specs.Lines.{Text}
use Rattle.hls_report_text.specs.declared.report.Path.{Path}
use Rattle.hls_report_text.specs.Content.{path_names}
use Rattle.hls_machine.specs.Hierarchy.{Hierarchy, name_of}
use Rattle.hls_core_journal.specs.declared.journal.Journal.{Journal}
use Rattle.hls_core_journal.specs.Kept.{AreWithin, has_name}
use Rattle.hls_core_journal.proofs.Lists.{HasLast, last_or_none}
use Rattle.hls_core.specs.Inside.Ways.{IsKnown, IsRoute, IsRouteOrIdle, HasNames, TellsRoute}

abbrev pub names_in : Hierarchy → List ℕ → List (Option Text)
names_in h ids = map (λ k. name_of (h.nodes k)) ids

-- the names of the first nodes were put on the path
pub record SoFar (h : Hierarchy) (j : Journal) (ids : List ℕ) (i : ℕ) (path : Path) : Type 0 where
  pub len : path.len ≡ i
  pub within : AreWithin (length j.names.keys) (Some path)
  pub names : names_in h (take i ids) ≡ map Some (path_names j.names.keys path)

pub is_there : (h : Hierarchy) (j : Journal) (k : ℕ) → IsKnown h j k → h.nodes k ≢ None
is_there h j k is none = (let has = is.has in let nothing = ap name_of none in cc)

pub is_noted : (h : Hierarchy) (j : Journal) (k : ℕ) (name : Text) → IsKnown h j k → name_of (h.nodes k) ≡ Some name
    → has_name j name ≡ true
is_noted h j k name is has =
    let other = is.has in
    let same : is.name ≡ name = cc in subst (λ n. has_name j n ≡ true) same is.known

pub one_more : (h : Hierarchy) (j : Journal) (ids : List ℕ) (i id : ℕ) (path longer : Path) (name : Text)
    → SoFar h j ids i path → i < length ids → id ≡ get_or ids i id → name_of (h.nodes id) ≡ Some name
    → longer.len ≡ path.len + 1
    → path_names j.names.keys longer ≡ path_names j.names.keys path ++ name ∷ []
    → (AreWithin (length j.names.keys) (Some path) → AreWithin (length j.names.keys) (Some longer))
    → SoFar h j ids (i + 1) longer
one_more h j ids i id path longer name so lt at has len names within = record {
  len = let before = so.len in omega (arith, len, before);
  within = within so.within;
  names =
      ap (names_in h) (take_more ids i id lt ∙ ap (λ (k : ℕ). take i ids ++ k ∷ []) (sym at))
      ∙ map-append (λ k. name_of (h.nodes k)) (take i ids) (id ∷ [])
      ∙ ap (λ (ns : List (Option Text)). ns ++ name_of (h.nodes id) ∷ []) so.names
      ∙ ap (λ (n : Option Text). map Some (path_names j.names.keys path) ++ n ∷ []) has
      ∙ sym (map-append (λ (n : Text). Some n) (path_names j.names.keys path) (name ∷ []))
      ∙ ap (map (λ (n : Text). Some n)) (sym names);
}

pub all_named : (h w : Hierarchy) (j : Journal) (ids : List ℕ) (i : ℕ) (path : Path) → SoFar h j ids i path
    → IsRoute w j ids → length ids ≤ 9 → length ids ≤ i → i ≤ length ids → HasNames h j ids path
all_named h w j ids i path so is few le ge =
    let all : names_in h ids ≡ map Some (path_names j.names.keys path) =
    ap (names_in h) (sym (take_all i ids le)) ∙ so.names in
    let count = ap (λ (ns : List (Option Text)). length ns) all in
    let one = length-map ids (λ k. name_of (h.nodes k)) in
    let two = length-map (path_names j.names.keys path) (λ (n : Text). Some n) in
    let three = length-map (take path.len path.names) (λ place. get_or j.names.keys place []) in
    let len = so.len in
    let some = is.some in
    record {
      way = record {
        short = omega (arith, len, ge, few);
        some = omega (arith, count, one, two, three, some);
        within = so.within;
      };
      names = all;
    }

pub idle : (w h : Hierarchy) (j : Journal) (route : Option (List ℕ)) (thread : Option ℕ) → IsRouteOrIdle w j route
    → ((front : List ℕ) (last : ℕ) → route ≡ Some (front ++ last ∷ []) → thread ≡ Some last) → thread ≡ None
    → TellsRoute h j route None
idle w h j None thread is some none = tt
idle w h j (Some route) thread is some none = absurd (by (last_or_none route))
  where
    by : (route ≡ []) ⊎ HasLast route → ⊥
    by (inl e) =
        let count = ap (λ (ks : List ℕ). length ks) e in let more = is.some in omega (arith, count, more)
    by (inr l) =
        let last = some l.front l.last (ap (λ (ks : List ℕ). Some ks) l.is) in cc

pub tells : (h : Hierarchy) (j : Journal) (route : Option (List ℕ)) (ids : List ℕ) (path : Path) → route ≡ Some ids
    → HasNames h j ids path → TellsRoute h j route (Some path)
tells h j route ids path e has = subst (λ r. TellsRoute h j r (Some path)) (sym e) has

pub route_is : (h : Hierarchy) (j : Journal) (route : Option (List ℕ)) (ids : List ℕ) → route ≡ Some ids
    → IsRouteOrIdle h j route → IsRoute h j ids
route_is h j route ids e is = subst (IsRouteOrIdle h j) e is
