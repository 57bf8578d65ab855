-- What is carried along the ticks of a picture, step by step.
use Rattle.std.proofs.Common.{◌≡◌, ℕ, ◌+◌, ◌<◌, ◌≤◌, List, [], ◌∷◌, ◌++◌, Bool, refl, ap, sym, subst, ◌∙◌, arith}
use Rattle.std.proofs.Common.{length, map, take, get_or, set}
use Rattle.std.specs.Prelude.{Option, Some, None, find, option_and_then, option_map}
use Rattle.std.specs.List.{range_with_len}
use Rattle.std.proofs.lemmas.List.{take_more, map-append}
use Rattle.std.proofs.lemmas.Option.{slice_get_read, get_or_from_slice_get}
use Rattle.hls_text.specs.Lines.{Text}
use Rattle.hls_report_text.specs.declared.report.Path.{Path}
use Rattle.hls_report_text.specs.declared.report.Report.{Report}
use Rattle.hls_report_text.specs.Content.{content_of, path_names}
use Rattle.hls_legal.specs.Schedule.{path_at}
use Rattle.hls_view_tale.specs.declared.label.Label.{Label}
use Rattle.hls_view_tale.specs.declared.place.Place.{Place}
use Rattle.hls_view_tale.specs.declared.following.Following.{Following}
use Rattle.hls_view_tale.specs.Places.{labels_of}
use Rattle.hls_view_tale.specs.Hierarchies.{IsHierarchy}
use Rattle.hls_view_tale.specs.Following.{IsFollowing}
use Rattle.hls_view_lanes.specs.declared.asking.Asking.{Asking}
use Rattle.hls_view_lanes.specs.declared.present.Present.{Present}
use Rattle.hls_view_lanes.specs.declared.telling.Telling.{Telling}
use Rattle.hls_view_lanes.specs.Rows.{ways_at}
use Rattle.hls_view_lanes.specs.Facts.{facts, way_asks, given_at, is_through, spells}
use Rattle.hls_view_lanes.specs.Inside.Paths.{path_in}
use Rattle.hls_view_lanes.specs.Inside.Present.{IsPresent, IsAsking}
use Rattle.hls_view_lanes.specs.Inside.Present as told
use Rattle.hls_view_lanes.specs.Inside.Readings.{AreReadings}
use Rattle.hls_view_lanes.specs.Inside.Telling.{IsTelling, IsRenewed, IsTellingOf, ways_of, given_by, through_of}
use Rattle.hls_view_lanes.proofs.PresentLaws.{asking-set, facts-of-rows}

pub renewed : (r : Report) (all : List (List Label)) (t : ℕ) (mid new : Telling) → mid.rows.items ≡ all
    → AreReadings r mid.readings → IsFollowing (content_of r) mid.following
    → IsHierarchy (content_of r) t mid.following.hierarchy → IsRenewed mid new
    → IsTellingOf r all (ways_at (content_of r) t) new
renewed r all t mid new rows readings following at is =
    let same : ways_of mid ≡ ways_of new =
    ap (λ (f : Following). map labels_of f.hierarchy.places.items) (sym is.following) in
    let present : IsPresent (content_of r) all (ways_of new) new.present =
    subst (λ (ws : List (List Label)). IsPresent (content_of r) all ws new.present) same
    (subst (λ (rs : List (List Label)). IsPresent (content_of r) rs (ways_of mid) new.present) rows
    (is.present (content_of r))) in
    record {
      is = record {
        rows = ap (λ v. v.items) is.rows ∙ rows;
        readings = subst (AreReadings r) (sym is.readings) readings;
        following = subst (IsFollowing (content_of r)) (sym is.following) following;
        present = present;
        through = λ at some. absurd (let no : None ≡ Some at = sym is.run ∙ some in cc);
      };
      ways_are = present.ways_are ∙ sym same ∙ ap (λ (ps : List Place). map labels_of ps) at.places;
    }

pub stayed : (r : Report) (all : List (List Label)) (t : ℕ) (old new : Telling) → new.rows ≡ old.rows
    → new.readings ≡ old.readings → new.present ≡ old.present → new.run ≡ old.run → new.through ≡ old.through
    → IsFollowing (content_of r) new.following → IsHierarchy (content_of r) t new.following.hierarchy
    → new.following.hierarchy.places.items ≡ old.following.hierarchy.places.items → IsTelling r all old
    → IsTellingOf r all (ways_at (content_of r) t) new
stayed r all t old new rows readings present run through following at places is =
    let same : ways_of old ≡ ways_of new = ap (λ (ps : List Place). map labels_of ps) (sym places) in
    let now : IsPresent (content_of r) all (ways_of new) new.present =
    subst (λ (ws : List (List Label)). IsPresent (content_of r) all ws new.present) same
    (subst (λ (p : Present). IsPresent (content_of r) all (ways_of old) p) (sym present) is.present) in
    record {
      is = record {
        rows = ap (λ v. v.items) rows ∙ is.rows;
        readings = subst (AreReadings r) (sym readings) is.readings;
        following = following;
        present = now;
        through = λ at some.
            ap (λ v. v.items) through ∙ is.through at (sym run ∙ some)
            ∙ ap (λ (ws : List (List Label)). through_of r all ws at) same;
      };
      ways_are = now.ways_are ∙ sym same ∙ ap (λ (ps : List Place). map labels_of ps) (sym places ∙ at.places);
    }

-- ---- whether ways ask

pub known-asks : (r : Report) (all : List (List Label)) (t place : ℕ) (s : Telling) (known : Asking)
    → IsTelling r all s → place < length s.present.ways.items → known ≡ get_or s.present.asking.items place known
    → known.since ≤ t → t < known.until
    → known.asks ≡ way_asks (content_of r) t (get_or s.present.ways.items place [])
known-asks r all t place s known is lt read since until =
    let ways = is.present.ways_are in
    let asks = is.present.asking known in
    let there : place < length (ways_of s) = subst (λ (ws : List (List Label)). place < length ws) ways lt in
    let each = asks.each place there in
    sym (ap (λ (ws : List (List Label)). way_asks (content_of r) t (get_or ws place [])) ways
    ∙ each.asks t (subst (λ (a : Asking). a.since ≤ t) read since) (subst (λ (a : Asking). t < a.until) read until)
    ∙ ap (λ (a : Asking). a.asks) (sym read))

pub place-known : (r : Report) (all : List (List Label)) (place : ℕ) (s : Telling) → IsTelling r all s
    → place < length s.present.ways.items → place < length s.present.asking.items
place-known r all place s is lt =
    let asks = is.present.asking told.unknown in
    let long = asks.long in
    let there : place < length (ways_of s) =
    subst (λ (ws : List (List Label)). place < length ws) is.present.ways_are lt in
    omega (arith, long, there)

-- a way, as it is read
pub way-read : (ways : List (List Label)) (place : ℕ) (way : List Label) → place < length ways
    → way ≡ get_or ways place way → get_or ways place [] ≡ way
way-read ways place way lt is =
    get_or_from_slice_get ways place way [] (slice_get_read ways (length ways) place way refl lt is)

pub noted : (r : Report) (all : List (List Label)) (place : ℕ) (s new : Telling) (a : Asking) → IsTelling r all s
    → IsAsking (content_of r) (get_or s.present.ways.items place []) a → new.rows ≡ s.rows
    → AreReadings r new.readings → new.following ≡ s.following → new.present.ways ≡ s.present.ways
    → new.present.below ≡ s.present.below → new.present.here ≡ s.present.here
    → new.present.asking.items ≡ set s.present.asking.items place a → new.run ≡ s.run → new.through ≡ s.through
    → IsTellingOf r all s.present.ways.items new
noted r all place s new a is asks rows readings following ways below here asking run through =
    let same : ways_of s ≡ ways_of new =
    ap (λ (f : Following). map labels_of f.hierarchy.places.items) (sym following) in
    let old = is.present in
    record {
      is = record {
        rows = ap (λ v. v.items) rows ∙ is.rows;
        readings = readings;
        following = subst (IsFollowing (content_of r)) (sym following) is.following;
        present = record {
          ways_are = ap (λ v. v.items) ways ∙ old.ways_are ∙ same;
          below_are = ap (λ v. v.items) below
              ∙ subst (λ (ws : List (List Label)). s.present.below.items ≡ map (told.below_of ws) all) same
              old.below_are;
          here_are = ap (λ v. v.items) here
              ∙ subst (λ (ws : List (List Label)). s.present.here.items ≡ map (told.is_here ws) all) same old.here_are;
          asking = λ none.
              subst (λ (ws : List (List Label)). told.AreAsking (content_of r) ws new.present.asking.items none) same
              (subst (λ (l : List Asking). told.AreAsking (content_of r) (ways_of s) l none) (sym asking)
              (asking-set (content_of r) (ways_of s) s.present.asking.items none a place (old.asking none)
              (subst (λ (ws : List (List Label)). IsAsking (content_of r) (get_or ws place []) a) old.ways_are asks)));
        };
        through = λ at some.
            ap (λ v. v.items) through ∙ is.through at (sym run ∙ some)
            ∙ ap (λ (ws : List (List Label)). through_of r all ws at) same;
      };
      ways_are = ap (λ v. v.items) ways;
    }

pub asked-more : (f : List Label → Bool) (ways : List (List Label)) (place : ℕ) (flags more : List Bool) (b : Bool)
    → place < length ways → b ≡ f (get_or ways place []) → flags ≡ map f (take place ways) → more ≡ flags ++ b ∷ []
    → more ≡ map f (take (place + 1) ways)
asked-more f ways place flags more b lt is so_far e =
    e ∙ ap (λ (l : List Bool). l ++ b ∷ []) so_far
    ∙ ap (λ (x : Bool). map f (take place ways) ++ x ∷ []) is
    ∙ sym (ap (map f) (take_more ways place [] lt)
    ∙ map-append f (take place ways) (get_or ways place [] ∷ []))

-- ---- the facts of a tick

pub told-facts : (r : Report) (all : List (List Label)) (t : ℕ) (s : Telling) (flags : List Bool) → IsTelling r all s
    → s.present.ways.items ≡ ways_at (content_of r) t → flags
    ≡ map (way_asks (content_of r) t) (ways_at (content_of r) t)
    → s.through.items ≡ map (λ row. is_through row (given_at (content_of r) t)) all
    → map (told.facts_at s.present flags s.through.items) (range_with_len 0 (length s.present.below.items))
    ≡ map (facts (content_of r) t) all
told-facts r all t s flags is ways set goes =
    let c = content_of r in
    let same : ways_of s ≡ ways_at c t = sym is.present.ways_are ∙ ways in
    facts-of-rows all (ways_at c t) s.present (way_asks c t) flags s.through.items (given_at c t)
    (subst (λ (ws : List (List Label)). s.present.here.items ≡ map (told.is_here ws) all) same is.present.here_are)
    (subst (λ (ws : List (List Label)). s.present.below.items ≡ map (told.below_of ws) all) same is.present.below_are)
    set goes

-- ---- through which rows a tick goes

pub passed : (r : Report) (all : List (List Label)) (s : Telling) (at k : ℕ) (through : List Bool)
    → IsTelling r all s → through ≡ through_of r all s.present.ways.items at
    → (let one : Option ℕ = Some at in one) ≡ Some k → through ≡ through_of r all (ways_of s) k
passed r all s at k through is goes some =
    let same : at ≡ k = cc in
    goes ∙ ap (λ (ws : List (List Label)). through_of r all ws at) is.present.ways_are
    ∙ ap (through_of r all (ways_of s)) same

pub tick-through : (r : Report) (all ways : List (List Label)) (t at : ℕ) (path : Option Path)
    → ways ≡ ways_at (content_of r) t → path ≡ path_in r.runs at
    → path_at (content_of r).stretches t ≡ option_map (path_names r.names) path
    → through_of r all ways at ≡ map (λ row. is_through row (given_at (content_of r) t)) all
tick-through r all ways t at path same is names =
    let by = (λ (o : Option (List Text)). option_and_then (λ over. find (spells over) ways) o) in
    ap (λ (g : Option (List Label)). map (λ row. is_through row g) all)
    (ap (λ (p : Option Path). given_by r.names ways p) (sym is) ∙ ap by (sym names)
    ∙ ap (λ (ws : List (List Label)). option_and_then (λ over. find (spells over) ws)
    (path_at (content_of r).stretches t)) same)
