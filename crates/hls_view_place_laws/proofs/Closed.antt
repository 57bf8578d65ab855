-- In a tale each beginning of a row is a row.
use Rattle.std.proofs.Common.{◌≡◌, ℕ, zero, suc, ◌+◌, ◌<◌, List, [], ◌∷◌, ◌++◌, Bool, true, false}
use Rattle.std.proofs.Common.{refl, sym, ap, subst, cond, length, fold, inl, inr, arith}
use Rattle.std.specs.Prelude.{Option, Some, None, slice_get}
use Rattle.std.specs.List.{insert, AllByRecursion}
use Rattle.hls_text.specs.Lines.{Text}
use Rattle.hls_report_text.specs.Content.{Content}
use Rattle.hls_report_text.specs.WellFormed.{IsContent}
use Rattle.hls_audit_clauses.specs.declared.member.Member.{Member}
use Rattle.hls_view_tale.specs.declared.label.Label.{Label}
use Rattle.hls_view_tale.specs.Places.{labels_of}
use Rattle.hls_audit_clauses.specs.Names.{tree_at}
use Rattle.hls_view_tale.specs.Hierarchies.{places_at}
use Rattle.hls_view_lanes.specs.Likeness.{is_same}
use Rattle.hls_view_lanes.specs.Rows.{ways_at, ways_by_stays, has_row, reach, above_of, with_row, beginnings}
use Rattle.hls_view_lanes.specs.Rows.{with_rows, rows_of}
use Rattle.hls_view_lanes.specs.Standing.{IsSomeWay}
use Rattle.hls_view_lanes.proofs.Selves.{same-self}
use Rattle.hls_view_lanes.proofs.RowLaws.{ways-have-rows, rows-are-ways}
use Rattle.hls_view_place_laws.specs.Tales.{TellsUpTo}
use Rattle.hls_view_place_laws.specs.Ways.{IsWayDown}
use Rattle.hls_view_place_laws.proofs.Among.{IsIn, in-at, at-in, in-map, of-map, any-in}
use Rattle.hls_view_place_laws.proofs.Ticks.{IsOfWay, placed-on, place-down, down-place}
use Rattle.hls_view_place_laws.proofs.Alike.{front-long}
use Rattle.hls_view_place_laws.proofs.Naming.{IsClosed}

-- ---- the row of the processor

in-insert : (x : List Label) (rows : List (List Label)) (i : ℕ) (way : List Label) → IsIn x rows
    → IsIn x (insert rows i way)
in-insert x rows zero way has = inr has
in-insert x [] (suc i) way has = absurd has
in-insert x (row ∷ rows) (suc i) way (inl is) = inl is
in-insert x (row ∷ rows) (suc i) way (inr has) = inr (in-insert x rows i way has)

in-either-of : (b : Bool) (x : List Label) (rows : List (List Label)) (i : ℕ) (way : List Label) → IsIn x rows
    → IsIn x (cond b rows (insert rows i way))
in-either-of true x rows i way has = has
in-either-of false x rows i way has = in-insert x rows i way has

in-all : (x : List Label) (rows ways : List (List Label)) → IsIn x rows → IsIn x (fold with_row rows ways)
in-all x rows [] has = has
in-all x rows (way ∷ ways) has =
    in-all x (with_row rows way) ways
    (in-either-of (has_row rows way) x rows (reach (above_of way) rows) way has)

in-set : (b : Bool) (x : List Label) (rows : List (List Label)) (way : List Label) → IsIn x rows
    → IsIn x (cond b rows (fold with_row rows (beginnings way)))
in-set true x rows way has = has
in-set false x rows way has = in-all x rows (beginnings way) has

in-sets : (x : List Label) (rows ways : List (List Label)) → IsIn x rows → IsIn x (fold with_rows rows ways)
in-sets x rows [] has = has
in-sets x rows (way ∷ ways) has = in-sets x (with_rows rows way) ways (in-set (has_row rows way) x rows way has)

in-first : (c : Content) (from ticks : ℕ) → IsIn [] (rows_of c from ticks)
unfolding rows_of
in-first c from zero = inl refl
in-first c from (suc ticks) =
    in-sets [] (rows_of c from ticks) (ways_by_stays c (from + ticks)) (in-first c from ticks)

has-first : (c : Content) (from ticks : ℕ) → has_row (rows_of c from ticks) [] ≡ true
has-first c from ticks =
    any-in (λ (row : List Label). is_same row []) [] (rows_of c from ticks) (in-first c from ticks) (same-self [])

-- ---- the row of a beginning

prefix-down : (tree : List Member) (top : Option Text) (front more : List Label) → IsWayDown tree top (front ++ more)
    → IsWayDown tree top front
prefix-down tree top [] more down = tt
prefix-down tree top (label ∷ front) more down = (down.0, prefix-down tree (Some label.name) front more down.1)

all-at : (P : List Label → Type 0) (rows : List (List Label)) (i : ℕ) (row : List Label) → AllByRecursion P rows
    → slice_get rows i ≡ Some row → P row
all-at P [] i row all e = absurd (cc)
all-at P (first ∷ rows) zero row all e = let same : first ≡ row = cc in subst P same all.0
all-at P (first ∷ rows) (suc i) row all e = all-at P rows i row all.1 e

front-row : (c : Content) (from ticks t : ℕ) (front : List Label) → IsContent c → TellsUpTo c (from + t)
    → t < ticks → IsWayDown (tree_at (from + t) c.answered) None front
    → has_row (rows_of c from ticks) front ≡ true
front-row c from ticks t [] formed tells early down = has-first c from ticks
front-row c from ticks t (first ∷ rest) formed tells early down =
    let p : IsOfWay (first ∷ rest) = placed-on [] first rest in
    let tree = tree_at (from + t) c.answered in
    let there : IsIn p.place (places_at c (from + t)) =
    down-place c (from + t) formed tells p.place
    (subst (λ (w : List Label). IsWayDown tree None w) (sym p.is) down) in
    let at = at-in (first ∷ rest) (ways_at c (from + t))
    (subst (λ (w : List Label). IsIn w (ways_at c (from + t))) p.is
    (in-map labels_of p.place (places_at c (from + t)) there)) in
    ways-have-rows c from ticks t at.0 (first ∷ rest) early at.1

closed-at : (c : Content) (from ticks : ℕ) (front : List Label) (last : Label) → IsContent c
    → ((t : ℕ) → t < ticks → TellsUpTo c (from + t)) → IsSomeWay c from ticks (front ++ last ∷ [])
    → has_row (rows_of c from ticks) front ≡ true
closed-at c from ticks front last formed tells (inl top) =
    let long = front-long front last in
    let none : length (front ++ last ∷ []) ≡ 0 = ap (λ (l : List Label). length l) top in
    absurd (omega (arith, long, none))
closed-at c from ticks front last formed tells (inr w) =
    let t = w.t in
    let way = front ++ last ∷ [] in
    let tree = tree_at (from + t) c.answered in
    let o = of-map labels_of way (places_at c (from + t)) (in-at (ways_at c (from + t)) w.number way w.there) in
    let down : IsWayDown tree None way =
    subst (λ (x : List Label). IsWayDown tree None x) o.is
    (place-down c (from + t) formed (tells t w.early) o.one o.has) in
    front-row c from ticks t front formed (tells t w.early) w.early
    (prefix-down tree None front (last ∷ []) down)

pub rows-closed : (c : Content) (from ticks : ℕ) → IsContent c → ((t : ℕ) → t < ticks → TellsUpTo c (from + t))
    → IsClosed (rows_of c from ticks)
rows-closed c from ticks formed tells = record {
  above = λ number front last there.
      closed-at c from ticks front last formed tells
      (all-at (IsSomeWay c from ticks) (rows_of c from ticks) number (front ++ last ∷ [])
      (rows-are-ways c from ticks) there);
}
