-- Tallies that are kept in rows.
use Rattle.std.proofs.Common.{◌≡◌, ℕ, ◌<◌, ◌≤◌, List, [], ◌∷◌, ◌++◌, Bool, true, false, cond}
use Rattle.std.proofs.Common.{length, refl, sym, ap, ◌∙◌, subst, arith, map, filter, take, drop, get_or}
use Rattle.std.specs.Prelude.{Option, Some, None, slice_get, slice_set}
use Rattle.std.proofs.lemmas.List.{length-map, map-set, take-map, drop-map}
use Rattle.std.proofs.lemmas.Option.{slice_get_read, slice_get_within, get_or_from_slice_get}
use Rattle.std.proofs.lemmas.Option.{slice_get_past}
use Rattle.hls_core_stays.specs.Tallies.{lasts}
use Rattle.hls_core_stays.specs.Inside.Rows.{seating_at, seating_of, tally_by, tallies_by, AreSeated}
use Rattle.hls_core_stays.specs.Inside.Steps.{begun_tally, swept, swept_rows}
use Rattle.hls_core_stays.specs.declared.row.Row.{Row}
use Rattle.hls_core_stays.specs.declared.row.Seating.{Seating}
use Rattle.hls_core_stays.specs.declared.tally.Tally.{Tally}
use Rattle.hls_core_stays.proofs.Lists.{inner, get_map, map_same, map_append}
use Rattle.hls_core_stays.proofs.Swept.{all_swept}

-- ---- one seating

pub seating_is : (seating : Seating) (tally : Tally) → seating.name ≡ tally.name → seating.kept ≡ tally.kept
    → seating ≡ seating_of tally
seating_is seating tally name kept = λ i. record { name = name i; kept = kept i }

-- ---- one row

-- what was looked up in a slice of a list
pub looked_up : {X : Type 0} (xs ys : List X) (i : ℕ) (x : X) → xs ≡ ys → i < length xs → x ≡ get_or xs i x
    → slice_get ys i ≡ Some x
looked_up xs ys i x same within at =
    ap (λ l. slice_get l i) (sym same) ∙ slice_get_read xs (length xs) i x refl within at

pub row_at : (seatings : List Seating) (rows : List Row) (items : List Tally) (place : ℕ) (row : Row)
    → tallies_by seatings rows ≡ items → place < length items → row ≡ get_or rows place row
    → slice_get rows place ≡ Some row
row_at seatings rows items place row is within at =
    let long = length-map rows (tally_by seatings) in
    let same = ap length is in
    slice_get_read rows (length rows) place row refl (omega (arith, within, same, long)) at

pub tally_of_row : (seatings : List Seating) (rows : List Row) (items : List Tally) (place : ℕ) (row : Row)
    → tallies_by seatings rows ≡ items → slice_get rows place ≡ Some row
    → slice_get items place ≡ Some (tally_by seatings row)
tally_of_row seatings rows items place row is there =
    ap (λ l. slice_get l place) (sym is) ∙ get_map (tally_by seatings) rows place row there

-- what is asked of a tally is asked of its row
pub tested_row : (test : Option Tally → Bool) (seatings : List Seating) (rows : List Row) (items : List Tally)
    (place : ℕ) (row : Row) (result : Bool) → tallies_by seatings rows ≡ items → slice_get rows place ≡ Some row
    → result ≡ test (Some (tally_by seatings row)) → result ≡ test (slice_get items place)
tested_row test seatings rows items place row result is there on =
    on ∙ ap test (sym (tally_of_row seatings rows items place row is there))

pub no_row : (test : Option Tally → Bool) (seatings : List Seating) (rows : List Row) (items : List Tally)
    (place : ℕ) → tallies_by seatings rows ≡ items → length rows ≤ place → test None ≡ test (slice_get items place)
no_row test seatings rows items place is le =
    let long = length-map rows (tally_by seatings) in
    let same = ap length is in
    ap test (sym (slice_get_past items place (omega (arith, le, same, long))))

-- a row is set, which changes its tally
pub set_row : (seatings : List Seating) (rows : List Row) (items : List Tally) (place : ℕ) (row next : Row)
    (change : Tally → Tally) → tallies_by seatings rows ≡ items → slice_get rows place ≡ Some row
    → tally_by seatings next ≡ change (tally_by seatings row) → (tally : Tally)
    → slice_get items place ≡ Some tally
    → tallies_by seatings (slice_set rows place next) ≡ slice_set items place (change tally)
set_row seatings rows items place row next change is there changed tally e =
    map-set (tally_by seatings) rows place next
    ∙ ap (λ l. slice_set l place (tally_by seatings next)) is
    ∙ ap (slice_set items place) (changed ∙ ap change (inner (tally_by seatings row) tally
    (sym (tally_of_row seatings rows items place row is there) ∙ e)))

-- ---- rows that are dropped

map_if : {X Y : Type 0} (f : X → Y) (b : Bool) (x : X) (xs : List X) (ys : List Y) → map f xs ≡ ys
    → map f (cond b (x ∷ xs) xs) ≡ cond b (f x ∷ ys) ys
map_if f true x xs ys same = ap (λ l. f x ∷ l) same
map_if f false x xs ys same = same

filter_of_map : {X Y : Type 0} (f : X → Y) (q : Y → Bool) (xs : List X)
    → map f (filter (λ x. q (f x)) xs) ≡ filter q (map f xs)
filter_of_map f q [] = refl
filter_of_map f q (x ∷ xs) =
    map_if f (q (f x)) x (filter (λ y. q (f y)) xs) (filter q (map f xs)) (filter_of_map f q xs)

pub swept_by : (seatings : List Seating) (rows new : List Row) (items : List Tally) (from : ℕ)
    → tallies_by seatings rows ≡ items → new ≡ swept_rows from rows → tallies_by seatings new ≡ swept from items
swept_by seatings rows new items from is e =
    ap (tallies_by seatings) e
    ∙ map_append (tally_by seatings) (take from rows)
    (filter (λ (row : Row). lasts row.since row.until) (drop from rows))
    ∙ ap (λ l. l ++ tallies_by seatings (filter (λ (row : Row). lasts row.since row.until) (drop from rows)))
    (sym (take-map (tally_by seatings) from rows))
    ∙ ap (λ l. take from (tallies_by seatings rows) ++ l)
    (filter_of_map (tally_by seatings) (λ (t : Tally). lasts t.since t.until) (drop from rows)
    ∙ ap (filter (λ (t : Tally). lasts t.since t.until)) (sym (drop-map (tally_by seatings) from rows)))
    ∙ ap (swept from) is

pub swept_seated : (seatings : List Seating) (rows new : List Row) (from : ℕ) → AreSeated seatings rows
    → new ≡ swept_rows from rows → AreSeated seatings new
swept_seated seatings rows new from are e =
    subst (AreSeated seatings) (sym e) (all_swept (λ (row : Row). row.seating < length seatings)
    (λ (row : Row). lasts row.since row.until) from rows are)

-- ---- a row more

-- rows keep their tallies where more seatings come
same_rows : (seatings new : List Seating) (rows : List Row) → AreSeated seatings rows
    → ((at : ℕ) → at < length seatings → seating_at new at ≡ seating_at seatings at)
    → tallies_by new rows ≡ tallies_by seatings rows
same_rows seatings new rows are before =
    map_same (tally_by seatings) (tally_by new) rows (λ i row e. same row (before row.seating
    (subst (λ (x : Row). x.seating < length seatings) (get_or_from_slice_get rows i row row e)
    (are i row (slice_get_within rows i row e)))))
  where
    same : (row : Row) → seating_at new row.seating ≡ seating_at seatings row.seating
        → tally_by new row ≡ tally_by seatings row
    same row e = λ i. record {
      thread = row.thread;
      name = (e i).name;
      kept = (e i).kept;
      since = row.since;
      until = row.until;
      ready = row.ready;
      ready_since = row.ready_since;
      served = row.served;
    }

abbrev row_of : (place : ℕ) → Tally → Row
row_of place tally = record {
  thread = tally.thread;
  seating = place;
  since = tally.since;
  until = tally.until;
  ready = tally.ready;
  ready_since = tally.ready_since;
  served = tally.served;
}

tally_is : (seatings : List Seating) (place : ℕ) (tally : Tally)
    → slice_get seatings place ≡ Some (seating_of tally) → tally_by seatings (row_of place tally) ≡ tally
tally_is seatings place tally there =
    let e : seating_at seatings place ≡ seating_of tally =
    get_or_from_slice_get seatings place (seating_of tally) _ there in
    λ i. record {
      thread = tally.thread;
      name = (e i).name;
      kept = (e i).kept;
      since = tally.since;
      until = tally.until;
      ready = tally.ready;
      ready_since = tally.ready_since;
      served = tally.served;
    }

pub pushed_row : (seatings new : List Seating) (rows next : List Row) (items : List Tally) (place : ℕ)
    (tally : Tally) → tallies_by seatings rows ≡ items → AreSeated seatings rows
    → ((at : ℕ) → at < length seatings → seating_at new at ≡ seating_at seatings at)
    → slice_get new place ≡ Some (seating_of tally) → next ≡ rows ++ row_of place tally ∷ []
    → tallies_by new next ≡ items ++ tally ∷ []
pushed_row seatings new rows next items place tally is are before there push =
    ap (tallies_by new) push
    ∙ map_append (tally_by new) rows (row_of place tally ∷ [])
    ∙ ap (λ l. l ++ tally_by new (row_of place tally) ∷ []) (same_rows seatings new rows are before ∙ is)
    ∙ ap (λ t. items ++ t ∷ []) (tally_is new place tally there)

-- a row more that has the seating of another
pub pushed_like : (seatings : List Seating) (rows next : List Row) (items : List Tally) (like : ℕ) (row : Row)
    (thread since : ℕ) (ready_since : Option ℕ) → tallies_by seatings rows ≡ items → slice_get rows like ≡ Some row
    → next ≡ rows ++ (record {
      seating = row.seating;
      thread = thread;
      since = since;
      until = None;
      ready = 0;
      ready_since = ready_since;
      served = 0;
    }) ∷ [] → (tally : Tally) → slice_get items like ≡ Some tally
    → tallies_by seatings next ≡ items ++ begun_tally thread since ready_since (seating_of tally) ∷ []
pushed_like seatings rows next items like row thread since ready_since is there push tally e =
    ap (tallies_by seatings) push
    ∙ map_append (tally_by seatings) rows _
    ∙ ap (λ l. l ++ begun_tally thread since ready_since (seating_of (tally_by seatings row)) ∷ []) is
    ∙ ap (λ (t : Tally). items ++ begun_tally thread since ready_since (seating_of t) ∷ [])
    (inner (tally_by seatings row) tally (sym (tally_of_row seatings rows items like row is there) ∙ e))
