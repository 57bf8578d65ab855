-- The columns in which something happens.
use Rattle.std.proofs.Common.{◌≡◌, ℕ, ◌+◌, ◌*◌, ◌<◌, ◌==◌, List, [], ◌∷◌, ◌++◌, Bool, true, sym, ap, ◌∙◌}
use Rattle.std.proofs.Common.{◌&&◌, filter, take, length, get_or, subst}
use Rattle.std.specs.List.{list_any, range_with_len}
use Rattle.std.proofs.lemmas.Bool.{eqb-true, eq-eqb}
use Rattle.std.proofs.lemmas.List.{take_more}
use Rattle.hls_report_text.specs.Content.{Content}
use Rattle.hls_view_scale.specs.declared.scale.Scale.{Scale}
use Rattle.hls_view_scale.specs.Columns.{ticks_in}
use Rattle.hls_view_tale.specs.declared.label.Label.{Label}
use Rattle.hls_view_signs.specs.declared.event.Event.{Event}
use Rattle.hls_view_signs.specs.declared.moments.Moment.{Moment}
use Rattle.hls_view_signs.specs.declared.signs.Signs.{Signs}
use Rattle.hls_view_signs.specs.Columns.{ticks_of, columns_with}
use Rattle.hls_view_signs.specs.Happenings.{happens_in}
use Rattle.hls_view_signs.specs.Signs.{IsSigns, AreSigns}
use Rattle.hls_view_signs.specs.Inside.Found.{column_of, is_found}
use Rattle.hls_view_signs.specs.Inside.Moments.{has, is_at, IsShown, AreMoments}
use Rattle.hls_view_signs.proofs.Tests.{alike, first_of_two, second_of_two, both_of_two, any_of_gives, any_weaker}
use Rattle.hls_view_signs.proofs.Ranges.{Passes, some-passes, any-passes, filter-same}
use Rattle.hls_view_signs.proofs.ColumnLaws.{IsInside, inside_own, own_inside, inside_shown}
use Rattle.hls_view_signs.proofs.MomentLaws.{has_is}

-- something happens in a row, in a column
abbrev pub is_there : Scale → Event → (row : List Label) → (k : ℕ) → Moment → Bool
is_there s event row k m = has event row m && column_of s m.tick == k

there_in : (c : Content) (s : Scale) (event : Event) (row : List Label) (k : ℕ) (m : Moment) → IsShown c s m
    → is_there s event row k m ≡ true → list_any (happens_in c event row) (ticks_of s k) ≡ true
there_in c s event row k m shown both =
    let own = inside_own s m.tick k shown.begins shown.ends
    (eqb-true (column_of s m.tick) k (second_of_two (has event row m) (column_of s m.tick == k) both)) in
    any-passes (happens_in c event row) (s.from + k * s.ticks) (ticks_in s k) m.tick own.from own.until
    (sym (has_is c event row m shown.is) ∙ first_of_two (has event row m) (column_of s m.tick == k) both)

in_there : (c : Content) (s : Scale) (event : Event) (row : List Label) (k : ℕ) (all : List Moment) → AreMoments c s all
    → Passes (happens_in c event row) (s.from + k * s.ticks) (ticks_in s k)
    → list_any (is_there s event row k) all ≡ true
in_there c s event row k all are some =
    let inside : IsInside s some.t k = record { from = some.from; until = some.until } in
    let shown = inside_shown s some.t k inside in
    any_weaker (IsShown c s) (is_at some.t) (is_there s event row k) all
    (λ m of at.
    let tick : m.tick ≡ some.t = eqb-true m.tick some.t at in
    both_of_two (has event row m) (column_of s m.tick == k)
    (has_is c event row m of.is ∙ ap (happens_in c event row) tick ∙ some.on)
    (eq-eqb (column_of s m.tick) k (ap (column_of s) tick ∙ own_inside s some.t k inside))) are.are
    (are.each some.t shown.0 shown.1 event row some.on)

column_is : (c : Content) (s : Scale) (event : Event) (row : List Label) (k : ℕ) (all : List Moment)
    → AreMoments c s all
    → list_any (is_there s event row k) all ≡ list_any (happens_in c event row) (ticks_of s k)
column_is c s event row k all are =
    alike (list_any (is_there s event row k) all) (list_any (happens_in c event row) (ticks_of s k))
    (any_of_gives (IsShown c s) (is_there s event row k) all
    (list_any (happens_in c event row) (ticks_of s k) ≡ true) (there_in c s event row k) are.are)
    (λ some. in_there c s event row k all are
    (some-passes (happens_in c event row) (s.from + k * s.ticks) (ticks_in s k) some))

pub columns_are_found : (c : Content) (s : Scale) (event : Event) (row : List Label) (all : List Moment)
    (found : List ℕ) → ((k : ℕ) → is_found found k ≡ list_any (λ m. has event row m && column_of s m.tick == k) all)
    → AreMoments c s all
    → filter (is_found found) (range_with_len 0 s.columns) ≡ columns_with s (happens_in c event row)
unfolding columns_with
columns_are_found c s event row all found each are =
    filter-same (is_found found) (λ k. list_any (happens_in c event row) (ticks_of s k)) 0 s.columns
    (λ k from until. each k ∙ column_is c s event row k all are)

-- ---- row by row

signs_append : (c : Content) (s : Scale) (rows : List (List Label)) (all : List Signs) (row : List Label)
    (signs : Signs) → IsSigns c s row signs → AreSigns c s rows all
    → AreSigns c s (rows ++ row ∷ []) (all ++ signs ∷ [])
signs_append c s [] [] row signs one are = (one, tt)
signs_append c s [] (x ∷ all) row signs one are = absurd are
signs_append c s (r ∷ rows) [] row signs one are = absurd are
signs_append c s (r ∷ rows) (x ∷ all) row signs one are = (are.0, signs_append c s rows all row signs one are.1)

next_row : (all : List (List Label)) (i : ℕ) (row : List Label) → i < length all → row ≡ get_or all i row
    → take (i + 1) all ≡ take i all ++ row ∷ []
next_row all i row lt is = take_more all i row lt ∙ ap (λ (x : List Label). take i all ++ x ∷ []) (sym is)

pub signs_next : (c : Content) (s : Scale) (all : List (List Label)) (i : ℕ) (row : List Label) (signs : Signs)
    (old new : List Signs) → i < length all → row ≡ get_or all i row → IsSigns c s row signs
    → new ≡ old ++ signs ∷ [] → AreSigns c s (take i all) old → AreSigns c s (take (i + 1) all) new
signs_next c s all i row signs old new lt is one put are =
    subst (AreSigns c s (take (i + 1) all)) (sym put)
    (subst (λ rows. AreSigns c s rows (old ++ signs ∷ [])) (sym (next_row all i row lt is))
    (signs_append c s (take i all) old row signs one are))
