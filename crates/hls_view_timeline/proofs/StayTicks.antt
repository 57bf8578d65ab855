-- The windows and runs of a stay on the track of one of its ways.
use Rattle.std.proofs.Common.{◌≡◌, ◌∙◌, ℕ, List, [], ◌∷◌, refl, ap, ap₂}
use Rattle.std.specs.Prelude.{Bool, ◌&&◌, nat_le, map}
use Rattle.hls_chron.specs.Ticks.{one_if}
use Rattle.hls_report_text.specs.declared.report.Account.{Account}
use Rattle.hls_report_text.specs.Content.{Content}
use Rattle.hls_legal.specs.Ready.{is_ready}
use Rattle.hls_view_tale.specs.declared.label.Label.{Label}
use Rattle.hls_view_trace.specs.declared.event.Category.TheVariants.{Run, Ready}
use Rattle.hls_view_trace.specs.declared.event.Place.{Place}
use Rattle.hls_view_trace.specs.declared.event.Event.{Event}
use Rattle.hls_view_timeline.specs.Slices.{inner_slices}
use Rattle.hls_view_timeline.specs.Taken.{taken_at, is_number}
use Rattle.hls_view_timeline.specs.Staying.{ticks_of, ready_in, taken_in, stay_slice, track_events}
use Rattle.hls_view_timeline.specs.Counted.{held_as, is_in}
use Rattle.hls_view_timeline.proofs.StripTicks.{ticks, runs_counted, windows_counted}

map-map : {X Y Z : Type 0} (g : Y → Z) (f : X → Y) (xs : List X) → map g (map f xs) ≡ map (λ x. g (f x)) xs
map-map g f [] = refl
map-map g f (x ∷ xs) = ap (λ l. g (f x) ∷ l) (map-map g f xs)

-- the stay itself is neither a window nor a run
no_run : (t : ℕ) (place : Place) (a : Account) (events : List Event)
    → held_as Run t (stay_slice place a ∷ events) ≡ held_as Run t events
no_run t place a events = refl

no_window : (t : ℕ) (place : Place) (a : Account) (events : List Event)
    → held_as Ready t (stay_slice place a ∷ events) ≡ held_as Ready t events
no_window t place a events = refl

abbrev takes : (c : Content) → (ways : List (List Label)) → (number : ℕ) → ℕ → Bool
takes c ways number t = is_number number (taken_at c ways t)

taken_is : (c : Content) (ways : List (List Label)) (a : Account) (number : ℕ)
    → map (is_number number) (taken_in c ways a) ≡ map (takes c ways number) (ticks a.from a.to)
taken_is c ways a number = map-map (is_number number) (taken_at c ways) (ticks_of a)

inner_runs : (place : Place) (from to t : ℕ) (ready takes : ℕ → Bool) (on off : List Bool)
    → on ≡ map takes (ticks from to) → off ≡ map ready (ticks from to)
    → held_as Run t (inner_slices place from off on) ≡ one_if ((nat_le from t && nat_le t to) && takes t)
inner_runs place from to t ready takes on off is are =
    ap₂ (λ (o r : List Bool). held_as Run t (inner_slices place from r o)) is are
    ∙ runs_counted place from to ready takes t

inner_windows : (place : Place) (from to t : ℕ) (ready takes : ℕ → Bool) (on off : List Bool)
    → on ≡ map takes (ticks from to) → off ≡ map ready (ticks from to)
    → held_as Ready t (inner_slices place from off on) ≡ one_if ((nat_le from t && nat_le t to) && ready t)
inner_windows place from to t ready takes on off is are =
    ap₂ (λ (o r : List Bool). held_as Ready t (inner_slices place from r o)) is are
    ∙ windows_counted place from to ready takes t

pub runs_are : (c : Content) (ways : List (List Label)) (place : Place) (a : Account) (number t : ℕ)
    → held_as Run t (track_events place a (ready_in c a) (taken_in c ways a) number)
    ≡ one_if (is_in t a && is_number number (taken_at c ways t))
runs_are c ways place a number t =
    let on : List Bool = map (is_number number) (taken_in c ways a) in
    no_run t place a (inner_slices place a.from (ready_in c a) on)
    ∙ inner_runs place a.from a.to t (is_ready c a.name) (takes c ways number) on (ready_in c a)
    (taken_is c ways a number) refl

pub windows_are : (c : Content) (ways : List (List Label)) (place : Place) (a : Account) (number t : ℕ)
    → held_as Ready t (track_events place a (ready_in c a) (taken_in c ways a) number)
    ≡ one_if (is_in t a && is_ready c a.name t)
windows_are c ways place a number t =
    let on : List Bool = map (is_number number) (taken_in c ways a) in
    no_window t place a (inner_slices place a.from (ready_in c a) on)
    ∙ inner_windows place a.from a.to t (is_ready c a.name) (takes c ways number) on (ready_in c a)
    (taken_is c ways a number) refl
