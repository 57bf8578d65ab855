-- The ways that somebody has at present, by the rows that they begin with.
use Rattle.std.specs.Prelude.{◌≡◌, ℕ, suc, ◌≤◌, ◌<◌, List, [], ◌∷◌, Bool, false, map, get_or, length}
use Rattle.std.specs.Prelude.{if◌then◌else◌}
use Rattle.std.specs.List.{list_any}
use Rattle.hls_text.specs.Lines.{Text}
use Rattle.hls_report_text.specs.Content.{Content}
use Rattle.hls_legal.specs.Ready.{is_ready}
use Rattle.hls_view_tale.specs.declared.label.Label.{Label}
use Rattle.hls_view_lanes.specs.declared.asking.Asking.{Asking}
use Rattle.hls_view_lanes.specs.declared.present.Present.{Present}
use Rattle.hls_view_lanes.specs.declared.tick_facts.Facts.{Facts}
use Rattle.hls_view_lanes.specs.Likeness.{begins, is_same}
use Rattle.hls_view_lanes.specs.Facts.{way_asks}

-- the places of those that pass, the first of which is at a number
unfoldable pub places_from : (test : List Label → Bool) → (number : ℕ) → (ways : List (List Label)) → List ℕ
places_from test number [] = []
places_from test number (way ∷ ways) =
    if test way then number ∷ places_from test (suc number) ways else places_from test (suc number) ways

-- of these ways those that begin with a row
abbrev pub below_of : (ways : List (List Label)) → (row : List Label) → List ℕ
below_of ways row = places_from (begins row) 0 ways

abbrev pub is_here : (ways : List (List Label)) → (row : List Label) → Bool
is_here ways row = list_any (is_same row) ways

-- in these ticks a thread is ready, or is not
pub record IsReadyAs (c : Content) (name : Text) (a : Asking) : Type 0 where
  pub asks : (t : ℕ) → a.since ≤ t → t < a.until → is_ready c name t ≡ a.asks

-- a way ends in a ready thread, or in none
pub record IsAsking (c : Content) (way : List Label) (a : Asking) : Type 0 where
  pub asks : (t : ℕ) → a.since ≤ t → t < a.until → way_asks c t way ≡ a.asks

abbrev pub unknown : Asking
unknown = record { asks = false; since = 0; until = 0 }

pub record AreAsking (c : Content) (ways : List (List Label)) (all : List Asking) (none : Asking) : Type 0 where
  pub long : length all ≡ length ways
  pub each : (k : ℕ) → k < length ways → IsAsking c (get_or ways k []) (get_or all k none)

-- one of those at these places is set
abbrev pub any_at : (flags : List Bool) → (places : List ℕ) → Bool
any_at flags places = list_any (λ k. get_or flags k false) places

pub record IsPresent (c : Content) (rows ways : List (List Label)) (p : Present) : Type 0 where
  pub ways_are : p.ways.items ≡ ways
  pub below_are : p.below.items ≡ map (below_of ways) rows
  pub here_are : p.here.items ≡ map (is_here ways) rows
  pub asking : (none : Asking) → AreAsking c ways p.asking.items none

-- the facts of a row, by its number
abbrev pub facts_at : Present → (asking through : List Bool) → (row : ℕ) → Facts
facts_at p asking through row = record {
  here = get_or p.here.items row false;
  ready = any_at asking (get_or p.below.items row []);
  served = get_or through row false;
}
