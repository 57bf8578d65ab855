-- The list of ticks that stretches spell, tick by tick.
use Rattle.std.proofs.Common.{◌≡◌, ℕ, zero, suc, inl, inr, ◌+◌, ◌-◌, ◌<◌, ◌≤◌, List, [], ◌∷◌, ◌++◌, Bool}
use Rattle.std.proofs.Common.{true, false}
use Rattle.std.proofs.Common.{◌&&◌, cond, length, refl, sym, ap, ◌∙◌, arith}
use Rattle.std.specs.Prelude.{Option, Some, slice_get, replicate, find, nat_le, option_and_then}
use Rattle.std.proofs.lemmas.Bool.{cases_lt, le-leb, lt-leb}
use Rattle.std.proofs.lemmas.List.{length-append, length-replicate}
use Rattle.hls_text.specs.Lines.{Text}
use Rattle.hls_report_text.specs.declared.stretch.Stretch.{Stretch}
use Rattle.hls_report_text.specs.WellFormed.{Cover}
use Rattle.hls_legal.specs.Schedule.{tick_list, has_tick, path_at}

cover_le : (from : ℕ) (last : Option (Option (List Text))) (stretches : List Stretch) (end : ℕ)
    → Cover from last stretches end → from ≤ end
cover_le from last [] end cover = omega (arith, cover)
cover_le from last (s ∷ stretches) end cover =
    let rest = cover_le (s.to + 1) (Some s.path) stretches end cover.4 in
    let ahead = cover.1 in
    omega arith

ticks_of : Stretch → ℕ
ticks_of s = s.to + 1 - s.from

spelled_count : (from : ℕ) (last : Option (Option (List Text))) (stretches : List Stretch) (end : ℕ)
    → Cover from last stretches end → length (tick_list stretches) + from ≡ end
spelled_count from last [] end cover = omega (arith, cover)
spelled_count from last (s ∷ stretches) end cover =
    let rest = spelled_count (s.to + 1) (Some s.path) stretches end cover.4 in
    let starts = cover.0 in
    let ahead = cover.1 in
    let these = length-append (replicate (s.to + 1 - s.from) s.path) (tick_list stretches) in
    let first = length-replicate (s.to + 1 - s.from) s.path in
    omega arith

pub spelled_length : (last : Option (Option (List Text))) (stretches : List Stretch) (end : ℕ)
    → Cover 0 last stretches end → length (tick_list stretches) ≡ end
spelled_length last stretches end cover = omega (arith, spelled_count 0 last stretches end cover)

get_first : {A : Type 0} (n i : ℕ) (x : A) (xs : List A) → i < n → slice_get (replicate n x ++ xs) i ≡ Some x
get_first zero i x xs lt = absurd (omega arith)
get_first (suc n) zero x xs lt = refl
get_first (suc n) (suc i) x xs lt = get_first n i x xs (omega arith)

get_rest : {A : Type 0} (n i : ℕ) (x : A) (xs : List A) → n ≤ i
    → slice_get (replicate n x ++ xs) i ≡ slice_get xs (i - n)
get_rest zero i x xs le = (let same : i - 0 ≡ i = omega arith in ap (slice_get xs) (sym same))
get_rest (suc n) zero x xs le = absurd (omega arith)
get_rest (suc n) (suc i) x xs le =
    (let same : suc i - suc n ≡ i - n = omega arith in get_rest n i x xs (omega arith)
    ∙ ap (slice_get xs) (sym same))

has_it : (t : ℕ) (s : Stretch) → s.from ≤ t → t ≤ s.to → has_tick t s ≡ true
has_it t s lo hi =
    ap (λ b. b && nat_le t s.to) (le-leb s.from t lo) ∙ le-leb t s.to hi

past_it : (t : ℕ) (s : Stretch) → s.from ≤ t → s.to < t → has_tick t s ≡ false
past_it t s lo hi =
    ap (λ b. b && nat_le t s.to) (le-leb s.from t lo) ∙ lt-leb t s.to hi

pub path_first : (s : Stretch) (stretches : List Stretch) (t : ℕ) (b : Bool) → has_tick t s ≡ b
    → path_at (s ∷ stretches) t ≡ cond b s.path (path_at stretches t)
unfolding path_at
path_first s stretches t true e =
    ap (λ (x : Bool). option_and_then (λ (r : Stretch). r.path)
    (cond x (Some s) (find (has_tick t) stretches))) e
path_first s stretches t false e =
    ap (λ (x : Bool). option_and_then (λ (r : Stretch). r.path)
    (cond x (Some s) (find (has_tick t) stretches))) e

spelled_from : (from : ℕ) (last : Option (Option (List Text))) (stretches : List Stretch) (end t : ℕ)
    → Cover from last stretches end → from ≤ t → t < end
    → slice_get (tick_list stretches) (t - from) ≡ Some (path_at stretches t)
spelled_from from last [] end t cover lo hi = absurd (omega (arith, cover))
spelled_from from last (s ∷ stretches) end t cover lo hi =
    let starts = cover.0 in
    let ahead = cover.1 in
    let n : ℕ = s.to + 1 - s.from in
    elim (cases_lt s.to t) [
      | inl past ↦
          let rest = spelled_from (s.to + 1) (Some s.path) stretches end t cover.4 (omega arith) hi in
          let same : t - from - (s.to + 1 - s.from) ≡ t - (s.to + 1) = omega arith in
          get_rest (s.to + 1 - s.from) (t - from) s.path (tick_list stretches) (omega arith)
          ∙ ap (slice_get (tick_list stretches)) same ∙ rest
          ∙ ap (λ p. Some p) (sym (path_first s stretches t false (past_it t s (omega arith) past)))
      | inr le ↦
          get_first (s.to + 1 - s.from) (t - from) s.path (tick_list stretches) (omega arith)
          ∙ ap (λ p. Some p) (sym (path_first s stretches t true (has_it t s (omega arith) le)))
    ]

pub spelled_at : (last : Option (Option (List Text))) (stretches : List Stretch) (end t : ℕ)
    → Cover 0 last stretches end → t < end → slice_get (tick_list stretches) t ≡ Some (path_at stretches t)
spelled_at last stretches end t cover lt =
    let same : t - 0 ≡ t = omega arith in
    ap (slice_get (tick_list stretches)) (sym same)
    ∙ spelled_from 0 last stretches end t cover (omega arith) lt
