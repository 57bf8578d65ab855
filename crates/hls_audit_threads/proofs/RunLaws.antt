-- Runs, one after the other.
use Rattle.std.proofs.Common.{◌≡◌, ℕ, zero, suc, ◌+◌, ◌<◌, ◌≤◌, List, [], ◌∷◌, map}
use Rattle.std.proofs.Common.{refl, sym, ap, ◌∙◌, subst, arith}
use Rattle.std.specs.Prelude.{true, false, Option, Some, None, ◌&&◌, nat_le, slice_get, option_map}
use Rattle.std.proofs.lemmas.Bool.{le-leb, lt-leb}
use Rattle.hls_text.specs.Lines.{Text}
use Rattle.hls_report_text.specs.declared.report.Run.{Run}
use Rattle.hls_report_text.specs.declared.stretch.Stretch.{Stretch}
use Rattle.hls_report_text.specs.Content.{Content, path_names, stretch_of}
use Rattle.hls_report_text.specs.WellFormed.{Cover, IsContent}
use Rattle.hls_legal.specs.Schedule.{has_tick, path_at}
use Rattle.hls_legal.proofs.TickLists.{path_first}

module _ (names : List Text) where
  pub run_since : (from : ℕ) (last : Option (Option (List Text))) (runs : List Run) (end at : ℕ) (run : Run)
      → Cover from last (map (stretch_of names) runs) end → slice_get runs at ≡ Some run
      → (from ≤ run.from) × (run.from ≤ run.to)
  run_since from last [] end at run cover there = absurd (cc)
  run_since from last (r ∷ runs) end zero run cover there =
      let same : r ≡ run = cc in
      let starts = cover.0 in
      let ahead = cover.1 in
      subst (λ (x : Run). (from ≤ x.from) × (x.from ≤ x.to)) same (omega (arith, starts), omega (arith, starts, ahead))
  run_since from last (r ∷ runs) end (suc at) run cover there =
      let starts = cover.0 in
      let ahead = cover.1 in
      let rest = run_since (r.to + 1) (Some (stretch_of names r).path) runs end at run cover.4 there in
      let first = rest.0 in
      (omega (arith, ahead, first), rest.1)

  -- a run and the next one
  pub record HasNext (runs : List Run) (at : ℕ) (run : Run) : Type 0 where
    pub next : Run
    pub there : slice_get runs (suc at) ≡ Some next
    pub since : next.from ≡ run.to + 1

  pub run_next : (from : ℕ) (last : Option (Option (List Text))) (runs : List Run) (end at : ℕ) (run : Run)
      → Cover from last (map (stretch_of names) runs) end → slice_get runs at ≡ Some run → run.to + 1 < end
      → HasNext runs at run
  run_next from last [] end at run cover there early = absurd (cc)
  run_next from last (r ∷ []) end zero run cover there early =
      let same : r ≡ run = cc in
      absurd (subst (λ (x : Run). x.to + 1 < end → ⊥) same (λ lt. let ends = cover.4 in omega (arith, lt, ends)) early)
  run_next from last (r ∷ s ∷ runs) end zero run cover there early =
      let same : r ≡ run = cc in
      record { next = s; there = refl; since = subst (λ (x : Run). s.from ≡ x.to + 1) same cover.4.0 }
  run_next from last (r ∷ runs) end (suc at) run cover there early =
      let rest = run_next (r.to + 1) (Some (stretch_of names r).path) runs end at run cover.4 there early in
      record { next = rest.next; there = rest.there; since = rest.since }

  path_here : (from : ℕ) (last : Option (Option (List Text))) (runs : List Run) (end at t : ℕ) (run : Run)
      → Cover from last (map (stretch_of names) runs) end → slice_get runs at ≡ Some run → run.from ≤ t → t ≤ run.to
      → path_at (map (stretch_of names) runs) t ≡ option_map (path_names names) run.path
  path_here from last [] end at t run cover there lo hi = absurd (cc)
  path_here from last (r ∷ runs) end zero t run cover there lo hi =
      let same : run ≡ r = cc in
      let now : has_tick t (stretch_of names run) ≡ true =
      ap (λ b. b && nat_le t run.to) (le-leb run.from t lo) ∙ le-leb t run.to hi in
      let first : has_tick t (stretch_of names r) ≡ true =
      subst (λ (x : Run). has_tick t (stretch_of names x) ≡ true) same now in
      path_first (stretch_of names r) (map (stretch_of names) runs) t true first
      ∙ ap (λ (x : Run). option_map (path_names names) x.path) (sym same)
  path_here from last (r ∷ runs) end (suc at) t run cover there lo hi =
      let starts = cover.0 in
      let ahead = cover.1 in
      let later = (run_since (r.to + 1) (Some (stretch_of names r).path) runs end at run cover.4 there).0 in
      let began : r.from ≤ t = omega (arith, starts, ahead, later, lo) in
      let past : r.to < t = omega (arith, later, lo) in
      let over : has_tick t (stretch_of names r) ≡ false =
      ap (λ b. b && nat_le t r.to) (le-leb r.from t began) ∙ lt-leb t r.to past in
      path_first (stretch_of names r) (map (stretch_of names) runs) t false over
      ∙ path_here (r.to + 1) (Some (stretch_of names r).path) runs end at t run cover.4 there lo hi

pub path_is : (c : Content) (names : List Text) (runs : List Run) (t at : ℕ) (run : Run) → IsContent c
    → c.stretches ≡ map (stretch_of names) runs → slice_get runs at ≡ Some run → run.from ≤ t → t ≤ run.to
    → path_at c.stretches t ≡ option_map (path_names names) run.path
path_is c names runs t at run formed e there lo hi =
    subst (λ (l : List Stretch). path_at l t ≡ option_map (path_names names) run.path) (sym e)
    (path_here names 0 None runs c.horizon at t run
    (subst (λ (l : List Stretch). Cover 0 None l c.horizon) e formed.cover) there lo hi)

pub one_run : (one other : Run) → Some one ≡ Some other → one ≡ other
one_run one other e = cc
