-- Threads that run and are not ready, name by name.
use Rattle.std.proofs.Common.{◌≡◌, ℕ, ◌-◌, ◌<◌, ◌≤◌, inl, inr, List, [], ◌∷◌, length, map, take, get_or}
use Rattle.std.proofs.Common.{refl, sym, ap, ◌∙◌, subst, arith}
use Rattle.std.specs.Prelude.{Bool, true, false, Option, Some, None, slice_get, option_map}
use Rattle.std.specs.Prelude.{option_and_then}
use Rattle.std.proofs.lemmas.Bool.{cases_lt}
use Rattle.std.proofs.lemmas.List.{get_or_past}
use Rattle.std.proofs.lemmas.Option.{slice_get-get_or}
use Rattle.std.proofs.lemmas.Slice.Eq.{bytes_eq-Decides}
use Rattle.hls_text.specs.Lines.{Text}
use Rattle.hls_audit_spans.specs.Spans.{IsBeyond}
use Rattle.hls_report_text.specs.declared.report.Path.{Path}
use Rattle.hls_report_text.specs.declared.report.Run.{Run}
use Rattle.hls_report_text.specs.declared.report.Report.{Report}
use Rattle.hls_report_text.specs.Content.{Content, content_of, path_names, stretch_of}
use Rattle.hls_report_text.specs.WellFormed.{IsContent}
use Rattle.hls_legal.specs.Ready.{is_ready}
use Rattle.hls_legal.specs.Schedule.{has_tick, path_at, last_name, is_name, is_served}
use Rattle.hls_audit_clauses.specs.Clauses.{RunsUnready}
use Rattle.hls_audit_watch.specs.First.{FirstAt}
use Rattle.hls_audit_threads.specs.Inside.Unready.{IsUnready}
use Rattle.hls_audit_threads.proofs.EachStay.{HasEarly, first_same}
use Rattle.hls_legal.proofs.TickLists.{path_first}
use Rattle.hls_audit_threads.proofs.OnPaths.{path_none, path_early, last_is, no_name}

-- ---- from spans of ticks

-- what a served tick has
pub record HasThread (c : Content) (name : Text) (t : ℕ) : Type 0 where
  pub names : List Text
  pub path : path_at c.stretches t ≡ Some names
  pub thread : last_name names ≡ Some name

by_last : (c : Content) (name : Text) (t : ℕ) (names : List Text) (last : Option Text)
    → path_at c.stretches t ≡ Some names → last_name names ≡ last → is_name name last ≡ true → HasThread c name t
by_last c name t names None path e on = absurd (let wrong : false ≡ true = on in cc)
by_last c name t names (Some other) path e on =
    record { names = names; path = path; thread = e ∙ ap Some ((bytes_eq-Decides other name).0 on) }

by_path : (c : Content) (name : Text) (t : ℕ) (path : Option (List Text)) → path_at c.stretches t ≡ path
    → is_name name (option_and_then last_name path) ≡ true → HasThread c name t
by_path c name t None e on = absurd (let wrong : false ≡ true = on in cc)
by_path c name t (Some names) e on = by_last c name t names (last_name names) e refl on

pub has_thread : (c : Content) (name : Text) (t : ℕ) → is_served c.stretches name t ≡ true → HasThread c name t
unfolding is_served
has_thread c name t on = by_path c name t (path_at c.stretches t) refl on

serves_it : (c : Content) (name : Text) (t : ℕ) (names : List Text) → path_at c.stretches t ≡ Some names
    → last_name names ≡ Some name → is_served c.stretches name t ≡ true
unfolding is_served
serves_it c name t names path last =
    ap (λ (p : Option (List Text)). is_name name (option_and_then last_name p)) path
    ∙ ap (is_name name) last ∙ (bytes_eq-Decides name name).1 refl

pub lack_told : (c : Content) (name : Text) (first : Option ℕ) → IsContent c
    → IsBeyond (is_served c.stretches name) (is_ready c name) c.horizon first
    → FirstAt (λ t. IsUnready c t name) first
lack_told c name None formed never = λ t lack.
    let has = has_thread c name t lack.served in
    let early = path_early c t has.names formed has.path in
    absurd (let wrong : true ≡ false = sym (never t early lack.served) ∙ lack.unready in cc)
lack_told c name (Some t) formed beyond = record {
  here = record { served = beyond.on; unready = beyond.off };
  earliest = λ k lt lack.
      absurd (let wrong : true ≡ false = sym (beyond.none k lt lack.served) ∙ lack.unready in cc);
}

-- ---- names of a report

record HasPath (names path : List Text) : Type 0 where
  by : Path
  is : path_names names by ≡ path

from_run : (names path : List Text) (by : Option Path) → option_map (path_names names) by ≡ Some path
    → HasPath names path
from_run names path None e = absurd (cc)
from_run names path (Some by) e = record { by = by; is = let same : path_names names by ≡ path = cc in same }

has_path : (names : List Text) (runs : List Run) (t : ℕ) (path : List Text)
    → path_at (map (stretch_of names) runs) t ≡ Some path → HasPath names path
has_path names [] t path e = absurd (let wrong : None ≡ Some path = sym (path_none t) ∙ e in cc)
has_path names (r ∷ runs) t path e = at (has_tick t (stretch_of names r)) refl (has_path names runs t path)
  where
    at : (b : Bool) → has_tick t (stretch_of names r) ≡ b
        → (path_at (map (stretch_of names) runs) t ≡ Some path → HasPath names path) → HasPath names path
    at true is later =
        from_run names path r.path
        (sym (path_first (stretch_of names r) (map (stretch_of names) runs) t true is) ∙ e)
    at false is later = later (sym (path_first (stretch_of names r) (map (stretch_of names) runs) t false is) ∙ e)

-- a name stands in the list
record IsListed (names : List Text) (name : Text) : Type 0 where
  at : ℕ
  within : at < length names
  there : slice_get names at ≡ Some name

by_place : (names : List Text) (name : Text) (place : Option ℕ) → (name ≡ [] → ⊥)
    → option_map (λ (at : ℕ). get_or names at []) place ≡ Some name → IsListed names name
by_place names name None some e = absurd (cc)
by_place names name (Some at) some e =
    let same : get_or names at [] ≡ name = cc in elim (cases_lt at (length names)) [
      | inl lt ↦ record { at = at; within = lt; there = slice_get-get_or names at [] lt ∙ ap Some same }
      | inr le ↦ absurd (some (sym same ∙ get_or_past names at [] le))
    ]

listed : (r : Report) (t : ℕ) (path : List Text) (name : Text) → IsContent (content_of r)
    → path_at (content_of r).stretches t ≡ Some path → last_name path ≡ Some name → IsListed r.names name
listed r t path name formed e last =
    let has = has_path r.names r.runs t path e in
    let place : Option ℕ =
    slice_get (take has.by.len has.by.names) (length (take has.by.len has.by.names) - 1) in
    by_place r.names name place
    (no_name (content_of r) t path name formed e last)
    (sym (last_is r.names has.by place refl) ∙ ap last_name has.is ∙ last)

pub unready_first : (r : Report) (all : List Text) (i : ℕ) (first : Option ℕ) → IsContent (content_of r)
    → length all ≤ i → all ≡ r.names → FirstAt (λ t. HasEarly (IsUnready (content_of r) t) all i) first
    → FirstAt (RunsUnready (content_of r)) first
unready_first r all i first formed end e =
    first_same (λ t. HasEarly (IsUnready (content_of r) t) all i) (RunsUnready (content_of r)) first
    (λ t has.
    let thread = has_thread (content_of r) has.one t has.is.served in record {
      names = thread.names;
      name = has.one;
      path = thread.path;
      thread = thread.thread;
      unready = has.is.unready;
    })
    (λ t m.
    let there = listed r t m.names m.name formed m.path m.thread in
    let lt = there.within in
    let long : length all ≡ length r.names = ap (λ (l : List Text). length l) e in record {
      one = m.name;
      number = there.at;
      before = omega (arith, lt, long, end);
      listed = subst (λ (l : List Text). slice_get l there.at ≡ Some m.name) (sym e) there.there;
      is = record {
        served = serves_it (content_of r) m.name t m.names m.path m.thread;
        unready = m.unready;
      };
    })
