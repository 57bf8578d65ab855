-- The ticks in which a thread is served, run by run.
use Rattle.std.proofs.Common.{◌≡◌, ℕ, zero, suc, ◌+◌, ◌<◌, ◌≤◌, List, [], ◌∷◌, length, map, get_or}
use Rattle.std.proofs.Common.{refl, sym, ap, ◌∙◌, inl, inr, subst, arith}
use Rattle.std.specs.Prelude.{Option, Some, None, Bool, true, false, ◌&&◌, nat_le, slice_get, option_map}
use Rattle.std.proofs.lemmas.Bool.{cases_eq, cases_lt, cases_Bool, leb-true}
use Rattle.std.proofs.lemmas.Option.{slice_get_within, slice_get-get_or}
use Rattle.hls_text.specs.Lines.{Text}
use Rattle.hls_audit_spans.specs.declared.span.Span.{Span}
use Rattle.hls_audit_spans.specs.Spans.{Tell}
use Rattle.hls_audit_spans.proofs.Growing.{tell_none, tell_wider}
use Rattle.hls_report_text.specs.declared.report.Run.{Run}
use Rattle.hls_report_text.specs.declared.report.Report.{Report}
use Rattle.hls_report_text.specs.Content.{Content, content_of, stretch_of, path_names}
use Rattle.hls_report_text.specs.WellFormed.{Cover, IsContent}
use Rattle.hls_report_text.proofs.LineTexts.{horizon_fits}
use Rattle.hls_legal.specs.Schedule.{has_tick, path_at, is_served}
use Rattle.hls_audit_threads.specs.declared.chains.Chains.{Chains}
use Rattle.hls_audit_threads.specs.Inside.Chains.{Keys, HasKey, IsNextAt, IsNext, AreChains, next_of}
use Rattle.hls_audit_threads.specs.Inside.Lines.{serves}
use Rattle.hls_audit_threads.specs.Inside.Lookups.{AreKeys, Serves, ServesNamed}
use Rattle.hls_audit_threads.specs.Inside.Ticks.{TellsServed}
use Rattle.hls_audit_threads.proofs.EachName.{has_thread}
use Rattle.hls_legal.proofs.TickLists.{path_first}
use Rattle.hls_audit_threads.proofs.OnPaths.{path_none, no_name}
use Rattle.hls_audit_threads.proofs.RunLaws.{path_is, run_since}

-- ---- what a report says

-- the run that has a tick
record HasRun (names : List Text) (runs : List Run) (t : ℕ) (path : List Text) : Type 0 where
  run : Run
  number : ℕ
  there : slice_get runs number ≡ Some run
  since : run.from ≤ t
  until : t ≤ run.to
  is : option_map (path_names names) run.path ≡ Some path

both : (a b : Bool) → (a && b) ≡ true → (a ≡ true) × (b ≡ true)
both true b e = (refl, e)
both false b e = absurd (let wrong : false ≡ true = e in cc)

has_run : (names : List Text) (runs : List Run) (t : ℕ) (path : List Text)
    → path_at (map (stretch_of names) runs) t ≡ Some path → HasRun names runs t path
has_run names [] t path e = absurd (let wrong : None ≡ Some path = sym (path_none t) ∙ e in cc)
has_run names (r ∷ runs) t path e = at (has_tick t (stretch_of names r)) refl (has_run names runs t path)
  where
    at : (b : Bool) → has_tick t (stretch_of names r) ≡ b
        → (path_at (map (stretch_of names) runs) t ≡ Some path → HasRun names runs t path)
        → HasRun names (r ∷ runs) t path
    at true is later =
        let within = both (nat_le r.from t) (nat_le t r.to) is in record {
          run = r;
          number = 0;
          there = refl;
          since = leb-true r.from t within.0;
          until = leb-true t r.to within.1;
          is = sym (path_first (stretch_of names r) (map (stretch_of names) runs) t true is) ∙ e;
        }
    at false is later =
        let rest = later (sym (path_first (stretch_of names r) (map (stretch_of names) runs) t false is) ∙ e) in
        record {
          run = rest.run;
          number = suc rest.number;
          there = rest.there;
          since = rest.since;
          until = rest.until;
          is = rest.is;
        }

served_is : (c : Content) (name : Text) (t : ℕ) → serves name (path_at c.stretches t) ≡ is_served c.stretches name t
unfolding is_served
served_is c name t = refl

-- a run of a thread that has a tick
record HasMark (runs : List Run) (keys : Keys) (name : Text) (t : ℕ) : Type 0 where
  run : Run
  number : ℕ
  there : slice_get runs number ≡ Some run
  key : HasKey keys name number
  since : run.from ≤ t
  until : t ≤ run.to

served_on : (r : Report) (keys : Keys) (name : Text) (number t : ℕ) (run : Run) → IsContent (content_of r)
    → AreKeys (Serves r.names) (ServesNamed r.names) r.runs keys → slice_get r.runs number ≡ Some run
    → HasKey keys name number → run.from ≤ t → t ≤ run.to → is_served (content_of r).stretches name t ≡ true
served_on r keys name number t run formed are there key lo hi =
    let path = path_is (content_of r) r.names r.runs t number run formed refl there lo hi in
    let serves_it : serves name (stretch_of r.names run).path ≡ true = are.sound number run name there key in
    sym (served_is (content_of r) name t) ∙ ap (serves name) path ∙ serves_it

served_mark : (r : Report) (keys : Keys) (name : Text) (t : ℕ) → IsContent (content_of r)
    → AreKeys (Serves r.names) (ServesNamed r.names) r.runs keys → is_served (content_of r).stretches name t ≡ true
    → HasMark r.runs keys name t
served_mark r keys name t formed are on =
    let thread = has_thread (content_of r) name t on in
    let run = has_run r.names r.runs t thread.names thread.path in
    let path = path_is (content_of r) r.names r.runs t run.number run.run formed refl run.there run.since run.until in
    let serves_it : serves name (stretch_of r.names run.run).path ≡ true =
    sym (ap (serves name) path) ∙ served_is (content_of r) name t ∙ on in
    let named : ServesNamed r.names run.run name =
    (no_name (content_of r) t thread.names name formed thread.path thread.thread, serves_it) in record {
      run = run.run;
      number = run.number;
      there = run.there;
      key = are.all run.number run.run name run.there named;
      since = run.since;
      until = run.until;
    }

-- runs end below the horizon
run_ends : (names : List Text) (from : ℕ) (last : Option (Option (List Text))) (runs : List Run) (end at : ℕ)
    (run : Run) → Cover from last (map (stretch_of names) runs) end → slice_get runs at ≡ Some run
    → (from ≤ end) × (run.to < end)
run_ends names from last [] end at run cover there = absurd (cc)
run_ends names from last (r ∷ []) end zero run cover there =
    let same : r ≡ run = cc in
    let starts = cover.0 in
    let ahead = cover.1 in
    let ends = cover.4 in
    (omega (arith, starts, ahead, ends), subst (λ (x : Run). x.to < end) same (omega (arith, ends)))
run_ends names from last (r ∷ s ∷ runs) end zero run cover there =
    let same : r ≡ run = cc in
    let ahead = cover.1 in
    let rest = run_ends names (r.to + 1) (Some (stretch_of names r).path) (s ∷ runs) end zero s cover.4 refl in
    let le = rest.0 in
    (omega (arith, ahead, le), subst (λ (x : Run). x.to < end) same (omega (arith, le)))
run_ends names from last (r ∷ runs) end (suc at) run cover there =
    let ahead = cover.1 in
    let rest = run_ends names (r.to + 1) (Some (stretch_of names r).path) runs end at run cover.4 there in
    let le = rest.0 in
    (omega (arith, ahead, le), rest.1)

-- and come one after the other
runs_apart : (names : List Text) (from : ℕ) (last : Option (Option (List Text))) (runs : List Run) (end i j : ℕ)
    (a b : Run) → Cover from last (map (stretch_of names) runs) end → slice_get runs i ≡ Some a
    → slice_get runs j ≡ Some b → i < j → a.to < b.from
runs_apart names from last [] end i j a b cover one other lt = absurd (cc)
runs_apart names from last (r ∷ runs) end i zero a b cover one other lt = absurd (omega (arith, lt))
runs_apart names from last (r ∷ runs) end zero (suc j) a b cover one other lt =
    let same : r ≡ a = cc in
    let rest = (run_since names (r.to + 1) (Some (stretch_of names r).path) runs end j b cover.4 other).0 in
    subst (λ (x : Run). x.to < b.from) same (omega (arith, rest))
runs_apart names from last (r ∷ runs) end (suc i) (suc j) a b cover one other lt =
    runs_apart names (r.to + 1) (Some (stretch_of names r).path) runs end i j a b cover.4 one other
    (omega (arith, lt))

-- what is known of a run of a report
record HasRoom (r : Report) (at : ℕ) (run : Run) : Type 0 where
  order : run.from ≤ run.to
  within : run.to < r.horizon
  past : (k : ℕ) (other : Run) → k < at → slice_get r.runs k ≡ Some other → other.to < run.from
  ahead : (k : ℕ) (other : Run) → at < k → slice_get r.runs k ≡ Some other → run.to < other.from

room : (r : Report) (at : ℕ) (run : Run) → IsContent (content_of r) → slice_get r.runs at ≡ Some run → HasRoom r at run
room r at run formed there = record {
  order = (run_since r.names 0 None r.runs r.horizon at run formed.cover there).1;
  within = (run_ends r.names 0 None r.runs r.horizon at run formed.cover there).1;
  past = λ k other lt one. runs_apart r.names 0 None r.runs r.horizon k at other run formed.cover one there lt;
  ahead = λ k other lt one. runs_apart r.names 0 None r.runs r.horizon at k run other formed.cover there one lt;
}

-- ---- a walk along the runs of a thread

pub record IsServing (r : Report) (keys : Keys) (name : Text) (spans : List Span) (next : Option ℕ) : Type 0 where
  pub upto : ℕ
  pub reached : ℕ
  pub next_is : IsNext keys name upto next
  pub tell : Tell (is_served (content_of r).stretches name) spans reached
  pub within : reached ≤ r.horizon
  pub past : (k : ℕ) (run : Run) → k < upto → slice_get r.runs k ≡ Some run → run.to < reached
  pub ahead : (k : ℕ) (run : Run) → upto ≤ k → slice_get r.runs k ≡ Some run → reached ≤ run.from

pub serving_none : (r : Report) (keys : Keys) (name : Text) (spans : List Span) (next : Option ℕ) → spans ≡ []
    → IsNext keys name 0 next → IsServing r keys name spans next
serving_none r keys name spans next none is = record {
  upto = 0;
  reached = 0;
  next_is = is;
  tell = subst (λ (l : List Span). Tell (is_served (content_of r).stretches name) l 0) (sym none)
      (tell_none (is_served (content_of r).stretches name));
  within = omega arith;
  past = λ k run lt. absurd (omega (arith, lt));
  ahead = λ k run le there. omega arith;
}

-- the run that comes next
pub serving_there : (r : Report) (keys : Keys) (name : Text) (spans : List Span) (at : ℕ)
    → AreKeys (Serves r.names) (ServesNamed r.names) r.runs keys → IsServing r keys name spans (Some at)
    → at < length r.runs
serving_there r keys name spans at are going =
    let here : IsNextAt keys name going.upto at = going.next_is in
    let lt = slice_get_within keys at (Some name) here.here in
    let long = are.long in omega (arith, lt, long)

pub serving_next : (r : Report) (keys : Keys) (chains : Chains) (name : Text) (spans : List Span) (at : ℕ)
    → AreChains keys chains → IsServing r keys name spans (Some at) → IsNext keys name (at + 1) (next_of chains at)
serving_next r keys chains name spans at linked going =
    let here : IsNextAt keys name going.upto at = going.next_is in linked.next at name (omega arith) here.here

-- the run as it is read
pub run_there : (r : Report) (items : List Run) (at : ℕ) (d : Run) → items ≡ r.runs → at < length r.runs
    → slice_get r.runs at ≡ Some (get_or items at d)
run_there r items at d same lt =
    subst (λ (l : List Run). slice_get l at ≡ Some (get_or items at d)) same
    (slice_get-get_or items at d (subst (λ (l : List Run). at < length l) (sym same) lt))

pub run_order : (r : Report) (items : List Run) (at : ℕ) (d : Run) → IsContent (content_of r) → items ≡ r.runs
    → at < length r.runs → (get_or items at d).from ≤ (get_or items at d).to
run_order r items at d formed same lt =
    (room r at (get_or items at d) formed (run_there r items at d same lt)).order

pub run_few : (r : Report) (items : List Run) (at : ℕ) (d : Run) → IsContent (content_of r) → items ≡ r.runs
    → at < length r.runs → (get_or items at d).to < 1000000
run_few r items at d formed same lt =
    let within = (room r at (get_or items at d) formed (run_there r items at d same lt)).within in
    let most = horizon_fits r.version r.horizon formed.horizon in omega (arith, within, most)

-- none is served before it
off_before : (r : Report) (keys : Keys) (name : Text) (spans : List Span) (at : ℕ) (run : Run)
    → IsContent (content_of r) → AreKeys (Serves r.names) (ServesNamed r.names) r.runs keys
    → slice_get r.runs at ≡ Some run → (going : IsServing r keys name spans (Some at))
    → (t : ℕ) → going.reached ≤ t → t < run.from → is_served (content_of r).stretches name t ≡ false
off_before r keys name spans at run formed are there going t lo hi =
    elim (cases_Bool (is_served (content_of r).stretches name t)) [
      | inr off ↦ off
      | inl on ↦ absurd (never (served_mark r keys name t formed are on))
    ]
  where
    never : ¬ HasMark r.runs keys name t
    never m =
        let since = m.since in
        let until = m.until in
        let has = room r at run formed there in
        let here : IsNextAt keys name going.upto at = going.next_is in
        elim (cases_lt m.number going.upto) [
          | inl old ↦ let past = going.past m.number m.run old m.there in omega (arith, past, lo, until)
          | inr new ↦ elim (cases_lt m.number at) [
            | inl between ↦ here.none m.number new between m.key
            | inr later ↦ elim (cases_eq m.number at) [
              | inl same ↦
                  let one : Some run ≡ Some m.run = sym there ∙ ap (slice_get r.runs) (sym same) ∙ m.there in
                  let is : run ≡ m.run = cc in
                  let begins = subst (λ (x : Run). x.from ≤ t) (sym is) m.since in omega (arith, begins, hi)
              | inr ne ↦
                  let order = has.order in
                  let ahead = has.ahead m.number m.run (omega (arith, later, ne)) m.there in
                  omega (arith, ahead, order, since, hi)
            ]
          ]
        ]

pub serving_more : (r : Report) (keys : Keys) (name : Text) (old new : List Span) (at : ℕ) (run : Run)
    (next : Option ℕ) → IsContent (content_of r) → AreKeys (Serves r.names) (ServesNamed r.names) r.runs keys
    → slice_get r.runs at ≡ Some run
    → ((f : ℕ → Bool) → Tell f old run.from → ((t : ℕ) → run.from ≤ t → t < run.to + 1 → f t ≡ true)
    → Tell f new (run.to + 1))
    → IsNext keys name (at + 1) next → IsServing r keys name old (Some at) → IsServing r keys name new next
serving_more r keys name old new at run next formed are there adds behind going =
    let has = room r at run formed there in
    let order = has.order in
    let within = has.within in
    let here : IsNextAt keys name going.upto at = going.next_is in
    let f = is_served (content_of r).stretches name in
    let begins = going.ahead at run here.behind there in
    record {
      upto = at + 1;
      reached = run.to + 1;
      next_is = behind;
      tell = adds f
          (tell_wider f old going.reached run.from begins (off_before r keys name old at run formed are there going)
          going.tell)
          (λ t lo hi. served_on r keys name at t run formed are there here.here lo (omega (arith, hi)));
      within = omega (arith, within);
      past = λ k other lt one. elim (cases_eq k at) [
        | inl same ↦
            let both : Some run ≡ Some other = sym there ∙ ap (slice_get r.runs) (sym same) ∙ one in
            let is : run ≡ other = cc in
            subst (λ (x : Run). x.to < run.to + 1) is (omega arith)
        | inr ne ↦ let past = has.past k other (omega (arith, lt, ne)) one in omega (arith, past, order)
      ];
      ahead = λ k other le one. let ahead = has.ahead k other (omega (arith, le)) one in omega (arith, ahead);
    }

pub serving_all : (r : Report) (keys : Keys) (name : Text) (spans : List Span) → IsContent (content_of r)
    → AreKeys (Serves r.names) (ServesNamed r.names) r.runs keys → IsServing r keys name spans None
    → TellsServed (content_of r) name spans
serving_all r keys name spans formed are going =
    tell_wider (is_served (content_of r).stretches name) spans going.reached r.horizon going.within
    (λ t lo hi. elim (cases_Bool (is_served (content_of r).stretches name t)) [
      | inr off ↦ off
      | inl on ↦ absurd (never t lo (served_mark r keys name t formed are on))
    ]) going.tell
  where
    never : (t : ℕ) → going.reached ≤ t → ¬ HasMark r.runs keys name t
    never t lo m =
        let until = m.until in
        elim (cases_lt m.number going.upto) [
          | inl old ↦ let past = going.past m.number m.run old m.there in omega (arith, past, lo, until)
          | inr new ↦ going.next_is m.number new m.key
        ]
