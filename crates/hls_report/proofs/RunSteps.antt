-- The runs are read line by line.
use Rattle.std.proofs.Common.{◌≡◌, ℕ, ◌+◌, ◌^◌, ◌<◌, ◌≤◌, List, [], ◌∷◌, ◌++◌, length, take, refl, sym}
use Rattle.std.proofs.Common.{ap, ◌∙◌, subst, arith, inl, inr}
use Rattle.std.specs.Prelude.{codes, map, option_map, Option, Some, None}
use Rattle.std.specs.Prelude.{Result, Ok, Err, IfErr}
use Rattle.std.specs.Result.{IsErrAnd}
use Rattle.std.specs.List.{AllByRecursion}
use Rattle.std.proofs.lemmas.List.{map-append}
use Rattle.hls_text.specs.Lines.{Text}
use Rattle.hls_chron.specs.Name.{IsName}
use Rattle.hls_scenario.proofs.CanonicalLines.{all_append}
use Rattle.hls_report.specs.declared.fault.ReportFault.{ReportFault}
use Rattle.hls_report.specs.declared.fault.ReportFault.TheVariants as faults
use Rattle.hls_report.specs.declared.lines.Lines.{Lines}
use Rattle.hls_report_text.specs.declared.report.Path.{Path}
use Rattle.hls_report_text.specs.declared.report.Run.{Run}
use Rattle.hls_report_text.specs.declared.stretch.Stretch.{Stretch}
use Rattle.hls_report_text.specs.Content.{path_names, stretch_of}
use Rattle.hls_report_text.specs.ReportText.{two_words, span_text, path_text, stretch_text}
use Rattle.hls_report_text.specs.WellFormed.{IsPath, Cover, with_path, FewNames, HasShort, IsOneLine}
use Rattle.hls_report_text.specs.Inside.Reading.{spanned_at}
use Rattle.hls_report.specs.Inside.Rests.{NextStretch, RunRest, AccountRest, Passes, FailsAt}
use Rattle.hls_report.specs.Inside.RunLines.{FitsPath, IsInside, IsNextRun, IsRunTold, IsLast, AreNames, IsRunRead}
use Rattle.hls_report.specs.Inside.RunLines.{RunFails, AccountsPass, AccountsFail, IsSchedule}
use Rattle.hls_report_text.specs.WellFormed.{names_after}
use Rattle.hls_text.proofs.Marks.{cut_same}
use Rattle.hls_report_text.proofs.LineTexts.{span_lacks, path_same}
use Rattle.hls_report.proofs.LineReadings.{spanned_again}
use Rattle.hls_report_text.proofs.NameLaws.{Grows, grown_in, grown_names, names_named}
use Rattle.hls_report_text.proofs.Contents.{path_grows}
use Rattle.hls_report.proofs.RestLaws.{AreKnown, some_run, run_next, run_onto, run_off, no_last_run}
use Rattle.hls_report.proofs.RestLaws.{last_lines, some_account, accounts_onto, accounts_off}
use Rattle.hls_report.proofs.Stuck.{none_passed, pass_on, pass_line, fail_line, fail_end, fail_behind}

-- ---- the ticks of a run

pub no_front : (h from : ℕ) (line : Text) → h ≤ 1000000 → spanned_at line ≡ None → (s : Stretch)
    → s.from ≡ from → from ≤ s.to → s.to < h → line ≡ stretch_text s → ⊥
no_front h from line fits none s at forward within e =
    let f = sym none ∙ ap spanned_at e ∙ spanned_again s.from s.to (path_text s.path) (omega arith)
    (omega arith) in cc

some_span : (a b : ℕ × ℕ × Text) → Some a ≡ Some b → a ≡ b
some_span a b e = cc

pub other_front : (h from first to : ℕ) (line words : Text) → h ≤ 1000000
    → spanned_at line ≡ Some (first, to, words) → (first ≡ from → from ≤ to → to < h → ⊥) → (s : Stretch)
    → s.from ≡ from → from ≤ s.to → s.to < h → line ≡ stretch_text s → ⊥
other_front h from first to line words fits read other s at forward within e =
    let same = some_span (first, to, words) (s.from, s.to, path_text s.path) (sym read ∙ ap spanned_at e
    ∙ spanned_again s.from s.to (path_text s.path) (omega arith) (omega arith)) in
    let a : first ≡ s.from = ap (λ (p : ℕ × ℕ × Text). p.0) same in
    let b : to ≡ s.to = ap (λ (p : ℕ × ℕ × Text). p.1) same in other (a ∙ at) (omega arith) (omega arith)

-- ---- the words of a run's path

same_words : (h from to : ℕ) (line words : Text) (s : Stretch) → h ≤ 1000000 → from ≤ to → to < h
    → s.from ≡ from → from ≤ s.to → s.to < h → line ≡ two_words (span_text from to) words
    → line ≡ stretch_text s → words ≡ path_text s.path
same_words h from to line words s fits forward within at forward_too within_too e f =
    (cut_same 32 (span_text from to) words (span_text s.from s.to) (path_text s.path) (sym e ∙ f)
    (span_lacks 32 from to (omega arith) (omega arith) (omega arith))
    (span_lacks 32 s.from s.to (omega arith) (omega arith) (omega arith))).1

pub same_path : (h from to : ℕ) (last line words : Text) (known : List Text) (s : Stretch) → h ≤ 1000000
    → from ≤ to → to < h → line ≡ two_words (span_text from to) words → last ≡ words
    → IsNextRun h from last known s → line ≡ stretch_text s → ⊥
same_path h from to last line words known s fits forward within e same n f =
    n.other (same ∙ same_words h from to line words s fits forward within n.start n.forward n.within e f)

pub no_path : (h from to : ℕ) (last line words : Text) (known : List Text) (s : Stretch) → h ≤ 1000000
    → from ≤ to → to < h → line ≡ two_words (span_text from to) words
    → ((p : Option (List Text)) → FitsPath known p → words ≡ path_text p → ⊥)
    → IsNextRun h from last known s → line ≡ stretch_text s → ⊥
no_path h from to last line words known s fits forward within e none n f =
    none s.path n.fits (same_words h from to line words s fits forward within n.start n.forward n.within e f)

-- ---- what may come next

known_names : (known : List Text) → AreNames known → AreKnown known
known_names known are = record { named = are.named; few = are.few }

path_named : (known : List Text) (path : Option (List Text)) → AllByRecursion IsName known → IsPath path
    → AllByRecursion IsName (with_path known path)
path_named known None are is = are
path_named known (Some names) are is = names_named known names are is.1

empty_path : (path : Option (List Text)) → [] ≡ path_text path → ⊥
empty_path None e = cc
empty_path (Some names) e = cc

-- a run may come next where its stretch may, whatever the last path was
next_stretch : (h from : ℕ) (path : Option (Option (List Text))) (last : Text) (known : List Text)
    (s : Stretch) → IsLast path last → IsNextRun h from last known s → NextStretch h from path known s
next_stretch h from path last known s l n = record {
  start = n.start;
  forward = n.forward;
  within = n.within;
  path = n.fits.0;
  other = λ e. let is : IsLast (Some s.path) last = subst (λ p. IsLast p last) e l in n.other is.1;
  few = n.fits.1;
}

next_run : (h from : ℕ) (path : Option (Option (List Text))) (last : Text) (known : List Text)
    (s : Stretch) → IsLast path last → NextStretch h from path known s → IsNextRun h from last known s
next_run h from path last known s l n = record {
  start = n.start;
  forward = n.forward;
  within = n.within;
  other = other path l n.other;
  fits = (n.path, n.few);
}
  where
    other : (p : Option (Option (List Text))) → IsLast p last → (p ≡ Some s.path → ⊥)
        → last ≡ path_text s.path → ⊥
    other None is differs e = empty_path s.path (sym is ∙ e)
    other (Some q) is differs e =
        differs (ap (λ (o : Option (List Text)). Some o) (path_same q s.path is.0 n.path (sym is.1 ∙ e)))

-- ---- a run's line

pub run_read : (h from : ℕ) (last : Text) (known new : List Text) (told words : Text) (run : Run)
    (old now : Lines) → h ≤ 1000000 → AreNames known → IsOneLine told
    → old.rest.now ≡ told ++ (10 ∷ now.rest.now) → now.count ≡ old.count + 1
    → IsRunTold h from last known new told words run → IsRunRead h from last known new words run old now
run_read h from last known new told words run old now fits are one is next t = record {
  is = t.is;
  path = t.path;
  passes = λ path l.
      let s : Stretch = stretch_of new run in
      let n = next_stretch h from path last known s l t.is in
      let within = n.within in
      let more = with_path known s.path in
      let some = some_run h (s.to + 1) (Some s.path) more (omega arith)
      (record { named = path_named known s.path are.named n.path; few = n.few }) in
      subst (λ (ns : List Text). Passes (RunRest h from path known)
      (RunRest h (run.to + 1) (Some s.path) ns) (stretch_text s ∷ []) old now) (sym t.path.added)
      (pass_line (RunRest h from path known) (RunRest h (s.to + 1) (Some s.path) more) (stretch_text s) old
      now some.0 (subst IsOneLine t.line one) (is ∙ ap (λ (x : Text). x ++ (10 ∷ now.rest.now)) t.line) next
      some.1 (λ ls r. run_onto h from path known s ls n r) (λ ls r. run_off h from path known s ls fits n r));
}

pub no_run : (h from : ℕ) (last : Text) (known : List Text) (told rest : Text) (old : Lines)
    (fault : ReportFault) → from < h → AreNames known → IsOneLine told → old.rest.now ≡ told ++ (10 ∷ rest)
    → fault ≡ faults.At (old.count + 1)
    → ((s : Stretch) → IsNextRun h from last known s → told ≡ stretch_text s → ⊥)
    → RunFails h from last known old fault
no_run h from last known told rest old fault left are one is at none = λ path l.
    let some = some_run h from path known (omega arith) (known_names known are) in
    fail_line (RunRest h from path known) told rest old some.0 fault some.1 one is
    (λ ls r. elim (run_next h from path known told ls r) [
      | inl e ↦ let end = e.end in omega (arith, end, left)
      | inr m ↦ none m.stretch (next_run h from path last known m.stretch l m.is) m.text
    ]) at

pub no_line : (h from : ℕ) (last : Text) (known : List Text) (old : Lines) (fault : ReportFault) → from < h
    → AreNames known → IsOneLine old.rest.now → fault ≡ faults.At (old.count + 1)
    → RunFails h from last known old fault
no_line h from last known old fault left are one at = λ path l.
    let some = some_run h from path known (omega arith) (known_names known are) in
    fail_end (RunRest h from path known) old some.0 fault some.1 one at (no_last_run h from path known)

-- ---- the line behind the runs

some_accounts : (h : ℕ) (path : Option (Option (List Text))) (known : List Text)
    → RunRest h h path known (codes "accounts" ∷ last_lines)
some_accounts h path known = accounts_onto h path known last_lines (some_account h)

pub accounts_pass : (told : Text) (old now : Lines) → IsOneLine told
    → old.rest.now ≡ told ++ (10 ∷ now.rest.now) → now.count ≡ old.count + 1 → told ≡ codes "accounts"
    → AccountsPass old now
accounts_pass told old now one is next same = λ h path known fits.
    pass_line (RunRest h h path known) (AccountRest h) (codes "accounts") old now last_lines refl
    (is ∙ ap (λ (x : Text). x ++ (10 ∷ now.rest.now)) same) next (some_account h)
    (λ ls r. accounts_onto h path known ls r) (λ ls r. accounts_off h path known ls fits r)

pub no_accounts_line : (told rest : Text) (old : Lines) (fault : ReportFault) → IsOneLine told
    → old.rest.now ≡ told ++ (10 ∷ rest) → fault ≡ faults.At (old.count + 1)
    → (told ≡ codes "accounts" → ⊥) → AccountsFail old fault
no_accounts_line told rest old fault one is at other = λ h path known.
    fail_line (RunRest h h path known) told rest old (codes "accounts" ∷ last_lines) fault
    (some_accounts h path known) one is
    (λ ls r. elim (run_next h h path known told ls r) [
      | inl e ↦ other e.text
      | inr m ↦ let forward = m.is.forward in let within = m.is.within in omega arith
    ]) at

pub no_line_left : (old : Lines) (fault : ReportFault) → IsOneLine old.rest.now
    → fault ≡ faults.At (old.count + 1) → AccountsFail old fault
no_line_left old fault one at = λ h path known.
    fail_end (RunRest h h path known) old (codes "accounts" ∷ last_lines) fault (some_accounts h path known)
    one at (no_last_run h h path known)

-- ---- one stretch more

abbrev pub last_path : Option (Option (List Text)) → List Stretch → Option (Option (List Text))
last_path last [] = last
last_path last (s ∷ ss) = last_path (Some s.path) ss

last_more : (last : Option (Option (List Text))) (ss : List Stretch) (s : Stretch)
    → last_path last (ss ++ s ∷ []) ≡ Some s.path
last_more last [] s = refl
last_more last (t ∷ ss) s = last_more (Some t.path) ss s

cover_more : (from mid : ℕ) (last : Option (Option (List Text))) (ss : List Stretch) (s : Stretch)
    → Cover from last ss mid → s.from ≡ mid → mid ≤ s.to → IsPath s.path
    → (last_path last ss ≡ Some s.path → ⊥) → Cover from last (ss ++ s ∷ []) (s.to + 1)
cover_more from mid last [] s cover at forward is other =
    (at ∙ sym cover, (let e = cover in omega arith), is, other, refl)
cover_more from mid last (t ∷ ss) s cover at forward is other = (
  cover.0,
  cover.1,
  cover.2,
  cover.3,
  cover_more (t.to + 1) mid (Some t.path) ss s cover.4 at forward is other,
)

after_more : (known : List Text) (ss : List Stretch) (s : Stretch)
    → names_after known (ss ++ s ∷ []) ≡ with_path (names_after known ss) s.path
after_more known [] s = refl
after_more known (t ∷ ss) s = after_more (with_path known t.path) ss s

few_more : (known : List Text) (ss : List Stretch) (s : Stretch) → FewNames known ss
    → length (with_path (names_after known ss) s.path) ≤ 2 ^ 16 → FewNames known (ss ++ s ∷ [])
few_more known [] s few more = (more, tt)
few_more known (t ∷ ss) s few more = (few.0, few_more (with_path known t.path) ss s few.1 more)

-- ---- places stay where names are put behind

inside_stays : (known new : List Text) (path : Option Path) → Grows known new → IsInside known path
    → IsInside new path
inside_stays known new None g is = tt
inside_stays known new (Some path) g is = grown_in known new (take path.len path.names) g is

path_stays : (known new : List Text) (path : Option Path) → Grows known new → IsInside known path
    → option_map (path_names new) path ≡ option_map (path_names known) path
path_stays known new None g is = refl
path_stays known new (Some path) g is =
    ap (λ (ns : List Text). Some ns) (grown_names known new (take path.len path.names) g is)

abbrev pub AreInside : List Text → List Run → Type 0
AreInside known runs = AllByRecursion (λ run. IsInside known run.path) runs

runs_inside : (known new : List Text) (runs : List Run) → Grows known new → AreInside known runs
    → AreInside new runs
runs_inside known new [] g are = tt
runs_inside known new (run ∷ runs) g are =
    (inside_stays known new run.path g are.0, runs_inside known new runs g are.1)

abbrev over : (from to : ℕ) → Option (List Text) → Stretch
over from to path = record { from = from; to = to; path = path }

runs_stay : (known new : List Text) (runs : List Run) → Grows known new → AreInside known runs
    → map (stretch_of new) runs ≡ map (stretch_of known) runs
runs_stay known new [] g are = refl
runs_stay known new (run ∷ runs) g are =
    ap (λ (p : Option (List Text)). over run.from run.to p ∷ map (stretch_of new) runs)
    (path_stays known new run.path g are.0)
    ∙ ap (λ (ss : List Stretch). stretch_of known run ∷ ss) (runs_stay known new runs g are.1)

-- ---- the runs so far

pub record RunsRead (h : ℕ) (known : List Text) (runs : List Run) (from : ℕ) (last : Text)
    (start now : Lines) : Type 0 where
  pub path : IsLast (last_path None (map (stretch_of known) runs)) last
  pub le : from ≤ h
  pub names : AreNames known
  pub short : AllByRecursion (λ run. HasShort run.path) runs
  pub inside : AreInside known runs
  pub cover : Cover 0 None (map (stretch_of known) runs) from
  pub few : FewNames [] (map (stretch_of known) runs)
  pub after : known ≡ names_after [] (map (stretch_of known) runs)
  pub passes : Passes (RunRest h 0 None [])
      (RunRest h from (last_path None (map (stretch_of known) runs)) known)
      (map stretch_text (map (stretch_of known) runs)) start now

pub no_runs : (h : ℕ) (at : Lines) → RunsRead h [] [] 0 [] at at
no_runs h at = record {
  path = refl;
  le = omega arith;
  names = record { named = tt; few = omega arith };
  short = tt;
  inside = tt;
  cover = refl;
  few = tt;
  after = refl;
  passes = none_passed (RunRest h 0 None []) at;
}

pub nothing : (known : List Text) → length known ≡ 0 → [] ≡ known
nothing [] e = refl
nothing (name ∷ known) e = absurd (omega (arith, e))

stretches_more : (known new : List Text) (runs : List Run) (run : Run) → Grows known new
    → AreInside known runs
    → map (stretch_of new) (runs ++ run ∷ []) ≡ map (stretch_of known) runs ++ stretch_of new run ∷ []
stretches_more known new runs run g are =
    map-append (stretch_of new) runs (run ∷ [])
    ∙ ap (λ (ss : List Stretch). ss ++ stretch_of new run ∷ []) (runs_stay known new runs g are)

pub one_run_more : (h : ℕ) (known new : List Text) (runs : List Run) (from : ℕ) (last words : Text)
    (run : Run)
    (start old now : Lines) → RunsRead h known runs from last start old
    → IsRunRead h from last known new words run old now
    → RunsRead h new (runs ++ run ∷ []) (run.to + 1) words start now
one_run_more h known new runs from last words run start old now r m =
    let ss = map (stretch_of known) runs in
    let s : Stretch = stretch_of new run in
    let g : Grows known new = subst (Grows known) (sym m.path.added) (path_grows known s.path) in
    let is = stretches_more known new runs run g r.inside in
    let n = next_stretch h from (last_path None ss) last known s r.path m.is in
    let within = n.within in
    let added : new ≡ with_path (names_after [] ss) s.path =
    m.path.added ∙ ap (λ (ns : List Text). with_path ns s.path) r.after in
    let moved : (P : List Stretch → Type 0) → P (ss ++ s ∷ []) → P (map (stretch_of new) (runs ++ run ∷ [])) =
    λ P p. subst P (sym is) p in record {
      path = moved (λ ts. IsLast (last_path None ts) words) (subst (λ p. IsLast p words)
          (sym (last_more None ss s)) (m.path.is, m.path.words));
      le = omega arith;
      names = record {
        named = subst (AllByRecursion IsName) (sym m.path.added) (path_named known s.path
            r.names.named n.path);
        few = m.path.few;
      };
      short = all_append (λ one. HasShort one.path) runs (run ∷ []) r.short (m.path.short, tt);
      inside = all_append (λ one. IsInside new one.path) runs (run ∷ [])
          (runs_inside known new runs g r.inside)
          (m.path.inside, tt);
      cover = moved (λ ts. Cover 0 None ts (run.to + 1)) (cover_more 0 from None ss s r.cover n.start
          n.forward n.path n.other);
      few = moved (FewNames []) (few_more [] ss s r.few (subst (λ (ns : List Text). length ns ≤ 2 ^ 16) added
          m.path.few));
      after = moved (λ ts. new ≡ names_after [] ts) (added ∙ sym (after_more [] ss s));
      passes = moved (λ ts. Passes (RunRest h 0 None []) (RunRest h (run.to + 1) (last_path None ts) new)
          (map stretch_text ts) start now)
          (subst (λ p. Passes (RunRest h 0 None []) (RunRest h (run.to + 1) p new)
          (map stretch_text (ss ++ s ∷ [])) start now) (sym (last_more None ss s))
          (subst (λ ls. Passes (RunRest h 0 None []) (RunRest h (run.to + 1) (Some s.path) new) ls start now)
          (sym (map-append stretch_text ss (s ∷ [])))
          (pass_on (RunRest h 0 None []) (RunRest h from (last_path None ss) known)
          (RunRest h (run.to + 1) (Some s.path) new) (map stretch_text ss) (stretch_text s ∷ []) start old now
          r.passes (m.passes (last_path None ss) r.path))));
    }

pub run_fails : (h : ℕ) (known : List Text) (runs : List Run) (from : ℕ) (last : Text) (start old : Lines)
    (fault : ReportFault) → RunsRead h known runs from last start old → RunFails h from last known old fault
    → FailsAt (RunRest h 0 None []) start fault
run_fails h known runs from last start old fault r fails =
    let ss = map (stretch_of known) runs in
    fail_behind (RunRest h 0 None []) (RunRest h from (last_path None ss) known) (map stretch_text ss)
    start old fault r.passes (fails (last_path None ss) r.path)

pub accounts_fail : (h : ℕ) (known : List Text) (runs : List Run) (from : ℕ) (last : Text)
    (start old : Lines) (fault : ReportFault) → RunsRead h known runs from last start old → h ≤ from
    → AccountsFail old fault → FailsAt (RunRest h 0 None []) start fault
accounts_fail h known runs from last start old fault r reached fails =
    let ss = map (stretch_of known) runs in
    let le = r.le in
    let at : h ≡ from = omega arith in
    fail_behind (RunRest h 0 None []) (RunRest h from (last_path None ss) known) (map stretch_text ss)
    start old fault r.passes (subst (λ (n : ℕ). FailsAt (RunRest h n (last_path None ss) known) old fault) at
    (fails h (last_path None ss) known))

pub whole_schedule : (h : ℕ) (known names : List Text) (runs : List Run) (from : ℕ) (last : Text)
    (start old now : Lines) → h ≤ 1000000 → RunsRead h known runs from last start old → h ≤ from
    → AccountsPass old now → names ≡ known → (IsSchedule h (record { names = names; runs = runs }))
    × Passes (RunRest h 0 None []) (AccountRest h)
    (map stretch_text (map (stretch_of names) runs) ++ codes "accounts" ∷ []) start now
whole_schedule h known names runs from last start old now fits r reached accounts same =
    let ss = map (stretch_of known) runs in
    let le = r.le in
    let at : from ≡ h = omega arith in
    let P : List Text → Type 0 = λ ns. (IsSchedule h (record { names = ns; runs = runs }))
    × Passes (RunRest h 0 None []) (AccountRest h)
    (map stretch_text (map (stretch_of ns) runs) ++ codes "accounts" ∷ []) start now in
    subst P (sym same) (
      record {
        short = r.short;
        cover = subst (Cover 0 None ss) at r.cover;
        few = r.few;
        names = r.after;
      },
      pass_on (RunRest h 0 None []) (RunRest h from (last_path None ss) known) (AccountRest h)
          (map stretch_text ss) (codes "accounts" ∷ []) start old now r.passes
          (subst (λ (n : ℕ). Passes (RunRest h n (last_path None ss) known) (AccountRest h)
          (codes "accounts" ∷ []) old now) (sym at) (accounts h (last_path None ss) known fits)),
    )

pub err_gives : (A : Type 0) (r : Result A ReportFault) (fault : ReportFault) (P : ReportFault → Type 0)
    → IsErrAnd r (λ given. given ≡ fault) → P fault → IfErr r P
err_gives A (Ok x) fault P is holds = tt
err_gives A (Err given) fault P is holds = subst P (sym is) holds
