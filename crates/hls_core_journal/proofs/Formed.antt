-- The report that a journal makes has a text.
use Rattle.std.proofs.Common.{◌≡◌, ℕ, ◌≤◌, List, [], ◌∷◌, length, sym, ap, ◌∙◌}
use Rattle.std.proofs.Common.{subst, arith, is_none}
use Rattle.std.specs.Prelude.{Result, Ok, Err, IfOk, All, zip}
use Rattle.std.specs.List.{AllByRecursion}
use Rattle.std.proofs.lemmas.List.{length-map}
use Rattle.std.proofs.lemmas.List.Elements.{All-head, All-tail, All-weaker, recursion_from_All}
use Rattle.std.proofs.lemmas.Slice.Zip.{length-zip}
use Rattle.hls_chron.specs.Ranges.{IsWithin, most_ticks}
use Rattle.hls_chron.proofs.CountLaws.{count-le}
use Rattle.hls_scenario.specs.declared.scenario.Item.{Item}
use Rattle.hls_scenario.specs.declared.scenario.Scenario.{Scenario}
use Rattle.hls_scenario.specs.Grammar.{AreItems, IsScenario}
use Rattle.hls_report_text.specs.declared.report.Answer.{Answer}
use Rattle.hls_report_text.specs.declared.report.Run.{Run}
use Rattle.hls_report_text.specs.declared.report.Account.{Account}
use Rattle.hls_report_text.specs.declared.report.Report.{Report}
use Rattle.hls_report_text.specs.Content.{content_of}
use Rattle.hls_report_text.specs.WellFormed.{AreAnswered, MayAnswer, HasShort, IsContent}
use Rattle.hls_report_text.proofs.LineTexts.{horizon_fits}
use Rattle.hls_legal.specs.Schedule.{path_at}
use Rattle.hls_legal.specs.Accounts.{accounts_of, idle_of}
use Rattle.hls_core_journal.specs.declared.journal.Journal.{Journal}
use Rattle.hls_core_journal.specs.Told.{answered_as, answered_by, stretches_of, told, with_totals, IsTotalled}
use Rattle.hls_core_journal.specs.Told.{IsReportOf}
use Rattle.hls_core_journal.specs.Kept.{AreWithin, IsWayOrIdle, IsKept}
use Rattle.hls_core_journal.proofs.Keeps.{within_of, way_short}
use Rattle.hls_core_journal.proofs.Totals.{accounts_formed}
use Rattle.hls_core_journal.proofs.Few.{few_names}

are_answered : (version horizon last : ℕ) (items : List Item) (answers : List Answer)
    → AreItems version horizon last items
    → All (λ (p : Item × Answer). MayAnswer p.0.command p.1) (zip items answers)
    → AreAnswered version horizon last (answered_by items answers)
are_answered version horizon last [] answers are fit = tt
are_answered version horizon last (item ∷ items) [] are fit = tt
are_answered version horizon last (item ∷ items) (answer ∷ answers) are fit =
    let P = λ (p : Item × Answer). MayAnswer p.0.command p.1 in (
      are.0,
      All-head P (item, answer) (zip items answers) fit,
      are.1,
      are.2,
      are_answered version horizon item.tick items answers are.3 (All-tail P (item, answer) (zip items answers) fit),
    )

pub content_formed : (s : Scenario) (depth : ℕ) (j : Journal) → IsScenario s → IsKept s j → depth ≤ 6
    → j.ticks ≡ s.horizon → IsContent (with_totals (told s.version s.items depth j))
content_formed s depth j is kept deep whole =
    let horizon : IsWithin 1 (most_ticks s.version) j.ticks =
    subst (IsWithin 1 (most_ticks s.version)) (sym whole) is.horizon in
    let short : j.ticks ≤ 1000000 = horizon_fits s.version j.ticks horizon in
    let answered : AreAnswered s.version j.ticks 0 (answered_by s.items j.answers.items) =
    subst (λ h. AreAnswered s.version h 0 (answered_by s.items j.answers.items)) (sym whole)
    (are_answered s.version s.horizon 0 s.items j.answers.items is.items kept.fit) in
    let zipped = length-zip s.items j.answers.items in
    let counted = length-map (zip s.items j.answers.items) (λ (p : Item × Answer). answered_as p.0 p.1) in
    let few = is.few in
    let answers = kept.few in
    let names = kept.fewer in
    let most = count-le (λ t. is_none (path_at (stretches_of j) t)) 0 j.ticks in
    record {
      version = is.version;
      horizon = horizon;
      depth = deep;
      few = omega (arith, counted, zipped, few);
      answered = answered;
      cover = kept.cover;
      names = few_names j.names.keys j.runs.items (omega (arith, few, answers, names))
          (All-weaker (λ (run : Run). IsWayOrIdle j run.path)
          (λ (run : Run). AreWithin (length j.names.keys) run.path) (λ run way. within_of j run.path way)
          j.runs.items kept.ways);
      accounts = accounts_formed (told s.version s.items depth j) short answered;
      idle = omega (arith, most, short);
    }

report_formed : (s : Scenario) (depth : ℕ) (j : Journal) (accounts : List Account) (idle : ℕ) (r : Report)
    → IsScenario s → IsKept s j → depth ≤ 6 → j.ticks ≡ s.horizon
    → accounts ≡ accounts_of (told s.version s.items depth j)
    → idle ≡ idle_of (told s.version s.items depth j) → IsTotalled s.version s.items depth j accounts idle r
    → IsReportOf (told s.version s.items depth j) r
report_formed s depth j accounts idle r is kept deep whole all none totalled =
    let bare = told s.version s.items depth j in
    let same : content_of r ≡ with_totals bare =
    totalled.content ∙ ap (λ (l : List Account). record bare { accounts = l; idle = idle }) all
    ∙ ap (λ (n : ℕ). record bare { accounts = accounts_of bare; idle = n }) none in
    record {
      formed = record {
        paths =
            subst (AllByRecursion (λ (run : Run). HasShort run.path)) (sym totalled.runs)
            (recursion_from_All (λ (run : Run). HasShort run.path) j.runs.items
            (All-weaker (λ (run : Run). IsWayOrIdle j run.path) (λ (run : Run). HasShort run.path)
            (λ run way. way_short j run.path way) j.runs.items kept.ways));
        content = subst IsContent (sym same) (content_formed s depth j is kept deep whole);
      };
      content = same;
    }

pub result_formed : {E : Type 0} (s : Scenario) (depth : ℕ) (j : Journal) (accounts : List Account) (idle : ℕ)
    (result : Result Report E) → IsScenario s → IsKept s j → depth ≤ 6 → j.ticks ≡ s.horizon
    → accounts ≡ accounts_of (told s.version s.items depth j) → idle ≡ idle_of (told s.version s.items depth j)
    → IfOk result (IsTotalled s.version s.items depth j accounts idle)
    → IfOk result (IsReportOf (told s.version s.items depth j))
result_formed s depth j accounts idle (Ok r) is kept deep whole all none totalled =
    report_formed s depth j accounts idle r is kept deep whole all none totalled
result_formed s depth j accounts idle (Err e) is kept deep whole all none totalled = tt
