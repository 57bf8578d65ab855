-- The text that is told is that of a legal report.
use Rattle.std.proofs.Common.{◌≡◌, ℕ, List, [], ◌++◌, sym, ap, ◌∙◌, subst}
use Rattle.std.proofs.Common.{arith, append_assoc}
use Rattle.std.specs.Prelude.{Option, flat_map, codes}
use Rattle.std.specs.Fn.{Mut}
use Rattle.std.proofs.lemmas.List.{append-nil}
use Rattle.std.proofs.lemmas.List.Folds.{flat_map-map}
use Rattle.hls_text.specs.Lines.{Text}
use Rattle.hls_guarantee.specs.declared.Guarantee.{Guarantee}
use Rattle.hls_scenario.specs.declared.scenario.Scenario.{Scenario}
use Rattle.hls_report_text.specs.declared.report.Account.{Account}
use Rattle.hls_report_text.specs.declared.report.Answered.{Answered}
use Rattle.hls_report_text.specs.declared.report.Report.{Report}
use Rattle.hls_report_text.specs.declared.stretch.Stretch.{Stretch}
use Rattle.hls_report_text.specs.Content.{Content, content_of, stretch_of}
use Rattle.hls_report_text.specs.ReportText.{head_lines, end_lines, answered_lines, stretch_text, account_text}
use Rattle.hls_report_text.specs.ReportText.{with_end, ended, report_text}
use Rattle.hls_report_text.specs.WellFormed.{IsContent}
use Rattle.hls_report_text.proofs.Contents.{some_report}
use Rattle.hls_report_text.proofs.Writings.{whole_report, accounts_kept}
use Rattle.hls_sched.specs.Seen.{Seen}
use Rattle.hls_machine.specs.Hierarchy.{Hierarchy, start}
use Rattle.hls_machine.specs.Steps.{state}
use Rattle.hls_legal.specs.Accounts.{accounts_of, idle_of}
use Rattle.hls_legal.specs.Agrees.{accounts_in, idle_in}
use Rattle.hls_legal.proofs.Agreements.{accounts_told, idle_told}
use Rattle.hls_legal.specs.Moment.{Boxes}
use Rattle.hls_core_journal.specs.Told.{answered_by, stretches_of, told, with_totals}
use Rattle.hls_core_journal.proofs.Formed.{content_formed}
use Rattle.hls_core_stays.specs.Tallies.{AreStays}
use Rattle.hls_core_stays.specs.Told as stays
use Rattle.hls_core_stays.specs.declared.stays.Stays.{Stays}
use Rattle.hls_core.specs.Cores.{IsCoreOf}
use Rattle.hls_core.specs.Inside.Sparing.{keeping}
use Rattle.hls_core.specs.Inside.Tellings.{IsToldIn, MayTell, TellsStays, TellsRest}
use Rattle.hls_core.specs.declared.cores.Core.{Core}
use Rattle.hls_core.proofs.Opened.{none_answered}
use Rattle.hls_core.proofs.Ended.{state_now, ends_legal}

abbrev spelled : Stretch → Text
spelled s = with_end (stretch_text s)

abbrev lines : (version : ℕ) → Answered → Text
lines version a = ended (answered_lines version a)

abbrev account_lines : List Account → Text
account_lines accounts = flat_map (λ (a : Account). with_end (account_text a)) accounts

-- the text of a content, part by part
abbrev parts_of : Content → Text
parts_of c = ((((((ended (head_lines c.version c.horizon c.depth) ++ flat_map (lines c.version) c.answered)
    ++ codes "schedule\n") ++ flat_map spelled c.stretches) ++ codes "accounts\n") ++ account_lines c.accounts)
    ++ ended (end_lines c.idle))

parts_told : (r : Report) → parts_of (content_of r) ≡ report_text r
parts_told r =
    ap (λ (t : Text). ((((((ended (head_lines r.version r.horizon r.depth) ++ flat_map (lines r.version) r.answered)
    ++ codes "schedule\n") ++ t) ++ codes "accounts\n") ++ account_lines r.accounts) ++ ended (end_lines r.idle)))
    (flat_map-map spelled (stretch_of r.names) r.runs)
    ∙ whole_report r

-- the parts, as they stand one behind the other
joined : (was schedule back text first stretches accounts last : Text) → text ≡ was ++ schedule ++ back
    → schedule ≡ codes "schedule\n" ++ stretches → back ≡ codes "accounts\n" ++ accounts ++ last → was ≡ first
    → text ≡ (((((first ++ codes "schedule\n") ++ stretches) ++ codes "accounts\n") ++ accounts) ++ last)
joined was schedule back text first stretches accounts last one two three begun =
    let scheduled : Text = (first ++ codes "schedule\n") ++ stretches in
    one
    ∙ ap (λ (x : Text). x ++ schedule ++ back) begun
    ∙ ap (λ (x : Text). x ++ back)
    (ap (λ (x : Text). first ++ x) two ∙ sym (append_assoc first (codes "schedule\n") stretches))
    ∙ ap (λ (x : Text). scheduled ++ x) three
    ∙ sym (append_assoc scheduled (codes "accounts\n" ++ accounts) last)
    ∙ ap (λ (x : Text). x ++ last) (sym (append_assoc scheduled (codes "accounts\n") accounts))

-- what is told of stays
pub stays_apart : (s : Stays) (now idle : ℕ) (empty begun lined text : Text) → empty ≡ []
    → begun ≡ empty ++ codes "accounts\n"
    → ((h : Hierarchy) → AreStays s h → h.now ≡ now → lined ≡ begun ++ account_lines (accounts_in h))
    → ((h : Hierarchy) → AreStays s h → idle ≡ idle_in h) → text ≡ lined ++ ended (end_lines idle)
    → TellsStays s now text
stays_apart s now idle empty begun lined text none first accounts count last h is at_now =
    last
    ∙ ap (λ n. lined ++ ended (end_lines n)) (count h is)
    ∙ ap (λ (x : Text). x ++ ended (end_lines (idle_in h)))
    (accounts h is at_now
    ∙ ap (λ (x : Text). x ++ account_lines (accounts_in h))
    (first ∙ ap (λ (x : Text). x ++ codes "accounts\n") none))

-- V and P are what the checker knows a box by, and W, Q and X a rule
module _ {V W : Type 0} {P : V → Type 0} {Q : W → Type 0}
    {X : Mut ((x : W) × Q x) (Guarantee × (Guarantee × Unit {0})) (Option Guarantee)}
    (seen : (x : V) × P x → Seen) where
  -- ---- what is asked of the parts

  whole : (c : Core V W P Q X) (s : Scenario) (given : ℕ) (boxes : Boxes) (was : Text)
      → IsToldIn seen c s given boxes was → c.journal.ticks ≡ c.scenario.horizon → c.journal.ticks ≡ s.horizon
  whole c s given boxes was t ended = ended ∙ ap (λ (x : Scenario). x.horizon) t.is.scenario

  -- what is told in the end
  abbrev bare_of : (c : Core V W P Q X) (s : Scenario) (given : ℕ) (boxes : Boxes) (was : Text)
      → IsToldIn seen c s given boxes was → Content
  bare_of c s given boxes was t = told s.version s.items c.depth (keeping t.answers c).journal

  formed : (c : Core V W P Q X) (s : Scenario) (given : ℕ) (boxes : Boxes) (was : Text)
      (t : IsToldIn seen c s given boxes was) → c.journal.ticks ≡ c.scenario.horizon
      → IsContent (with_totals (bare_of c s given boxes was t))
  formed c s given boxes was t ended =
      content_formed s c.depth (keeping t.answers c).journal t.is.within t.is.kept t.is.deep
      (whole c s given boxes was t ended)

  leads_now : (c : Core V W P Q X) (s : Scenario) (given : ℕ) (boxes : Boxes) (was : Text)
      (t : IsToldIn seen c s given boxes was) → (state start t.is.steps).now ≡ c.journal.ticks
  leads_now c s given boxes was t =
      state_now (bare_of c s given boxes was t) t.is.steps start (answered_by s.items t.answers.items) t.is.run.tells

  pub stays_told : (c : Core V W P Q X) (was : Text) (now : ℕ) → MayTell seen c was
      → c.journal.ticks ≡ c.scenario.horizon → now ≡ c.journal.ticks → stays.MayTell c.stays now
  stays_told c was now may ended at_now =
      let t = may.is in
      let bare = bare_of c may.s may.given may.boxes was t in
      record {
        h = state start t.is.steps;
        stays = t.is.stays;
        at_now = leads_now c may.s may.given may.boxes was t ∙ sym at_now;
        valid =
            subst stays.AreValid (accounts_told bare t.is.steps t.is.run.legal t.is.run.tells)
            (accounts_kept _ (accounts_of bare) (formed c may.s may.given may.boxes was t ended).accounts);
      }

  -- ---- the text

  pub rest_told : (c : Core V W P Q X) (was schedule back text : Text) (now : ℕ)
      → c.journal.ticks ≡ c.scenario.horizon → now ≡ c.journal.ticks
      → schedule ≡ codes "schedule\n" ++ flat_map spelled (stretches_of c.journal)
      → TellsStays c.stays now back → text ≡ was ++ schedule ++ back → TellsRest seen c was text
  rest_told c was schedule back text now over at_now scheduled accounted parts s given boxes t =
      let h = state start t.is.steps in
      let j = (keeping t.answers c).journal in
      let bare = bare_of c s given boxes was t in
      let content = with_totals bare in
      let r = some_report content (formed c s given boxes was t over) in
      let horizon = whole c s given boxes was t over in
      let all : accounts_in h ≡ accounts_of bare =
      sym (accounts_told bare t.is.steps t.is.run.legal t.is.run.tells) in
      let idle : idle_in h ≡ idle_of bare = sym (idle_told bare t.is.steps t.is.run.legal t.is.run.tells) in
      let behind = accounted h t.is.stays (leads_now c s given boxes was t ∙ sym at_now)
      ∙ ap (λ (l : List Account). codes "accounts\n" ++ account_lines l ++ ended (end_lines (idle_in h))) all
      ∙ ap (λ n. codes "accounts\n" ++ account_lines content.accounts ++ ended (end_lines n)) idle in
      let begun : was ≡ ended (head_lines s.version content.horizon c.depth)
      ++ flat_map (lines s.version) content.answered =
      t.spelled ∙ ap (λ n. ended (head_lines s.version n c.depth) ++ flat_map (lines s.version) content.answered)
      (sym horizon) in
      let text_is : text ≡ parts_of content =
      joined was schedule back text (ended (head_lines s.version content.horizon c.depth)
      ++ flat_map (lines s.version) content.answered) (flat_map spelled content.stretches)
      (account_lines content.accounts) (ended (end_lines content.idle)) parts scheduled behind begun in
      record {
        report = r.0;
        legal = ends_legal seen (keeping t.answers c) s given boxes r.0 (record {
          formed = r.1;
          content = r.2
              ∙ ap (λ (x : Scenario). with_totals (told x.version x.items c.depth j)) (sym t.is.scenario);
        }) over t.is;
        spelled = text_is ∙ ap parts_of (sym r.2) ∙ parts_told r.0;
      }

  -- ---- the beginning

  pub told_first : (c : Core V W P Q X) (s : Scenario) (given : ℕ) (boxes : Boxes) (empty text : Text)
      → IsCoreOf seen c s given boxes → c.journal.answers.items ≡ [] → empty ≡ []
      → text ≡ empty ++ ended (head_lines c.scenario.version c.scenario.horizon c.depth)
      → IsToldIn seen c s given boxes text
  told_first c s given boxes empty text is unanswered none head = record {
    answers = c.journal.answers;
    is = is;
    none = unanswered;
    room = omega arith;
    spelled =
        head ∙ ap (λ (t : Text). t ++ ended (head_lines c.scenario.version c.scenario.horizon c.depth)) none
        ∙ ap (λ (x : Scenario). ended (head_lines x.version x.horizon c.depth)) is.scenario
        ∙ sym (append-nil (ended (head_lines s.version s.horizon c.depth)))
        ∙ ap (λ (xs : List Answered). ended (head_lines s.version s.horizon c.depth) ++ flat_map (lines s.version) xs)
        (sym (none_answered s.items) ∙ ap (answered_by s.items) (sym unanswered));
  }

  pub may_begin : (c : Core V W P Q X) (s : Scenario) (given : ℕ) (boxes : Boxes) (empty text : Text)
      → IsCoreOf seen c s given boxes → c.journal.answers.items ≡ [] → empty ≡ []
      → text ≡ empty ++ ended (head_lines c.scenario.version c.scenario.horizon c.depth) → MayTell seen c text
  may_begin c s given boxes empty text is unanswered none head = record {
    s = s;
    given = given;
    boxes = boxes;
    is = told_first c s given boxes empty text is unanswered none head;
  }
