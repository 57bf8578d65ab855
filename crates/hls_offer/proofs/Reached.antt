-- A core that stands at a tick, behind its commands, stands at the moment of the tick.
use Rattle.std.proofs.Common.{◌≡◌, ℕ, Bool, List, refl, sym, ap, ◌∙◌, subst, arith}
use Rattle.std.proofs.Common.{[], ◌∷◌, ◌++◌, append_assoc, codes}
use Rattle.std.specs.Prelude.{Option}
use Rattle.std.proofs.lemmas.List.{append-nil}
use Rattle.std.proofs.lemmas.Grind.{flat_map-append}
use Rattle.hls_text.specs.Lines.{Text}
use Rattle.hls_report_text.specs.ReportText.{with_end, ended}
use Rattle.hls_machine.specs.Legal.{IsReached}
use Rattle.hls_machine.proofs.Lists.{run_listed}
use Rattle.hls_machine.proofs.Seated.{run_seated}
use Rattle.hls_tree.specs.Trees.{Stands}
use Rattle.hls_io.specs.declared.status.Status.{Status}
use Rattle.hls_offer_text.specs.OfferText.{head_lines}
use Rattle.hls_offer_words.specs.declared.asked.Asked.{Asked}
use Rattle.hls_core.specs.Asking.{IsMomentOf}
use Rattle.hls_offer.specs.Replies.{given_depth, status_of, Tells}
use Rattle.hls_offer.specs.Told.{IsTold}
use Rattle.hls_offer.specs.Inside.Told.{AddsTold}
use Rattle.std.specs.Fn.{Mut}
use Rattle.hls_guarantee.specs.declared.Guarantee.{Guarantee}
use Rattle.hls_scenario.specs.declared.scenario.Scenario.{Scenario}
use Rattle.hls_sched.specs.Seen.{Seen}
use Rattle.hls_machine.specs.Hierarchy.{start}
use Rattle.hls_machine.specs.Steps.{state}
use Rattle.hls_legal.specs.Moment.{Boxes, Moment}
use Rattle.hls_legal.specs.Kit.{boxes_left}
use Rattle.hls_core_journal.specs.Told.{answered_by, told}
use Rattle.hls_core.specs.Cores.{IsCoreOf, NoneDue, Runs}
use Rattle.hls_core.specs.declared.cores.Core.{Core}
use Rattle.hls_core.proofs.Items.{ahead_next}
use Rattle.hls_offer.specs.Moments.{IsMoment}
use Rattle.hls_offer.proofs.Upto.{told_ticks, items_told}

whole_text : (heads lines : List Text) (end : Text)
    → (ended heads ++ ended lines) ++ with_end end ≡ ended (heads ++ (lines ++ end ∷ []))
whole_text heads lines end =
    append_assoc (ended heads) (ended lines) (with_end end)
    ∙ ap (λ (t : Text). ended heads ++ t)
    (ap (λ (t : Text). ended lines ++ t) (sym (append-nil (with_end end)))
    ∙ sym (flat_map-append with_end lines (end ∷ [])))
    ∙ sym (flat_map-append with_end heads (lines ++ end ∷ []))

-- V and P are what the checker knows a box by, and W, Q and X a rule
module _ {V W : Type 0} {P : V → Type 0} {Q : W → Type 0}
    {X : Mut ((x : W) × Q x) (Guarantee × (Guarantee × Unit {0})) (Option Guarantee)}
    (seen : (x : V) × P x → Seen) (c : Core V W P Q X) (s : Scenario) (given : ℕ) (boxes : Boxes)
    (is : IsCoreOf seen c s given boxes) where
  abbrev pub moment_of : Moment
  moment_of = record {
    hierarchy = state start is.steps;
    boxes = boxes_left boxes (answered_by s.items c.journal.answers.items);
    depth = c.depth;
  }

  pub at_tick : (tick : ℕ) → c.journal.ticks ≡ tick → NoneDue c.scenario.items c.agenda tick
      → IsMoment s given boxes tick moment_of
  at_tick tick now none =
      let due : NoneDue s.items c.agenda tick =
      subst (λ (x : Scenario). NoneDue x.items c.agenda tick) is.scenario none in
      let place = is.place in
      let ahead = ahead_next s.version s.horizon s.items c.agenda tick is.within.items due in
      record {
        told = told s.version s.items c.depth c.journal;
        ticks = now;
        commands = items_told tick s.items c.journal.answers.items is.kept.few
            (λ k a e. (let le = (told_ticks (told s.version s.items c.depth c.journal) is.steps start
            (answered_by s.items c.journal.answers.items) is.run.tells).ticks k a e in omega (arith, le, now)))
            (λ k item le e. (let later = ahead k item (omega (arith, le, place)) e in omega (arith, later)));
        steps = is.steps;
        run = is.run;
        leads = refl;
        left = refl;
        depth = is.depth;
      }

  pub stands_at : Stands seen c.tree IsReached
  stands_at = record {
    h = state start is.steps;
    tree = is.at_state.tree;
    seated = run_seated is.steps is.run.legal;
    listed = run_listed is.steps is.run.legal;
    is = is.at_state.reached;
  }

  pub is_moment : IsMomentOf seen c moment_of
  is_moment = record {
    tree = is.at_state.tree;
    reached = is.at_state.reached;
    boxes = sym is.left;
    depth = refl;
  }

  -- the answer that is written there
  pub told_all : (a : Asked) (tick : ℕ) → given ≡ given_depth a.depth → c.journal.ticks ≡ tick
      → NoneDue c.scenario.items c.agenda tick → (offers : Bool) (status : Status) (none head lines whole : Text)
      → none ≡ [] → head ≡ none ++ ended (head_lines tick c.depth)
      → ((m : Moment) → IsMomentOf seen c m
      → AddsTold (IsTold s.version a.question m c.journal.ticks a.periods) offers head lines)
      → whole ≡ lines ++ with_end (codes "end") → status ≡ status_of a.question offers
      → Tells a s boxes tick status whole
  told_all a tick depth now due offers status none head lines whole empty first all last status_is =
      let adds = all moment_of is_moment in
      record {
        m = moment_of;
        moment = subst (λ (n : ℕ). IsMoment s n boxes tick moment_of) depth (at_tick tick now due);
        told = adds.told;
        is = subst (λ (n : ℕ). IsTold s.version a.question moment_of n a.periods adds.told) now adds.is;
        status_is = status_is ∙ ap (λ (o : Bool). status_of a.question o) adds.offers_is;
        spelled = last ∙ ap (λ (t : Text). t ++ with_end (codes "end"))
            (adds.text ∙ ap (λ (t : Text). t ++ ended adds.told.lines)
            (first ∙ ap (λ (t : Text). t ++ ended (head_lines tick c.depth)) empty))
            ∙ whole_text (head_lines tick c.depth) adds.told.lines (codes "end");
      }

module _ {V W : Type 0} {P : V → Type 0} {Q : W → Type 0}
    {X : Mut ((x : W) × Q x) (Guarantee × (Guarantee × Unit {0})) (Option Guarantee)}
    (seen : (x : V) × P x → Seen) (c : Core V W P Q X) where
  pub some_moment : Runs seen c → (m : Moment) × IsMomentOf seen c m
  some_moment runs = (
    moment_of seen c runs.s runs.given runs.boxes runs.is,
    is_moment seen c runs.s runs.given runs.boxes runs.is,
  )
