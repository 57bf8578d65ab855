-- What a command leaves, and what was there before the first.
use Rattle.std.proofs.Common.{◌≡◌, ℕ, ◌+◌, ◌-◌, ◌<◌, ◌≤◌, [], ◌∷◌, ◌++◌, refl, sym, ap, ◌∙◌, subst, arith}
use Rattle.std.specs.Prelude.{Result, Ok, Err, IfOk, OnErr}
use Rattle.hls_scenario.specs.declared.scenario.Command.{Command}
use Rattle.hls_report_text.specs.declared.report.Answer.{Answer}
use Rattle.hls_sched.specs.Seen.{Seen}
use Rattle.hls_sched.specs.declared.kit.Kit.{Kit}
use Rattle.hls_machine.specs.Hierarchy.{Hierarchy, start}
use Rattle.hls_machine.specs.Steps.{after, state}
use Rattle.hls_machine.specs.Legal.{Can}
use Rattle.hls_machine.specs.Lists.{IsListed}
use Rattle.hls_machine.specs.Seated.{IsSeated}
use Rattle.hls_machine.proofs.Goes.{state_goes, legal_goes}
use Rattle.hls_machine.proofs.Lists.{run_listed}
use Rattle.hls_machine.proofs.Seated.{run_seated}
use Rattle.hls_legal.specs.Moment.{Moment}
use Rattle.hls_tree.specs.Trees.{IsTreeOf, Stands, IsAsBefore, Any}
use Rattle.hls_tree.specs.declared.tree.Tree.{Tree}
use Rattle.hls_machine.specs.Legal.{IsReached}
use Rattle.hls_manager.specs.Outcomes.{HasMarkRoom, CarriesOut, moment}
use Rattle.hls_core.specs.Marks.{HasMarksFor}
use Rattle.hls_core.proofs.Rooms.{AllApart, command_marks, next_marks, legal_apart}
use Rattle.hls_test_manager.specs.Standing.{MayCarry}

pub has_room : (h : Hierarchy) (left : ℕ) → 0 < left → MayCarry left h → IsReached h × HasMarkRoom h
has_room h left some may = (may.0, next_marks h left some may.1)

-- V and P are what the checker knows a box by
module _ {V : Type 0} {P : V → Type 0} (seen : (x : V) × P x → Seen) where
  pub next : (old new : Tree V P) (m : Moment) (commands left : ℕ) (command : Command) (answer : Answer)
      → 0 < left → left ≤ commands → MayCarry left m.hierarchy
      → CarriesOut seen old new m commands command answer → Stands seen new (MayCarry (left - 1))
  next old new m commands left command answer some few may out =
      let h = m.hierarchy in
      let before = may.0 in
      let past = before.past ++ out.step ∷ [] in
      let can : Can (state start before.past) out.step = subst (λ g. Can g out.step) before.leads out.can in
      let legal = legal_goes before.past start out.step before.legal can in
      let leads : after h out.step ≡ state start past =
      ap (λ g. after g out.step) before.leads ∙ sym (state_goes before.past start out.step) in
      let apart : AllApart h = subst (λ g. AllApart g) (sym before.leads) (legal_apart before.past before.legal) in
      let one : left ≡ left - 1 + 1 = omega (arith, some) in
      record {
        h = after h out.step;
        tree = out.tree;
        seated = subst (λ g. IsSeated g) (sym leads) (run_seated past legal);
        listed = subst (λ g. IsListed g) (sym leads) (run_listed past legal);
        is = (
          record { past = past; legal = legal; leads = leads },
          command_marks h out.step commands (left - 1) out.can out.roomy (omega (arith, some, few)) apart
              (subst (λ n. HasMarksFor n h) one may.1),
        );
      }

  module _ (old new : Tree V P) (kit : Kit V P) (depth commands left : ℕ) (command : Command) (some : 0 < left)
      (few : left ≤ commands) (s : Stands seen old (MayCarry left)) where
    -- by a call that may want memory
    pub all_next : {E : Type 0} (r : Result Answer E)
        → IfOk r (λ answer. (h : Hierarchy) → IsTreeOf seen old h → IsReached h
        → CarriesOut seen old new (moment h kit depth) commands command answer)
        → IfOk r (λ _. Stands seen new (MayCarry (left - 1)))
    all_next (Ok answer) carried =
        next old new (moment s.h kit depth) commands left command answer some few s.is (carried s.h s.tree s.is.0)
    all_next (Err e) carried = tt

    pub one_next : (answer : Answer)
        → ((m : Moment) (commands : ℕ) → IsTreeOf seen old m.hierarchy → IsReached m.hierarchy
        → CarriesOut seen old new m commands command answer) → Stands seen new (MayCarry (left - 1))
    one_next answer carried =
        let m = moment s.h kit depth in
        next old new m commands left command answer some few s.is (carried m commands s.tree s.is.0)

  pub any : (t : Tree V P) (left : ℕ) → Stands seen t (MayCarry left) → Stands seen t Any
  any t left s = record { h = s.h; tree = s.tree; seated = s.seated; listed = s.listed; is = tt }

  pub as_before : {E : Type 0} (old new : Tree V P) (left : ℕ) (r : Result Answer E)
      → Stands seen old (MayCarry left) → OnErr r (IsAsBefore seen old new) → OnErr r (Stands seen new (MayCarry left))
  as_before old new left (Ok answer) s same = tt
  as_before old new left (Err e) s same = record {
    h = s.h;
    tree = same.tree s.h s.tree;
    seated = s.seated;
    listed = s.listed;
    is = s.is;
  }

  pub at_start : (t : Tree V P) (left : ℕ) → IsTreeOf seen t start → Stands seen t (MayCarry left)
  at_start t left tree = record {
    h = start;
    tree = tree;
    seated = run_seated [] tt;
    listed = run_listed [] tt;
    is = (record { past = []; legal = tt; leads = refl }, λ k s e. absurd (cc));
  }
