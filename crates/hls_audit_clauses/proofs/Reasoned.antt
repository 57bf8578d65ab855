-- What the tree of names allows, and what the machine refuses, where a legal run leads.
use Rattle.std.proofs.Common.{◌≡◌, ℕ, List, false, refl, sym, subst}
use Rattle.std.specs.Prelude.{◌↔◌}
use Rattle.hls_scenario.specs.declared.scenario.Command.{Command}
use Rattle.hls_scenario.specs.Grammar.{IsCommand}
use Rattle.hls_report_text.specs.declared.refusal.Refusal.{Refusal}
use Rattle.hls_report_text.specs.Content.{Content}
use Rattle.hls_machine.specs.Hierarchy.{Hierarchy, start}
use Rattle.hls_machine.specs.Steps.{Step, state}
use Rattle.hls_machine.specs.Legal.{IsLegal}
use Rattle.hls_legal.specs.Tells.{Tells}
use Rattle.hls_legal.proofs.Reached.{IsReached}
use Rattle.hls_legal.specs.Moment.{Moment}
use Rattle.hls_legal.specs.Answers.{Applies}
use Rattle.hls_legal.proofs.Done.{IsReached as AnswersReach, reached}
use Rattle.hls_audit_clauses.specs.Names.{tree_of}
use Rattle.hls_audit_clauses.specs.Misplaced.{is_misplaced}
use Rattle.hls_audit_clauses.specs.Reasons.{IsOfNames}
use Rattle.hls_audit_clauses.proofs.Trees.{IsTreeOf}
use Rattle.hls_audit_clauses.proofs.TreeRuns.{end_tree}
use Rattle.hls_audit_clauses.proofs.Barred.{barred}
use Rattle.hls_audit_clauses.proofs.Allowed.{allowed}

pub allowed_both : (c : Content) (steps : List Step) → IsLegal start steps → Tells c steps → (m : Moment)
    → m.hierarchy ≡ state start steps → (version : ℕ) (command : Command) → IsCommand version command
    → (is_misplaced (tree_of c.answered) command ≡ false) ↔ ((r : Refusal) → IsOfNames r → ¬ Applies m command r)
allowed_both c steps legal tells m is version command within =
    let tree = tree_of c.answered in
    let at_end : IsReached (state start steps) = record { steps = steps; legal = legal; leads = refl } in
    let go : IsReached m.hierarchy = subst IsReached (sym is) at_end in
    let t : IsTreeOf tree m.hierarchy =
    subst (λ (h : Hierarchy). IsTreeOf tree h) (sym is) (end_tree c steps legal tells) in
    let reach : AnswersReach m.hierarchy =
    subst (λ (h : Hierarchy). AnswersReach h) (sym is) (reached steps legal) in (
      λ off r of. barred m tree go t command off r of,
      λ none. allowed m tree go t command none reach version within,
    )
