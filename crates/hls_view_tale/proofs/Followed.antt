-- What is carried follows each command.
use Rattle.std.proofs.Common.{◌≡◌, ℕ, suc, ◌+◌, ◌<◌, List, [], ◌∷◌, ◌++◌, refl, sym, ap, ◌∙◌, arith}
use Rattle.std.proofs.Common.{Bool, true, false, not, length, get_or, take, filter, if◌then◌else◌}
use Rattle.std.proofs.Math.Seq.{take-suc}
use Rattle.std.specs.Prelude.{slice_get, ◌&&◌}
use Rattle.std.proofs.lemmas.List.{append-nil}
use Rattle.std.proofs.lemmas.List.Sums.{fold_more}
use Rattle.std.proofs.lemmas.Option.{slice_get_read}
use Rattle.hls_text.specs.Lines.{Text}
use Rattle.hls_scenario.specs.declared.scenario.Command.{Command}
use Rattle.hls_scenario.specs.declared.scenario.Command.TheVariants.{Load, Thread, End, Unload, Move, Wake, Block}
use Rattle.hls_report_text.specs.declared.report.Answered.{Answered}
use Rattle.hls_legal.specs.Commands.{is_done, ends}
use Rattle.hls_legal.specs.Stays.{threads, admits}
use Rattle.hls_legal.proofs.StaySnoc.{threads_snoc}
use Rattle.hls_audit_clauses.specs.declared.member.Member.{Member}
use Rattle.hls_audit_clauses.specs.Names.{tree_of, after, after_answer}
use Rattle.hls_view_tale.specs.declared.standing.Standing.{Standing}
use Rattle.hls_view_tale.specs.declared.tale.Tale.{Tale}
use Rattle.hls_view_tale.specs.Standings.{standing, standing_after, standing_with}
use Rattle.hls_view_tale.specs.Inside.Told.{IsTold, Does, threads_after}

filter_all : (names : List Text) → filter (λ (name : Text). true) names ≡ names
filter_all [] = refl
filter_all (name ∷ names) = ap (λ (l : List Text). name ∷ l) (filter_all names)

same_all : (names : List Text) → filter (λ (name : Text). true) names ++ [] ≡ names
same_all names = append-nil (filter (λ (name : Text). true) names) ∙ filter_all names

threads_done : (names : List Text) (command : Command) (done : Bool) → done ≡ true
    → filter (λ name. not (done && ends name command)) names ++ (if done then admits command [] else [])
    ≡ threads_after names command
threads_done names command false e = absurd (cc)
threads_done names (Load name config perches) true e = same_all names
threads_done names (Thread name perch) true e = ap (λ (l : List Text). l ++ name ∷ []) (filter_all names)
threads_done names (End name) true e = append-nil (filter (λ other. not (ends other (End name))) names)
threads_done names (Unload name) true e = same_all names
threads_done names (Move name perch) true e = same_all names
threads_done names (Wake name every burst) true e = same_all names
threads_done names (Block name) true e = same_all names

threads_refused : (names : List Text) (command : Command) (done : Bool) → done ≡ false
    → filter (λ name. not (done && ends name command)) names ++ (if done then admits command [] else []) ≡ names
threads_refused names command true e = absurd (cc)
threads_refused names command false e = same_all names

taken : (all : List Answered) (place : ℕ) (a : Answered) → place < length all → a ≡ get_or all place a
    → take (place + 1) all ≡ take place all ++ a ∷ []
taken all place a lt is =
    ap (λ n. take n all) (let e : place + 1 ≡ suc place = omega arith in e)
    ∙ take-suc all place a lt ∙ ap (λ (b : Answered). take place all ++ b ∷ []) (sym is)

pub tree_next : (all : List Answered) (place : ℕ) (a : Answered) → place < length all → a ≡ get_or all place a
    → tree_of (take (place + 1) all)
    ≡ (if is_done a.answer then after (tree_of (take place all)) a.command else tree_of (take place all))
tree_next all place a lt is =
    fold_more after_answer [] all place a lt ∙ ap (after_answer (tree_of (take place all))) (sym is)

standing_suc : (all : List Answered) (place : ℕ)
    → standing all (suc place) ≡ standing_with (take place all) place (slice_get all place) (standing all place)
unfolding standing
standing_suc all place = refl

pub standing_next : (all : List Answered) (place : ℕ) (a : Answered) → place < length all → a ≡ get_or all place a
    → standing all (place + 1)
    ≡ (if is_done a.answer
    then standing_after (tree_of (take place all)) (threads (take place all)) place a.command (standing all place)
    else standing all place)
standing_next all place a lt is =
    ap (standing all) (let e : place + 1 ≡ suc place = omega arith in e)
    ∙ standing_suc all place
    ∙ ap (λ o. standing_with (take place all) place o (standing all place))
    (slice_get_read all (length all) place a refl lt is)

pub told_done : (old new : Tale) (all : List Answered) (place : ℕ) (a : Answered) → place < length all
    → a ≡ get_or all place a → is_done a.answer ≡ true → Does old new place a.command → IsTold old all place
    → IsTold new all (place + 1)
told_done old new all place a lt is done does told = record {
  tree = does.tree
      ∙ ap (λ (ms : List Member). after ms a.command) told.tree
      ∙ sym (tree_next all place a lt is
      ∙ ap (λ (b : Bool). if b then after (tree_of (take place all)) a.command else tree_of (take place all)) done);
  threads = does.threads
      ∙ ap (λ (names : List Text). threads_after names a.command) told.threads
      ∙ sym (ap threads (taken all place a lt is)
      ∙ threads_snoc (take place all) a
      ∙ threads_done (threads (take place all)) a.command (is_done a.answer) done);
  standing = does.standing
      ∙ ap (λ (ms : List Member). standing_after ms old.threads.items place a.command old.standing.items) told.tree
      ∙ ap (λ (names : List Text). standing_after (tree_of (take place all)) names place a.command
      old.standing.items) told.threads
      ∙ ap (λ (ss : List Standing). standing_after (tree_of (take place all)) (threads (take place all)) place
      a.command ss) told.standing
      ∙ sym (standing_next all place a lt is
      ∙ ap (λ (b : Bool). if b
      then standing_after (tree_of (take place all)) (threads (take place all)) place a.command (standing all place)
      else standing all place) done);
}

pub told_refused : (tale : Tale) (all : List Answered) (place : ℕ) (a : Answered) → place < length all
    → a ≡ get_or all place a → is_done a.answer ≡ false → IsTold tale all place → IsTold tale all (place + 1)
told_refused tale all place a lt is refused told = record {
  tree = told.tree
      ∙ sym (tree_next all place a lt is
      ∙ ap (λ (b : Bool). if b then after (tree_of (take place all)) a.command else tree_of (take place all)) refused);
  threads = told.threads
      ∙ sym (ap threads (taken all place a lt is)
      ∙ threads_snoc (take place all) a
      ∙ threads_refused (threads (take place all)) a.command (is_done a.answer) refused);
  standing = told.standing
      ∙ sym (standing_next all place a lt is
      ∙ ap (λ (b : Bool). if b
      then standing_after (tree_of (take place all)) (threads (take place all)) place a.command (standing all place)
      else standing all place) refused);
}

pub told_none : (tale : Tale) (all : List Answered) → tale.tree.items ≡ [] → tale.threads.items ≡ []
    → tale.standing.items ≡ [] → IsTold tale all 0
unfolding threads standing
told_none tale all tree names stays = record { tree = tree; threads = names; standing = stays }
