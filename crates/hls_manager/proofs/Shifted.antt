-- What a move comes to, where nothing refuses it but the want of a derivation.
use Rattle.std.proofs.Common.{◌≡◌, ℕ, ◌≤◌, List, [], ◌∷◌, Some, sym, ap, ◌∙◌, subst, slice_get}
use Rattle.std.specs.List.{AllByRecursion}
use Rattle.hls_text.specs.Lines.{Text}
use Rattle.hls_chron.specs.Name.{IsName}
use Rattle.hls_chron.specs.Ranges.{TermsInRange}
use Rattle.hls_guarantee.specs.declared.Guarantee.{Guarantee}
use Rattle.hls_guarantee.specs.Limits.{IsNarrow}
use Rattle.hls_scenario.specs.declared.scenario.Perch.{Perch}
use Rattle.hls_scenario.specs.declared.scenario.Command.{Command}
use Rattle.hls_scenario.specs.declared.scenario.Command.TheVariants as said
use Rattle.hls_scenario.specs.Grammar.{IsCommand}
use Rattle.hls_report_text.specs.declared.refusal.Refusal.TheVariants.{NoDerivation}
use Rattle.hls_report_text.specs.declared.report.Seated.{Seated}
use Rattle.hls_report_text.specs.declared.report.Answer.{Answer}
use Rattle.hls_report_text.specs.declared.report.Answer.TheVariants.{Done, Refused}
use Rattle.hls_report_text.specs.WellFormed.{MayAnswer as IsWellFormed, IsSeated}
use Rattle.hls_sched.specs.Seen.{Seen}
use Rattle.hls_machine.specs.Hierarchy.{Hierarchy}
use Rattle.hls_machine.specs.Lists.{IsListed}
use Rattle.hls_machine.specs.Steps.{Move}
use Rattle.hls_legal.specs.Moment.{Moment}
use Rattle.hls_legal.specs.Dues.{Due, due_at, dues, dues_on, AreSettled, IsSettled}
use Rattle.hls_legal.specs.Refusals.{IsFirstSuch, LacksDerivation}
use Rattle.hls_legal.specs.Answers.{IsRefused, IsDone}
use Rattle.hls_legal.specs.Doable.{AreDerivable}
use Rattle.hls_tree.specs.Offers.{MayMove}
use Rattle.hls_tree.specs.Reads.{IsParent}
use Rattle.hls_tree.specs.Trees.{IsTreeOf, Moves}
use Rattle.hls_tree.specs.declared.seat.Seat.{Seat}
use Rattle.hls_tree.specs.declared.tree.Tree.{Tree}
use Rattle.hls_manager.specs.Seats.{due_for}
use Rattle.hls_machine.specs.Legal.{IsReached}
use Rattle.hls_manager.specs.Outcomes.{HasMarkRoom, CarriesOut}
use Rattle.hls_manager.specs.Rederived.{AreRederived}
use Rattle.hls_manager.specs.Inside.Shifts.{IsAimed, IsMovable}
use Rattle.hls_manager.specs.Inside.Told.{IsTakenBy, told_first}
use Rattle.hls_manager.specs.declared.rederiving.Rederived.{Rederived}
use Rattle.hls_manager.specs.declared.rederiving.Rederived.TheVariants.{All, Lacks}
use Rattle.hls_manager.proofs.Offers.{spot_terms}
use Rattle.hls_manager.proofs.Outcomes.{reached_listed, reached_seated, refuses}
use Rattle.hls_manager.proofs.Shifts.{lacks_refused, shift_done}
use Rattle.hls_manager.proofs.Aims.{clear_all, fits_here, mover_number}
use Rattle.hls_manager.proofs.ShiftSteps.{can_move, may_move, taken_for}
use Rattle.hls_manager.proofs.ShiftDues.{mover_due, aimed_parent, settled_derives, none_lacks, move_dues, seats_told}
use Rattle.hls_manager.proofs.ShiftDues.{move_tellable, lacks_later, IsTellable}

-- what is wanted has numbers in their ranges
pub aimed_terms : (h : Hierarchy) (name : Text) (perch : Perch) (id : ℕ) (seat : Seat) → IsAimed h name perch id seat
    → IsCommand 2 (said.Move name perch) → TermsInRange seat.terms
aimed_terms h name perch id seat aimed within =
    subst (λ t. TermsInRange t) (sym aimed.terms) (spot_terms perch.spot within.1.spot)

pub aimed_kept : (h : Hierarchy) (name : Text) (perch : Perch) (id : ℕ) (seat : Seat) → IsAimed h name perch id seat
    → IsCommand 2 (said.Move name perch) → IsNarrow seat.kept
aimed_kept h name perch id seat aimed within =
    subst (λ (g : Guarantee). IsNarrow g) (sym aimed.kept) within.1.want

module _ (h : Hierarchy) (reached : IsReached h) (name : Text) (perch : Perch)
    (within : IsCommand 2 (said.Move name perch))
    (id : ℕ) (seat : Seat) (movable : IsMovable h name perch id seat) where
  abbrev c : Command
  c = said.Move name perch

  abbrev asked : List Due
  asked = due_for h name 0 seat ∷ dues_on h seat.kept (Some id)

  listed : IsListed h
  listed = reached_listed h reached

  dues_are : asked ≡ dues h c
  dues_are =
      let due = mover_due h listed name perch id seat movable.aimed in
      let kept = movable.aimed.kept in
      let same : asked ≡ due_at h name 0 perch ∷ dues_on h perch.want (Some id) =
      λ i. due i ∷ dues_on h (kept i) (Some id) in
      same ∙ sym (move_dues h name perch id (mover_number h listed name perch id seat movable.aimed))

  settled_so : (depth : ℕ) (seats : List Seated) → AreSettled depth asked seats → AreSettled depth (dues h c) seats
  settled_so depth seats are = subst (λ (ds : List Due). AreSettled depth ds seats) dues_are are

  first_so : (depth : ℕ) (other : Text) → IsFirstSuch asked (LacksDerivation depth) other
      → IsFirstSuch (dues h c) (LacksDerivation depth) other
  first_so depth other f = subst (λ (ds : List Due). IsFirstSuch ds (LacksDerivation depth) other) dues_are f

  tellable : (at : ℕ) (due : Due) → slice_get (dues h c) at ≡ Some due → IsTellable due
  tellable =
      move_tellable h reached listed name perch id seat movable.aimed within.0
      (mover_number h listed name perch id seat movable.aimed)

  -- ---- it is well formed

  formed_by : (seats : List Seated) → AllByRecursion IsSeated seats
      → IsWellFormed c (Done seats)
  formed_by [] all = tt
  formed_by (s ∷ seats) all = (tt, all)

  pub done_formed : (depth : ℕ) → depth ≤ 6 → (seats : List Seated) → AreSettled depth asked seats
      → IsWellFormed c (Done seats)
  done_formed depth shallow seats are =
      formed_by seats (seats_told depth shallow (dues h c) seats (settled_so depth seats are) tellable)

  pub lacks_formed : (depth : ℕ) (other : Text) → IsFirstSuch asked (LacksDerivation depth) other → IsName other
  lacks_formed depth other f =
      let g = first_so depth other f in
      subst (λ (n : Text). IsName n) (sym g.tells.whose) (tellable g.at g.item g.item_is).named

  -- ---- what is asked of the tree

  pub parent_there : IsParent h seat.parent
  parent_there = aimed_parent h listed name perch id seat movable.aimed

  pub may_relocate : HasMarkRoom h → MayMove h id seat
  may_relocate room =
      may_move h (reached_seated h reached) room name perch id seat movable.aimed
      (aimed_terms h name perch id seat movable.aimed within) (aimed_kept h name perch id seat movable.aimed within)
      movable.fits movable.placed

-- ---- the answers

module _ (m : Moment) (reached : IsReached m.hierarchy) (name : Text) (perch : Perch)
    (within : IsCommand 2 (said.Move name perch)) (id : ℕ) (seat : Seat)
    (movable : IsMovable m.hierarchy name perch id seat) where
  abbrev g : Hierarchy
  g = m.hierarchy

  abbrev move : Command
  move = said.Move name perch

  abbrev asked_of : List Due
  asked_of = due_for g name 0 seat ∷ dues_on g seat.kept (Some id)

  heard : IsListed g
  heard = reached_listed g reached

  pub lacks_answer : (other : Text) → IsFirstSuch asked_of (LacksDerivation m.depth) other
      → IsRefused m move (NoDerivation other m.depth)
  lacks_answer other f =
      lacks_refused m name perch other (first_so g reached name perch within id seat movable m.depth other f)
      (clear_all g heard name perch id seat movable.aimed movable.placed 24)
      (fits_here g heard name perch id seat movable.aimed movable.fits)

  module _ (seats : List Seated) (are : AreSettled m.depth asked_of seats) where
    settled : AreSettled m.depth (dues g move) seats
    settled = settled_so g reached name perch within id seat movable m.depth seats are

    pub done_answer : IsDone m move seats
    done_answer =
        shift_done m name perch seats (clear_all g heard name perch id seat movable.aimed movable.placed 24)
        (fits_here g heard name perch id seat movable.aimed movable.fits)
        (λ other f. none_lacks m.depth (dues g move) seats settled other f) settled

    derivable : AreDerivable m move
    derivable = λ at due e. settled_derives m.depth (dues g move) seats settled at due e

    module _ {V : Type 0} {P : V → Type 0} (seen : (x : V) × P x → Seen) where
      -- a node was moved to the seat that was wanted
      pub moves : (old new : Tree V P) (commands : ℕ) → Moves seen old new g id seat
          → CarriesOut seen old new m commands move (Done seats)
      moves old new commands mv =
          let taken = taken_for g name perch id seat movable.aimed mv.seat mv.taken in
          record {
            answers = done_answer;
            step = Move id mv.seat mv.below;
            does = (movable.aimed.has, taken.is);
            can = can_move m reached name perch within done_answer.none derivable id movable.aimed.has mv.seat mv.below
                mv.under taken;
            roomy = tt;
            tree = mv.tree;
            ready = mv.ready;
          }

-- ---- by what is told

pub rederived_first : (depth : ℕ) (due : Due) (ds : List Due) (first : Seated) (told : Rederived)
    → IsSettled depth due first → AreRederived depth ds told → AreRederived depth (due ∷ ds) (told_first first told)
rederived_first depth due ds first (All seats) is are = (is, are)
rederived_first depth due ds first (Lacks name) is are =
    lacks_later depth due ds first.derivation is.derives name are

module _ (h : Hierarchy) (reached : IsReached h) (name : Text) (perch : Perch)
    (within : IsCommand 2 (said.Move name perch))
    (id : ℕ) (seat : Seat) (movable : IsMovable h name perch id seat) (depth : ℕ) (shallow : depth ≤ 6)
    (unchanged changed : Type 0) where
  -- an answer by what is told is well formed
  pub told_formed : (told : Rederived) (answer : Answer)
      → AreRederived depth (due_for h name 0 seat ∷ dues_on h seat.kept (Some id)) told
      → IsTakenBy depth told answer unchanged changed → IsWellFormed (said.Move name perch) answer
  told_formed (All seats) answer are taken =
      subst (λ (a : Answer). IsWellFormed (said.Move name perch) a) (sym taken.0)
      (done_formed h reached name perch within id seat movable depth shallow seats are)
  told_formed (Lacks other) answer are taken =
      subst (λ (a : Answer). IsWellFormed (said.Move name perch) a) (sym taken.0)
      (lacks_formed h reached name perch within id seat movable depth other are, shallow)

module _ {V : Type 0} {P : V → Type 0} (seen : (x : V) × P x → Seen) where
  -- and it is the answer
  pub told_carried : (old new : Tree V P) (m : Moment) (commands : ℕ) (name : Text) (perch : Perch) (id : ℕ)
      (seat : Seat) (depth : ℕ) → m.depth ≡ depth → IsTreeOf seen old m.hierarchy → IsReached m.hierarchy
      → IsCommand 2 (said.Move name perch) → IsMovable m.hierarchy name perch id seat → (told : Rederived)
      (answer : Answer)
      → AreRederived depth (due_for m.hierarchy name 0 seat ∷ dues_on m.hierarchy seat.kept (Some id)) told
      → IsTakenBy depth told answer (new ≡ old)
      ((h : Hierarchy) → IsTreeOf seen old h → Moves seen old new h id seat)
      → CarriesOut seen old new m commands (said.Move name perch) answer
  told_carried old new m commands name perch id seat depth e tree reached within movable (All seats) answer are taken =
      let settled = subst (λ n. AreSettled n
      (due_for m.hierarchy name 0 seat ∷ dues_on m.hierarchy seat.kept (Some id)) seats) (sym e) are in
      subst (λ (a : Answer). CarriesOut seen old new m commands (said.Move name perch) a) (sym taken.0)
      (moves m reached name perch within id seat movable seats settled seen old new commands (taken.1 m.hierarchy tree))
  told_carried old new m commands name perch id seat depth e tree reached within movable (Lacks other) answer are
      taken =
      let lacks = subst (λ n. IsFirstSuch (due_for m.hierarchy name 0 seat ∷ dues_on m.hierarchy seat.kept (Some id))
      (LacksDerivation n) other) (sym e) are in
      let is = lacks_answer m reached name perch within id seat movable other lacks in
      let same : answer ≡ Refused (NoDerivation other m.depth) =
      taken.0 ∙ ap (λ n. Refused (NoDerivation other n)) (sym e) in
      subst (λ (t : Tree V P). CarriesOut seen old t m commands (said.Move name perch) answer) (sym taken.1)
      (subst (λ (a : Answer). CarriesOut seen old old m commands (said.Move name perch) a) (sym same)
      (refuses seen old m commands (said.Move name perch) (NoDerivation other m.depth) tree is))
