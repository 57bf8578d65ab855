-- The seven clauses of the audit of a report, by what the report says alone: at which ticks each fails. No
-- hierarchy of the machine stands behind it, so that reports are judged that no machine could have made.
use Rattle.std.specs.Prelude.{◌≡◌, ℕ, ◌+◌, ◌≤◌, ◌<◌, List, [], Some, true, false, take, slice_get}
use Rattle.hls_text.specs.Lines.{Text}
use Rattle.hls_guarantee.specs.Satisfaction.{Satisfies}
use Rattle.hls_guarantee.specs.Cap.{KeepsCap}
use Rattle.hls_report_text.specs.declared.report.Seated.{Seated}
use Rattle.hls_report_text.specs.declared.report.Answer.{Answer}
use Rattle.hls_report_text.specs.declared.report.Answer.TheVariants.{Done, Refused}
use Rattle.hls_report_text.specs.declared.report.Answered.{Answered}
use Rattle.hls_report_text.specs.Content.{Content}
use Rattle.hls_legal.specs.declared.stay.Stay.{Stay}
use Rattle.hls_legal.specs.Commands.{is_done}
use Rattle.hls_legal.specs.Schedule.{path_at, last_name, is_served}
use Rattle.hls_legal.specs.Ready.{is_ready}
use Rattle.hls_legal.specs.Stays.{stays}
use Rattle.hls_legal.specs.Accounts.{end_of, IsLongestWindow, accounts_of, idle_of}
use Rattle.hls_legal.specs.Dues.{AreSettled}
use Rattle.hls_audit_clauses.specs.Names.{tree_of, tree_at}
use Rattle.hls_audit_clauses.specs.Misplaced.{is_misplaced}
use Rattle.hls_audit_clauses.specs.Ways.{leads_down}
use Rattle.hls_audit_clauses.specs.Dues.{dues}

-- a command of a tick that was carried out, at a place in the list
pub record IsDoneAt (c : Content) (t at : ℕ) (a : Answered) : Type 0 where
  pub there : slice_get c.answered at ≡ Some a
  pub tick : a.tick ≡ t
  pub done : is_done a.answer ≡ true

-- 1: the tree of names before it does not allow the command
pub record IsMisplacedAt (c : Content) (t : ℕ) : Type 0 where
  pub at : ℕ
  pub a : Answered
  pub command : IsDoneAt c t at a
  pub misplaced : is_misplaced (tree_of (take at c.answered)) a.command ≡ true

-- 2: the tick has a path that does not lead from the processor down to a thread
pub record IsAstray (c : Content) (t : ℕ) : Type 0 where
  pub names : List Text
  pub path : path_at c.stretches t ≡ Some names
  pub astray : leads_down (tree_at t c.answered) names ≡ false

-- 3: it has a path whose thread is not ready
pub record RunsUnready (c : Content) (t : ℕ) : Type 0 where
  pub names : List Text
  pub name : Text
  pub path : path_at c.stretches t ≡ Some names
  pub thread : last_name names ≡ Some name
  pub unready : is_ready c name t ≡ false

-- a stay that has a tick
pub record HasTick (c : Content) (stay : Stay) (t : ℕ) : Type 0 where
  pub number : ℕ
  pub listed : slice_get (stays c.answered) number ≡ Some stay
  pub since : stay.since ≤ t
  pub until : t < end_of c stay

-- 4: a thread is ready, and the longest window of its stay that ends with the tick does not have what is
-- guaranteed (all windows within that one have it where it has)
pub record IsStarved (c : Content) (t : ℕ) : Type 0 where
  pub stay : Stay
  pub now : HasTick c stay t
  pub ready : is_ready c stay.name t ≡ true
  pub from : ℕ
  pub window : IsLongestWindow c stay from (t + 1)
  pub short : ¬ Satisfies stay.kept (is_served c.stretches stay.name) from (t + 1)

-- 5: a thread is served, and the ticks of its stay up to this one exceed its cap
pub record IsOverCap (c : Content) (t : ℕ) : Type 0 where
  pub stay : Stay
  pub now : HasTick c stay t
  pub served : is_served c.stretches stay.name t ≡ true
  pub over : ¬ KeepsCap stay.kept (is_served c.stretches stay.name) stay.since (t + 1)

-- the seats that an answer tells
abbrev pub seats_in : Answer → List Seated
seats_in (Done seats) = seats
seats_in (Refused refusal) = []

-- 6: a command was carried out without one derivation, of at most the depth, for each seat that it takes or
-- derives anew, in their order
pub record IsUnderivedAt (c : Content) (t : ℕ) : Type 0 where
  pub at : ℕ
  pub a : Answered
  pub command : IsDoneAt c t at a
  pub lacks : ¬ AreSettled c.depth (dues (tree_of (take at c.answered)) a.command) (seats_in a.answer)

-- 7: at the end the accounts or the idle ticks are not those of the commands and the schedule
pub record IsMiscounted (c : Content) (t : ℕ) : Type 0 where
  pub end : t ≡ c.horizon
  pub counted : c.accounts ≡ accounts_of c → ¬ (c.idle ≡ idle_of c)

-- the clauses, and their numbers
pub data Clause : Type 0 where
  Placed : Clause
  Leading : Clause
  Ready : Clause
  Supplied : Clause
  Capped : Clause
  Derived : Clause
  Counted : Clause

abbrev pub number_of : Clause → ℕ
number_of Placed = 1
number_of Leading = 2
number_of Ready = 3
number_of Supplied = 4
number_of Capped = 5
number_of Derived = 6
number_of Counted = 7

-- a clause fails at a tick
abbrev pub Fails : Clause → Content → (t : ℕ) → Type 0
Fails Placed c t = IsMisplacedAt c t
Fails Leading c t = IsAstray c t
Fails Ready c t = RunsUnready c t
Fails Supplied c t = IsStarved c t
Fails Capped c t = IsOverCap c t
Fails Derived c t = IsUnderivedAt c t
Fails Counted c t = IsMiscounted c t
