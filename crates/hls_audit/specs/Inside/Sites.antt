-- Clauses at one command of a list.
use Rattle.std.specs.Prelude.{◌≡◌, ℕ, List, Some, true, take, slice_get}
use Rattle.hls_report_text.specs.declared.report.Answered.{Answered}
use Rattle.hls_legal.specs.Commands.{is_done}
use Rattle.hls_legal.specs.Dues.{AreSettled}
use Rattle.hls_audit_clauses.specs.declared.member.Member.{Member}
use Rattle.hls_audit_clauses.specs.Names.{tree_of}
use Rattle.hls_audit_clauses.specs.Misplaced.{is_misplaced}
use Rattle.hls_audit_clauses.specs.Dues.{dues}
use Rattle.hls_audit_clauses.specs.Clauses.{seats_in}

pub record IsMisplacedBy (tree : List Member) (a : Answered) : Type 0 where
  pub done : is_done a.answer ≡ true
  pub misplaced : is_misplaced tree a.command ≡ true

pub record IsUnderivedBy (depth : ℕ) (tree : List Member) (a : Answered) : Type 0 where
  pub done : is_done a.answer ≡ true
  pub lacks : ¬ AreSettled depth (dues tree a.command) (seats_in a.answer)

-- a command of a tick fails a test by the tree before it
pub record HasBad (bad : List Member → Answered → Type 0) (all : List Answered) (t : ℕ) : Type 0 where
  pub at : ℕ
  pub a : Answered
  pub there : slice_get all at ≡ Some a
  pub tick : a.tick ≡ t
  pub is : bad (tree_of (take at all)) a
