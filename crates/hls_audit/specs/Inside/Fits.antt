-- Numbers in their ranges, and a seat for each port.
use Rattle.std.specs.Prelude.{◌≡◌, ℕ, List, [], ◌∷◌, length, All}
use Rattle.hls_chron.specs.Kinds.{port_count}
use Rattle.hls_chron.specs.Ranges.{ConfigInRange, TermsInRange}
use Rattle.hls_guarantee.specs.Limits.{IsValid}
use Rattle.hls_scenario.specs.declared.scenario.Perch.{Perch}
use Rattle.hls_scenario.specs.Grammar.{IsLoad, IsPerch}
use Rattle.hls_legal.specs.Dues.{Due}
use Rattle.hls_audit_clauses.specs.declared.member.Sort.{Sort}
use Rattle.hls_audit_clauses.specs.declared.member.Sort.TheVariants.{Scheduler, Thread}
use Rattle.hls_audit_clauses.specs.declared.member.Member.{Member}

-- the seats of a scheduler or a thread are as the grammar has them in some version
abbrev pub HasSeats : Sort → List Perch → Type 0
HasSeats (Scheduler config) perches = (version : ℕ) × IsLoad version config perches
HasSeats Thread (perch ∷ []) = IsPerch perch
HasSeats Thread _ = ⊥

abbrev pub IsFit : Member → Type 0
IsFit m = HasSeats m.sort m.perches

-- what is due can be checked
pub record IsFitDue (due : Due) : Type 0 where
  pub config : ConfigInRange due.place.config
  pub terms : TermsInRange due.place.terms
  pub ports : length due.haves ≡ port_count due.place.config
  pub haves : All IsValid due.haves
  pub want : IsValid due.want
