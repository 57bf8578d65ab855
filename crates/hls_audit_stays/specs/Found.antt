-- Stays as they are found.
use Rattle.std.specs.Prelude.{ℕ, List, Option, Some, None, Bool, true, nat_lt, slice_get}
use Rattle.hls_report_text.specs.declared.report.Answered.{Answered}
use Rattle.hls_legal.specs.declared.stay.Stay.{Stay}
use Rattle.hls_legal.specs.Stays.{want_of}
use Rattle.hls_audit_stays.specs.declared.found.FoundStay.{FoundStay}

abbrev pub command_at : List Answered → Option ℕ → Option Answered
command_at all None = None
command_at all (Some place) = slice_get all place

abbrev pub stay_by : List Answered → FoundStay → Stay
stay_by all found = record {
  name = found.name;
  kept = want_of (command_at all found.seated);
  since = found.since;
  until = found.until;
}

abbrev pub is_later : (since : ℕ) → Option ℕ → Bool
is_later since None = true
is_later since (Some until) = nat_lt since until

-- no command ended the stay before it had a tick
abbrev pub lasts : Stay → Bool
lasts stay = is_later stay.since stay.until

abbrev pub has_lasted : FoundStay → Bool
has_lasted found = is_later found.since found.until
