-- The wrong reports are not legal, since the right one is.
use Rattle.std.proofs.Common.{List, [], ◌∷◌, Bool, false, ap}
use Rattle.std.specs.Prelude.{is_none}
use Rattle.hls_report_text.specs.declared.stretch.Stretch.{Stretch}
use Rattle.hls_legal.specs.Legal.{IsLegalContent}
use Rattle.hls_legal.proofs.OneReport.{one_report}
use Rattle.hls_test_worked.specs.Said.{full_kit}
use Rattle.hls_test_worked.specs.Joined.{joined, joined_scenario}
use Rattle.hls_test_worked.specs.Wrong.{refuses_without_cause, idles_while_the_root_asks}
use Rattle.hls_test_worked.specs.Wrong.{keeps_null_for_what_was_wanted}
use Rattle.hls_test_worked.proofs.Joined.{joined_legal}

pub no_cause : ¬ IsLegalContent joined_scenario 3 full_kit refuses_without_cause
no_cause legal =
    (one_report joined_scenario 3 full_kit joined refuses_without_cause joined_legal
    legal).answered.1.1.1.1.1.0.answer

-- the last tick of a schedule of three stretches is idle
abbrev idles : List Stretch → Bool
idles (a ∷ b ∷ c ∷ []) = is_none c.path
idles _ = false

pub no_idling : ¬ IsLegalContent joined_scenario 3 full_kit idles_while_the_root_asks
no_idling legal =
    let same = (one_report joined_scenario 3 full_kit joined idles_while_the_root_asks joined_legal legal).stretches in
    let e = ap idles same in
    cc

pub no_null : ¬ IsLegalContent joined_scenario 3 full_kit keeps_null_for_what_was_wanted
no_null legal =
    let seat = (one_report joined_scenario 3 full_kit joined keeps_null_for_what_was_wanted joined_legal
    legal).answered.1.1.1.1.0.answer.0 in
    let e = seat.ends in
    cc
