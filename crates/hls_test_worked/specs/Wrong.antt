-- Wrong reports of the scenario with the join: each differs from the right one in one thing.
use Rattle.std.specs.Prelude.{ℕ, ◌+◌, List, [], ◌∷◌, ◌++◌, Some, None, true, codes, take, drop}
use Rattle.hls_chron.specs.declared.plain.Kind.TheVariants as kinds
use Rattle.hls_guarantee.specs.declared.Guarantee.TheVariants.{Null, Resb}
use Rattle.hls_report_text.specs.declared.refusal.Refusal.TheVariants.{NoDerivation}
use Rattle.hls_report_text.specs.declared.report.Answered.{Answered}
use Rattle.hls_report_text.specs.Content.{Content}
use Rattle.hls_test_worked.specs.Said.{lent, seated, done, refused, stretch}
use Rattle.hls_test_worked.specs.Joined.{joined, answered, admit_a, admit_b}

-- with another answer to the command at a place
abbrev pub answering : (at : ℕ) → Answered → List Answered
answering at a = take at answered ++ a ∷ drop (at + 1) answered

-- the second thread is refused, though it has a derivation
abbrev pub refuses_without_cause : Content
refuses_without_cause = record joined { answered = answering 5 (refused 0 admit_b (NoDerivation (codes "b") 3)) }

-- nobody runs in the last tick, in which the root asks
abbrev pub idles_while_the_root_asks : Content
idles_while_the_root_asks = record joined {
  stretches = stretch 0 1 (Some (codes "root" ∷ codes "e" ∷ codes "j" ∷ codes "a" ∷ []))
      ∷ stretch 2 2 (Some (codes "root" ∷ codes "r" ∷ codes "j" ∷ codes "a" ∷ []))
      ∷ stretch 3 3 None
      ∷ [];
}

-- the first thread is given nothing in place of what it wants
abbrev pub keeps_null_for_what_was_wanted : Content
keeps_null_for_what_was_wanted = record joined {
  answered = answering 4 (done 0 admit_a (seated (codes "a") 0 (lent (Resb true 2 10) kinds.Join Null) ∷ []));
}
