-- What is due, as the answers to commands tell it.
use Rattle.std.specs.Prelude.{ℕ, ◌+◌, List, [], ◌∷◌, if◌then◌else◌}
use Rattle.hls_text.specs.Lines.{Text}
use Rattle.hls_chron.specs.declared.plain.Config.{Config}
use Rattle.hls_guarantee.specs.declared.Guarantee.{Guarantee}
use Rattle.hls_scenario.specs.declared.scenario.Perch.{Perch}
use Rattle.hls_legal.specs.Tells.{terms_in}
use Rattle.hls_legal.specs.Dues.{Due}
use Rattle.hls_audit_clauses.specs.Dues.{is_at}
use Rattle.hls_audit.specs.declared.dues.Due as dues

abbrev pub told : dues.Due → Due
told due = record {
  name = due.name;
  port = due.port;
  place = due.place;
  haves = due.haves;
  want = due.want;
}

-- the same on a scheduler of this configuration
abbrev pub due_under : Config → (has : Guarantee) → Text → (port : ℕ) → Perch → Due
due_under config has name port perch = record {
  name = name;
  port = port;
  place = record { config = config; terms = terms_in perch.spot };
  haves = has ∷ [];
  want = perch.want;
}

abbrev pub dues_under : Config → (moved : Text) → (has : Guarantee) → Text → (port : ℕ) → List Perch → List Due
dues_under config moved has name port [] = []
dues_under config moved has name port (perch ∷ perches) =
    if is_at moved perch.spot
    then due_under config has name port perch ∷ dues_under config moved has name (port + 1) perches
    else dues_under config moved has name (port + 1) perches
