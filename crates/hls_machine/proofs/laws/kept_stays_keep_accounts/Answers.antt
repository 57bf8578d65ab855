use Rattle.std.specs.Prelude.{nat_lt}
use Rattle.std.proofs.lemmas.List.Elements.{All-filter}
use Rattle.hls_machine.specs.Hierarchy.{Stay}
use Rattle.hls_machine.specs.Supplied.{end_of, IsKept}
use Rattle.hls_machine.proofs.laws.kept_stays_keep_accounts.Goals as goal

pub returns : goal.returns
returns c = λ h kept. All-filter (λ (stay : Stay). nat_lt stay.since (end_of h.now stay.until)) (IsKept h)
    h.stays kept
