use Rattle.std.proofs.Common.{arith}
use Rattle.hls_chron.specs.declared.plain.Config.TheVariants.{Rr}
use Rattle.hls_chron.specs.Kinds.{by_shares}
use Rattle.hls_book.proofs.Books.{range_made}
use Rattle.hls_book.proofs.Turns.{turn_rules}
use Rattle.hls_book_rules.proofs.laws.turns_meet_their_rules.Goals as goal

pub returns-clause-rounds : goal.returns-clause-rounds
returns-clause-rounds c = λ b made. turn_rules (Rr c.args.quantum) c.args.quantum b c.requires made

pub returns-clause-shares : goal.returns-clause-shares
returns-clause-shares c = λ sharing b made.
    let range = range_made (by_shares sharing) b made in
    turn_rules (by_shares sharing) sharing.quantum b (omega (arith, range.2.0)) made
