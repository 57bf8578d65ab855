-- The bound between two seats, from both sides.
use Rattle.std.proofs.Common.{arith}
use Rattle.hls_chron.specs.declared.plain.Sharing.{Sharing}
use Rattle.hls_chron.specs.Kinds.{by_shares}
use Rattle.hls_chron.specs.Ledger.{Ledger}
use Rattle.hls_kinds.specs.Made.{IsMade}
use Rattle.hls_kinds.specs.Shares.{KeepsSharesByWeight}
use Rattle.hls_book.proofs.Books.{shares_made}
use Rattle.hls_book.proofs.ShareRuns.{keeps-shares}
use Rattle.hls_book_fairness.specs.Fairness.{ServesAlike}

pub serves_alike : (sharing : Sharing) (b : Ledger) → IsMade (by_shares sharing) b → ServesAlike sharing.quantum b
serves_alike sharing b made =
    let shares : KeepsSharesByWeight sharing.quantum b = keeps-shares sharing b (shares_made sharing b made) in
    λ i n slot weight other rival lt one two.
    let more = shares i n slot other weight rival lt one two in
    let less = shares i n other slot rival weight lt two one in
    record { not_less = omega (arith, less); not_more = more }
