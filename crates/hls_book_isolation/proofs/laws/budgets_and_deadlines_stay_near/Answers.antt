use Rattle.hls_book.proofs.Books.{reservations_made}
use Rattle.hls_book_isolation.proofs.Claims.{is_claim}
use Rattle.hls_book_isolation.proofs.laws.budgets_and_deadlines_stay_near.Goals as goal

pub returns : goal.returns
returns c = λ b mask slot x y since hard made sits.
    is_claim b mask slot hard (record { x = x; y = y; since = since }) (reservations_made b made) sits
