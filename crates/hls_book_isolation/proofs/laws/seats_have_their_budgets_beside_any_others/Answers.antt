use Rattle.hls_book.proofs.Books.{reservations_made}
use Rattle.hls_book_isolation.proofs.Spans.{has_budgets}
use Rattle.hls_book_isolation.proofs.laws.seats_have_their_budgets_beside_any_others.Goals as goal

pub returns : goal.returns
returns c = λ b slot x y since hard made given sits.
    has_budgets b slot x y since (reservations_made b made) hard given sits
