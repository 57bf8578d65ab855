use Rattle.hls_book.proofs.Books.{reservations_made}
use Rattle.hls_book_isolation.proofs.Spans.{is_capped}
use Rattle.hls_book_isolation.proofs.laws.hard_seats_are_capped_in_any_span.Goals as goal

pub returns : goal.returns
returns c = λ b slot x y since made sits. is_capped b slot x y since (reservations_made b made) sits
