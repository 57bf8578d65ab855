use Rattle.hls_book.proofs.Books.{reservations_made}
use Rattle.hls_book_isolation.proofs.Demand.{demand_fits, parts_fit}
use Rattle.hls_book_isolation.proofs.laws.demand_fits_the_ticks.Goals as goal

pub returns-clause-ticks : goal.returns-clause-ticks
returns-clause-ticks c = λ b mask bound made given le. demand_fits b mask bound (reservations_made b made) given le

pub returns-clause-parts : goal.returns-clause-parts
returns-clause-parts c = λ b bound made given le. parts_fit b 0 bound (reservations_made b made) given le
