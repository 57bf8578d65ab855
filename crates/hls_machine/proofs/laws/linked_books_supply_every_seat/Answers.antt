use Rattle.hls_machine.proofs.Moments.{supplied}
use Rattle.hls_machine.proofs.laws.linked_books_supply_every_seat.Goals as goal

pub returns : goal.returns
returns c = λ h rank linked promises. supplied h rank linked promises
