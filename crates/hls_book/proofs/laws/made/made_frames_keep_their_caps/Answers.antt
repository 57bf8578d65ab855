use Rattle.hls_chron.specs.declared.plain.Config.TheVariants.{Wheel}
use Rattle.hls_book.proofs.WheelLaws.{places_capped}
use Rattle.hls_book.proofs.Books.{admission_made, discipline_made, places_made}
use Rattle.hls_book.proofs.laws.made.made_frames_keep_their_caps.Goals as goal

pub returns : goal.returns
returns c = λ b slot since places made.
    let frame = c.args.frame in
    places_capped frame b (admission_made (Wheel frame) b made) (discipline_made (Wheel frame) b made)
    (places_made frame b made) slot since places
