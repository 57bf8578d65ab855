use Rattle.hls_book.proofs.WheelLaws.{wheel_keeps}
use Rattle.hls_book.proofs.laws.wheel.wheels_promise.Goals as goal

pub returns : goal.returns
returns c = wheel_keeps c.args.frame
