use Rattle.hls_book_rules.proofs.Stands.{reservations_stand, shares_stand, rivals_stand, frames_stand}
use Rattle.hls_chron.specs.Ledger.{now_of}
use Rattle.hls_kinds.specs.Frames.{owner_at}
use Rattle.hls_book_rules.proofs.laws.each_stands_for_the_present_tick.Goals as goal

pub returns-clause-reservations : goal.returns-clause-reservations
returns-clause-reservations c = reservations_stand

pub returns-clause-shares : goal.returns-clause-shares
returns-clause-shares c = λ b mask choice. shares_stand c.args.sharing.quantum b mask choice c.requires

pub returns-clause-rivals : goal.returns-clause-rivals
returns-clause-rivals c = rivals_stand c.args.sharing

pub returns-clause-frames : goal.returns-clause-frames
returns-clause-frames c = λ b frame. frames_stand (owner_at b) frame (now_of b) frame
