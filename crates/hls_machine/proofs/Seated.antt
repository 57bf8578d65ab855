-- Where a legal run leads, who sits where is as the books have it.
use Rattle.std.proofs.Common.{List, subst, sym, ◌∙◌}
use Rattle.hls_kinds.proofs.MarkLaws.{sits_on}
use Rattle.hls_machine.specs.Hierarchy.{Hierarchy, start, book_of}
use Rattle.hls_machine.specs.Steps.{Step, state}
use Rattle.hls_machine.specs.Legal.{IsLegal}
use Rattle.hls_machine.specs.Linked.{SitsBelow, SitsAtProcessor, SitsAt}
use Rattle.hls_machine.specs.Seated.{IsSeated}
use Rattle.hls_machine.proofs.Solutions.{CanGo, run_goes, start_goes}

seated : (h : Hierarchy) → CanGo h → IsSeated h
seated h go =
    let rank = go.kept.rank in
    let sound = go.kept.sound in
    record {
      alone = λ c d port other place one two. let same =
          sound.alone c d port other one.seat two.seat one.sits two.sits (one.at_place ∙ sym two.at_place) in
          (same.node, same.port_same);
      taken = λ c port p slot there.
          let sits : SitsBelow h rank c port there.seat p slot =
          subst (SitsAt h rank c port there.seat) there.at_place (sound.sits c port there.seat there.sits)
          in
          sits_on (book_of (h.nodes p)) slot sits.from there.seat.terms sits.sits;
      sitters = λ p slot terms e. let s = go.sitters p slot terms e in
          (s.node, s.port, record { seat = s.seat; sits = s.sits; at_place = s.at_place });
      root = λ c e. let s = go.root c e in
          (s.port, record { seat = s.seat; sits = s.sits; at_place = s.at_place });
      rooted = λ c port there.
          let reigns : SitsAtProcessor h c port there.seat =
          subst (SitsAt h rank c port there.seat) there.at_place (sound.sits c port there.seat there.sits)
          in
          reigns.root;
    }

pub run_seated : (steps : List Step) → IsLegal start steps → IsSeated (state start steps)
run_seated steps legal = seated (state start steps) (run_goes steps start start_goes legal)
