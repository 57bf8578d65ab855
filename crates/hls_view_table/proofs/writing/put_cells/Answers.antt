use Rattle.std.proofs.Common.{sym}
use Rattle.std.proofs.lemmas.Slice.Zip.{Zip-more, either_empty_from_Zip}
use Rattle.hls_view_table.proofs.Lines.{one_more, no_more}
use Rattle.hls_view_table.proofs.writing.put_cells.Goals as goal

pub loop-lane-preserved : goal.loop-lane-preserved
loop-lane-preserved c =
    let rests = Zip-more c.loop-lane.lane-iterator c.next.new.self c.next.result (c.in-Some.lane, c.in-Some.cell)
    c.in-Some.is c.next.ensures.steps in
    one_more (λ v. v.items) _ c.loop-lane.out.items c.put_cell.new.out.items c.put.new.out.items _ _ _ _
    c.in-Some.lane.now c.in-Some.cell.now rests.0 rests.1 c.loop-lane.invariant
    (rw (sym c.deref.ensures.value) c.in_ok-put_cell.ensures) c.in_ok-put.ensures

pub returns : goal.returns
returns c =
    no_more (λ v. v.items) _ c.loop-lane.out.items _ _
    (either_empty_from_Zip c.loop-lane.lane-iterator c.next.new.self c.next.result c.in-None.is
    c.next.ensures.steps) c.loop-lane.invariant
