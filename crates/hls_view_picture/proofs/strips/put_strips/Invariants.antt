use Rattle.std.proofs.Common.{◌≡◌, ◌++◌, take, flat_map}
use Rattle.hls_view_picture.specs.Strips.{strip_of}
use Rattle.hls_view_picture.proofs.strips.put_strips.Given as goal

abbrev pub invariant-loop-strip : goal.invariant-loop-strip
invariant-loop-strip l =
    l.out.items ≡ l.fn.out.items ++ flat_map (strip_of l.page l.bottom) (take l.strip-index l.strips)
