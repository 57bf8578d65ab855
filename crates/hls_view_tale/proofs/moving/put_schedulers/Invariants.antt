use Rattle.std.proofs.Common.{◌≡◌, ◌++◌, filter, take}
use Rattle.hls_audit_clauses.specs.Names.{is_scheduler}
use Rattle.hls_view_tale.proofs.moving.put_schedulers.Given as goal

abbrev pub invariant-loop-name : goal.invariant-loop-name
invariant-loop-name l =
    l.moved.items ≡ l.initial.moved.items ++ filter (is_scheduler l.tree) (take l.name-index l.names)
