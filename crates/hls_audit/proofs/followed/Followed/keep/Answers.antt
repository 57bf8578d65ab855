use Rattle.std.proofs.Common.{List, sym, subst}
use Rattle.hls_audit_clauses.specs.declared.member.Member.{Member}
use Rattle.hls_audit.specs.Inside.Followed.{AreFollowed}
use Rattle.hls_audit.proofs.followed.Followed.keep.Goals as goal

pub returns-then-is_same : goal.returns-then-is_same
returns-then-is_same c = λ members more names same so_far.
    subst (λ (m : List Member). AreFollowed m names c.args.self.now.paths.items) (sym (same c.if-is_same.true)) so_far

pub returns : goal.returns
returns c = λ members more names same so_far. c.forget.ensures more names
