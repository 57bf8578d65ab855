use Rattle.std.proofs.Common.{sym, ◌∙◌, arith}
use Rattle.hls_view_tale.proofs.Unseated.{nobody, none_standing}
use Rattle.hls_view_tale.proofs.following.Following.new.Goals as goal

pub returns-clause-following : goal.returns-clause-following
returns-clause-following c = λ content. record {
  told = c.new.ensures content.answered;
  within = omega arith;
  before = λ k a lt there. absurd (omega (arith, lt));
  standing = c.new-2.ensures.items ∙ sym (none_standing content.answered);
  places = c.new-3.ensures.items ∙ sym (nobody content);
}
