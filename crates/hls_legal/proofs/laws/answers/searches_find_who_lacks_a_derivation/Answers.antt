use Rattle.hls_legal.proofs.Tests.{underived_at}
use Rattle.hls_legal.proofs.laws.answers.searches_find_who_lacks_a_derivation.Goals as goal

pub returns : goal.returns
returns c = λ m command at due there lacks before. underived_at m command at due there lacks before
