use Rattle.hls_top_words.proofs.OneJob.{same_job}
use Rattle.hls_top_words.proofs.laws.words_ask_for_one_job.Goals as goal

pub returns : goal.returns
returns c = λ words one two. same_job words one two
