use Rattle.hls_legal.proofs.Tests.{refused_whole, refused_at, done_by}
use Rattle.hls_legal.proofs.laws.answers.tests_find_the_answer.Goals as goal

pub returns-clause-whole : goal.returns-clause-whole
returns-clause-whole c = λ m command r whole places refuses. refused_whole m command r whole places refuses

pub returns-clause-place : goal.returns-clause-place
returns-clause-place c = λ m command r whole places only port spot there refuses before.
    refused_at m command r whole places only port spot there refuses before

pub returns-clause-done : goal.returns-clause-done
returns-clause-done c = λ m command seats whole places settled. done_by m command seats whole places settled
