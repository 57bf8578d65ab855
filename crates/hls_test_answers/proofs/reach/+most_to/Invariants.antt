use Rattle.hls_test_answers.proofs.reach.+most_to.Given as goal

abbrev pub decreases-most_to : goal.decreases-most_to
decreases-most_to l = l.steps
