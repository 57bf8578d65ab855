use Rattle.hls_kinds.proofs.Choices.{serves_some, serves_one}
use Rattle.hls_machine.proofs.laws.asking_schedulers_serve_one_slot.Goals as goal

pub returns-clause-some : goal.returns-clause-some
returns-clause-some c = λ b mask seats only on. serves_some c.args.config b mask c.requires seats only on

pub returns-clause-one : goal.returns-clause-one
returns-clause-one c = λ b mask slot other seats one two. serves_one c.args.config b mask slot other seats one
    two
