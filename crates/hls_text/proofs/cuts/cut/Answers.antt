use Rattle.hls_text.proofs.FirstMarks.{parts_whole, parts_first, none_first}
use Rattle.hls_text.proofs.WordLaws.{lacks_front, lacks_all}
use Rattle.hls_text.proofs.cuts.cut.Goals as goal

pub returns-in-Some-clause-found : goal.returns-in-Some-clause-found
returns-in-Some-clause-found c = parts_whole c.args.byte c.in-Some.place c.args.text.now c.in-Some.ensures

pub returns-in-Some-clause-lacks : goal.returns-in-Some-clause-lacks
returns-in-Some-clause-lacks c = lacks_front c.args.byte c.args.text.now c.in-Some.place c.in-Some.ensures

pub returns-in-None-clause-lacks : goal.returns-in-None-clause-lacks
returns-in-None-clause-lacks c = lacks_all c.args.byte c.args.text.now c.in-None.ensures

pub returns-in-Some-clause-first : goal.returns-in-Some-clause-first
returns-in-Some-clause-first c = λ front rest.
    parts_first c.args.byte c.in-Some.place c.args.text.now front rest c.in-Some.ensures

pub returns-in-None-clause-first : goal.returns-in-None-clause-first
returns-in-None-clause-first c = λ front rest.
    none_first c.args.byte c.args.text.now front rest c.in-None.ensures
