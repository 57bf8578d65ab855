use Rattle.hls_top.proofs.outputs.OutputText.write.Goals as goal

pub returns-in-Report-clause-part : goal.returns-in-Report-clause-part
returns-in-Report-clause-part c = λ d. rw d.in-Report.is d.write.ensures.part
