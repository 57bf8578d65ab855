use Rattle.std.proofs.Common.{sym, ap, ◌∙◌}
use Rattle.hls_chron.specs.Kinds.{quantum_of}
use Rattle.hls_sfq.proofs.Calls.{quantum_within}
use Rattle.hls_sfq.proofs.sfq.Sfq.quantum.Goals as goal

pub returns-clause-some : goal.returns-clause-some
returns-clause-some c =
    let within = quantum_within _ c.args.self.now.sound c.requires in
    let some = within.0 in rw (sym (c.quantum.ensures ∙ ap quantum_of c.config.ensures)) at some

pub returns-clause-few : goal.returns-clause-few
returns-clause-few c =
    let within = quantum_within _ c.args.self.now.sound c.requires in
    let few = within.1 in rw (sym (c.quantum.ensures ∙ ap quantum_of c.config.ensures)) at few
