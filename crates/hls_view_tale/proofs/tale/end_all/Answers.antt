use Rattle.std.proofs.Common.{rules}
use Rattle.std.specs.Prelude.{not}
use Rattle.std.proofs.lemmas.Fn.{filter_same}
use Rattle.hls_view_tale.specs.declared.standing.Standing.{Standing}
use Rattle.hls_view_tale.specs.Standings.{is_among}
use Rattle.hls_view_tale.proofs.tale.end_all.Goals as goal

pub returns : goal.returns
returns c =
    filter_same _ (λ (s : Standing). not (is_among c.args.names.now s.name)) _ (λ x b f' k. search rules)
    c.args.all.now.items c.retain.new.self.items c.retain.ensures.filtered
