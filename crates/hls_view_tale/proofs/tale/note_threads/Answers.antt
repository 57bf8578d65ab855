use Rattle.std.proofs.Common.{rules, ap, sym, ◌∙◌}
use Rattle.std.specs.Prelude.{not}
use Rattle.std.specs.Str.{bytes_eq}
use Rattle.std.proofs.lemmas.Fn.{filter_same}
use Rattle.hls_text.specs.Lines.{Text}
use Rattle.hls_view_tale.specs.Inside.Told.{threads_after}
use Rattle.hls_view_tale.proofs.tale.note_threads.Goals as goal

pub returns-in-End : goal.returns-in-End
returns-in-End c =
    filter_same _ (λ (other : Text). not (bytes_eq c.in-End.name other)) _ (λ x b f' k. search rules)
    c.args.threads.now.items c.retain.new.self.items c.retain.ensures.filtered
    ∙ ap (threads_after c.args.threads.now.items) (sym c.in-End.is)
