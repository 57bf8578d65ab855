use Rattle.std.proofs.Common.{ap, take}
use Rattle.std.proofs.lemmas.Result.{IfOk-equal}
use Rattle.hls_report_text.proofs.Writings.{places_text}
use Rattle.hls_view_drawing.proofs.strips.put_path.Goals as goal

pub returns : goal.returns
returns c =
    IfOk-equal _ _ _ _ c.put_places.ensures
    (places_text c.args.text.now.items c.args.names.now _ _ (ap
    (λ n. take n c.args.path.now.names) c.from.ensures))
