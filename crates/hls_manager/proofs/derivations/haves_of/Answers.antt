use Rattle.std.proofs.Common.{◌∙◌, ◌++◌, ◌∷◌, [], sym, ap, arith}
use Rattle.hls_chron.specs.Kinds.{port_count}
use Rattle.hls_manager.proofs.Outcomes.{stands_so}
use Rattle.hls_manager.proofs.Haves.{has_port, one_more, all_read}
use Rattle.hls_manager.proofs.derivations.haves_of.Goals as goal

pub kept-requires : goal.kept-requires
kept-requires g c =
    stands_so _ c.args.tree.now _ _ c.requires (λ h tree seated listed is.
    (let end = c.ports-port-end.ensures ∙ ap port_count (c.config.ensures h tree) in
    has_port (h.nodes c.args.id) is (tree.ported c.args.id) c.loop-port.port
    (omega (arith, end, c.loop-port-test.true))))

pub loop-port-preserved : goal.loop-port-preserved
loop-port-preserved g c = λ h tree.
    c.in_ok-push.ensures.items ∙ ap (λ l. l ++ c.kept.result ∷ []) (c.loop-port.invariant h tree)
    ∙ sym (one_more (h.nodes c.args.id) c.loop-port.port c.kept.result (c.kept.ensures h tree))

pub returns : goal.returns
returns g c = λ h tree.
    (let end = c.ports-port-end.ensures ∙ ap port_count (c.config.ensures h tree) in
    c.loop-port.invariant h tree
    ∙ all_read (h.nodes c.args.id) (tree.ported c.args.id) c.loop-port.port
    (omega (arith, end, c.loop-port-test.false)))
