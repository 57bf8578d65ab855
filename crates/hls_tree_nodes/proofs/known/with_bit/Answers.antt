use Rattle.std.proofs.Common.{ap, sym, ◌∙◌, w64, ◌==◌}
use Rattle.std.proofs.lemmas.Nat.Bits.{bit_at_set_same, bit_at_set_other, bit_at_clear_same, bit_at_clear_other}
use Rattle.hls_tree_nodes.proofs.known.with_bit.Goals as goal

pub returns-then-to-clause-here : goal.returns-then-to-clause-here
returns-then-to-clause-here c =
    ap (λ n. n == 1) (bit_at_set_same w64 c.args.bits c.args.at c.requires) ∙ sym c.if-to.true

pub returns-then-to-clause-others : goal.returns-then-to-clause-others
returns-then-to-clause-others c k lt ne =
    ap (λ n. n == 1) (bit_at_set_other w64 c.args.bits c.args.at c.requires k ne)

pub returns-else-to-clause-here : goal.returns-else-to-clause-here
returns-else-to-clause-here c =
    ap (λ n. n == 1) (bit_at_clear_same w64 c.args.bits c.args.at c.requires) ∙ sym c.if-to.false

pub returns-else-to-clause-others : goal.returns-else-to-clause-others
returns-else-to-clause-others c k lt ne =
    ap (λ n. n == 1) (bit_at_clear_other w64 c.args.bits c.args.at c.requires k lt ne)
