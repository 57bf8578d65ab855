use Rattle.std.proofs.Common.{◌≡◌, ℕ, List, get_or, length, replicate, ap, ◌∙◌}
use Rattle.std.proofs.lemmas.List.{get_or-replicate, length-replicate}
use Rattle.hls_audit_watch.proofs.Rings.{counts_none}
use Rattle.hls_audit_watch.proofs.recent.Recent.new.Goals as goal

pub invariant_of-result : goal.invariant_of-result
invariant_of-result c =
    let items : c.in_ok-before.before.items ≡ replicate c.args.period 0 =
    c.in_ok-before.ensures.items_if_clones_equal (λ y h. h) in
    let long : length c.in_ok-before.before.items ≡ c.args.period =
    ap length items ∙ length-replicate c.args.period 0 in
    let first : get_or c.in_ok-before.before.items 0 0 ≡ 0 =
    ap (λ (l : List ℕ). get_or l 0 0) items ∙ get_or-replicate c.args.period 0 0 0 c.requires in
    rw c.none.ensures (counts_none c.args.period c.in_ok-before.before.items c.requires long first)
