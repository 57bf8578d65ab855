use Rattle.std.proofs.Common.{◌≡◌, Bool, true, subst, sym, ap, ◌∙◌}
use Rattle.hls_guarantee.specs.declared.Guarantee.{Guarantee}
use Rattle.hls_guarantee.specs.declared.Guarantee.TheVariants.{Resb, Resc}
use Rattle.hls_audit_watch.specs.First.{FirstAt}
use Rattle.hls_audit_watch.specs.Shortages.{IsOver}
use Rattle.hls_audit_watch.proofs.shortage.find_over.Goals as goal

pub returns-in-Resb-true-default-default : goal.returns-in-Resb-true-default-default
returns-in-Resb-true-default-default c =
    let h = c.in-Resb-true-default-default in
    let hard : h.hard ≡ true = cc in
    let known : c.args.kept.now ≡ Resb true h.x h.y = h.is ∙ ap (λ (b : Bool). Resb b h.x h.y) hard in
    subst (λ (g : Guarantee). FirstAt (IsOver g c.args.served.now) c.find_over_blocks.result) (sym known)
    c.find_over_blocks.ensures

pub returns-in-Resc-true-default-default : goal.returns-in-Resc-true-default-default
returns-in-Resc-true-default-default c =
    let h = c.in-Resc-true-default-default in
    let hard : h.hard ≡ true = cc in
    let known : c.args.kept.now ≡ Resc true h.x h.y = h.is ∙ ap (λ (b : Bool). Resc b h.x h.y) hard in
    subst (λ (g : Guarantee). FirstAt (IsOver g c.args.served.now) c.find_over_windows.result) (sym known)
    c.find_over_windows.ensures
