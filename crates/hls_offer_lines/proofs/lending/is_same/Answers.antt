use Rattle.std.proofs.Common.{◌≡◌, ◌∙◌, sym, true, subst}
use Rattle.hls_guarantee.specs.contracts.GuaranteePartialEq.TheImpl.{eq-value}
use Rattle.hls_rules.proofs.Equal.{equal-same, equal-self}
use Rattle.hls_offer_lines.proofs.lending.is_same.Goals as goal

pub returns : goal.returns
returns c =
    let g = c.args.g.now in
    let h = c.args.other.now in
    let said : c.eq.result ≡ eq-value.it g h = c.eq.ensures in (
      λ yes. equal-same g h (sym said ∙ yes),
      λ same. said ∙ subst (λ v. eq-value.it g v ≡ true) same (equal-self g),
    )
