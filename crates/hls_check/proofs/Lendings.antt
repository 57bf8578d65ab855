-- What terms lend is one guarantee.
use Rattle.std.proofs.Common.{◌≡◌, refl, subst, ap}
use Rattle.std.specs.Prelude.{Option, Some, None, IfSome, IsNone}
use Rattle.hls_chron.specs.declared.plain.Config.{Config}
use Rattle.hls_chron.specs.declared.plain.Terms.{Terms}
use Rattle.hls_chron.specs.Ranges.{ConfigInRange}
use Rattle.hls_guarantee.specs.declared.Guarantee.{Guarantee}
use Rattle.hls_guarantee.specs.Steps.{LendsByTerms}
use Rattle.hls_guarantee.proofs.Lendings.{lends-one}

pub found-lends : (config : Config) (terms : Terms) (g h : Guarantee) (found : Option Guarantee)
    → IfSome found (λ k. LendsByTerms config terms g k) → found ≡ Some h → LendsByTerms config terms g h
found-lends config terms g h (Some k) some same =
    let one : k ≡ h = cc in
    subst (λ v. LendsByTerms config terms g v) one some
found-lends config terms g h None some same = (let no : ⊥ = cc in absurd no)

pub lends-found : (config : Config) (terms : Terms) (g h : Guarantee) (found : Option Guarantee)
    → ConfigInRange config → IfSome found (λ k. LendsByTerms config terms g k)
    → (IsNone found → (k : Guarantee) → LendsByTerms config terms g k → ⊥) → LendsByTerms config terms g h
    → found ≡ Some h
lends-found config terms g h (Some k) range some none lends =
    ap (λ (v : Guarantee). Some v) (lends-one config terms g k h range some lends)
lends-found config terms g h None range some none lends = absurd (none refl h lends)
