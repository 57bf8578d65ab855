-- What `==` on guarantees tells.
use Rattle.std.proofs.Common.{◌≡◌, ℕ, Bool, true, false, refl, ap, arith, sym, subst, ◌∙◌}
use Rattle.std.specs.Prelude.{Option, Some, None, ◌&&◌}
use Rattle.std.specs.Option.{option_eq}
use Rattle.std.proofs.lemmas.Grind.{common_steps}
use Rattle.hls_frac.specs.declared.Frac.{Frac}
use Rattle.hls_frac.proofs.Quotients.{same_numbers-same}
use Rattle.hls_guarantee.specs.declared.Guarantee.{Guarantee}
use Rattle.hls_guarantee.specs.declared.Guarantee.TheVariants.{All, Null, Resb, Resc, Psbe}
use Rattle.hls_guarantee.specs.contracts.GuaranteePartialEq.TheImpl.{eq-value}
use Rattle.hls_frac.specs.contracts.FracPartialEq.TheImpl as frac

fields_b : (hard rigid : Bool) (x y u v : ℕ) → eq-value.it (Resb hard x y) (Resb rigid u v) ≡ true
    → Resb hard x y ≡ Resb rigid u v
fields_b hard rigid x y u v e = grind (arith, common_steps)

fields_c : (hard rigid : Bool) (x y u v : ℕ) → eq-value.it (Resc hard x y) (Resc rigid u v) ≡ true
    → Resc hard x y ≡ Resc rigid u v
fields_c hard rigid x y u v e = grind (arith, common_steps)

frac-same : (s t : Frac) → frac.eq-value.it s t ≡ true → s ≡ t
frac-same s t e = same_numbers-same s t (grind (arith, common_steps)) (grind (arith, common_steps))

frac-self : (s : Frac) → frac.eq-value.it s s ≡ true
frac-self s = grind (arith, common_steps)

both : (a b : Bool) → (a && b) ≡ true → (a ≡ true) × (b ≡ true)
both true b e = (refl, e)
both false b e = absurd (let no : false ≡ true = e in cc)

either_way : (a b : Bool) → a ≡ true → b ≡ true → (a && b) ≡ true
either_way true b first second = second
either_way false b first second = first

fracs-same : (s d t f : Frac) → (frac.eq-value.it s t && frac.eq-value.it d f) ≡ true → Psbe s d ≡ Psbe t f
fracs-same s d t f e =
    let apart = both (frac.eq-value.it s t) (frac.eq-value.it d f) e in
    ap (λ (v : Frac). Psbe v d) (frac-same s t apart.0) ∙ ap (λ (v : Frac). Psbe t v) (frac-same d f apart.1)

pub equal-same : (g h : Guarantee) → eq-value.it g h ≡ true → g ≡ h
equal-same All All e = refl
equal-same Null Null e = refl
equal-same (Resb hard x y) (Resb rigid u v) e = fields_b hard rigid x y u v e
equal-same (Resc hard x y) (Resc rigid u v) e = fields_c hard rigid x y u v e
equal-same (Psbe s d) (Psbe t f) e = fracs-same s d t f e
equal-same g h e = cc

self_b : (hard : Bool) (x y : ℕ) → eq-value.it (Resb hard x y) (Resb hard x y) ≡ true
self_b hard x y = grind (arith, common_steps)

self_c : (hard : Bool) (x y : ℕ) → eq-value.it (Resc hard x y) (Resc hard x y) ≡ true
self_c hard x y = grind (arith, common_steps)

pub equal-self : (g : Guarantee) → eq-value.it g g ≡ true
equal-self All = refl
equal-self Null = refl
equal-self (Resb hard x y) = self_b hard x y
equal-self (Resc hard x y) = self_c hard x y
equal-self (Psbe s d) =
    either_way (frac.eq-value.it s s) (frac.eq-value.it d d) (frac-self s) (frac-self d)

-- the same of what may be there
pub found-same : (found : Option Guarantee) (h : Guarantee) → option_eq eq-value.it found (Some h) ≡ true
    → found ≡ Some h
found-same (Some g) h e = ap (λ (v : Guarantee). Some v) (equal-same g h e)
found-same None h e = absurd (let no : false ≡ true = e in cc)

pub found-self : (found : Option Guarantee) (h : Guarantee) → found ≡ Some h
    → option_eq eq-value.it found (Some h) ≡ true
found-self found h e = subst (λ v. option_eq eq-value.it v (Some h) ≡ true) (sym e) (equal-self h)
