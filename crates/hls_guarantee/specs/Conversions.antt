-- The rules by which what satisfies one guarantee satisfies another.
-- That guarantees are converted is Regehr's (2001); the form of the rules is this project's own.
use Rattle.std.specs.Prelude.{◌≡◌, ℕ, ◌+◌, ◌*◌, ◌≤◌, true, false}
use Rattle.hls_frac.specs.declared.Frac.{Frac}
use Rattle.hls_frac.specs.Frac.{IsAtMost, IsQuotient}
use Rattle.hls_guarantee.specs.declared.Guarantee.{Guarantee}
use Rattle.hls_guarantee.specs.declared.Guarantee.TheVariants.{All, Null, Resb, Resc, Psbe}
use Rattle.hls_guarantee.specs.declared.rule.RuleName.{RuleName}
use Rattle.hls_guarantee.specs.declared.rule.RuleName.TheVariants.{R1, R2, R3, R4, R5, R6, R7, R8, R9, R10, R11}
use Rattle.hls_guarantee.specs.Limits.{IsValid}

-- d / s ≤ d' / s': the share s with the error d starts no later than s' with d'
abbrev pub StartsNoLater : (s d s' d' : Frac) → Type 0
StartsNoLater s d s' d' = d.num * s'.num * (d'.den * s.den) ≤ d'.num * s.num * (d.den * s'.den)

-- d = m * (y - x) / y
abbrev pub IsError : (d : Frac) (m x y : ℕ) → Type 0
IsError d m x y = d.num * y + m * x * d.den ≡ m * y * d.den

-- x ≤ s * y - d: of y ticks, the share s with the error d is x or more
abbrev pub Covers : (s d : Frac) (x y : ℕ) → Type 0
Covers s d x y = (x * d.den + d.num) * s.den ≤ s.num * y * d.den

-- for some number of times, so many times x are x' or more, and so many times y are y' or less
pub record HasTimes (x y x' y' : ℕ) : Type 0 where
  pub times : ℕ
  pub some : 1 ≤ times
  pub enough : x' ≤ times * x
  pub within : times * y ≤ y'

-- a rule leads from the first guarantee to the second; what has a stroke is free
abbrev pub Leads : RuleName → Guarantee → Guarantee → Type 0
-- what is promised may be less: of windows that may be longer, of the same blocks, or as a share
Leads R1 (Resc false x y) (Resc false x' y') = (x' ≤ x) × (y ≤ y')
Leads R1 (Resb false x y) (Resb false x' y') = (x' ≤ x) × (y' ≡ y)
Leads R1 (Psbe s d) (Psbe s' d') = IsAtMost s' s × StartsNoLater s d s' d'
-- a hard reservation is a soft one
Leads R2 (Resb true x y) h = h ≡ Resb false x y
Leads R2 (Resc true x y) h = h ≡ Resc false x y
-- x of each block of y are x of any 2 * y - x ticks in a row, or of more
Leads R3 (Resb hard x y) (Resc false x' y') = (x' ≤ x) × (2 * y ≤ x + y')
-- x of each block of y are the share x / y, with the error 2 * x * (y - x) / y
Leads R4 (Resb hard x y) (Psbe s d) = IsQuotient s x y × IsError d (2 * x) x y
-- x of any y ticks in a row are the share x / y, with the error x * (y - x) / y
Leads R5 (Resc hard x y) (Psbe s d) = IsQuotient s x y × IsError d x x y
-- a share of y' ticks is, its error taken off, x' of any y' in a row and of each block of y'
Leads R6 (Psbe s d) (Resc false x' y') = Covers s d x' y'
Leads R6 (Psbe s d) (Resb false x' y') = Covers s d x' y'
-- what any y ticks in a row get, each block of y gets
Leads R7 (Resc hard x y) h = h ≡ Resb hard x y
-- every tick is any soft reservation and any share
Leads R8 All (Resb false x' y') = Unit {0}
Leads R8 All (Resc false x' y') = Unit {0}
Leads R8 All (Psbe s' d') = Unit {0}
-- anything is nothing
Leads R9 g h = h ≡ Null
-- x of each block of y, x' or more, are x' of any 2 * y - 2 * x + x' ticks in a row, or of more
Leads R10 (Resb hard x y) (Resc false x' y') = (x' ≤ x) × (2 * y + x' ≤ 2 * x + y')
-- x of any y ticks in a row are so many times x of so many times y ticks in a row, or of more
Leads R11 (Resc hard x y) (Resc false x' y') = HasTimes x y x' y'
Leads _ _ _ = ⊥

-- a conversion by this rule, within the limits of derivations
pub record Converts (rule : RuleName) (g h : Guarantee) : Type 0 where
  pub from : IsValid g
  pub to : IsValid h
  pub leads : Leads rule g h
