-- Shares that are parts of shares.
use Rattle.std.specs.Prelude.{ℕ, ◌+◌, ◌*◌, ◌≤◌}
use Rattle.hls_frac.specs.declared.Frac.{Frac}
use Rattle.hls_frac.specs.Frac.{IsQuotient}
use Rattle.hls_guarantee.specs.declared.Guarantee.{Guarantee}
use Rattle.hls_guarantee.specs.declared.Guarantee.TheVariants.{Psbe}

-- how large the numbers of a part are: weight of total, and what the others add to the error
pub record IsPartSize (weight total others : ℕ) : Type 0 where
  pub some : 1 ≤ weight
  pub light : weight ≤ 20
  pub fits : weight ≤ total
  pub small : total ≤ 100
  pub few : others ≤ 48000

-- the share p with the error e that is such a part of s with d
pub record IsPart (weight total others : ℕ) (s d p e : Frac) : Type 0 where
  -- s * weight / total
  pub rate : IsQuotient p (s.num * weight) (s.den * total)
  -- (weight * d + others) / total
  pub error : IsQuotient e (weight * d.num + others * d.den) (total * d.den)

abbrev pub PartOf : (weight total others : ℕ) → (g h : Guarantee) → Type 0
PartOf weight total others (Psbe s d) (Psbe p e) = IsPart weight total others s d p e
PartOf weight total others _ _ = ⊥

-- the rate p of the second is such a part of the rate s of the first
abbrev pub HasPartRate : (weight total : ℕ) → (g h : Guarantee) → Type 0
HasPartRate weight total (Psbe s d) (Psbe p e) = IsQuotient p (s.num * weight) (s.den * total)
HasPartRate weight total _ _ = ⊥
