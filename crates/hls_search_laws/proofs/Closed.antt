-- What at most n conversions reach, in closed form.
use Rattle.std.proofs.Common.{ℕ, ◌+◌, ◌*◌, ◌≤◌, Bool, true, false, arith}
use Rattle.hls_frac.specs.declared.Frac.{Frac}
use Rattle.hls_guarantee.specs.declared.Guarantee.{Guarantee}
use Rattle.hls_guarantee.specs.declared.Guarantee.TheVariants.{All, Null, Resb, Resc, Psbe}
use Rattle.hls_guarantee.specs.declared.rule.RuleName.TheVariants.{R4, R5}
use Rattle.hls_search_laws.proofs.Quads.{Quad, IsBetter, IsCovered, quad}
use Rattle.hls_search_laws.proofs.Ways.{Way}

-- what a share of this rate and error gives
pub data Gives (k : Quad) : Guarantee → Type 0 where
  share : {s d : Frac} → IsBetter k (quad (Psbe s d)) → Gives k (Psbe s d)
  windows : {x y : ℕ} → IsCovered k x y → Gives k (Resc false x y)
  blocks : {x y : ℕ} → IsCovered k x y → Gives k (Resb false x y)

-- by one conversion or more and no share, with the least number of conversions
pub data Shape (n : ℕ) : Guarantee → Guarantee → Type 0 where
  s1 : {x y : ℕ} → 1 ≤ n → Shape n (Resb true x y) (Resb false x y)
  s2h : {x y e : ℕ} → 2 ≤ n → e ≤ x → Shape n (Resb true x y) (Resb false e y)
  s2s : {x y e : ℕ} → 1 ≤ n → e ≤ x → Shape n (Resb false x y) (Resb false e y)
  s3 : {hard : Bool} {x y e f : ℕ} → 1 ≤ n → e ≤ x → 2 * y + e ≤ 2 * x + f → Shape n (Resb hard x y) (Resc false e f)
  s4 : {hard : Bool} {x y e f : ℕ} → 2 ≤ n → e ≤ x → 2 * y + e ≤ 2 * x + f → Shape n (Resb hard x y) (Resb false e f)
  c1 : {x y : ℕ} → 1 ≤ n → Shape n (Resc true x y) (Resb true x y)
  c3 : {x y : ℕ} → 1 ≤ n → Shape n (Resc false x y) (Resb false x y)
  c4 : {hard : Bool} {x y e f : ℕ} (k : ℕ) → 1 ≤ n → 1 ≤ k → e ≤ k * x → k * y ≤ f
      → Shape n (Resc hard x y) (Resc false e f)
  c5 : {hard : Bool} {x y e f : ℕ} (k : ℕ) → 2 ≤ n → 1 ≤ k → e ≤ k * x → k * y ≤ f
      → Shape n (Resc hard x y) (Resb false e f)

-- a reservation as a share
pub data Rates : Guarantee → Guarantee → Type 0 where
  by4 : {g h : Guarantee} → Way R4 g h → Rates g h
  by5 : {g h : Guarantee} → Way R5 g h → Rates g h

-- the conversions before a bound of rate and error suffices; none does from NULL
pub data Least : Guarantee → ℕ → Type 0 where
  least-all : Least All 1
  least-blocks : {hard : Bool} {x y : ℕ} → Least (Resb hard x y) 2
  least-windows : {hard : Bool} {x y : ℕ} → Least (Resc hard x y) 2
  least-share : {s d : Frac} → Least (Psbe s d) 1

pub data Closed (n : ℕ) : Guarantee → Guarantee → Type 0 where
  same : {g : Guarantee} → Closed n g g
  null : {g : Guarantee} → 1 ≤ n → Closed n g Null
  shape : {g h : Guarantee} → Shape n g h → Closed n g h
  rates : {g h : Guarantee} → 1 ≤ n → Rates g h → Closed n g h
  bound : {g h : Guarantee} {k : ℕ} → Least g k → k ≤ n → Gives (quad g) h → Closed n g h

pub least-some : {g : Guarantee} {k : ℕ} → Least g k → 1 ≤ k
least-some least-all = omega arith
least-some least-blocks = omega arith
least-some least-windows = omega arith
least-some least-share = omega arith
