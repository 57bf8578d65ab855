-- What a part of the ticks has, and what it is to have, by its ticks and its service.
use Rattle.std.specs.Prelude.{◌≡◌, ℕ, ◌+◌, ◌*◌, true}
use Rattle.hls_chron.specs.Parts.{all_parts, parts}
use Rattle.hls_guarantee.specs.declared.Guarantee.{Guarantee}
use Rattle.hls_guarantee.specs.declared.Guarantee.TheVariants.{All, Null, Resb, Resc, Psbe}
use Rattle.hls_view_margins.specs.declared.scale.Line.{Line}
use Rattle.hls_view_margins.specs.declared.scale.Scale.{Scale}

abbrev pub at : Line → (ticks got : ℕ) → ℕ
at line ticks got = line.base + line.tick * ticks + line.got * got

-- a line is of these numbers
pub record IsLine (line : Line) (base tick got : ℕ) : Type 0 where
  pub to_begin : line.base ≡ base
  pub each_tick : line.tick ≡ tick
  pub each_got : line.got ≡ got

pub record IsScale (scale : Scale) (Has Wants : Line → Type 0) (unit : ℕ) : Type 0 where
  pub has : Has scale.has
  pub wants : Wants scale.wants
  pub units : scale.unit ≡ unit

-- of x ticks in y, n ticks are to have x - (y - n); of a share s with the error d, s * n - d
abbrev pub MeasuresSpare : Guarantee → Scale → Type 0
MeasuresSpare All scale = IsScale scale (λ l. IsLine l 0 0 1) (λ l. IsLine l 0 1 0) 1
MeasuresSpare Null scale = IsScale scale (λ l. IsLine l 0 0 0) (λ l. IsLine l 0 0 0) 1
MeasuresSpare (Resb hard x y) scale = IsScale scale (λ l. IsLine l y 0 1) (λ l. IsLine l x 1 0) 1
MeasuresSpare (Resc hard x y) scale = IsScale scale (λ l. IsLine l y 0 1) (λ l. IsLine l x 1 0) 1
MeasuresSpare (Psbe s d) scale =
    IsScale scale (λ l. IsLine l (d.num * s.den) 0 (s.den * d.den)) (λ l. IsLine l 0 (s.num * d.den) 0) (s.den * d.den)

-- by windows a part of y ticks may have x; by blocks a part of n ticks its price of the ticks, and 2 * x
abbrev pub MeasuresRoom : Guarantee → Scale → Type 0
MeasuresRoom (Resc true x y) scale = IsScale scale (λ l. IsLine l x 0 0) (λ l. IsLine l 0 0 1) 1
MeasuresRoom (Resb true x y) scale =
    IsScale scale (λ l. IsLine l (2 * x * all_parts) (parts x y) 0) (λ l. IsLine l 0 0 all_parts) all_parts
MeasuresRoom _ scale = ⊥
