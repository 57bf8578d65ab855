-- Each window has a best cut, or none is allowed.
use Rattle.std.proofs.Common.{◌≡◌, ℕ, zero, suc, ◌+◌, ◌-◌, ◌<◌, ◌≤◌, Bool, true, false, subst, arith, inl, inr}
use Rattle.std.proofs.Common.{refl, IsTrue, ◌↔◌, ◌||◌}
use Rattle.std.proofs.Math.Nat.{mul-le-mul_left}
use Rattle.std.proofs.lemmas.Bool.{cases_lt, false≢true}
use Rattle.std.specs.Prelude.{Option, Some, None, min}
use Rattle.hls_guarantee.specs.Pieces.{piece_start}
use Rattle.hls_view_margins.specs.declared.margin.Part.{Part}
use Rattle.hls_view_margins.specs.declared.scale.Scale.{Scale}
use Rattle.hls_view_margins.specs.declared.best.Pieces.{Pieces}
use Rattle.hls_view_margins.specs.First.{has, wants, IsFirstOf}
use Rattle.hls_view_margins.specs.Parts.{part}
use Rattle.hls_view_margins.specs.Cuts.{IsCutPiece, HasOver, IsBestOf}
use Rattle.hls_view_margins.specs.Inside.Sooner.{IsSoonerOf}
use Rattle.hls_view_margins.specs.Inside.Pieces.{IsBetween, IsSomeOver, IsEarly, AreFound, allowed_least, IsBetterOf}
use Rattle.hls_view_margins.proofs.Sooners.{sooner_first}
use Rattle.hls_view_margins.proofs.Walks.{piece_one, over_more, piece_joins, over_none, early_all, all_early}
use Rattle.hls_view_margins.proofs.Walks.{first_same}
use Rattle.hls_view_margins.proofs.Bests.{given, best_none, best_more}

some_between : (g : ℕ → Bool) (from until : ℕ) → (piece : Option Part) × IsBetween g from until piece
some_between g from until = elim (cases_lt from until) [
  | inl some ↦ (Some (part g from (until - from)), (some, refl))
  | inr none ↦ (None, none)
]

some_sooner : (scale : Scale) (one two : Option Part) → (taken : Option Part) × IsSoonerOf scale one two taken
some_sooner scale None two = (two, refl)
some_sooner scale (Some a) None = (Some a, refl)
some_sooner scale (Some a) (Some b) =
    elim (cases_lt (has scale b + wants scale a) (has scale a + wants scale b)) [
      | inl less ↦ (Some b, inl (less, refl))
      | inr most ↦ (Some a, inr (most, refl))
    ]

some_better : (scale : Scale) (one two : Option Part) → (taken : Option Part) × IsBetterOf scale one two taken
some_better scale None two = (two, refl)
some_better scale (Some a) None = (Some a, refl)
some_better scale (Some a) (Some b) =
    elim (cases_lt (has scale a + wants scale b) (has scale b + wants scale a)) [
      | inl less ↦ (Some b, inl (less, refl))
      | inr most ↦ (Some a, inr (most, refl))
    ]

some_over : (piece : Option Part) (x : ℕ) → (over : Bool) × (IsTrue over ↔ IsSomeOver piece x)
some_over None x = (false, (λ on. absurd (false≢true on), λ is. absurd is))
some_over (Some p) x = elim (cases_lt x p.got) [
  | inl more ↦ (true, (λ _. more, λ _. refl))
  | inr most ↦ (false, (λ on. absurd (false≢true on), λ is. absurd (omega (arith, most, is))))
]

-- the first of so many pieces, and whether one has too many
record Early (scale : Scale) (g : ℕ → Bool) (lo hi e y k x : ℕ) : Type 0 where
  pub least : Option Part
  pub over : Bool
  pub first : IsFirstOf scale (IsEarly g lo hi e y k) least
  pub too_many : IsTrue over ↔ HasOver (IsEarly g lo hi e y k) x

early : (scale : Scale) (g : ℕ → Bool) (lo hi e y k x : ℕ) → lo ≤ hi → Early scale g lo hi e y k x
early scale g lo hi e y zero x order = record {
  least = None;
  over = false;
  first = λ p is. let b = is.before in omega (arith, b);
  too_many = (λ on. absurd (false≢true on), λ is. absurd (over_none g lo hi e y x is));
}
early scale g lo hi e y (suc k) x order =
    let before = early scale g lo hi e y k x order in
    let piece = some_between g (lo + piece_start e y k) (min (lo + piece_start e y (suc k)) hi) in
    let one = piece_one scale g lo hi e y k piece.0 order piece.1 in
    let taken = some_sooner scale before.least piece.0 in
    let more = some_over piece.0 x in
    record {
      least = taken.0;
      over = before.over || more.0;
      first = sooner_first scale _ _ _ _ before.least piece.0 taken.0 (piece_joins g lo hi e y k order) taken.1
          before.first one;
      too_many = over_more scale g lo hi e y k x before.over more.0 piece.0 order one more.1 before.too_many;
    }

-- so many pieces are all
far_start : (e y hi lo : ℕ) → 1 ≤ y → hi ≤ lo + piece_start e y (suc hi)
far_start e y hi lo some =
    let grows = mul-le-mul_left hi some in
    omega (arith, grows)

pub some_found : (scale : Scale) (g : ℕ → Bool) (lo hi e y x : ℕ) → lo ≤ hi → 1 ≤ y
    → (found : Pieces) × AreFound scale (IsCutPiece g lo hi e y) x found
some_found scale g lo hi e y x order some =
    let all = early scale g lo hi e y (suc hi) x order in
    let far = far_start e y hi lo some in
    let too = all.too_many in (
      record { least = all.least; over = all.over },
      record {
        least = first_same scale _ _ all.least (all_early g lo hi e y (suc hi))
            (λ p. early_all g lo hi e y (suc hi) p far) all.first;
        over = (
          λ on.
              let is = too.0 on in record {
                one = is.one;
                is = all_early g lo hi e y (suc hi) is.one is.is;
                over = is.over;
              },
          λ is. too.1
              (record {
                one = is.one;
                is = early_all g lo hi e y (suc hi) is.one far is.is;
                over = is.over;
              }),
        );
      },
    )

pub some_best : (scale : Scale) (g : ℕ → Bool) (lo hi : ℕ) (hard : Bool) (x y k : ℕ) → lo < hi → k ≤ y
    → (best : Option Part) × IsBestOf scale g lo hi hard x y k best
some_best scale g lo hi hard x y zero some le = (None, best_none scale g lo hi hard x y)
some_best scale g lo hi hard x y (suc k) some le =
    let before = some_best scale g lo hi hard x y k some (omega (arith, le)) in
    let found = some_found scale g lo hi k y x (omega (arith, some)) (omega (arith, le)) in
    let new = given scale g lo hi hard x y k found.0 some (omega (arith, le)) found.1 in
    let taken = some_better scale before.0 (allowed_least found.0 hard) in (
      taken.0,
      subst (λ (n : ℕ). IsBestOf scale g lo hi hard x y n taken.0) (let e : k + 1 ≡ suc k = omega arith in e)
          (best_more scale g lo hi hard x y k before.0 (allowed_least found.0 hard) taken.0 before.1 new taken.1),
    )
