-- Parts of one length, one after another.
use Rattle.std.proofs.Common.{◌≡◌, ℕ, ◌+◌, ◌-◌, ◌≤◌, Bool, arith, sym, ap, ◌∙◌, inl, inr, refl}
use Rattle.std.proofs.lemmas.Bool.{cases_lt}
use Rattle.std.specs.Prelude.{Option, Some, None}
use Rattle.hls_chron.specs.Ticks.{count}
use Rattle.hls_view_margins.specs.declared.margin.Part.{Part}
use Rattle.hls_view_margins.specs.declared.scale.Line.{Line}
use Rattle.hls_view_margins.specs.declared.scale.Scale.{Scale}
use Rattle.hls_view_margins.specs.Scales.{at}
use Rattle.hls_view_margins.specs.First.{IsNoMore, Precedes, IsFirst, IsFirstOf}
use Rattle.hls_view_margins.specs.Parts.{part, IsPart, IsLong}
use Rattle.hls_view_margins.specs.Inside.Sooner.{IsSoonerOf}
use Rattle.hls_view_margins.proofs.Sooners.{Joins, sooner_first}

at_same : (line : Line) (n m g h : ℕ) → n ≡ m → g ≡ h → at line n g ≡ at line m h
at_same line n m g h e d = ap (λ k. at line k g) e ∙ ap (λ k. at line m k) d

-- equal parts
pub same_more : (scale : Scale) (a b : Part) → a.ticks ≡ b.ticks → a.got ≡ b.got → IsNoMore scale a b
same_more scale a b long got =
    let h = at_same scale.has a.ticks b.ticks a.got b.got long got in
    let w = at_same scale.wants a.ticks b.ticks a.got b.got long got in
    omega (arith, h, w)

pub same_precedes : (scale : Scale) (a b : Part) → a.from ≡ b.from → a.ticks ≡ b.ticks → a.got ≡ b.got
    → Precedes scale a b
same_precedes scale a b from long got = record {
  no_more = same_more scale a b long got;
  ends = λ _. omega (arith, from, long);
  begins = λ _ _. omega (arith, from);
}

pub got_same : (f : ℕ → Bool) (p : Part) (from ticks : ℕ) → p.from ≡ from → p.ticks ≡ ticks
    → p.got ≡ count f p.from p.ticks → count f from ticks ≡ p.got
got_same f p from ticks e d got =
    ap (λ k. count f k ticks) (sym e) ∙ ap (λ k. count f p.from k) (sym d) ∙ sym got

pub widened : (f : ℕ → Bool) (lo hi lower higher : ℕ) (p : Part) → lower ≤ lo → hi ≤ higher → IsPart f lo hi p
    → IsPart f lower higher p
widened f lo hi lower higher p low high is = record {
  some = is.some;
  begins = let b = is.begins in omega (arith, b, low);
  ends = let e = is.ends in omega (arith, e, high);
  got = is.got;
}

long_joins : (f : ℕ → Bool) (lo from ticks : ℕ) → lo ≤ from → 1 ≤ ticks
    → Joins (IsLong f lo (from + ticks - 1) ticks) (IsLong f from (from + ticks) ticks)
    (IsLong f lo (from + 1 + ticks - 1) ticks) (from + ticks - 1)
long_joins f lo from ticks low some = record {
  by = λ p is. is.is.ends;
  after = λ p is. let b = is.is.begins in let l = is.long in omega (arith, b, l, some);
  left = λ p is. record { is = widened f _ _ _ _ p (omega arith) (omega arith) is.is; long = is.long };
  right = λ p is. record { is = widened f _ _ _ _ p low (omega arith) is.is; long = is.long };
  either = λ p is.
      let e = is.is.ends in
      let l = is.long in
      let b = is.is.begins in
      elim (cases_lt p.from from) [
        | inl less ↦
            inl (record {
              is = record { some = is.is.some; begins = b; ends = omega (arith, less, l, some); got = is.is.got };
              long = l;
            })
        | inr more ↦
            inr (record {
              is = record { some = is.is.some; begins = more; ends = omega (arith, e, some); got = is.is.got };
              long = l;
            })
      ];
}

-- the only one from a tick on
long_one : (scale : Scale) (f : ℕ → Bool) (from ticks : ℕ) → 1 ≤ ticks
    → IsFirst scale (IsLong f from (from + ticks) ticks) (part f from ticks)
long_one scale f from ticks some = record {
  is = record {
    is = record { some = some; begins = omega arith; ends = omega arith; got = refl };
    long = refl;
  };
  first = λ p is.
      let e = is.is.ends in
      let l = is.long in
      let b = is.is.begins in
      let at : from ≡ p.from = omega (arith, e, l, b) in
      same_precedes scale (part f from ticks) p at (sym l) (got_same f p from ticks (sym at) l is.is.got);
}

pub long_none : (scale : Scale) (f : ℕ → Bool) (lo ticks : ℕ) → 1 ≤ ticks
    → IsFirstOf scale (IsLong f lo (lo + ticks - 1) ticks) None
long_none scale f lo ticks some p is =
    let e = is.is.ends in let l = is.long in let b = is.is.begins in omega (arith, e, l, b, some)

pub long_more : (scale : Scale) (f : ℕ → Bool) (lo from ticks : ℕ) (one taken : Option Part) → lo ≤ from → 1 ≤ ticks
    → IsSoonerOf scale one (Some (part f from ticks)) taken
    → IsFirstOf scale (IsLong f lo (from + ticks - 1) ticks) one
    → IsFirstOf scale (IsLong f lo (from + 1 + ticks - 1) ticks) taken
long_more scale f lo from ticks one taken low some is first =
    sooner_first scale _ _ _ _ one (Some (part f from ticks)) taken (long_joins f lo from ticks low some) is first
    (long_one scale f from ticks some)
