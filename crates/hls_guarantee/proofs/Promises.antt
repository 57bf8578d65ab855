-- What is promised of some ticks is promised of each part of them, and of schedules that agree or serve more.
use Rattle.std.proofs.Common.{◌≡◌, ℕ, ◌+◌, ◌*◌, ◌<◌, ◌≤◌, Bool, true, false, ◌∙◌, sym, subst, arith}
use Rattle.std.proofs.Math.Nat.{mul-le-mul_right}
use Rattle.hls_frac.specs.declared.Frac.{Frac}
use Rattle.hls_guarantee.specs.declared.Guarantee.{Guarantee}
use Rattle.hls_guarantee.specs.declared.Guarantee.TheVariants.{All, Null, Resb, Resc, Psbe}
use Rattle.hls_guarantee.specs.Service.{EveryPart}
use Rattle.hls_guarantee.specs.Satisfaction.{IsReserved, InPiece, HasShare, Satisfies, IsSoft}
use Rattle.hls_guarantee.specs.Cap.{KeepsCap}
use Rattle.hls_chron.specs.Parts.{all_parts, parts}
use Rattle.hls_guarantee.specs.Supply.{Supplies}
use Rattle.hls_chron.proofs.CountLaws.{count-agree, count-more}

-- parts of a part
pub every-part : (P : ℕ → ℕ → ℕ → Type 0) (f : ℕ → Bool) (lo hi i j : ℕ) → lo ≤ i → j ≤ hi →
    EveryPart P f lo hi → EveryPart P f i j
every-part P f lo hi i j from to each = λ k n a b. each k n (omega arith) (omega arith)

pub satisfies-part : (g : Guarantee) (f : ℕ → Bool) (lo hi i j : ℕ) → lo ≤ i → j ≤ hi →
    Satisfies g f lo hi → Satisfies g f i j
satisfies-part All f lo hi i j from to s = λ t a b. s t (omega arith) (omega arith)
satisfies-part Null f lo hi i j from to s = tt
satisfies-part (Resc hard x y) f lo hi i j from to s = λ k n a b. s k n (omega arith) (omega arith)
satisfies-part (Resb hard x y) f lo hi i j from to s =
    (s.0, s.1, λ k n a b. s.2 k n (omega arith) (omega arith))
satisfies-part (Psbe s d) f lo hi i j from to share = λ k n a b. share k n (omega arith) (omega arith)

pub keeps_cap-part : (g : Guarantee) (f : ℕ → Bool) (lo hi i j : ℕ) → lo ≤ i → j ≤ hi →
    KeepsCap g f lo hi → KeepsCap g f i j
keeps_cap-part All f lo hi i j from to c = tt
keeps_cap-part Null f lo hi i j from to c = tt
keeps_cap-part (Resc true x y) f lo hi i j from to c = λ k n a b. c k n (omega arith) (omega arith)
keeps_cap-part (Resc false x y) f lo hi i j from to c = tt
keeps_cap-part (Resb true x y) f lo hi i j from to c = λ k n a b. c k n (omega arith) (omega arith)
keeps_cap-part (Resb false x y) f lo hi i j from to c = tt
keeps_cap-part (Psbe s d) f lo hi i j from to c = tt

-- the two schedules are the same on these ticks
abbrev pub Agree : (f h : ℕ → Bool) (lo hi : ℕ) → Type 0
Agree f h lo hi = (t : ℕ) → lo ≤ t → t < hi → f t ≡ h t

pub every-agree : (P : ℕ → ℕ → ℕ → Type 0) (f h : ℕ → Bool) (lo hi : ℕ) → Agree f h lo hi →
    EveryPart P f lo hi → EveryPart P h lo hi
every-agree P f h lo hi same each = λ i n a b.
    let e = count-agree f h i n (λ t c d. same t (omega arith) (omega arith)) in
    subst (P i n) e (each i n a b)

pub satisfies-agree : (g : Guarantee) (f h : ℕ → Bool) (lo hi : ℕ) → Agree f h lo hi →
    Satisfies g f lo hi → Satisfies g h lo hi
satisfies-agree All f h lo hi same s = λ t a b. sym (same t a b) ∙ s t a b
satisfies-agree Null f h lo hi same s = tt
satisfies-agree (Resc hard x y) f h lo hi same s =
    every-agree (λ i n got. n ≤ y → IsReserved hard x y n got) f h lo hi same s
satisfies-agree (Resb hard x y) f h lo hi same s =
    (s.0, s.1, every-agree (λ i n got. InPiece s.0 y i n → IsReserved hard x y n got) f h lo hi same s.2)
satisfies-agree (Psbe s d) f h lo hi same share =
    every-agree (λ i n got. HasShare s d n got) f h lo hi same share

pub keeps_cap-agree : (g : Guarantee) (f h : ℕ → Bool) (lo hi : ℕ) → Agree f h lo hi →
    KeepsCap g f lo hi → KeepsCap g h lo hi
keeps_cap-agree All f h lo hi same c = tt
keeps_cap-agree Null f h lo hi same c = tt
keeps_cap-agree (Resc true x y) f h lo hi same c = every-agree (λ i n got. n ≤ y → got ≤ x) f h lo hi same c
keeps_cap-agree (Resc false x y) f h lo hi same c = tt
keeps_cap-agree (Resb true x y) f h lo hi same c =
    every-agree
    (λ i n got. got * all_parts ≤ parts x y * n + 2 * x * all_parts) f h lo hi same c
keeps_cap-agree (Resb false x y) f h lo hi same c = tt
keeps_cap-agree (Psbe s d) f h lo hi same c = tt

-- more service keeps what is soft
reserved-more : (hard : Bool) (x y n got more : ℕ) → hard ≡ false → got ≤ more → IsReserved hard x y n got →
    IsReserved hard x y n more
reserved-more hard x y n got more soft le r = record {
  enough = omega (arith, r.enough);
  capped = λ h. absurd (let e : false ≡ true = sym soft ∙ h in cc);
}

share-more : (s d : Frac) (n got more : ℕ) → got ≤ more → HasShare s d n got → HasShare s d n more
share-more s d n got more le share =
    let up : got * (d.den * s.den) ≤ more * (d.den * s.den) = mul-le-mul_right (d.den * s.den) le in
    omega (arith, up)

pub satisfies-more : (g : Guarantee) (f h : ℕ → Bool) (lo hi : ℕ) → IsSoft g →
    ((t : ℕ) → f t ≡ true → h t ≡ true) → Satisfies g f lo hi → Satisfies g h lo hi
satisfies-more All f h lo hi soft more s = λ t a b. more t (s t a b)
satisfies-more Null f h lo hi soft more s = tt
satisfies-more (Resc hard x y) f h lo hi soft more s = λ i n a b short.
    reserved-more hard x y n _ _ soft (count-more f h i n more) (s i n a b short)
satisfies-more (Resb hard x y) f h lo hi soft more s = (
  s.0,
  s.1,
  λ i n a b piece. reserved-more hard x y n _ _ soft (count-more f h i n more) (s.2 i n a b piece),
)
satisfies-more (Psbe s d) f h lo hi soft more share = λ i n a b.
    share-more s d n _ _ (count-more f h i n more) (share i n a b)

-- supply goes over to a later start and to schedules and asking that agree from there on
pub supplies-agree : (g : Guarantee) (f h a b : ℕ → Bool) (lo hi from : ℕ) → lo ≤ from → Agree f h from hi →
    Agree a b from hi → Supplies g f a lo hi → Supplies g h b from hi
supplies-agree g f h a b lo hi from le same asks s = record {
  met = λ i j x y all.
      satisfies-agree g f h i j (λ t u v. same t (omega arith) (omega arith))
      (s.met i j (omega arith) y (λ t u v. asks t (omega arith) (omega arith) ∙ all t u v));
  capped = keeps_cap-agree g f h from hi same (keeps_cap-part g f lo hi from hi le (omega arith) s.capped);
}
