-- What words of two rules reach, and when no other word does.
use Rattle.std.proofs.Common.{◌≡◌, ℕ, suc, ◌+◌, ◌*◌, ◌-◌, ◌≤◌, Bool, false, List, [], ◌∷◌}
use Rattle.std.proofs.Common.{length, refl, ap, subst, ◌^◌, lit≤, arith}
use Rattle.std.specs.List.{AllByRecursion}
use Rattle.std.proofs.lemmas.List.Elements.{All-from_recursion, All-contains}
use Rattle.hls_frac.specs.declared.Frac.{Frac}
use Rattle.hls_frac.specs.Frac.{IsQuotient}
use Rattle.hls_frac.proofs.Quotients.{quotient_of}
use Rattle.hls_guarantee.specs.declared.Guarantee.{Guarantee}
use Rattle.hls_guarantee.specs.declared.Guarantee.TheVariants.{Resb, Resc, Psbe}
use Rattle.hls_guarantee.specs.declared.rule.RuleName.{RuleName}
use Rattle.hls_guarantee.specs.declared.rule.RuleName.TheVariants.{R1, R2, R4, R5, R6, R7, R8, R9, R10, R11}
use Rattle.hls_guarantee.specs.Limits.{IsReservation, IsValid}
use Rattle.hls_guarantee.specs.Conversions.{HasTimes, Leads, Converts}
use Rattle.hls_search_laws.specs.Words.{words, IsWord, Reaches}
use Rattle.hls_search_laws.proofs.Quads.{IsQuad, IsBetter, IsCovered, quad, quad_of, quad-ok, covered-from}
use Rattle.hls_search_laws.proofs.Quads.{better-trans, better-quotient, quotient-better}
use Rattle.hls_search_laws.proofs.Ways.{Way, converts-way}
use Rattle.hls_search_laws.proofs.Ways.Way.{r4, r5, r10, r11}
use Rattle.hls_search_laws.proofs.Makes.{quotients-share}

-- ---- words by their length

-- facts of all words, one behind the other
pub and : {A B : Type 0} → A → B → A × B
and a b = (a, b)

-- a fact of the rule of a word of one
abbrev OfOne : (RuleName → Type 0) → List RuleName → Type 0
OfOne P (a ∷ []) = P a
OfOne P _ = Unit {0}

pub one-rule : (P : RuleName → Type 0) → P R1 → P R2 → P R4 → P R5 → P R6 → P R7 → P R8 → P R9 → P R10 → P R11
    → (a : RuleName) → IsWord (a ∷ []) → P a
one-rule P p1 p2 p4 p5 p6 p7 p8 p9 p10 p11 a known =
    let each : AllByRecursion (OfOne P) words =
    and tt (and p1 (and p2 (and p4 (and p5 (and p6 (and p7 (and p8 (and p9 (and p10 (and p11 (and tt (and tt (
    and tt (and tt (and tt (and tt (and tt tt))))))))))))))))) in
    All-contains (OfOne P) words (a ∷ []) (All-from_recursion (OfOne P) words each) known

-- of the two rules of a word of two
abbrev OfTwo : (RuleName → RuleName → Type 0) → List RuleName → Type 0
OfTwo P (a ∷ (b ∷ [])) = P a b
OfTwo P _ = Unit {0}

pub two-rules : (P : RuleName → RuleName → Type 0) → P R2 R1 → P R4 R1 → P R4 R6 → P R5 R1 → P R5 R6 → P R10 R7
    → P R11 R7 → (a b : RuleName) → IsWord (a ∷ (b ∷ [])) → P a b
two-rules P p21 p41 p46 p51 p56 p107 p117 a b known =
    let each : AllByRecursion (OfTwo P) words =
    and tt (and tt (and tt (and tt (and tt (and tt (and tt (and tt (and tt (and tt (and tt (and p21 (and p41 (
    and p46 (and p51 (and p56 (and p107 (and p117 tt))))))))))))))))) in
    All-contains (OfTwo P) words (a ∷ (b ∷ [])) (All-from_recursion (OfTwo P) words each) known

pub words-short : (word : List RuleName) → IsWord word → length word ≤ 2
words-short word known =
    let each : AllByRecursion (λ (w : List RuleName). length w ≤ 2) words =
    and (lit≤ tt) (and (lit≤ tt) (and (lit≤ tt) (and (lit≤ tt) (and (lit≤ tt) (and (lit≤ tt) (and (lit≤ tt) (
    and (lit≤ tt) (and (lit≤ tt) (and (lit≤ tt) (and (lit≤ tt) (and (lit≤ tt) (and (lit≤ tt) (and (lit≤ tt) (
    and (lit≤ tt) (and (lit≤ tt) (and (lit≤ tt) (and (lit≤ tt) tt))))))))))))))))) in
    All-contains (λ (w : List RuleName). length w ≤ 2) words word
    (All-from_recursion (λ (w : List RuleName). length w ≤ 2) words each) known

-- no other word of at most so many rules leads from g to h
abbrev pub IsAlone : List RuleName → Guarantee → Guarantee → Type 0
IsAlone word g h = (other : List RuleName) → IsWord other → length other ≤ length word → Reaches other g h
    → other ≡ word

pub alone-none : (other : List RuleName) → length other ≤ 0 → other ≡ []
alone-none [] le = refl
alone-none (a ∷ rest) le = absurd (let few : suc (length rest) ≤ 0 = le in omega arith)

too-long : (rest : List RuleName) (k n : ℕ) → length rest + k ≤ n → suc n ≤ k → ⊥
too-long rest k n le more = omega arith

single : (rule : RuleName) (g h : Guarantee) → Reaches (rule ∷ []) g h → Leads rule g h
single rule g h r = subst (λ v. Leads rule g v) r.2 r.1.leads

pub alone-one : (rule : RuleName) (g h : Guarantee) → (g ≡ h → ⊥)
    → ((other : RuleName) → IsWord (other ∷ []) → Leads other g h → other ≡ rule) → IsAlone (rule ∷ []) g h
alone-one rule g h moved only [] known le r = absurd (moved r)
alone-one rule g h moved only (a ∷ []) known le r =
    ap (λ (v : RuleName). v ∷ []) (only a known (single a g h r))
alone-one rule g h moved only (a ∷ (b ∷ rest)) known le r =
    absurd (too-long rest 2 1 (let more : length (a ∷ (b ∷ rest)) ≤ 1 = le in omega arith) (omega arith))

pub alone-two : (first second : RuleName) (g h : Guarantee) → (g ≡ h → ⊥)
    → ((other : RuleName) → Leads other g h → ⊥)
    → ((a b : RuleName) → IsWord (a ∷ (b ∷ [])) → Reaches (a ∷ (b ∷ [])) g h → (a ≡ first) × (b ≡ second))
    → IsAlone (first ∷ (second ∷ [])) g h
alone-two first second g h moved none only [] known le r = absurd (moved r)
alone-two first second g h moved none only (a ∷ []) known le r = absurd (none a (single a g h r))
alone-two first second g h moved none only (a ∷ (b ∷ [])) known le r =
    let both = only a b known r in
    let one : a ≡ first = both.0 in
    let two : b ≡ second = both.1 in
    cc
alone-two first second g h moved none only (a ∷ (b ∷ (c ∷ rest))) known le r =
    absurd (too-long rest 3 2 (let more : length (a ∷ (b ∷ (c ∷ rest))) ≤ 2 = le in omega arith) (omega arith))

-- ---- what two rules reach

second-of : (a b : RuleName) (g h : Guarantee) (r : Reaches (a ∷ (b ∷ [])) g h) → Leads b r.0 h
second-of a b g h r = single b r.0 h r.2

-- the hard reservation made soft, and then by the next rule
pub softened : (b : RuleName) (g k h : Guarantee) → ((m : Guarantee) → Leads R2 g m → m ≡ k)
    → Reaches (R2 ∷ (b ∷ [])) g h → Leads b k h
softened b g k h is r = subst (λ v. Leads b v h) (is r.0 r.1.leads) (second-of R2 b g h r)

-- windows of blocks, and then blocks of these windows
windows-blocks : {g m : Guarantee} (hard : Bool) (x y e f : ℕ) → g ≡ Resb hard x y → Way R10 g m
    → Leads R7 m (Resb false e f) → (e ≤ x) × (2 * y + e ≤ 2 * x + f)
windows-blocks hard x y e f is (r10 {x = u} {y = v} {e = i} {f = j} less far) same =
    let to : Resb false e f ≡ Resb false i j = same in
    let one : u ≡ x = cc in
    let two : v ≡ y = cc in
    let three : e ≡ i = cc in
    let four : f ≡ j = cc in
    (omega arith, omega arith)

pub by-107 : (hard : Bool) (x y e f : ℕ) → Reaches (R10 ∷ (R7 ∷ [])) (Resb hard x y) (Resb false e f)
    → (e ≤ x) × (2 * y + e ≤ 2 * x + f)
by-107 hard x y e f r =
    windows-blocks hard x y e f refl (converts-way R10 (Resb hard x y) r.0 r.1)
    (second-of R10 R7 (Resb hard x y) (Resb false e f) r)

windows-no-share : {g m : Guarantee} (s d : Frac) → Way R10 g m → Leads R7 m (Psbe s d) → ⊥
windows-no-share s d (r10 less far) same = (let none : ⊥ = cc in none)

pub no-107p : (g : Guarantee) (s d : Frac) → Reaches (R10 ∷ (R7 ∷ [])) g (Psbe s d) → ⊥
no-107p g s d r = windows-no-share s d (converts-way R10 g r.0 r.1) (second-of R10 R7 g (Psbe s d) r)

-- windows of so many periods, and then blocks of these windows
windows-times : {g m : Guarantee} (hard : Bool) (x y e f : ℕ) → g ≡ Resc hard x y → Way R11 g m
    → Leads R7 m (Resb false e f) → HasTimes x y e f
windows-times hard x y e f is (r11 {x = u} {y = v} {e = i} {f = j} k some less far) same =
    let to : Resb false e f ≡ Resb false i j = same in
    let one : u ≡ x = cc in
    let two : v ≡ y = cc in
    let three : e ≡ i = cc in
    let four : f ≡ j = cc in
    record {
      times = k;
      some = some;
      enough = omega (arith, less, three, ap (λ n. k * n) one);
      within = omega (arith, far, four, ap (λ n. k * n) two);
    }

pub by-117 : (hard : Bool) (x y e f : ℕ) → Reaches (R11 ∷ (R7 ∷ [])) (Resc hard x y) (Resb false e f)
    → HasTimes x y e f
by-117 hard x y e f r =
    windows-times hard x y e f refl (converts-way R11 (Resc hard x y) r.0 r.1)
    (second-of R11 R7 (Resc hard x y) (Resb false e f) r)

times-no-share : {g m : Guarantee} (s d : Frac) → Way R11 g m → Leads R7 m (Psbe s d) → ⊥
times-no-share s d (r11 k some less far) same = (let none : ⊥ = cc in none)

pub no-117p : (g : Guarantee) (s d : Frac) → Reaches (R11 ∷ (R7 ∷ [])) g (Psbe s d) → ⊥
no-117p g s d r = times-no-share s d (converts-way R11 g r.0 r.1) (second-of R11 R7 g (Psbe s d) r)

-- a share of a reservation gives no reservation by R1, no share by R6, and by R6 what the reservation covers
pub data IsShareWay : Guarantee → Guarantee → Type 0 where
  by_blocks : {g m : Guarantee} → Way R4 g m → IsShareWay g m
  by_windows : {g m : Guarantee} → Way R5 g m → IsShareWay g m

share-no-blocks : {g m : Guarantee} (e f : ℕ) → IsShareWay g m → Leads R1 m (Resb false e f) → ⊥
share-no-blocks e f (by_blocks (r4 rate error)) leads = leads
share-no-blocks e f (by_windows (r5 rate error)) leads = leads

share-no-share : {g m : Guarantee} (s d : Frac) → IsShareWay g m → Leads R6 m (Psbe s d) → ⊥
share-no-share s d (by_blocks (r4 rate error)) leads = leads
share-no-share s d (by_windows (r5 rate error)) leads = leads

-- what a share covers that is a reservation's, the reservation's rate and error cover
same-quad : {g m : Guarantee} (e f : ℕ) → IsValid m → IsShareWay g m → IsCovered (quad m) e f
    → IsCovered (quad g) e f
same-quad e f valid (by_blocks (r4 {hard = hard} {x = x} {y = y} {s = s} {d = d} rate error)) under =
    covered-from e f (quad-ok (Psbe s d) valid)
    (better-quotient s.num s.den d.num d.den x y (x * (2 * (y - x))) y rate error) under
same-quad e f valid (by_windows (r5 {hard = hard} {x = x} {y = y} {s = s} {d = d} rate error)) under =
    covered-from e f (quad-ok (Psbe s d) valid)
    (better-quotient s.num s.den d.num d.den x y (x * (y - x)) y rate error) under

covered-blocks : {g m : Guarantee} (e f : ℕ) → IsShareWay g m → Leads R6 m (Resb false e f) → IsCovered (quad m) e f
covered-blocks e f (by_blocks (r4 rate error)) leads = leads
covered-blocks e f (by_windows (r5 rate error)) leads = leads

way-4 : (g m : Guarantee) → Converts R4 g m → IsShareWay g m
way-4 g m c = by_blocks (converts-way R4 g m c)

way-5 : (g m : Guarantee) → Converts R5 g m → IsShareWay g m
way-5 g m c = by_windows (converts-way R5 g m c)

pub no-41b : (g : Guarantee) (e f : ℕ) → Reaches (R4 ∷ (R1 ∷ [])) g (Resb false e f) → ⊥
no-41b g e f r = share-no-blocks e f (way-4 g r.0 r.1) (second-of R4 R1 g (Resb false e f) r)

pub no-51b : (g : Guarantee) (e f : ℕ) → Reaches (R5 ∷ (R1 ∷ [])) g (Resb false e f) → ⊥
no-51b g e f r = share-no-blocks e f (way-5 g r.0 r.1) (second-of R5 R1 g (Resb false e f) r)

pub no-46p : (g : Guarantee) (s d : Frac) → Reaches (R4 ∷ (R6 ∷ [])) g (Psbe s d) → ⊥
no-46p g s d r = share-no-share s d (way-4 g r.0 r.1) (second-of R4 R6 g (Psbe s d) r)

pub no-56p : (g : Guarantee) (s d : Frac) → Reaches (R5 ∷ (R6 ∷ [])) g (Psbe s d) → ⊥
no-56p g s d r = share-no-share s d (way-5 g r.0 r.1) (second-of R5 R6 g (Psbe s d) r)

pub by-46b : (g : Guarantee) (e f : ℕ) → Reaches (R4 ∷ (R6 ∷ [])) g (Resb false e f) → IsCovered (quad g) e f
by-46b g e f r =
    let way = way-4 g r.0 r.1 in
    same-quad e f r.1.to way (covered-blocks e f way (second-of R4 R6 g (Resb false e f) r))

pub by-56b : (g : Guarantee) (e f : ℕ) → Reaches (R5 ∷ (R6 ∷ [])) g (Resb false e f) → IsCovered (quad g) e f
by-56b g e f r =
    let way = way-5 g r.0 r.1 in
    same-quad e f r.1.to way (covered-blocks e f way (second-of R5 R6 g (Resb false e f) r))

-- ---- shares and reservations to try

pub sized : (x y : ℕ) → 1 ≤ x → x ≤ y → y ≤ 20000 → IsReservation x y
sized x y some fits size = record { some = some; fits = fits; size = size }

-- the rate a / b with the error p / q
pub record ShareOf (a b p q : ℕ) : Type 0 where
  pub s : Frac
  pub d : Frac
  pub rate : IsQuotient s a b
  pub error : IsQuotient d p q
  pub valid : IsValid (Psbe s d)

pub share-of : (a b p q : ℕ) → 1 ≤ a → a ≤ b → b ≤ 10 → 1 ≤ q → p ≤ 10 → q ≤ 10 → ShareOf a b p q
share-of a b p q some fits small pos num den =
    let s = quotient_of a b (omega arith) in
    let d = quotient_of p q pos in
    record {
      s = s.0;
      d = d.0;
      rate = s.1;
      error = d.1;
      valid = quotients-share (10 ^ 13) (10 ^ 8) a b p q s.0 d.0 some fits pos (omega arith) (omega arith)
          (omega arith) (omega arith) s.1 d.1;
    }

pub shares-better : {a b p q c f r u : ℕ} (m : ShareOf a b p q) (h : ShareOf c f r u) → IsQuad (quad_of a b p q)
    → IsQuad (quad_of c f r u) → IsBetter (quad_of a b p q) (quad_of c f r u)
    → IsBetter (quad (Psbe m.s m.d)) (quad (Psbe h.s h.d))
shares-better {a} {b} {p} {q} {c} {f} {r} {u} m h first second better =
    better-trans first (quotient-better m.s.num m.s.den m.d.num m.d.den a b p q m.rate m.error)
    (better-trans second better (better-quotient h.s.num h.s.den h.d.num h.d.den c f r u h.rate h.error))

pub share-covers : {a b p q : ℕ} (m : ShareOf a b p q) (x y : ℕ) → IsQuad (quad_of a b p q)
    → IsCovered (quad_of a b p q) x y → IsCovered (quad (Psbe m.s m.d)) x y
share-covers {a} {b} {p} {q} m x y ok under =
    covered-from x y ok (quotient-better m.s.num m.s.den m.d.num m.d.den a b p q m.rate m.error) under
