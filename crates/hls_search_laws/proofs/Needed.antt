-- Each word is needed: the pairs of guarantees between which no other word leads.
use Rattle.std.proofs.Common.{◌≡◌, ◌≤◌, true, false, List, [], ◌∷◌, refl, ap, lit≤, arith}
use Rattle.std.specs.List.{AllByRecursion}
use Rattle.std.proofs.lemmas.List.Elements.{All-from_recursion, All-contains}
use Rattle.hls_frac.specs.declared.Frac.{Frac}
use Rattle.hls_frac.specs.Frac.{IsQuotient}
use Rattle.hls_guarantee.specs.declared.Guarantee.{Guarantee}
use Rattle.hls_guarantee.specs.declared.Guarantee.TheVariants.{All, Null, Resb, Resc, Psbe}
use Rattle.hls_guarantee.specs.declared.rule.RuleName.{RuleName}
use Rattle.hls_guarantee.specs.declared.rule.RuleName.TheVariants.{R1, R2, R3, R4, R5, R6, R7, R8, R9, R10, R11}
use Rattle.hls_guarantee.specs.Limits.{IsReservation, IsValid}
use Rattle.hls_guarantee.specs.Conversions.{HasTimes, Leads}
use Rattle.hls_search_laws.specs.Words.{words, IsWord, Reaches, IsNeeded}
use Rattle.hls_search_laws.proofs.Quads.{IsQuad, IsBetter, IsCovered, quad, quad_of}
use Rattle.hls_search_laws.proofs.Ways.{Way, way-converts}
use Rattle.hls_search_laws.proofs.Ways.Way.{r1b, r1p, r2b, r4, r5, r6b, r7, r8b, r9, r10, r11}
use Rattle.hls_search_laws.proofs.Alone.{and, one-rule, two-rules, IsAlone, alone-none, alone-one, alone-two, softened}
use Rattle.hls_search_laws.proofs.Alone.{no-41b, no-51b, no-46p, no-56p, no-107p, no-117p, by-46b, by-56b, by-107}
use Rattle.hls_search_laws.proofs.Alone.{by-117, sized, ShareOf, share-of, shares-better, share-covers}

-- ---- words of one rule

whole : ShareOf 1 1 0 1
whole = share-of 1 1 0 1 (lit≤ tt) (lit≤ tt) (lit≤ tt) (lit≤ tt) (lit≤ tt) (lit≤ tt)

later : ShareOf 1 1 1 1
later = share-of 1 1 1 1 (lit≤ tt) (lit≤ tt) (lit≤ tt) (lit≤ tt) (lit≤ tt) (lit≤ tt)

blocks-share : ShareOf 1 2 2 2
blocks-share = share-of 1 2 2 2 (lit≤ tt) (lit≤ tt) (lit≤ tt) (lit≤ tt) (lit≤ tt) (lit≤ tt)

windows-share : ShareOf 1 2 1 2
windows-share = share-of 1 2 1 2 (lit≤ tt) (lit≤ tt) (lit≤ tt) (lit≤ tt) (lit≤ tt) (lit≤ tt)

b11 : IsReservation 1 1
b11 = sized 1 1 (lit≤ tt) (lit≤ tt) (lit≤ tt)

b12 : IsReservation 1 2
b12 = sized 1 2 (lit≤ tt) (lit≤ tt) (lit≤ tt)

b13 : IsReservation 1 3
b13 = sized 1 3 (lit≤ tt) (lit≤ tt) (lit≤ tt)

b14 : IsReservation 1 4
b14 = sized 1 4 (lit≤ tt) (lit≤ tt) (lit≤ tt)

b24 : IsReservation 2 4
b24 = sized 2 4 (lit≤ tt) (lit≤ tt) (lit≤ tt)

b26 : IsReservation 2 6
b26 = sized 2 6 (lit≤ tt) (lit≤ tt) (lit≤ tt)

b34 : IsReservation 3 4
b34 = sized 3 4 (lit≤ tt) (lit≤ tt) (lit≤ tt)

ok1101 : IsQuad (quad_of 1 1 0 1)
ok1101 = record { some = lit≤ tt; fits = lit≤ tt; under = lit≤ tt }

ok1111 : IsQuad (quad_of 1 1 1 1)
ok1111 = record { some = lit≤ tt; fits = lit≤ tt; under = lit≤ tt }

no-word : IsNeeded []
no-word = record {
  from = All;
  to = All;
  reaches = refl;
  alone = λ other known le r. alone-none other le;
}

-- one step by its rule, which no other word of one makes
by-rule : (rule : RuleName) (g h : Guarantee) → IsValid g → IsValid h → Way rule g h → (g ≡ h → ⊥)
    → ((other : RuleName) → IsWord (other ∷ []) → Leads other g h → other ≡ rule) → IsNeeded (rule ∷ [])
by-rule rule g h vg vh way moved only = record {
  from = g;
  to = h;
  reaches = (h, way-converts vg vh way, refl);
  alone = alone-one rule g h moved only;
}

-- one step that no other rule makes
by-one : (rule : RuleName) (g h : Guarantee) → IsValid g → IsValid h → Way rule g h → (g ≡ h → ⊥)
    → ((other : RuleName) → Leads other g h → other ≡ rule) → IsNeeded (rule ∷ [])
by-one rule g h vg vh way moved only = by-rule rule g h vg vh way moved (λ other known leads. only other leads)

-- R3 is no word
no-3 : IsWord (R3 ∷ []) → ⊥
no-3 known = one-rule (λ a. a ≡ R3 → ⊥) (λ e. cc) (λ e. cc) (λ e. cc) (λ e. cc) (λ e. cc) (λ e. cc)
    (λ e. cc) (λ e. cc) (λ e. cc) (λ e. cc) R3 known refl

only-1 : (s d t e : Frac) (other : RuleName) → Leads other (Psbe s d) (Psbe t e) → other ≡ R1
only-1 s d t e R1 leads = refl
only-1 s d t e R9 leads = cc
only-1 s d t e _ leads = absurd leads

only-2 : (other : RuleName) → Leads other (Resb true 1 2) (Resb false 1 2) → other ≡ R2
only-2 R2 leads = refl
only-2 R9 leads = cc
only-2 _ leads = absurd leads

only-4 : (s d : Frac) (other : RuleName) → Leads other (Resb true 1 2) (Psbe s d) → other ≡ R4
only-4 s d R4 leads = refl
only-4 s d R2 leads = cc
only-4 s d R9 leads = cc
only-4 s d _ leads = absurd leads

only-5 : (s d : Frac) (other : RuleName) → Leads other (Resc true 1 2) (Psbe s d) → other ≡ R5
only-5 s d R5 leads = refl
only-5 s d R2 leads = cc
only-5 s d R7 leads = cc
only-5 s d R9 leads = cc
only-5 s d _ leads = absurd leads

only-6 : (s d : Frac) (other : RuleName) → Leads other (Psbe s d) (Resb false 1 1) → other ≡ R6
only-6 s d R6 leads = refl
only-6 s d R9 leads = cc
only-6 s d _ leads = absurd leads

only-7 : (other : RuleName) → Leads other (Resc true 1 2) (Resb true 1 2) → other ≡ R7
only-7 R7 leads = refl
only-7 R2 leads = cc
only-7 R9 leads = cc
only-7 _ leads = absurd leads

only-8 : (other : RuleName) → Leads other All (Resb false 1 1) → other ≡ R8
only-8 R8 leads = refl
only-8 R9 leads = cc
only-8 _ leads = absurd leads

only-9 : (other : RuleName) → Leads other All Null → other ≡ R9
only-9 R9 leads = refl
only-9 _ leads = absurd leads

only-10 : (other : RuleName) → IsWord (other ∷ []) → Leads other (Resb true 1 2) (Resc false 1 3)
    → other ≡ R10
only-10 R10 known leads = refl
only-10 R3 known leads = absurd (no-3 known)
only-10 R2 known leads = cc
only-10 R9 known leads = cc
only-10 _ known leads = absurd leads

only-11 : (other : RuleName) → Leads other (Resc true 1 2) (Resc false 2 4) → other ≡ R11
only-11 R11 leads = refl
only-11 R2 leads = cc
only-11 R7 leads = cc
only-11 R9 leads = cc
only-11 _ leads = absurd leads

weaker : IsBetter (quad (Psbe whole.s whole.d)) (quad (Psbe later.s later.d))
weaker = shares-better whole later ok1101 ok1111 (record { rate = lit≤ tt; delay = lit≤ tt })

-- the error tells them apart
later-moves : Psbe whole.s whole.d ≡ Psbe later.s later.d → ⊥
later-moves same =
    let error : whole.d ≡ later.d = cc in
    let num : whole.d.num ≡ later.d.num = ap (λ (v : Frac). v.num) error in
    let none = whole.error in
    let one = later.error in
    let pos = later.d.positive in
    omega arith

needed-1 : IsNeeded (R1 ∷ [])
needed-1 = by-one R1 (Psbe whole.s whole.d) (Psbe later.s later.d) whole.valid later.valid
    (r1p weaker.rate weaker.delay) (λ same. later-moves same) (only-1 whole.s whole.d later.s later.d)

needed-2 : IsNeeded (R2 ∷ [])
needed-2 = by-one R2 (Resb true 1 2) (Resb false 1 2) b12 b12 r2b (λ same. cc) only-2

needed-4 : IsNeeded (R4 ∷ [])
needed-4 = by-one R4 (Resb true 1 2) (Psbe blocks-share.s blocks-share.d) b12 blocks-share.valid
    (r4 blocks-share.rate blocks-share.error) (λ same. cc) (only-4 blocks-share.s blocks-share.d)

needed-5 : IsNeeded (R5 ∷ [])
needed-5 = by-one R5 (Resc true 1 2) (Psbe windows-share.s windows-share.d) b12 windows-share.valid
    (r5 windows-share.rate windows-share.error) (λ same. cc) (only-5 windows-share.s windows-share.d)

needed-6 : IsNeeded (R6 ∷ [])
needed-6 = by-one R6 (Psbe whole.s whole.d) (Resb false 1 1) whole.valid b11
    (r6b (share-covers whole 1 1 ok1101 (lit≤ tt))) (λ same. cc) (only-6 whole.s whole.d)

needed-7 : IsNeeded (R7 ∷ [])
needed-7 = by-one R7 (Resc true 1 2) (Resb true 1 2) b12 b12 r7 (λ same. cc) only-7

needed-8 : IsNeeded (R8 ∷ [])
needed-8 = by-one R8 All (Resb false 1 1) tt b11 r8b (λ same. cc) only-8

needed-9 : IsNeeded (R9 ∷ [])
needed-9 = by-one R9 All Null tt tt r9 (λ same. cc) only-9

needed-10 : IsNeeded (R10 ∷ [])
needed-10 = by-rule R10 (Resb true 1 2) (Resc false 1 3) b12 b13 (r10 (lit≤ tt) (lit≤ tt)) (λ same. cc) only-10

needed-11 : IsNeeded (R11 ∷ [])
needed-11 = by-one R11 (Resc true 1 2) (Resc false 2 4) b12 b24 (r11 2 (lit≤ tt) (lit≤ tt) (lit≤ tt)) (λ same. cc)
    only-11

-- ---- words of two rules

-- two steps by their rules, which no other word makes
by-two : (first second : RuleName) (g m h : Guarantee) → IsValid g → IsValid m → IsValid h → Way first g m
    → Way second m h → IsAlone (first ∷ (second ∷ [])) g h → IsNeeded (first ∷ (second ∷ []))
by-two first second g m h vg vm vh one two alone = record {
  from = g;
  to = h;
  reaches = (m, way-converts vg vm one, (h, way-converts vm vh two, refl));
  alone = alone;
}

-- Resb true 2 4 to Resb false 1 4
none-21 : (other : RuleName) → Leads other (Resb true 2 4) (Resb false 1 4) → ⊥
none-21 R2 leads = (let none : ⊥ = cc in none)
none-21 R9 leads = (let none : ⊥ = cc in none)
none-21 _ leads = leads

only-21 : (a b : RuleName) → IsWord (a ∷ (b ∷ [])) → Reaches (a ∷ (b ∷ [])) (Resb true 2 4) (Resb false 1 4)
    → (a ≡ R2) × (b ≡ R1)
only-21 a b known r =
    two-rules (λ a b. Reaches (a ∷ (b ∷ [])) (Resb true 2 4) (Resb false 1 4) → (a ≡ R2) × (b ≡ R1))
    (λ r. (refl, refl))
    (λ r. absurd (no-41b (Resb true 2 4) 1 4 r))
    (λ r. absurd (let under : IsCovered (quad (Resb true 2 4)) 1 4 = by-46b (Resb true 2 4) 1 4 r in omega arith))
    (λ r. absurd r.1.leads)
    (λ r. absurd r.1.leads)
    (λ r. absurd (let wide = by-107 true 2 4 1 4 r in let far = wide.1 in omega arith))
    (λ r. absurd r.1.leads)
    a b known r

-- Resb true 1 2 to Psbe s d
none-41 : (s d : Frac) → IsQuotient d 2 1 → (other : RuleName) → Leads other (Resb true 1 2) (Psbe s d) → ⊥
none-41 s d error R4 leads = (let other = leads.1 in let pos = d.positive in omega arith)
none-41 s d error R2 leads = (let none : ⊥ = cc in none)
none-41 s d error R9 leads = (let none : ⊥ = cc in none)
none-41 s d error _ leads = leads

only-41 : (s d : Frac) (a b : RuleName) → IsWord (a ∷ (b ∷ [])) → Reaches (a ∷ (b ∷ [])) (Resb true 1 2) (Psbe s d)
    → (a ≡ R4) × (b ≡ R1)
only-41 s d a b known r =
    two-rules (λ a b. Reaches (a ∷ (b ∷ [])) (Resb true 1 2) (Psbe s d) → (a ≡ R4) × (b ≡ R1))
    (λ r. absurd (softened R1 (Resb true 1 2) (Resb false 1 2) (Psbe s d) (λ m e. e) r))
    (λ r. (refl, refl))
    (λ r. absurd (no-46p (Resb true 1 2) s d r))
    (λ r. absurd r.1.leads)
    (λ r. absurd r.1.leads)
    (λ r. absurd (no-107p (Resb true 1 2) s d r))
    (λ r. absurd r.1.leads)
    a b known r

-- Resb true 1 2 to Resb false 2 6
none-46 : (other : RuleName) → Leads other (Resb true 1 2) (Resb false 2 6) → ⊥
none-46 R2 leads = (let none : ⊥ = cc in none)
none-46 R9 leads = (let none : ⊥ = cc in none)
none-46 _ leads = leads

only-46 : (a b : RuleName) → IsWord (a ∷ (b ∷ [])) → Reaches (a ∷ (b ∷ [])) (Resb true 1 2) (Resb false 2 6)
    → (a ≡ R4) × (b ≡ R6)
only-46 a b known r =
    two-rules (λ a b. Reaches (a ∷ (b ∷ [])) (Resb true 1 2) (Resb false 2 6) → (a ≡ R4) × (b ≡ R6))
    (λ r. absurd (let both : (2 ≤ 1) × (6 ≡ 2) = softened R1 (Resb true 1 2) (Resb false 1 2) (Resb false 2 6)
    (λ m e. e) r in omega arith))
    (λ r. absurd (no-41b (Resb true 1 2) 2 6 r))
    (λ r. (refl, refl))
    (λ r. absurd r.1.leads)
    (λ r. absurd r.1.leads)
    (λ r. absurd (let wide = by-107 true 1 2 2 6 r in let less = wide.0 in omega arith))
    (λ r. absurd r.1.leads)
    a b known r

-- Resc true 1 2 to Psbe s d
none-51 : (s d : Frac) → IsQuotient d 1 1 → (other : RuleName) → Leads other (Resc true 1 2) (Psbe s d) → ⊥
none-51 s d error R5 leads = (let other = leads.1 in let pos = d.positive in omega arith)
none-51 s d error R2 leads = (let none : ⊥ = cc in none)
none-51 s d error R7 leads = (let none : ⊥ = cc in none)
none-51 s d error R9 leads = (let none : ⊥ = cc in none)
none-51 s d error _ leads = leads

only-51 : (s d : Frac) (a b : RuleName) → IsWord (a ∷ (b ∷ [])) → Reaches (a ∷ (b ∷ [])) (Resc true 1 2) (Psbe s d)
    → (a ≡ R5) × (b ≡ R1)
only-51 s d a b known r =
    two-rules (λ a b. Reaches (a ∷ (b ∷ [])) (Resc true 1 2) (Psbe s d) → (a ≡ R5) × (b ≡ R1))
    (λ r. absurd (softened R1 (Resc true 1 2) (Resc false 1 2) (Psbe s d) (λ m e. e) r))
    (λ r. absurd r.1.leads)
    (λ r. absurd r.1.leads)
    (λ r. (refl, refl))
    (λ r. absurd (no-56p (Resc true 1 2) s d r))
    (λ r. absurd r.1.leads)
    (λ r. absurd (no-117p (Resc true 1 2) s d r))
    a b known r

-- Resc true 3 4 to Resb false 1 3
none-56 : (other : RuleName) → Leads other (Resc true 3 4) (Resb false 1 3) → ⊥
none-56 R2 leads = (let none : ⊥ = cc in none)
none-56 R7 leads = (let none : ⊥ = cc in none)
none-56 R9 leads = (let none : ⊥ = cc in none)
none-56 _ leads = leads

only-56 : (a b : RuleName) → IsWord (a ∷ (b ∷ [])) → Reaches (a ∷ (b ∷ [])) (Resc true 3 4) (Resb false 1 3)
    → (a ≡ R5) × (b ≡ R6)
only-56 a b known r =
    two-rules (λ a b. Reaches (a ∷ (b ∷ [])) (Resc true 3 4) (Resb false 1 3) → (a ≡ R5) × (b ≡ R6))
    (λ r. absurd (softened R1 (Resc true 3 4) (Resc false 3 4) (Resb false 1 3) (λ m e. e) r))
    (λ r. absurd r.1.leads)
    (λ r. absurd r.1.leads)
    (λ r. absurd (no-51b (Resc true 3 4) 1 3 r))
    (λ r. (refl, refl))
    (λ r. absurd r.1.leads)
    (λ r. absurd (let has : HasTimes 3 4 1 3 = by-117 true 3 4 1 3 r in omega (arith, has.some, has.within)))
    a b known r

-- Resb true 1 2 to Resb false 1 3
none-107 : (other : RuleName) → Leads other (Resb true 1 2) (Resb false 1 3) → ⊥
none-107 R2 leads = (let none : ⊥ = cc in none)
none-107 R9 leads = (let none : ⊥ = cc in none)
none-107 _ leads = leads

only-107 : (a b : RuleName) → IsWord (a ∷ (b ∷ [])) → Reaches (a ∷ (b ∷ [])) (Resb true 1 2) (Resb false 1 3)
    → (a ≡ R10) × (b ≡ R7)
only-107 a b known r =
    two-rules (λ a b. Reaches (a ∷ (b ∷ [])) (Resb true 1 2) (Resb false 1 3) → (a ≡ R10) × (b ≡ R7))
    (λ r. absurd (let both : (1 ≤ 1) × (3 ≡ 2) = softened R1 (Resb true 1 2) (Resb false 1 2) (Resb false 1 3)
    (λ m e. e) r in omega arith))
    (λ r. absurd (no-41b (Resb true 1 2) 1 3 r))
    (λ r. absurd (let under : IsCovered (quad (Resb true 1 2)) 1 3 = by-46b (Resb true 1 2) 1 3 r in omega arith))
    (λ r. absurd r.1.leads)
    (λ r. absurd r.1.leads)
    (λ r. (refl, refl))
    (λ r. absurd r.1.leads)
    a b known r

-- Resc true 1 2 to Resb false 1 2
none-117 : (other : RuleName) → Leads other (Resc true 1 2) (Resb false 1 2) → ⊥
none-117 R2 leads = (let none : ⊥ = cc in none)
none-117 R7 leads = (let none : ⊥ = cc in none)
none-117 R9 leads = (let none : ⊥ = cc in none)
none-117 _ leads = leads

only-117 : (a b : RuleName) → IsWord (a ∷ (b ∷ [])) → Reaches (a ∷ (b ∷ [])) (Resc true 1 2) (Resb false 1 2)
    → (a ≡ R11) × (b ≡ R7)
only-117 a b known r =
    two-rules (λ a b. Reaches (a ∷ (b ∷ [])) (Resc true 1 2) (Resb false 1 2) → (a ≡ R11) × (b ≡ R7))
    (λ r. absurd (softened R1 (Resc true 1 2) (Resc false 1 2) (Resb false 1 2) (λ m e. e) r))
    (λ r. absurd r.1.leads)
    (λ r. absurd r.1.leads)
    (λ r. absurd (no-51b (Resc true 1 2) 1 2 r))
    (λ r. absurd (let under : IsCovered (quad (Resc true 1 2)) 1 2 = by-56b (Resc true 1 2) 1 2 r in omega arith))
    (λ r. absurd r.1.leads)
    (λ r. (refl, refl))
    a b known r

two-ways : ShareOf 1 2 2 1
two-ways = share-of 1 2 2 1 (lit≤ tt) (lit≤ tt) (lit≤ tt) (lit≤ tt) (lit≤ tt) (lit≤ tt)

one-way : ShareOf 1 2 1 1
one-way = share-of 1 2 1 1 (lit≤ tt) (lit≤ tt) (lit≤ tt) (lit≤ tt) (lit≤ tt) (lit≤ tt)

ok1222 : IsQuad (quad_of 1 2 2 2)
ok1222 = record { some = lit≤ tt; fits = lit≤ tt; under = lit≤ tt }

ok1212 : IsQuad (quad_of 1 2 1 2)
ok1212 = record { some = lit≤ tt; fits = lit≤ tt; under = lit≤ tt }

ok1221 : IsQuad (quad_of 1 2 2 1)
ok1221 = record { some = lit≤ tt; fits = lit≤ tt; under = lit≤ tt }

ok1211 : IsQuad (quad_of 1 2 1 1)
ok1211 = record { some = lit≤ tt; fits = lit≤ tt; under = lit≤ tt }

most-share : ShareOf 3 4 3 4
most-share = share-of 3 4 3 4 (lit≤ tt) (lit≤ tt) (lit≤ tt) (lit≤ tt) (lit≤ tt) (lit≤ tt)

ok3434 : IsQuad (quad_of 3 4 3 4)
ok3434 = record { some = lit≤ tt; fits = lit≤ tt; under = lit≤ tt }

blocks-weaker : IsBetter (quad (Psbe blocks-share.s blocks-share.d)) (quad (Psbe two-ways.s two-ways.d))
blocks-weaker = shares-better blocks-share two-ways ok1222 ok1221 (record { rate = lit≤ tt; delay = lit≤ tt })

windows-weaker : IsBetter (quad (Psbe windows-share.s windows-share.d)) (quad (Psbe one-way.s one-way.d))
windows-weaker = shares-better windows-share one-way ok1212 ok1211 (record { rate = lit≤ tt; delay = lit≤ tt })

needed-21 : IsNeeded (R2 ∷ (R1 ∷ []))
needed-21 = by-two R2 R1 (Resb true 2 4) (Resb false 2 4) (Resb false 1 4) b24 b24 b14 r2b (r1b (lit≤ tt))
    (alone-two R2 R1 (Resb true 2 4) (Resb false 1 4) (λ same. cc) none-21 only-21)

needed-41 : IsNeeded (R4 ∷ (R1 ∷ []))
needed-41 = by-two R4 R1 (Resb true 1 2) (Psbe blocks-share.s blocks-share.d) (Psbe two-ways.s two-ways.d) b12
    blocks-share.valid two-ways.valid (r4 blocks-share.rate blocks-share.error)
    (r1p blocks-weaker.rate blocks-weaker.delay)
    (alone-two R4 R1 (Resb true 1 2) (Psbe two-ways.s two-ways.d) (λ same. cc)
    (none-41 two-ways.s two-ways.d two-ways.error) (only-41 two-ways.s two-ways.d))

needed-46 : IsNeeded (R4 ∷ (R6 ∷ []))
needed-46 = by-two R4 R6 (Resb true 1 2) (Psbe blocks-share.s blocks-share.d) (Resb false 2 6) b12
    blocks-share.valid b26 (r4 blocks-share.rate blocks-share.error)
    (r6b (share-covers blocks-share 2 6 ok1222 (lit≤ tt)))
    (alone-two R4 R6 (Resb true 1 2) (Resb false 2 6) (λ same. cc) none-46 only-46)

needed-51 : IsNeeded (R5 ∷ (R1 ∷ []))
needed-51 = by-two R5 R1 (Resc true 1 2) (Psbe windows-share.s windows-share.d) (Psbe one-way.s one-way.d) b12
    windows-share.valid one-way.valid (r5 windows-share.rate windows-share.error)
    (r1p windows-weaker.rate windows-weaker.delay)
    (alone-two R5 R1 (Resc true 1 2) (Psbe one-way.s one-way.d) (λ same. cc)
    (none-51 one-way.s one-way.d one-way.error) (only-51 one-way.s one-way.d))

needed-56 : IsNeeded (R5 ∷ (R6 ∷ []))
needed-56 = by-two R5 R6 (Resc true 3 4) (Psbe most-share.s most-share.d) (Resb false 1 3) b34 most-share.valid b13
    (r5 most-share.rate most-share.error) (r6b (share-covers most-share 1 3 ok3434 (lit≤ tt)))
    (alone-two R5 R6 (Resc true 3 4) (Resb false 1 3) (λ same. cc) none-56 only-56)

needed-107 : IsNeeded (R10 ∷ (R7 ∷ []))
needed-107 = by-two R10 R7 (Resb true 1 2) (Resc false 1 3) (Resb false 1 3) b12 b13 b13 (r10 (lit≤ tt) (lit≤ tt)) r7
    (alone-two R10 R7 (Resb true 1 2) (Resb false 1 3) (λ same. cc) none-107 only-107)

needed-117 : IsNeeded (R11 ∷ (R7 ∷ []))
needed-117 = by-two R11 R7 (Resc true 1 2) (Resc false 1 2) (Resb false 1 2) b12 b12 b12
    (r11 1 (lit≤ tt) (lit≤ tt) (lit≤ tt)) r7
    (alone-two R11 R7 (Resc true 1 2) (Resb false 1 2) (λ same. cc) none-117 only-117)

pub word-needed : (word : List RuleName) → IsWord word → IsNeeded word
word-needed word known =
    let each : AllByRecursion IsNeeded words =
    and no-word (and needed-1 (and needed-2 (and needed-4 (and needed-5 (and needed-6 (and needed-7 (
    and needed-8 (and needed-9 (and needed-10 (and needed-11 (and needed-21 (and needed-41 (and needed-46 (
    and needed-51 (and needed-56 (and needed-107 (and needed-117 tt))))))))))))))))) in
    All-contains IsNeeded words word (All-from_recursion IsNeeded words each) known
