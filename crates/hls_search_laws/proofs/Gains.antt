-- Conversions raise no rate and shorten no delay, but to NULL; and words of answers are words of conversions.
use Rattle.std.proofs.Common.{◌≡◌, ℕ, ◌*◌, ◌≤◌, true, false, List, [], ◌∷◌, length, refl, sym, subst, arith}
use Rattle.std.proofs.Common.{mul-pos}
use Rattle.hls_guarantee.specs.declared.Guarantee.{Guarantee}
use Rattle.hls_guarantee.specs.declared.Guarantee.TheVariants.{All, Null, Resb, Resc, Psbe}
use Rattle.hls_guarantee.specs.declared.rule.RuleName.{RuleName}
use Rattle.hls_guarantee.specs.Limits.{IsValid}
use Rattle.hls_derive.specs.declared.derivation.Step.{Step}
use Rattle.hls_derive.specs.Derivation.{end_of}
use Rattle.hls_derive.specs.Derives.{FollowsBy}
use Rattle.hls_derive.proofs.Derivings.{follow-end}
use Rattle.hls_rules.proofs.Decided.{answer-sound}
use Rattle.hls_search_laws.specs.Words.{asked_before, Walks, Reaches, IsWord, IsFound}
use Rattle.hls_search_laws.specs.Rates.{Pace, pace_of, IsFaster, IsNoBetter}
use Rattle.hls_search_laws.proofs.Numbers.{fraction-trans}
use Rattle.hls_search_laws.proofs.Quads.{Quad, IsQuad, IsBetter, quad, quad-ok, better-refl, better-windows}
use Rattle.hls_search_laws.proofs.Quads.{better-blocks}
use Rattle.hls_search_laws.proofs.Closed.{Gives, Closed}
use Rattle.hls_search_laws.proofs.Closed.Gives.{share, windows, blocks}
use Rattle.hls_search_laws.proofs.Closed.Closed.{bound, null, shape, same, rates}
use Rattle.hls_search_laws.proofs.Shapes.{shape-better}
use Rattle.hls_search_laws.proofs.Reached.{closed, rates-gives}
use Rattle.hls_search_laws.proofs.Chains.{reach-steps}
use Rattle.hls_search_laws.proofs.Finding.{found-chain}
use Rattle.hls_search_laws.proofs.Ends.{closed-null}

gives-better : (g : Guarantee) {h : Guarantee} → IsValid g → IsValid h → Gives (quad g) h → IsBetter (quad g) (quad h)
gives-better g vg vh (share better) = better
gives-better g vg vh (windows {x = x} {y = y} under) =
    better-windows (quad g) x y (quad-ok g vg) vh.fits under
gives-better g vg vh (blocks {x = x} {y = y} under) =
    better-blocks (quad g) x y (quad-ok g vg) vh.some vh.fits under

closed-better : {n : ℕ} (g : Guarantee) {h : Guarantee} → IsValid g → IsValid h → Closed n g h → (h ≡ Null → ⊥)
    → IsBetter (quad g) (quad h)
closed-better g vg vh same some = better-refl _
closed-better g vg vh (null le) some = absurd (some refl)
closed-better g vg vh (shape s) some = shape-better vg vh s
closed-better g vg vh (rates le e) some = gives-better g vg vh (rates-gives e)
closed-better g vg vh (bound least le gives) some = gives-better g vg vh gives

-- a pace is the rate and the error over the rate
record IsPace (k : Quad) (p : Pace) : Type 0 where
  num : p.num ≡ k.a
  den : p.den ≡ k.b
  delay : p.late * (k.q * k.a) ≡ k.p * k.b * p.per

paced : (g : Guarantee) → (g ≡ Null → ⊥) → IsPace (quad g) (pace_of g)
paced All some = record { num = refl; den = refl; delay = omega arith }
paced Null some = absurd (some refl)
paced (Resb hard x y) some = record { num = refl; den = refl; delay = omega arith }
paced (Resc hard x y) some = record { num = refl; den = refl; delay = omega arith }
paced (Psbe s d) some = record { num = refl; den = refl; delay = omega arith }

no-better : (g h : Guarantee) → IsQuad (quad g) → IsQuad (quad h) → IsPace (quad g) (pace_of g)
    → IsPace (quad h) (pace_of h) → IsBetter (quad g) (quad h) → IsNoBetter h g
no-better g h kg kh pg ph better =
    let k = quad g in
    let j = quad h in
    let p = pace_of g in
    let q = pace_of h in
    let first : q.num * p.den ≡ j.a * k.b = (let a = ph.num in let b = pg.den in cc) in
    let second : p.num * q.den ≡ k.a * j.b = (let a = pg.num in let b = ph.den in cc) in
    let from : p.late * (j.q * j.a) ≤ j.p * j.b * p.per =
    fraction-trans p.late p.per (k.p * k.b) (k.q * k.a) (j.p * j.b) (j.q * j.a) (mul-pos kg.under kg.some)
    (omega (arith, pg.delay)) (omega (arith, better.delay)) in
    record {
      rate = omega (arith, first, second, better.rate);
      delay = fraction-trans p.late p.per (j.p * j.b) (j.q * j.a) q.late q.per (mul-pos kh.under kh.some) from
          (omega (arith, ph.delay));
    }

-- from nothing nothing else comes
start-some : (g : Guarantee) (n : ℕ) (h : Guarantee) → Closed n g h → (h ≡ Null → ⊥) → g ≡ Null → ⊥
start-some g n h c some e = some (closed-null (subst (λ v. Closed n v h) e c))

pub chain-no-better : (g : Guarantee) (steps : List Step) → IsValid g → FollowsBy g steps
    → (end_of g steps ≡ Null → ⊥) → IsNoBetter (end_of g steps) g
chain-no-better g steps vg follow some =
    let h = end_of g steps in
    let vh : IsValid h = follow-end g steps follow vg in
    let c = closed g steps vg follow in
    let begun = start-some g _ h c some in
    no-better g h (quad-ok g vg) (quad-ok h vh) (paced g begun) (paced h some) (closed-better g vg vh c some)

-- ---- words

asked-valid : (rest : List RuleName) (wanted : Guarantee) → IsValid wanted → IsValid (asked_before rest wanted)
asked-valid [] wanted v = v
asked-valid (rule ∷ rest) All v = v
asked-valid (rule ∷ rest) Null v = v
asked-valid (rule ∷ rest) (Resb true x y) v = v
asked-valid (rule ∷ rest) (Resb false x y) v = v
asked-valid (rule ∷ rest) (Resc hard x y) v = v
asked-valid (rule ∷ rest) (Psbe s d) v = v

walks-reaches : (word : List RuleName) (g wanted : Guarantee) → IsValid g → IsValid wanted
    → Walks word g wanted → Reaches word g wanted
walks-reaches [] g wanted vg vw walks = walks
walks-reaches (rule ∷ rest) g wanted vg vw walks =
    let c = answer-sound rule g (asked_before rest wanted) walks.0 vg (asked-valid rest wanted vw) walks.1 in
    (walks.0, c, walks-reaches rest walks.0 wanted c.to vw walks.2)

pub chain-reached : (g : Guarantee) (steps : List Step) → IsValid g → FollowsBy g steps
    → (word : List RuleName) × IsWord word × (length word ≤ length steps) × Reaches word g (end_of g steps)
chain-reached g steps vg follow =
    let h = end_of g steps in
    let vh : IsValid h = follow-end g steps follow vg in
    let found = found-chain g steps vg vh follow in
    (found.word, found.known, found.fits, walks-reaches found.word g h vg vh found.walks)

-- so nothing comes at a higher rate, and no word finds it
pub chain-no-faster : (g : Guarantee) (steps : List Step) → IsValid g → FollowsBy g steps → IsFaster (end_of g steps) g
    → ⊥
chain-no-faster g steps vg follow faster =
    let some : end_of g steps ≡ Null → ⊥ = λ e.
    let none = subst (λ (v : Guarantee). IsFaster v g) e faster in
    omega (arith, none) in
    let better = chain-no-better g steps vg follow some in
    omega (arith, faster, better.rate)

pub faster-lost : (n : ℕ) (g h : Guarantee) → IsValid g → IsValid h → IsFaster h g → IsFound n g h → ⊥
faster-lost n g h vg vh faster found =
    let there = reach-steps found.word g h (walks-reaches found.word g h vg vh found.walks) in
    chain-no-faster g there.0 vg there.2 (subst (λ (v : Guarantee). IsFaster v g) (sym there.3) faster)
