-- Arithmetic of tags.
use Rattle.std.proofs.Common.{◌≡◌, ℕ, ◌+◌, ◌*◌, ◌-◌, ◌<◌, ◌≤◌, ◌∙◌, ap, arith}
use Rattle.std.specs.Prelude.{max}
use Rattle.std.proofs.Math.Nat.{mul-le-mul_left, mul-add, le_of_mul-le-mul_right}
use Rattle.hls_book.proofs.Tags.{Tag, ahead}

-- what a seat may still have
pub ahead-most : (Q v : ℕ) (c : Tag) → ahead Q v c ≤ c.w * (Q * c.step)
unfolding ahead
ahead-most Q v c = mul-le-mul_left c.w (let f : Q * c.step - (c.f - v) ≤ Q * c.step = omega arith in f)

pub ahead-fresh : (Q v : ℕ) (c : Tag) → c.f ≡ v + Q * c.step → ahead Q v c ≡ 0
unfolding ahead
ahead-fresh Q v c e =
    let z : Q * c.step - (c.f - v) ≡ 0 = omega arith in
    rw z (omega arith)

pub ahead-free : (Q v : ℕ) (c : Tag) → c.w ≡ 0 → ahead Q v c ≡ 0
unfolding ahead
ahead-free Q v c e = rw e (omega arith)

-- where the slot is not served
pub ahead-grows : (Q v g : ℕ) (c : Tag) → ahead Q (v + g) c ≤ ahead Q v c + c.w * g
unfolding ahead
ahead-grows Q v g c =
    let le : Q * c.step - (c.f - (v + g)) ≤ Q * c.step - (c.f - v) + g = omega arith in
    let m : c.w * (Q * c.step - (c.f - (v + g))) ≤ c.w * (Q * c.step - (c.f - v) + g) =
    mul-le-mul_left c.w le in
    omega (arith, m, mul-add c.w (Q * c.step - (c.f - v)) g)

-- where it is served: v' is at most the start tag, and the tag after it is near
pub ahead-served : (Q v g w step f f' : ℕ) → max v f ≡ f' → f' + step ≤ v + g + Q * step → v + g ≤ f'
    → f ≤ v + Q * step → ahead Q (v + g) (record { w = w; step = step; f = f' + step }) + w * step ≤ ahead Q v
    (record { w = w; step = step; f = f }) + w * g
unfolding ahead
ahead-served Q v g w step f f' is near below old =
    let le : Q * step - (f' + step - (v + g)) + step ≤ Q * step - (f - v) + g = omega arith in
    let m : w * (Q * step - (f' + step - (v + g)) + step) ≤ w * (Q * step - (f - v) + g) =
    mul-le-mul_left w le in
    omega (arith, m, mul-add w (Q * step - (f' + step - (v + g))) step, mul-add w (Q * step - (f - v)) g)

-- the start tag of a seat that asks stays where v grows to no more than it
pub start-stays : (v v' f : ℕ) → v ≤ v' → v' ≤ max v f → max v' f ≡ max v f
start-stays v v' f le most = omega arith

-- the growth of v while one seat asks throughout
pub growth : (Q V v v' w step n s : ℕ) → w * step ≡ V → v' ≤ s + n * step → s ≤ v + Q * step
    → w * v' ≤ w * v + (n + Q) * V
growth Q V v v' w step n s e most near =
    let le : v' ≤ v + (n + Q) * step = omega arith in
    let m : w * v' ≤ w * (v + (n + Q) * step) = mul-le-mul_left w le in
    let x : w * ((n + Q) * step) ≡ (n + Q) * V = rw (← e) (omega arith) in
    omega (arith, m, x, mul-add w v ((n + Q) * step))

-- together: r is the room of the others, (M - 1) * Q, and g the growth of v
together_by : (Q T V r g w n G : ℕ) → 0 < V → w ≤ T → w * g ≤ (n + Q) * V
    → V * G + w * g ≤ n * V + r * V + T * g → w * G ≤ T * n + (T - w) * Q + w * r
together_by Q T V r g w n G pos le grow sum =
    let split : T ≡ w + (T - w) = omega arith in
    let b : V * G ≤ n * V + r * V + (T - w) * g = (
    let z : T * g ≡ w * g + (T - w) * g = ap (λ x. x * g) split ∙ omega arith in
    omega (arith, z, sum)) in
    let c : w * ((T - w) * g) ≤ (T - w) * ((n + Q) * V) = (
    let x : (T - w) * (w * g) ≤ (T - w) * ((n + Q) * V) = mul-le-mul_left (T - w) grow in
    omega (arith, x)) in
    let d : w * (V * G) ≤ w * (n * V + r * V + (T - w) * g) = mul-le-mul_left w b in
    let t : T * (n * V) ≡ w * (n * V) + (T - w) * (n * V) = ap (λ x. x * (n * V)) split ∙ omega arith in
    let all : (w * G) * V ≤ (T * n + (T - w) * Q + w * r) * V = omega (arith, c, d, t) in
    le_of_mul-le-mul_right {k = V} all pos

pub together : (Q T V r v v' w n G : ℕ) → 0 < V → w ≤ T → v ≤ v' → w * v' ≤ w * v + (n + Q) * V
    → V * G + w * v' + T * v ≤ n * V + r * V + T * v' + w * v → w * G ≤ T * n + (T - w) * Q + w * r
together Q T V r v v' w n G pos le up grow sum =
    let e : v' ≡ v + (v' - v) = omega arith in
    let x : w * v' ≡ w * v + w * (v' - v) = ap (λ z. w * z) e ∙ mul-add w v (v' - v) in
    let y : T * v' ≡ T * v + T * (v' - v) = ap (λ z. T * z) e ∙ mul-add T v (v' - v) in
    together_by Q T V r (v' - v) w n G pos le (omega (arith, x, grow)) (omega (arith, x, y, sum))
