-- The promise to a seat, and the difference of two.
use Rattle.std.proofs.Common.{Bool, Option, ◌≡◌, ℕ, ◌+◌, ◌*◌, ◌-◌, ◌<◌, ◌≤◌, suc, arith, ap, Bool, Option}
use Rattle.std.specs.Prelude.{max}
use Rattle.std.proofs.Math.Nat.{mul-le-mul_left, le_of_mul-le-mul_right}
use Rattle.hls_book.proofs.Tags.{Tag, Clock}
use Rattle.hls_book.proofs.Windows.{given_in, served_in, Passes, AsksOn}
use Rattle.hls_book.proofs.Spans.{after_v, after_tags, span-own, share, any-tags}

-- from a rate of a/k with the error c/k to the rate (w/T)(a/k) with the error
-- (w/T)(c/k + (M-1)Q) + Q(T-w)/T, times k*T
pub psbe : (Q T M w a k c p N G : ℕ) → w * G ≤ T * N + (T - w) * Q + w * ((M - 1) * Q) → a * p ≤ k * G + c
    → w * a * p ≤ k * T * N + (w * (c + k * ((M - 1) * Q)) + k * ((T - w) * Q))
psbe Q T M w a k c p N G share given =
    let x : w * (a * p) ≤ w * (k * G + c) = mul-le-mul_left w given in
    let y : k * (w * G) ≤ k * (T * N + (T - w) * Q + w * ((M - 1) * Q)) = mul-le-mul_left k share in
    omega (arith, x, y)

-- the promise over a run of ticks in which the seat i asks
pub promise : (Q V T M n i from len a k c : ℕ) (clock : ℕ → Clock) (tags : ℕ → ℕ → Tag) (asks : ℕ → ℕ → Bool)
    (to : ℕ → Option ℕ) → 0 < Q → 0 < V → i < n → Passes Q V T M n from (from + suc len) clock tags asks to
    → AsksOn from (from + suc len) i clock tags asks to → a * suc len ≤ k * given_in to from (suc len) + c
    → (tags from i).w * a * suc len ≤ k * T * served_in to i from (suc len) +
    ((tags from i).w * (c + k * ((M - 1) * Q)) + k * ((T - (tags from i).w) * Q))
promise Q V T M n i from len a k c clock tags asks to pos some lt pass on given =
    psbe Q T M (tags from i).w a k c (suc len) (served_in to i from (suc len)) (given_in to from (suc len))
    (share Q V T M n i from len clock tags asks to pos some lt pass on) given

-- of two seats that ask throughout
differ_steps : (Q v v' s s' t t' x y m n : ℕ) → s' ≡ s + m * x → t' ≡ t + n * y → v ≤ s → s' ≤ v' + Q * x
    → t ≤ v + Q * y → v' ≤ t' → m * x ≤ n * y + Q * x + Q * y
differ_steps Q v v' s s' t t' x y m n es et vs sv tv vt = omega arith

differ_weights : (Q V w u x y m n : ℕ) → 0 < V → w * x ≡ V → u * y ≡ V → m * x ≤ n * y + Q * x + Q * y
    → m * u ≤ n * w + Q * u + Q * w
differ_weights Q V w u x y m n pos ex ey le =
    let a : w * u * (m * x) ≤ w * u * (n * y + Q * x + Q * y) = mul-le-mul_left (w * u) le in
    let l : w * u * (m * x) ≡ m * u * V = rw (← ex) (omega arith) in
    let r1 : w * u * (n * y) ≡ n * w * V = rw (← ey) (omega arith) in
    let r2 : w * u * (Q * x) ≡ Q * u * V = rw (← ex) (omega arith) in
    let r3 : w * u * (Q * y) ≡ Q * w * V = rw (← ey) (omega arith) in
    let all : (m * u) * V ≤ (n * w + Q * u + Q * w) * V = omega (arith, a, l, r1, r2, r3) in
    le_of_mul-le-mul_right {k = V} all pos

-- the ticks served to i by its weight exceed those served to j by its weight by at most Q by the one weight
-- and Q by the other; times both weights
pub differ : (Q V T M n i j from len : ℕ) (clock : ℕ → Clock) (tags : ℕ → ℕ → Tag) (asks : ℕ → ℕ → Bool)
    (to : ℕ → Option ℕ) → 0 < Q → 0 < V → i < n → j < n
    → Passes Q V T M n from (from + suc len) clock tags asks to
    → AsksOn from (from + suc len) i clock tags asks to → AsksOn from (from + suc len) j clock tags asks to
    → served_in to i from (suc len) * (tags from j).w ≤ served_in to j from (suc len) * (tags from i).w + Q *
    (tags from j).w + Q * (tags from i).w
differ Q V T M n i j from len clock tags asks to pos some lti ltj pass oni onj =
    let owni = span-own Q V T M n i from len clock tags asks to pos lti pass oni in
    let ownj = span-own Q V T M n j from len clock tags asks to pos ltj pass onj in
    let kept = pass.kept from (omega arith) (omega arith) in
    let keptl = any-tags Q V n (clock (from + len)) (tags (from + len)) (asks (from + len)) (to (from + len))
    pos (pass.kept (from + len) (omega arith) (omega arith))
    (λ k. pass.serves (from + len) k (omega arith) (omega arith)) in
    let takeni = pass.taken from i (omega arith) (omega arith) lti
    (oni.ready from (omega arith) (omega arith)) in
    let takenj = pass.taken from j (omega arith) (omega arith) ltj
    (onj.ready from (omega arith) (omega arith)) in
    let ni : (after_tags clock tags to (from + len) i).f ≤ after_v clock tags asks to (from + len) + Q *
    (after_tags clock tags to (from + len) i).step = keptl.near i lti in
    let si : Q * (after_tags clock tags to (from + len) i).step ≡ Q * (tags from i).step =
    ap (λ z. Q * z) owni.step in
    let fj : (tags from j).f ≤ (clock from).v + Q * (tags from j).step = kept.near j ltj in
    differ_weights Q V (tags from i).w (tags from j).w (tags from i).step (tags from j).step
    (served_in to i from (suc len)) (served_in to j from (suc len)) some (kept.steps i lti takeni)
    (kept.steps j ltj takenj)
    (differ_steps Q (clock from).v (after_v clock tags asks to (from + len))
    (max (clock from).v (tags from i).f) (max (after_v clock tags asks to (from + len))
    (after_tags clock tags to (from + len) i).f) (max (clock from).v (tags from j).f)
    (max (after_v clock tags asks to (from + len)) (after_tags clock tags to (from + len) j).f)
    (tags from i).step (tags from j).step (served_in to i from (suc len)) (served_in to j from (suc len))
    owni.start ownj.start (omega arith) (omega (arith, ni, si)) (omega (arith, fj)) (omega arith))
