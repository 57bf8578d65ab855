-- The share of a seat over a run of ticks.
use Rattle.std.proofs.Common.{◌≡◌, ℕ, ◌+◌, ◌*◌, ◌-◌, ◌<◌, ◌≤◌, zero, suc, refl, arith, inl, inr, ap, ◌∙◌}
use Rattle.std.proofs.Common.{Bool, true, false, Option, Some, None}
use Rattle.std.specs.Prelude.{nat_eq, nat_lt, max, is_some}
use Rattle.std.proofs.Math.Nat.{mul-le-mul_right, mul-add}
use Rattle.std.proofs.lemmas.Bool.{cases_lt, cases_eq}
use Rattle.std.proofs.lemmas.Bool.Decides.{nat_tests}
use Rattle.hls_chron.specs.Ticks.{one_if, count}
use Rattle.hls_chron.specs.Seats.{is_slot}
use Rattle.hls_chron.proofs.CountLaws.{count-none, count-push}
use Rattle.hls_book.proofs.Tags.{Tag, Clock, v_after, clock_after, tag_after, SfqServes, weights, seats}
use Rattle.hls_book.proofs.Tags.{ahead, ahead_in, AreTags, IsChurn}
use Rattle.hls_book.proofs.Windows.{given_in, served_in, Passes, AsksOn}
use Rattle.hls_kinds.proofs.Sums.{sum-eq, sum-one, sum-mul, sum-at}
use Rattle.hls_book.proofs.Atoms.{ahead-most, ahead-free, growth, together, start-stays}
use Rattle.hls_book.proofs.Moves.{v-none, tag-none, tag-here, tag-other, tag-w, tag-step, tags_after}
use Rattle.hls_book.proofs.Moves.{grown, tick-ahead, churn-ahead, tick-tags, idle-tags}

-- one tick
pub tick-any : (Q V T n : ℕ) (c : Clock) (tags : ℕ → Tag) (asks : ℕ → Bool) (to : Option ℕ) → 0 < Q
    → weights tags n ≤ T → ((k : ℕ) → k < n → asks k ≡ true → 0 < (tags k).w) → AreTags Q V n c tags
    → ((k : ℕ) → to ≡ Some k → SfqServes n c tags asks k)
    → (c.v ≤ v_after c tags asks to) × (V * one_if (is_some to) + ahead_in Q (v_after c tags asks to)
    (tags_after c.v tags to) n + T * c.v ≤ ahead_in Q c.v tags n + T * v_after c tags asks to)
tick-any Q V T n c tags asks None pos fits taken kept serves =
    let e = v-none c tags asks in
    let same : ahead_in Q c.v (tags_after c.v tags None) n ≡ ahead_in Q c.v tags n =
    sum-eq (λ k. ahead Q c.v (tag_after c.v (tags k) None k)) (λ k. ahead Q c.v (tags k)) n
    (λ k lt. rw (tag-none c.v (tags k) k) refl) in
    rw e (omega arith, omega (arith, same))
tick-any Q V T n c tags asks (Some k) pos fits taken kept serves =
    let s = serves k refl in
    let g = grown Q V n c tags asks k pos kept s in
    let m = tick-ahead Q V n c tags asks k pos (taken k s.slot s.ready) kept s in
    let grow : weights tags n * (v_after c tags asks (Some k) - c.v) ≤ T *
    (v_after c tags asks (Some k) - c.v) = mul-le-mul_right (v_after c tags asks (Some k) - c.v) fits in
    let e : v_after c tags asks (Some k) ≡ c.v + (v_after c tags asks (Some k) - c.v) = omega (arith, g.up) in
    let x : T * v_after c tags asks (Some k) ≡ T * c.v + T * (v_after c tags asks (Some k) - c.v) =
    ap (λ z. T * z) e ∙ mul-add T c.v (v_after c tags asks (Some k) - c.v) in
    (g.up, omega (arith, m, grow, x))

abbrev pub after_v : (clock : ℕ → Clock) (tags : ℕ → ℕ → Tag) (asks : ℕ → ℕ → Bool) (to : ℕ → Option ℕ) → ℕ
    → ℕ
after_v clock tags asks to t = v_after (clock t) (tags t) (asks t) (to t)

abbrev pub after_tags : (clock : ℕ → Clock) (tags : ℕ → ℕ → Tag) (to : ℕ → Option ℕ) → ℕ → ℕ → Tag
after_tags clock tags to t k = tag_after (clock t).v (tags t k) (to t) k

-- len + 1 ticks, up to the marks of the next
pub span-ahead : (Q V T M n from len : ℕ) (clock : ℕ → Clock) (tags : ℕ → ℕ → Tag) (asks : ℕ → ℕ → Bool)
    (to : ℕ → Option ℕ) → 0 < Q → Passes Q V T M n from (from + suc len) clock tags asks to
    → ((clock from).v ≤ after_v clock tags asks to (from + len)) ×
    (V * given_in to from (suc len) + ahead_in Q (after_v clock tags asks to (from + len))
    (after_tags clock tags to (from + len)) n + T * (clock from).v ≤ ahead_in Q (clock from).v (tags from) n +
    T * after_v clock tags asks to (from + len))
span-ahead Q V T M n from zero clock tags asks to pos pass =
    let e : from + 0 ≡ from = omega arith in
    let t = tick-any Q V T n (clock from) (tags from) (asks from) (to from) pos
    (pass.fits from (omega arith) (omega arith)).weight (λ k. pass.taken from k (omega arith)
    (omega arith)) (pass.kept from (omega arith) (omega arith))
    (λ k. pass.serves from k (omega arith) (omega arith)) in
    let g : given_in to from 1 ≡ one_if (is_some (to from)) =
    count-push (λ z. is_some (to z)) from 0 ∙ rw (count-none (λ z. is_some (to z)) from, e) (omega arith)
    in
    rw (g, e) t
span-ahead Q V T M n from (suc len) clock tags asks to pos pass =
    let less : Passes Q V T M n from (from + suc len) clock tags asks to = record {
      kept = λ t ge lt. pass.kept t ge (omega arith);
      fits = λ t ge lt. pass.fits t ge (omega arith);
      serves = λ t k ge lt. pass.serves t k ge (omega arith);
      taken = λ t k ge lt. pass.taken t k ge (omega arith);
      v = λ t ge lt. pass.v t ge (omega arith);
      churn = λ t ge lt. pass.churn t ge (omega arith);
    } in
    let before = span-ahead Q V T M n from len clock tags asks to pos less in
    let e : suc (from + len) ≡ from + suc len = omega arith in
    let v : (clock (from + suc len)).v ≡ after_v clock tags asks to (from + len) =
    rw (← e) (pass.v (from + len) (omega arith) (omega arith)) in
    let churn : IsChurn Q n (clock (from + suc len)).v (after_tags clock tags to (from + len))
    (tags (from + suc len)) = rw (← e) (pass.churn (from + len) (omega arith) (omega arith)) in
    let fall = churn-ahead Q n (clock (from + suc len)).v (after_tags clock tags to (from + len))
    (tags (from + suc len)) churn in
    let fall2 : ahead_in Q (clock (from + suc len)).v (after_tags clock tags to (from + len)) n ≡ ahead_in Q
    (after_v clock tags asks to (from + len)) (after_tags clock tags to (from + len)) n =
    ap (λ z. ahead_in Q z (after_tags clock tags to (from + len)) n) v in
    let t = tick-any Q V T n (clock (from + suc len)) (tags (from + suc len)) (asks (from + suc len))
    (to (from + suc len)) pos (pass.fits (from + suc len) (omega arith) (omega arith)).weight
    (λ k. pass.taken (from + suc len) k (omega arith) (omega arith))
    (pass.kept (from + suc len) (omega arith) (omega arith))
    (λ k. pass.serves (from + suc len) k (omega arith) (omega arith)) in
    let g = count-push (λ z. is_some (to z)) from (suc len) in
    let tv : T * (clock (from + suc len)).v ≡ T * after_v clock tags asks to (from + len) =
    ap (λ z. T * z) v in
    let vg : V * given_in to from (suc (suc len)) ≡ V * given_in to from (suc len) + V * one_if
    (is_some (to (from + suc len))) =
    ap (λ z. V * z) g ∙ mul-add V (given_in to from (suc len)) (one_if (is_some (to (from + suc len)))) in
    (omega (arith, before.0, t.0, v), omega (arith, before.1, t.1, vg, tv, fall, fall2))

-- the seat itself
pub start-tick : (Q V n i : ℕ) (c : Clock) (tags : ℕ → Tag) (asks : ℕ → Bool) (to : Option ℕ) → 0 < Q → i < n
    → asks i ≡ true → AreTags Q V n c tags → ((k : ℕ) → to ≡ Some k → SfqServes n c tags asks k)
    → (max (v_after c tags asks to) (tag_after c.v (tags i) to i).f ≡ max c.v (tags i).f + one_if
    (is_slot to i) * (tags i).step) × (v_after c tags asks to ≤ max (v_after c tags asks to)
    (tag_after c.v (tags i) to i).f)
start-tick Q V n i c tags asks None pos lt on kept serves =
    rw (v-none c tags asks, tag-none c.v (tags i) i) (omega arith, omega arith)
start-tick Q V n i c tags asks (Some k) pos lt on kept serves =
    let s = serves k refl in
    let g = grown Q V n c tags asks k pos kept s in
    elim (cases_eq k i) [
      | inl e ↦
          let is : nat_eq i i ≡ true = grind (arith, nat_tests) in
          let most : v_after c tags asks (Some i) ≤ max c.v (tags i).f = rw (← e) g.most in
          rw (e, is, tag-here c.v (tags i) i) (omega (arith, most), omega arith)
      | inr ne ↦
          let not : nat_eq k i ≡ false = grind (arith, nat_tests) in
          let m = g.others n i s lt on in
          rw (not, tag-other c.v (tags i) k i ne) (
            omega (
              arith,
              start-stays c.v (v_after c tags asks (Some
                  k)) (tags i).f g.up m,
            ),
            omega arith,
          )
    ]

pub record Own (Q i from len : ℕ) (clock : ℕ → Clock) (tags : ℕ → ℕ → Tag) (asks : ℕ → ℕ → Bool)
    (to : ℕ → Option ℕ) : Type 0 where
  pub start : max (after_v clock tags asks to (from + len)) (after_tags clock tags to (from + len) i).f ≡ max
      (clock from).v (tags from i).f + served_in to i from (suc len) * (tags from i).step
  pub w : (after_tags clock tags to (from + len) i).w ≡ (tags from i).w
  pub step : (after_tags clock tags to (from + len) i).step ≡ (tags from i).step

pub span-own : (Q V T M n i from len : ℕ) (clock : ℕ → Clock) (tags : ℕ → ℕ → Tag) (asks : ℕ → ℕ → Bool)
    (to : ℕ → Option ℕ) → 0 < Q → i < n → Passes Q V T M n from (from + suc len) clock tags asks to
    → AsksOn from (from + suc len) i clock tags asks to → Own Q i from len clock tags asks to
span-own Q V T M n i from zero clock tags asks to pos lt pass on =
    let e : from + 0 ≡ from = omega arith in
    let t = start-tick Q V n i (clock from) (tags from) (asks from) (to from) pos lt
    (on.ready from (omega arith) (omega arith)) (pass.kept from (omega arith) (omega arith))
    (λ k. pass.serves from k (omega arith) (omega arith)) in
    let g : served_in to i from 1 ≡ one_if (is_slot (to from) i) =
    count-push (λ z. is_slot (to z) i) from 0 ∙ rw (count-none (λ z. is_slot (to z) i) from, e)
    (omega arith) in
    record {
      start = rw (g, e) t.0;
      w = rw e (tag-w (clock from).v (tags from i) (to from) i);
      step = rw e (tag-step (clock from).v (tags from i) (to from) i);
    }
span-own Q V T M n i from (suc len) clock tags asks to pos lt pass on =
    let less : Passes Q V T M n from (from + suc len) clock tags asks to = record {
      kept = λ t ge lt. pass.kept t ge (omega arith);
      fits = λ t ge lt. pass.fits t ge (omega arith);
      serves = λ t k ge lt. pass.serves t k ge (omega arith);
      taken = λ t k ge lt. pass.taken t k ge (omega arith);
      v = λ t ge lt. pass.v t ge (omega arith);
      churn = λ t ge lt. pass.churn t ge (omega arith);
    } in
    let fewer : AsksOn from (from + suc len) i clock tags asks to =
    record {
      ready = λ t ge lt. on.ready t ge (omega arith);
      stays =
          λ t ge lt. on.stays t ge (omega arith);
    } in
    let before = span-own Q V T M n i from len clock tags asks to pos lt less fewer in
    let e : suc (from + len) ≡ from + suc len = omega arith in
    let v : (clock (from + suc len)).v ≡ after_v clock tags asks to (from + len) =
    rw (← e) (pass.v (from + len) (omega arith) (omega arith)) in
    let stays : tags (from + suc len) i ≡ after_tags clock tags to (from + len) i =
    rw (← e) (on.stays (from + len) (omega arith) (omega arith)) in
    let t = start-tick Q V n i (clock (from + suc len)) (tags (from + suc len)) (asks (from + suc len))
    (to (from + suc len)) pos lt (on.ready (from + suc len) (omega arith) (omega arith))
    (pass.kept (from + suc len) (omega arith) (omega arith))
    (λ k. pass.serves (from + suc len) k (omega arith) (omega arith)) in
    let g = count-push (λ z. is_slot (to z) i) from (suc len) in
    let sw : (tags (from + suc len) i).w ≡ (tags from i).w = ap (λ (c : Tag). c.w) stays ∙ before.w in
    let ss : (tags (from + suc len) i).step ≡ (tags from i).step =
    ap (λ (c : Tag). c.step) stays ∙ before.step in
    let sm : max (clock (from + suc len)).v (tags (from + suc len) i).f ≡ max (clock from).v (tags from i).f +
    served_in to i from (suc len) * (tags from i).step = rw (v, stays) before.start in
    let so : one_if (is_slot (to (from + suc len)) i) * (tags (from + suc len) i).step ≡ one_if
    (is_slot (to (from + suc len)) i) * (tags from i).step =
    ap (λ z. one_if (is_slot (to (from + suc len)) i) * z) ss in
    let sg : served_in to i from (suc (suc len)) * (tags from i).step ≡ served_in to i from (suc len) *
    (tags from i).step + one_if (is_slot (to (from + suc len)) i) * (tags from i).step =
    ap (λ z. z * (tags from i).step) g ∙ omega arith in
    record {
      start = omega (arith, t.0, sm, so, sg);
      w = tag-w (clock (from + suc len)).v (tags (from + suc len) i) (to (from + suc len)) i ∙ sw;
      step = tag-step (clock (from + suc len)).v (tags (from + suc len) i) (to (from + suc len)) i ∙ ss;
    }

-- the seats at the start: all but one owe at most the whole
start-ahead : (Q V M n i v : ℕ) (tags : ℕ → Tag) → i < n → 0 < (tags i).w → seats tags n ≤ M
    → ((k : ℕ) → k < n → 0 < (tags k).w → (tags k).w * (tags k).step ≡ V)
    → ahead_in Q v tags n + Q * V ≤ ahead Q v (tags i) + M * (Q * V)
start-ahead Q V M n i v tags lt taken count steps =
    let one : one_if (nat_lt 0 (tags i).w) ≡ 1 =
    (let is : nat_lt 0 (tags i).w ≡ true = grind (arith, nat_tests) in rw is refl) in
    let here : ahead Q v (tags i) + Q * V ≤ one_if (nat_lt 0 (tags i).w) * (Q * V) + ahead Q v (tags i) =
    rw one (omega arith) in
    let sums = sum-one (λ k. ahead Q v (tags k)) (λ k. one_if (nat_lt 0 (tags k).w) * (Q * V)) n i (Q * V)
    (ahead Q v (tags i)) lt here (λ k kn ne. elim (cases_lt 0 (tags k).w) [
      | inl some ↦
          let is : nat_lt 0 (tags k).w ≡ true = grind (arith, nat_tests) in
          let e : (tags k).w * (Q * (tags k).step) ≡ Q * V = rw (← (steps k kn some)) (omega arith) in
          let m = ahead-most Q v (tags k) in
          rw is (omega (arith, e, m))
      | inr none ↦ let z = ahead-free Q v (tags k) (omega arith) in omega (arith, z)
    ]) in
    let most : seats tags n * (Q * V) ≤ M * (Q * V) = mul-le-mul_right (Q * V) count in
    omega (arith, sums, most, sum-mul (λ k. one_if (nat_lt 0 (tags k).w)) (Q * V) n)

-- where the finish tag is near, what is ahead says the start tag
ahead-is : (Q v w step f : ℕ) → f ≤ v + Q * step
    → ahead Q v (record { w = w; step = step; f = f }) + w * max v f ≡ w * (Q * step) + w * v
unfolding ahead
ahead-is Q v w step f near =
    let e : Q * step - (f - v) + max v f ≡ Q * step + v = omega arith in
    let l = mul-add w (Q * step - (f - v)) (max v f) in
    let r = mul-add w (Q * step) v in
    let m : w * (Q * step - (f - v) + max v f) ≡ w * (Q * step + v) = ap (λ z. w * z) e in
    omega (arith, l, r, m)

-- the tags after a tick
pub any-tags : (Q V n : ℕ) (c : Clock) (tags : ℕ → Tag) (asks : ℕ → Bool) (to : Option ℕ) → 0 < Q
    → AreTags Q V n c tags → ((k : ℕ) → to ≡ Some k → SfqServes n c tags asks k)
    → AreTags Q V n (clock_after Q c tags asks to) (tags_after c.v tags to)
any-tags Q V n c tags asks None pos kept serves = idle-tags Q V n c tags asks kept
any-tags Q V n c tags asks (Some k) pos kept serves = tick-tags Q V n c tags asks k pos kept (serves k refl)

-- arithmetic of the share: p and o are what is ahead of all and of the seat, s its start tag
shift_is : (Q v w w' step step' m a : ℕ) → w ≡ w' → step ≡ step' → a + w * m ≡ w * (Q * step) + w * v
    → a + w' * m ≡ w' * (Q * step') + w' * v
shift_is Q v w w' step step' m a e f h = rw (← e, ← f) h

final : (Q V T M v v' w step s s' N G p o p' o' : ℕ) → 0 < V → w ≤ T → 0 < M → w * step ≡ V → v ≤ v'
    → V * G + p' + T * v ≤ p + T * v' → s' ≡ s + N * step → s ≤ v + Q * step → v' ≤ s'
    → p + Q * V ≤ o + M * (Q * V) → o + w * s ≡ w * (Q * step) + w * v → o' + w * s' ≡ w * (Q * step) + w * v'
    → o' ≤ p' → w * G ≤ T * N + (T - w) * Q + w * ((M - 1) * Q)
final Q V T M v v' w step s s' N G p o p' o' some less count e up all start near below first fa la at =
    let m : M * (Q * V) ≡ (M - 1) * Q * V + Q * V =
    (let k : M ≡ (M - 1) + 1 = omega arith in ap (λ z. z * (Q * V)) k ∙ omega arith) in
    let g = growth Q V v v' w step N s e (omega arith) near in
    let ws : w * s' ≡ w * s + N * V = ap (λ z. w * z) start ∙ mul-add w s (N * step) ∙ rw (← e) (omega arith)
    in
    together Q T V ((M - 1) * Q) v v' w N G some less up g (omega (arith, all, first, fa, la, at, m, ws))

-- the share of a seat that asks throughout
pub share : (Q V T M n i from len : ℕ) (clock : ℕ → Clock) (tags : ℕ → ℕ → Tag) (asks : ℕ → ℕ → Bool)
    (to : ℕ → Option ℕ) → 0 < Q → 0 < V → i < n → Passes Q V T M n from (from + suc len) clock tags asks to
    → AsksOn from (from + suc len) i clock tags asks to
    → (tags from i).w * given_in to from (suc len) ≤ T * served_in to i from (suc len) + (T - (tags from i).w)
    * Q + (tags from i).w * ((M - 1) * Q)
share Q V T M n i from len clock tags asks to pos some lt pass on =
    let all = span-ahead Q V T M n from len clock tags asks to pos pass in
    let own = span-own Q V T M n i from len clock tags asks to pos lt pass on in
    let kept = pass.kept from (omega arith) (omega arith) in
    let fits = pass.fits from (omega arith) (omega arith) in
    let taken = pass.taken from i (omega arith) (omega arith) lt (on.ready from (omega arith) (omega arith))
    in
    let last = from + len in
    let keptl = any-tags Q V n (clock (from + len)) (tags (from + len)) (asks (from + len)) (to (from + len))
    pos (pass.kept (from + len) (omega arith) (omega arith))
    (λ k. pass.serves (from + len) k (omega arith) (omega arith)) in
    let wstep : (tags from i).w * (tags from i).step ≡ V = kept.steps i lt taken in
    let less : (tags from i).w ≤ T = (let a = sum-at (λ k. (tags from k).w) n i lt in omega
    (arith, a, fits.weight)) in
    let count : 0 < M = (
    let is : nat_lt 0 (tags from i).w ≡ true = grind (arith, nat_tests) in
    let one : one_if (nat_lt 0 (tags from i).w) ≡ 1 = rw is refl in
    let a = sum-at (λ k. one_if (nat_lt 0 (tags from k).w)) n i lt in omega (arith, a, one, fits.count)) in
    let first = start-ahead Q V M n i (clock from).v (tags from) lt taken fits.count kept.steps in
    let fa = ahead-is Q (clock from).v (tags from i).w (tags from i).step (tags from i).f (kept.near i lt) in
    let la0 = ahead-is Q (after_v clock tags asks to (from + len)) (after_tags clock tags to (from + len) i).w
    (after_tags clock tags to (from + len) i).step (after_tags clock tags to (from + len) i).f
    (keptl.near i lt) in
    let lat = sum-at (λ k. ahead Q (after_v clock tags asks to (from + len))
    (after_tags clock tags to (from + len) k)) n i lt in
    let s : ℕ = max (clock from).v (tags from i).f in
    final Q V T M (clock from).v (after_v clock tags asks to (from + len)) (tags from i).w (tags from i).step
    (max (clock from).v (tags from i).f) (max (after_v clock tags asks to (from + len))
    (after_tags clock tags to (from + len) i).f) (served_in to i from (suc len))
    (given_in to from (suc len))
    (ahead_in Q (clock from).v (tags from) n) (ahead Q (clock from).v (tags from i))
    (ahead_in Q (after_v clock tags asks to (from + len)) (after_tags clock tags to (from + len)) n)
    (ahead Q (after_v clock tags asks to (from + len)) (after_tags clock tags to (from + len) i))
    some less count wstep all.0 all.1 own.start (let k = kept.near i lt in omega (arith, k)) (omega arith)
    first fa
    (shift_is Q (after_v clock tags asks to (from + len)) _ _ _ _
    (max (after_v clock tags asks to (from + len)) (after_tags clock tags to (from + len) i).f)
    (ahead Q (after_v clock tags asks to (from + len)) (after_tags clock tags to (from + len) i)) own.w
    own.step la0)
    lat
