-- What the tags keep, after a tick and between two.
use Rattle.std.proofs.Common.{◌≡◌, ◌≢◌, ℕ, ◌+◌, ◌*◌, ◌-◌, ◌<◌, ◌≤◌, refl, sym, arith, inl, inr, Bool, true}
use Rattle.std.proofs.Common.{false, Option, Some, None}
use Rattle.std.specs.Prelude.{nat_eq, max, if◌then◌else◌, ◌⊎◌}
use Rattle.std.proofs.Math.Nat.{mul-le-mul_right}
use Rattle.std.proofs.lemmas.Bool.{cases_eq, cases_Bool}
use Rattle.std.proofs.lemmas.Bool.Decides.{nat_tests}
use Rattle.hls_book.proofs.Tags.{Tag, Clock, goes_on, one_more, v_after, who_after, had_after}
use Rattle.hls_book.proofs.Tags.{clock_after, tag_after, SfqServes, weights, ahead, ahead_in, AreTags}
use Rattle.hls_book.proofs.Tags.{IsChurn}
use Rattle.hls_kinds.proofs.Sums.{sum-le, sum-one, sum-mul, sum-add}
use Rattle.hls_book.proofs.Atoms.{ahead-fresh, ahead-free, ahead-grows, ahead-served}

-- the definitions, by case
pub v-on : (c : Clock) (tags : ℕ → Tag) (asks : ℕ → Bool) (k : ℕ) → goes_on c asks ≡ true
    → v_after c tags asks (Some k) ≡ c.v
unfolding v_after
v-on c tags asks k on = rw on refl

pub v-begins : (c : Clock) (tags : ℕ → Tag) (asks : ℕ → Bool) (k : ℕ) → goes_on c asks ≡ false
    → v_after c tags asks (Some k) ≡ max c.v (tags k).f
unfolding v_after
v-begins c tags asks k off = rw off refl

pub v-none : (c : Clock) (tags : ℕ → Tag) (asks : ℕ → Bool) → v_after c tags asks None ≡ c.v
unfolding v_after
v-none c tags asks = refl

pub had-on : (Q : ℕ) (c : Clock) (asks : ℕ → Bool) (k : ℕ) → goes_on c asks ≡ true
    → had_after Q c asks (Some k) ≡ one_more Q c.had
unfolding had_after
had-on Q c asks k on = rw on refl

pub had-begins : (Q : ℕ) (c : Clock) (asks : ℕ → Bool) (k : ℕ) → goes_on c asks ≡ false
    → had_after Q c asks (Some k) ≡ one_more Q 0
unfolding had_after
had-begins Q c asks k off = rw off refl

pub had-none : (Q : ℕ) (c : Clock) (asks : ℕ → Bool) → 0 < had_after Q c asks None
    → had_after Q c asks None ≡ c.had
unfolding had_after
had-none Q c asks = elim (asks c.who) as (λ b. 0 < (if b then c.had else 0) → (if b then c.had else 0) ≡
    c.had) [
      | true ↦ λ lt. refl
      | false ↦ λ lt. absurd (omega arith)
    ]

pub who-some : (c : Clock) (k : ℕ) → who_after c (Some k) ≡ k
unfolding who_after
who-some c k = refl

pub more-is : (Q had : ℕ) → 0 < one_more Q had → had < Q → (one_more Q had ≡ had + 1) × (had + 1 < Q)
unfolding one_more
more-is Q had lt less = elim (cases_eq (had + 1) Q) [
  | inl e ↦ absurd (grind (arith, nat_tests))
  | inr ne ↦ (grind (arith, nat_tests), omega arith)
]

pub tag-here : (v : ℕ) (c : Tag) (k : ℕ)
    → tag_after v c (Some k) k ≡ record { w = c.w; step = c.step; f = max v c.f + c.step }
unfolding tag_after
tag-here v c k =
    let is : nat_eq k k ≡ true = grind (arith, nat_tests) in
    rw is refl

pub tag-other : (v : ℕ) (c : Tag) (s k : ℕ) → s ≢ k → tag_after v c (Some s) k ≡ c
unfolding tag_after
tag-other v c s k ne =
    let not : nat_eq s k ≡ false = grind (arith, nat_tests) in
    rw not refl

pub tag-none : (v : ℕ) (c : Tag) (k : ℕ) → tag_after v c None k ≡ c
unfolding tag_after
tag-none v c k = refl

pub tag-w : (v : ℕ) (c : Tag) (to : Option ℕ) (k : ℕ) → (tag_after v c to k).w ≡ c.w
unfolding tag_after
tag-w v c None k = refl
tag-w v c (Some s) k = refl

pub tag-step : (v : ℕ) (c : Tag) (to : Option ℕ) (k : ℕ) → (tag_after v c to k).step ≡ c.step
unfolding tag_after
tag-step v c None k = refl
tag-step v c (Some s) k = refl

-- the turn that goes on
pub on-had : (c : Clock) (asks : ℕ → Bool) → goes_on c asks ≡ true → 0 < c.had
on-had c asks on = grind (arith, nat_tests)

-- at a tick that serves k: v grows to no more than its start tag, and its next tag is near
pub record Growth (Q : ℕ) (c : Clock) (tags : ℕ → Tag) (asks : ℕ → Bool) (k : ℕ) : Type 0 where
  pub up : c.v ≤ v_after c tags asks (Some k)
  pub most : v_after c tags asks (Some k) ≤ max c.v (tags k).f
  pub near : max c.v (tags k).f + (tags k).step ≤ v_after c tags asks (Some k) + Q * (tags k).step
  pub others : (n j : ℕ) → SfqServes n c tags asks k → j < n → asks j ≡ true
      → v_after c tags asks (Some k) ≤ max c.v (tags j).f

pub grown : (Q V n : ℕ) (c : Clock) (tags : ℕ → Tag) (asks : ℕ → Bool) (k : ℕ) → 0 < Q → AreTags Q V n c tags
    → SfqServes n c tags asks k → Growth Q c tags asks k
grown Q V n c tags asks k pos kept serves = elim (cases_Bool (goes_on c asks)) [
  | inl on ↦
      let had = on-had c asks on in
      let same : k ≡ c.who = serves.stays on in
      let even : (tags k).f ≡ c.v + c.had * (tags k).step = rw same (kept.even had) in
      let less : (c.had + 1) * (tags k).step ≤ Q * (tags k).step =
      mul-le-mul_right (tags k).step (let l : c.had + 1 ≤ Q = omega (arith, kept.turn had) in l) in
      let e = v-on c tags asks k on in
      record {
        up = omega (arith, e);
        most = omega (arith, e);
        near = omega (arith, e, even, less);
        others =
            λ m j s lt a. omega (arith, e);
      }
  | inr off ↦
      let e = v-begins c tags asks k off in
      let less : 1 * (tags k).step ≤ Q * (tags k).step =
      mul-le-mul_right (tags k).step (let l : 1 ≤ Q = omega arith in l) in
      record {
        up = omega (arith, e);
        most = omega (arith, e);
        near = omega (arith, e, less);
        others =
            λ m j s lt a. omega (arith, e, s.least off j lt a);
      }
]

-- the tick, for the potential
abbrev pub tags_after : ℕ → (ℕ → Tag) → Option ℕ → ℕ → Tag
tags_after v tags to k = tag_after v (tags k) to k

ahead_other : (Q v v' : ℕ) (c : Tag) → v ≤ v' → ahead Q v' c ≤ ahead Q v c + c.w * (v' - v)
ahead_other Q v v' c up =
    let e : v + (v' - v) ≡ v' = omega arith in
    let m = ahead-grows Q v (v' - v) c in
    rw e at m

ahead_here : (Q v v' w step f : ℕ) → v ≤ v' → v' ≤ max v f → max v f + step ≤ v' + Q * step → f ≤ v + Q * step
    → ahead Q v' (record { w = w; step = step; f = max v f + step }) + w * step ≤ ahead Q v
    (record { w = w; step = step; f = f }) + w * (v' - v)
ahead_here Q v v' w step f up most near old =
    let e : v + (v' - v) ≡ v' = omega arith in
    let m = ahead-served Q v (v' - v) w step f (max v f) refl (omega arith) (omega arith) old in
    rw e at m

pub tick-ahead : (Q V n : ℕ) (c : Clock) (tags : ℕ → Tag) (asks : ℕ → Bool) (k : ℕ) → 0 < Q → 0 < (tags k).w
    → AreTags Q V n c tags → SfqServes n c tags asks k
    → ahead_in Q (v_after c tags asks (Some k)) (tags_after c.v tags (Some k)) n + V ≤ ahead_in Q c.v tags n +
    weights tags n * (v_after c tags asks (Some k) - c.v)
tick-ahead Q V n c tags asks k pos taken kept serves =
    let g = grown Q V n c tags asks k pos kept serves in
    let step : (tags k).w * (tags k).step ≡ V = kept.steps k serves.slot taken in
    let here0 = ahead_here Q c.v (v_after c tags asks (Some k)) (tags k).w (tags k).step (tags k).f g.up
    g.most g.near (kept.near k serves.slot) in
    let here1 : ahead Q (v_after c tags asks (Some k)) (tag_after c.v (tags k) (Some k) k) + V ≤ ahead Q c.v
    (tags k) + (tags k).w * (v_after c tags asks (Some k) - c.v) =
    rw (tag-here c.v (tags k) k, ← step) here0 in
    let here : ahead Q (v_after c tags asks (Some k)) (tag_after c.v (tags k) (Some k) k) + V ≤
    (ahead Q c.v (tags k) + (tags k).w * (v_after c tags asks (Some k) - c.v)) + 0 =
    omega (arith, here1) in
    let sums = sum-one (λ j. ahead Q (v_after c tags asks (Some k)) (tag_after c.v (tags j) (Some k) j))
    (λ j. ahead Q c.v (tags j) + (tags j).w * (v_after c tags asks (Some k) - c.v)) n k V 0 serves.slot
    here
    (λ j lt ne. rw (tag-other c.v (tags j) k j (λ e. ne (sym e)))
    (ahead_other Q c.v (v_after c tags asks (Some k)) (tags j) g.up)) in
    omega (
      arith,
      sums,
      sum-add (λ j. ahead Q c.v (tags j)) (λ j. (tags j).w *
          (v_after c tags asks (Some k) - c.v)) n,
      sum-mul (λ j. (tags j).w)
          (v_after c tags asks (Some k) - c.v) n,
    )

-- what the tags keep, after a tick
pub tick-tags : (Q V n : ℕ) (c : Clock) (tags : ℕ → Tag) (asks : ℕ → Bool) (k : ℕ) → 0 < Q
    → AreTags Q V n c tags → SfqServes n c tags asks k
    → AreTags Q V n (clock_after Q c tags asks (Some k)) (tags_after c.v tags (Some k))
tick-tags Q V n c tags asks k pos kept serves =
    let g = grown Q V n c tags asks k pos kept serves in
    let here : tag_after c.v (tags k) (Some k) k ≡ record {
      w = (tags k).w;
      step = (tags k).step;
      f = max c.v
          (tags k).f + (tags k).step;
    } = tag-here c.v (tags k) k in
    let who : who_after c (Some k) ≡ k = who-some c k in
    let turns : 0 < had_after Q c asks (Some k)
    → (had_after Q c asks (Some k) < Q) × (max c.v (tags k).f + (tags k).step ≡ v_after c tags asks
    (Some k) + had_after Q c asks (Some k) * (tags k).step) = λ lt. elim (cases_Bool (goes_on c asks)) [
      | inl on ↦
          let had = on-had c asks on in
          let same : k ≡ c.who = serves.stays on in
          let even : (tags k).f ≡ c.v + c.had * (tags k).step = rw same (kept.even had) in
          let e = v-on c tags asks k on in
          let h = had-on Q c asks k on in
          let m = more-is Q c.had (rw (← h) lt) (kept.turn had) in
          let times : (c.had + 1) * (tags k).step ≡ c.had * (tags k).step + (tags k).step = omega arith in
          (omega (arith, h, m.0, m.1), rw (h, m.0, e) (omega (arith, even, times)))
      | inr off ↦
          let e = v-begins c tags asks k off in
          let h = had-begins Q c asks k off in
          let m = more-is Q 0 (rw (← h) lt) pos in
          (omega (arith, h, m.0, m.1), rw (h, m.0, e) (omega arith))
    ] in
    record {
      steps = λ j lt. rw (tag-w c.v (tags j) (Some k) j, tag-step c.v (tags j) (Some k) j) (kept.steps j lt);
      near = λ j lt. elim (cases_eq j k) [
        | inl e ↦ rw (e, here) g.near
        | inr ne ↦ rw (tag-other c.v (tags j) k j (λ e. ne (sym e)))
            (let o = kept.near j lt in omega (arith, o, g.up))
      ];
      slot = λ lt. rw who serves.slot;
      turn = λ lt. (turns lt).0;
      even = λ lt. rw (who, here) (turns lt).1;
    }

pub idle-tags : (Q V n : ℕ) (c : Clock) (tags : ℕ → Tag) (asks : ℕ → Bool) → AreTags Q V n c tags
    → AreTags Q V n (clock_after Q c tags asks None) (tags_after c.v tags None)
unfolding v_after who_after tag_after
idle-tags Q V n c tags asks kept = record {
  steps = kept.steps;
  near = kept.near;
  slot = λ lt. kept.slot (rw (← had-none Q c asks lt) lt);
  turn = λ lt. rw (had-none Q c asks lt) (kept.turn (rw (← had-none Q c asks lt) lt));
  even = λ lt. rw (had-none Q c asks lt) (kept.even (rw (← had-none Q c asks lt) lt));
}

-- seatings, leavings and settlings
pub churn-ahead : (Q n v : ℕ) (old new : ℕ → Tag) → IsChurn Q n v old new
    → ahead_in Q v new n ≤ ahead_in Q v old n
churn-ahead Q n v old new churn = sum-le (λ k. ahead Q v (new k)) (λ k. ahead Q v (old k)) n
    (λ k lt. elim (churn.each k lt) [
      | inl same ↦ rw same (omega arith)
      | inr (inl gone) ↦ let z = ahead-free Q v (new k) gone.0 in omega (arith, z)
      | inr (inr fresh) ↦ let z = ahead-fresh Q v (new k) fresh in omega (arith, z)
    ])

churn_near : (Q V n : ℕ) (c : Clock) (old new : ℕ → Tag) → AreTags Q V n c old → IsChurn Q n c.v old new
    → (k : ℕ) → k < n → (new k).f ≤ c.v + Q * (new k).step
churn_near Q V n c old new kept churn k lt = elim (churn.each k lt) [
  | inl same ↦ rw same (kept.near k lt)
  | inr (inl gone) ↦ omega (arith, gone.1)
  | inr (inr fresh) ↦ omega (arith, fresh)
]

pub churn-tags : (Q V n : ℕ) (c : Clock) (had : ℕ) (old new : ℕ → Tag) → AreTags Q V n c old
    → IsChurn Q n c.v old new → ((k : ℕ) → k < n → 0 < (new k).w → (new k).w * (new k).step ≡ V)
    → (had ≡ 0) ⊎ ((had ≡ c.had) × (new c.who ≡ old c.who))
    → AreTags Q V n (record { v = c.v; who = c.who; had = had }) new
churn-tags Q V n c had old new kept churn steps (inl zero_had) = record {
  steps = steps;
  near = λ k lt. churn_near Q V n c old new kept churn k lt;
  slot = λ lt. absurd (omega arith);
  turn = λ lt. absurd (omega arith);
  even = λ lt. absurd (omega arith);
}
churn-tags Q V n c had old new kept churn steps (inr (same, tag)) = record {
  steps = steps;
  near = λ k lt. churn_near Q V n c old new kept churn k lt;
  slot = λ lt. kept.slot (omega arith);
  turn = λ lt. let t = kept.turn (omega arith) in omega arith;
  even = λ lt. let t = kept.even (omega arith) in rw (tag, same) t;
}
