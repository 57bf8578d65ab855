-- A book of fair queueing goes by the rules of the tags.
use Rattle.std.proofs.Common.{◌≡◌, ◌≢◌, ℕ, ◌+◌, ◌*◌, ◌-◌, ◌<◌, ◌≤◌, suc, zero, refl, sym, arith, ap, ◌∙◌, inl}
use Rattle.std.proofs.Common.{inr, subst}
use Rattle.std.proofs.Common.{true, false}
use Rattle.std.specs.Prelude.{Option, Some, None, max, nat_lt, if◌then◌else◌, ◌⊎◌}
use Rattle.std.specs.Int.{bit_at}
use Rattle.std.proofs.lemmas.Bool.{cases_lt, cases_Bool, eq-eqb}
use Rattle.std.proofs.lemmas.Bool.Decides.{nat_tests}
use Rattle.hls_chron.specs.declared.plain.Sharing.{Sharing}
use Rattle.hls_chron.specs.Kinds.{by_shares}
use Rattle.hls_chron.specs.Ledger.{Ledger, now_of, row_at, before}
use Rattle.hls_chron.specs.Seats.{asked, served, is_slot}
use Rattle.hls_chron.specs.Ticks.{one_if}
use Rattle.hls_kinds.specs.declared.tags.Share.{Share}
use Rattle.hls_kinds.specs.Slots.{IsFirst}
use Rattle.hls_kinds.specs.Asks.{slot_asks}
use Rattle.hls_kinds.specs.Turns.{turn_goes_on}
use Rattle.hls_kinds.proofs.ServingLaws.{serves-slot}
use Rattle.hls_kinds.specs.Tags.{unit_tag, tag_step, start_tag}
use Rattle.hls_book.proofs.PromiseLaws.{asked-slot, served-to, to-served}
use Rattle.hls_book.specs.ShareBook.{KeepsShareBook}
use Rattle.hls_book.proofs.Tags.{Tag, Clock, goes_on, v_after, clock_after, tag_after, SfqServes, HaveRoom}
use Rattle.hls_book.proofs.Tags.{AreTags, IsChurn}
use Rattle.hls_book.proofs.ShareAgree.{start_tag-same, same-before, now-before}
use Rattle.hls_book.proofs.Nexts.{v_of, share_at, f_of, v-none, v-on, v-begun, f-fresh, s-fresh}
use Rattle.hls_book.proofs.Nexts.{f-served, f-unserved, s-off, s-on, Gone, Fresh, Stays, goes-on}
use Rattle.hls_book.proofs.Nexts.{begins}
use Rattle.hls_book.proofs.Rooms.{steps-at, slot-at, few-at, fits-at, taken-at}
use Rattle.hls_book.proofs.ShareTurns.{who_of, part_of, goes-is, turn-next, no-turn}
pub use Rattle.hls_book.proofs.ShareTurns.{clock_of, asks_of, to_of}
use Rattle.hls_book.proofs.Moves.{v-none as after-none, v-on as after-on, v-begins, tag-here, tag-other, tag-none}
use Rattle.hls_book.proofs.Moves.{tags_after, churn-tags}
use Rattle.hls_book.proofs.Spans.{start-tick, any-tags}

abbrev pub tag_for : Share → (f : ℕ) → Tag
tag_for share f = record {
  w = share.weight;
  step = tag_step share.weight;
  f = if nat_lt 0 share.weight then f else 0;
}

-- of a book, by tick: the tags
abbrev pub tags_of : (quantum : ℕ) → Ledger → (t slot : ℕ) → Tag
tags_of quantum b t slot = tag_for (share_at b t slot) (f_of quantum b t slot)

pub tag-taken : (share : Share) (f : ℕ) → 0 < share.weight → (tag_for share f).f ≡ f
tag-taken share f some =
    let is : nat_lt 0 share.weight ≡ true = grind (arith, nat_tests, some) in
    rw is refl

pub tag-empty : (share : Share) (f : ℕ) → share.weight ≡ 0 → (tag_for share f).f ≡ 0
tag-empty share f none =
    let is : nat_lt 0 share.weight ≡ false = grind (arith, nat_tests, none) in
    rw is refl

tag_eq : (w step f w' step' f' : ℕ) → w ≡ w' → step ≡ step' → f ≡ f'
    → record { w = w; step = step; f = f } ≡ (let c : Tag = record { w = w'; step = step'; f = f' } in c)
tag_eq w step f w' step' f' a b c = cc

-- what holds at a tick
pub record At (Q : ℕ) (b : Ledger) (t : ℕ) : Type 0 where
  pub kept : AreTags Q unit_tag 32 (clock_of Q b t) (tags_of Q b t)
  pub start : (slot : ℕ) → 0 < (share_at b t slot).weight
      → start_tag Q b t slot ≡ max (v_of Q b t) (f_of Q b t slot)

tag_not : (v : ℕ) (c : Tag) (to : Option ℕ) (k : ℕ) → to ≢ Some k → tag_after v c to k ≡ c
tag_not v c None k ne = tag-none v c k
tag_not v c (Some j) k ne = tag-other v c j k (λ e. ne (ap (λ n. Some n) e))

not_served : (b : Ledger) (t k : ℕ) → served b k t ≡ false → to_of b t ≢ Some k
not_served b t k miss to = let is = to-served b k k t to refl in let clash : true ≡ false =
    sym is ∙ miss in cc

module _ (sharing : Sharing) (b : Ledger) (kept : KeepsShareBook sharing b) where
  abbrev Q : ℕ
  Q = sharing.quantum

  pub room-of : (t : ℕ) → t ≤ now_of b → HaveRoom sharing.total sharing.most 32 (tags_of Q b t)
  room-of t le = record { weight = fits-at sharing b kept t le; count = few-at sharing b kept t le }

  start_is : (t slot : ℕ) → At Q b t → 0 < (share_at b t slot).weight
      → start_tag Q b t slot ≡ max (v_of Q b t) (tags_of Q b t slot).f
  start_is t slot here some =
      here.start slot some ∙ ap (max (v_of Q b t)) (sym (tag-taken (share_at b t slot) (f_of Q b t slot) some))

  -- the row serves the slot of least start tag where no turn goes on
  first-at : (t k : ℕ) → b.start ≤ t → t < now_of b → to_of b t ≡ Some k
      → turn_goes_on Q (before t b) (row_at b t).mask ≡ false
      → IsFirst 32 (slot_asks (row_at b t).mask) (start_tag Q b t) k
  first-at t k lo lt is off =
      let serves : IsFirst 32 (slot_asks (row_at b t).mask) (start_tag Q (before t b) (now_of (before t b))) k =
      (kept.served t k lt is).passes off in
      let now = now-before t b lo (omega (arith, lt)) in
      let tag : (slot : ℕ) → start_tag Q (before t b) (now_of (before t b)) slot ≡ start_tag Q b t slot =
      λ slot. ap (λ n. start_tag Q (before t b) n slot) now
      ∙ start_tag-same Q (before t b) b t t slot (same-before t b) (omega arith) in
      record {
        within = serves.within;
        chosen = serves.chosen;
        least = λ other below asks.
            let le = serves.least other below asks in omega (arith, le, tag k, tag other);
        first = λ other below asks e. serves.first other below asks (tag k ∙ e ∙ sym (tag other));
      }

  asks_is : (t slot : ℕ) → slot_asks (row_at b t).mask slot ≡ asked b slot t
  unfolding asked
  asks_is t slot = refl

  ready-at : (t k : ℕ) → t < now_of b → to_of b t ≡ Some k → asked b k t ≡ true
  ready-at t k lt is =
      sym (asks_is t k)
      ∙ eq-eqb (bit_at (row_at b t).mask k) 1
      (serves-slot (by_shares sharing) (before t b) (row_at b t).mask k (kept.served t k lt is))

  pub below-at : (t k : ℕ) → t < now_of b → asked b k t ≡ true → k < 32
  below-at t k lt ready =
      let few = slot-at sharing b kept t k (omega (arith, lt)) (taken-at sharing b kept t k lt ready) in
      omega (arith, few, kept.range.1.1)

  stays-at : (t k : ℕ) → t < now_of b → to_of b t ≡ Some k
      → goes_on (clock_of Q b t) (asks_of b t) ≡ true → k ≡ who_of b t
  stays-at t k lt is on = (kept.served t k lt is).goes_on (sym (goes-is Q b t) ∙ on)

  pub serves-at : (t k : ℕ) → b.start ≤ t → t < now_of b → At Q b t → to_of b t ≡ Some k
      → SfqServes 32 (clock_of Q b t) (tags_of Q b t) (asks_of b t) k
  serves-at t k lo lt here is =
      let ready = ready-at t k lt is in
      let mine = start_is t k here (taken-at sharing b kept t k lt ready) in
      record {
        slot = below-at t k lt ready;
        ready = ready;
        stays = stays-at t k lt is;
        least = λ off j below asks.
            let le = (first-at t k lo lt is (sym (goes-is Q b t) ∙ off)).least j below (asks_is t j ∙ asks) in
            let its = start_is t j here (taken-at sharing b kept t j lt asks) in
            omega (arith, le, mine, its);
      }

  -- the virtual time after it
  v_next_by : (t : ℕ) (to : Option ℕ) → b.start ≤ t → t < now_of b → At Q b t → to_of b t ≡ to
      → v_of Q b (suc t) ≡ v_after (clock_of Q b t) (tags_of Q b t) (asks_of b t) to
  v_next_by t None lo lt here is =
      v-none Q b t lo is ∙ sym (after-none (clock_of Q b t) (tags_of Q b t) (asks_of b t))
  v_next_by t (Some k) lo lt here is =
      elim (cases_Bool (goes_on (clock_of Q b t) (asks_of b t))) [
        | inl on ↦
            v-on Q b t lo (sym (goes-is Q b t) ∙ on)
            ∙ sym (after-on (clock_of Q b t) (tags_of Q b t) (asks_of b t) k on)
        | inr off ↦
            v-begun Q b t k lo is (sym (goes-is Q b t) ∙ off)
            ∙ start_is t k here (taken-at sharing b kept t k lt (ready-at t k lt is))
            ∙ sym (v-begins (clock_of Q b t) (tags_of Q b t) (asks_of b t) k off)
      ]

  pub v-next : (t : ℕ) → b.start ≤ t → t < now_of b → At Q b t
      → v_of Q b (suc t) ≡ v_after (clock_of Q b t) (tags_of Q b t) (asks_of b t) (to_of b t)
  v-next t lo lt here = v_next_by t (to_of b t) lo lt here refl

  -- the tag of a seat that stays
  pub tag-stays : (t k : ℕ) → b.start ≤ t → t < now_of b → At Q b t → share_at b (suc t) k ≡ share_at b t k
      → tags_of Q b (suc t) k ≡ tag_after (v_of Q b t) (tags_of Q b t k) (to_of b t) k
  tag-stays t k lo lt here same =
      let sw : (share_at b (suc t) k).weight ≡ (share_at b t k).weight = ap (λ (s : Share). s.weight) same in
      elim (cases_Bool (served b k t)) [
        | inl is ↦
            let to = served-to b k t is in
            let serves = serves-at t k lo lt here to in
            let some = taken-at sharing b kept t k lt serves.ready in
            let fs = f-served Q b t k same is in
            let mine = start_is t k here some in
            let g = tag-taken (share_at b (suc t) k) (f_of Q b (suc t) k) (omega (arith, sw, some)) in
            tag_eq _ _ _ _ _ _ sw (ap tag_step sw) (g ∙ fs ∙ ap (λ x. x + tag_step (share_at b t k).weight)
            mine)
            ∙ sym (ap (λ o. tag_after (v_of Q b t) (tags_of Q b t k) o k) to ∙ tag-here (v_of Q b t) (tags_of Q b t k)
            k)
        | inr miss ↦
            let fs = f-unserved Q b t k same miss in
            let g : (tags_of Q b (suc t) k).f ≡ (tags_of Q b t k).f =
            ap (λ (s : Share). (tag_for s (f_of Q b (suc t) k)).f) same ∙ ap
            (λ x. (tag_for (share_at b t k) x).f) fs in
            tag_eq _ _ _ _ _ _ sw (ap tag_step sw) g
            ∙ sym (tag_not (v_of Q b t) (tags_of Q b t k) (to_of b t) k (not_served b t k miss))
      ]

  -- between the two ticks
  churn_each : (t k : ℕ) → b.start ≤ t → t < now_of b → At Q b t
      → (tags_of Q b (suc t) k ≡ tag_after (v_of Q b t) (tags_of Q b t k) (to_of b t) k)
      ⊎ ((((tags_of Q b (suc t) k).w ≡ 0) × ((tags_of Q b (suc t) k).f ≡ 0))
      ⊎ ((tags_of Q b (suc t) k).f ≡ v_of Q b (suc t) + Q * (tags_of Q b (suc t) k).step))
  churn_each t k lo lt here = elim (goes-on b t k kept.sittings lt) [
    | Stays same ↦ inl (tag-stays t k lo lt here same)
    | Gone none ↦ inr (inl (none, tag-empty (share_at b (suc t) k) (f_of Q b (suc t) k) none))
    | Fresh new ↦ elim (cases_lt 0 (share_at b (suc t) k).weight) [
      | inl some ↦
          let fs = f-fresh Q b (suc t) k new in
          let g = tag-taken (share_at b (suc t) k) (f_of Q b (suc t) k) some in
          inr (inr (omega (arith, fs, g)))
      | inr none ↦
          let zero_weight : (share_at b (suc t) k).weight ≡ 0 = omega (arith, none) in
          inr (inl (zero_weight, tag-empty (share_at b (suc t) k) (f_of Q b (suc t) k) zero_weight))
    ]
  ]

  pub churn-at : (t : ℕ) → b.start ≤ t → t < now_of b → At Q b t
      → IsChurn Q 32 (v_of Q b (suc t)) (tags_after (v_of Q b t) (tags_of Q b t) (to_of b t)) (tags_of Q b (suc t))
  churn-at t lo lt here = record { each = λ k below. churn_each t k lo lt here }

  steps_of : (t k : ℕ) → t ≤ now_of b → 0 < (tags_of Q b t k).w
      → (tags_of Q b t k).w * (tags_of Q b t k).step ≡ unit_tag
  steps_of t k le some = steps-at sharing b kept t k le some

  clock_tags : (v v' who had : ℕ) (tags : ℕ → Tag) → v ≡ v'
      → AreTags Q unit_tag 32 (record { v = v; who = who; had = had }) tags
      → AreTags Q unit_tag 32 (record { v = v'; who = who; had = had }) tags
  clock_tags v v' who had tags same are = record {
    steps = are.steps;
    near = λ k lt. let near = are.near k lt in omega (arith, near, same);
    slot = are.slot;
    turn = are.turn;
    even = λ lt. let even = are.even lt in omega (arith, even, same);
  }

  pub some_quantum : 0 < Q
  some_quantum = omega (arith, kept.range.2.0)

  -- with no turn it does not matter whose it was
  no_turn : (v who who' had : ℕ) (tags : ℕ → Tag) → AreTags Q unit_tag 32 (record { v = v; who = who; had = 0 }) tags
      → had ≡ 0 → AreTags Q unit_tag 32 (record { v = v; who = who'; had = had }) tags
  no_turn v who who' had tags are none = record {
    steps = are.steps;
    near = are.near;
    slot = λ some. absurd (omega (arith, some, none));
    turn = λ some. absurd (omega (arith, some, none));
    even = λ some. absurd (omega (arith, some, none));
  }

  next_tags : (t : ℕ) → b.start ≤ t → t < now_of b → At Q b t
      → AreTags Q unit_tag 32 (clock_of Q b (suc t)) (tags_of Q b (suc t))
  next_tags t lo lt here =
      let after = any-tags Q unit_tag 32 (clock_of Q b t) (tags_of Q b t) (asks_of b t) (to_of b t) some_quantum
      here.kept (λ k is. serves-at t k lo lt here is) in
      let next : Clock = clock_after Q (clock_of Q b t) (tags_of Q b t) (asks_of b t) (to_of b t) in
      let mid = clock_tags next.v (v_of Q b (suc t)) next.who next.had
      (tags_after (v_of Q b t) (tags_of Q b t) (to_of b t)) (sym (v-next t lo lt here)) after in
      let clock : Clock = record { v = v_of Q b (suc t); who = next.who; had = next.had } in
      let steps : (k : ℕ) → k < 32 → 0 < (tags_of Q b (suc t) k).w
      → (tags_of Q b (suc t) k).w * (tags_of Q b (suc t) k).step ≡ unit_tag =
      λ k below some. steps_of (suc t) k (omega (arith, lt)) some in
      let old : ℕ → Tag = tags_after (v_of Q b t) (tags_of Q b t) (to_of b t) in
      elim (turn-next Q b t some_quantum kept.leavings lo lt
      (λ slot asks. kept.admission.seated t slot lt (asked-slot b slot t asks))
      (λ k is. ready-at t k lt is) (λ k is on. stays-at t k lt is on)) [
        | inl none ↦
            no_turn (v_of Q b (suc t)) next.who (who_of b (suc t)) (part_of Q b (suc t)) (tags_of Q b (suc t))
            (churn-tags Q unit_tag 32 clock 0 old (tags_of Q b (suc t)) mid (churn-at t lo lt here) steps (inl refl))
            none
        | inr goes ↦
            let same : share_at b (suc t) next.who ≡ share_at b t next.who =
            subst (λ s. share_at b (suc t) s ≡ share_at b t s) goes.1 goes.2 in
            subst (λ s. AreTags Q unit_tag 32 (record { v = v_of Q b (suc t); who = s; had = part_of Q b (suc t) })
            (tags_of Q b (suc t))) (sym goes.1)
            (churn-tags Q unit_tag 32 clock (part_of Q b (suc t)) old (tags_of Q b (suc t)) mid
            (churn-at t lo lt here) steps (inr (goes.0, tag-stays t next.who lo lt here same)))
      ]

  served_is : (t k : ℕ) → served b k t ≡ is_slot (to_of b t) k
  unfolding served
  served_is t k = refl

  next_start : (t k : ℕ) → b.start ≤ t → t < now_of b → At Q b t → share_at b (suc t) k ≡ share_at b t k
      → 0 < (share_at b t k).weight → start_tag Q b (suc t) k ≡ max (v_of Q b (suc t)) (f_of Q b (suc t) k)
  next_start t k lo lt here same some = elim (cases_Bool (asked b k t)) [
    | inr off ↦ s-off Q b t k same off
    | inl on ↦
        let below : k < 32 = (
        let lt_most = slot-at sharing b kept t k (omega (arith, lt)) some in
        omega (arith, lt_most, kept.range.1.1)) in
        let st = start-tick Q unit_tag 32 k (clock_of Q b t) (tags_of Q b t) (asks_of b t) (to_of b t)
        some_quantum
        below on here.kept (λ j is. serves-at t j lo lt here is) in
        let vn = v-next t lo lt here in
        let tag = tag-stays t k lo lt here same in
        let sw : (share_at b (suc t) k).weight ≡ (share_at b t k).weight =
        ap (λ (s : Share). s.weight) same in
        let fn : f_of Q b (suc t) k ≡ (tag_after (v_of Q b t) (tags_of Q b t k) (to_of b t) k).f =
        sym (tag-taken (share_at b (suc t) k) (f_of Q b (suc t) k) (omega (arith, sw, some)))
        ∙ ap (λ (c : Tag). c.f) tag in
        let old = start_is t k here some in
        let one : one_if (served b k t) * tag_step (share_at b t k).weight
        ≡ one_if (is_slot (to_of b t) k) * tag_step (share_at b t k).weight =
        ap (λ s. one_if s * tag_step (share_at b t k).weight) (served_is t k) in
        s-on Q b t k same on
        ∙ ap (λ x. x + one_if (served b k t) * tag_step (share_at b t k).weight) old
        ∙ ap (λ x. max (v_of Q b t) (tags_of Q b t k).f + x) one
        ∙ sym st.0 ∙ ap (λ x. max x (tag_after (v_of Q b t) (tags_of Q b t k) (to_of b t) k).f) (sym vn)
        ∙ ap (max (v_of Q b (suc t))) (sym fn)
  ]

  start_next : (t k : ℕ) → b.start ≤ t → t < now_of b → At Q b t → 0 < (share_at b (suc t) k).weight
      → start_tag Q b (suc t) k ≡ max (v_of Q b (suc t)) (f_of Q b (suc t) k)
  start_next t k lo lt here some = elim (goes-on b t k kept.sittings lt) [
    | Gone none ↦ absurd (omega (arith, none, some))
    | Fresh new ↦ s-fresh Q b (suc t) k new
    | Stays same ↦
        let sw : (share_at b (suc t) k).weight ≡ (share_at b t k).weight =
        ap (λ (s : Share). s.weight) same in
        next_start t k lo lt here same (omega (arith, sw, some))
  ]

  pub at-next : (t : ℕ) → b.start ≤ t → t < now_of b → At Q b t → At Q b (suc t)
  at-next t lo lt here = record {
    kept = next_tags t lo lt here;
    start = λ k some. start_next t k lo lt here some;
  }

  first_near : (k : ℕ) → (tags_of Q b b.start k).f ≤ v_of Q b b.start + Q * (tags_of Q b b.start k).step
  first_near k = elim (cases_lt 0 (share_at b b.start k).weight) [
    | inl some ↦
        let new = begins b k kept.sittings some in
        let g = tag-taken (share_at b b.start k) (f_of Q b b.start k) some in
        let fs = f-fresh Q b b.start k new in
        omega (arith, g, fs)
    | inr none ↦
        let g = tag-empty (share_at b b.start k) (f_of Q b b.start k) (omega (arith, none)) in omega (arith, g)
  ]

  pub at-first : At Q b b.start
  at-first = record {
    kept = record {
      steps = λ k below some. steps_of b.start k (omega arith) some;
      near = λ k below. first_near k;
      slot = λ some. absurd (omega (arith, some, no-turn Q b kept.leavings));
      turn = λ some. absurd (omega (arith, some, no-turn Q b kept.leavings));
      even = λ some. absurd (omega (arith, some, no-turn Q b kept.leavings));
    };
    start = λ k some. s-fresh Q b b.start k (begins b k kept.sittings some);
  }

  at_by : (n : ℕ) → b.start + n ≤ now_of b → At Q b (b.start + n)
  at_by zero le = let e : b.start ≡ b.start + 0 = omega arith in subst (At Q b) e at-first
  at_by (suc n) le =
      let e : suc (b.start + n) ≡ b.start + suc n = omega arith in
      subst (At Q b) e (at-next (b.start + n) (omega arith) (omega (arith, le)) (at_by n (omega (arith, le))))

  pub at-all : (t : ℕ) → b.start ≤ t → t ≤ now_of b → At Q b t
  at-all t lo le =
      let e : b.start + (t - b.start) ≡ t = omega (arith, lo) in
      subst (At Q b) e (at_by (t - b.start) (omega (arith, e, le)))
