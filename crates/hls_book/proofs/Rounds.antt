-- How long a seat has waited for slots of a test, by whose turn it is: what they had in the rounds that have begun, and
-- what they may still have in the present one.
use Rattle.std.proofs.Common.{◌≡◌, ◌≢◌, ℕ, ◌+◌, ◌-◌, ◌*◌, ◌<◌, ◌≤◌, Bool, true, false, refl, arith, inl, inr}
use Rattle.std.specs.Prelude.{if◌then◌else◌, ◌/◌}
use Rattle.std.proofs.Math.Nat.{mul-le-mul_left}
use Rattle.std.proofs.lemmas.Bool.{cases_eq, cases_lt}
use Rattle.hls_chron.specs.Ticks.{one_if}
use Rattle.hls_kinds.specs.Turns.{turns_after}
use Rattle.hls_book.specs.Turns.{Turn, over}
use Rattle.hls_book.proofs.Circle.{others, ahead, ahead-few, ahead-fewer, ahead-next, ahead-less}
use Rattle.hls_book.proofs.Circle.{after-one}

-- what is left of the quantum, where the slot of the turn may use it
abbrev left_over : (quantum : ℕ) (may : Bool) (had : ℕ) → ℕ
left_over quantum may had = if may then quantum - had else 0

-- own ticks of the seat, and theirs of the other slots of the test
pub record Waits (quantum slot : ℕ) (among : ℕ → Bool) (turn : Turn) (own theirs : ℕ) : Type 0 where
  pub rounds : ℕ
  pub begun : quantum * rounds ≤ own + quantum
  pub here : turn.slot ≡ slot → (theirs ≤ others among slot * (quantum * rounds))
      × (quantum * rounds + turn.had ≤ own + quantum)
  pub there : turn.slot ≢ slot
      → theirs + quantum * ahead among slot turn.slot + left_over quantum (among turn.slot) turn.had
      ≤ others among slot * (quantum * rounds)

-- n / k, rounded down, times k
rest : (n k : ℕ) → 0 < k → n < k * (n / k) + k
rest n k some = omega arith

module _ (quantum slot : ℕ) (among : ℕ → Bool) (some : 0 < quantum) (below : slot < 32) where
  -- at the beginning of a run
  first_left : (c had : ℕ) → c < 32 → c ≢ slot → (may : Bool) → among c ≡ may
      → quantum * ahead among slot c + left_over quantum may had ≤ others among slot * quantum
  first_left c had lt apart true is =
      let few = mul-le-mul_left quantum (ahead-fewer among slot c lt below apart is) in
      omega (arith, few)
  first_left c had lt apart false is =
      let few = mul-le-mul_left quantum (ahead-few among slot c) in
      omega (arith, few)

  pub at_first : (turn : Turn) → turn.slot < 32 → turn.had ≤ quantum → Waits quantum slot among turn 0 0
  at_first turn lt part = elim (cases_eq turn.slot slot) [
    | inl same ↦ record {
      rounds = 0;
      begun = omega arith;
      here = λ _. (omega arith, omega (arith, part));
      there = λ apart. absurd (apart same);
    }
    | inr apart ↦ record {
      rounds = 1;
      begun = omega arith;
      here = λ same. absurd (apart same);
      there = λ _. omega (arith, first_left turn.slot turn.had lt apart (among turn.slot) refl);
    }
  ]

  module _ (turn : Turn) (own theirs : ℕ) (w : Waits quantum slot among turn own theirs) where
    -- a tick of its turn
    pub serves_on : turn.slot ≡ slot
        → Waits quantum slot among (record { slot = turn.slot; had = turn.had + 1 }) (own + 1) theirs
    serves_on same = record {
      rounds = w.rounds;
      begun = omega (arith, w.begun);
      here = λ _. let is = w.here same in (is.0, omega (arith, is.1));
      there = λ apart. absurd (apart same);
    }

    -- a tick of another's turn
    pub waits_on : turn.slot ≢ slot → turn.had < quantum
        → Waits quantum slot among (record { slot = turn.slot; had = turn.had + 1 }) own
        (theirs + one_if (among turn.slot))
    waits_on apart part = record {
      rounds = w.rounds;
      begun = w.begun;
      here = λ same. absurd (apart same);
      there = λ _. one_on (among turn.slot) (w.there apart);
    }
      where
        one_on : (may : Bool)
            → theirs + quantum * ahead among slot turn.slot + left_over quantum may turn.had
            ≤ others among slot * (quantum * w.rounds)
            → theirs + one_if may + quantum * ahead among slot turn.slot + left_over quantum may (turn.had + 1)
            ≤ others among slot * (quantum * w.rounds)
        one_on true le = omega (arith, le, part)
        one_on false le = omega (arith, le)

    -- the first tick of its turn
    pub begins_own : Waits quantum slot among (record { slot = slot; had = 1 }) (own + 1) theirs
    begins_own = record {
      rounds = w.rounds;
      begun = omega (arith, w.begun);
      here = λ _. (few, omega (arith, w.begun));
      there = λ apart. absurd (apart refl);
    }
      where
        few : theirs ≤ others among slot * (quantum * w.rounds)
        few = elim (cases_eq turn.slot slot) [
          | inl same ↦ (w.here same).0
          | inr apart ↦ let is = w.there apart in omega (arith, is)
        ]

    -- the first tick of another's turn, which comes before its own
    module _ (s : ℕ) (lt : turn.slot < 32) (lt_s : s < 32) (apart : s ≢ slot)
        (first : turns_after turn.slot s ≤ turns_after turn.slot slot) where
      before : turns_after turn.slot s < turns_after turn.slot slot
      before = after-one slot turn.slot s below lt lt_s apart first

      one_less : (may : Bool) → among s ≡ may
          → one_if may + quantum * ahead among slot s + left_over quantum may 1 ≤ quantum * ahead among slot turn.slot
      one_less true is =
          let less = mul-le-mul_left quantum (ahead-next among slot turn.slot s below lt lt_s apart is before) in
          omega (arith, less, some)
      one_less false is =
          let less = mul-le-mul_left quantum (ahead-less among slot turn.slot s below lt lt_s before) in
          omega (arith, less)

      pub begins_another : (turn.slot ≡ slot → turn.had ≡ quantum)
          → Waits quantum slot among (record { slot = s; had = 1 }) own (theirs + one_if (among s))
      begins_another full =
          let less = one_less (among s) refl in
          elim (cases_eq turn.slot slot) [
            | inl same ↦
                let is = w.here same in
                let all = full same in
                let few : quantum * ahead among slot turn.slot ≤ quantum * others among slot =
                mul-le-mul_left quantum (ahead-few among slot turn.slot) in
                record {
                  rounds = w.rounds + 1;
                  begun = omega (arith, is.1, all);
                  here = λ no. absurd (apart no);
                  there = λ _. omega (arith, is.0, less, few);
                }
            | inr other ↦
                let is = w.there other in
                record {
                  rounds = w.rounds;
                  begun = w.begun;
                  here = λ no. absurd (apart no);
                  there = λ _. omega (arith, is, less);
                }
          ]

    -- another's turn is over
    pub is_over : turn.slot ≢ slot → Waits quantum slot among (over quantum turn) own theirs
    is_over apart = record {
      rounds = w.rounds;
      begun = w.begun;
      here = λ same. absurd (apart same);
      there = λ _. none_left (among turn.slot) (w.there apart);
    }
      where
        none_left : (may : Bool)
            → theirs + quantum * ahead among slot turn.slot + left_over quantum may turn.had
            ≤ others among slot * (quantum * w.rounds)
            → theirs + quantum * ahead among slot turn.slot + left_over quantum may quantum
            ≤ others among slot * (quantum * w.rounds)
        none_left true le = omega (arith, le)
        none_left false le = le

    -- in the end
    pub all_waits : theirs ≤ others among slot * (quantum * (own / quantum + 1))
    all_waits =
        let few : theirs ≤ others among slot * (quantum * w.rounds) = elim (cases_eq turn.slot slot) [
          | inl same ↦ (w.here same).0
          | inr apart ↦ let is = w.there apart in omega (arith, is)
        ] in
        let rounds : w.rounds ≤ own / quantum + 1 = within in
        let more = mul-le-mul_left (others among slot) (mul-le-mul_left quantum rounds) in
        omega (arith, few, more)
      where
        within : w.rounds ≤ own / quantum + 1
        within = elim (cases_lt (own / quantum + 1) w.rounds) [
          | inr le ↦ le
          | inl more ↦
              let two : quantum * (own / quantum + 2) ≤ quantum * w.rounds =
              mul-le-mul_left quantum (omega (arith, more)) in
              let part : own < quantum * (own / quantum) + quantum = rest own quantum some in
              absurd (omega (arith, two, part, w.begun))
        ]
