-- Ticks in a row that are alike, and where the next begin.
use Rattle.std.proofs.Common.{◌≡◌, ℕ, zero, suc, ◌+◌, ◌-◌, ◌<◌, ◌≤◌, Bool, true, false, not, refl, ap, sym, ◌∙◌, arith}
use Rattle.std.proofs.Common.{inl, inr, ◌&&◌, min, max}
use Rattle.std.specs.Prelude.{Some}
use Rattle.std.proofs.lemmas.Bool.{cases_lt, cases_eq, cases_Bool}
use Rattle.hls_chron.specs.Ticks.{count, one_if}
use Rattle.hls_chron.proofs.CountLaws.{count-push, count-le}
use Rattle.hls_audit_spans.specs.Spans.{IsNext}
use Rattle.hls_audit_spans.proofs.Counts.{count_on}
use Rattle.hls_view_margins.specs.Inside.Tests.{counts}
use Rattle.hls_view_margins.specs.Inside.Worst.{IsTurn}
use Rattle.hls_view_margins.specs.Steady.{IsSteady}
use Rattle.hls_view_margins.proofs.Ons.{counts_by}

is_on : (b : Bool) → 1 ≤ one_if b → b ≡ true
is_on true some = refl
is_on false some = absurd (omega (arith, some))

few_one : (b : Bool) → one_if b ≤ 1
few_one true = omega arith
few_one false = omega arith

-- where all are counted, all pass
on_count : (f : ℕ → Bool) (i n : ℕ) → count f i n ≡ n → (t : ℕ) → i ≤ t → t < i + n → f t ≡ true
on_count f i zero full t low high = absurd (omega (arith, low, high))
on_count f i (suc n) full t low high =
    let push = count-push f i n in
    let most = count-le f i n in
    let bit : one_if (f (i + n)) ≤ 1 = few_one (f (i + n)) in
    elim (cases_eq t (i + n)) [
      | inl same ↦ ap f same ∙ is_on (f (i + n)) (omega (arith, push, most, full))
      | inr other ↦ on_count f i n (omega (arith, push, most, full, bit)) t low (omega (arith, high, other))
    ]

-- ---- a search by halves

-- those before one are on, and before another one is not
pub record IsBracket (f : ℕ → Bool) (from until low high : ℕ) : Type 0 where
  pub on : (t : ℕ) → from ≤ t → t < low → f t ≡ true
  pub off : high < until → ((t : ℕ) → from ≤ t → t < high + 1 → f t ≡ true) → ⊥

pub bracket_first : (f : ℕ → Bool) (from until : ℕ) → IsBracket f from until from until
bracket_first f from until = record {
  on = λ t after before. absurd (omega (arith, after, before));
  off = λ less all. absurd (omega (arith, less));
}

pub bracket_up : (f : ℕ → Bool) (from until low high middle n : ℕ) → from ≤ middle → n
    ≡ count f from (middle + 1 - from)
    → n ≡ middle + 1 - from → IsBracket f from until low high → IsBracket f from until (middle + 1) high
bracket_up f from until low high middle n order is full bracket = record {
  on = λ t after before.
      on_count f from (middle + 1 - from) (sym is ∙ full) t after (omega (arith, before, order));
  off = bracket.off;
}

pub bracket_down : (f : ℕ → Bool) (from until low high middle n : ℕ) → from ≤ middle
    → n ≡ count f from (middle + 1 - from) → (n ≡ middle + 1 - from → ⊥) → IsBracket f from until low high
    → IsBracket f from until low middle
bracket_down f from until low high middle n order is not-full bracket = record {
  on = bracket.on;
  off = λ less all.
      not-full (is ∙ count_on f from (middle + 1 - from)
      (λ t after before. all t after (omega (arith, before, order))));
}

pub bracket_last : (f : ℕ → Bool) (from until low high : ℕ) → low ≡ high → IsBracket f from until low high
    → IsTurn f false from until low
bracket_last f from until low high same bracket = record {
  none = bracket.on;
  here = λ less. elim (cases_Bool (f low)) [
    | inl on ↦
        absurd (bracket.off (omega (arith, less, same)) (λ t after before. elim (cases_lt t low) [
          | inl early ↦ bracket.on t after early
          | inr late ↦ let e : t ≡ low = omega (arith, before, late, same) in ap f e ∙ on
        ]))
    | inr off ↦ off
  ];
}

-- ---- the next one

pub next_turn : (f : ℕ → Bool) (from until end next turn : ℕ) → until ≤ end → turn ≡ min (max next from) until
    → IsNext f from end (Some next) → IsTurn f true from until turn
next_turn f from until end next turn within e is =
    let behind = is.behind in
    record {
      none = λ t after before. is.none t after (omega (arith, before, e));
      here = λ less. let same : turn ≡ next = omega (arith, less, behind, e) in ap f same ∙ is.on;
    }

-- ---- ticks that are alike

twice : (b : Bool) → not (not b) ≡ b
twice true = refl
twice false = refl

pub turn_steady : (f : ℕ → Bool) (tick hi until : ℕ) (on : Bool) → on ≡ f tick → IsTurn f (not on) (tick + 1) hi until
    → IsSteady f tick until
turn_steady f tick hi until on is turn t after before = elim (cases_eq t tick) [
  | inl same ↦ ap f same
  | inr other ↦ turn.none t (omega (arith, after, other)) before ∙ twice on ∙ is
]

-- a thread that is not to wait, or is not ready, is counted where it is ready
not_ready : (waiting : Bool) (r s b d : Bool) → r ≡ s → waiting && s ≡ false → s && not (waiting && b)
    ≡ s && not (waiting && d)
not_ready true r true b d e off = absurd (let no : true ≡ false = off in cc)
not_ready true r false b d e off = refl
not_ready false r s b d e off = refl

pub steady_ready : (waiting : Bool) (f g : ℕ → Bool) (tick until : ℕ) → (waiting && f tick) ≡ false
    → IsSteady f tick until → IsSteady (counts waiting f g) tick until
steady_ready waiting f g tick until off steady t after before =
    let same = steady t after before in
    sym (counts_by waiting f g t) ∙ ap (λ (b : Bool). b && not (waiting && g t)) same
    ∙ not_ready waiting (f t) (f tick) (g t) (g tick) same off ∙ counts_by waiting f g tick

-- one that is to wait, where it is ready and not served
pub steady_served : (waiting : Bool) (f g : ℕ → Bool) (tick until later : ℕ) → until ≤ later → IsSteady f tick later
    → IsSteady g tick until → IsSteady (counts waiting f g) tick until
steady_served waiting f g tick until later within ready served t after before =
    sym (counts_by waiting f g t)
    ∙ ap (λ (b : Bool). b && not (waiting && g t)) (ready t after (omega (arith, before, within)))
    ∙ ap (λ (b : Bool). f tick && not (waiting && b)) (served t after before) ∙ counts_by waiting f g tick
