-- In how many ticks a guarantee has so many served.
use Rattle.std.proofs.Common.{◌≡◌, ℕ, zero, suc, ◌+◌, ◌*◌, ◌-◌, ◌<◌, ◌≤◌, ap, ◌∙◌, arith, inl, inr, Bool}
use Rattle.std.proofs.Common.{true, Some}
use Rattle.std.specs.Prelude.{All, List, [], ◌∷◌, min}
use Rattle.std.specs.List.{AllByRecursion}
use Rattle.std.proofs.lemmas.List.Elements.{All-from_recursion, recursion_from_All}
use Rattle.std.proofs.lemmas.Bool.{cases_lt}
use Rattle.std.proofs.Math.Nat.{mul-le-mul_right, suc-mul}
use Rattle.hls_chron.specs.Ticks.{count}
use Rattle.hls_chron.proofs.CountLaws.{count-within, count-add, count-push, count-none}
use Rattle.hls_guarantee.specs.declared.Guarantee.{Guarantee}
use Rattle.hls_guarantee.specs.declared.Guarantee.TheVariants as kept
use Rattle.hls_guarantee.specs.Satisfaction.{IsReserved, InPiece, Satisfies}
use Rattle.hls_text.specs.Lines.{Text}
use Rattle.hls_report_text.specs.declared.report.Account.{Account}
use Rattle.hls_report_text.specs.declared.report.Answered.{Answered}
use Rattle.hls_report_text.specs.Content.{Content}
use Rattle.hls_legal.specs.Commands.{last_rousing}
use Rattle.hls_legal.specs.Schedule.{is_served}
use Rattle.hls_legal.specs.Ready.{is_ready}
use Rattle.hls_legal.specs.Kept.{KeepsAccount}
use Rattle.hls_legal_jobs.specs.Reports.{IsReleased}
use Rattle.hls_legal_jobs.specs.Kept.{GivesIn, IsPrompt}
use Rattle.hls_legal_jobs.proofs.Wakes.{ready_since}

-- all ticks served
all_count : (served : ℕ → Bool) (lo n : ℕ) → ((t : ℕ) → lo ≤ t → t < lo + n → served t ≡ true)
    → count served lo n ≡ n
all_count served lo zero all = count-none served lo
all_count served lo (suc n) all =
    let rest = all_count served lo n (λ t from to. all t from (omega arith)) in
    let last : served (lo + n) ≡ true = all (lo + n) (omega arith) (omega arith) in
    count-push served lo n ∙ (rw (rest, last) (omega arith))

-- the first cut from a tick on
pub record IsCutFrom (e y lo : ℕ) : Type 0 where
  pub cut : ℕ
  pub low : lo ≤ e + cut * y
  pub high : e + cut * y < lo + y

first_cut : (e y lo : ℕ) → e < y → IsCutFrom e y lo
first_cut e y zero lt = record { cut = 0; low = omega arith; high = omega arith }
first_cut e y (suc lo) lt =
    let before = first_cut e y lo lt in
    let next : suc before.cut * y ≡ before.cut * y + y = suc-mul before.cut y in
    elim (cases_lt lo (e + before.cut * y)) [
      | inl later ↦ record { cut = before.cut; low = later; high = omega (arith, before.high) }
      | inr here ↦ record {
        cut = suc before.cut;
        low = omega (arith, before.low);
        high = omega (arith, before.low);
      }
    ]

-- m ticks of the n after one, where pieces are cut
pieces_have : (served : ℕ → Bool) (hard : Bool) (x y e lo m n : ℕ) → e < y → m ≤ x → x ≤ y → 2 * y + m ≤ n + 2 * x
    → ((i k : ℕ) → lo ≤ i → i + k ≤ lo + n → InPiece e y i k → IsReserved hard x y k (count served i k))
    → m ≤ count served lo n
pieces_have served hard x y e lo m n inside small narrow long parts =
    let at = first_cut e y lo inside in
    let low = at.low in
    let high = at.high in
    let c : ℕ = e + at.cut * y in
    let a : ℕ = c - lo in
    let next : suc at.cut * y ≡ at.cut * y + y = suc-mul at.cut y in
    elim (cases_lt a n) [
      | inr alone ↦
          let only = parts lo n (omega arith) (omega arith)
          (record { cut = at.cut; starts = omega arith; ends = omega arith }) in
          omega (arith, only.enough)
      | inl within ↦
          let b : ℕ = min y (n - a) in
          let first = parts lo a (omega arith) (omega arith)
          (record { cut = at.cut; starts = omega arith; ends = omega arith }) in
          let second = parts c b (omega arith) (omega arith)
          (record { cut = suc at.cut; starts = omega arith; ends = omega arith }) in
          let both = count-add served lo a b in
          let here : lo + a ≡ c = omega arith in
          let after : count served (lo + a) b ≡ count served c b = ap (λ (i : ℕ). count served i b) here in
          let whole = (count-within served lo n lo (a + b) (omega arith) (omega arith)).less in
          omega (arith, first.enough, second.enough, both, after, whole)
    ]

-- fewer than m served in n ticks are no more than m - 1
share_has : (num den p q n m got : ℕ) → ((m - 1) * q + p) * den < num * n * q → num * n * q ≤ (got * q + p) * den
    → m ≤ got
share_has num den p q n m got has meets = elim (cases_lt got m) [
  | inr enough ↦ enough
  | inl fewer ↦
      let le : got ≤ m - 1 = omega arith in
      let times : got * q ≤ (m - 1) * q = mul-le-mul_right q le in
      let more : (got * q + p) * den ≤ ((m - 1) * q + p) * den =
      mul-le-mul_right den (let sum : got * q + p ≤ (m - 1) * q + p = omega arith in sum) in
      absurd (omega arith)
]

has_by : (g : Guarantee) (served : ℕ → Bool) (lo m n : ℕ) → GivesIn g m n → Satisfies g served lo (lo + n)
    → m ≤ count served lo n
has_by kept.All served lo m n has meets = omega (arith, all_count served lo n meets, has)
has_by kept.Null served lo m n has meets = absurd has
has_by (kept.Resc hard x y) served lo m n has meets =
    let small = has.0 in
    let long = has.1 in
    elim (cases_lt y n) [
      | inr within ↦
          let part = meets lo n (omega arith) (omega arith) within in omega (arith, part.enough)
      | inl beyond ↦
          let part = meets lo y (omega arith) (omega arith) (omega arith) in
          let whole = (count-within served lo n lo y (omega arith) (omega arith)).less in
          omega (arith, part.enough)
    ]
has_by (kept.Resb hard x y) served lo m n has meets =
    let at = first_cut meets.0 y lo meets.1 in
    let low = at.low in
    let high = at.high in
    let nothing = meets.2 lo 0 (omega arith) (omega arith)
    (record { cut = at.cut; starts = omega arith; ends = omega arith }) in
    let narrow : x ≤ y = omega (arith, nothing.enough, count-none served lo) in
    pieces_have served hard x y meets.0 lo m n meets.1 has.0 narrow has.1 meets.2
has_by (kept.Psbe s d) served lo m n has meets =
    share_has s.num s.den d.num d.den n m (count served lo n) has (meets lo n (omega arith) (omega arith))

-- a thread that was served too few is ready all along
prompt_by : (c : Content) (name : Text) (g : Guarantee) (from until w : ℕ) (wake : Answered) (ticks m n : ℕ)
    → ((lo hi : ℕ) → from ≤ lo → hi ≤ until → ((t : ℕ) → lo ≤ t → t < hi → is_ready c name t ≡ true)
    → Satisfies g (is_served c.stretches name) lo hi)
    → from ≤ w → IsReleased c name w wake ticks → m ≤ ticks → GivesIn g m n → w + n ≤ until
    → ((t : ℕ) → w ≤ t → t < w + n → last_rousing name t c.answered ≡ Some wake)
    → m ≤ count (is_served c.stretches name) w n
prompt_by c name g from until w wake ticks m n windows low is few has within words =
    elim (cases_lt (count (is_served c.stretches name) w n) m) [
      | inr enough ↦ enough
      | inl fewer ↦
          has_by g (is_served c.stretches name) w m n has
          (windows w (w + n) low within
          (λ t lo hi. ready_since c name w t ticks wake is lo (words t lo hi)
          (let less = (count-within (is_served c.stretches name) w n w (t - w)
          (omega arith) (omega arith)).less in omega arith)))
    ]

pub account_prompt : (c : Content) (a : Account) → KeepsAccount c a → IsPrompt c a
account_prompt c a keeps = record {
  done = λ w wake ticks m n low is few has within words.
      prompt_by c a.name a.kept a.from (a.to + 1) w wake ticks m n keeps.windows low is few has within words;
}

each_prompt : (c : Content) (accounts : List Account) → AllByRecursion (KeepsAccount c) accounts
    → AllByRecursion (IsPrompt c) accounts
each_prompt c [] all = tt
each_prompt c (a ∷ accounts) all = (account_prompt c a all.0, each_prompt c accounts all.1)

pub accounts_prompt : (c : Content) (accounts : List Account) → All (KeepsAccount c) accounts
    → All (IsPrompt c) accounts
accounts_prompt c accounts all =
    All-from_recursion (IsPrompt c) accounts
    (each_prompt c accounts (recursion_from_All (KeepsAccount c) accounts all))
