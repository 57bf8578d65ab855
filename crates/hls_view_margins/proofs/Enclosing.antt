-- Each row lies in one that lies in no longer one.
use Rattle.std.proofs.Common.{◌≡◌, ℕ, zero, suc, ◌+◌, ◌-◌, ◌<◌, ◌≤◌, Bool, true, false, subst, arith, inl, inr}
use Rattle.std.proofs.Common.{refl}
use Rattle.std.proofs.lemmas.Bool.{cases_lt, cases_Bool}
use Rattle.hls_view_margins.specs.Rows.{IsRow, IsWhole}
use Rattle.hls_view_margins.proofs.Windows.{next_whole}

-- none before it is on
record Leftmost (f : ℕ → Bool) (lo hi i j : ℕ) : Type 0 where
  pub from : ℕ
  pub by : from ≤ i
  pub row : IsRow f lo hi from j
  pub before : (t : ℕ) → t + 1 ≡ from → lo ≤ t → f t ≡ false

leftmost : (f : ℕ → Bool) (lo hi k i j : ℕ) → i ≡ lo + k → IsRow f lo hi i j → Leftmost f lo hi i j
leftmost f lo hi zero i j at row = record {
  from = i;
  by = omega arith;
  row = row;
  before = λ t last low. absurd (omega (arith, at, last, low));
}
leftmost f lo hi (suc k) i j at row = elim (cases_Bool (f (lo + k))) [
  | inl on ↦
      let rest = leftmost f lo hi k (lo + k) j refl
      (record {
        begins = omega arith;
        ends = row.ends;
        on = λ t after before. elim (cases_lt (lo + k) t) [
          | inl later ↦ row.on t (omega (arith, at, later)) before
          | inr here ↦
              let same : lo + k ≡ t = omega (arith, after, here) in
              subst (λ (n : ℕ). f n ≡ true) same on
        ];
      }) in
      let by = rest.by in
      record { from = rest.from; by = omega (arith, by, at); row = rest.row; before = rest.before }
  | inr off ↦ record {
    from = i;
    by = omega arith;
    row = row;
    before = λ t last low.
        let same : lo + k ≡ t = omega (arith, at, last) in
        subst (λ (n : ℕ). f n ≡ false) same off;
  }
]

-- nor is the one behind it
record Rightmost (f : ℕ → Bool) (lo hi i j : ℕ) : Type 0 where
  pub until : ℕ
  pub by : j ≤ until
  pub row : IsRow f lo hi i until
  pub after : until < hi → f until ≡ false

rightmost : (f : ℕ → Bool) (lo hi k i j : ℕ) → hi ≡ j + k → IsRow f lo hi i j → Rightmost f lo hi i j
rightmost f lo hi zero i j at row = record {
  until = j;
  by = omega arith;
  row = row;
  after = λ less. absurd (omega (arith, at, less));
}
rightmost f lo hi (suc k) i j at row = elim (cases_Bool (f j)) [
  | inl on ↦
      let rest = rightmost f lo hi k i (j + 1) (omega (arith, at))
      (record {
        begins = row.begins;
        ends = omega (arith, at);
        on = λ t after before. elim (cases_lt t j) [
          | inl early ↦ row.on t after early
          | inr late ↦
              let same : j ≡ t = omega (arith, before, late) in
              subst (λ (n : ℕ). f n ≡ true) same on
        ];
      }) in
      let by = rest.by in
      record { until = rest.until; by = omega (arith, by); row = rest.row; after = rest.after }
  | inr off ↦ record { until = j; by = omega arith; row = row; after = λ _. off }
]

pub record Enclosing (f : ℕ → Bool) (lo hi i j : ℕ) : Type 0 where
  pub from : ℕ
  pub until : ℕ
  pub low : from ≤ i
  pub high : j ≤ until
  pub whole : IsWhole f lo hi from until

pub enclosing : (f : ℕ → Bool) (lo hi i j : ℕ) → i < j → IsRow f lo hi i j → Enclosing f lo hi i j
enclosing f lo hi i j some row =
    let begins = row.begins in
    let left = leftmost f lo hi (i - lo) i j (omega (arith, begins)) row in
    let ends = left.row.ends in
    let right = rightmost f lo hi (hi - j) left.from j (omega (arith, ends)) left.row in
    let low = left.by in
    let high = right.by in
    record {
      from = left.from;
      until = right.until;
      low = low;
      high = high;
      whole = next_whole f lo hi left.from right.until
          (record {
            low = right.row.begins;
            some = omega (arith, low, some, high);
            high = right.row.ends;
            on = right.row.on;
            before = left.before;
            after = right.after;
          });
    }
