-- The longest row so far, with ticks more that are alike.
use Rattle.std.proofs.Common.{◌≡◌, ℕ, ◌+◌, ◌-◌, ◌<◌, ◌≤◌, Bool, true, false, arith, subst, sym, inl, inr}
use Rattle.std.proofs.Common.{◌∙◌}
use Rattle.std.proofs.lemmas.Bool.{cases_lt, false≢true}
use Rattle.std.specs.Prelude.{Option, Some, None}
use Rattle.hls_view_margins.specs.declared.margin.Row.{Row}
use Rattle.hls_view_margins.specs.Rows.{IsRow, IsLongest, IsLongestOf}
use Rattle.hls_view_margins.specs.Steady.{IsSteady}
use Rattle.hls_view_margins.specs.Inside.Tests.{Since, IsLongerOf}

pub since_none : (f : ℕ → Bool) (lo : ℕ) → Since f lo lo lo
since_none f lo = record {
  begins = omega arith;
  ends = omega arith;
  on = λ t after before. absurd (omega arith);
  whole = λ i low high on. low;
}

pub since_on : (f : ℕ → Bool) (lo tick until since : ℕ) → tick < until → IsSteady f tick until → f tick ≡ true
    → Since f lo tick since → Since f lo until since
since_on f lo tick until since later steady on is = record {
  begins = is.begins;
  ends = let e = is.ends in omega (arith, e, later);
  on = λ t after before. elim (cases_lt t tick) [
    | inl early ↦ is.on t after early
    | inr late ↦ steady t late before ∙ on
  ];
  whole = λ i low high all. elim (cases_lt tick i) [
    | inl late ↦ let e = is.ends in omega (arith, e, late)
    | inr early ↦ is.whole i low early (λ t after before. all t after (omega (arith, before, later)))
  ];
}

pub since_off : (f : ℕ → Bool) (lo tick until since : ℕ) → tick < until → IsSteady f tick until → f tick ≡ false
    → Since f lo tick since → Since f lo until until
since_off f lo tick until since later steady off is =
    let b = is.begins in
    let e = is.ends in
    record {
      begins = omega (arith, b, e, later);
      ends = omega arith;
      on = λ t after before. absurd (omega (arith, after, before));
      whole = λ i low high all. elim (cases_lt i until) [
        | inl less ↦
            absurd (false≢true (sym (steady (until - 1) (omega (arith, later)) (omega (arith, later)) ∙ off)
            ∙ all (until - 1) (omega (arith, less)) (omega (arith, later))))
        | inr late ↦ late
      ];
    }

-- a row that ends by a tick, or with a later one
row_within : (f : ℕ → Bool) (lo tick end from until : ℕ) → until ≤ tick → IsRow f lo end from until
    → IsRow f lo tick from until
row_within f lo tick end from until within row = record { begins = row.begins; ends = within; on = row.on }

row_wider : (f : ℕ → Bool) (lo tick end from until : ℕ) → tick ≤ end → IsRow f lo tick from until
    → IsRow f lo end from until
row_wider f lo tick end from until later row = record {
  begins = row.begins;
  ends = let e = row.ends in omega (arith, e, later);
  on = row.on;
}

-- one that has one of the ticks that are alike begins no earlier than the one since
last_from : (f : ℕ → Bool) (lo tick end since from until : ℕ) → IsSteady f tick end → Since f lo end since
    → tick < until → from < until → IsRow f lo end from until → since ≤ from
last_from f lo tick end since from until steady is late some row =
    let ends = row.ends in
    let on : f tick ≡ true =
    sym (steady (until - 1) (omega (arith, late)) (omega (arith, late, ends)))
    ∙ row.on (until - 1) (omega (arith, some)) (omega (arith, late)) in
    is.whole from row.begins (omega (arith, some, ends)) (λ t after before. elim (cases_lt t until) [
      | inl early ↦ row.on t after early
      | inr more ↦ steady t (omega (arith, late, more)) before ∙ on
    ])

row_last : (f : ℕ → Bool) (lo tick end since from until : ℕ) → IsSteady f tick end → Since f lo end since
    → tick < until → IsRow f lo end from until → until - from ≤ end - since
row_last f lo tick end since from until steady is late row = elim (cases_lt from until) [
  | inl some ↦
      let order = last_from f lo tick end since from until steady is late some row in
      let ends = row.ends in omega (arith, order, ends)
  | inr none ↦ omega (arith, none)
]

row_since : (f : ℕ → Bool) (lo end since : ℕ) → Since f lo end since → IsRow f lo end since end
row_since f lo end since is = record { begins = is.begins; ends = omega arith; on = is.on }

-- the row since is the longest
longest_new : (f : ℕ → Bool) (lo tick end since most : ℕ) (row : Row) → IsSteady f tick end → Since f lo end since
    → ((from until : ℕ) → IsRow f lo tick from until → until ≤ from + most) → most < end - since
    → row.from ≡ since → row.ticks ≡ end - since → IsLongest f lo end row
longest_new f lo tick end since most row steady is longest more at long =
    let order = is.ends in
    let last : row.from + row.ticks ≡ end = omega (arith, at, long, order) in
    record {
      some = omega (arith, long, more);
      is =
          subst (λ (j : ℕ). IsRow f lo end row.from j) (sym last)
          (subst (λ (i : ℕ). IsRow f lo end i end) (sym at) (row_since f lo end since is));
      longest = λ from until other. elim (cases_lt tick until) [
        | inl late ↦
            let most-long = row_last f lo tick end since from until steady is late other in
            omega (arith, most-long, long)
        | inr early ↦
            let less = longest from until (row_within f lo tick end from until early other) in
            omega (arith, less, long, more)
      ];
      first = λ from other. elim (cases_lt tick (from + row.ticks)) [
        | inl late ↦
            let low = last_from f lo tick end since from (from + row.ticks) steady is late
            (omega (arith, long, more)) other in
            omega (arith, low, at)
        | inr early ↦
            let less = longest from (from + row.ticks) (row_within f lo tick end from (from + row.ticks) early other) in
            absurd (omega (arith, less, long, more))
      ];
    }

-- or the one before stays it
longest_old : (f : ℕ → Bool) (lo tick end since : ℕ) (row : Row) → tick ≤ end → IsSteady f tick end
    → Since f lo end since → IsLongest f lo tick row → end - since ≤ row.ticks → IsLongest f lo end row
longest_old f lo tick end since row later steady is old short =
    let ends = old.is.ends in
    let some = old.some in
    record {
      some = old.some;
      is = row_wider f lo tick end row.from (row.from + row.ticks) later old.is;
      longest = λ from until other. elim (cases_lt tick until) [
        | inl late ↦
            let last = row_last f lo tick end since from until steady is late other in omega (arith, last, short)
        | inr early ↦ old.longest from until (row_within f lo tick end from until early other)
      ];
      first = λ from other. elim (cases_lt tick (from + row.ticks)) [
        | inl late ↦ omega (arith, ends, late)
        | inr early ↦ old.first from (row_within f lo tick end from (from + row.ticks) early other)
      ];
    }

pub longest_none : (f : ℕ → Bool) (lo : ℕ) → IsLongestOf f lo lo None
longest_none f lo from until row = let b = row.begins in let e = row.ends in omega (arith, b, e)

pub longest_more : (f : ℕ → Bool) (lo tick end since : ℕ) (one taken : Option Row) → tick < end
    → IsSteady f tick end → Since f lo end since → IsLongerOf one since (end - since) taken → IsLongestOf f lo tick one
    → IsLongestOf f lo end taken
longest_more f lo tick end since None None later steady is longer old = λ from until other. elim (cases_lt tick until) [
  | inl late ↦
      let last = row_last f lo tick end since from until steady is late other in omega (arith, last, longer)
  | inr early ↦ old from until (row_within f lo tick end from until early other)
]
longest_more f lo tick end since None (Some row) later steady is longer old =
    longest_new f lo tick end since 0 row steady is
    (λ from until other. let o = old from until other in omega (arith, o))
    (let l = longer.0 in omega (arith, l)) longer.1 longer.2
longest_more f lo tick end since (Some a) None later steady is longer old = absurd longer
longest_more f lo tick end since (Some a) (Some row) later steady is longer old =
    elim (cases_lt a.ticks (end - since)) [
      | inl more ↦
          let new = longer.0 more in
          longest_new f lo tick end since a.ticks row steady is old.longest more new.0 new.1
      | inr short ↦
          subst (λ (r : Row). IsLongest f lo end r) (sym (longer.1 short))
          (longest_old f lo tick end since a (omega (arith, later)) steady is old short)
    ]
