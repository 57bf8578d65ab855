-- The debt of the part that ends here and is owed most: each tick owes rate, and a served one pays whole.
use Rattle.std.proofs.Common.{◌≡◌, ℕ, zero, suc, ◌+◌, ◌-◌, ◌*◌, ◌<◌, ◌≤◌, Bool, ap, arith}
use Rattle.std.proofs.Common.{inl, inr}
use Rattle.std.proofs.lemmas.Bool.{cases_lt}
use Rattle.hls_chron.specs.Ticks.{one_if, count}
use Rattle.hls_guarantee.specs.Service.{EveryPart}
use Rattle.hls_chron.proofs.CountLaws.{count-none, count-push}

-- some part that ends before tick j is owed d, and none more
pub record Owed (rate whole : ℕ) (f : ℕ → Bool) (j d : ℕ) : Type 0 where
  pub most : (i n : ℕ) → i + n ≡ j → rate * n ≤ whole * count f i n + d
  pub from : ℕ
  pub ticks : ℕ
  pub ends : from + ticks ≡ j
  pub met : rate * ticks ≡ whole * count f from ticks + d

-- and no part before tick j is owed more than allowed
pub record Debt (rate whole allowed : ℕ) (f : ℕ → Bool) (j d : ℕ) : Type 0 where
  pub owed : Owed rate whole f j d
  pub small : d ≤ allowed
  pub fine : EveryPart (λ i n got. rate * n ≤ whole * got + allowed) f 0 j

nothing : (rate whole d : ℕ) (f : ℕ → Bool) (i : ℕ) → rate * 0 ≤ whole * count f i 0 + d
nothing rate whole d f i = omega arith

pub no_debt : (rate whole allowed : ℕ) (f : ℕ → Bool) → Debt rate whole allowed f 0 0
no_debt rate whole allowed f = record {
  owed = record {
    most = λ i n end. let e : n ≡ 0 = omega arith in rw e (nothing rate whole 0 f i);
    from = 0;
    ticks = 0;
    ends = omega arith;
    met = let none = ap (λ v. whole * v) (count-none f 0) in omega (arith, none);
  };
  small = omega arith;
  fine = λ i n lo hi. let e : n ≡ 0 = omega arith in rw e (nothing rate whole allowed f i);
}

-- one more tick, at which the service is v
push-mul : (rate n : ℕ) → rate * suc n ≡ rate * n + rate
push-mul rate n = omega arith

most_push : (rate whole d n got more v : ℕ) → rate * n ≤ whole * got + d → more ≡ got + v →
    rate * suc n ≤ whole * more + (d + rate - whole * v)
most_push rate whole d n got more v before is =
    omega (arith, push-mul rate n, before, ap (λ (k : ℕ). whole * k) is)

met_push : (rate whole d n got more v : ℕ) → whole * v ≤ d + rate → rate * n ≡ whole * got + d →
    more ≡ got + v →
    rate * suc n ≡ whole * more + (d + rate - whole * v)
met_push rate whole d n got more v owes before is =
    omega (arith, push-mul rate n, before, owes, ap (λ (k : ℕ). whole * k) is)

most_next : (rate whole : ℕ) (f : ℕ → Bool) (j d : ℕ) → Owed rate whole f j d → (i n : ℕ) → i + n ≡ j + 1 →
    rate * n ≤ whole * count f i n + (d + rate - whole * one_if (f j))
most_next rate whole f j d o i zero end = nothing rate whole _ f i
most_next rate whole f j d o i (suc n) end =
    let at : i + n ≡ j = omega arith in
    let v : one_if (f (i + n)) ≡ one_if (f j) = ap (λ (t : ℕ). one_if (f t)) at in
    let push = count-push f i n in
    most_push rate whole d n (count f i n) (count f i (suc n)) (one_if (f j)) (o.most i n at)
    (omega arith)

pub owed_next : (rate whole : ℕ) (f : ℕ → Bool) (j d : ℕ) → Owed rate whole f j d →
    Owed rate whole f (j + 1) (d + rate - whole * one_if (f j))
owed_next rate whole f j d o = elim (cases_lt (d + rate) (whole * one_if (f j))) [
  | inr owes ↦ record {
    most = most_next rate whole f j d o;
    from = o.from;
    ticks = suc o.ticks;
    ends = let e = o.ends in omega arith;
    met =
        let e = o.ends in
        let v : one_if (f (o.from + o.ticks)) ≡ one_if (f j) = ap (λ (t : ℕ). one_if (f t)) e in
        let push = count-push f o.from o.ticks in
        met_push rate whole d o.ticks _ (count f o.from (suc o.ticks)) (one_if (f j)) owes o.met
        (omega arith);
  }
  | inl paid ↦ record {
    most = most_next rate whole f j d o;
    from = j + 1;
    ticks = 0;
    ends = omega arith;
    met = let none = ap (λ v. whole * v) (count-none f (j + 1)) in omega (arith, none, paid);
  }
]

pub next_debt : (rate whole allowed : ℕ) (f : ℕ → Bool) (j d e : ℕ) → e ≡ d + rate - whole * one_if (f j) →
    e ≤ allowed → Debt rate whole allowed f j d → Debt rate whole allowed f (j + 1) e
next_debt rate whole allowed f j d e is small debt =
    let o = owed_next rate whole f j d debt.owed in record {
      owed = rw is o;
      small = small;
      fine = λ i n lo hi. elim (cases_lt j (i + n)) [
        | inl new ↦ omega (arith, o.most i n (let s : i + n ≡ j + 1 = omega arith in s), is, small)
        | inr old ↦ debt.fine i n lo old
      ];
    }

-- more than allowed is owed to some part
pub over_debt : (rate whole allowed : ℕ) (f : ℕ → Bool) (j d e len : ℕ) →
    e ≡ d + rate - whole * one_if (f j) →
    allowed < e → j < len → Debt rate whole allowed f j d →
    EveryPart (λ i n got. rate * n ≤ whole * got + allowed) f 0 len → ⊥
over_debt rate whole allowed f j d e len is over within debt each =
    let o = owed_next rate whole f j d debt.owed in
    let ends = o.ends in
    omega (arith, each o.from o.ticks (omega arith) (omega arith), o.met, is, over)
