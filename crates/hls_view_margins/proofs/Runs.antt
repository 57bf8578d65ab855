-- The part that has the least surplus of those that end with a tick.
use Rattle.std.proofs.Common.{◌≡◌, ℕ, zero, suc, ◌+◌, ◌-◌, ◌*◌, ◌≤◌, Bool, arith, subst, sym, ap, ◌∙◌, inl, inr}
use Rattle.std.proofs.Common.{refl}
use Rattle.std.proofs.lemmas.Bool.{cases_lt}
use Rattle.std.specs.Prelude.{Option, Some, None}
use Rattle.hls_chron.specs.Ticks.{one_if, count}
use Rattle.hls_chron.proofs.CountLaws.{count-push}
use Rattle.hls_view_margins.specs.declared.margin.Part.{Part}
use Rattle.hls_view_margins.specs.declared.scale.Line.{Line}
use Rattle.hls_view_margins.specs.declared.scale.Scale.{Scale}
use Rattle.hls_view_margins.specs.Scales.{at}
use Rattle.hls_view_margins.specs.First.{end_of, IsLess, IsNoMore, IsFirst, IsFirstOf}
use Rattle.hls_view_margins.specs.Parts.{part, IsPart}
use Rattle.hls_view_margins.specs.Inside.Sooner.{IsSoonerOf}
use Rattle.hls_view_margins.specs.Inside.Runs.{Leads}
use Rattle.hls_view_margins.proofs.Sooners.{Joins, sooner_first}
use Rattle.hls_view_margins.proofs.Lengths.{widened}

at_more : (line : Line) (n g b : ℕ) → at line (suc n) (g + b) ≡ at line n g + (line.tick + line.got * b)
at_more line n g b = omega arith

-- one tick more
at_push : (line : Line) (f : ℕ → Bool) (i n t : ℕ) → i + n ≡ t
    → at line (suc n) (count f i (suc n)) ≡ at line n (count f i n) + (line.tick + line.got * one_if (f t))
at_push line f i n t e =
    let push : count f i (suc n) ≡ count f i n + one_if (f t) =
    count-push f i n ∙ ap (λ k. count f i n + one_if (f k)) e in
    ap (λ k. at line (suc n) k) push ∙ at_more line n (count f i n) (one_if (f t))

more_push : (scale : Scale) (f : ℕ → Bool) (a m i n t : ℕ) → a + m ≡ t → i + n ≡ t
    → IsNoMore scale (part f a m) (part f i n) → IsNoMore scale (part f a (suc m)) (part f i (suc n))
more_push scale f a m i n t one two most =
    omega (
      arith,
      most,
      at_push scale.has f a m t one,
      at_push scale.has f i n t two,
      at_push scale.wants f a m t one,
      at_push scale.wants f i n t two,
    )

more_pop : (scale : Scale) (f : ℕ → Bool) (a m i n t : ℕ) → a + m ≡ t → i + n ≡ t
    → IsNoMore scale (part f a (suc m)) (part f i (suc n)) → IsNoMore scale (part f a m) (part f i n)
more_pop scale f a m i n t one two most =
    omega (
      arith,
      most,
      at_push scale.has f a m t one,
      at_push scale.has f i n t two,
      at_push scale.wants f a m t one,
      at_push scale.wants f i n t two,
    )

-- a run that has no surplus goes on
least_on : (scale : Scale) (f : ℕ → Bool) (lo t since m : ℕ) → since + m ≡ t → t - since ≡ m
    → IsNoMore scale (part f since m) (part f t 0) → Leads scale f lo t since
    → (i n : ℕ) → lo ≤ i → i + n ≡ t → IsNoMore scale (part f since m) (part f i n)
least_on scale f lo t since m run long most leads i zero low end =
    let at : i ≡ t = omega arith in
    subst (λ k. IsNoMore scale (part f since m) (part f k 0)) (sym at) most
least_on scale f lo t since m run long most leads i (suc n) low end =
    subst (λ k. IsNoMore scale (part f since k) (part f i (suc n))) long
    (leads.least i (suc n) low (omega arith) end)

first_on : (scale : Scale) (f : ℕ → Bool) (lo t since m : ℕ) → since + m ≡ t → t - since ≡ m
    → Leads scale f lo t since
    → (i n : ℕ) → lo ≤ i → i + n ≡ t → IsNoMore scale (part f i n) (part f since m) → since ≤ i
first_on scale f lo t since m run long leads i zero low end back = omega arith
first_on scale f lo t since m run long leads i (suc n) low end back =
    leads.first i (suc n) low (omega arith) end
    (subst (λ k. IsNoMore scale (part f i (suc n)) (part f since k)) (sym long) back)

least_after : (scale : Scale) (f : ℕ → Bool) (lo t since m : ℕ) → since + m ≡ t → t - since ≡ m
    → IsNoMore scale (part f since m) (part f t 0) → Leads scale f lo t since
    → (i n : ℕ) → lo ≤ i → 1 ≤ n → i + n ≡ t + 1 → IsNoMore scale (part f since (suc m)) (part f i n)
least_after scale f lo t since m run long most leads i zero low some end = absurd (omega arith)
least_after scale f lo t since m run long most leads i (suc n) low some end =
    let before : i + n ≡ t = omega arith in
    more_push scale f since m i n t run before (least_on scale f lo t since m run long most leads i n low before)

first_after : (scale : Scale) (f : ℕ → Bool) (lo t since m : ℕ) → since + m ≡ t → t - since ≡ m
    → Leads scale f lo t since
    → (i n : ℕ) → lo ≤ i → 1 ≤ n → i + n ≡ t + 1 → IsNoMore scale (part f i n) (part f since (suc m)) → since ≤ i
first_after scale f lo t since m run long leads i zero low some end back = absurd (omega arith)
first_after scale f lo t since m run long leads i (suc n) low some end back =
    let before : i + n ≡ t = omega arith in
    first_on scale f lo t since m run long leads i n low before (more_pop scale f i n since m t before run back)

pub goes_on : (scale : Scale) (f : ℕ → Bool) (lo t since : ℕ)
    → IsNoMore scale (part f since (t - since)) (part f t 0) → Leads scale f lo t since
    → Leads scale f lo (t + 1) since
goes_on scale f lo t since most leads =
    let order = leads.ends in
    let run : since + (t - since) ≡ t = omega (arith, order) in
    let long : t + 1 - since ≡ suc (t - since) = omega (arith, order) in
    record {
      begins = leads.begins;
      ends = omega (arith, order);
      least = λ i n low some end.
          subst (λ k. IsNoMore scale (part f since k) (part f i n)) (sym long)
          (least_after scale f lo t since (t - since) run refl most leads i n low some end);
      first = λ i n low some end back.
          first_after scale f lo t since (t - since) run refl leads i n low some end
          (subst (λ k. IsNoMore scale (part f i n) (part f since k)) long back);
    }

-- one that has some is left behind
less_after : (scale : Scale) (f : ℕ → Bool) (lo t since : ℕ)
    → IsLess scale (part f t 0) (part f since (t - since)) → Leads scale f lo t since
    → (i n : ℕ) → lo ≤ i → 1 ≤ n → i + n ≡ t → IsLess scale (part f t 0) (part f i n)
less_after scale f lo t since less leads i n low some end =
    let least = leads.least i n low some end in omega (arith, less, least)

least_anew : (scale : Scale) (f : ℕ → Bool) (lo t since : ℕ)
    → IsLess scale (part f t 0) (part f since (t - since)) → Leads scale f lo t since
    → (i n : ℕ) → lo ≤ i → 1 ≤ n → i + n ≡ t + 1 → IsNoMore scale (part f t 1) (part f i n)
least_anew scale f lo t since less leads i zero low some end = absurd (omega arith)
least_anew scale f lo t since less leads i (suc zero) low some end =
    let at : i ≡ t = omega arith in
    subst (λ k. IsNoMore scale (part f t 1) (part f k 1)) (sym at) (omega arith)
least_anew scale f lo t since less leads i (suc (suc n)) low some end =
    let before : i + suc n ≡ t = omega arith in
    let more = less_after scale f lo t since less leads i (suc n) low (omega arith) before in
    more_push scale f t 0 i (suc n) t (omega arith) before (omega (arith, more))

first_anew : (scale : Scale) (f : ℕ → Bool) (lo t since : ℕ)
    → IsLess scale (part f t 0) (part f since (t - since)) → Leads scale f lo t since
    → (i n : ℕ) → lo ≤ i → 1 ≤ n → i + n ≡ t + 1 → IsNoMore scale (part f i n) (part f t 1) → t ≤ i
first_anew scale f lo t since less leads i zero low some end back = absurd (omega arith)
first_anew scale f lo t since less leads i (suc zero) low some end back = omega arith
first_anew scale f lo t since less leads i (suc (suc n)) low some end back =
    let before : i + suc n ≡ t = omega arith in
    let more = less_after scale f lo t since less leads i (suc n) low (omega arith) before in
    let pop = more_pop scale f i (suc n) t 0 t before (omega arith) back in
    absurd (omega (arith, more, pop))

pub starts_anew : (scale : Scale) (f : ℕ → Bool) (lo t since : ℕ)
    → IsLess scale (part f t 0) (part f since (t - since)) → Leads scale f lo t since
    → Leads scale f lo (t + 1) t
starts_anew scale f lo t since less leads =
    let begins = leads.begins in
    let ends = leads.ends in
    let long : t + 1 - t ≡ 1 = omega arith in
    record {
      begins = omega (arith, begins, ends);
      ends = omega arith;
      least = λ i n low some end.
          subst (λ k. IsNoMore scale (part f t k) (part f i n)) (sym long)
          (least_anew scale f lo t since less leads i n low some end);
      first = λ i n low some end back.
          first_anew scale f lo t since less leads i n low some end
          (subst (λ k. IsNoMore scale (part f i n) (part f t k)) long back);
    }

pub no_run : (scale : Scale) (f : ℕ → Bool) (lo : ℕ) → Leads scale f lo lo lo
no_run scale f lo = record {
  begins = omega arith;
  ends = omega arith;
  least = λ i n low some end. absurd (omega arith);
  first = λ i n low some end _. omega arith;
}

-- ---- all parts, by those that end with a tick

pub record IsEnding (f : ℕ → Bool) (lo tick : ℕ) (p : Part) : Type 0 where
  pub is : IsPart f lo tick p
  pub last : end_of p ≡ tick

ending_joins : (f : ℕ → Bool) (lo t : ℕ)
    → Joins (IsPart f lo t) (IsEnding f lo (t + 1)) (IsPart f lo (t + 1)) t
ending_joins f lo t = record {
  by = λ p is. is.ends;
  after = λ p is. let e = is.last in omega (arith, e);
  left = λ p is. widened f lo t lo (t + 1) p (omega arith) (omega arith) is;
  right = λ p is. is.is;
  either = λ p is.
      let e = is.ends in
      elim (cases_lt t (end_of p)) [
        | inl more ↦ inr (record { is = is; last = omega (arith, e, more) })
        | inr within ↦ inl (record { some = is.some; begins = is.begins; ends = within; got = is.got })
      ];
}

part_is : (f : ℕ → Bool) (p : Part) → p.got ≡ count f p.from p.ticks → part f p.from p.ticks ≡ p
part_is f p got = ap (λ g. record { from = p.from; ticks = p.ticks; got = g }) (sym got)

ending_first : (scale : Scale) (f : ℕ → Bool) (lo t since : ℕ) → since ≤ t → Leads scale f lo (t + 1) since
    → IsFirst scale (IsEnding f lo (t + 1)) (part f since (t + 1 - since))
ending_first scale f lo t since order leads = record {
  is = record {
    is = record {
      some = omega (arith, order);
      begins = leads.begins;
      ends = omega (arith, order);
      got = refl;
    };
    last = omega (arith, order);
  };
  first = λ p is.
      let run = part f since (t + 1 - since) in
      let same = part_is f p is.is.got in
      let b = is.is.begins in
      let e = is.last in
      let s = is.is.some in
      let least = subst (λ (q : Part). IsNoMore scale run q) same (leads.least p.from p.ticks b s e) in
      let first = leads.first p.from p.ticks b s e in
      record {
        no_more = least;
        ends = λ _. omega (arith, order, e);
        begins = λ back _. first (subst (λ (q : Part). IsNoMore scale q run) (sym same) back);
      };
}

pub all_none : (scale : Scale) (f : ℕ → Bool) (lo : ℕ) → IsFirstOf scale (IsPart f lo lo) None
all_none scale f lo p is = let b = is.begins in let e = is.ends in let s = is.some in omega (arith, b, e, s)

pub all_more : (scale : Scale) (f : ℕ → Bool) (lo t since : ℕ) (one taken : Option Part) → since ≤ t
    → Leads scale f lo (t + 1) since → IsSoonerOf scale one (Some (part f since (t + 1 - since))) taken
    → IsFirstOf scale (IsPart f lo t) one → IsFirstOf scale (IsPart f lo (t + 1)) taken
all_more scale f lo t since one taken order leads is first =
    sooner_first scale _ _ _ _ one (Some (part f since (t + 1 - since))) taken (ending_joins f lo t) is first
    (ending_first scale f lo t since order leads)
