-- Fractions that are read stand at the front, and those that stand there are read.
use Rattle.std.proofs.Common.{◌≡◌, ℕ, suc, zero, ◌+◌, ◌^◌, ◌<◌, ◌≤◌, Bool, true, false, cond, List}
use Rattle.std.proofs.Common.{[], ◌∷◌, ◌++◌, inl, inr}
use Rattle.std.proofs.Common.{length, get_or, take, drop, refl, sym, ap, ◌∙◌, subst, arith}
use Rattle.std.specs.Prelude.{◌&&◌, ◌||◌, ◌==◌, nat_le, nat_lt, codes, decimal, Ok}
use Rattle.std.specs.Prelude.{Option, Some, None, option_map}
use Rattle.std.specs.List.{list_any, position_or_len}
use Rattle.std.proofs.Math.Nat.{zero-lt-suc}
use Rattle.std.proofs.Math.Seq.{take-append_seam}
use Rattle.std.proofs.lemmas.Bool.{eqb-true, ltb-true, leb-true, le-leb}
use Rattle.std.proofs.lemmas.List.Sums.{split_at_first, passes_at_first}
use Rattle.hls_text.specs.Lines.{Text}
use Rattle.hls_text.specs.Numbers.{number_of}
use Rattle.hls_text.proofs.NumberLaws.{number_is, number_again}
use Rattle.hls_frac.specs.declared.Frac.{Frac}
use Rattle.hls_frac.specs.Frac.{IsQuotient}
use Rattle.hls_frac.proofs.Quotients.{quotient_of}
use Rattle.hls_text.proofs.FirstMarks.{position_first}
use Rattle.hls_text.proofs.Marks.{decimal-lacks}
use Rattle.hls_lang.specs.declared.fault.Cause.TheVariants as causes
use Rattle.hls_text.specs.Cuts.{cut_at}
use Rattle.hls_lang.specs.Words.{quotient, narrow_quotient, parts_fraction, fraction_of}
use Rattle.hls_lang.specs.Words.{fraction_test, fraction_at, rate_test, rate_at}
use Rattle.hls_scenario.specs.Forms.{fraction}
use Rattle.hls_scenario.specs.Grammar.{IsSpelled, IsFraction}
use Rattle.hls_lang.proofs.Binds.{bind_ok, bind_again, carried, some_is, test_ok, test_again, and_left}
use Rattle.hls_lang.proofs.Binds.{and_right, and_both}
use Rattle.hls_lang.proofs.Fronts.{Front}
use Rattle.hls_lang.proofs.Quotients.{is_quotient}

-- ---- before and after a byte

abbrev pub Parts : Type 0
Parts = Text × Text

found_is : (place : ℕ) (b : Bool) (text : Text) (parts : Parts)
    → option_map (λ i. (take i text, drop (i + 1) text)) (cond b (Some place) None) ≡ Some parts
    → (b ≡ true) × (take place text ≡ parts.0) × (drop (place + 1) text ≡ parts.1)
found_is place true text parts e = (refl, cc, cc)
found_is place false text parts e = absurd cc

cut_is : (byte : ℕ) (text : Text) (parts : Parts) → cut_at byte text ≡ Some parts
    → text ≡ parts.0 ++ byte ∷ parts.1
cut_is byte text parts e =
    let place : ℕ = position_or_len (λ b. b == byte) text in
    let h = found_is place (nat_lt place (length text)) text parts e in
    let within : place < length text = ltb-true place (length text) h.0 in
    let is : get_or text place 0 ≡ byte =
    eqb-true (get_or text place 0) byte (passes_at_first (λ b. b == byte) text 0 within) in
    split_at_first (λ b. b == byte) text 0 within
    ∙ ap (λ (x : Text). x ++ get_or text place 0 ∷ drop (place + 1) text) h.1
    ∙ ap (λ (x : Text). parts.0 ++ get_or text place 0 ∷ x) h.2 ∙ ap (λ (x : ℕ). parts.0 ++ x ∷ parts.1) is

drop_one : (front rest : Text) (byte : ℕ) → drop (length front + 1) (front ++ byte ∷ rest) ≡ rest
drop_one [] rest byte = refl
drop_one (b ∷ bs) rest byte =
    let e : suc (length bs) + 1 ≡ suc (length bs + 1) = omega arith in
    rw e (drop_one bs rest byte)

cut_again : (byte : ℕ) (front rest : Text) → list_any (λ b. b == byte) front ≡ false
    → cut_at byte (front ++ byte ∷ rest) ≡ Some (front, rest)
cut_again byte front rest lacks =
    ap (option_map (λ i. (take i (front ++ byte ∷ rest), drop (i + 1) (front ++ byte ∷ rest))))
    (position_first byte (front ++ byte ∷ rest) front rest refl lacks)
    ∙ ap (λ (x : Text). Some (x, drop (length front + 1) (front ++ byte ∷ rest)))
    (take-append_seam front (byte ∷ rest))
    ∙ ap (λ (x : Text). Some (front, x)) (drop_one front rest byte)

either_false : (p : ℕ → Bool) (b : ℕ) (bs : Text) → list_any p (b ∷ bs) ≡ false
    → (p b ≡ false) × (list_any p bs ≡ false)
either_false p b bs e = by_first (p b) e
  where
    by_first : (c : Bool) → (c || list_any p bs) ≡ false → (c ≡ false) × (list_any p bs ≡ false)
    by_first true f = absurd cc
    by_first false f = (refl, f)

no_place : (byte : ℕ) (text : Text) → list_any (λ b. b == byte) text ≡ false
    → position_or_len (λ b. b == byte) text ≡ length text
no_place byte [] lacks = refl
no_place byte (b ∷ bs) lacks =
    let h = either_false (λ x. x == byte) b bs lacks in
    let more = no_place byte bs h.1 in
    rw h.0 (omega (arith, more))

not_less : (n : ℕ) → nat_lt n n ≡ false
not_less n = search (arith)

cut_none : (byte : ℕ) (text : Text) → list_any (λ b. b == byte) text ≡ false → cut_at byte text ≡ None
cut_none byte text lacks =
    ap (λ n. option_map (λ i. (take i text, drop (i + 1) text)) (cond (nat_lt n (length text)) (Some n) None))
    (no_place byte text lacks)
    ∙ ap (λ b. option_map (λ i. (take i text, drop (i + 1) text)) (cond b (Some (length text)) None))
    (not_less (length text))

-- ---- the value

quotient_is : (num den : ℕ) (f : Frac) → quotient num den ≡ Some f → (1 ≤ den) × IsQuotient f num den
quotient_is num zero f e = absurd cc
quotient_is num (suc den) f e =
    let q = quotient_of num (suc den) (zero-lt-suc den) in
    subst (λ (g : Frac). (1 ≤ suc den) × IsQuotient g num (suc den)) (some_is q.0 f e) (omega arith, q.1)

-- two numbers that a fraction is written with
pub record Written (num_of den_of : Option ℕ) (f : Frac) : Type 0 where
  pub num : ℕ
  pub den : ℕ
  pub num_is : num_of ≡ Some num
  pub den_is : den_of ≡ Some den
  pub num_fits : num ≤ 10 ^ 10
  pub some : 1 ≤ den
  pub den_fits : den ≤ 10 ^ 6
  pub value : IsQuotient f num den

where_some : {A : Type 0} (b : Bool) (o : Option A) (x : A) → cond b o None ≡ Some x
    → (b ≡ true) × (o ≡ Some x)
where_some true o x e = (refl, e)
where_some false o x e = absurd cc

narrow_is : (num_of den_of : Option ℕ) (f : Frac) → narrow_quotient num_of den_of ≡ Some f
    → Written num_of den_of f
narrow_is None den_of f e = absurd cc
narrow_is (Some num) None f e = absurd cc
narrow_is (Some num) (Some den) f e =
    let h = where_some (nat_le num (10 ^ 10) && nat_le den (10 ^ 6)) (quotient num den) f e in
    let q = quotient_is num den f h.1 in
    record {
      num = num;
      den = den;
      num_is = refl;
      den_is = refl;
      num_fits = leb-true num (10 ^ 10) (and_left (nat_le num (10 ^ 10)) _ h.0);
      some = q.0;
      den_fits = leb-true den (10 ^ 6) (and_right (nat_le num (10 ^ 10)) _ h.0);
      value = q.1;
    }

narrow_again : (num den : ℕ) (f : Frac) → num ≤ 10 ^ 10 → 1 ≤ den → den ≤ 10 ^ 6 → IsQuotient f num den
    → narrow_quotient (Some num) (Some den) ≡ Some f
narrow_again num den f num_fits some den_fits value =
    let fits : (nat_le num (10 ^ 10) && nat_le den (10 ^ 6)) ≡ true =
    and_both (nat_le num (10 ^ 10)) (nat_le den (10 ^ 6)) (le-leb num (10 ^ 10) num_fits)
    (le-leb den (10 ^ 6) den_fits)
    in
    ap (λ b. cond b (quotient num den) None) fits ∙ is_quotient f num den some value

one_is : (den : ℕ) → number_of (codes "1") ≡ Some den → den ≡ 1
one_is den e = sym (some_is 1 den e)

parts_is : (token : Text) (parts : Option Parts) (f : Frac) → cut_at 47 token ≡ parts
    → parts_fraction token parts ≡ Some f → IsFraction token f
parts_is token None f cut e =
    let w = narrow_is (number_of token) (number_of (codes "1")) f e in
    let num_small : w.num < 2 ^ 64 = let le = w.num_fits in omega arith in
    record {
      num = w.num;
      den = w.den;
      spelled = inr (one_is w.den w.den_is, number_is token w.num num_small w.num_is);
      num_fits = w.num_fits;
      den_fits = (w.some, w.den_fits);
      value = w.value;
    }
parts_is token (Some p) f cut e =
    let w = narrow_is (number_of p.0) (number_of p.1) f e in
    let num_small : w.num < 2 ^ 64 = let le = w.num_fits in omega arith in
    let den_small : w.den < 2 ^ 64 = let le = w.den_fits in omega arith in
    let num : p.0 ≡ decimal w.num = number_is p.0 w.num num_small w.num_is in
    let den : p.1 ≡ decimal w.den = number_is p.1 w.den den_small w.den_is in
    record {
      num = w.num;
      den = w.den;
      spelled = inl (cut_is 47 token p cut ∙ ap (λ (x : Text). x ++ 47 ∷ p.1) num
          ∙ ap (λ (x : Text). decimal w.num ++ 47 ∷ x) den);
      num_fits = w.num_fits;
      den_fits = (w.some, w.den_fits);
      value = w.value;
    }

pub fraction_is : (token : Text) (f : Frac) → fraction_of token ≡ Some f → IsFraction token f
unfolding fraction_of
fraction_is token f e = parts_is token (cut_at 47 token) f refl e

spelled_again : (token : Text) (num den : ℕ) (f : Frac) → IsSpelled token num den → num ≤ 10 ^ 10 → 1 ≤ den
    → den ≤ 10 ^ 6 → IsQuotient f num den → fraction_of token ≡ Some f
unfolding fraction_of
spelled_again token num den f (inl whole) num_fits some den_fits value =
    let small : num < 2 ^ 64 = omega arith in
    let lacks = decimal-lacks 47 num (omega arith) (omega arith) in
    ap (λ t. parts_fraction t (cut_at 47 t)) whole
    ∙ ap (parts_fraction (decimal num ++ 47 ∷ decimal den)) (cut_again 47 (decimal num) (decimal den) lacks)
    ∙ ap (λ o. narrow_quotient o (number_of (decimal den))) (number_again num small)
    ∙ ap (λ o. narrow_quotient (Some num) o) (number_again den (omega arith))
    ∙ narrow_again num den f num_fits some den_fits value
spelled_again token num den f (inr whole) num_fits some den_fits value =
    let small : num < 2 ^ 64 = omega arith in
    let lacks = decimal-lacks 47 num (omega arith) (omega arith) in
    let is_one : IsQuotient f num 1 = subst (λ d. IsQuotient f num d) whole.0 value in
    ap (λ t. parts_fraction t (cut_at 47 t)) whole.1
    ∙ ap (parts_fraction (decimal num)) (cut_none 47 (decimal num) lacks)
    ∙ ap (λ o. narrow_quotient o (number_of (codes "1"))) (number_again num small)
    ∙ narrow_again num 1 f num_fits (omega arith) (omega arith) is_one

pub fraction_again : (token : Text) (f : Frac) → IsFraction token f → fraction_of token ≡ Some f
fraction_again token f is =
    spelled_again token is.num is.den f is.spelled is.num_fits is.den_fits.0 is.den_fits.1 is.value

-- ---- at the front

abbrev pub FractionFront : List Text → Frac × List Text → Type 0
FractionFront ts p = Front (fraction p.0 ∷ []) ts p.1

test_is : (o : Option Frac) (ts : List Text) (p : Frac × List Text) → fraction_test o ts ≡ Ok p
    → (o ≡ Some p.0) × (ts ≡ p.1)
test_is None ts p e = absurd cc
test_is (Some f) ts p e = carried (λ (q : Frac × List Text). (Some f ≡ Some q.0) × (ts ≡ q.1)) (f, ts) p
    e (refl, refl)

pub fraction_front : (ts : List Text) (p : Frac × List Text) → fraction_at ts ≡ Ok p → FractionFront ts p
fraction_front [] p e = absurd cc
fraction_front (t ∷ ts) p e =
    let h = test_is (fraction_of t) ts p e in
    (fraction_is t p.0 h.0, h.1)

pub fraction_next : (ts : List Text) (f : Frac) (rest : List Text) → Front (fraction f ∷ []) ts rest
    → fraction_at ts ≡ Ok (f, rest)
fraction_next [] f rest a = absurd a
fraction_next (t ∷ ts) f rest a =
    ap (λ o. fraction_test o ts) (fraction_again t f a.0) ∙ ap (λ (x : List Text). Ok (f, x)) a.1

-- a fraction above 0 and at most 1
abbrev pub RateFront : List Text → Frac × List Text → Type 0
RateFront ts p = (1 ≤ p.0.num) × (p.0.num ≤ p.0.den) × Front (fraction p.0 ∷ []) ts p.1

pub rate_front : (ts : List Text) (p : Frac × List Text) → rate_at ts ≡ Ok p → RateFront ts p
rate_front ts p e =
    let a = bind_ok (fraction_at ts) rate_test p e in
    let h = test_ok (nat_le 1 a.0.0.num && nat_le a.0.0.num a.0.0.den) causes.Number a.0 p a.2 in
    subst (RateFront ts) h.1 (
      leb-true 1 a.0.0.num (and_left (nat_le 1 a.0.0.num) _ h.0),
      leb-true a.0.0.num a.0.0.den (and_right (nat_le 1 a.0.0.num) _ h.0),
      fraction_front ts a.0 a.1,
    )

pub rate_next : (ts : List Text) (f : Frac) (rest : List Text) → 1 ≤ f.num → f.num ≤ f.den
    → Front (fraction f ∷ []) ts rest → rate_at ts ≡ Ok (f, rest)
rate_next ts f rest some fits a =
    bind_again (fraction_at ts) rate_test (f, rest) (f, rest) (fraction_next ts f rest a)
    (test_again (nat_le 1 f.num && nat_le f.num f.den) causes.Number (Ok (f, rest)) (f, rest)
    (and_both (nat_le 1 f.num) (nat_le f.num f.den) (le-leb 1 f.num some) (le-leb f.num f.den fits)) refl)
