-- The words behind a question state one list of periods, one tick and one depth.
use Rattle.std.proofs.Common.{◌≡◌, ℕ, ◌+◌, ◌≤◌, List, [], ◌∷◌, ◌++◌, refl, sym, ap, ◌∙◌, arith, codes, true, false}
use Rattle.std.specs.Prelude.{Option, Some, None, decimal, map}
use Rattle.std.proofs.lemmas.Fmt.{decimal_injective}
use Rattle.hls_text.specs.Lines.{Text}
use Rattle.hls_text.specs.Numbers.{are_digits}
use Rattle.hls_text.proofs.NumberLaws.{digits_of_decimal}
use Rattle.hls_offer_words.specs.Table.{over_words, option_words, moment_words, IsAtMost, ArePeriods, Rise}

pub firsts : {A : Type 0} (a b : A) (xs ys : List A) → a ∷ xs ≡ b ∷ ys → a ≡ b
firsts a b xs ys e = cc

pub others : {A : Type 0} (a b : A) (xs ys : List A) → a ∷ xs ≡ b ∷ ys → xs ≡ ys
others a b xs ys e = cc

pub apart : (a b : ℕ) (xs ys : Text) → (a ≡ b → ⊥) → a ∷ xs ≡ b ∷ ys → ⊥
apart a b xs ys differ e = differ (firsts a b xs ys e)

pub not_none : {A : Type 0} (a : A) (xs : List A) → [] ≡ a ∷ xs → ⊥
not_none a xs e = cc

-- ---- numbers

one_number : (n m : ℕ) → n ≤ 99999 → m ≤ 99999 → decimal n ≡ decimal m → n ≡ m
one_number n m small few e = decimal_injective n m (omega (arith, small)) (omega (arith, few)) e

no_number : (word : Text) (n : ℕ) → are_digits word ≡ false → n ≤ 99999 → word ≡ decimal n → ⊥
no_number word n other small e =
    let digits = digits_of_decimal n (omega (arith, small)) in
    let same : are_digits word ≡ true = ap are_digits e ∙ digits in
    absurd (let no : ⊥ = cc in no)

-- ---- the depth, and the tick before it

one_depth : (d e : Option ℕ) → IsAtMost 6 d → IsAtMost 6 e
    → option_words (codes "--depth") d ≡ option_words (codes "--depth") e → d ≡ e
one_depth None None small few same = refl
one_depth None (Some e) small few same = absurd (not_none (codes "--depth") (decimal e ∷ []) same)
one_depth (Some d) None small few same = absurd (not_none (codes "--depth") (decimal d ∷ []) (sym same))
one_depth (Some d) (Some e) small few same =
    let rest = others (codes "--depth") (codes "--depth") (decimal d ∷ []) (decimal e ∷ []) same in
    ap (λ (n : ℕ). Some n) (one_number d e (omega (arith, small)) (omega (arith, few))
    (firsts (decimal d) (decimal e) [] [] rest))

depth_no_tick : (d : Option ℕ) (more : List Text) → option_words (codes "--depth") d ≡ codes "--at" ∷ more → ⊥
depth_no_tick None more e = not_none (codes "--at") more e
depth_no_tick (Some d) more e =
    let words = firsts (codes "--depth") (codes "--at") (decimal d ∷ []) more e in
    let second = others 45 45 (codes "-depth") (codes "-at") words in
    apart 100 97 (codes "epth") (codes "t") (λ (n : 100 ≡ 97). omega (arith, n))
    (others 45 45 (codes "depth") (codes "at") second)

pub record AreOne (at other d e : Option ℕ) : Type 0 where
  pub tick : at ≡ other
  pub depth : d ≡ e

pub one_moment : (at other d e : Option ℕ) → IsAtMost 99999 at → IsAtMost 99999 other → IsAtMost 6 d → IsAtMost 6 e
    → moment_words at d ≡ moment_words other e → AreOne at other d e
one_moment None None d e low high small few same = record { tick = refl; depth = one_depth d e small few same }
one_moment None (Some t) d e low high small few same =
    absurd (depth_no_tick d (decimal t ∷ option_words (codes "--depth") e) same)
one_moment (Some t) None d e low high small few same =
    absurd (depth_no_tick e (decimal t ∷ option_words (codes "--depth") d) (sym same))
one_moment (Some t) (Some u) d e low high small few same =
    let one = option_words (codes "--depth") d in
    let two = option_words (codes "--depth") e in
    let rest = others (codes "--at") (codes "--at") (decimal t ∷ one) (decimal u ∷ two) same in
    record {
      tick = ap (λ (n : ℕ). Some n) (one_number t u low high (firsts (decimal t) (decimal u) one two rest));
      depth = one_depth d e small few (others (decimal t) (decimal u) one two rest);
    }

-- ---- the periods before them

moment_first : (at d : Option ℕ) (word : Text) (more : List Text) → (codes "--at" ≡ word → ⊥)
    → (codes "--depth" ≡ word → ⊥) → moment_words at d ≡ word ∷ more → ⊥
moment_first (Some t) d word more no_tick no_depth e =
    no_tick (firsts (codes "--at") word (decimal t ∷ option_words (codes "--depth") d) more e)
moment_first None (Some n) word more no_tick no_depth e =
    no_depth (firsts (codes "--depth") word (decimal n ∷ []) more e)
moment_first None None word more no_tick no_depth e = not_none word more e

moment_no_number : (at d : Option ℕ) (n : ℕ) (more : List Text) → n ≤ 99999 → moment_words at d ≡ decimal n ∷ more → ⊥
moment_no_number at d n more small e =
    moment_first at d (decimal n) more (no_number (codes "--at") n refl small)
    (no_number (codes "--depth") n refl small)
    e

moment_no_over : (at d : Option ℕ) (more : List Text) → moment_words at d ≡ codes "over" ∷ more → ⊥
moment_no_over at d more e =
    moment_first at d (codes "over") more
    (apart 45 111 (codes "-at") (codes "ver") (λ (n : 45 ≡ 111). omega (arith, n)))
    (apart 45 111 (codes "-depth") (codes "ver") (λ (n : 45 ≡ 111). omega (arith, n))) e

record AreBoth (ns ms : List ℕ) (at other d e : Option ℕ) : Type 0 where
  pub numbers : ns ≡ ms
  pub words : moment_words at d ≡ moment_words other e

one_list : (from to most last : ℕ) (ns ms : List ℕ) (at other d e : Option ℕ) → most ≤ 20000 → last ≤ 20000
    → Rise from most ns → Rise to last ms
    → map decimal ns ++ moment_words at d ≡ map decimal ms ++ moment_words other e
    → AreBoth ns ms at other d e
one_list from to most last [] [] at other d e le fits rise rises same = record { numbers = refl; words = same }
one_list from to most last [] (m ∷ ms) at other d e le fits rise rises same =
    let small = rises.1 in
    absurd (moment_no_number at d m (map decimal ms ++ moment_words other e) (omega (arith, small, fits)) same)
one_list from to most last (n ∷ ns) [] at other d e le fits rise rises same =
    let small = rise.1 in
    absurd (moment_no_number other e n (map decimal ns ++ moment_words at d) (omega (arith, small, le)) (sym same))
one_list from to most last (n ∷ ns) (m ∷ ms) at other d e le fits rise rises same =
    let one = map decimal ns ++ moment_words at d in
    let two = map decimal ms ++ moment_words other e in
    let small = rise.1 in
    let few = rises.1 in
    let is = one_number n m (omega (arith, small, le)) (omega (arith, few, fits))
    (firsts (decimal n) (decimal m) one two same) in
    let rest = one_list (n + 1) (m + 1) most last ns ms at other d e le fits rise.2 rises.2
    (others (decimal n) (decimal m) one two same) in
    record {
      numbers = ap (λ (k : ℕ). k ∷ ns) is ∙ ap (λ (ks : List ℕ). m ∷ ks) rest.numbers;
      words = rest.words;
    }

pub record AreAlike (ns ms : Option (List ℕ)) (at other d e : Option ℕ) : Type 0 where
  pub periods : ns ≡ ms
  pub words : moment_words at d ≡ moment_words other e

pub one_tail : (most last : ℕ) (ns ms : Option (List ℕ)) (at other d e : Option ℕ) → most ≤ 20000 → last ≤ 20000
    → ArePeriods most ns → ArePeriods last ms
    → over_words ns ++ moment_words at d ≡ over_words ms ++ moment_words other e → AreAlike ns ms at other d e
one_tail most last None None at other d e le fits are those same = record { periods = refl; words = same }
one_tail most last None (Some ms) at other d e le fits are those same =
    absurd (moment_no_over at d (map decimal ms ++ moment_words other e) same)
one_tail most last (Some ns) None at other d e le fits are those same =
    absurd (moment_no_over other e (map decimal ns ++ moment_words at d) (sym same))
one_tail most last (Some ns) (Some ms) at other d e le fits are those same =
    let both = one_list 1 1 most last ns ms at other d e le fits are.2 those.2
    (others (codes "over") (codes "over") (map decimal ns ++ moment_words at d) (map decimal ms ++ moment_words other e)
    same) in
    record { periods = ap (λ (ks : List ℕ). Some ks) both.numbers; words = both.words }

-- ---- what stands behind a question is no `on`

pub tail_no_on : (ns : Option (List ℕ)) (at d : Option ℕ) (more : List Text)
    → over_words ns ++ moment_words at d ≡ codes "on" ∷ more → ⊥
tail_no_on None at d more e =
    moment_first at d (codes "on") more
    (apart 45 111 (codes "-at") (codes "n") (λ (n : 45 ≡ 111). omega (arith, n)))
    (apart 45 111 (codes "-depth") (codes "n") (λ (n : 45 ≡ 111). omega (arith, n))) e
tail_no_on (Some ns) at d more e =
    apart 118 110 (codes "er") [] (λ (n : 118 ≡ 110). omega (arith, n))
    (others 111 111 (codes "ver") (codes "n")
    (firsts (codes "over") (codes "on") (map decimal ns ++ moment_words at d) more e))
