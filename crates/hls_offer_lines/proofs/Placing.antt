-- Terms that are no reservation stand in the order of cost by their places.
use Rattle.std.proofs.Common.{◌≡◌, ℕ, ◌+◌, ◌-◌, ◌≤◌, ◌<◌, ◌⊎◌, inl, inr, refl, ap, sym, ◌∙◌, subst, arith, min}
use Rattle.std.specs.Prelude.{Option, None, List, Bool, true, false, IsTrue, ◌↔◌}
use Rattle.std.proofs.lemmas.Bool.{cases_lt}
use Rattle.hls_chron.specs.declared.plain.Kind.TheVariants as kinds
use Rattle.hls_chron.specs.declared.plain.Config.{Config}
use Rattle.hls_chron.specs.declared.plain.Config.TheVariants as configs
use Rattle.hls_chron.specs.declared.plain.Terms.{Terms}
use Rattle.hls_chron.specs.declared.plain.Terms.TheVariants as terms
use Rattle.hls_chron.specs.Kinds.{kind_of}
use Rattle.hls_chron.proofs.ConfigLaws.{of_edf, of_sfq}
use Rattle.hls_kinds.specs.Fits.{Exceeds}
use Rattle.hls_offer_lines.specs.declared.terms.TermsAsked.{TermsAsked}
use Rattle.hls_offer_lines.specs.Cost.{ComesBefore, IsFirst, IsFirstIfAny, IsFit, IsHadOn}
use Rattle.hls_offer_lines.specs.Inside.Places.{NoneBelow, place_count, place_of}

pub edf-alone : (config : Config) → kinds.Edf ≡ kind_of config → config ≡ configs.Edf
edf-alone config e = of_edf (λ config. config ≡ configs.Edf) refl config (sym e)

-- the periods of a list matter to reservations alone
pub fit-anyhow : (config : Config) (some other : Option (List ℕ)) (its : Terms) → (config ≡ configs.Edf → ⊥)
    → IsFit config some its → IsFit config other its
fit-anyhow config some other terms.Cpu apart fit =
    record { range = fit.range; of_kind = fit.of_kind; within = fit.within; period = tt }
fit-anyhow config some other (terms.Prio priority) apart fit =
    record { range = fit.range; of_kind = fit.of_kind; within = fit.within; period = tt }
fit-anyhow config some other (terms.Res hard x y) apart fit = absurd (apart (edf-alone config fit.of_kind))
fit-anyhow config some other (terms.Weight weight) apart fit =
    record { range = fit.range; of_kind = fit.of_kind; within = fit.within; period = tt }
fit-anyhow config some other (terms.Slots places) apart fit =
    record { range = fit.range; of_kind = fit.of_kind; within = fit.within; period = tt }
fit-anyhow config some other terms.Turn apart fit =
    record { range = fit.range; of_kind = fit.of_kind; within = fit.within; period = tt }
fit-anyhow config some other terms.Sole apart fit =
    record { range = fit.range; of_kind = fit.of_kind; within = fit.within; period = tt }

-- ---- each at its place

below-weights : (total weight : ℕ) → 1 ≤ weight → weight ≤ 20 → (total < weight → ⊥) → weight - 1 < min total 20
below-weights total weight some small within = omega arith

below-slots : (frame places : ℕ) → 1 ≤ places → (frame < places → ⊥) → places - 1 < frame
below-slots frame places some within = omega arith

pub fit-below : (config : Config) (its : Terms) → (config ≡ configs.Edf → ⊥) → IsFit config None its
    → place_of its < place_count config
fit-below config (terms.Weight weight) apart fit =
    of_sfq (λ config. ¬ Exceeds config (terms.Weight weight) → weight - 1 < place_count config)
    (λ s within. below-weights s.total weight fit.range.0 fit.range.1 within) config (sym fit.of_kind) fit.within
fit-below configs.Edf its apart fit = absurd (apart refl)
fit-below configs.Fp (terms.Prio priority) apart fit = omega arith
fit-below (configs.Wheel frame) (terms.Slots places) apart fit =
    below-slots frame places fit.range.0 fit.within
fit-below (configs.Rr quantum) terms.Turn apart fit = omega arith
fit-below (configs.Join ports) terms.Sole apart fit = omega arith
fit-below configs.Cpu terms.Cpu apart fit = omega arith
fit-below _ _ apart fit = absurd (let no : ⊥ = (let e = fit.of_kind in cc) in no)

same-prio : (p q : ℕ) → p ≤ 31 → q ≤ 31 → 31 - p ≡ 31 - q → p ≡ q
same-prio p q small also same = omega arith

same-less : (p q : ℕ) → 1 ≤ p → 1 ≤ q → p - 1 ≡ q - 1 → p ≡ q
same-less p q some also same = omega arith

pub fit-same : (config : Config) (its other : Terms) → (config ≡ configs.Edf → ⊥) → IsFit config None its
    → IsFit config None other → place_of its ≡ place_of other → its ≡ other
fit-same config (terms.Prio p) (terms.Prio q) apart fit also same =
    ap (λ (n : ℕ). terms.Prio n) (same-prio p q fit.range also.range same)
fit-same config (terms.Weight p) (terms.Weight q) apart fit also same =
    ap (λ (n : ℕ). terms.Weight n) (same-less p q fit.range.0 also.range.0 same)
fit-same config (terms.Slots p) (terms.Slots q) apart fit also same =
    ap (λ (n : ℕ). terms.Slots n) (same-less p q fit.range.0 also.range.0 same)
fit-same config terms.Cpu terms.Cpu apart fit also same = refl
fit-same config terms.Turn terms.Turn apart fit also same = refl
fit-same config terms.Sole terms.Sole apart fit also same = refl
fit-same config (terms.Res hard x y) other apart fit also same = absurd (apart (edf-alone config fit.of_kind))
fit-same config its other apart fit also same =
    absurd (let no : ⊥ = (let e = fit.of_kind in let f = also.of_kind in cc) in no)

pub before-less : (config : Config) (its other : Terms) → (config ≡ configs.Edf → ⊥) → IsFit config None its
    → IsFit config None other → ComesBefore its other → place_of its < place_of other
before-less config (terms.Prio p) (terms.Prio q) apart fit also before =
    let small : p ≤ 31 = fit.range in omega arith
before-less config (terms.Weight p) (terms.Weight q) apart fit also before =
    let some = fit.range.0 in omega arith
before-less config (terms.Slots p) (terms.Slots q) apart fit also before =
    let some = fit.range.0 in omega arith
before-less config (terms.Res hard x y) (terms.Res rigid u v) apart fit also before =
    absurd (apart (edf-alone config fit.of_kind))
before-less config _ _ apart fit also before = absurd before

-- ---- place by place

pub when-true : (P : Type 0) (b : Bool) → b ≡ true → (IsTrue b ↔ P) → P
when-true P b is told = told.0 is

pub when-false : (P : Type 0) (b : Bool) → b ≡ false → (IsTrue b ↔ P) → P → ⊥
when-false P b is told held = (let both = told.1 held in let none : ⊥ = cc in none)

pub less-or-same : (a b : ℕ) → a < b + 1 → (a < b) ⊎ (a ≡ b)
less-or-same a b less = elim (split a b) [ inl lower ↦ inl lower | inr more ↦ inr (omega arith) ]
  where
    split : (a b : ℕ) → (a < b) ⊎ (b ≤ a)
    split a b = cases_lt a b

pub none-more : (asked : TermsAsked) (at : ℕ) (its : Terms) → (asked.config ≡ configs.Edf → ⊥)
    → IsFit asked.config None its → place_of its ≡ at → (IsHadOn asked its → ⊥) → NoneBelow asked at
    → NoneBelow asked (at + 1)
none-more asked at its apart fit there lacks none other also less had =
    elim (less-or-same (place_of other) at less) [
      | inl lower ↦ none other also lower had
      | inr same ↦
          lacks (subst (IsHadOn asked) (fit-same asked.config other its apart also fit (same ∙ sym there)) had)
    ]

pub first-there : (asked : TermsAsked) (periods : Option (List ℕ)) (at : ℕ) (its : Terms)
    → (asked.config ≡ configs.Edf → ⊥) → IsFit asked.config None its → place_of its ≡ at → IsHadOn asked its
    → NoneBelow asked at → IsFirst asked periods its
first-there asked periods at its apart fit there had none = record {
  fits = fit-anyhow asked.config None periods its apart fit;
  had = had;
  first = λ other also has before.
      let plain = fit-anyhow asked.config periods None other apart also in
      let less = before-less asked.config other its apart plain fit before in
      none other plain (omega (arith, less, there)) has;
}

pub first-none : (asked : TermsAsked) (periods : Option (List ℕ)) (at : ℕ) → (asked.config ≡ configs.Edf → ⊥)
    → place_count asked.config ≤ at → NoneBelow asked at → IsFirstIfAny asked periods None
first-none asked periods at apart all none its also had =
    let plain = fit-anyhow asked.config periods None its apart also in
    let below = fit-below asked.config its apart plain in
    none its plain (omega (arith, below, all)) had
