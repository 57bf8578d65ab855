-- The first reservation: the cheapest, and for hard blocks that of the blocks themselves.
use Rattle.std.proofs.Common.{◌≡◌, ℕ, ◌≤◌, ◌<◌, inl, inr, Bool, true, false, List, []}
use Rattle.std.proofs.Common.{◌∷◌, ◌++◌, ◌+◌, get_or, refl, sym, subst, arith}
use Rattle.std.specs.Prelude.{Option, Some, None, Contains, Result, IfOk, All as Each}
use Rattle.std.proofs.lemmas.Result.{IfOk-weaker}
use Rattle.std.proofs.lemmas.List.Elements.{All-append, Contains-append_left, Contains-append_right}
use Rattle.hls_chron.specs.declared.plain.Kind.TheVariants as kinds
use Rattle.hls_chron.specs.declared.plain.Config.{Config}
use Rattle.hls_chron.specs.declared.plain.Config.TheVariants as configs
use Rattle.hls_chron.specs.declared.plain.Terms.{Terms}
use Rattle.hls_chron.specs.declared.plain.Terms.TheVariants as terms
use Rattle.hls_chron.specs.Kinds.{kind_of, terms_kind}
use Rattle.hls_chron.specs.Parts.{parts}
use Rattle.hls_chron.specs.Ranges.{TermsInRange}
use Rattle.hls_guarantee.specs.declared.Guarantee.TheVariants.{Resb}
use Rattle.hls_guarantee.specs.Limits.{IsNarrow}
use Rattle.hls_offer_laws.specs.Offered.{IsOffered}
use Rattle.hls_offer_laws.specs.Candidates.{reservation}
use Rattle.hls_offer_best.specs.declared.reservations.Need.{Need}
use Rattle.hls_offer_best.specs.declared.reservations.Budget.{Budget}
use Rattle.hls_offer_best.specs.Reservations.{ComesFirst, IsCheapest, IsCheapestIfAny}
use Rattle.hls_offer_best.specs.Inside.Trying.{budget}
use Rattle.hls_offer_lines.specs.declared.terms.TermsAsked.{TermsAsked}
use Rattle.hls_offer_lines.specs.Cost.{ComesBefore, IsFirst, IsFirstIfAny, IsFit, IsHadOn, IsPeriodOf}
use Rattle.hls_offer_lines.proofs.Placing.{less-or-same}

abbrev pub need_of : TermsAsked → Need
need_of asked = record { haves = asked.haves; depth = asked.depth; wanted = asked.wanted }

module _ (asked : TermsAsked) (edf : asked.config ≡ configs.Edf) where
  pub offered-by : (hard : Bool) (x y : ℕ) → IsHadOn asked (terms.Res hard x y)
      → IsOffered (reservation hard x y) asked.haves.now asked.depth asked.wanted
  offered-by hard x y had =
      subst (λ (v : Config). IsOffered (record { config = v; terms = terms.Res hard x y }) asked.haves.now asked.depth
      asked.wanted) edf had

  pub had-by : (hard : Bool) (x y : ℕ) → IsOffered (reservation hard x y) asked.haves.now asked.depth asked.wanted
      → IsHadOn asked (terms.Res hard x y)
  had-by hard x y offers =
      subst (λ (v : Config). IsOffered (record { config = v; terms = terms.Res hard x y }) asked.haves.now asked.depth
      asked.wanted) (sym edf) offers

  pub fit-res : (periods : Option (List ℕ)) (hard : Bool) (x y : ℕ) → TermsInRange (terms.Res hard x y)
      → IsPeriodOf periods y → IsFit asked.config periods (terms.Res hard x y)
  fit-res periods hard x y range period =
      subst (λ (v : Config). IsFit v periods (terms.Res hard x y)) (sym edf)
      (record { range = range; of_kind = refl; within = λ no. no; period = period })

  -- only reservations fit
  pub by-res : (periods : Option (List ℕ)) (P : Terms → Type 0)
      → ((hard : Bool) (x y : ℕ) → IsFit asked.config periods (terms.Res hard x y) → P (terms.Res hard x y))
      → (its : Terms) → IsFit asked.config periods its → P its
  by-res periods P each its fit =
      at-terms its (subst (λ (v : Config). terms_kind its ≡ kind_of v) edf fit.of_kind) fit
    where
      at-terms : (its : Terms) → terms_kind its ≡ kinds.Edf → IsFit asked.config periods its → P its
      at-terms (terms.Res hard x y) e fit = each hard x y fit
      at-terms terms.Cpu e fit = absurd (let no : ⊥ = cc in no)
      at-terms (terms.Prio priority) e fit = absurd (let no : ⊥ = cc in no)
      at-terms (terms.Weight weight) e fit = absurd (let no : ⊥ = cc in no)
      at-terms (terms.Slots places) e fit = absurd (let no : ⊥ = cc in no)
      at-terms terms.Turn e fit = absurd (let no : ⊥ = cc in no)
      at-terms terms.Sole e fit = absurd (let no : ⊥ = cc in no)

  -- ---- the cheapest

  not-before : (best b : Budget) (hard : Bool) → ComesFirst best b
      → ComesBefore (terms.Res hard b.x b.y) (terms.Res false best.x best.y) → ⊥
  not-before best b hard (inl less) (inl more) = omega arith
  not-before best b hard (inl less) (inr same) = omega (arith, same.0)
  not-before best b hard (inr same) (inl more) = omega (arith, same.0)
  not-before best b hard (inr same) (inr (also, inl longer)) = omega (arith, same.1)
  not-before best b hard (inr same) (inr (also, inr (period, soft, rigid))) = (let none : ⊥ = cc in none)

  cheapest-first : (periods : List ℕ) (best : Budget) → IsCheapest (need_of asked) periods best
      → IsFirst asked (Some periods) (terms.Res false best.x best.y)
  cheapest-first periods best is = record {
    fits = fit-res (Some periods) false best.x best.y is.of.range is.of.period;
    had = had-by false best.x best.y is.meets;
    first = by-res (Some periods) (λ other. IsHadOn asked other
        → ComesBefore other (terms.Res false best.x best.y) → ⊥)
        (λ hard x y fit had before.
        not-before best (budget x y) hard
        (is.first hard (budget x y) (record { range = fit.range; period = fit.period }) (offered-by hard x y had))
        before);
  }

  pub cheapest-some : (periods : List ℕ) (found : Option Budget) (best : Budget) → found ≡ Some best
      → IsCheapestIfAny (need_of asked) periods found → IsFirst asked (Some periods) (terms.Res false best.x best.y)
  cheapest-some periods found best is held =
      cheapest-first periods best (subst (IsCheapestIfAny (need_of asked) periods) is held)

  pub cheapest-none : (periods : List ℕ) (found : Option Budget) → found ≡ None
      → IsCheapestIfAny (need_of asked) periods found → IsFirstIfAny asked (Some periods) None
  cheapest-none periods found is held =
      let none = subst (IsCheapestIfAny (need_of asked) periods) is held in
      by-res (Some periods) (λ its. IsHadOn asked its → ⊥)
      (λ hard x y fit had.
      none hard (budget x y) (record { range = fit.range; period = fit.period }) (offered-by hard x y had))

  -- ---- hard blocks

  abbrev pub AloneHard : (x y : ℕ) → Type 0
  AloneHard x y = (hard : Bool) (u v : ℕ) → TermsInRange (terms.Res hard u v)
      → IsOffered (reservation hard u v) asked.haves.now asked.depth (Resb true x y)
      → (hard ≡ true) × (u ≡ x) × (v ≡ y)

  alone : (x y : ℕ) → asked.wanted ≡ Resb true x y → AloneHard x y → (periods : Option (List ℕ)) (hard : Bool)
      → (u v : ℕ) → IsFit asked.config periods (terms.Res hard u v) → IsHadOn asked (terms.Res hard u v)
      → (hard ≡ true) × (u ≡ x) × (v ≡ y)
  alone x y wanted law periods hard u v fit had =
      law hard u v fit.range
      (subst (IsOffered (reservation hard u v) asked.haves.now asked.depth) wanted (offered-by hard u v had))

  not-earlier : (hard : Bool) (u v x y : ℕ) → (hard ≡ true) × (u ≡ x) × (v ≡ y)
      → ComesBefore (terms.Res hard u v) (terms.Res true x y) → ⊥
  not-earlier hard u v x y same (inl less) =
      let cost : parts u v ≡ parts x y = (let a = same.1 in let b = same.2 in cc) in omega arith
  not-earlier hard u v x y same (inr (also, inl longer)) = omega (arith, same.2)
  not-earlier hard u v x y same (inr (also, inr (period, soft, also_rigid))) =
      let rigid = same.0 in (let none : ⊥ = cc in none)

  hard-range : (x y : ℕ) → IsNarrow (Resb true x y) → y ≤ 10000 → TermsInRange (terms.Res true x y)
  hard-range x y narrow small = (narrow.some, narrow.fits, small)

  pub hard-first : (periods : Option (List ℕ)) (x y : ℕ) → asked.wanted ≡ Resb true x y → IsNarrow asked.wanted
      → AloneHard x y → (y ≤ 10000) × IsPeriodOf periods y → IsHadOn asked (terms.Res true x y)
      → IsFirst asked periods (terms.Res true x y)
  hard-first periods x y wanted narrow law small had = record {
    fits = fit-res periods true x y (hard-range x y (subst IsNarrow wanted narrow) small.0) small.1;
    had = had;
    first = by-res periods (λ other. IsHadOn asked other → ComesBefore other (terms.Res true x y) → ⊥)
        (λ hard u v fit also before.
        not-earlier hard u v x y (alone x y wanted law periods hard u v fit also) before);
  }

  pub hard-none : (periods : Option (List ℕ)) (x y : ℕ) → asked.wanted ≡ Resb true x y → AloneHard x y
      → (y ≤ 10000 → IsPeriodOf periods y → IsHadOn asked (terms.Res true x y) → ⊥)
      → IsFirstIfAny asked periods None
  hard-none periods x y wanted law lacks =
      by-res periods (λ its. IsHadOn asked its → ⊥)
      (λ hard u v fit had.
      let same = alone x y wanted law periods hard u v fit had in
      lacks (let few = fit.range.2 in omega (arith, same.2)) (subst (IsPeriodOf periods) same.2 fit.period)
      (at-same hard u v same had))
    where
      at-same : (hard : Bool) (u v : ℕ) → (hard ≡ true) × (u ≡ x) × (v ≡ y) → IsHadOn asked (terms.Res hard u v)
          → IsHadOn asked (terms.Res true x y)
      at-same hard u v same had =
          let e : terms.Res hard u v ≡ terms.Res true x y =
          (let a = same.0 in let b = same.1 in let d = same.2 in cc) in
          subst (IsHadOn asked) e had

  -- ---- every period

  abbrev pub HasAll : List ℕ → Type 0
  HasAll all = (y : ℕ) → 1 ≤ y → y ≤ 10000 → Contains all y

  of-all : (all : List ℕ) → HasAll all → (its : Terms) → IsFit asked.config None its
      → IsFit asked.config (Some all) its
  of-all all each = by-res None (λ its. IsFit asked.config (Some all) its)
      (λ hard x y fit. fit-res (Some all) hard x y fit.range
      (each y (let some = fit.range.0 in let less = fit.range.1 in omega arith) fit.range.2))

  of-none : (all : List ℕ) (its : Terms) → IsFit asked.config (Some all) its → IsFit asked.config None its
  of-none all = by-res (Some all) (λ its. IsFit asked.config None its)
      (λ hard x y fit. fit-res None hard x y fit.range tt)

  pub list-first : (all : List ℕ) → HasAll all → (found : Option Terms) → IsFirstIfAny asked (Some all) found
      → IsFirstIfAny asked None found
  list-first all each None none = λ its fit had. none its (of-all all each its fit) had
  list-first all each (Some its) is = record {
    fits = of-none all its is.fits;
    had = is.had;
    first = λ other fit had before. is.first other (of-all all each other fit) had before;
  }

  pub whole-first : (all read : List ℕ) → HasAll all → read ≡ all → {E : Type 0} (r : Result (Option Terms) E)
      → IfOk r (λ found. IsFirstIfAny asked (Some read) found) → (periods : Option (List ℕ)) → periods ≡ None
      → IfOk r (λ found. IsFirstIfAny asked periods found)
  whole-first all read each same r is periods none =
      IfOk-weaker r (λ found. IsFirstIfAny asked (Some read) found) (λ found. IsFirstIfAny asked periods found)
      (λ found first. subst (λ v. IsFirstIfAny asked v found) (sym none)
      (list-first all each found (subst (λ v. IsFirstIfAny asked (Some v) found) same first))) is

-- ---- a further period

pub ranges-more : (old new : List ℕ) (y : ℕ) → 1 ≤ y → y ≤ 10000 → new ≡ old ++ (y ∷ [])
    → Each (λ (v : ℕ). (1 ≤ v) × (v ≤ 10000)) old → Each (λ (v : ℕ). (1 ≤ v) × (v ≤ 10000)) new
ranges-more old new y some small is each =
    let P : ℕ → Type 0 = λ v. (1 ≤ v) × (v ≤ 10000) in
    subst (λ v. Each P v) (sym is) (All-append P old (y ∷ []) each (only y (some, small)))
  where
    only : (y : ℕ) → (1 ≤ y) × (y ≤ 10000) → Each (λ (v : ℕ). (1 ≤ v) × (v ≤ 10000)) (y ∷ [])
    only y both k d less =
        let e : k ≡ 0 = omega arith in
        subst (λ (n : ℕ). let v = get_or (y ∷ []) n d in (1 ≤ v) × (v ≤ 10000)) (sym e) both

pub each-more : (old new : List ℕ) (y : ℕ) → new ≡ old ++ (y ∷ [])
    → ((k : ℕ) → 1 ≤ k → k < y → Contains old k) → (k : ℕ) → 1 ≤ k → k < y + 1 → Contains new k
each-more old new y is each k some less =
    subst (λ v. Contains v k) (sym is)
    (elim (less-or-same k y less) [
      | inl lower ↦ Contains-append_left old (y ∷ []) k (each k some lower)
      | inr same ↦ Contains-append_right old (y ∷ []) k (0, omega arith, sym same)
    ])
