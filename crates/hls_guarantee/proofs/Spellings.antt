-- The texts of numbers, fractions and guarantees, cut at their marks.
use Rattle.std.proofs.Common.{◌≡◌, ◌≢◌, ℕ, ◌*◌, ◌^◌, ◌<◌, Bool, true, false, List, [], ◌∷◌, ◌++◌}
use Rattle.std.proofs.Common.{refl, sym, ap, ◌∙◌, arith, append_assoc, eqb, inl, inr, ◌⊎◌}
use Rattle.std.specs.Prelude.{◌==◌, ◌||◌, codes, decimal, Option, Some, None, IfSome, IsSome}
use Rattle.std.specs.List.{list_any}
use Rattle.std.proofs.lemmas.Bool.{eq-eqb}
use Rattle.std.proofs.lemmas.Bool.Decides.{eqb_tells}
use Rattle.std.proofs.lemmas.List.Folds.{list_any-append}
use Rattle.hls_text.proofs.Marks.{decimal-lacks}
use Rattle.hls_frac.specs.declared.Frac.{Frac}
use Rattle.hls_frac.specs.Frac.{IsQuotient, IsWithin}
use Rattle.hls_frac.proofs.Quotients.{same_value-same, quotient-den}
use Rattle.hls_guarantee.specs.declared.Guarantee.{Guarantee}
use Rattle.hls_guarantee.specs.declared.Guarantee.TheVariants.{All, Null, Resb, Resc, Psbe}
use Rattle.hls_guarantee.specs.Limits.{IsReservation, IsValid}
use Rattle.hls_guarantee.specs.Spelling.{fraction_text, with_fields, spelling, HasFields}

cases_one : (n : ℕ) → (n ≡ 1) ⊎ (n ≢ 1)
cases_one n = elim (eqb_tells n 1) [ inl one ↦ inl one.1 | inr other ↦ inr other.1 ]

ne-eqb : (a b : ℕ) → a ≢ b → eqb a b ≡ false
ne-eqb a b ne = elim (eqb_tells a b) [ inl same ↦ absurd (ne same.1) | inr other ↦ other.0 ]

-- a text with a mark
pub has_mark : (m : ℕ) (front rest : List ℕ) → list_any (λ b. b == m) (front ++ (m ∷ rest)) ≡ true
has_mark m [] rest = rw (eq-eqb m m refl) refl
has_mark m (x ∷ front) rest =
    either_true (x == m) (list_any (λ b. b == m) (front ++ (m ∷ rest))) (has_mark m front rest)
  where
    either_true : (a b : Bool) → b ≡ true → (a || b) ≡ true
    either_true true b h = refl
    either_true false b h = h

-- a fraction by its two numbers
pub made_is : (made f : Frac) (num den : ℕ) → IsQuotient made num den → f.num ≡ num → f.den ≡ den → made ≡ f
made_is made f num den value n d =
    same_value-same made f (ap (λ v. made.num * v) d ∙ value ∙ ap (λ v. v * made.den) (sym n))

whole_den : (f : Frac) (num : ℕ) → IsQuotient f num 1 → f.den ≡ 1
whole_den f num value = omega (arith, quotient-den f num 1 (omega arith) value, f.positive)

whole_num : (f : Frac) (num : ℕ) → IsQuotient f num 1 → f.num ≡ num
whole_num f num value = omega (arith, value, ap (λ v. num * v) (whole_den f num value))

pub whole_found : (r : Option Frac) (text : List ℕ) (num : ℕ) → text ≡ decimal num →
    IfSome r (λ f. IsQuotient f num 1) → IfSome r (λ f. (text ≡ decimal f.num) × (f.den ≡ 1))
whole_found None text num is value = tt
whole_found (Some f) text num is value =
    (is ∙ ap decimal (sym (whole_num f num value)), whole_den f num value)

pub whole_exact : (r : Option Frac) (num : ℕ) (f : Frac) → IsSome r → IfSome r (λ f. IsQuotient f num 1) →
    f.num ≡ num → f.den ≡ 1 → r ≡ Some f
whole_exact None num f some value n d = absurd (let e : false ≡ true = some in cc)
whole_exact (Some g) num f some value n d = ap (λ (v : Frac). Some v) (made_is g f num 1 value n d)

pub text_of_whole : (f : Frac) → f.den ≡ 1 → fraction_text f ≡ decimal f.num
text_of_whole f one = rw (eq-eqb f.den 1 one) refl

pub text_of_ratio : (f : Frac) → f.den ≢ 1 → fraction_text f ≡ decimal f.num ++ (47 ∷ decimal f.den)
text_of_ratio f more = rw (ne-eqb f.den 1 more) (simp append_assoc)

pub cases_whole : (f : Frac) → (f.den ≡ 1) ⊎ (f.den ≢ 1)
cases_whole f = cases_one f.den

pub fits_num : (f : Frac) → IsWithin f (10 ^ 13) (10 ^ 8) → f.num < 10 ^ 64
fits_num f w = omega (arith, w.num)

pub fits_den : (f : Frac) → IsWithin f (10 ^ 13) (10 ^ 8) → f.den < 10 ^ 64
fits_den f w = omega (arith, w.den)

fraction-lacks : (f : Frac) → IsWithin f (10 ^ 13) (10 ^ 8) →
    list_any (λ b. b == 32) (fraction_text f) ≡ false
fraction-lacks f w = elim (cases_one f.den) [
  | inl one ↦
      ap (list_any (λ b. b == 32)) (text_of_whole f one) ∙
      decimal-lacks 32 f.num (omega arith) (fits_num f w)
  | inr more ↦
      let num = decimal-lacks 32 f.num (omega arith) (fits_num f w) in
      let den = decimal-lacks 32 f.den (omega arith) (fits_den f w) in
      ap (list_any (λ b. b == 32)) (text_of_ratio f more) ∙
      list_any-append (λ b. b == 32) (decimal f.num) (47 ∷ decimal f.den) ∙ rw num den
]

-- a text cut at its two spaces
pub record Parts (g : Guarantee) (text : List ℕ) : Type 0 where
  pub word : List ℕ
  pub first : List ℕ
  pub second : List ℕ
  pub whole : text ≡ word ++ (32 ∷ (first ++ (32 ∷ second)))
  pub lacks_word : list_any (λ b. b == 32) word ≡ false
  pub lacks_first : list_any (λ b. b == 32) first ≡ false
  pub fields : HasFields g word first second

joined : (word first second : List ℕ) →
    with_fields word first second ≡ word ++ (32 ∷ (first ++ (32 ∷ second)))
joined word first second = simp append_assoc

ticks-lacks : (x y : ℕ) → IsReservation x y → list_any (λ b. b == 32) (decimal x) ≡ false
ticks-lacks x y ok = decimal-lacks 32 x (omega arith) (omega (arith, ok.fits, ok.size))

-- a guarantee without numbers, or the parts of its text
pub data Kind (text : List ℕ) : Guarantee → Type 0 where
  all : text ≡ codes "ALL" → Kind text All
  null : text ≡ codes "NULL" → Kind text Null
  numbered : {g : Guarantee} → Parts g text → Kind text g

pub kind_of : (g : Guarantee) (text : List ℕ) → IsValid g → text ≡ spelling g → Kind text g
kind_of All text valid is = all is
kind_of Null text valid is = null is
kind_of (Resb true x y) text valid is = numbered (record {
  word = codes "RESBH";
  first = decimal x;
  second = decimal y;
  whole = is ∙ joined (codes "RESBH") (decimal x) (decimal y);
  lacks_word = refl;
  lacks_first = ticks-lacks x y valid;
  fields = (refl, refl, refl);
})
kind_of (Resb false x y) text valid is = numbered (record {
  word = codes "RESBS";
  first = decimal x;
  second = decimal y;
  whole = is ∙ joined (codes "RESBS") (decimal x) (decimal y);
  lacks_word = refl;
  lacks_first = ticks-lacks x y valid;
  fields = (refl, refl, refl);
})
kind_of (Resc true x y) text valid is = numbered (record {
  word = codes "RESCH";
  first = decimal x;
  second = decimal y;
  whole = is ∙ joined (codes "RESCH") (decimal x) (decimal y);
  lacks_word = refl;
  lacks_first = ticks-lacks x y valid;
  fields = (refl, refl, refl);
})
kind_of (Resc false x y) text valid is = numbered (record {
  word = codes "RESCS";
  first = decimal x;
  second = decimal y;
  whole = is ∙ joined (codes "RESCS") (decimal x) (decimal y);
  lacks_word = refl;
  lacks_first = ticks-lacks x y valid;
  fields = (refl, refl, refl);
})
kind_of (Psbe s d) text valid is = numbered (record {
  word = codes "PSBE";
  first = fraction_text s;
  second = fraction_text d;
  whole = is ∙ joined (codes "PSBE") (fraction_text s) (fraction_text d);
  lacks_word = refl;
  lacks_first = fraction-lacks s valid.rate;
  fields = (refl, refl, refl);
})

parts_of_kind : (g : Guarantee) (text : List ℕ) → text ≢ codes "ALL" → text ≢ codes "NULL" → Kind text g →
    Parts g text
parts_of_kind _ text not_all not_null (all e) = absurd (not_all e)
parts_of_kind _ text not_all not_null (null e) = absurd (not_null e)
parts_of_kind g text not_all not_null (numbered p) = p

pub parts_of : (g : Guarantee) (text : List ℕ) → IsValid g → text ≢ codes "ALL" → text ≢ codes "NULL" →
    text ≡ spelling g → Parts g text
parts_of g text valid not_all not_null is = parts_of_kind g text not_all not_null (kind_of g text valid is)
