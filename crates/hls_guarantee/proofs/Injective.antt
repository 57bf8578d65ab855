-- One text spells one guarantee.
use Rattle.std.proofs.Common.{◌≡◌, ℕ, ◌^◌, ◌<◌, ◌≤◌, true, false, List, ◌∷◌, ◌++◌, length}
use Rattle.std.proofs.Common.{refl, sym, ap, ◌∙◌, subst, arith, inl, inr, Some, None, Option}
use Rattle.std.specs.Prelude.{◌==◌, codes, decimal, if◌then◌else◌}
use Rattle.std.specs.List.{list_any}
use Rattle.std.specs.Str.{bytes_eq}
use Rattle.std.proofs.lemmas.Fmt.{decimal_injective}
use Rattle.hls_frac.specs.declared.Frac.{Frac}
use Rattle.hls_frac.specs.Frac.{IsWithin}
use Rattle.hls_frac.proofs.Quotients.{same_numbers-same}
use Rattle.hls_guarantee.specs.declared.Guarantee.{Guarantee}
use Rattle.hls_guarantee.specs.declared.Guarantee.TheVariants.{All, Null, Resb, Resc, Psbe}
use Rattle.hls_guarantee.specs.Limits.{IsReservation, IsShare, IsValid}
use Rattle.hls_guarantee.specs.Spelling.{fraction_text, spelling, HasFields}
use Rattle.hls_text.proofs.FirstMarks.{position_first, parts_first}
use Rattle.hls_guarantee.proofs.Spellings.{Parts, Kind, all, null, numbered, kind_of, has_mark}
use Rattle.hls_text.proofs.Marks.{decimal-lacks}
use Rattle.hls_guarantee.proofs.Spellings.{cases_whole, text_of_whole, text_of_ratio, fits_num}

-- a text has one first mark
cut_same : (m : ℕ) (a b p q : List ℕ) → a ++ (m ∷ b) ≡ p ++ (m ∷ q) → list_any (λ c. c == m) a ≡ false →
    list_any (λ c. c == m) p ≡ false → (a ≡ p) × (b ≡ q)
cut_same m a b p q same lacks_a lacks_p =
    let text : List ℕ = a ++ (m ∷ b) in
    let found = sym (position_first m text a b refl lacks_a) in
    let first = parts_first m (length a) text a b found refl lacks_a in
    let second = parts_first m (length a) text p q found same lacks_p in
    (sym first.0 ∙ second.0, sym first.1 ∙ second.1)

-- a fraction has one text
number-same : (m n : ℕ) → m ≤ 10 ^ 13 → n ≤ 10 ^ 13 → decimal m ≡ decimal n → m ≡ n
number-same m n small_m small_n same = decimal_injective m n (omega arith) (omega arith) same

ticks-same : (m n : ℕ) → m ≤ 20000 → n ≤ 20000 → decimal m ≡ decimal n → m ≡ n
ticks-same m n small_m small_n same = decimal_injective m n (omega arith) (omega arith) same

whole_not_ratio : (m : ℕ) (f : Frac) → m < 10 ^ 64 → decimal m ≡ decimal f.num ++ (47 ∷ decimal f.den) → ⊥
whole_not_ratio m f fits same =
    let has = has_mark 47 (decimal f.num) (decimal f.den) in
    let lacks = decimal-lacks 47 m (omega arith) fits in
    let e : false ≡ true = sym lacks ∙ ap (list_any (λ b. b == 47)) same ∙ has in cc

fraction-same : (f g : Frac) → IsWithin f (10 ^ 13) (10 ^ 8) → IsWithin g (10 ^ 13) (10 ^ 8) →
    fraction_text f ≡ fraction_text g → f ≡ g
fraction-same f g wf wg same = elim (cases_whole f) [
  | inl one_f ↦ elim (cases_whole g) [
    | inl one_g ↦
        let texts = sym (text_of_whole f one_f) ∙ same ∙ text_of_whole g one_g in
        same_numbers-same f g (number-same f.num g.num wf.num wg.num texts) (one_f ∙ sym one_g)
    | inr more_g ↦
        let texts = sym (text_of_whole f one_f) ∙ same ∙ text_of_ratio g more_g in
        absurd (whole_not_ratio f.num g (fits_num f wf) texts)
  ]
  | inr more_f ↦ elim (cases_whole g) [
    | inl one_g ↦
        let texts = sym (text_of_whole g one_g) ∙ sym same ∙ text_of_ratio f more_f in
        absurd (whole_not_ratio g.num f (fits_num g wg) texts)
    | inr more_g ↦
        let texts = sym (text_of_ratio f more_f) ∙ same ∙ text_of_ratio g more_g in
        let parts = cut_same 47 (decimal f.num) (decimal f.den) (decimal g.num) (decimal g.den) texts
        (decimal-lacks 47 f.num (omega arith) (fits_num f wf))
        (decimal-lacks 47 g.num (omega arith) (fits_num g wg)) in
        let den_f : f.den ≤ 10 ^ 13 = omega (arith, wf.den) in
        let den_g : g.den ≤ 10 ^ 13 = omega (arith, wg.den) in
        same_numbers-same f g (number-same f.num g.num wf.num wg.num parts.0)
        (number-same f.den g.den den_f den_g parts.1)
  ]
]

-- the reservation of a word
pick : List ℕ → (x y : ℕ) → Option Guarantee
pick word x y =
    if bytes_eq word (codes "RESBH") then Some (Resb true x y) else
    (if bytes_eq word (codes "RESBS") then Some (Resb false x y) else
    (if bytes_eq word (codes "RESCH") then Some (Resc true x y) else
    (if bytes_eq word (codes "RESCS") then Some (Resc false x y) else None)))

record Picked (g : Guarantee) (word first second : List ℕ) : Type 0 where
  x : ℕ
  y : ℕ
  is : pick word x y ≡ Some g
  size_x : x ≤ 20000
  size_y : y ≤ 20000
  first_is : first ≡ decimal x
  second_is : second ≡ decimal y

data Shape (word first second : List ℕ) : Guarantee → Type 0 where
  reserved : {g : Guarantee} → Picked g word first second → Shape word first second g
  shared : {s d : Frac} → word ≡ codes "PSBE" → first ≡ fraction_text s → second ≡ fraction_text d →
      IsShare (10 ^ 13) (10 ^ 8) s d → Shape word first second (Psbe s d)

picked : (g : Guarantee) (word w first second : List ℕ) (x y : ℕ) → IsReservation x y → pick w x y ≡ Some g →
    (word ≡ w) × (first ≡ decimal x) × (second ≡ decimal y) → Shape word first second g
picked g word w first second x y ok is fields = reserved (record {
  x = x;
  y = y;
  is = subst (λ v. pick v x y ≡ Some g) (sym fields.0) is;
  size_x = omega (arith, ok.fits, ok.size);
  size_y = ok.size;
  first_is = fields.1;
  second_is = fields.2;
})

shape_of : (g : Guarantee) (word first second : List ℕ) → IsValid g → HasFields g word first second →
    Shape word first second g
unfolding pick
shape_of All word first second valid fields = absurd fields
shape_of Null word first second valid fields = absurd fields
shape_of (Resb true x y) word first second valid fields =
    picked _ word (codes "RESBH") first second x y valid refl fields
shape_of (Resb false x y) word first second valid fields =
    picked _ word (codes "RESBS") first second x y valid refl fields
shape_of (Resc true x y) word first second valid fields =
    picked _ word (codes "RESCH") first second x y valid refl fields
shape_of (Resc false x y) word first second valid fields =
    picked _ word (codes "RESCS") first second x y valid refl fields
shape_of (Psbe s d) word first second valid fields = shared fields.0 fields.1 fields.2 valid

not_picked : (word first second : List ℕ) (g : Guarantee) → word ≡ codes "PSBE" →
    Picked g word first second → ⊥
unfolding pick
not_picked word first second g is p =
    let none = subst (λ w. pick w p.x p.y ≡ Some g) is p.is in cc

shape-same : (word first second : List ℕ) (g h : Guarantee) → Shape word first second g →
    Shape word first second h → g ≡ h
shape-same word first second g h (reserved p) (reserved q) =
    let x : p.x ≡ q.x = ticks-same p.x q.x p.size_x q.size_x (sym p.first_is ∙ q.first_is) in
    let y : p.y ≡ q.y = ticks-same p.y q.y p.size_y q.size_y (sym p.second_is ∙ q.second_is) in
    let moved = ap (λ v. pick word v p.y) x ∙ ap (λ v. pick word q.x v) y in
    let same : Some g ≡ Some h = sym p.is ∙ moved ∙ q.is in cc
shape-same word first second g _ (reserved p) (shared is a b ok) =
    absurd (not_picked word first second g is p)
shape-same word first second _ h (shared is a b ok) (reserved q) =
    absurd (not_picked word first second h is q)
shape-same word first second _ _ (shared {s = s} {d = d} is a b ok) (shared {s = t} {d = e} is' a' b' ok') =
    let rates : s ≡ t = fraction-same s t ok.rate ok'.rate (sym a ∙ a') in
    let errors : d ≡ e = fraction-same d e ok.error ok'.error (sym b ∙ b') in
    ap (λ v. Psbe v d) rates ∙ ap (λ v. Psbe t v) errors

parts-same : (text : List ℕ) (g h : Guarantee) → IsValid g → IsValid h → Parts g text → Parts h text → g ≡ h
parts-same text g h valid_g valid_h p q =
    let outer = cut_same 32 p.word (p.first ++ (32 ∷ p.second)) q.word (q.first ++ (32 ∷ q.second))
    (sym p.whole ∙ q.whole) p.lacks_word q.lacks_word in
    let inner = cut_same 32 p.first p.second q.first q.second outer.1 p.lacks_first q.lacks_first in
    let one = subst (λ w. HasFields h w q.first q.second) (sym outer.0) q.fields in
    let two = subst (λ a. HasFields h p.word a q.second) (sym inner.0) one in
    let three = subst (λ b. HasFields h p.word p.first b) (sym inner.1) two in
    shape-same p.word p.first p.second g h (shape_of g p.word p.first p.second valid_g p.fields)
    (shape_of h p.word p.first p.second valid_h three)

no_space : (text word rest : List ℕ) → list_any (λ c. c == 32) text ≡ false → text ≡ word ++ (32 ∷ rest) → ⊥
no_space text word rest lacks is =
    let e : false ≡ true = sym lacks ∙ ap (list_any (λ c. c == 32)) is ∙ has_mark 32 word rest in cc

kinds-same : (text : List ℕ) (g h : Guarantee) → IsValid g → IsValid h → Kind text g → Kind text h → g ≡ h
kinds-same text _ _ valid_g valid_h (all e) (all f) = refl
kinds-same text _ _ valid_g valid_h (all e) (null f) = absurd (let no = sym e ∙ f in cc)
kinds-same text _ h valid_g valid_h (all e) (numbered q) =
    absurd (no_space text q.word _ (ap (list_any (λ c. c == 32)) e) q.whole)
kinds-same text _ _ valid_g valid_h (null e) (all f) = absurd (let no = sym e ∙ f in cc)
kinds-same text _ _ valid_g valid_h (null e) (null f) = refl
kinds-same text _ h valid_g valid_h (null e) (numbered q) =
    absurd (no_space text q.word _ (ap (list_any (λ c. c == 32)) e) q.whole)
kinds-same text g _ valid_g valid_h (numbered p) (all f) =
    absurd (no_space text p.word _ (ap (list_any (λ c. c == 32)) f) p.whole)
kinds-same text g _ valid_g valid_h (numbered p) (null f) =
    absurd (no_space text p.word _ (ap (list_any (λ c. c == 32)) f) p.whole)
kinds-same text g h valid_g valid_h (numbered p) (numbered q) = parts-same text g h valid_g valid_h p q

pub spelling-same : (g h : Guarantee) → IsValid g → IsValid h → spelling g ≡ spelling h → g ≡ h
spelling-same g h valid_g valid_h same =
    kinds-same (spelling g) g h valid_g valid_h (kind_of g (spelling g) valid_g refl)
    (kind_of h (spelling g) valid_h same)
