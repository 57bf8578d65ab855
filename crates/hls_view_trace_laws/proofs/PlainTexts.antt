-- Texts of names, numbers and words have no byte that JSON must escape.
use Rattle.std.proofs.Common.{◌≡◌, ◌∙◌, ℕ, zero, suc, ◌+◌, ◌/◌, ◌%◌, ◌≤◌, ◌<◌, ◌⊎◌, inl, inr, List, [], ◌∷◌, ◌++◌}
use Rattle.std.proofs.Common.{true, false, refl, ap, arith}
use Rattle.std.specs.Prelude.{Bool, cond, not, ◌&&◌, ◌||◌, ◌==◌, nat_le, codes, decimal, flat_map}
use Rattle.std.specs.List.{AllByRecursion, list_all}
use Rattle.std.specs.Fmt.{digits, digits_onto, digit_glyph}
use Rattle.std.proofs.lemmas.Bool.{leb-true, le-leb, lt-ltb, ne_eqb, eqb-true}
use Rattle.hls_text.specs.Lines.{Text}
use Rattle.hls_chron.specs.Name.{IsName, is_letter, may_follow}
use Rattle.hls_frac.specs.declared.Frac.{Frac}
use Rattle.hls_guarantee.specs.declared.Guarantee.{Guarantee}
use Rattle.hls_guarantee.specs.declared.Guarantee.TheVariants.{All, Null, Resb, Resc, Psbe}
use Rattle.hls_guarantee.specs.Spelling.{fraction_text, with_fields, spelling}
use Rattle.hls_view_trace_laws.specs.Json.{is_plain}
use Rattle.hls_view_trace_laws.specs.Plain.{IsPlain}

both : (a b : Bool) → (a && b) ≡ true → (a ≡ true) × (b ≡ true)
both true b e = (refl, e)
both false b e = absurd (cc)

pub plain-append : (one two : Text) → IsPlain one → IsPlain two → IsPlain (one ++ two)
plain-append [] two first last = last
plain-append (byte ∷ one) two first last =
    let parts = both (is_plain byte) (list_all is_plain one) first in
    ap (λ b. b && list_all is_plain (one ++ two)) parts.0 ∙ plain-append one two parts.1 last

pub plain-cons : (byte : ℕ) (text : Text) → is_plain byte ≡ true → IsPlain text → IsPlain (byte ∷ text)
plain-cons byte text first last = ap (λ b. b && list_all is_plain text) first ∙ last

pub plain-flat : {X : Type 0} (f : X → Text) (xs : List X) → AllByRecursion (λ x. IsPlain (f x)) xs
    → IsPlain (flat_map f xs)
plain-flat f [] all = refl
plain-flat f (x ∷ xs) all = plain-append (f x) (flat_map f xs) all.0 (plain-flat f xs all.1)

-- ---- numbers

-- a byte in a range without the two that are escaped
within : (byte : ℕ) → 32 ≤ byte → byte ≤ 126 → (byte ≡ 34 → ⊥) → (byte ≡ 92 → ⊥) → is_plain byte ≡ true
within byte low high quote slash =
    ap (λ b. b && nat_le byte 126 && not (byte == 34) && not (byte == 92)) (le-leb 32 byte low)
    ∙ ap (λ b. true && b && not (byte == 34) && not (byte == 92)) (le-leb byte 126 high)
    ∙ ap (λ b. true && true && not b && not (byte == 92)) (ne_eqb byte 34 quote)
    ∙ ap (λ b. true && true && true && not b) (ne_eqb byte 92 slash)

plain_glyph : (n : ℕ) → is_plain (digit_glyph false (n % 10)) ≡ true
plain_glyph n =
    let small : n % 10 < 10 = omega arith in
    ap (λ b. is_plain (cond b (48 + n % 10) (87 + n % 10))) (lt-ltb (n % 10) 10 small)
    ∙ within (48 + n % 10) (omega arith) (omega (arith, small)) (λ e. omega (arith, e)) (λ e. omega (arith, e, small))

plain_digits : (k n : ℕ) (rest : Text) → IsPlain rest → IsPlain (digits_onto k 10 false n rest)
plain_digits zero n rest is = is
plain_digits (suc k) n rest is = by (n / 10 == 0) refl (plain_digits k (n / 10) (glyph ∷ rest) more)
  where
    glyph : ℕ
    glyph = digit_glyph false (n % 10)

    more : IsPlain (glyph ∷ rest)
    more = plain-cons glyph rest (plain_glyph n) is

    by : (b : Bool) → (n / 10 == 0) ≡ b → IsPlain (digits_onto k 10 false (n / 10) (glyph ∷ rest))
        → IsPlain (digits_onto (suc k) 10 false n rest)
    by true e further =
        ap (λ b. list_all is_plain (cond b (glyph ∷ rest) (digits_onto k 10 false (n / 10) (glyph ∷ rest)))) e ∙ more
    by false e further =
        ap (λ b. list_all is_plain (cond b (glyph ∷ rest) (digits_onto k 10 false (n / 10) (glyph ∷ rest)))) e
        ∙ further

pub plain_number : (n : ℕ) → IsPlain (decimal n)
unfolding digits
plain_number n = plain_digits 64 n [] refl

-- ---- names

either : (a b : Bool) → (a || b) ≡ true → (a ≡ true) ⊎ (b ≡ true)
either true b e = inl refl
either false b e = inr e

plain_letter : (byte : ℕ) → is_letter byte ≡ true → is_plain byte ≡ true
plain_letter byte is =
    let parts = both (nat_le 97 byte) (nat_le byte 122) is in
    let low = leb-true 97 byte parts.0 in
    let high = leb-true byte 122 parts.1 in
    within byte (omega (arith, low)) (omega (arith, high)) (λ e. omega (arith, e, low)) (λ e. omega (arith, e, low))

plain_follow : (byte : ℕ) → may_follow byte ≡ true → is_plain byte ≡ true
plain_follow byte is =
    elim (either (is_letter byte || (nat_le 48 byte && nat_le byte 57)) (byte == 95) is) [
      | inl front ↦ elim (either (is_letter byte) (nat_le 48 byte && nat_le byte 57) front) [
        | inl letter ↦ plain_letter byte letter
        | inr digit ↦
            (let parts = both (nat_le 48 byte) (nat_le byte 57) digit in
            let low = leb-true 48 byte parts.0 in
            let high = leb-true byte 57 parts.1 in
            within byte (omega (arith, low)) (omega (arith, high)) (λ e. omega (arith, e, low))
            (λ e. omega (arith, e, high)))
      ]
      | inr last ↦
          (let e : byte ≡ 95 = eqb-true byte 95 last in
          ap is_plain e)
    ]

plain_following : (text : Text) → list_all may_follow text ≡ true → IsPlain text
plain_following [] is = refl
plain_following (byte ∷ text) is =
    let parts = both (may_follow byte) (list_all may_follow text) is in
    plain-cons byte text (plain_follow byte parts.0) (plain_following text parts.1)

pub plain_name : (name : Text) → IsName name → IsPlain name
plain_name [] is = absurd (cc)
plain_name (first ∷ rest) is =
    let parts = both (is_letter first) _ is in
    let others = both (list_all may_follow rest) _ parts.1 in
    plain-cons first rest (plain_letter first parts.0) (plain_following rest others.0)

-- ---- guarantees

pub plain_fraction : (f : Frac) → IsPlain (fraction_text f)
plain_fraction f = by (f.den == 1) refl
  where
    by : (b : Bool) → (f.den == 1) ≡ b → IsPlain (fraction_text f)
    by true is =
        ap (λ b. list_all is_plain (cond b (decimal f.num) (decimal f.num ++ codes "/" ++ decimal f.den))) is
        ∙ plain_number f.num
    by false is =
        ap (λ b. list_all is_plain (cond b (decimal f.num) (decimal f.num ++ codes "/" ++ decimal f.den))) is
        ∙ plain-append (decimal f.num ++ codes "/") (decimal f.den)
        (plain-append (decimal f.num) (codes "/") (plain_number f.num) refl) (plain_number f.den)

plain_fields : (word first second : Text) → IsPlain word → IsPlain first → IsPlain second
    → IsPlain (with_fields word first second)
plain_fields word first second a b c =
    plain-append (word ++ codes " " ++ first ++ codes " ") second
    (plain-append (word ++ codes " " ++ first) (codes " ")
    (plain-append (word ++ codes " ") first (plain-append word (codes " ") a refl) b) refl) c

pub plain_spelling : (g : Guarantee) → IsPlain (spelling g)
plain_spelling All = refl
plain_spelling Null = refl
plain_spelling (Resb true x y) = plain_fields (codes "RESBH") (decimal x) (decimal y) refl
    (plain_number x) (plain_number y)
plain_spelling (Resb false x y) = plain_fields (codes "RESBS") (decimal x) (decimal y) refl
    (plain_number x) (plain_number y)
plain_spelling (Resc true x y) = plain_fields (codes "RESCH") (decimal x) (decimal y) refl
    (plain_number x) (plain_number y)
plain_spelling (Resc false x y) = plain_fields (codes "RESCS") (decimal x) (decimal y) refl
    (plain_number x) (plain_number y)
plain_spelling (Psbe s d) = plain_fields (codes "PSBE") (fraction_text s) (fraction_text d) refl
    (plain_fraction s) (plain_fraction d)
