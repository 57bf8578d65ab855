-- The words of a scenario within the grammar: names, numbers and fractions, and the words of the language.
use Rattle.std.proofs.Common.{◌≡◌, ℕ, ◌^◌, ◌<◌, ◌≤◌, Bool, true, false, List, [], ◌∷◌}
use Rattle.std.proofs.Common.{◌⊎◌, inl, inr}
use Rattle.std.proofs.Common.{refl, sym, subst, arith}
use Rattle.std.specs.Prelude.{◌==◌, ◌&&◌, ◌||◌, nat_le, map}
use Rattle.std.specs.List.{AllByRecursion, list_all}
use Rattle.std.proofs.lemmas.Bool.{leb-true, eqb-true}
use Rattle.hls_text.specs.Lines.{Text}
use Rattle.hls_frac.specs.declared.Frac.{Frac}
use Rattle.hls_frac.specs.Frac.{IsWithin}
use Rattle.hls_chron.specs.Name.{IsName, is_letter, may_follow}
use Rattle.hls_guarantee.specs.Spelling.{fraction_text}
use Rattle.hls_guarantee.proofs.Spellings.{cases_whole, text_of_whole, text_of_ratio}
use Rattle.hls_scenario.specs.Forms.{Form, the, fraction, canonical}
use Rattle.hls_scenario.specs.Grammar.{IsSpelled, IsFraction, IsLine, AreLines}
use Rattle.hls_scenario.proofs.CanonicalLines.{Sign, IsWord, AreWords, IsWordLine, AreWordLines}
use Rattle.hls_scenario.proofs.CanonicalLines.{decimal_word, ratio_word}

-- ---- names

either : (a b : Bool) → (a || b) ≡ true → (a ≡ true) ⊎ (b ≡ true)
either true b e = inl refl
either false b e = inr e

both : (a b : Bool) → (a && b) ≡ true → (a ≡ true) × (b ≡ true)
both true b e = (refl, e)
both false b e = absurd cc

letter_sign : (b : ℕ) → is_letter b ≡ true → Sign b
letter_sign b e =
    let h = both (nat_le 97 b) (nat_le b 122) e in
    let low : 97 ≤ b = leb-true 97 b h.0 in
    let high : b ≤ 122 = leb-true b 122 h.1 in
    record { low = omega arith; high = omega arith }

digit_sign : (b : ℕ) → (nat_le 48 b && nat_le b 57) ≡ true → Sign b
digit_sign b e =
    let h = both (nat_le 48 b) (nat_le b 57) e in
    let low : 48 ≤ b = leb-true 48 b h.0 in
    let high : b ≤ 57 = leb-true b 57 h.1 in
    record { low = omega arith; high = omega arith }

line_sign : (b : ℕ) → (b == 95) ≡ true → Sign b
line_sign b e =
    let is : b ≡ 95 = eqb-true b 95 e in
    record { low = omega arith; high = omega arith }

follow_sign : (b : ℕ) → may_follow b ≡ true → Sign b
follow_sign b e =
    elim (either (is_letter b || (nat_le 48 b && nat_le b 57)) (b == 95) e) [
      | inl f ↦ elim (either (is_letter b) (nat_le 48 b && nat_le b 57) f) [
        | inl letter ↦ letter_sign b letter
        | inr digit ↦ digit_sign b digit
      ]
      | inr line ↦ line_sign b line
    ]

follow_signs : (bs : Text) → list_all may_follow bs ≡ true → AllByRecursion Sign bs
follow_signs [] e = tt
follow_signs (b ∷ bs) e =
    let h = both (may_follow b) (list_all may_follow bs) e in
    (follow_sign b h.0, follow_signs bs h.1)

pub name_word : (name : Text) → IsName name → IsWord name
name_word [] is = absurd (let e : false ≡ true = is in cc)
name_word (b ∷ bs) is =
    let h = both (is_letter b) _ is in
    let more = both (list_all may_follow bs) _ h.1 in
    (letter_sign b h.0, follow_signs bs more.0)

-- ---- what is printed of a form is a word that stands for it

-- words, and fractions that may be written
abbrev pub IsPrintable : Form → Type 0
IsPrintable (the word) = IsWord word
IsPrintable (fraction f) = IsWithin f (10 ^ 10) (10 ^ 6)

abbrev pub ArePrintable : List Form → Type 0
ArePrintable forms = AllByRecursion IsPrintable forms

fraction_word : (f : Frac) → IsWithin f (10 ^ 10) (10 ^ 6) → IsWord (fraction_text f)
fraction_word f w =
    let num : f.num < 2 ^ 64 = let le = w.num in omega arith in
    let den : f.den < 2 ^ 64 = let le = w.den in omega arith in
    elim (cases_whole f) [
      | inl one ↦ subst IsWord (sym (text_of_whole f one)) (decimal_word f.num num)
      | inr more ↦ subst IsWord (sym (text_of_ratio f more)) (ratio_word f.num f.den num den)
    ]

fraction_spelled : (f : Frac) → IsSpelled (fraction_text f) f.num f.den
fraction_spelled f = elim (cases_whole f) [
  | inl one ↦ inr (one, text_of_whole f one)
  | inr more ↦ inl (text_of_ratio f more)
]

fraction_stands : (f : Frac) → IsWithin f (10 ^ 10) (10 ^ 6) → IsFraction (fraction_text f) f
fraction_stands f w = record {
  num = f.num;
  den = f.den;
  spelled = fraction_spelled f;
  num_fits = w.num;
  den_fits = (f.positive, w.den);
  value = refl;
}

form_word : (form : Form) → IsPrintable form → IsWord (canonical form)
form_word (the word) is = is
form_word (fraction f) is = fraction_word f is

pub forms_words : (forms : List Form) → ArePrintable forms → AreWords forms
forms_words [] are = tt
forms_words (form ∷ forms) are = (form_word form are.0, forms_words forms are.1)

pub canonical_line : (forms : List Form) → ArePrintable forms → IsLine forms (map canonical forms)
canonical_line [] are = tt
canonical_line (the word ∷ forms) are = (refl, canonical_line forms are.1)
canonical_line (fraction f ∷ forms) are = (fraction_stands f are.0, canonical_line forms are.1)

-- ---- lines

abbrev pub IsPrintableLine : List Form → Type 0
IsPrintableLine [] = ⊥
IsPrintableLine (form ∷ forms) = ArePrintable (form ∷ forms)

abbrev pub ArePrintableLines : List (List Form) → Type 0
ArePrintableLines lines = AllByRecursion IsPrintableLine lines

line_words : (forms : List Form) → IsPrintableLine forms → IsWordLine forms
line_words [] is = absurd is
line_words (form ∷ forms) is = forms_words (form ∷ forms) is

pub lines_words : (lines : List (List Form)) → ArePrintableLines lines → AreWordLines lines
lines_words [] are = tt
lines_words (forms ∷ lines) are = (line_words forms are.0, lines_words lines are.1)

printable_line : (forms : List Form) → IsPrintableLine forms → ArePrintable forms
printable_line [] is = absurd is
printable_line (form ∷ forms) is = is

pub canonical_lines : (lines : List (List Form)) → ArePrintableLines lines
    → AreLines lines (map (map canonical) lines)
canonical_lines [] are = tt
canonical_lines (forms ∷ lines) are =
    (canonical_line forms (printable_line forms are.0), canonical_lines lines are.1)
