-- A canonical line's tokens are its words, and a canonical text's lines are its lines.
use Rattle.std.proofs.Common.{◌≡◌, ℕ, suc, ◌+◌, ◌%◌, ◌^◌, ◌<◌, ◌≤◌, true, false}
use Rattle.std.proofs.Common.{List, [], ◌∷◌, ◌++◌, inl, inr}
use Rattle.std.proofs.Common.{refl, ap, ◌∙◌, arith, append_assoc}
use Rattle.std.specs.Prelude.{◌==◌, not, decimal, flat_map, map}
use Rattle.std.specs.List.{AllByRecursion, list_all, prefix_len}
use Rattle.std.proofs.lemmas.Bool.{le-leb}
use Rattle.std.proofs.lemmas.Bool.Decides.{eqb_tells}
use Rattle.std.proofs.lemmas.Fmt.{decimal_by_steps}
use Rattle.hls_text.specs.Lines.{Text, lines_of, onto_first, shown_of, may_stand, is_clean_line}
use Rattle.hls_text.specs.Tokens.{tokens_of, is_blank, begins_blank}
use Rattle.hls_text.proofs.LineLaws.{lines_of-nil}
use Rattle.hls_text.proofs.TokenLaws.{tokens_of-nil, tokens_of-blank, longer}
use Rattle.hls_scenario.specs.Forms.{Form, canonical, spaced, joined, line_text}

-- ---- bytes of words

-- no blank, no end of a line, no beginning of a comment
pub record Sign (b : ℕ) : Type 0 where
  pub low : 36 ≤ b
  pub high : b ≤ 126

abbrev pub IsWord : Text → Type 0
IsWord [] = ⊥
IsWord (b ∷ bs) = Sign b × AllByRecursion Sign bs

-- a byte of a line
pub record Plain (b : ℕ) : Type 0 where
  pub low : 32 ≤ b
  pub high : b ≤ 126
  pub shown : (b == 35) ≡ false

ne-eqb : (a b : ℕ) → (a ≡ b → ⊥) → (a == b) ≡ false
ne-eqb a b ne = elim (eqb_tells a b) [ inl same ↦ absurd (ne same.1) | inr other ↦ other.0 ]

sign_plain : (b : ℕ) → Sign b → Plain b
sign_plain b s = record { low = omega arith; high = s.high; shown = ne-eqb b 35 (λ e. omega arith) }

space_plain : Plain 32
space_plain = record { low = omega arith; high = omega arith; shown = refl }

pub all_append : {A : Type 0} (P : A → Type 0) (xs ys : List A) → AllByRecursion P xs → AllByRecursion P ys
    → AllByRecursion P (xs ++ ys)
all_append P [] ys a b = b
all_append P (x ∷ xs) ys a b = (a.0, all_append P xs ys a.1 b)

signs_plain : (bs : Text) → AllByRecursion Sign bs → AllByRecursion Plain bs
signs_plain [] a = tt
signs_plain (b ∷ bs) a = (sign_plain b a.0, signs_plain bs a.1)

word_plain : (w : Text) → IsWord w → AllByRecursion Plain w
word_plain [] is = absurd is
word_plain (b ∷ bs) is = (sign_plain b is.0, signs_plain bs is.1)

not_blank : (b : ℕ) → Sign b → is_blank b ≡ false
not_blank b s = rw (ne-eqb b 32 (λ e. omega arith), ne-eqb b 9 (λ e. omega arith)) refl

-- ---- the tokens of a line

last_byte : (b : ℕ) (rest : Text) → Sign b → begins_blank rest ≡ true
    → tokens_of (b ∷ rest) ≡ (b ∷ []) ∷ tokens_of rest
unfolding tokens_of
last_byte b rest s e = rw (not_blank b s, e) refl

token_first : (b : ℕ) (bs rest : Text) → Sign b → AllByRecursion Sign bs → begins_blank rest ≡ true
    → tokens_of (b ∷ (bs ++ rest)) ≡ (b ∷ bs) ∷ tokens_of rest
token_first b [] rest s a e = last_byte b rest s e
token_first b (c ∷ cs) rest s a e =
    longer b c (cs ++ rest) (not_blank b s) (not_blank c a.0) ∙ ap (onto_first b)
    (token_first c cs rest a.0 a.1 e)

word_first : (w rest : Text) → IsWord w → begins_blank rest ≡ true
    → tokens_of (w ++ rest) ≡ w ∷ tokens_of rest
word_first [] rest is e = absurd is
word_first (b ∷ bs) rest is e = token_first b bs rest is.0 is.1 e

abbrev pub AreWords : List Form → Type 0
AreWords forms = AllByRecursion (λ form. IsWord (canonical form)) forms

-- a line has a word
abbrev pub IsWordLine : List Form → Type 0
IsWordLine [] = ⊥
IsWordLine (form ∷ forms) = AreWords (form ∷ forms)

spaced_blank : (forms : List Form) → begins_blank (spaced forms) ≡ true
spaced_blank [] = refl
spaced_blank (form ∷ forms) = refl

spaced_tokens : (forms : List Form) → AreWords forms → tokens_of (spaced forms) ≡ map canonical forms
spaced_tokens [] are = tokens_of-nil [] refl
spaced_tokens (form ∷ forms) are =
    tokens_of-blank 32 (canonical form ++ spaced forms) refl
    ∙ word_first (canonical form) (spaced forms) are.0 (spaced_blank forms)
    ∙ ap (λ ts. canonical form ∷ ts) (spaced_tokens forms are.1)

pub joined_tokens : (forms : List Form) → AreWords forms → tokens_of (joined forms) ≡ map canonical forms
joined_tokens [] are = tokens_of-nil [] refl
joined_tokens (form ∷ forms) are =
    word_first (canonical form) (spaced forms) are.0 (spaced_blank forms)
    ∙ ap (λ ts. canonical form ∷ ts) (spaced_tokens forms are.1)

-- ---- the lines of a text

spaced_plain : (forms : List Form) → AreWords forms → AllByRecursion Plain (spaced forms)
spaced_plain [] are = tt
spaced_plain (form ∷ forms) are = (
  space_plain,
  all_append Plain (canonical form) (spaced forms) (word_plain (canonical form) are.0)
      (spaced_plain forms are.1),
)

pub joined_plain : (forms : List Form) → AreWords forms → AllByRecursion Plain (joined forms)
joined_plain [] are = tt
joined_plain (form ∷ forms) are =
    all_append Plain (canonical form) (spaced forms) (word_plain (canonical form) are.0)
    (spaced_plain forms are.1)

line_end : (rest : Text) → lines_of (10 ∷ rest) ≡ [] ∷ lines_of rest
unfolding lines_of
line_end rest = refl

line_byte : (b : ℕ) (bs : Text) → Plain b → lines_of (b ∷ bs) ≡ onto_first b (lines_of bs)
unfolding lines_of
line_byte b bs p = rw (ne-eqb b 10 (λ e. omega arith), ne-eqb b 13 (λ e. omega arith)) refl

line_first : (line rest : Text) → AllByRecursion Plain line → lines_of (line
    ++ 10 ∷ rest) ≡ line ∷ lines_of rest
line_first [] rest a = line_end rest
line_first (b ∷ bs) rest a =
    line_byte b (bs ++ 10 ∷ rest) a.0 ∙ ap (onto_first b) (line_first bs rest a.1)

abbrev pub AreWordLines : List (List Form) → Type 0
AreWordLines lines = AllByRecursion IsWordLine lines

words_of_line : (forms : List Form) → IsWordLine forms → AreWords forms
words_of_line [] is = absurd is
words_of_line (form ∷ forms) is = is

pub text_lines : (lines : List (List Form)) → AreWordLines lines
    → lines_of (flat_map line_text lines) ≡ map joined lines
text_lines [] are = lines_of-nil [] refl
text_lines (forms ∷ lines) are =
    let line : Text = joined forms in
    let rest : Text = flat_map line_text lines in
    ap lines_of (append_assoc line (10 ∷ []) rest)
    ∙ line_first (joined forms) (flat_map line_text lines) (joined_plain forms (words_of_line forms are.0))
    ∙ ap (λ ls. joined forms ∷ ls) (text_lines lines are.1)

-- ---- what of a line counts

pub shown_plain : (line : Text) → AllByRecursion Plain line → shown_of line ≡ line
shown_plain [] a = refl
shown_plain (b ∷ bs) a =
    let e : (b == 35) ≡ false = a.0.shown in
    let n : ℕ = prefix_len (λ x. not (x == 35)) bs in
    let next : 1 + n ≡ suc n = omega arith in
    rw (e, next) (ap (λ (t : Text). b ∷ t) (shown_plain bs a.1))

stands : (b : ℕ) → Plain b → may_stand b ≡ true
stands b p = rw (ne-eqb b 9 (λ e. omega arith), le-leb 32 b p.low, le-leb b 126 p.high) refl

all_stand : (line : Text) → AllByRecursion Plain line → list_all may_stand line ≡ true
all_stand [] a = refl
all_stand (b ∷ bs) a = rw (stands b a.0, all_stand bs a.1) refl

clean_plain : (line : Text) → AllByRecursion Plain line → is_clean_line line ≡ true
clean_plain line a = ap (list_all may_stand) (shown_plain line a) ∙ all_stand line a

pub lines_clean : (lines : List (List Form)) → AreWordLines lines
    → AllByRecursion (λ line. is_clean_line line ≡ true) (map joined lines)
lines_clean [] are = tt
lines_clean (forms ∷ lines) are =
    (clean_plain (joined forms) (joined_plain forms (words_of_line forms are.0)), lines_clean lines are.1)

-- ---- numbers are words

digit_sign : (d : ℕ) → d < 10 → Sign (48 + d)
digit_sign d lt = record { low = omega arith; high = omega arith }

word_append : (w more : Text) → IsWord w → AllByRecursion Sign more → IsWord (w ++ more)
word_append [] more is a = absurd is
word_append (b ∷ bs) more is a = (is.0, all_append Sign bs more is.1 a)

pub word_signs : (w : Text) → IsWord w → AllByRecursion Sign w
word_signs [] is = absurd is
word_signs (b ∷ bs) is = is

pub decimal_word : (n : ℕ) → n < 2 ^ 64 → IsWord (decimal n)
decimal_word n lt =
    decimal_by_steps (λ k ds. IsWord ds) (λ k small. (digit_sign k small, tt))
    (λ k ds big front. word_append ds ((48 + k % 10) ∷ []) front (digit_sign (k % 10) (omega arith), tt)) n lt

pub ratio_word : (num den : ℕ) → num < 2 ^ 64 → den < 2 ^ 64 → IsWord (decimal num ++ 47 ∷ decimal den)
ratio_word num den n d =
    let slash : Sign 47 = record { low = omega arith; high = omega arith } in
    word_append (decimal num) (47 ∷ decimal den) (decimal_word num n)
    (slash, word_signs (decimal den) (decimal_word den d))
