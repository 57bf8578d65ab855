-- Texts without the blanks at their end, from behind.
use Rattle.std.proofs.Common.{◌≡◌, ℕ, zero, suc, ◌<◌, ◌≤◌, [], ◌∷◌, ◌++◌, length, get_or, take, refl, ap, ◌∙◌}
use Rattle.std.proofs.Common.{arith, sym, ◌+◌, ◌-◌, ◌==◌, drop, append_assoc, length-drop, false}
use Rattle.std.proofs.Math.Seq.{take-append-add, take-length, drop-append_seam}
use Rattle.std.proofs.lemmas.Bool.{ne_eqb}
use Rattle.std.specs.Prelude.{if◌then◌else◌}
use Rattle.hls_text.specs.Lines.{Text}
use Rattle.hls_view_table.specs.Tables.{before_text, trimmed}

-- a blank at the end is left out
pub trimmed-blank : (text : Text) (n : ℕ) → n < length text → get_or text n 0 ≡ 32
    → trimmed (take (suc n) text) ≡ trimmed (take n text)
trimmed-blank [] n in_range is = absurd (omega (arith, in_range))
trimmed-blank (b ∷ bs) zero in_range is = ap (λ (c : ℕ). if c == 32 then [] else c ∷ []) is
trimmed-blank (b ∷ bs) (suc n) in_range is = ap (before_text b) (trimmed-blank bs n (omega (arith, in_range)) is)

onto : (b : ℕ) (text : Text) (n : ℕ) → n < length text → before_text b (take (suc n) text) ≡ b ∷ take (suc n) text
onto b [] n in_range = absurd (omega (arith, in_range))
onto b (c ∷ cs) n in_range = refl

-- what ends otherwise stays
pub trimmed-whole : (text : Text) (n : ℕ) → n < length text → (get_or text n 0 == 32) ≡ false
    → trimmed (take (suc n) text) ≡ take (suc n) text
trimmed-whole [] n in_range is = absurd (omega (arith, in_range))
trimmed-whole (b ∷ bs) zero in_range is = ap (λ v. if v then [] else b ∷ []) is
trimmed-whole (b ∷ bs) (suc n) in_range is =
    ap (before_text b) (trimmed-whole bs n (omega (arith, in_range)) is) ∙ onto b bs n (omega (arith, in_range))

pub trimmed-shorter : (text : Text) (n : ℕ) → 0 < n → n ≤ length text → get_or text (n - 1) 0 ≡ 32
    → trimmed (take (n - 1) text) ≡ trimmed (take n text)
trimmed-shorter text zero some in_range is = absurd (omega (arith, some))
trimmed-shorter text (suc n) some in_range is =
    let e : suc n - 1 ≡ n = omega arith in
    ap (λ k. trimmed (take k text)) e
    ∙ sym (trimmed-blank text n (omega (arith, in_range)) (ap (λ k. get_or text k 0) (sym e) ∙ is))

pub trimmed-same : (text : Text) (n : ℕ) → 0 < n → n ≤ length text → (get_or text (n - 1) 0 ≡ 32 → ⊥)
    → trimmed (take n text) ≡ take n text
trimmed-same text zero some in_range is = absurd (omega (arith, some))
trimmed-same text (suc n) some in_range is =
    let e : suc n - 1 ≡ n = omega arith in
    trimmed-whole text n (omega (arith, in_range))
    (ne_eqb (get_or text n 0) 32 (λ blank. is (ap (λ k. get_or text k 0) e ∙ blank)))

-- a text whose end is cut off
pub cut_off : (before text after cut : Text) (start len : ℕ) → start ≡ length before → after ≡ before ++ text
    → cut ≡ take (start + len) after → cut ≡ before ++ take len text
cut_off before text after cut start len at is taken =
    taken ∙ ap (λ (k : ℕ). take (k + len) after) at ∙ ap (λ (t : Text). take (length before + len) t) is
    ∙ take-append-add before text len

-- the part of a text from a place on
behind : (before text after : Text) (start : ℕ) → start ≡ length before → after ≡ before ++ text
    → take (length after - start) (drop start after) ≡ text
behind before text after start at is =
    ap (λ (k : ℕ). take k (drop start after)) (sym (length-drop start after)) ∙ take-length (drop start after)
    ∙ ap (λ (k : ℕ). drop k after) at ∙ ap (λ (t : Text). drop (length before) t) is ∙ drop-append_seam before text

-- a line without its last blanks
pub line_done : (before text after seen cut done : Text) (start len : ℕ) → start ≡ length before
    → after ≡ before ++ text → seen ≡ take (length after - start) (drop start after)
    → take len seen ≡ trimmed seen → cut ≡ take (start + len) after → done ≡ cut ++ 10 ∷ []
    → done ≡ before ++ (trimmed text ++ 10 ∷ [])
line_done before text after seen cut done start len at is part short taken ended =
    let seam : seen ≡ text = part ∙ behind before text after start at is in
    let trims : take len text ≡ trimmed text =
    ap (λ (t : Text). take len t) (sym seam) ∙ short ∙ ap trimmed seam in
    ended
    ∙ ap (λ (t : Text). t ++ 10 ∷ [])
    (cut_off before text after cut start len at is taken ∙ ap (λ (t : Text). before ++ t) trims)
    ∙ append_assoc before (trimmed text) (10 ∷ [])
