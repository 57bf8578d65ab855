-- A plain line is clean, and all of it counts.
use Rattle.std.proofs.Common.{◌≡◌, ℕ, ◌+◌, suc, Bool, true, false, List, [], ◌∷◌, refl, sym, ap, ◌∙◌, arith}
use Rattle.std.specs.Prelude.{◌==◌, ◌&&◌, not, fold}
use Rattle.std.specs.List.{list_all, prefix_len}
use Rattle.hls_text.specs.Lines.{Text, shown_of, may_stand, is_clean_line, onto_first}
use Rattle.hls_text.specs.Tokens.{tokens_of, is_blank, begins_blank}
use Rattle.hls_text.proofs.Marks.{both}
use Rattle.hls_lang.specs.ReadingLines.{State, line_step, tokens_step, stage_step}
use Rattle.hls_lang.specs.Inside.Steps.{is_plain, are_plain}

plain_shown : (line : Text) → list_all is_plain line ≡ true → shown_of line ≡ line
plain_shown [] e = refl
plain_shown (b ∷ bs) e =
    let h = both (is_plain b) (list_all is_plain bs) e in
    let p = both (may_stand b) (not (b == 35)) h.0 in
    let n : ℕ = prefix_len (λ x. not (x == 35)) bs in
    let next : 1 + n ≡ suc n = omega arith in
    rw (p.1, next) (ap (λ (t : Text). b ∷ t) (plain_shown bs h.1))

plain_stands : (line : Text) → list_all is_plain line ≡ true → list_all may_stand line ≡ true
plain_stands [] e = refl
plain_stands (b ∷ bs) e =
    let h = both (is_plain b) (list_all is_plain bs) e in
    let p = both (may_stand b) (not (b == 35)) h.0 in
    rw (p.0, plain_stands bs h.1) refl

all_from : (before : Bool) (line : Text)
    → fold (λ all b. all && is_plain b) before line ≡ (before && list_all is_plain line)
all_from true [] = refl
all_from false [] = refl
all_from true (b ∷ bs) = all_from (is_plain b) bs
all_from false (b ∷ bs) = all_from false bs

pub plain_step : (s : State) (line : Text) → are_plain line ≡ true
    → line_step s line ≡ tokens_step s (tokens_of line)
unfolding line_step
plain_step s line all =
    let e = sym (all_from true line) ∙ all in
    let shown = plain_shown line e in
    let clean : is_clean_line line ≡ true = ap (list_all may_stand) shown ∙ plain_stands line e in
    rw clean (ap (λ (t : Text). tokens_step s (tokens_of t)) shown)

-- ---- blank lines

pub blank_step : (s : State) (line : Text) → list_all is_blank line ≡ true
    → tokens_step s (tokens_of line) ≡ tokens_step s []
unfolding tokens_of
blank_step s [] e = refl
blank_step s (b ∷ bs) e =
    let h = both (is_blank b) (list_all is_blank bs) e in
    rw h.0 (blank_step s bs h.1)

onto_first_step : (s : State) (b : ℕ) (parts : List Text)
    → tokens_step s (onto_first b parts) ≡ stage_step s.stage s (onto_first b parts)
onto_first_step s b [] = refl
onto_first_step s b (part ∷ parts) = refl

word_by : (s : State) (b : ℕ) (bs : Text) (blank : Bool) → begins_blank bs ≡ blank → is_blank b ≡ false
    → tokens_step s (tokens_of (b ∷ bs)) ≡ stage_step s.stage s (tokens_of (b ∷ bs))
unfolding tokens_of
word_by s b bs true f e = rw (e, f) refl
word_by s b bs false f e = rw (e, f) (onto_first_step s b (tokens_of bs))

token_by : (s : State) (b : ℕ) (bs : Text) (blank : Bool) → is_blank b ≡ blank
    → (list_all is_blank bs ≡ false → tokens_step s (tokens_of bs) ≡ stage_step s.stage s (tokens_of bs))
    → list_all is_blank (b ∷ bs) ≡ false
    → tokens_step s (tokens_of (b ∷ bs)) ≡ stage_step s.stage s (tokens_of (b ∷ bs))
unfolding tokens_of
token_by s b bs true is next e = rw is (next (rw is at e))
token_by s b bs false is next e = word_by s b bs (begins_blank bs) refl is

-- a line with a token
pub token_step : (s : State) (line : Text) → list_all is_blank line ≡ false
    → tokens_step s (tokens_of line) ≡ stage_step s.stage s (tokens_of line)
token_step s [] e = absurd cc
token_step s (b ∷ bs) e = token_by s b bs (is_blank b) refl (λ f. token_step s bs f) e
