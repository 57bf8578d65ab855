-- The tokens of a line from the front.
use Rattle.std.proofs.Common.{◌≡◌, ℕ, suc, zero, ◌-◌, ◌<◌, ◌≤◌, true, false, [], ◌∷◌}
use Rattle.std.proofs.Common.{length, get_or, take, drop, refl, ap, ◌∙◌, sym, arith, add-zero}
use Rattle.std.proofs.lemmas.List.{length-drop, get_or-drop}
use Rattle.hls_text.specs.Lines.{Text, onto_first}
use Rattle.hls_text.specs.Tokens.{tokens_of, is_blank, begins_blank}

pub tokens_of-nil : (line : Text) → length line ≡ 0 → tokens_of line ≡ []
unfolding tokens_of
tokens_of-nil [] e = refl
tokens_of-nil (b ∷ bs) e = cc

pub tokens_of-blank : (b : ℕ) (bs : Text) → is_blank b ≡ true → tokens_of (b ∷ bs) ≡ tokens_of bs
unfolding tokens_of
tokens_of-blank b bs e = rw e refl

abbrev pub NoBlank : Text → ℕ → Type 0
NoBlank line n = (i : ℕ) → i < n → is_blank (get_or line i 0) ≡ false

NoBlank-rest : (b : ℕ) (bs : Text) (n : ℕ) → NoBlank (b ∷ bs) (suc n) → NoBlank bs n
NoBlank-rest b bs n h i lt = h (suc i) (omega arith)

abbrev pub AllBlank : Text → ℕ → Type 0
AllBlank line n = (i : ℕ) → i < n → is_blank (get_or line i 0) ≡ true

pub blanks_skipped : (line : Text) (n : ℕ) → n ≤ length line → AllBlank line n
    → tokens_of line ≡ tokens_of (drop n line)
unfolding tokens_of
blanks_skipped line zero le h = refl
blanks_skipped [] (suc n) le h = refl
blanks_skipped (b ∷ bs) (suc n) le h = rw (h 0 (omega arith))
    (blanks_skipped bs n (omega arith) (λ i lt. h (suc i) (omega arith)))

pub longer : (b c : ℕ) (cs : Text) → is_blank b ≡ false → is_blank c ≡ false
    → tokens_of (b ∷ c ∷ cs) ≡ onto_first b (tokens_of (c ∷ cs))
unfolding tokens_of
longer b c cs e f = rw (e, f) refl

single : (b : ℕ) (bs : Text) → is_blank b ≡ false → begins_blank bs ≡ true
    → tokens_of (b ∷ bs) ≡ (b ∷ []) ∷ tokens_of bs
unfolding tokens_of
single b bs e f = rw (e, f) refl

-- the first token ends at a blank or with the line
pub first_token : (line : Text) (n : ℕ) → 0 < n → n ≤ length line → NoBlank line n
    → begins_blank (drop n line) ≡ true
    → tokens_of line ≡ take n line ∷ tokens_of (drop n line)
first_token [] n some le h e = absurd (omega arith)
first_token (b ∷ bs) zero some le h e = absurd (omega arith)
first_token (b ∷ bs) (suc zero) some le h e = single b bs (h 0 (omega arith)) e
first_token (b ∷ []) (suc (suc n)) some le h e = absurd (omega arith)
first_token (b ∷ c ∷ cs) (suc (suc n)) some le h e =
    longer b c cs (h 0 (omega arith)) (h 1 (omega arith))
    ∙ ap (onto_first b) (first_token (c ∷ cs) (suc n) (omega arith) (omega arith)
    (NoBlank-rest b (c ∷ cs) (suc n) h) e)

-- a line of blanks alone
pub no_token : (line rest : Text) (n : ℕ) → n ≤ length line → AllBlank line n → rest ≡ drop n line
    → length rest ≡ 0 → tokens_of line ≡ []
no_token line rest n le h e none = blanks_skipped line n le h ∙ ap tokens_of (sym e) ∙ tokens_of-nil rest none

ends_blank : (rest : Text) (n : ℕ) → (n < length rest → is_blank (get_or rest n 0) ≡ true)
    → begins_blank (drop n rest) ≡ true
ends_blank [] zero h = refl
ends_blank [] (suc n) h = refl
ends_blank (b ∷ bs) zero h = h (omega arith)
ends_blank (b ∷ bs) (suc n) h = ends_blank bs n (λ lt. h (omega arith))

starts_some : (rest : Text) (n : ℕ) → 0 < length rest → is_blank (get_or rest 0 0) ≡ false
    → (n < length rest → is_blank (get_or rest n 0) ≡ true) → n ≡ 0 → ⊥
starts_some rest n some e h z = cc (h (omega arith), e, z)

some_from : {k : ℕ} → (k ≡ 0 → ⊥) → 0 < k
some_from {k} h = omega (arith, h)

pub token_and_rest : (line rest : Text) (n k : ℕ) → n ≤ length line → AllBlank line n
    → (n < length line → is_blank (get_or line n 0) ≡ false) → rest ≡ drop n line → (length rest ≡ 0 → ⊥)
    → k ≤ length rest → NoBlank rest k → (k < length rest → is_blank (get_or rest k 0) ≡ true)
    → tokens_of line ≡ take k rest ∷ tokens_of (drop k rest)
token_and_rest line rest n k le blank end e some within whole stop =
    let len : length rest ≡ length line - n = ap (λ (t : Text). length t) e ∙ length-drop n line in
    let pos : 0 < length rest = omega arith in
    let first : is_blank (get_or rest 0 0) ≡ false = ap (λ (t : Text). is_blank (get_or t 0 0)) e
    ∙ ap is_blank (get_or-drop n line 0 0 ∙ ap (λ i. get_or line i 0) (add-zero n))
    ∙ end (omega arith) in
    let k_some : 0 < k = some_from (λ z. starts_some rest k pos first stop z) in
    blanks_skipped line n le blank ∙ ap tokens_of (sym e)
    ∙ first_token rest k k_some within whole (ends_blank rest k stop)
