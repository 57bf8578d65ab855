-- The lines of a text from the front.
use Rattle.std.proofs.Common.{◌≡◌, ℕ, suc, zero, ◌+◌, ◌-◌, ◌<◌, Bool, true, false, cond, [], ◌∷◌}
use Rattle.std.proofs.Common.{length, get_or, take, drop, refl, ap, ◌∙◌, sym, arith, add-one}
use Rattle.std.specs.Prelude.{◌==◌, ◌&&◌, nat_lt}
use Rattle.std.proofs.lemmas.List.{take_rest}
use Rattle.std.proofs.lemmas.Bool.{lt-ltb}
use Rattle.hls_text.specs.Lines.{Text, lines_of, onto_first, at_end, without_return}

pub lines_of-nil : (text : Text) → length text ≡ 0 → lines_of text ≡ []
unfolding lines_of
lines_of-nil [] e = refl
lines_of-nil (b ∷ bs) e = cc

-- no byte before place n ends a line
abbrev pub NoEnd : Text → ℕ → Type 0
NoEnd text n = (i : ℕ) → i < n → (get_or text i 0 == 10) ≡ false

NoEnd-rest : (b : ℕ) (bs : Text) (n : ℕ) → NoEnd (b ∷ bs) (suc n) → NoEnd bs n
NoEnd-rest b bs n h i lt = h (suc i) (omega arith)

not_at_end : (bs : Text) → NoEnd bs (length bs) → at_end bs ≡ false
not_at_end [] h = refl
not_at_end (b ∷ bs) h = h 0 (omega arith)

and_false : (a : Bool) → (a && false) ≡ false
and_false true = refl
and_false false = refl

-- a byte inside a line
plain_step : (b : ℕ) (bs : Text) → (b == 10) ≡ false → at_end bs ≡ false
    → lines_of (b ∷ bs) ≡ onto_first b (lines_of bs)
unfolding lines_of
plain_step b bs e f = rw (e, f, and_false (b == 13)) refl

and_true : (a : Bool) → (a && true) ≡ a
and_true true = refl
and_true false = refl

-- a byte just before the end of a line
last_step : (b : ℕ) (bs : Text) → (b == 10) ≡ false → at_end bs ≡ true
    → lines_of (b ∷ bs) ≡ cond (b == 13) (lines_of bs) (onto_first b (lines_of bs))
unfolding lines_of
last_step b bs e f = rw (e, f, and_true (b == 13)) refl

first_step : (b : ℕ) (bs : Text) → (b == 10) ≡ true → lines_of (b ∷ bs) ≡ [] ∷ lines_of bs
unfolding lines_of
first_step b bs e = rw e refl

pub whole_line : (text : Text) → 0 < length text → NoEnd text (length text)
    → lines_of text ≡ text ∷ lines_of []
whole_line [] some h = absurd (omega arith)
whole_line (b ∷ []) some h = plain_step b [] (h 0 (omega arith)) refl
    ∙ ap (onto_first b) (lines_of-nil [] refl)
    ∙ ap (λ ls. (b ∷ []) ∷ ls) (sym (lines_of-nil [] refl))
whole_line (b ∷ c ∷ cs) some h =
    let rest : NoEnd (c ∷ cs) (length (c ∷ cs)) = NoEnd-rest b (c ∷ cs) (length (c ∷ cs)) h in
    plain_step b (c ∷ cs) (h 0 (omega arith)) (not_at_end (c ∷ cs) rest)
    ∙ ap (onto_first b) (whole_line (c ∷ cs) (omega arith) rest)

-- a byte before more bytes stays
front_stays : (b c : ℕ) (cs : Text) → without_return (b ∷ c ∷ cs) ≡ b ∷ without_return (c ∷ cs)
front_stays b c cs =
    let e : length (b ∷ c ∷ cs) - 1 ≡ suc (length cs) = omega arith in
    let f : length (c ∷ cs) - 1 ≡ length cs = omega arith in
    let p : nat_lt 0 (length (b ∷ c ∷ cs)) ≡ true = lt-ltb 0 _ (omega arith) in
    let q : nat_lt 0 (length (c ∷ cs)) ≡ true = lt-ltb 0 _ (omega arith) in
    rw (p, q, e, f) (by_last (get_or (c ∷ cs) (length cs) 0 == 13))
  where
    by_last : (last : Bool) → cond last (b ∷ take (length cs) (c ∷ cs)) (b ∷ c ∷ cs) ≡ b ∷ cond last
        (take (length cs) (c ∷ cs)) (c ∷ cs)
    by_last true = refl
    by_last false = refl

line_ended : (text : Text) (at : ℕ) → at < length text → NoEnd text at → (get_or text at 0 == 10) ≡ true
    → lines_of text ≡ without_return (take at text) ∷ lines_of (drop (suc at) text)
line_ended [] at lt h e = absurd (omega arith)
line_ended (b ∷ bs) zero lt h e = first_step b bs e
line_ended (b ∷ []) (suc at) lt h e = absurd (omega arith)
line_ended (b ∷ c ∷ cs) (suc zero) lt h e =
    last_step b (c ∷ cs) (h 0 (omega arith)) e
    ∙ ap (λ ls. cond (b == 13) ls (onto_first b ls)) (first_step c cs e) ∙ by_return (b == 13)
  where
    by_return : (r : Bool) → cond r ([] ∷ lines_of cs) ((b ∷ []) ∷ lines_of cs) ≡ cond r [] (b ∷ []) ∷
        lines_of cs
    by_return true = refl
    by_return false = refl
line_ended (b ∷ c ∷ cs) (suc (suc at)) lt h e =
    plain_step b (c ∷ cs) (h 0 (omega arith)) (h 1 (omega arith))
    ∙ ap (onto_first b) (line_ended (c ∷ cs) (suc at) (omega arith) (NoEnd-rest b (c ∷ cs) (suc at) h) e)
    ∙ ap (λ l. l ∷ lines_of (drop (suc (suc at)) (c ∷ cs))) (sym (front_stays b c (take at cs)))

-- the line that ends at a place, and all that stands after it
pub line_and_rest : (text : Text) (at : ℕ) → at < length text → NoEnd text at
    → (get_or text at 0 == 10) ≡ true
    → lines_of text ≡ without_return (take at text) ∷ lines_of
    (take (length text - (at + 1)) (drop (at + 1) text))
line_and_rest text at lt h e =
    line_ended text at lt h e ∙ ap (λ t. without_return (take at text) ∷ lines_of t)
    (ap (λ n. drop n text) (sym (add-one at)) ∙ sym (take_rest text (at + 1)))
