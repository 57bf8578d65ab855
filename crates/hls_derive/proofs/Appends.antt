-- What is left of a text to which a failed call may have appended.
use Rattle.std.proofs.Common.{◌≡◌, ℕ, List, ◌++◌, length, take, ◌∙◌, ap, append_assoc}
use Rattle.std.specs.Prelude.{Result, Ok, Err, OnErr}
use Rattle.hls_text.proofs.FirstMarks.{begins_still}

pub on_err : {T E P : Type 0} (r : Result T E) → P → OnErr r P
on_err (Ok x) p = tt
on_err (Err e) p = p

-- one text was appended before the call that failed
pub begins_after : (out first one new : List ℕ) → one ≡ out ++ first → take (length one) new ≡ one
    → take (length out) new ≡ out
begins_after out first one new is begins = begins_still out first one new is begins

-- and a second one
pub begins_after_two : (out first second one two new : List ℕ) → one ≡ out ++ first → two ≡ one ++ second
    → take (length two) new ≡ two → take (length out) new ≡ out
begins_after_two out first second one two new is is_too begins =
    begins_still out (first ++ second) two new
    (is_too ∙ ap (λ l. l ++ second) is ∙ append_assoc out first second) begins

-- and a third one
pub begins_after_three : (out first second third one two three new : List ℕ) → one ≡ out ++ first
    → two ≡ one ++ second → three ≡ two ++ third
    → take (length three) new ≡ three → take (length out) new ≡ out
begins_after_three out first second third one two three new is is_too is_last begins =
    begins_after_two out (first ++ second) third two three new
    (is_too ∙ ap (λ l. l ++ second) is ∙ append_assoc out first second) is_last begins
