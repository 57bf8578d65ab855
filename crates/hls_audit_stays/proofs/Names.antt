-- Names that are the same.
use Rattle.std.proofs.Common.{◌≡◌, ◌≢◌, true, false, refl, sym, ◌∙◌, inl, inr}
use Rattle.std.specs.Str.{bytes_eq}
use Rattle.std.proofs.lemmas.Bool.{cases_Bool}
use Rattle.std.proofs.lemmas.Slice.Eq.{bytes_eq-Decides}
use Rattle.hls_text.specs.Lines.{Text}

pub same_apart : (one other : Text) → other ≢ one → bytes_eq one other ≡ false
same_apart one other ne = elim (cases_Bool (bytes_eq one other)) [
  | inl t ↦ absurd (ne (sym ((bytes_eq-Decides one other).0 t)))
  | inr f ↦ f
]

pub bytes_same : (one other : Text) → bytes_eq one other ≡ true → one ≡ other
bytes_same one other e = (bytes_eq-Decides one other).0 e

pub bytes_apart : (one other : Text) → one ≢ other → bytes_eq one other ≡ false
bytes_apart one other ne = elim (cases_Bool (bytes_eq one other)) [
  | inl t ↦ absurd (ne (bytes_same one other t))
  | inr f ↦ f
]

pub bytes_self : (one : Text) → bytes_eq one one ≡ true
bytes_self one = (bytes_eq-Decides one one).1 refl

-- names are the same or not
pub data AreSame (one other : Text) : Type 0 where
  Same : one ≡ other → AreSame one other
  Apart : other ≢ one → bytes_eq one other ≡ false → AreSame one other

pub are_same : (one other : Text) → AreSame one other
are_same one other = elim (cases_Bool (bytes_eq one other)) [
  | inl t ↦ Same (bytes_same one other t)
  | inr f ↦ Apart (λ e. absurd (cc (sym f ∙ (bytes_eq-Decides one other).1 (sym e)))) f
]

pub bytes_back : (one other : Text) → bytes_eq one other ≡ bytes_eq other one
bytes_back one other = back (are_same one other)
  where
    back : AreSame one other → bytes_eq one other ≡ bytes_eq other one
    back (Same e) = (bytes_eq-Decides one other).1 e ∙ sym ((bytes_eq-Decides other one).1 (sym e))
    back (Apart ne f) = f ∙ sym (bytes_apart other one ne)
