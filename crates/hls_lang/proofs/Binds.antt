-- Readings one after the other.
use Rattle.std.proofs.Common.{◌≡◌, Bool, true, false, cond, ◌⊎◌, inl, inr, refl}
use Rattle.std.proofs.Common.{ap, ◌∙◌, subst}
use Rattle.std.proofs.lemmas.Slice.Eq.{bytes_eq-Decides}
use Rattle.std.specs.Prelude.{◌&&◌, Result, Ok, Err, Option, Some}
use Rattle.std.specs.Str.{bytes_eq}
use Rattle.hls_text.specs.Lines.{Text}
use Rattle.hls_lang.specs.declared.fault.Cause.{Cause}
use Rattle.hls_lang.specs.Words.{◌>>=◌}

pub bind_ok : {A B : Type 0} (r : Result A Cause) (f : A → Result B Cause) (y : B) → (r >>= f) ≡ Ok y
    → (x : A) × (r ≡ Ok x) × (f x ≡ Ok y)
bind_ok (Ok x) f y e = (x, refl, e)
bind_ok (Err d) f y e = absurd cc

-- a reading that goes on as it is told
pub bind_again : {A B : Type 0} (r : Result A Cause) (f : A → Result B Cause) (x : A) (y : B) → r ≡ Ok x
    → f x ≡ Ok y → (r >>= f) ≡ Ok y
bind_again r f x y e g = ap (λ q. q >>= f) e ∙ g

abbrev pub done : {A : Type 0} → A → Result A Cause
done x = Ok x

pub ok_is : {A : Type 0} (x y : A) → done x ≡ done y → x ≡ y
ok_is x y e = cc

-- what holds of the value that was given holds of the one that was asked about
pub carried : {A : Type 0} (P : A → Type 0) (x y : A) → done x ≡ done y → P x → P y
carried P x y e holds = subst P (ok_is x y e) holds

abbrev pub given : {A : Type 0} → A → Option A
given x = Some x

pub some_is : {A : Type 0} (x y : A) → given x ≡ given y → x ≡ y
some_is x y e = cc

pub test_ok : {A : Type 0} (b : Bool) (c : Cause) (x y : A) → cond b (Ok x) (Err c) ≡ Ok y
    → (b ≡ true) × (x ≡ y)
test_ok true c x y e = (refl, cc)
test_ok false c x y e = absurd cc

pub test_again : {A : Type 0} (b : Bool) (c : Cause) (r : Result A Cause) (y : A) → b ≡ true → r ≡ Ok y
    → cond b r (Err c) ≡ Ok y
test_again b c r y e f = ap (λ x. cond x r (Err c)) e ∙ f

pub order_ok : {A : Type 0} (b : Bool) (c : Cause) (x : Result A Cause) (y : A) → cond b (Err c) x ≡ Ok y
    → (b ≡ false) × (x ≡ Ok y)
order_ok true c x y e = absurd cc
order_ok false c x y e = (refl, e)

-- a choice between two readings
pub choice : {A : Type 0} (b : Bool) (x y : Result A Cause) (z : A) → cond b x y ≡ Ok z
    → ((b ≡ true) × (x ≡ Ok z)) ⊎ (y ≡ Ok z)
choice true x y z e = inl (refl, e)
choice false x y z e = inr e

pub same_bytes : (xs ys : Text) → bytes_eq xs ys ≡ true → xs ≡ ys
same_bytes xs ys e = (bytes_eq-Decides xs ys).0 e

pub bytes_same : (xs ys : Text) → xs ≡ ys → bytes_eq xs ys ≡ true
bytes_same xs ys e = (bytes_eq-Decides xs ys).1 e

pub and_left : (a b : Bool) → (a && b) ≡ true → a ≡ true
and_left true b e = refl
and_left false b e = absurd cc

pub and_right : (a b : Bool) → (a && b) ≡ true → b ≡ true
and_right true b e = e
and_right false b e = absurd cc

pub and_both : (a b : Bool) → a ≡ true → b ≡ true → (a && b) ≡ true
and_both true b e f = f
and_both false b e f = absurd cc
