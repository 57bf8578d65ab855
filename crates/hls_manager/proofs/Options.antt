-- What holds of what is found, or of what a call gives.
use Rattle.std.proofs.Common.{◌≡◌, Option, Some, None, sym, subst}
use Rattle.std.specs.Prelude.{IfSome, IsNone, IfOk, Result, Ok, Err}

pub some_so : {D : Type 0} (found : Option D) (P Q : D → Type 0) → ((d : D) → P d → Q d) → IfSome found P
    → IfSome found Q
some_so None P Q to is = tt
some_so (Some d) P Q to is = to d is

pub ok_some_so : {D E : Type 0} (r : Result (Option D) E) (P Q : D → Type 0) → ((d : D) → P d → Q d)
    → IfOk r (λ found. IfSome found P) → IfOk r (λ found. IfSome found Q)
ok_some_so (Err e) P Q to is = tt
ok_some_so (Ok found) P Q to is = some_so found P Q to is

pub ok_none_so : {D E : Type 0} (r : Result (Option D) E) (P Q : Type 0) → (P → Q)
    → IfOk r (λ found. IsNone found → P) → IfOk r (λ found. IsNone found → Q)
ok_none_so (Err e) P Q to is = tt
ok_none_so (Ok found) P Q to is = λ none. to (is none)

pub some_at : {D : Type 0} (o : Option D) (d : D) (P : D → Type 0) → o ≡ Some d → IfSome o P → P d
some_at o d P e is = subst (λ x. IfSome x P) e is

pub ok_is : {D E : Type 0} (r : Result D E) (x : D) (P : D → Type 0) → P x → IfOk r (λ y. y ≡ x) → IfOk r P
ok_is (Err e) x P is same = tt
ok_is (Ok y) x P is same = subst P (sym same) is
