-- Facts for one variant of an option.
use Rattle.std.specs.Prelude.{Option, Some, None, MatchOption, IfSome}

pub if_some : {A : Type 0} (P : Type 0) (Q : A → Type 0) (r : Option A) → MatchOption r P Q → IfSome r Q
if_some P Q None h = tt
if_some P Q (Some x) h = h
