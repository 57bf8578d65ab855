-- What is said of what stands in a box, said of the box.
use Rattle.std.specs.declared.dyn_box.DynBox.{DynBox}
use Rattle.std.specs.declared.alloc.Global.{Global}

-- V and P are what the checker knows a box by
abbrev pub boxed : {V A : Type 0} {P : V → Type 0} → ((x : V) × P x → A) → DynBox V Global P → A
boxed f b = f (b.vtable, b.value)
