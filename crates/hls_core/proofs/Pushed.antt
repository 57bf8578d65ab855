-- A list with one item more, in room that is there.
use Rattle.std.proofs.Common.{◌+◌, ◌<◌, [], ◌∷◌, ◌++◌, length, ap, sym, ◌∙◌, arith}
use Rattle.std.specs.Prelude.{vec_capacity}
use Rattle.std.specs.Global.{Vec}
use Rattle.std.proofs.lemmas.List.{length-append}

abbrev pub pushed : {X : Type 0} (v : Vec X) (x : X) → length v.items < vec_capacity v → Vec X
pushed v x lt = record {
  ptr = v.ptr;
  len = v.len + 1;
  cap = v.cap;
  alloc = v.alloc;
  items = v.items ++ x ∷ [];
  ok = (ap (λ n. n + 1) v.ok.0 ∙ sym (length-append v.items (x ∷ [])), let is = v.ok.0 in omega (arith, is, lt));
  small = v.small;
}
