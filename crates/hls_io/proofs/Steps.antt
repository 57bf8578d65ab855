-- Steps over told bytes.
use Rattle.std.proofs.Common.{◌≡◌, ℕ, ◌+◌, ◌-◌, List, [], ◌++◌, length, take, drop, ap, ◌∙◌, sym, subst}
use Rattle.std.proofs.Common.{append_assoc, append-nil, arith}
use Rattle.std.specs.Prelude.{Option, Some, None, Result, Ok, Err, OnOk, OnErr}
use Rattle.std.specs.Io.KnownBytes.{Appends, Consumes}
use Rattle.std.proofs.KnownBytes.{Appends-nil, Appends-trans}
use Rattle.std.proofs.Math.Seq.{take-add, take-length, take-append_seam, drop-append_seam}
use Rattle.std.proofs.lemmas.List.{length-append, length-drop, take-append-drop, take-append-le, take_at, drop-drop}
use Rattle.hls_io.specs.Bytes.{TakesFirst, AppendsPart, Gathers}

-- the first bytes that were given, and what is left after them
pub take-append-left : (bytes given tail : List ℕ) (at n : ℕ) → length given ≡ n
    → given ≡ take n (drop at bytes)
    → drop at bytes ≡ take n (given ++ tail) ++ drop (at + n) bytes
take-append-left bytes given tail at n len e =
    sym (take-append-drop n (drop at bytes))
    ∙ ap (λ t. t ++ drop n (drop at bytes)) (sym e ∙ sym (take_at given tail n len))
    ∙ ap (λ t. take n (given ++ tail) ++ t) (drop-drop n at bytes)

-- the piece that a call is handed is the whole rest
pub take-rest : (bytes : List ℕ) (at : ℕ)
    → take (length bytes - at) (drop at bytes) ≡ drop at bytes
take-rest bytes at =
    ap (λ n. take n (drop at bytes)) (sym (length-drop at bytes)) ∙ take-length (drop at bytes)

-- one more prefix of the rest is appended
pub Appends-take : (old mid new : Option (List ℕ)) (bytes : List ℕ) (at n : ℕ)
    → Appends old mid (take at bytes)
    → Appends mid new (take n (take (length bytes - at) (drop at bytes)))
    → Appends old new (take (at + n) bytes)
Appends-take old mid new bytes at n before now =
    let rest = subst (λ t. Appends mid new (take n t)) (take-rest bytes at) now in
    subst (λ t. Appends old new t) (sym (take-add at n bytes)) (Appends-trans old mid new _ _ before rest)

-- what was consumed are the first bytes
pub Consumes-first : (old new : Option (List ℕ)) (bytes : List ℕ)
    → Consumes old new bytes → TakesFirst (length bytes) old new
Consumes-first None new bytes h = tt
Consumes-first (Some xs) None bytes h = absurd h
Consumes-first (Some xs) (Some ys) bytes h =
    ap (λ t. Some t) (sym (ap (λ t. drop (length bytes) t) h ∙ drop-append_seam bytes ys))

-- ---- pieces one behind the other

-- a part of the first bytes is a part of all
pub part-more : (old new : Option (List ℕ)) (xs ys : List ℕ) → AppendsPart old new xs → AppendsPart old new (xs ++ ys)
part-more old new xs ys part =
    let n = part.0 in
    let below = part.1 in
    let long = length-append xs ys in (
      n,
      omega (arith, below, long),
      subst (λ t. Appends old new t) (sym (take-append-le n xs ys (omega (arith, below)))) part.2,
    )

-- so is all of the first bytes and a part of the rest
pub part-on : (old mid new : Option (List ℕ)) (xs ys : List ℕ) → Appends old mid xs → AppendsPart mid new ys
    → AppendsPart old new (xs ++ ys)
part-on old mid new xs ys whole part =
    let n = part.0 in
    let below = part.1 in
    let long = length-append xs ys in
    let front = take-append_seam xs ys in
    let behind = drop-append_seam xs ys in
    let both : take (length xs + n) (xs ++ ys) ≡ xs ++ take n ys =
    take-add (length xs) n (xs ++ ys) ∙ ap (λ t. t ++ take n (drop (length xs) (xs ++ ys))) front
    ∙ ap (λ t. xs ++ take n t) behind in (
      length xs + n,
      omega (arith, below, long),
      subst (λ t. Appends old new t) (sym both) (Appends-trans old mid new xs (take n ys) whole part.2),
    )

-- ---- pieces that go through a room

pub gathers-none : (w : Option (List ℕ)) (room : List ℕ) → Gathers w w room room []
gathers-none w room = record {
  given = [];
  written = Appends-nil w;
  rest = sym (append-nil room);
}

-- the room is written and emptied, and then the piece
pub gathers-written : {T E : Type 0} (a b c : Option (List ℕ)) (held was room piece : List ℕ) (r : Result T E)
    → held ≡ was → Appends a b held → room ≡ [] → OnOk r (Appends b c piece) → OnOk r (Gathers a c was room piece)
gathers-written a b c held was room piece (Ok x) same first none straight = record {
  given = held ++ piece;
  written = Appends-trans a b c held piece first straight;
  rest = ap (λ t. (held ++ piece) ++ t) none ∙ append-nil (held ++ piece) ∙ ap (λ t. t ++ piece) same;
}
gathers-written a b c held was room piece (Err e) same first none straight = tt

pub gathers-written-part : {T E : Type 0} (a b c : Option (List ℕ)) (held was piece : List ℕ) (r : Result T E)
    → held ≡ was → Appends a b held → OnErr r (AppendsPart b c piece) → OnErr r (AppendsPart a c (was ++ piece))
gathers-written-part a b c held was piece (Ok x) same first part = tt
gathers-written-part a b c held was piece (Err e) same first part =
    subst (λ t. AppendsPart a c (t ++ piece)) same (part-on a b c held piece first part)

pub gathers-trans : (a b c : Option (List ℕ)) (was mid room one two : List ℕ) → Gathers a b was mid one
    → Gathers b c mid room two → Gathers a c was room (one ++ two)
gathers-trans a b c was mid room one two p q = record {
  given = p.given ++ q.given;
  written = Appends-trans a b c p.given q.given p.written q.written;
  rest =
      append_assoc p.given q.given room ∙ ap (λ t. p.given ++ t) q.rest ∙ sym (append_assoc p.given mid two)
      ∙ ap (λ t. t ++ two) p.rest ∙ append_assoc was one two;
}

-- a part of what the room held then, and of the next piece, is a part of all
pub gathers-part : (a b c : Option (List ℕ)) (was mid one two : List ℕ) → Gathers a b was mid one
    → AppendsPart b c (mid ++ two) → AppendsPart a c (was ++ (one ++ two))
gathers-part a b c was mid one two p part =
    subst (λ t. AppendsPart a c t)
    (sym (append_assoc p.given mid two) ∙ ap (λ t. t ++ two) p.rest ∙ append_assoc was one two)
    (part-on a b c p.given (mid ++ two) p.written part)

-- what the room holds in the end is written
pub gathers-ended : (a b c : Option (List ℕ)) (was mid piece : List ℕ) → Gathers a b was mid piece → Appends b c mid
    → Appends a c (was ++ piece)
gathers-ended a b c was mid piece p last =
    subst (λ t. Appends a c t) p.rest (Appends-trans a b c p.given mid p.written last)
