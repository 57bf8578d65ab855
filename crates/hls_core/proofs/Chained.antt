-- What is written piece by piece, through a room that is empty at first.
use Rattle.std.proofs.Common.{◌≡◌, ℕ, List, [], ◌++◌, subst}
use Rattle.std.specs.Prelude.{Option, Result, Ok, Err, OnOk, OnErr}
use Rattle.std.specs.Io.KnownBytes.{Appends}
use Rattle.hls_io.specs.Bytes.{AppendsPart, Gathers}
use Rattle.hls_io.proofs.Steps.{part-more, part-on, gathers-trans, gathers-part, gathers-ended}

-- three pieces go through the room
module _ (old : Option (List ℕ)) (front empty schedule back : List ℕ) (none : empty ≡ []) where
  abbrev all : List ℕ
  all = front ++ schedule ++ back

  pub first-part : (new : Option (List ℕ)) → AppendsPart old new (empty ++ front) → AppendsPart old new all
  first-part new part =
      part-more old new (front ++ schedule) back (part-more old new front schedule
      (subst (λ (t : List ℕ). AppendsPart old new (t ++ front)) none part))

  module _ (one : Option (List ℕ)) (held : List ℕ) (begun : Gathers old one empty held front) where
    pub second-part : (new : Option (List ℕ)) → AppendsPart one new (held ++ schedule) → AppendsPart old new all
    second-part new part =
        part-more old new (front ++ schedule) back
        (subst (λ (t : List ℕ). AppendsPart old new (t ++ (front ++ schedule))) none
        (gathers-part old one new empty held front schedule begun part))

    module _ (two : Option (List ℕ)) (next : List ℕ) (more : Gathers one two held next schedule) where
      both : Gathers old two [] next (front ++ schedule)
      both =
          subst (λ (t : List ℕ). Gathers old two t next (front ++ schedule)) none
          (gathers-trans old one two empty held next front schedule begun more)

      pub third-part : (new : Option (List ℕ)) → AppendsPart two new (next ++ back) → AppendsPart old new all
      third-part new part = gathers-part old two new [] next (front ++ schedule) back both part

      module _ (three : Option (List ℕ)) (rest : List ℕ) (ended : Gathers two three next rest back) where
        through : Gathers old three [] rest all
        through = gathers-trans old two three [] next rest (front ++ schedule) back both ended

        pub last-part : (new : Option (List ℕ)) → AppendsPart three new rest → AppendsPart old new all
        last-part new part =
            subst (AppendsPart old new) through.rest (part-on old three new through.given rest through.written part)

        pub all-written : (new : Option (List ℕ)) → Appends three new rest → Appends old new all
        all-written new last = gathers-ended old three new [] rest all through last

-- where nothing failed, and where something did
pub on_ok : {T E A B : Type 0} (result : Result T E) → (A → B) → OnOk result A → OnOk result B
on_ok (Ok t) f x = f x
on_ok (Err e) f x = tt

pub on_err : {T E A B : Type 0} (result : Result T E) → (A → B) → OnErr result A → OnErr result B
on_err (Ok t) f x = tt
on_err (Err e) f x = f x

pub as_err : {T E A : Type 0} (result : Result T E) → A → OnErr result A
as_err (Ok t) x = tt
as_err (Err e) x = x
