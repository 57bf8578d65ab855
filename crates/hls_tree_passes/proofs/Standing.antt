-- For how many ticks all schedulers of a list stand.
use Rattle.std.proofs.Common.{◌≡◌, ℕ, ◌+◌, ◌<◌, ◌≤◌, false, List, Option, Some, None}
use Rattle.std.proofs.Common.{sym, ◌∙◌, subst}
use Rattle.std.proofs.Common.{arith, inl, inr, slice_get, length}
use Rattle.std.specs.Prelude.{min}
use Rattle.std.proofs.lemmas.Bool.{cases_lt, cases_Bool}
use Rattle.std.proofs.lemmas.Option.{slice_get_within}
use Rattle.hls_kinds.specs.Stands.{always}
use Rattle.hls_tree_nodes.specs.Shown.{Shown, What, Scheduler, is_sched}
use Rattle.hls_tree_nodes.specs.Shown as shown
use Rattle.hls_tree_nodes.specs.Leapt.{StandsIn, StandsJust, stands_in}
use Rattle.hls_tree_nodes.specs.TreeOf.{IsRoll}
use Rattle.hls_tree_passes.proofs.Leaps.{fewer}

pub record StandsFor (n : ℕ) (choice : Option ℕ) (o : Option Shown) : Type 0 where
  pub least : n ≤ stands_in choice o
  pub law : StandsIn n choice o

-- so far, up to a place of the list, at most so many
pub record AllStand (s : ℕ → Option Shown) (choices : ℕ → Option ℕ) (l : List ℕ) (most at n : ℕ) : Type 0 where
  pub each : (i k : ℕ) → i < at → slice_get l i ≡ Some k → StandsFor n (choices k) (s k)
  pub attained : n < most → StandsJust s choices n
  pub some : 0 < n
  pub within : n ≤ most

pub none_stand : (s : ℕ → Option Shown) (choices : ℕ → Option ℕ) (l : List ℕ) (most : ℕ) → 0 < most
    → AllStand s choices l most 0 most
none_stand s choices l most some = record {
  each = λ i k lt. absurd (omega (arith, lt));
  attained = λ less. absurd (omega (arith, less));
  some = some;
  within = omega arith;
}

lower : (m n : ℕ) (choice : Option ℕ) (o : Option Shown) → n ≤ m → StandsFor m choice o → StandsFor n choice o
lower m n choice o le for_m =
    let least = for_m.least in
    record { least = omega (arith, le, least); law = fewer m n choice o le for_m.law }

pub one_more : (s : ℕ → Option Shown) (choices : ℕ → Option ℕ) (l : List ℕ) (most at n key one next : ℕ)
    → AllStand s choices l most at n → slice_get l at ≡ Some key → one ≡ stands_in (choices key) (s key) → 0 < one
    → StandsIn one (choices key) (s key) → next ≡ min n one → AllStand s choices l most (at + 1) next
one_more s choices l most at n key one next all here is some law min_is =
    let within = all.within in
    let before = all.some in
    record {
      each = λ i k lt found. elim (cases_lt i at) [
        | inl early ↦ lower n next (choices k) (s k) (omega (arith, min_is)) (all.each i k early found)
        | inr late ↦
            let last : at ≡ i = omega (arith, lt, late) in
            let same : Some key ≡ Some k = sym here ∙ subst (λ j. slice_get l j ≡ Some k) (sym last) found in
            let key_is : key ≡ k = cc in
            subst (λ j. StandsFor next (choices j) (s j)) key_is
            (lower one next (choices key) (s key) (omega (arith, min_is))
            (record { least = omega (arith, is); law = law }))
      ];
      attained = λ less. elim (cases_lt n one) [
        | inl old ↦
            let same : n ≡ next = omega (arith, old, min_is) in
            subst (StandsJust s choices) same (all.attained (omega (arith, same, less)))
        | inr new ↦
            let same : one ≡ next = omega (arith, new, min_is) in record { node = key; is = sym is ∙ same }
      ];
      some = omega (arith, min_is, some, before);
      within = omega (arith, min_is, within);
    }

no_scheduler : (n : ℕ) (choice : Option ℕ) (o : Option Shown) → n ≤ always → is_sched o ≡ false → StandsFor n choice o
no_scheduler n choice None le is = record { least = le; law = tt }
no_scheduler n choice (Some s) le is = by_what s.what is where
  by_what : (w : What) → is_sched (Some (record s { what = w })) ≡ false
      → StandsFor n choice (Some (record s { what = w }))
  by_what (Scheduler post) off = absurd cc
  by_what (shown.Thread ready) off = record { least = le; law = tt }

pub all_stand : (s : ℕ → Option Shown) (choices : ℕ → Option ℕ) (l : List ℕ) (most at n : ℕ) → IsRoll s l
    → length l ≤ at → most ≤ always → AllStand s choices l most at n → (k : ℕ) → StandsFor n (choices k) (s k)
all_stand s choices l most at n roll done few all k = elim (cases_Bool (is_sched (s k))) [
  | inl is ↦
      let found = roll.all k is in
      let lt = slice_get_within l found.0 k found.1 in
      all.each found.0 k (omega (arith, lt, done)) found.1
  | inr off ↦ let within = all.within in no_scheduler n (choices k) (s k) (omega (arith, within, few)) off
]
