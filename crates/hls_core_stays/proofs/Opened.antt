-- Tallies of open stays.
use Rattle.std.proofs.Common.{◌≡◌, ℕ, inl, inr, ◌+◌, ◌<◌, ◌≤◌, List, true, false, ◌==◌, ◌&&◌}
use Rattle.std.proofs.Common.{length, refl, sym, ap, ◌∙◌, arith, is_none}
use Rattle.std.specs.Prelude.{Option, Some, None, slice_get}
use Rattle.std.proofs.lemmas.Bool.{eq-eqb, eqb-true, cases_lt}
use Rattle.std.proofs.lemmas.Option.{slice_get_within}
use Rattle.hls_core_stays.specs.Tallies.{open_by, opened_at}
use Rattle.hls_core_stays.specs.declared.tally.Tally.{Tally}

pub open_on : (tally : Tally) (k : ℕ) → tally.until ≡ None → tally.thread ≡ k → open_by (Some tally) k ≡ true
open_on tally k none is =
    ap (λ u. is_none u && tally.thread == k) none ∙ eq-eqb tally.thread k is

pub record IsOpen (o : Option Tally) (k : ℕ) : Type 0 where
  pub tally : Tally
  pub there : o ≡ Some tally
  pub until : tally.until ≡ None
  pub thread : tally.thread ≡ k

both_on : (tally : Tally) (k : ℕ) (until : Option ℕ) → tally.until ≡ until
    → (is_none until && tally.thread == k) ≡ true → IsOpen (Some tally) k
both_on tally k None e on =
    record { tally = tally; there = refl; until = e; thread = eqb-true tally.thread k on }
both_on tally k (Some t) e on = absurd (cc)

pub open_off : (o : Option Tally) (k : ℕ) → open_by o k ≡ true → IsOpen o k
open_off None k on = absurd (cc)
open_off (Some tally) k on = both_on tally k tally.until refl on

-- none is open among the first so many, and the next is not
pub none_more : (tallies : List Tally) (k at : ℕ) → ((i : ℕ) → i < at → opened_at tallies i k ≡ false)
    → opened_at tallies at k ≡ false → (i : ℕ) → i < at + 1 → opened_at tallies i k ≡ false
none_more tallies k at before off i lt = elim (cases_lt i at) [
  | inl low ↦ before i low
  | inr le ↦ let same : i ≡ at = omega (arith, lt, le) in ap (λ n. opened_at tallies n k) same ∙ off
]

pub none_at_all : (tallies : List Tally) (k at other : ℕ) → length tallies ≤ at
    → ((i : ℕ) → i < at → opened_at tallies i k ≡ false) → (i : ℕ) → opened_at tallies i k ≡ true
    → opened_at tallies other k ≡ true
none_at_all tallies k at other le before i on =
    let x = open_off (slice_get tallies i) k on in
    let within = slice_get_within tallies i x.tally x.there in
    let off = before i (omega (arith, within, le)) in
    let clash : true ≡ false = sym on ∙ off in absurd (cc)
