-- The answers to a move.
use Rattle.std.proofs.Common.{◌≡◌, ◌≢◌, inl, inr, ℕ, zero, suc, ◌+◌, List, [], ◌∷◌, Some, None, refl}
use Rattle.std.proofs.Common.{◌<◌, ◌≤◌, arith, subst, slice_get}
use Rattle.std.proofs.lemmas.Bool.{cases_lt}
use Rattle.hls_text.specs.Lines.{Text}
use Rattle.hls_scenario.specs.declared.scenario.Spot.{Spot}
use Rattle.hls_scenario.specs.declared.scenario.Perch.{Perch}
use Rattle.hls_scenario.specs.declared.scenario.Command.{Command}
use Rattle.hls_scenario.specs.declared.scenario.Command.TheVariants as said
use Rattle.hls_report_text.specs.declared.refusal.Refusal.{Refusal}
use Rattle.hls_report_text.specs.declared.refusal.Refusal.TheVariants.{NameTaken, NoSuchName, WrongSort}
use Rattle.hls_report_text.specs.declared.refusal.Refusal.TheVariants.{TooManyNodes, TooManyThreads, NotEmpty}
use Rattle.hls_report_text.specs.declared.refusal.Refusal.TheVariants.{TermsUnfit, PriorityTaken, SeatsFull}
use Rattle.hls_report_text.specs.declared.refusal.Refusal.TheVariants.{Cycle, TooDeep, TooManyShares, KitEmpty}
use Rattle.hls_report_text.specs.declared.refusal.Refusal.TheVariants.{NoRoom, NoDerivation}
use Rattle.hls_report_text.specs.declared.report.Seated.{Seated}
use Rattle.hls_machine.specs.Hierarchy.{Hierarchy}
use Rattle.hls_legal.specs.Moment.{Moment, node_of, NamesJoin}
use Rattle.hls_legal.specs.Dues.{dues, AreSettled}
use Rattle.hls_legal.specs.Refusals.{IsCycle, IsTooDeep, AreTooManyShares, IsUnderived}
use Rattle.hls_legal.specs.Answers.{number, RefusesCommand, RefusesPlace, RefusesFirstPlace, Applies, IsRefused}
use Rattle.hls_legal.specs.Answers.{IsDone}
use Rattle.hls_manager.proofs.Places.{to_last, place_number}

-- no refusal of the command as a whole has a number below n
pub record IsClear (h : Hierarchy) (name : Text) (perch : Perch) (n : ℕ) : Type 0 where
  pub known : 11 < n → node_of h name ≢ None
  pub lone : 12 < n → ¬ NamesJoin h name
  pub acyclic : 19 < n → (other : Text) → ¬ IsCycle h (said.Move name perch) other
  pub flat : 20 < n → (level : ℕ) → ¬ IsTooDeep h (said.Move name perch) level
  pub thin : 21 < n → (shares : ℕ) → ¬ AreTooManyShares h (said.Move name perch) shares

module _ (m : Moment) (name : Text) (perch : Perch) where
  abbrev h : Hierarchy
  h = m.hierarchy

  abbrev c : Command
  c = said.Move name perch

  -- what refuses it as a whole
  abbrev Whole : Refusal → Type 0
  Whole (NoSuchName other) = node_of h name ≡ None
  Whole (WrongSort other) = NamesJoin h name
  Whole (Cycle other) = IsCycle h c other
  Whole (TooDeep level) = IsTooDeep h c level
  Whole (TooManyShares shares) = AreTooManyShares h c shares
  Whole (NoDerivation other depth) = IsUnderived h m.depth c other
  Whole _ = ⊥

  whole : (r : Refusal) → RefusesCommand m c r → Whole r
  whole (NameTaken other) f = (let e = f.new in cc)
  whole (NoSuchName other) f =
      let e = f.old in
      let same : other ≡ name = cc in
      subst (λ n. node_of h n ≡ None) same f.unknown
  whole (WrongSort (Some other)) f =
      let e = f.old in
      let same : other ≡ name = cc in
      subst (λ (n : Text). NamesJoin h n) same f.wrong
  whole (WrongSort None) f = absurd f
  whole (TooManyNodes most) f = (let e = f.loads in cc)
  whole (TooManyThreads most) f = (let e = f.admits in cc)
  whole (NotEmpty other seats) f = (let e = f.unloads in cc)
  whole (TermsUnfit other) f = f
  whole (PriorityTaken priority) f = f
  whole (SeatsFull other seats) f = f
  whole (Cycle other) f = f
  whole (TooDeep level) f = f
  whole (TooManyShares shares) f = f
  whole (KitEmpty kind used) f = (let e = f.loads in cc)
  whole (NoRoom free asked) f = f
  whole (NoDerivation other depth) f = f.0

  at_spot : (r : Refusal) → RefusesFirstPlace m c r → RefusesPlace h c perch.spot r
  at_spot r f = by f.first.at f.first.item f.first.item_is f.first.tells.refuses
    where
      by : (at : ℕ) (item : Spot) → slice_get (perch.spot ∷ []) at ≡ Some item → RefusesPlace h c item r
          → RefusesPlace h c perch.spot r
      by zero item e refuses =
          (let same : item ≡ perch.spot = cc in subst (λ (s : Spot). RefusesPlace h c s r) same refuses)
      by (suc at) item e refuses = absurd (cc)

  module _ (n : ℕ) (last : n ≤ 24) (clear : IsClear h name perch n) where
    least_whole : (other : Refusal) → Whole other → n ≤ number other
    least_whole (NoSuchName a) g = elim (cases_lt 11 n) [
      | inl lt ↦ absurd (clear.known lt g)
      | inr le ↦ le
    ]
    least_whole (WrongSort a) g = elim (cases_lt 12 n) [
      | inl lt ↦ absurd (clear.lone lt g)
      | inr le ↦ le
    ]
    least_whole (Cycle a) g = elim (cases_lt 19 n) [
      | inl lt ↦ absurd (clear.acyclic lt a g)
      | inr le ↦ le
    ]
    least_whole (TooDeep level) g = elim (cases_lt 20 n) [
      | inl lt ↦ absurd (clear.flat lt level g)
      | inr le ↦ le
    ]
    least_whole (TooManyShares shares) g = elim (cases_lt 21 n) [
      | inl lt ↦ absurd (clear.thin lt shares g)
      | inr le ↦ le
    ]
    least_whole (NoDerivation a depth) g = last
    least_whole _ g = absurd g

  -- what refuses it as a whole is its answer where nothing less refuses
  pub whole_refused : (r : Refusal) → RefusesCommand m c r → IsClear h name perch (number r)
      → ((other : Refusal) → RefusesPlace h c perch.spot other → number r ≤ number other) → IsRefused m c r
  whole_refused r f clear places = record {
    applies = inl f;
    least = λ other g. by other g;
  }
    where
      by : (other : Refusal) → Applies m c other → number r ≤ number other
      by other (inl g) = least_whole (number r) (to_last r) clear other (whole other g)
      by other (inr g) = places other (at_spot other g)

  -- so is what refuses at the place
  pub place_refused : (r : Refusal) → RefusesPlace h c perch.spot r → IsClear h name perch (number r + 1)
      → ((other : Refusal) → RefusesPlace h c perch.spot other → number r ≤ number other) → IsRefused m c r
  place_refused r f clear places = record {
    applies = inr (record {
      first = record {
        at = 0;
        item = perch.spot;
        item_is = refl;
        tells = record { refuses = f; number_is = refl };
        first = λ before other some lt e tells. absurd (omega (arith, lt));
      };
      only = λ other same g.
          (let more = least_whole (number r + 1) last clear other (whole other g) in omega (arith, more, same));
    });
    least = λ other g. by other g;
  }
    where
      last : number r + 1 ≤ 24
      last = (let le = to_last r in let ne = (place_number h c perch.spot r f).derived in omega (arith, le, ne))

      by : (other : Refusal) → Applies m c other → number r ≤ number other
      by other (inl g) =
          (let more = least_whole (number r + 1) last clear other (whole other g) in omega (arith, more))
      by other (inr g) = places other (at_spot other g)

  -- the want of a derivation is told where nothing else refuses
  pub lacks_refused : (other : Text) → IsUnderived h m.depth c other → IsClear h name perch 24
      → ((r : Refusal) → ¬ RefusesPlace h c perch.spot r) → IsRefused m c (NoDerivation other m.depth)
  lacks_refused other f clear places =
      whole_refused (NoDerivation other m.depth) (f, refl) clear (λ r g. absurd (places r g))

  -- nothing refuses it
  pub shift_done : (seats : List Seated) → IsClear h name perch 24
      → ((r : Refusal) → ¬ RefusesPlace h c perch.spot r)
      → ((other : Text) → ¬ IsUnderived h m.depth c other)
      → AreSettled m.depth (dues h c) seats → IsDone m c seats
  shift_done seats clear places derived settled = record { none = λ r f. by r f; settled = settled }
    where
      by_whole : (r : Refusal) → Whole r → ⊥
      by_whole (NoSuchName a) g = clear.known (omega arith) g
      by_whole (WrongSort a) g = clear.lone (omega arith) g
      by_whole (Cycle a) g = clear.acyclic (omega arith) a g
      by_whole (TooDeep level) g = clear.flat (omega arith) level g
      by_whole (TooManyShares shares) g = clear.thin (omega arith) shares g
      by_whole (NoDerivation a depth) g = derived a g
      by_whole _ g = g

      by : (r : Refusal) → ¬ Applies m c r
      by r (inl f) = by_whole r (whole r f)
      by r (inr f) = places r (at_spot r f)
