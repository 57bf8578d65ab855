-- The answers to a load.
use Rattle.std.proofs.Common.{◌≡◌, ◌≢◌, inl, inr, ℕ, List, Some, None, sym, ap, ◌∙◌}
use Rattle.std.proofs.Common.{◌<◌, ◌≤◌, arith, subst, slice_get, length}
use Rattle.std.specs.Prelude.{IsSome}
use Rattle.std.proofs.lemmas.Bool.{cases_lt}
use Rattle.hls_text.specs.Lines.{Text}
use Rattle.hls_chron.specs.declared.plain.Config.{Config}
use Rattle.hls_chron.specs.Kinds.{kind_of}
use Rattle.hls_scenario.specs.declared.scenario.Spot.{Spot}
use Rattle.hls_scenario.specs.declared.scenario.Perch.{Perch}
use Rattle.hls_scenario.specs.declared.scenario.Command.{Command}
use Rattle.hls_scenario.specs.declared.scenario.Command.TheVariants as said
use Rattle.hls_report_text.specs.declared.refusal.Refusal.{Refusal}
use Rattle.hls_report_text.specs.declared.refusal.Refusal.TheVariants.{NameTaken, NoSuchName, WrongSort}
use Rattle.hls_report_text.specs.declared.refusal.Refusal.TheVariants.{TooManyNodes, TooManyThreads, NotEmpty}
use Rattle.hls_report_text.specs.declared.refusal.Refusal.TheVariants.{TermsUnfit, PriorityTaken, SeatsFull}
use Rattle.hls_report_text.specs.declared.refusal.Refusal.TheVariants.{Cycle, TooDeep, TooManyShares, KitEmpty}
use Rattle.hls_report_text.specs.declared.refusal.Refusal.TheVariants.{NoRoom, NoDerivation}
use Rattle.hls_report_text.specs.declared.report.Seated.{Seated}
use Rattle.hls_machine.specs.Hierarchy.{Hierarchy}
use Rattle.hls_legal.specs.Moment.{Moment, node_of, spots_of}
use Rattle.hls_legal.specs.Dues.{dues, AreSettled}
use Rattle.hls_legal.specs.Refusals.{IsFirstSuch, IsTooDeep, AreTooManyShares, IsUnderived}
use Rattle.hls_legal.specs.Answers.{number, RefusesCommand, RefusesPlace, RefusesBy, RefusesFirstPlace, Applies}
use Rattle.hls_legal.specs.Answers.{IsRefused, IsDone}
use Rattle.hls_manager.proofs.Places.{to_last, IsPlaceNumber, place_number}

-- a place refuses
pub record IsPlaceRefusal (h : Hierarchy) (c : Command) (spots : List Spot) (r : Refusal) : Type 0 where
  pub port : ℕ
  pub spot : Spot
  pub at_port : slice_get spots port ≡ Some spot
  pub refuses : RefusesPlace h c spot r

module _ (m : Moment) (name : Text) (config : Config) (perches : List Perch) where
  abbrev h : Hierarchy
  h = m.hierarchy

  abbrev pub c : Command
  c = said.Load name config perches

  -- what refuses it as a whole
  abbrev pub Whole : Refusal → Type 0
  Whole (NameTaken other) = IsSome (node_of h name)
  Whole (TooManyNodes most) = 64 ≤ length h.schedulers
  Whole (TooDeep level) = IsTooDeep h c level
  Whole (TooManyShares shares) = AreTooManyShares h c shares
  Whole (KitEmpty kind used) = m.boxes.left (kind_of config) ≡ 0
  Whole (NoDerivation other depth) = IsUnderived h m.depth c other
  Whole _ = ⊥

  whole : (r : Refusal) → RefusesCommand m c r → Whole r
  whole (NameTaken other) f =
      let e = f.new in
      let same : other ≡ name = cc in
      subst (λ n. IsSome (node_of h n)) same f.taken
  whole (NoSuchName other) f = (let e = f.old in cc)
  whole (WrongSort (Some other)) f = (let e = f.old in cc)
  whole (WrongSort None) f = f
  whole (TooManyNodes most) f = f.many
  whole (TooManyThreads most) f = (let e = f.admits in cc)
  whole (NotEmpty other seats) f = (let e = f.unloads in cc)
  whole (TermsUnfit other) f = f
  whole (PriorityTaken priority) f = f
  whole (SeatsFull other seats) f = f
  whole (Cycle other) f = (let e = f.moves in cc)
  whole (TooDeep level) f = f
  whole (TooManyShares shares) f = f
  whole (KitEmpty kind used) f =
      let e = f.loads in
      let same : f.config ≡ config = cc in
      let none = f.none in
      let is = f.kind_is ∙ ap kind_of same in
      ap m.boxes.left (sym is) ∙ none
  whole (NoRoom free asked) f = f
  whole (NoDerivation other depth) f = f.0

  at_place : (r : Refusal) → RefusesFirstPlace m c r → IsPlaceRefusal h c (spots_of c) r
  at_place r f = record {
    port = f.first.at;
    spot = f.first.item;
    at_port = f.first.item_is;
    refuses = f.first.tells.refuses;
  }

  no_number : (r other : Refusal) → IsPlaceNumber (number r) → number other ≡ number r → Whole other → ⊥
  no_number r (NameTaken a) is e g = is.taken (sym e)
  no_number r (TooManyNodes most) is e g = is.nodes (sym e)
  no_number r (TooDeep level) is e g = is.deep (sym e)
  no_number r (TooManyShares shares) is e g = is.shares (sym e)
  no_number r (KitEmpty kind used) is e g = is.kit (sym e)
  no_number r (NoDerivation a depth) is e g = is.derived (sym e)
  no_number r _ is e g = g

  place_applies : (r : Refusal) → IsFirstSuch (spots_of c) (RefusesBy h c (number r)) r → Applies m c r
  place_applies r f = inr (record {
    first = f;
    only = λ other same g.
        no_number r other (place_number h c f.item r f.tells.refuses) same (whole other g);
  })

  -- nothing of a number below this one refuses it as a whole
  pub record IsClear (n : ℕ) : Type 0 where
    pub free : 10 < n → node_of h name ≡ None
    pub few : 13 < n → length h.schedulers < 64
    pub flat : 20 < n → (level : ℕ) → ¬ IsTooDeep h c level
    pub thin : 21 < n → (shares : ℕ) → ¬ AreTooManyShares h c shares
    pub boxed : 22 < n → m.boxes.left (kind_of config) ≢ 0

  module _ (n : ℕ) (last : n ≤ 24) (clear : IsClear n) where
    least_whole : (other : Refusal) → Whole other → n ≤ number other
    least_whole (NameTaken a) g = elim (cases_lt 10 n) [
      | inl lt ↦ (let none = clear.free lt in absurd (cc))
      | inr le ↦ le
    ]
    least_whole (TooManyNodes most) g = elim (cases_lt 13 n) [
      | inl lt ↦ (let few = clear.few lt in absurd (omega (arith, few, g)))
      | inr le ↦ le
    ]
    least_whole (TooDeep level) g = elim (cases_lt 20 n) [
      | inl lt ↦ absurd (clear.flat lt level g)
      | inr le ↦ le
    ]
    least_whole (TooManyShares shares) g = elim (cases_lt 21 n) [
      | inl lt ↦ absurd (clear.thin lt shares g)
      | inr le ↦ le
    ]
    least_whole (KitEmpty kind used) g = elim (cases_lt 22 n) [
      | inl lt ↦ absurd (clear.boxed lt g)
      | inr le ↦ le
    ]
    least_whole (NoDerivation a depth) g = last
    least_whole _ g = absurd g

    least : ((other : Refusal) → IsPlaceRefusal h c (spots_of c) other → n ≤ number other) → (other : Refusal)
        → Applies m c other → n ≤ number other
    least places other (inl f) = least_whole other (whole other f)
    least places other (inr f) = places other (at_place other f)

  -- what refuses it as a whole is its answer where nothing less refuses
  pub whole_refused : (r : Refusal) → RefusesCommand m c r → IsClear (number r)
      → ((other : Refusal) → IsPlaceRefusal h c (spots_of c) other → number r ≤ number other) → IsRefused m c r
  whole_refused r f clear places =
      record { applies = inl f; least = least (number r) (to_last r) clear places }

  -- so is what refuses at a place, at the first that has a refusal of the number
  pub place_refused : (r : Refusal) → IsFirstSuch (spots_of c) (RefusesBy h c (number r)) r → IsClear (number r)
      → ((other : Refusal) → IsPlaceRefusal h c (spots_of c) other → number r ≤ number other) → IsRefused m c r
  place_refused r f clear places =
      record { applies = place_applies r f; least = least (number r) (to_last r) clear places }

  -- nothing refuses it
  pub load_done : (seats : List Seated) → IsClear 24
      → ((other : Refusal) → ¬ IsPlaceRefusal h c (spots_of c) other)
      → ((other : Text) → ¬ IsUnderived h m.depth c other)
      → AreSettled m.depth (dues h c) seats → IsDone m c seats
  load_done seats clear places derived settled = record { none = λ r f. by r f; settled = settled }
    where
      by_whole : (r : Refusal) → Whole r → ⊥
      by_whole (NameTaken a) g = (let none = clear.free (omega arith) in cc)
      by_whole (TooManyNodes most) g = (let few = clear.few (omega arith) in omega (arith, few, g))
      by_whole (TooDeep level) g = clear.flat (omega arith) level g
      by_whole (TooManyShares shares) g = clear.thin (omega arith) shares g
      by_whole (KitEmpty kind used) g = clear.boxed (omega arith) g
      by_whole (NoDerivation a depth) g = derived a g
      by_whole _ g = g

      by : (r : Refusal) → ¬ Applies m c r
      by r (inl f) = by_whole r (whole r f)
      by r (inr f) = places r (at_place r f)
