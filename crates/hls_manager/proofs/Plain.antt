-- The answers to commands that take no seat.
use Rattle.std.proofs.Common.{◌≡◌, inl, inr, ℕ, List, [], Option, Some, None, refl, sym, ap, ◌∙◌, ◌≤◌, arith}
use Rattle.std.proofs.Common.{subst, slice_get, map}
use Rattle.hls_text.specs.Lines.{Text}
use Rattle.hls_chron.specs.declared.plain.Config.{Config}
use Rattle.hls_scenario.specs.declared.scenario.Spot.{Spot}
use Rattle.hls_scenario.specs.declared.scenario.Perch.{Perch}
use Rattle.hls_scenario.specs.declared.scenario.Command.{Command}
use Rattle.hls_scenario.specs.declared.scenario.Command.TheVariants as said
use Rattle.hls_report_text.specs.declared.refusal.Refusal.{Refusal}
use Rattle.hls_report_text.specs.declared.refusal.Refusal.TheVariants.{NameTaken, NoSuchName, WrongSort}
use Rattle.hls_report_text.specs.declared.refusal.Refusal.TheVariants.{TooManyNodes, TooManyThreads, NotEmpty}
use Rattle.hls_report_text.specs.declared.refusal.Refusal.TheVariants.{TermsUnfit, PriorityTaken, SeatsFull}
use Rattle.hls_report_text.specs.declared.refusal.Refusal.TheVariants.{Cycle, TooDeep, TooManyShares, KitEmpty}
use Rattle.hls_report_text.specs.declared.refusal.Refusal.TheVariants.{NoRoom, NoDerivation}
use Rattle.hls_machine.specs.Hierarchy.{Hierarchy, Node}
use Rattle.hls_legal.specs.Moment.{Moment, node_of}
use Rattle.hls_legal.specs.Moment.{new_name, old_name, perches_of, spots_of}
use Rattle.hls_legal.specs.Levels.{HasChainAfter}
use Rattle.hls_legal.specs.Dues.{Due, dues}
use Rattle.hls_legal.specs.Refusals.{IsOfWrongSort, IsNotEmpty}
use Rattle.hls_legal.specs.Answers.{number, RefusesCommand, Applies, IsRefused}

-- a command that has an old name, and neither a new one nor a place
pub record IsPlain (h : Hierarchy) (c : Command) (name : Text) : Type 0 where
  pub old : old_name c ≡ Some name
  pub new : new_name c ≡ None
  pub places : perches_of c ≡ []
  pub settles : dues h c ≡ []
  pub flat : (level shares : ℕ) → ¬ HasChainAfter h c level shares
  pub no_load : (other : Text) (config : Config) (perches : List Perch) → ¬ (c ≡ said.Load other config perches)
  pub no_thread : (other : Text) (perch : Perch) → ¬ (c ≡ said.Thread other perch)
  pub no_move : (other : Text) (perch : Perch) → ¬ (c ≡ said.Move other perch)

pub ends : (h : Hierarchy) (name : Text) → IsPlain h (said.End name) name
ends h name = record {
  old = refl;
  new = refl;
  places = refl;
  settles = refl;
  flat = λ level shares f. f;
  no_load = λ other config perches e. cc;
  no_thread = λ other perch e. cc;
  no_move = λ other perch e. cc;
}

pub wakes : (h : Hierarchy) (name : Text) (every burst : Option ℕ) → IsPlain h (said.Wake name every burst) name
wakes h name every burst = record {
  old = refl;
  new = refl;
  places = refl;
  settles = refl;
  flat = λ level shares f. f;
  no_load = λ other config perches e. cc;
  no_thread = λ other perch e. cc;
  no_move = λ other perch e. cc;
}

pub blocks : (h : Hierarchy) (name : Text) → IsPlain h (said.Block name) name
blocks h name = record {
  old = refl;
  new = refl;
  places = refl;
  settles = refl;
  flat = λ level shares f. f;
  no_load = λ other config perches e. cc;
  no_thread = λ other perch e. cc;
  no_move = λ other perch e. cc;
}

pub unloads : (h : Hierarchy) (name : Text) → IsPlain h (said.Unload name) name
unloads h name = record {
  old = refl;
  new = refl;
  places = refl;
  settles = refl;
  flat = λ level shares f. f;
  no_load = λ other config perches e. cc;
  no_thread = λ other perch e. cc;
  no_move = λ other perch e. cc;
}

-- what can refuse it
abbrev Can : Hierarchy → Command → Text → Refusal → Type 0
Can h c name (NoSuchName other) = (other ≡ name) × (node_of h name ≡ None)
Can h c name (WrongSort (Some other)) = (other ≡ name) × IsOfWrongSort h c name
Can h c name (NotEmpty other seats) = (other ≡ name) × IsNotEmpty h c name seats
Can h c name _ = ⊥

module _ (m : Moment) (c : Command) (name : Text) (plain : IsPlain m.hierarchy c name) where
  abbrev h : Hierarchy
  h = m.hierarchy

  same_name : (other : Text) → old_name c ≡ Some other → other ≡ name
  same_name other e = (let old = plain.old in cc)

  no_spot : (at : ℕ) (spot : Spot) → slice_get (spots_of c) at ≡ Some spot → ⊥
  no_spot at spot e =
      let none = ap (λ (ps : List Perch). slice_get (map (λ (perch : Perch). perch.spot) ps) at) plain.places in
      let lost : None ≡ Some spot = sym none ∙ e in
      cc

  no_due : (at : ℕ) (due : Due) → slice_get (dues h c) at ≡ Some due → ⊥
  no_due at due e =
      let none = ap (λ (ds : List Due). slice_get ds at) plain.settles in
      let lost : None ≡ Some due = sym none ∙ e in
      cc

  by_command : (r : Refusal) → RefusesCommand m c r → Can h c name r
  by_command (NameTaken other) f = (let new = plain.new in let is = f.new in cc)
  by_command (NoSuchName other) f =
      let same = same_name other f.old in
      (same, subst (λ n. node_of h n ≡ None) same f.unknown)
  by_command (WrongSort (Some other)) f =
      let same = same_name other f.old in
      (same, subst (λ n. IsOfWrongSort h c n) same f.wrong)
  by_command (WrongSort None) f = f
  by_command (TooManyNodes most) f = plain.no_load f.name f.config f.perches f.loads
  by_command (TooManyThreads most) f = plain.no_thread f.name f.perch f.admits
  by_command (NotEmpty other seats) f =
      let same = same_name other (ap old_name f.unloads) in
      (same, subst (λ n. IsNotEmpty h c n seats) same f)
  by_command (TermsUnfit other) f = f
  by_command (PriorityTaken priority) f = f
  by_command (SeatsFull other seats) f = f
  by_command (Cycle other) f = plain.no_move f.mover f.perch f.moves
  by_command (TooDeep level) f = plain.flat level f.shares f.chain
  by_command (TooManyShares shares) f = plain.flat f.level shares f.chain
  by_command (KitEmpty kind used) f = plain.no_load f.name f.config f.perches f.loads
  by_command (NoRoom free asked) f = f
  by_command (NoDerivation other depth) f = absurd (no_due f.0.at f.0.item f.0.item_is)

  applying : (r : Refusal) → Applies m c r → Can h c name r
  applying r (inl f) = by_command r f
  applying r (inr f) = absurd (no_spot f.first.at f.first.item f.first.item_is)

  unknown_by : (r other : Refusal) → number r ≡ 11 → Can h c name other → number r ≤ number other
  unknown_by r (NoSuchName a) e f = omega (arith, e)
  unknown_by r (WrongSort (Some a)) e f = omega (arith, e)
  unknown_by r (NotEmpty a seats) e f = omega (arith, e)
  unknown_by r _ e f = absurd f

  -- nobody has the name
  pub unknown : node_of h name ≡ None → IsRefused m c (NoSuchName name)
  unknown e = record {
    applies = inl (record { old = plain.old; unknown = e });
    least = λ other f. unknown_by (NoSuchName name) other refl (applying other f);
  }

  wrong_by : (node : Node) → node_of h name ≡ Some node → (other : Refusal) → Can h c name other → 12 ≤ number other
  wrong_by node e (NoSuchName a) f = absurd (let none = f.1 in cc)
  wrong_by node e (WrongSort (Some a)) f = omega arith
  wrong_by node e (NotEmpty a seats) f = omega arith
  wrong_by node e _ f = absurd f

  -- one of another sort has it
  pub wrong : (node : Node) → node_of h name ≡ Some node → IsOfWrongSort h c name
      → IsRefused m c (WrongSort (Some name))
  wrong node e of = record {
    applies = inl (record { old = plain.old; wrong = of });
    least = λ other f. wrong_by node e other (applying other f);
  }

  module _ (node : Node) (there : node_of h name ≡ Some node) (right : ¬ IsOfWrongSort h c name) where
    full_by : (other : Refusal) → Can h c name other → 15 ≤ number other
    full_by (NoSuchName a) f = absurd (let none = f.1 in cc)
    full_by (WrongSort (Some a)) f = absurd (right f.1)
    full_by (NotEmpty a seats) f = omega arith
    full_by _ f = absurd f

    pub full : (seats : ℕ) → IsNotEmpty h c name seats → IsRefused m c (NotEmpty name seats)
    full seats is = record { applies = inl is; least = λ other f. full_by other (applying other f) }

    none_by : ((seats : ℕ) → ¬ IsNotEmpty h c name seats) → (other : Refusal) → ¬ Can h c name other
    none_by empty (NoSuchName a) f = (let none = f.1 in cc)
    none_by empty (WrongSort (Some a)) f = right f.1
    none_by empty (NotEmpty a seats) f = empty seats f.1
    none_by empty _ f = f

    pub none : ((seats : ℕ) → ¬ IsNotEmpty h c name seats) → (r : Refusal) → ¬ Applies m c r
    none empty r f = none_by empty r (applying r f)
