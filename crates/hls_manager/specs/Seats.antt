-- A seat that is wanted of a tree, and what is derived for it.
use Rattle.std.specs.Prelude.{ℕ, List, [], ◌∷◌, Option, Some, None}
use Rattle.hls_text.specs.Lines.{Text}
use Rattle.hls_chron.specs.declared.plain.Config.{Config}
use Rattle.hls_chron.specs.declared.plain.Config.TheVariants as configs
use Rattle.hls_guarantee.specs.declared.Guarantee.{Guarantee}
use Rattle.hls_guarantee.specs.declared.Guarantee.TheVariants.{All}
use Rattle.hls_machine.specs.Hierarchy.{Hierarchy, config_of, haves_of}
use Rattle.hls_legal.specs.Dues.{Due}
use Rattle.hls_tree.specs.declared.seat.Seat.{Seat}

-- what is there: the processor gives every tick
abbrev pub config_at : Hierarchy → (parent : Option ℕ) → Config
config_at h None = configs.Cpu
config_at h (Some p) = config_of (h.nodes p)

abbrev pub haves_at : Hierarchy → (parent : Option ℕ) → List Guarantee
haves_at h None = All ∷ []
haves_at h (Some p) = haves_of (h.nodes p)

-- what is to be derived for a port of a named child
abbrev pub due_for : Hierarchy → (name : Text) → (port : ℕ) → Seat → Due
due_for h name port seat = record {
  name = name;
  port = port;
  place = record { config = config_at h seat.parent; terms = seat.terms };
  haves = haves_at h seat.parent;
  want = seat.kept;
}
