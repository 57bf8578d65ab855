-- The terms that are among those that are told to be left.
use Rattle.std.specs.Prelude.{◌≤◌, Contains}
use Rattle.hls_chron.specs.declared.plain.Terms.{Terms}
use Rattle.hls_chron.specs.declared.plain.Terms.TheVariants as terms
use Rattle.hls_chron.specs.Parts.{parts}
use Rattle.hls_offer_text.specs.declared.left.Span.{Span}
use Rattle.hls_offer_text.specs.declared.left.Left.{Left}
use Rattle.hls_offer_text.specs.declared.left.Left.TheVariants.{Priorities, Parts, Weight, Slots, Turn, Sole}

-- a priority of a span, a reservation of no more parts, no more weight, no more places, a turn, or the one seat
abbrev pub HasTerms : Left → Terms → Type 0
HasTerms (Priorities spans) (terms.Prio priority) =
    (span : Span) × Contains spans span × (span.first ≤ priority) × (priority ≤ span.last)
HasTerms (Parts free fits) (terms.Res hard x y) = parts x y ≤ free
HasTerms (Weight weight) (terms.Weight asked) = asked ≤ weight
HasTerms (Slots places) (terms.Slots asked) = asked ≤ places
HasTerms Turn terms.Turn = Unit {0}
HasTerms Sole terms.Sole = Unit {0}
HasTerms _ _ = ⊥
