-- How many slices of lists hold a tick.
use Rattle.std.proofs.Common.{◌≡◌, ◌∙◌, ℕ, ◌+◌, List, [], ◌∷◌, ◌++◌, refl, ap, ap₂, sym}
use Rattle.std.specs.Prelude.{filter, flat_map, length}
use Rattle.std.proofs.lemmas.List.{length-append}
use Rattle.std.proofs.lemmas.List.Elements.{filter-append}
use Rattle.hls_view_trace.specs.declared.event.Category.{Category}
use Rattle.hls_view_trace.specs.declared.event.Event.{Event}
use Rattle.hls_view_timeline.specs.Counted.{holds_as, held_as}

pub held-append : (category : Category) (t : ℕ) (some more : List Event)
    → held_as category t (some ++ more) ≡ held_as category t some + held_as category t more
held-append category t some more =
    ap length (filter-append (holds_as category t) some more)
    ∙ length-append (filter (holds_as category t) some) (filter (holds_as category t) more)

-- pieces that have as many each have as many together
pub held-alike : (category : Category) (t : ℕ) (f g : ℕ → List Event) (places : List ℕ)
    → ((at : ℕ) → held_as category t (f at) ≡ held_as category t (g at))
    → held_as category t (flat_map f places) ≡ held_as category t (flat_map g places)
held-alike category t f g [] same = refl
held-alike category t f g (at ∷ places) same =
    held-append category t (f at) (flat_map f places)
    ∙ ap₂ (λ (a b : ℕ). a + b) (same at) (held-alike category t f g places same)
    ∙ sym (held-append category t (g at) (flat_map g places))
