-- The ticks of threads, as more are known.
use Rattle.std.proofs.Common.{◌≡◌, ◌<◌, ℕ, List, [], ◌∷◌, ◌++◌, length, sym, ap, ◌∙◌, subst}
use Rattle.std.specs.Prelude.{Some, None, slice_get}
use Rattle.std.proofs.lemmas.Option.{slice_get_within}
use Rattle.hls_text.specs.Lines.{Text}
use Rattle.hls_report_text.specs.Content.{Content}
use Rattle.hls_audit_stays.specs.Places.{place_in, Sets}
use Rattle.hls_audit_stays.proofs.Lists.{get_front, get_last}
use Rattle.hls_audit_stays.proofs.Names.{AreSame, Same, Apart, are_same}
use Rattle.hls_audit_threads.specs.declared.known_threads.ThreadTicks.{ThreadTicks}
use Rattle.hls_audit_threads.specs.declared.known_threads.KnownThreads.{KnownThreads}
use Rattle.hls_audit_threads.specs.Inside.Ticks.{TellsReady, TellsServed}
use Rattle.hls_audit_threads.specs.Inside.KnownThreads.{IsKnownAt, AreKnown}

pub known_none : (c : Content) (known : KnownThreads) → ((name : Text) → place_in known.places name ≡ None)
    → AreKnown c known
known_none c known none name place e = absurd (let wrong : None ≡ Some place = sym (none name) ∙ e in cc)

-- the ticks of a thread more
pub known_here : (c : Content) (new : KnownThreads) (before : List ThreadTicks) (name : Text) (ticks : ThreadTicks)
    (place : ℕ) → new.ticks.items ≡ before ++ ticks ∷ [] → place ≡ length before
    → TellsReady c name ticks.ready.spans.items → TellsServed c name ticks.served.spans.items
    → IsKnownAt c new name place
known_here c new before name ticks place items is ready served = record {
  ticks = ticks;
  there = ap (λ (l : List ThreadTicks). slice_get l place) items ∙ ap (slice_get (before ++ ticks ∷ [])) is
      ∙ get_last before ticks;
  ready = ready;
  served = served;
}

pub known_more : (c : Content) (old new : KnownThreads) (name : Text) (ticks : ThreadTicks) (place : ℕ)
    → new.ticks.items ≡ old.ticks.items ++ ticks ∷ [] → Sets old.places new.places name place
    → IsKnownAt c new name place → AreKnown c old → AreKnown c new
known_more c old new name ticks place items put here known other at e = by (are_same name other)
  where
    by : AreSame name other → IsKnownAt c new other at
    by (Same is) =
        let one : Some place ≡ Some at = sym put.here ∙ ap (place_in new.places) is ∙ e in
        let same : place ≡ at = cc in
        subst (λ (n : Text). IsKnownAt c new n at) is (subst (IsKnownAt c new name) same here)
    by (Apart ne off) =
        let before = known other at (sym (put.others other ne) ∙ e) in record {
          ticks = before.ticks;
          there = ap (λ (l : List ThreadTicks). slice_get l at) items
              ∙ get_front old.ticks.items (ticks ∷ []) at before.ticks before.there;
          ready = before.ready;
          served = before.served;
        }

-- ---- the ticks at a place

same_ticks : (c : Content) (known : KnownThreads) (name : Text) (place : ℕ) (ticks : ThreadTicks)
    → (is : IsKnownAt c known name place) → slice_get known.ticks.items place ≡ Some ticks → is.ticks ≡ ticks
same_ticks c known name place ticks is there = let both : Some is.ticks ≡ Some ticks = sym is.there ∙ there in cc

pub known_within : (c : Content) (known : KnownThreads) (name : Text) (place : ℕ) → IsKnownAt c known name place
    → place < length known.ticks.items
known_within c known name place is = slice_get_within known.ticks.items place is.ticks is.there

pub known_ready : (c : Content) (known : KnownThreads) (name : Text) (place : ℕ) (ticks : ThreadTicks)
    → IsKnownAt c known name place → slice_get known.ticks.items place ≡ Some ticks
    → TellsReady c name ticks.ready.spans.items
known_ready c known name place ticks is there =
    subst (λ (t : ThreadTicks). TellsReady c name t.ready.spans.items)
    (same_ticks c known name place ticks is there) is.ready

pub known_served : (c : Content) (known : KnownThreads) (name : Text) (place : ℕ) (ticks : ThreadTicks)
    → IsKnownAt c known name place → slice_get known.ticks.items place ≡ Some ticks
    → TellsServed c name ticks.served.spans.items
known_served c known name place ticks is there =
    subst (λ (t : ThreadTicks). TellsServed c name t.served.spans.items)
    (same_ticks c known name place ticks is there) is.served
