-- The line of a request that is made where a core stands.
use Rattle.std.proofs.Common.{◌≡◌, ◌≢◌, ◌++◌, ◌||◌, ℕ, Bool, true, false, Option, None, sym, ap, ◌∙◌}
use Rattle.std.specs.Fn.{Mut}
use Rattle.std.specs.Prelude.{OnOk}
use Rattle.std.specs.declared.result.Result.{Result}
use Rattle.std.specs.declared.result.Result.TheVariants.{Ok, Err}
use Rattle.hls_text.specs.Lines.{Text}
use Rattle.hls_guarantee.specs.declared.Guarantee.{Guarantee}
use Rattle.hls_scenario.specs.declared.scenario.Command.{Command}
use Rattle.hls_report_text.specs.ReportText.{with_end, item_text}
use Rattle.hls_sched.specs.Seen.{Seen}
use Rattle.hls_machine.specs.Hierarchy.{Node}
use Rattle.hls_legal.specs.Moment.{Moment}
use Rattle.hls_tree.specs.Reads.{IsLoaded}
use Rattle.hls_core.specs.Asking.{IsMomentOf}
use Rattle.hls_core.specs.declared.cores.Core.{Core}
use Rattle.hls_offer_asks.specs.declared.wish.Wish.{Wish}
use Rattle.hls_offer_asks.specs.Requests.{request_of}
use Rattle.hls_offer.specs.Told.{at_text}

-- V and P are what the checker knows a box by, and W, Q and X a rule
module _ {V W : Type 0} {P : V → Type 0} {Q : W → Type 0}
    {X : Mut ((x : W) × Q x) (Guarantee × (Guarantee × Unit {0})) (Option Guarantee)}
    (seen : (x : V) × P x → Seen) (c : Core V W P Q X) where
  pub wish_line : {E : Type 0} (result : Result (Unit {0}) E) (old new : Text) (tick now : ℕ) (command : Command)
      (wish : Wish) (g : Guarantee) → tick ≡ now
      → ((m : Moment) → IsMomentOf seen c m → command ≡ request_of m.hierarchy wish g)
      → OnOk result (new ≡ old ++ with_end (item_text 1 (record { tick = tick; command = command })))
      → OnOk result ((m : Moment) → IsMomentOf seen c m
      → new ≡ old ++ with_end (at_text now (request_of m.hierarchy wish g)))
  wish_line (Ok done) old new tick now command wish g same is text = λ m at.
      text ∙ ap (λ (n : ℕ). old ++ with_end (at_text n command)) same
      ∙ ap (λ (x : Command). old ++ with_end (at_text now x)) (is m at)
  wish_line (Err error) old new tick now command wish g same is text = tt

pub loaded_some : (node : Option Node) → IsLoaded node → node ≢ None
loaded_some seated is e = (let there = is.there in cc)

-- a seat is offered already, or the last line tells
pub or_then : (a b r : Bool) → a ≡ true → r ≡ a → (a || b) ≡ r
or_then a b r e f = ap (λ (x : Bool). x || b) e ∙ sym e ∙ sym f

pub or_else : (a b r : Bool) → a ≡ false → r ≡ b → (a || b) ≡ r
or_else a b r e f = ap (λ (x : Bool). x || b) e ∙ sym f
