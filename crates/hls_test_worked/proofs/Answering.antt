-- Answers along a run, one by one.
use Rattle.std.proofs.Common.{◌≡◌, ◌≢◌, ℕ, zero, suc, List, [], ◌∷◌, Some, subst, slice_get, arith}
use Rattle.hls_text.specs.Lines.{Text}
use Rattle.hls_chron.specs.declared.plain.Kind.{Kind}
use Rattle.hls_chron.specs.Kinds.{kind_of}
use Rattle.hls_chron.specs.declared.plain.Config.{Config}
use Rattle.hls_chron.specs.declared.plain.Terms.{Terms}
use Rattle.hls_guarantee.specs.declared.Guarantee.{Guarantee}
use Rattle.hls_guarantee.specs.declared.rule.RuleName.{RuleName}
use Rattle.hls_guarantee.specs.Conversions.{Converts}
use Rattle.hls_guarantee.specs.Steps.{LendsThrough, Lends}
use Rattle.hls_derive.specs.declared.derivation.Derivation.{Derivation}
use Rattle.hls_scenario.specs.declared.scenario.Command.{Command}
use Rattle.hls_report_text.specs.declared.report.Seated.{Seated}
use Rattle.hls_report_text.specs.declared.report.Answer.TheVariants.{Done}
use Rattle.hls_machine.specs.Hierarchy.{Hierarchy}
use Rattle.hls_machine.specs.Steps.{Step}
use Rattle.hls_machine.specs.Legal.{Can}
use Rattle.hls_legal.specs.Tells.{Does}
use Rattle.hls_legal.proofs.Reached.{IsReached, listed}
use Rattle.hls_legal.specs.Moment.{Boxes, Moment}
use Rattle.hls_legal.specs.Dues.{Due, dues, Derives, IsSettled, AreSettled}
use Rattle.hls_legal.specs.Answers.{IsAnswer}
use Rattle.hls_legal.specs.Doable.{HasBox}
use Rattle.hls_legal.proofs.Taken.{none_applies}
use Rattle.hls_test_worked.specs.Said.{lent, lent_after, seated}

derived_at : (depth : ℕ) (due : List Due) (seats : List Seated) → AreSettled depth due seats → (at : ℕ) (one : Due)
    → slice_get due at ≡ Some one → (d : Derivation) × Derives depth one d
derived_at depth [] seats settled at one e = absurd (cc)
derived_at depth (x ∷ due) [] settled at one e = absurd settled
derived_at depth (x ∷ due) (s ∷ seats) settled zero one e = (
  s.derivation,
  (let same : x ≡ one = cc in subst (λ (y : Due). Derives depth y s.derivation) same settled.0.derives),
)
derived_at depth (x ∷ due) (s ∷ seats) settled (suc at) one e = derived_at depth due seats settled.1 at one e

-- a command that a step may do, with its seats
pub done_at : (h : Hierarchy) (boxes : Boxes) (depth : ℕ) → IsReached h → (c : Command) (step : Step) → Does h c step
    → Can h step → HasBox boxes c → (seats : List Seated) → AreSettled depth (dues h c) seats
    → IsAnswer (record { hierarchy = h; boxes = boxes; depth = depth }) c (Done seats)
done_at h boxes depth reached c step does can box seats settled =
    let m : Moment = record { hierarchy = h; boxes = boxes; depth = depth } in
    record {
      none = none_applies m (listed h reached) c (record { step = step; does = does; can = can }) box
          (λ at one e. derived_at depth (dues h c) seats settled at one e);
      settled = settled;
    }

-- a seat whose guarantee the scheduler lends of what port has, and one where a conversion goes before
pub settled_lent : (due : Due) (name : Text) (port : ℕ) (from : Guarantee) (kind : Kind) (to : Guarantee)
    → name ≡ due.name → port ≡ due.port → slice_get due.haves 0 ≡ Some from → kind ≡ kind_of due.place.config
    → Lends due.place.config due.place.terms due.haves 0 from to → to ≡ due.want
    → IsSettled 3 due (seated name port (lent from kind to))
settled_lent due name port from kind to named at has of_kind lends want = record {
  name = named;
  port = at;
  derives = record {
    derives = record { starts = has; before = tt; kind = of_kind; sched = lends; after = tt; ends = want };
    short = omega arith;
  };
}

pub settled_after : (due : Due) (name : Text) (port : ℕ) (from : Guarantee) (rule : RuleName) (via : Guarantee)
    (kind : Kind) (to : Guarantee) → name ≡ due.name → port ≡ due.port → slice_get due.haves 0 ≡ Some from
    → Converts rule from via → kind ≡ kind_of due.place.config
    → Lends due.place.config due.place.terms due.haves 0 via to → to ≡ due.want
    → IsSettled 3 due (seated name port (lent_after from rule via kind to))
settled_after due name port from rule via kind to named at has converts of_kind lends want = record {
  name = named;
  port = at;
  derives = record {
    derives = record {
      starts = has;
      before = (converts, tt);
      kind = of_kind;
      sched = lends;
      after = tt;
      ends = want;
    };
    short = omega arith;
  };
}

-- there is a box
pub a_box : ◌≢◌ {A = ℕ} 64 0
a_box e = omega (arith, e)

-- what a scheduler lends of what its one port has
pub through_one : (config : Config) (terms : Terms) (g h : Guarantee) → LendsThrough config terms 0 g h
    → Lends config terms (g ∷ []) 0 g h
through_one config terms g h through = record { has = omega arith; through = through }
