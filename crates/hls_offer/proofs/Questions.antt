-- What a question that words can ask grants, and what is told of it.
use Rattle.std.proofs.Common.{◌≡◌, ℕ, Bool, false, List, Option, Some, None, sym, subst, length, arith}
use Rattle.std.proofs.lemmas.List.{take_all}
use Rattle.hls_text.specs.Lines.{Text}
use Rattle.hls_chron.specs.declared.plain.Terms.{Terms}
use Rattle.hls_guarantee.specs.declared.Guarantee.{Guarantee}
use Rattle.hls_sched.specs.Seen.{Seen}
use Rattle.hls_legal.specs.Moment.{Moment}
use Rattle.hls_tree.specs.Trees.{IsTreeOf}
use Rattle.hls_tree.specs.declared.tree.Tree.{Tree}
use Rattle.hls_offer_words.specs.declared.asked.Question.{Question}
use Rattle.hls_offer_words.specs.declared.asked.Question.TheVariants.{Offer, Need, Spare}
use Rattle.hls_offer_words.specs.declared.asked.Asked.{Asked}
use Rattle.hls_offer_words.specs.Table.{ArePeriods, IsPlace, IsQuestion, most_period}
use Rattle.hls_offer_lines.specs.Cost.{ArePeriods as AreTermPeriods}
use Rattle.hls_offer_lines.specs.Lines.{ArePeriodsAsked}
use Rattle.hls_offer_asks.specs.Requests.{IsWish}
use Rattle.hls_offer_asks.specs.Needs.{IsNeed}
use Rattle.hls_offer_asks.specs.declared.needs.Need.{Need as NeedSeen}
use Rattle.hls_offer.specs.Spare.{AreFree, told_periods}
use Rattle.hls_offer.specs.Told.{IsTold}
use Rattle.hls_offer.specs.Inside.Lines.{AddsAll}
use Rattle.hls_offer.specs.Inside.Readings.{IsAskable}
use Rattle.hls_offer.specs.Inside.Told.{AddsPlace, AddsPlaces, AddsTold}
use Rattle.hls_offer.proofs.Answered.{asked_periods, term_periods, told_each, told_one, told_spare}

-- ---- the calls may be made

question_as : (a : Asked) (q : Question) → a.question ≡ q → IsAskable a → IsQuestion q
question_as a q e is = subst (λ (r : Question). IsQuestion r) e is.question

periods_as : (a : Asked) (q : Question) → a.question ≡ q → IsAskable a → ArePeriods (most_period q) a.periods
periods_as a q e is = subst (λ (r : Question). ArePeriods (most_period r) a.periods) e is.periods

pub wish_asked : (a : Asked) (name on : Text) (its : Terms) → a.question ≡ Offer name on its → IsAskable a
    → IsWish (record { name = name; on = on; terms = its })
wish_asked a name on its e is =
    let q = question_as a (Offer name on its) e is in record { name = q.0; on = q.1; terms = q.2 }

pub wish_periods : (a : Asked) (name on : Text) (its : Terms) (periods : Option (List ℕ)) → periods ≡ a.periods
    → a.question ≡ Offer name on its → IsAskable a → ArePeriodsAsked periods
wish_periods a name on its periods same e is =
    subst (λ (ps : Option (List ℕ)). ArePeriodsAsked ps) (sym same)
    (asked_periods a.periods (periods_as a (Offer name on its) e is))

module _ (a : Asked) (name : Text) (wanted : Guarantee) (on : Option Text) (e : a.question ≡ Need name wanted on)
    (is : IsAskable a) where
  pub need_asked : IsNeed (record { name = name; wanted = wanted })
  need_asked = (let q = question_as a (Need name wanted on) e is in record { name = q.0; wanted = q.1 })

  pub place_asked : IsPlace on
  place_asked = (let q = question_as a (Need name wanted on) e is in q.2)

  pub need_periods : (periods : Option (List ℕ)) → periods ≡ a.periods → AreTermPeriods periods
  need_periods periods same =
      subst (λ (ps : Option (List ℕ)). AreTermPeriods ps) (sym same)
      (term_periods a.periods (periods_as a (Need name wanted on) e is))

-- ---- what is told

-- a question that is known, with the periods that are stated
pub told_as : (version : ℕ) (a : Asked) (q : Question) (m : Moment) (tick : ℕ) (periods : Option (List ℕ))
    (offers : Bool) (old new : Text) → a.question ≡ q → periods ≡ a.periods
    → AddsTold (IsTold version q m tick periods) offers old new
    → AddsTold (IsTold version a.question m tick a.periods) offers old new
told_as version a q m tick periods offers old new e same adds =
    subst (λ (r : Question). AddsTold (IsTold version r m tick a.periods) offers old new) (sym e)
    (subst (λ (ps : Option (List ℕ)). AddsTold (IsTold version q m tick ps) offers old new) same adds)

module _ (version : ℕ) (m : Moment) (tick : ℕ) (need : NeedSeen) (on : Option Text) (periods : Option (List ℕ))
    (offers : Bool) (old new : Text) where
  pub told_place : (scheduler : Text) → on ≡ Some scheduler → AddsPlace m tick need scheduler periods offers old new
      → AddsTold (IsTold version (Need need.name need.wanted on) m tick periods) offers old new
  told_place scheduler e adds =
      subst (λ (o : Option Text).
      AddsTold (IsTold version (Need need.name need.wanted o) m tick periods) offers old new) (sym e)
      (told_one version m tick need periods scheduler offers old new adds)

  pub told_places : on ≡ None → AddsPlaces m tick need periods (length m.hierarchy.schedulers) offers old new
      → AddsTold (IsTold version (Need need.name need.wanted on) m tick periods) offers old new
  told_places e adds =
      subst (λ (o : Option Text).
      AddsTold (IsTold version (Need need.name need.wanted o) m tick periods) offers old new) (sym e)
      (told_each version m tick need periods (length m.hierarchy.schedulers) offers old new
      (take_all (length m.hierarchy.schedulers) m.hierarchy.schedulers (omega arith)) adds)

-- V and P are what the checker knows a box by
pub told_left : {V : Type 0} {P : V → Type 0} (seen : (x : V) × P x → Seen) (version : ℕ) (t : Tree V P) (a : Asked)
    (m : Moment) (tick : ℕ) (periods : List ℕ) (old new : Text) → a.question ≡ Spare → periods ≡ told_periods a.periods
    → IsTreeOf seen t m.hierarchy → AddsAll seen version t periods old new
    → AddsTold (IsTold version a.question m tick a.periods) false old new
told_left seen version t a m tick periods old new e same tree adds =
    subst (λ (r : Question). AddsTold (IsTold version r m tick a.periods) false old new) (sym e)
    (told_spare version m tick a.periods adds.frees old new
    (subst (λ (ps : List ℕ). AreFree ps m.hierarchy m.hierarchy.schedulers adds.frees) same
    (adds.are m.hierarchy tree)) adds.text)
