-- What is told to be left on a scheduler, and what refuses a seat there at the moment.
use Rattle.std.proofs.Common.{◌≡◌, ◌≢◌, ℕ, inl, inr, true, List, [], ◌∷◌, Option, Some, refl, sym, ap, ◌∙◌}
use Rattle.std.proofs.Common.{subst, arith}
use Rattle.std.specs.Prelude.{Contains, ◌↔◌}
use Rattle.hls_text.specs.Lines.{Text}
use Rattle.hls_chron.specs.declared.plain.Config.{Config}
use Rattle.hls_chron.specs.declared.plain.Config.TheVariants.{Cpu}
use Rattle.hls_chron.specs.declared.plain.Terms.{Terms}
use Rattle.hls_chron.specs.Kinds.{kind_of}
use Rattle.hls_chron.specs.Ranges.{TermsInRange}
use Rattle.hls_kinds.specs.declared.fault.SeatFault.{SeatFault}
use Rattle.hls_kinds.specs.Faults.{Applies}
use Rattle.hls_scenario.specs.declared.scenario.Spot.TheVariants.{Under}
use Rattle.hls_scenario.specs.declared.scenario.Scenario.{Scenario}
use Rattle.hls_machine.specs.Hierarchy.{Hierarchy, Node, Loaded, Scheduler, config_of, book_of}
use Rattle.hls_machine.specs.Steps.{is_scheduler}
use Rattle.hls_machine.specs.Lists.{IsListed}
use Rattle.hls_machine.proofs.Books.{AllMade, IsMadeNode, legal_made}
use Rattle.hls_machine.proofs.Lists.{run_listed}
use Rattle.hls_book.proofs.Books.{kind_made}
use Rattle.hls_legal.specs.Moment.{Boxes, Moment, node_of}
use Rattle.hls_legal.specs.Refusals.{HasFault}
use Rattle.hls_legal.proofs.Found.{named_is}
use Rattle.hls_offer_text.specs.OfferText.{Free}
use Rattle.hls_offer.specs.Moments.{IsMoment}
use Rattle.hls_offer.specs.Spare.{IsFree, AreFree, told_periods}
use Rattle.hls_offer.specs.Left.{IsLeft}
use Rattle.hls_offer.specs.Told.{Told, TellsLeft}
use Rattle.hls_offer_reports.specs.Room.{HasTerms}
use Rattle.hls_offer_reports.proofs.Found.{first_or, none_in, behind_first}
use Rattle.hls_offer_reports.proofs.Fitting.{left_fits}

-- the scheduler of a line
record IsOf (h : Hierarchy) (periods ks : List ℕ) (f : Free) : Type 0 where
  pub k : ℕ
  pub has : Contains ks k
  pub is : IsFree periods (h.nodes k) f

free_of : (h : Hierarchy) (periods ks : List ℕ) (fs : List Free) (f : Free) → AreFree periods h ks fs → Contains fs f
    → IsOf h periods ks f
free_of h periods [] [] f are has = absurd (none_in f has)
free_of h periods [] (one ∷ fs) f are has = absurd are
free_of h periods (k ∷ ks) [] f are has = absurd are
free_of h periods (k ∷ ks) (one ∷ fs) f are has =
    elim (first_or one fs f has) [
      | inl same ↦ record {
        k = k;
        has = (0, omega arith, refl);
        is = subst (λ (x : Free). IsFree periods (h.nodes k) x) same are.0;
      }
      | inr more ↦ (let rest = free_of h periods ks fs f are.1 more in
          record { k = rest.k; has = behind_first k ks rest.k rest.has; is = rest.is })
    ]

record IsScheduler (node : Option Node) : Type 0 where
  pub scheduler : Scheduler
  pub there : node ≡ Some (Loaded scheduler)

scheduler_of : (node : Option Node) → is_scheduler node ≡ true → IsScheduler node
scheduler_of (Some (Loaded s)) is = record { scheduler = s; there = refl }
scheduler_of _ is = absurd (let bad : ⊥ = cc in bad)

same_loaded : (s t : Scheduler) → Some (Loaded s) ≡ Some (Loaded t) → s ≡ t
same_loaded s t e = cc

same_under : (name : Text) (its other : Terms) → Under name its ≡ Under name other → its ≡ other
same_under name its other e = cc

-- what is loaded is not the processor
not_cpu : (config : Config) → kind_of config ≢ kind_of Cpu → config ≢ Cpu
not_cpu config other same = other (ap kind_of same)

module _ (s : Scenario) (given : ℕ) (boxes : Boxes) (tick : ℕ) (m : Moment) (is : IsMoment s given boxes tick m) where
  listed : IsListed m.hierarchy
  listed = subst IsListed (sym is.leads) (run_listed is.steps is.run.legal)

  made : AllMade m.hierarchy
  made = subst AllMade (sym is.leads) (legal_made is.steps is.run.legal)

  at_node : (periods : List ℕ) (f : Free) (its : Terms) (k : ℕ) → IsFree periods (m.hierarchy.nodes k) f
      → (x : IsScheduler (m.hierarchy.nodes k)) → TermsInRange its
      → ((fault : SeatFault) → ¬ HasFault m.hierarchy (Under f.name its) f.name fault) ↔ HasTerms f.left its
  at_node periods f its k free x small =
      let sched = x.scheduler in
      let here : node_of m.hierarchy f.name ≡ Some (Loaded sched) =
      named_is m.hierarchy listed k f.name free.name ∙ x.there in
      let other = kind_made sched.config sched.book
      (subst (λ (node : Option Node). IsMadeNode node) x.there (made k)) in
      let left : IsLeft sched.config sched.book periods f.left =
      subst (λ (node : Option Node). IsLeft (config_of node) (book_of node) periods f.left) x.there free.left in
      let both = left_fits sched.config sched.book periods f.left its (not_cpu sched.config other) small left in (
        λ none. both.0 (λ fault applies. none fault (record {
          terms = its;
          place = refl;
          scheduler = sched;
          there = here;
          applies = applies;
        })),
        λ has fault faulty.
            let same : faulty.scheduler ≡ sched = same_loaded faulty.scheduler sched (sym faulty.there ∙ here) in
            let terms : faulty.terms ≡ its = sym (same_under f.name its faulty.terms faulty.place) in
            both.1 has fault
            (subst (λ (t : Terms). Applies sched.config sched.book t fault) terms
            (subst (λ (y : Scheduler). Applies y.config y.book faulty.terms fault) same faulty.applies)),
      )

  pub told_fits : (periods : Option (List ℕ)) (told : Told) (tells : TellsLeft s.version m periods told) (f : Free)
      (its : Terms) → Contains tells.frees f → TermsInRange its
      → ((fault : SeatFault) → ¬ HasFault m.hierarchy (Under f.name its) f.name fault) ↔ HasTerms f.left its
  told_fits periods told tells f its has small =
      let line = free_of m.hierarchy (told_periods periods) m.hierarchy.schedulers tells.frees f tells.are has in
      at_node (told_periods periods) f its line.k line.is
      (scheduler_of (m.hierarchy.nodes line.k) (listed.schedulers.only line.k line.has)) small
