-- A move of nobody, to nobody, or of the wrong sort.
use Rattle.std.proofs.Common.{◌≡◌, ◌≢◌, ℕ, ◌<◌, ◌≤◌, Option, Some, None, true, false, refl, sym, ap, ◌∙◌, arith}
use Rattle.std.proofs.Common.{subst}
use Rattle.hls_text.specs.Lines.{Text}
use Rattle.hls_chron.specs.declared.plain.Kind.{Kind}
use Rattle.hls_chron.specs.declared.plain.Kind.TheVariants as kinds
use Rattle.hls_chron.specs.declared.plain.Terms.{Terms}
use Rattle.hls_chron.specs.Kinds.{kind_of}
use Rattle.hls_scenario.specs.declared.scenario.Spot.{Spot}
use Rattle.hls_scenario.specs.declared.scenario.Spot.TheVariants.{Cpu, Under}
use Rattle.hls_scenario.specs.declared.scenario.Perch.{Perch}
use Rattle.hls_scenario.specs.declared.scenario.Command.{Command}
use Rattle.hls_scenario.specs.declared.scenario.Command.TheVariants as said
use Rattle.hls_report_text.specs.declared.refusal.Refusal.{Refusal}
use Rattle.hls_report_text.specs.declared.refusal.Refusal.TheVariants.{NoSuchName, WrongSort, TermsUnfit}
use Rattle.hls_report_text.specs.declared.refusal.Refusal.TheVariants.{PriorityTaken, SeatsFull, NoRoom}
use Rattle.hls_machine.specs.Hierarchy.{Hierarchy, Node, Scheduler, Loaded, Admitted, name_of}
use Rattle.hls_machine.specs.Lists.{IsListed}
use Rattle.hls_legal.specs.Tells.{HasName}
use Rattle.hls_legal.specs.Moment.{Moment, node_of, NamesJoin, NamesThread}
use Rattle.hls_legal.specs.Answers.{number, RefusesPlace, IsRefused}
use Rattle.hls_legal.proofs.Found.{named_is}
use Rattle.hls_tree.specs.Offers.{MovesTo}
use Rattle.hls_tree.specs.Reads.{IsSort}
use Rattle.hls_tree.specs.declared.seat.Sort.{Sort}
use Rattle.hls_tree.specs.declared.seat.Sort.TheVariants as sorts
use Rattle.hls_manager.specs.Inside.Shifts.{is_join}
use Rattle.hls_manager.proofs.Finds.{nobody, named_thread, sort_thread}
use Rattle.hls_manager.proofs.Places.{at_processor, unknown_place, known_place}
use Rattle.hls_manager.proofs.Shifts.{IsClear, whole_refused, place_refused}

-- ---- sorts

sort_join : (node : Option Node) (sort : Sort) → IsSort node sort → is_join sort ≡ true
    → (s : Scheduler) × (node ≡ Some (Loaded s)) × (kind_of s.config ≡ kinds.Join)
sort_join None sort is e = absurd is
sort_join (Some (Admitted t)) sorts.Thread is e = absurd (cc)
sort_join (Some (Admitted t)) (sorts.Sched kind) is e = absurd is
sort_join (Some (Loaded s)) sorts.Thread is e = absurd is
sort_join (Some (Loaded s)) (sorts.Sched kind) is e = (s, refl, sym is ∙ join_is kind e)
  where
    join_is : (kind : Kind) → is_join (sorts.Sched kind) ≡ true → kind ≡ kinds.Join
    join_is kinds.Join e = refl
    join_is kinds.Cpu e = absurd (cc)
    join_is kinds.Fp e = absurd (cc)
    join_is kinds.Edf e = absurd (cc)
    join_is kinds.Sfq e = absurd (cc)
    join_is kinds.Rr e = absurd (cc)
    join_is kinds.Wheel e = absurd (cc)

-- what is no join may sit on a scheduler
pub sort_under : (node : Option Node) (sort : Sort) (p : ℕ) → IsSort node sort → is_join sort ≡ false
    → MovesTo (Some p) node
sort_under None sort p is e = absurd is
sort_under (Some (Admitted t)) sort p is e = λ none. (cc)
sort_under (Some (Loaded s)) sorts.Thread p is e = absurd is
sort_under (Some (Loaded s)) (sorts.Sched kind) p is e = λ join.
    (let same = ap (λ k. is_join (sorts.Sched k)) (is ∙ join) in cc)

-- and what is no thread besides, at the processor
pub sort_root : (node : Option Node) (kind : Kind) (sort : Sort) → IsSort node sort → sort ≡ sorts.Sched kind
    → is_join sort ≡ false → MovesTo None node
sort_root None kind sort is same e = absurd is
sort_root (Some (Admitted t)) kind sorts.Thread is same e = absurd (cc)
sort_root (Some (Admitted t)) kind (sorts.Sched other) is same e = absurd is
sort_root (Some (Loaded s)) kind sorts.Thread is same e = absurd is
sort_root (Some (Loaded s)) kind (sorts.Sched other) is same e = λ join.
    (let same = ap (λ k. is_join (sorts.Sched k)) (is ∙ join) in cc)

named_there : (any : Option Node) (name : Text) → name_of any ≡ Some name → any ≢ None
named_there any name e none = (let lost = sym e ∙ ap name_of none in cc)

from_eleven : (h : Hierarchy) (c : Command) (spot : Spot) (r : Refusal) → RefusesPlace h c spot r → 11 ≤ number r
from_eleven h c spot (NoSuchName name) f = omega arith
from_eleven h c spot (WrongSort name) f = omega arith
from_eleven h c spot (TermsUnfit name) f = omega arith
from_eleven h c spot (PriorityTaken priority) f = omega arith
from_eleven h c spot (SeatsFull name seats) f = omega arith
from_eleven h c spot (NoRoom free asked) f = omega arith
from_eleven h c spot _ f = absurd f

module _ (m : Moment) (name : Text) (perch : Perch) where
  abbrev h : Hierarchy
  h = m.hierarchy

  abbrev c : Command
  c = said.Move name perch

  clear_to : (n : ℕ) → n ≤ 13 → (11 < n → node_of h name ≢ None) → (12 < n → ¬ NamesJoin h name)
      → IsClear h name perch n
  clear_to n le known lone = record {
    known = known;
    lone = lone;
    acyclic = λ lt. absurd (omega (arith, le, lt));
    flat = λ lt. absurd (omega (arith, le, lt));
    thin = λ lt. absurd (omega (arith, le, lt));
  }

  -- nobody is to be moved
  pub no_mover : ((id : ℕ) → name_of (h.nodes id) ≢ Some name) → IsRefused m c (NoSuchName name)
  no_mover free =
      whole_refused m name perch (NoSuchName name) (record { old = refl; unknown = nobody h name free })
      (clear_to 11 (omega arith) (λ lt. absurd (omega (arith, lt))) (λ lt. absurd (omega (arith, lt))))
      (λ other f. from_eleven h c perch.spot other f)

  module _ (listed : IsListed h) (id : ℕ) (has : HasName h id name) where
    known : node_of h name ≢ None
    known none = named_there (h.nodes id) name has (sym (named_is h listed id name has) ∙ none)

    -- a join is to be moved
    join_moved : (sort : Sort) → IsSort (h.nodes id) sort → is_join sort ≡ true
        → ((other : Refusal) → RefusesPlace h c perch.spot other → 12 ≤ number other)
        → IsRefused m c (WrongSort (Some name))
    join_moved sort is e places =
        let join = sort_join (h.nodes id) sort is e in
        let node = named_is h listed id name has ∙ join.1 in
        whole_refused m name perch (WrongSort (Some name))
        (record { old = refl; wrong = record { place = record { scheduler = join.0; there = node }; kind = join.2 } })
        (clear_to 12 (omega arith) (λ lt. known) (λ lt. absurd (omega (arith, lt)))) places

    no_join : (sort : Sort) → IsSort (h.nodes id) sort → is_join sort ≡ false → ¬ NamesJoin h name
    no_join sort is e f =
        let node = sym (named_is h listed id name has) ∙ f.place.there in
        (subst (λ (n : Option Node). MovesTo (Some 0) n) node (sort_under (h.nodes id) sort 0 is e)) f.kind

    -- ---- at the processor

    module _ (at : perch.spot ≡ Cpu) where
      places_cpu : (other : Refusal) → RefusesPlace h c perch.spot other → 12 ≤ number other
      places_cpu other f = at_processor h c other (subst (λ (s : Spot). RefusesPlace h c s other) at f)

      pub join_to_cpu : (sort : Sort) → IsSort (h.nodes id) sort → is_join sort ≡ true
          → IsRefused m c (WrongSort (Some name))
      join_to_cpu sort is e = join_moved sort is e places_cpu

      pub thread_to_cpu : IsSort (h.nodes id) sorts.Thread → IsRefused m c (WrongSort None)
      thread_to_cpu is =
          let names : NamesThread h name = named_thread h listed id name has (sort_thread (h.nodes id) is) in
          place_refused m name perch (WrongSort None)
          (subst (λ (s : Spot). RefusesPlace h c s (WrongSort None)) (sym at) names)
          (clear_to 13 (omega arith) (λ lt. known) (λ lt. no_join sorts.Thread is refl)) places_cpu

    -- ---- at a name

    module _ (sched : Text) (terms : Terms) (at : perch.spot ≡ Under sched terms) where
      there_is : (r : Refusal) → RefusesPlace h c (Under sched terms) r → RefusesPlace h c perch.spot r
      there_is r f = subst (λ (s : Spot). RefusesPlace h c s r) (sym at) f

      is_there : (r : Refusal) → RefusesPlace h c perch.spot r → RefusesPlace h c (Under sched terms) r
      is_there r f = subst (λ (s : Spot). RefusesPlace h c s r) at f

      pub to_nobody : ((p : ℕ) → name_of (h.nodes p) ≢ Some sched) → IsRefused m c (NoSuchName sched)
      to_nobody free =
          place_refused m name perch (NoSuchName sched)
          (there_is (NoSuchName sched) (record { place = refl; unknown = nobody h sched free }))
          (clear_to 12 (omega arith) (λ lt. known) (λ lt. absurd (omega (arith, lt))))
          (λ other f. unknown_place h c sched terms other (is_there other f))

      module _ (p : ℕ) (sits : HasName h p sched) where
        places_known : (any : Option Node) → node_of h sched ≡ any → any ≢ None → (other : Refusal)
            → RefusesPlace h c perch.spot other → 12 ≤ number other
        places_known None e ne other f = absurd (ne refl)
        places_known (Some node) e ne other f = known_place h c sched terms node e other (is_there other f)

        places : (other : Refusal) → RefusesPlace h c perch.spot other → 12 ≤ number other
        places =
            places_known (node_of h sched) refl
            (λ none. named_there (h.nodes p) sched sits (sym (named_is h listed p sched sits) ∙ none))

        pub join_under : (sort : Sort) → IsSort (h.nodes id) sort → is_join sort ≡ true
            → IsRefused m c (WrongSort (Some name))
        join_under sort is e = join_moved sort is e places

        pub to_thread : (sort : Sort) → IsSort (h.nodes id) sort → is_join sort ≡ false
            → IsSort (h.nodes p) sorts.Thread → IsRefused m c (WrongSort (Some sched))
        to_thread sort is e thread =
            place_refused m name perch (WrongSort (Some sched))
            (there_is (WrongSort (Some sched))
            (refl, named_thread h listed p sched sits (sort_thread (h.nodes p) thread)))
            (clear_to 13 (omega arith) (λ lt. known) (λ lt. no_join sort is e)) places
