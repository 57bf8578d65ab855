-- Each command that a tree of names allows leaves a tree.
use Rattle.std.proofs.Common.{◌≡◌, ℕ, List, [], ◌∷◌, Bool, true, false, inl, inr}
use Rattle.std.proofs.Common.{refl, sym, ap, subst, ◌∙◌, ◌||◌, ◌&&◌, map}
use Rattle.std.specs.Prelude.{Option, Some, None}
use Rattle.std.specs.List.{list_any}
use Rattle.std.specs.Str.{bytes_eq}
use Rattle.std.proofs.lemmas.Bool.{false_from_ne_true, not-false, cases_Bool}
use Rattle.hls_text.specs.Lines.{Text}
use Rattle.hls_scenario.specs.declared.scenario.Spot.{Spot}
use Rattle.hls_scenario.specs.declared.scenario.Spot.TheVariants.{Cpu, Under}
use Rattle.hls_scenario.specs.declared.scenario.Perch.{Perch}
use Rattle.hls_scenario.specs.declared.scenario.Command.{Command}
use Rattle.hls_scenario.specs.declared.scenario.Command.TheVariants as said
use Rattle.hls_legal.specs.Moment.{new_name, old_name, spots_of}
use Rattle.hls_legal.specs.Under.{is_on}
use Rattle.hls_audit_clauses.specs.declared.member.Sort.{Sort}
use Rattle.hls_audit_clauses.specs.declared.member.Sort.TheVariants.{Scheduler, Thread}
use Rattle.hls_audit_clauses.specs.declared.member.Member.{Member}
use Rattle.hls_audit_clauses.specs.Names.{member_of, sits_on, is_scheduler, is_under, after, with_moved}
use Rattle.hls_audit_clauses.specs.Names.{is_scheduler_sort, is_thread_sort}
use Rattle.hls_audit_clauses.specs.Misplaced.{is_taken, is_unknown, is_of_wrong_sort, is_occupied, is_cycle}
use Rattle.hls_audit_clauses.specs.Misplaced.{is_wrong_spot, is_misplaced}
use Rattle.hls_audit_stays.proofs.Names.{bytes_apart}
use Rattle.hls_view_place_laws.proofs.Among.{IsIn, in-map, any-in}
use Rattle.hls_view_place_laws.proofs.Seats.{schedules, runs, IsSeatable, SitsWell, IsRanked, IsTree, found}
use Rattle.hls_view_place_laws.proofs.Seats.{scheduler-has, has-scheduler, nobody}
use Rattle.hls_view_place_laws.proofs.Growing.{joined, removed}
use Rattle.hls_view_place_laws.proofs.Moving.{scheduler-moved, thread-moved}

-- ---- what is not misplaced

pub record AreOff (a b c d e f : Bool) : Type 0 where
  pub taken : a ≡ false
  pub unknown : b ≡ false
  pub sort : c ≡ false
  pub occupied : d ≡ false
  pub cycle : e ≡ false
  pub spots : f ≡ false

off : (a b c d e f : Bool) → (a || b || c || d || e || f) ≡ false → AreOff a b c d e f
off true b c d e f h = absurd (let wrong : true ≡ false = h in cc)
off false true c d e f h = absurd (let wrong : true ≡ false = h in cc)
off false false true d e f h = absurd (let wrong : true ≡ false = h in cc)
off false false false true e f h = absurd (let wrong : true ≡ false = h in cc)
off false false false false true f h = absurd (let wrong : true ≡ false = h in cc)
off false false false false false f h = record {
  taken = refl;
  unknown = refl;
  sort = refl;
  occupied = refl;
  cycle = refl;
  spots = h;
}

pub placed : (tree : List Member) (command : Command) → is_misplaced tree command ≡ false
    → AreOff (is_taken tree (new_name command)) (is_unknown tree (old_name command)) (is_of_wrong_sort tree command)
    (is_occupied tree command) (is_cycle tree command) (list_any (is_wrong_spot tree command) (spots_of command))
placed tree command e =
    off (is_taken tree (new_name command)) (is_unknown tree (old_name command)) (is_of_wrong_sort tree command)
    (is_occupied tree command) (is_cycle tree command) (list_any (is_wrong_spot tree command) (spots_of command)) e

none-such : {X : Type 0} (p : X → Bool) (x : X) (xs : List X) → list_any p xs ≡ false → IsIn x xs → p x ≡ false
none-such p x xs none has =
    false_from_ne_true (p x) (λ on. (let wrong : true ≡ false = sym (any-in p x xs has on) ∙ none in cc))

seatable : (tree : List Member) (command : Command) (spot : Spot) → is_wrong_spot tree command spot ≡ false
    → IsSeatable tree spot
seatable tree command Cpu e = tt
seatable tree command (Under sched terms) e = scheduler-has tree sched (not-false (is_scheduler tree sched) e)

all-seatable : (tree : List Member) (command : Command) (perches : List Perch)
    → list_any (is_wrong_spot tree command) (map (λ (p : Perch). p.spot) perches) ≡ false → (perch : Perch)
    → IsIn perch perches → IsSeatable tree perch.spot
all-seatable tree command perches e perch has =
    seatable tree command perch.spot
    (none-such (is_wrong_spot tree command) perch.spot (map (λ (p : Perch). p.spot) perches) e
    (in-map (λ (p : Perch). p.spot) perch perches has))

-- ---- who goes

-- nobody sits on what is no scheduler
off-others : (tree : List Member) (rank : Text → ℕ) (name owner : Text) (spot : Spot) → IsRanked tree rank
    → is_scheduler tree name ≡ false → SitsWell tree rank owner spot → is_on (bytes_eq name) spot ≡ false
off-others tree rank name owner Cpu ranked none sits = refl
off-others tree rank name owner (Under sched terms) ranked none sits =
    bytes_apart name sched
    (λ e. (let on = has-scheduler tree sched ranked.once sits.0 in
    let wrong : true ≡ false = sym on ∙ ap (λ n. is_scheduler tree n) (sym e) ∙ none in
    cc))

off-seats : (tree : List Member) (name : Text) (m : Member) (perch : Perch) → list_any (sits_on name) tree ≡ false
    → IsIn m tree → IsIn perch m.perches → is_on (bytes_eq name) perch.spot ≡ false
off-seats tree name m perch none there sits =
    none-such (λ (p : Perch). is_on (bytes_eq name) p.spot) perch m.perches
    (none-such (sits_on name) m tree none there) sits

-- ---- who moves

sort-either : (m : Member) → schedules m ≡ false → runs m ≡ true
sort-either m none = by m.sort none
  where
    by : (s : Sort) → is_scheduler_sort (Some s) ≡ false → is_thread_sort (Some s) ≡ true
    by Thread none = refl
    by (Scheduler config) none = absurd (let wrong : true ≡ false = none in cc)

and-off : (a b : Bool) → (a && b) ≡ false → a ≡ true → b ≡ false
and-off true b e on = e
and-off false b e on = absurd (let wrong : false ≡ true = on in cc)

moved : (tree : List Member) (name : Text) (perch : Perch) (o : Option Member) → IsTree tree
    → member_of tree name ≡ o → IsSeatable tree perch.spot
    → (is_scheduler tree name && is_on (is_under tree name) perch.spot) ≡ false → IsTree (with_moved tree perch o)
moved tree name perch None t e seat cycle = t
moved tree name perch (Some m) t e seat cycle =
    let f = found tree name m e in
    let cycle_too : (is_scheduler tree m.name && is_on (is_under tree m.name) perch.spot) ≡ false =
    subst (λ (n : Text). (is_scheduler tree n && is_on (is_under tree n) perch.spot) ≡ false) (sym f.named) cycle in
    elim (cases_Bool (schedules m)) [
      | inl such ↦
          scheduler-moved tree t.rank m perch t.ranked f.there such seat
          (and-off (is_scheduler tree m.name) (is_on (is_under tree m.name) perch.spot) cycle_too
          (has-scheduler tree m.name t.ranked.once
          (record { member = m; there = f.there; named = refl; such = such })))
      | inr none ↦ thread-moved tree t.rank m perch t.ranked f.there (sort-either m none) seat
    ]

-- ---- each command

pub command-tree : (tree : List Member) (command : Command) → IsTree tree → is_misplaced tree command ≡ false
    → IsTree (after tree command)
command-tree tree (said.Load name config perches) t e =
    let p = placed tree (said.Load name config perches) e in
    joined tree t.rank (record { name = name; sort = Scheduler config; perches = perches }) t.ranked
    (nobody tree name t.ranked.once p.taken) (all-seatable tree (said.Load name config perches) perches p.spots)
command-tree tree (said.Thread name perch) t e =
    let p = placed tree (said.Thread name perch) e in
    joined tree t.rank (record { name = name; sort = Thread; perches = perch ∷ [] }) t.ranked
    (nobody tree name t.ranked.once p.taken) (all-seatable tree (said.Thread name perch) (perch ∷ []) p.spots)
command-tree tree (said.End name) t e =
    let p = placed tree (said.End name) e in
    record {
      rank = t.rank;
      ranked = removed tree t.rank name t.ranked
          (λ m perch there other sits. off-others tree t.rank name m.name perch.spot t.ranked p.sort
          (t.ranked.seats m perch there sits));
    }
command-tree tree (said.Unload name) t e =
    let p = placed tree (said.Unload name) e in
    record {
      rank = t.rank;
      ranked = removed tree t.rank name t.ranked
          (λ m perch there other sits. off-seats tree name m perch p.occupied there sits);
    }
command-tree tree (said.Move name perch) t e =
    let p = placed tree (said.Move name perch) e in
    moved tree name perch (member_of tree name) t refl
    (all-seatable tree (said.Move name perch) (perch ∷ []) p.spots perch (inl refl)) p.cycle
command-tree tree (said.Wake name every burst) t e = t
command-tree tree (said.Block name) t e = t
