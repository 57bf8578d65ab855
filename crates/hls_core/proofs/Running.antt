-- A run goes on by ticks that are alike.
use Rattle.std.proofs.Common.{◌≡◌, ℕ, zero, suc, ◌+◌, ◌-◌, ◌<◌, ◌≤◌, Bool, true, List, [], ◌∷◌, ◌++◌, length}
use Rattle.std.proofs.Common.{refl, sym, ap}
use Rattle.std.proofs.Common.{◌∙◌, subst, arith, map}
use Rattle.std.specs.Prelude.{Option, Some, None}
use Rattle.std.specs.List.{list_any}
use Rattle.std.specs.Str.{bytes_eq}
use Rattle.std.proofs.Math.Path.{fun_ext}
use Rattle.hls_text.specs.Lines.{Text}
use Rattle.hls_scenario.specs.declared.scenario.Scenario.{Scenario}
use Rattle.hls_report_text.specs.declared.report.Path.{Path}
use Rattle.hls_machine.specs.Hierarchy.{Hierarchy, start, name_of}
use Rattle.hls_machine.specs.Steps.{Step, Elapse, after, state, hop_at, hops_of}
use Rattle.hls_machine.specs.Steps as steps
use Rattle.hls_machine.specs.Legal.{Can}
use Rattle.hls_machine.proofs.Goes.{state_goes}
use Rattle.hls_legal.specs.Tells.{Names}
use Rattle.hls_legal.specs.Moment.{Boxes}
use Rattle.hls_legal.specs.Legal.{IsRun}
use Rattle.hls_legal.proofs.Growth.{run_tick}
use Rattle.hls_tree_nodes.specs.Leapt.{later}
use Rattle.hls_core_journal.specs.declared.journal.Journal.{Journal}
use Rattle.hls_core_journal.specs.Told.{told}
use Rattle.hls_core_journal.specs.Kept.{IsKept, IsTicked, AreTicked, IsWayOrIdle, AreWithin}
use Rattle.hls_core_journal.specs.Ways.{names_by}
use Rattle.hls_core_journal.proofs.Keeps.{kept_tick, told_tick}
use Rattle.hls_core.specs.Cores.{AreNoted}
use Rattle.hls_core.specs.Marks.{HasMarksFor}
use Rattle.hls_core.proofs.Rooms.{tick_marks}
use Rattle.hls_core.proofs.Seats.{ticked_name}

later_name : (h : Hierarchy) (asking : ℕ → Bool) (masks : ℕ → ℕ) (path : Option steps.Path) (n k : ℕ)
    → name_of ((later h asking masks path n).nodes k) ≡ name_of (h.nodes k)
later_name h asking masks path zero k = refl
later_name h asking masks path (suc n) k =
    ticked_name (masks k) (hop_at (hops_of path) k) ((later h asking masks path n).nodes k)
    ∙ later_name h asking masks path n k

abbrev name_at : Hierarchy → ℕ → Option Text
name_at h k = name_of (h.nodes k)

names_alike : (h new : Hierarchy) (path : Option steps.Path) (names : Option (List Text)) → name_at new ≡ name_at h
    → Names h path names → Names new path names
names_alike h new None None same names = names
names_alike h new None (Some ns) same names = absurd names
names_alike h new (Some p) None same names = absurd names
names_alike h new (Some p) (Some ns) same names =
    ap (λ (f : ℕ → Option Text). map f (Rattle.hls_legal.specs.Tells.nodes_on p)) same ∙ names

way_later : (j new : Journal) (path : Option Path) → new.names.keys ≡ j.names.keys → IsWayOrIdle j path
    → IsWayOrIdle new path
way_later j new None same way = tt
way_later j new (Some path) same way = record {
  short = way.short;
  some = way.some;
  within = subst (λ (names : List Text). AreWithin (length names) (Some path)) (sym same) way.within;
}

module _ (s : Scenario) (depth place : ℕ) (boxes : Boxes) (old : Journal) (h : Hierarchy) (asking : ℕ → Bool)
    (masks : ℕ → ℕ) (path : Option steps.Path) (told_path : Option Path) where
  -- the journal after n ticks tells a legal run that leads to the hierarchy after them
  pub record IsRunning (j : Journal) (n : ℕ) : Type 0 where
    pub kept : IsKept s j
    pub answers : j.answers ≡ old.answers
    pub names : j.names.keys ≡ old.names.keys
    pub ticks : j.ticks ≡ old.ticks + n
    pub past : List Step
    pub run : IsRun depth boxes (told s.version s.items depth j) past
    pub leads : state start past ≡ later h asking masks path n
    pub noted : AreNoted (later h asking masks path n) j
    pub marks : HasMarksFor (length s.items - place) (later h asking masks path n)

  one_more : (j new : Journal) (n : ℕ) → IsRunning j n → j.ticks < s.horizon
      → Can (later h asking masks path n) (Elapse asking masks path) → Names h path (names_by old.names.keys told_path)
      → IsWayOrIdle old told_path → IsTicked told_path j new → IsRunning new (suc n)
  one_more j new n is lt can names way ticked =
      let mid = later h asking masks path n in
      let here = way_later old j told_path is.names way in
      let named : Names mid path (names_by j.names.keys told_path) =
      subst (λ (ns : List Text). Names mid path (names_by ns told_path)) (sym is.names)
      (names_alike h mid path (names_by old.names.keys told_path)
      (fun_ext (λ k. later_name h asking masks path n k)) names) in
      let step : Step = Elapse asking masks path in
      record {
        kept = kept_tick s j new told_path is.kept lt here ticked;
        answers = ticked.answers ∙ is.answers;
        names = ap (λ ns. ns.keys) ticked.names ∙ is.names;
        ticks = (let one = ticked.ticks in let before = is.ticks in omega (arith, one, before));
        past = is.past ++ step ∷ [];
        run =
            run_tick depth boxes (told s.version s.items depth j) (told s.version s.items depth new) is.past asking
            masks path _ is.run
            (subst (λ g. Can g step) (sym is.leads) can)
            (subst (λ g. Names g path (names_by j.names.keys told_path)) (sym is.leads) named)
            (told_tick s depth j new told_path is.kept here ticked);
        leads = state_goes is.past start step ∙ ap (λ g. after g step) is.leads;
        noted = λ k name has.
            subst (λ ns. list_any (bytes_eq name) ns.keys ≡ true) (sym ticked.names)
            (is.noted k name (sym (ticked_name (masks k) (hop_at (hops_of path) k) (mid.nodes k)) ∙ has));
        marks = tick_marks mid asking masks path (length s.items - place) is.marks;
      }

  pub runs_on : (n m : ℕ) (j : Journal) → IsRunning old 0 → m ≤ n → old.ticks + n ≤ s.horizon
      → ((i : ℕ) → i < n → Can (later h asking masks path i) (Elapse asking masks path))
      → Names h path (names_by old.names.keys told_path) → IsWayOrIdle old told_path → AreTicked m told_path old j
      → IsRunning j m
  runs_on n zero j is le room can names way same = subst (λ (x : Journal). IsRunning x 0) (sym same) is
  runs_on n (suc m) j is le room can names way (mid, before, ticked) =
      let at = runs_on n m mid is (omega (arith, le)) room can names way before in
      let now = at.ticks in
      one_more mid j m at (omega (arith, now, le, room)) (can m (omega (arith, le))) names way ticked
