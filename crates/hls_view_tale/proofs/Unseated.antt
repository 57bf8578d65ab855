-- Commands that seat nobody leave everybody where they are.
use Rattle.std.proofs.Common.{◌≡◌, ℕ, ◌+◌, ◌<◌, List, [], refl, sym, ap, ◌∙◌}
use Rattle.std.proofs.Common.{Bool, true, false, length, get_or, take, subst, if◌then◌else◌, ◌||◌}
use Rattle.std.specs.Prelude.{None}
use Rattle.hls_text.specs.Lines.{Text}
use Rattle.hls_scenario.specs.declared.scenario.Command.{Command}
use Rattle.hls_scenario.specs.declared.scenario.Command.TheVariants.{Load, Thread, End, Unload, Move, Wake, Block}
use Rattle.hls_report_text.specs.declared.report.Answered.{Answered}
use Rattle.hls_report_text.specs.Content.{Content}
use Rattle.hls_report_text.specs.WellFormed.{IsContent}
use Rattle.hls_legal.specs.Commands.{is_done}
use Rattle.hls_legal.specs.Stays.{threads}
use Rattle.hls_audit_clauses.specs.declared.member.Member.{Member}
use Rattle.hls_audit_clauses.specs.Names.{tree_of, tree_at, after}
use Rattle.hls_view_tale.specs.declared.standing.Standing.{Standing}
use Rattle.hls_view_tale.specs.declared.tale.Tale.{Tale}
use Rattle.hls_view_tale.specs.declared.hierarchy.Hierarchy.{Hierarchy}
use Rattle.hls_view_tale.specs.declared.following.Following.{Following}
use Rattle.hls_view_tale.specs.Places.{below}
use Rattle.hls_view_tale.specs.Standings.{standing, standing_after}
use Rattle.hls_view_tale.specs.Hierarchies.{came_by, in_order, IsHierarchy}
use Rattle.hls_view_tale.specs.Following.{IsFollowing}
use Rattle.hls_view_tale.specs.Inside.Came.{seats, has_seated, IsAlike}
use Rattle.hls_view_tale.specs.Inside.Told.{IsTold}
use Rattle.hls_view_tale.proofs.Comings.{tree_came}
use Rattle.hls_view_tale.proofs.Followed.{tree_next, standing_next}

tree_quiet : (tree : List Member) (command : Command) (done : Bool) → (if done then seats command else false) ≡ false
    → (if done then after tree command else tree) ≡ tree
tree_quiet tree command false e = refl
tree_quiet tree (Load name config perches) true e = absurd (let no : true ≡ false = e in cc)
tree_quiet tree (Thread name perch) true e = absurd (let no : true ≡ false = e in cc)
tree_quiet tree (End name) true e = absurd (let no : true ≡ false = e in cc)
tree_quiet tree (Unload name) true e = absurd (let no : true ≡ false = e in cc)
tree_quiet tree (Move name perch) true e = absurd (let no : true ≡ false = e in cc)
tree_quiet tree (Wake name every burst) true e = refl
tree_quiet tree (Block name) true e = refl

stays_quiet : (tree : List Member) (names : List Text) (place : ℕ) (all : List Standing) (command : Command)
    (done : Bool) → (if done then seats command else false) ≡ false
    → (if done then standing_after tree names place command all else all) ≡ all
stays_quiet tree names place all command false e = refl
stays_quiet tree names place all (Load name config perches) true e = absurd (let no : true ≡ false = e in cc)
stays_quiet tree names place all (Thread name perch) true e = absurd (let no : true ≡ false = e in cc)
stays_quiet tree names place all (End name) true e = absurd (let no : true ≡ false = e in cc)
stays_quiet tree names place all (Unload name) true e = absurd (let no : true ≡ false = e in cc)
stays_quiet tree names place all (Move name perch) true e = absurd (let no : true ≡ false = e in cc)
stays_quiet tree names place all (Wake name every burst) true e = refl
stays_quiet tree names place all (Block name) true e = refl

pub alike_first : (all : List Answered) (first : ℕ) → IsAlike all first first
alike_first all first = record { tree = refl; standing = refl }

pub alike_more : (all : List Answered) (first place : ℕ) (a : Answered) → place < length all → a ≡ get_or all place a
    → has_seated a ≡ false → IsAlike all first place → IsAlike all first (place + 1)
alike_more all first place a lt is quiet alike = record {
  tree = tree_next all place a lt is ∙ tree_quiet (tree_of (take place all)) a.command (is_done a.answer) quiet
      ∙ alike.tree;
  standing = standing_next all place a lt is
      ∙ stays_quiet (tree_of (take place all)) (threads (take place all)) place (standing all place) a.command
      (is_done a.answer) quiet
      ∙ alike.standing;
}

neither_first : (a b : Bool) → (a || b) ≡ false → a ≡ false
neither_first true b e = e
neither_first false b e = refl

neither_second : (a b : Bool) → (a || b) ≡ false → b ≡ false
neither_second true b e = absurd (let no : true ≡ false = e in cc)
neither_second false b e = e

pub alike_next : (all : List Answered) (first place : ℕ) (a : Answered) (changed seated : Bool) → place < length all
    → a ≡ get_or all place a → seated ≡ has_seated a → (changed ≡ false → IsAlike all first place)
    → (changed || seated) ≡ false → IsAlike all first (place + 1)
alike_next all first place a changed seated lt is seats-are alike none =
    alike_more all first place a lt is (sym seats-are ∙ neither_second changed seated none)
    (alike (neither_first changed seated none))

-- ---- what is followed up to a tick is its hierarchy

found_of : (c : Content) (t : ℕ) (tale : Tale) (h : Hierarchy) → IsContent c
    → IsTold tale c.answered (came_by t c.answered) → h.standing.items ≡ tale.standing.items
    → h.places.items ≡ below (in_order tale.tree.items tale.standing.items) (length tale.tree.items) None []
    → IsHierarchy c t h
found_of c t tale h formed told stays places =
    let tree : tale.tree.items ≡ tree_at t c.answered =
    told.tree ∙ tree_came c.version c.horizon 0 c.answered t formed.answered in
    record {
      standing = stays ∙ told.standing;
      places = places
          ∙ ap (λ (ms : List Member). below (in_order ms tale.standing.items) (length ms) None []) tree
          ∙ ap (λ (ss : List Standing). below (in_order (tree_at t c.answered) ss) (length (tree_at t c.answered)) None
          []) told.standing;
    }

-- where somebody came, went or moved, places are found anew
pub found : (c : Content) (t : ℕ) (all : List Answered) (tale : Tale) (h : Hierarchy) → IsContent c → all ≡ c.answered
    → IsTold tale all (came_by t all) → h.standing.items ≡ tale.standing.items
    → h.places.items ≡ below (in_order tale.tree.items tale.standing.items) (length tale.tree.items) None []
    → IsHierarchy c t h
found c t all tale h formed same told stays places =
    found_of c t tale h formed (subst (λ (l : List Answered). IsTold tale l (came_by t l)) same told) stays places

kept_of : (c : Content) (t : ℕ) (f : Following) → IsContent c → IsFollowing c f
    → IsAlike c.answered f.came (came_by t c.answered) → IsHierarchy c t f.hierarchy
kept_of c t f formed is alike =
    let tree : tree_of (take f.came c.answered) ≡ tree_at t c.answered =
    sym alike.tree ∙ tree_came c.version c.horizon 0 c.answered t formed.answered in
    record {
      standing = is.standing ∙ sym alike.standing;
      places = is.places
          ∙ ap (λ (ms : List Member). below (in_order ms (standing c.answered f.came)) (length ms) None []) tree
          ∙ ap (λ (ss : List Standing). below (in_order (tree_at t c.answered) ss) (length (tree_at t c.answered)) None
          []) (sym alike.standing);
    }

-- else they stay
pub kept : (c : Content) (t came : ℕ) (all : List Answered) (f : Following) → IsContent c → all ≡ c.answered
    → came ≡ came_by t all → IsFollowing c f → IsAlike all f.came came → IsHierarchy c t f.hierarchy
kept c t came all f formed same came_is is alike =
    kept_of c t f formed is
    (subst (λ (l : List Answered). IsAlike l f.came (came_by t l)) same (subst (IsAlike all f.came) came_is alike))

-- nobody is there before the first command
pub nobody : (c : Content) → below (in_order (tree_of (take 0 c.answered)) (standing c.answered 0))
    (length (tree_of (take 0 c.answered))) None [] ≡ []
unfolding below standing
nobody c = refl

pub none_standing : (all : List Answered) → standing all 0 ≡ []
unfolding standing
none_standing all = refl
