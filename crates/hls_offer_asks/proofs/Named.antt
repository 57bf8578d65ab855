-- Who has a name, by what the tree tells.
use Rattle.std.proofs.Common.{◌≡◌, ◌≢◌, ℕ, Option, Some, None, true, false, refl, sym, ap, ◌∙◌}
use Rattle.std.specs.Prelude.{option_and_then}
use Rattle.hls_text.specs.Lines.{Text}
use Rattle.hls_chron.specs.declared.plain.Kind.{Kind}
use Rattle.hls_machine.specs.Hierarchy.{Hierarchy, Node, Loaded, Admitted, name_of}
use Rattle.hls_machine.specs.Steps.{is_thread}
use Rattle.hls_machine.specs.Lists.{IsListed}
use Rattle.hls_legal.specs.Tells.{HasName}
use Rattle.hls_legal.specs.Moment.{NamesScheduler, node_of, number_of}
use Rattle.hls_legal.proofs.Found.{found_named, named_is}
use Rattle.hls_tree.specs.declared.seat.Sort.TheVariants as sorts
use Rattle.hls_tree.specs.Reads.{IsSort}

-- nobody has it
nobody : (h : Hierarchy) (name : Text) → ((id : ℕ) → name_of (h.nodes id) ≢ Some name) → node_of h name ≡ None
nobody h name free = by (number_of h name) refl
  where
    by : (k : Option ℕ) → number_of h name ≡ k → node_of h name ≡ None
    by None e = ap (option_and_then h.nodes) e
    by (Some k) e = absurd (free k (found_named h name k e))

pub nobody_thread : (h : Hierarchy) (name : Text) → ((id : ℕ) → name_of (h.nodes id) ≢ Some name)
    → false ≡ is_thread (node_of h name)
nobody_thread h name free = sym (ap is_thread (nobody h name free))

pub nobody_scheduler : (h : Hierarchy) (name : Text) → ((id : ℕ) → name_of (h.nodes id) ≢ Some name)
    → ¬ NamesScheduler h name
nobody_scheduler h name free names = (let none = nobody h name free in let there = names.there in cc)

-- somebody of this sort has it
sort_thread : (node : Option Node) → IsSort node sorts.Thread → is_thread node ≡ true
sort_thread None is = absurd is
sort_thread (Some (Loaded s)) is = absurd is
sort_thread (Some (Admitted t)) is = refl

sort_scheduler : (node : Option Node) (kind : Kind) → IsSort node (sorts.Sched kind) → is_thread node ≡ false
sort_scheduler None kind is = absurd is
sort_scheduler (Some (Loaded s)) kind is = refl
sort_scheduler (Some (Admitted t)) kind is = absurd is

pub is_one : (h : Hierarchy) → IsListed h → (id : ℕ) (name : Text) → HasName h id name
    → IsSort (h.nodes id) sorts.Thread → true ≡ is_thread (node_of h name)
is_one h listed id name has is = sym (ap is_thread (named_is h listed id name has) ∙ sort_thread (h.nodes id) is)

pub is_none : (h : Hierarchy) → IsListed h → (id : ℕ) (name : Text) → HasName h id name → (kind : Kind)
    → IsSort (h.nodes id) (sorts.Sched kind) → false ≡ is_thread (node_of h name)
is_none h listed id name has kind is =
    sym (ap is_thread (named_is h listed id name has) ∙ sort_scheduler (h.nodes id) kind is)

pub thread_scheduler : (h : Hierarchy) → IsListed h → (id : ℕ) (name : Text) → HasName h id name
    → IsSort (h.nodes id) sorts.Thread → ¬ NamesScheduler h name
thread_scheduler h listed id name has is names =
    let on = sort_thread (h.nodes id) is in
    let there = sym (named_is h listed id name has) ∙ names.there in
    let lost = sym on ∙ ap is_thread there in
    cc
