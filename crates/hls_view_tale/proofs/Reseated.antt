-- A member that takes a seat anew.
use Rattle.std.proofs.Common.{◌≡◌, List, [], ◌∷◌, ◌++◌, Option, Some, None, Bool, true, false, refl, ap, ◌∙◌}
use Rattle.std.specs.Prelude.{cond}
use Rattle.std.proofs.lemmas.Slice.Eq.{bytes_eq-Decides}
use Rattle.hls_text.specs.Lines.{Text}
use Rattle.hls_scenario.specs.declared.scenario.Perch.{Perch}
use Rattle.hls_audit_clauses.specs.declared.member.Sort.{Sort}
use Rattle.hls_audit_clauses.specs.declared.member.Member.{Member}
use Rattle.hls_audit_clauses.specs.Names.{has_name, member_of, sort_of, without, with_moved}
use Rattle.hls_view_tale.specs.Inside.Members.{member}

-- whoever is found has the name
IsNamed : (name : Text) → Option Member → Type 0
IsNamed name None = Unit {0}
IsNamed name (Some m) = m.name ≡ name

either_named : (b : Bool) (name : Text) (m : Member) (found : Option Member) → (b ≡ true → m.name ≡ name)
    → IsNamed name found → IsNamed name (cond b (Some m) found)
unfolding IsNamed
either_named true name m found here there = here refl
either_named false name m found here there = there

found_named : (tree : List Member) (name : Text) → IsNamed name (member_of tree name)
unfolding IsNamed
found_named [] name = tt
found_named (m ∷ tree) name =
    either_named (has_name name m) name m (member_of tree name) (bytes_eq-Decides m.name name).0
    (found_named tree name)

seated_anew : (tree : List Member) (name : Text) (perch : Perch) (sort : Sort) (found : Option Member)
    → IsNamed name found → sort_of found ≡ Some sort
    → with_moved tree perch found ≡ without name tree ++ member name sort (perch ∷ []) ∷ []
unfolding IsNamed
seated_anew tree name perch sort None named is = absurd (cc)
seated_anew tree name perch sort (Some m) named is =
    let sort_is : m.sort ≡ sort = cc in
    ap (λ n. without n tree ++ member n m.sort (perch ∷ []) ∷ []) named
    ∙ ap (λ s. without name tree ++ member name s (perch ∷ []) ∷ []) sort_is

pub reseated : (tree : List Member) (name : Text) (perch : Perch) (sort : Sort)
    → sort_of (member_of tree name) ≡ Some sort
    → with_moved tree perch (member_of tree name) ≡ without name tree ++ member name sort (perch ∷ []) ∷ []
reseated tree name perch sort is =
    seated_anew tree name perch sort (member_of tree name) (found_named tree name) is

left_alone : (tree : List Member) (perch : Perch) (found : Option Member) → sort_of found ≡ None
    → with_moved tree perch found ≡ tree
left_alone tree perch None is = refl
left_alone tree perch (Some m) is = absurd (cc)

pub unseated : (tree : List Member) (name : Text) (perch : Perch) → sort_of (member_of tree name) ≡ None
    → with_moved tree perch (member_of tree name) ≡ tree
unseated tree name perch is = left_alone tree perch (member_of tree name) is
