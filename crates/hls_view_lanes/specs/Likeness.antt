-- Labels that read alike, and ways that begin with others. A way is told by its labels from the top.
use Rattle.std.specs.Prelude.{List, [], ◌∷◌, Bool, true, false, ◌&&◌, ◌||◌, Some}
use Rattle.std.specs.Str.{bytes_eq}
use Rattle.hls_chron.specs.contracts.plain.TermsPartialEq.TheImpl as terms
use Rattle.hls_guarantee.specs.contracts.GuaranteePartialEq.TheImpl as guarantees
use Rattle.hls_audit_clauses.specs.declared.member.Sort.{Sort}
use Rattle.hls_audit_clauses.specs.contracts.member.SortPartialEq.TheImpl as sorts
use Rattle.hls_audit_clauses.specs.Names.{is_join_sort}
use Rattle.hls_view_tale.specs.declared.label.Label.{Label}

-- a join reads as one, however many ports it has
abbrev pub is_like_sort : (a b : Sort) → Bool
is_like_sort a b = sorts.eq-value.it a b || is_join_sort (Some a) && is_join_sort (Some b)

-- the same name, sort, terms and guarantee, by whichever port
abbrev pub is_like : (a b : Label) → Bool
is_like a b = bytes_eq a.name b.name && is_like_sort a.sort b.sort && terms.eq-value.it a.terms b.terms
    && guarantees.eq-value.it a.kept b.kept

abbrev pub begins : (above way : List Label) → Bool
begins [] way = true
begins (label ∷ above) [] = false
begins (label ∷ above) (other ∷ way) = is_like label other && begins above way

abbrev pub is_same : (a b : List Label) → Bool
is_same a b = begins a b && begins b a
