-- Paths that were followed.
use Rattle.std.proofs.Common.{◌≡◌, ℕ, ◌<◌, ◌≤◌, List, Bool, true, false, length, get_or, set, inl, inr}
use Rattle.std.proofs.Common.{refl, sym, ap, ◌∙◌, subst, arith, get_or-set_same, get_or-set_other}
use Rattle.std.specs.Option.{option_eq}
use Rattle.std.specs.Prelude.{Option, Some, None, ◌&&◌, nat_eq}
use Rattle.std.specs.Cmp.Lexicographic.{pointwise, same_text}
use Rattle.std.proofs.lemmas.Bool.{cases_eq, cases_lt, eqb-true}
use Rattle.std.proofs.lemmas.List.{get_or_past}
use Rattle.hls_text.specs.Lines.{Text}
use Rattle.hls_report_text.specs.declared.report.Path.{Path}
use Rattle.hls_report_text.specs.contracts.report.PathPartialEq.TheImpl.{eq-value}
use Rattle.hls_report_text.specs.Content.{path_names}
use Rattle.hls_audit_clauses.specs.declared.member.Member.{Member}
use Rattle.hls_audit_clauses.specs.Ways.{leads_down}
use Rattle.hls_audit.specs.Inside.Followed.{AreFollowed}

-- ---- two paths

both : (a b : Bool) → (a && b) ≡ true → (a ≡ true) × (b ≡ true)
both true b e = (refl, e)
both false b e = absurd (let no : false ≡ true = e in cc)

path_same : (p q : Path) → eq-value.it p q ≡ true → p ≡ q
path_same p q e =
    let apart = both (nat_eq p.len q.len) (pointwise nat_eq p.names q.names) e in
    let len = eqb-true p.len q.len apart.0 in
    let names = same_text p.names q.names (sym apart.1) in
    λ i. record { len = len i; names = names i }

pub same_path : (p q : Option Path) → option_eq eq-value.it p q ≡ true → p ≡ q
same_path None None e = refl
same_path (Some p) (Some q) e = ap (λ (path : Path). Some path) (path_same p q e)
same_path None (Some q) e = absurd (let no : false ≡ true = e in cc)
same_path (Some p) None e = absurd (let no : false ≡ true = e in cc)

-- ---- those that are remembered

-- none is left
pub followed_none : (members : List Member) (names : List Text) (paths : List (Option Path)) (at : ℕ)
    → length paths ≤ at → ((k : ℕ) → k < at → get_or paths k None ≡ None) → AreFollowed members names paths
followed_none members names paths at past none k path there = elim (cases_lt k at) [
  | inl lt ↦ absurd (let wrong : None ≡ Some path = sym (none k lt) ∙ there in cc)
  | inr ge ↦ absurd (let wrong : None ≡ Some path = sym (get_or_past paths k None (omega (arith, past, ge))) ∙ there
      in cc)
]

-- one more
pub followed_more : (members : List Member) (names : List Text) (paths : List (Option Path)) (place : ℕ) (path : Path)
    → place < length paths → leads_down members (path_names names path) ≡ true → AreFollowed members names paths
    → AreFollowed members names (set paths place (Some path))
followed_more members names paths place path lt leads so_far k other there = elim (cases_eq k place) [
  | inl same ↦
      let here : get_or (set paths place (Some path)) place None ≡ Some path =
      get_or-set_same paths place (Some path) None lt in
      let one : Some path ≡ Some other =
      sym here ∙ ap (λ n. get_or (set paths place (Some path)) n None) (sym same) ∙ there in
      let is : path ≡ other = cc in
      subst (λ (p : Path). leads_down members (path_names names p) ≡ true) is leads
  | inr ne ↦ so_far k other (sym (get_or-set_other paths place k (Some path) None ne) ∙ there)
]
