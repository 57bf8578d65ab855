-- Items of a list by their names, linked from the last to the first.
use Rattle.std.proofs.Common.{◌≡◌, ◌≢◌, ℕ, ◌+◌, ◌-◌, ◌<◌, List, length, set, get_or, inl, inr}
use Rattle.std.proofs.Common.{sym, ap, ◌∙◌, subst, arith, get_or-set_same, get_or-set_other, length-set}
use Rattle.std.specs.Prelude.{Option, Some, None, slice_get}
use Rattle.std.specs.Str.{bytes_eq}
use Rattle.std.proofs.lemmas.Bool.{cases_Bool, cases_eq, cases_lt}
use Rattle.std.proofs.lemmas.Option.{slice_get_within}
use Rattle.std.proofs.lemmas.Slice.Eq.{bytes_eq-Decides}
use Rattle.hls_text.specs.Lines.{Text}
use Rattle.hls_audit_threads.specs.declared.chains.Chains.{Chains}
use Rattle.hls_audit_stays.specs.Places.{place_in, Sets}
use Rattle.hls_audit_threads.specs.Inside.Chains.{Keys, HasKey, IsNextAt, IsNext, first_of, next_of, AreChainsFrom}

key_within : (keys : Keys) (name : Text) (k : ℕ) → HasKey keys name k → k < length keys
key_within keys name k has = slice_get_within keys k (Some name) has

-- ---- none is linked yet

pub unlinked : (keys : Keys) (c : Chains) → length c.next.items ≡ length keys
    → ((name : Text) → place_in c.first name ≡ None) → AreChainsFrom keys c (length keys)
unlinked keys c long none = record {
  long = long;
  first = λ name. subst (IsNext keys name (length keys)) (sym (none name))
      (λ k le has. let lt = key_within keys name k has in absurd (omega (arith, lt, le)));
  next = λ k name le has. let lt = key_within keys name k has in absurd (omega (arith, lt, le));
}

-- ---- one item more

-- where the item is not of this name
next_over : (keys : Keys) (name : Text) (at : ℕ) (found : Option ℕ) → ¬ HasKey keys name at
    → IsNext keys name (at + 1) found → IsNext keys name at found
next_over keys name at None off none = λ k le has. elim (cases_eq k at) [
  | inl same ↦ off (subst (HasKey keys name) same has)
  | inr ne ↦ none k (omega (arith, le, ne)) has
]
next_over keys name at (Some place) off next = record {
  here = next.here;
  behind = let le = next.behind in omega (arith, le);
  none = λ k le lt has. elim (cases_eq k at) [
    | inl same ↦ off (subst (HasKey keys name) same has)
    | inr ne ↦ next.none k (omega (arith, le, ne)) lt has
  ];
}

-- an item without a name
pub link_none : (keys : Keys) (c : Chains) (at : ℕ) → at < length keys → slice_get keys at ≡ Some None
    → AreChainsFrom keys c (at + 1) → AreChainsFrom keys c at
link_none keys c at lt none linked =
    let off : (name : Text) → ¬ HasKey keys name at =
    (λ name has. let wrong : Some None ≡ Some (Some name) = sym none ∙ has in cc) in
    record {
      long = linked.long;
      first = λ name. next_over keys name at (first_of c name) (off name) (linked.first name);
      next = λ k name le has. elim (cases_eq k at) [
        | inl same ↦ absurd (off name (subst (HasKey keys name) same has))
        | inr ne ↦ linked.next k name (omega (arith, le, ne)) has
      ];
    }

same_key : (keys : Keys) (one other : Text) (at : ℕ) → HasKey keys one at → HasKey keys other at → one ≡ other
same_key keys one other at is has = let same : Some (Some one) ≡ Some (Some other) = sym is ∙ has in cc

-- an item with a name
pub link_some : (keys : Keys) (old new : Chains) (at : ℕ) (name : Text) → at < length keys → HasKey keys name at
    → AreChainsFrom keys old (at + 1) → new.next.items ≡ set old.next.items at (first_of old name)
    → Sets old.first new.first name at → AreChainsFrom keys new at
link_some keys old new at name lt is linked written sets =
    let long = linked.long in
    record {
      long = ap (λ (l : List (Option ℕ)). length l) written ∙ length-set old.next.items at (first_of old name) ∙ long;
      first = λ other. elim (cases_Bool (bytes_eq name other)) [
        | inl t ↦
            let same : name ≡ other = (bytes_eq-Decides name other).0 t in
            subst (λ (n : Text). IsNext keys n at (first_of new n)) same
            (subst (IsNext keys name at) (sym sets.here)
            (record { here = is; behind = omega arith; none = λ k le less. absurd (omega (arith, le, less)) }))
        | inr f ↦
            let ne : other ≢ name = (λ e. absurd (cc (sym f ∙ (bytes_eq-Decides name other).1 (sym e)))) in
            subst (IsNext keys other at) (sym (sets.others other ne))
            (next_over keys other at (first_of old other) (λ has. ne (sym (same_key keys name other at is has)))
            (linked.first other))
      ];
      next = λ k other le has. elim (cases_eq k at) [
        | inl same ↦
            let here : HasKey keys other at = subst (HasKey keys other) same has in
            let one : name ≡ other = same_key keys name other at is here in
            let found : next_of new k ≡ first_of old name =
            ap (λ (l : List (Option ℕ)). get_or l k None) written
            ∙ ap (λ n. get_or (set old.next.items at (first_of old name)) n None) same
            ∙ get_or-set_same old.next.items at (first_of old name) None (omega (arith, lt, long)) in
            subst (IsNext keys other (k + 1)) (sym found)
            (subst (λ n. IsNext keys other (n + 1) (first_of old name)) (sym same)
            (subst (λ (n : Text). IsNext keys n (at + 1) (first_of old name)) one (linked.first name)))
        | inr ne ↦
            let found : next_of new k ≡ next_of old k =
            ap (λ (l : List (Option ℕ)). get_or l k None) written
            ∙ get_or-set_other old.next.items at k (first_of old name) None ne in
            subst (IsNext keys other (k + 1)) (sym found) (linked.next k other (omega (arith, le, ne)) has)
      ];
    }

-- ---- going along a chain

-- how many items are left behind the one that comes next
abbrev pub left_behind : (count : ℕ) → Option ℕ → ℕ
left_behind count None = 0
left_behind count (Some place) = count - place

-- what has a name before the next item has it before this one already
pub none_between : (keys : Keys) (name : Text) (from place k : ℕ) → IsNextAt keys name from place
    → k < place → HasKey keys name k → k < from
none_between keys name from place k next lt has = elim (cases_lt k from) [
  | inl before ↦ before
  | inr behind ↦ absurd (next.none k behind lt has)
]

pub chain_smaller : (keys : List (Option Text)) (name : Text) (at count : ℕ) (next : Option ℕ) → at < count
    → IsNext keys name (at + 1) next → left_behind count next < left_behind count (Some at)
chain_smaller keys name at count None lt is = omega (arith, lt)
chain_smaller keys name at count (Some place) lt is = let behind = is.behind in omega (arith, lt, behind)
