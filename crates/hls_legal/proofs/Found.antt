-- The node that has a name.
use Rattle.std.proofs.Common.{◌≡◌, ℕ, inl, inr, ◌⊎◌, List, [], ◌∷◌, ◌++◌, Option, Some, None, Bool, true, false}
use Rattle.std.proofs.Common.{cond, refl, sym, ap, ◌∙◌}
use Rattle.std.specs.Prelude.{find, Contains, option_and_then}
use Rattle.std.proofs.lemmas.List.Elements.{Contains-append_left, Contains-append_right}
use Rattle.std.proofs.lemmas.Slice.Eq.{bytes_eq-Decides}
use Rattle.hls_text.specs.Lines.{Text}
use Rattle.hls_machine.specs.Hierarchy.{Hierarchy, Node, Loaded, Admitted, name_of}
use Rattle.hls_machine.specs.Steps.{is_scheduler, is_thread}
use Rattle.hls_machine.specs.Lists.{IsListed}
use Rattle.hls_machine.proofs.Listings.{First, Later, in_cases, none_in}
use Rattle.hls_legal.specs.Schedule.{is_name}
use Rattle.hls_legal.specs.Tells.{HasName}
use Rattle.hls_legal.specs.Moment.{has_name, number_of, node_of}

find_true : {A : Type 0} (test : A → Bool) (xs : List A) (y : A) → find test xs ≡ Some y → test y ≡ true
find_true test [] y e = absurd (cc)
find_true test (x ∷ xs) y e =
    elim (test x) as (λ b. test x ≡ b → cond b (Some x) (find test xs) ≡ Some y → test y ≡ true) [
      | true ↦ λ on f. (let same : x ≡ y = cc in ap test (sym same) ∙ on)
      | false ↦ λ off f. find_true test xs y f
    ] refl e

find_some : {A : Type 0} (test : A → Bool) (xs : List A) (x : A) → Contains xs x → test x ≡ true
    → (y : A) × (find test xs ≡ Some y)
find_some test [] x has on = absurd (none_in x has)
find_some test (y ∷ xs) x has on =
    elim (test y) as (λ b. test y ≡ b → (z : _) × (cond b (Some y) (find test xs) ≡ Some z)) [
      | true ↦ λ is. (y, refl)
      | false ↦ λ off. elim (in_cases y xs x has) [
        | First same ↦ absurd (let e = sym off ∙ ap test same ∙ on in cc)
        | Later rest ↦ find_some test xs x rest on
      ]
    ] refl

is_name-true : (name : Text) (other : Option Text) → is_name name other ≡ true → other ≡ Some name
is_name-true name None e = absurd (cc)
is_name-true name (Some other) e = ap (λ n. Some n) ((bytes_eq-Decides other name).0 e)

true-is_name : (name : Text) (other : Option Text) → other ≡ Some name → is_name name other ≡ true
true-is_name name None e = absurd (cc)
true-is_name name (Some other) e = (bytes_eq-Decides other name).1 (let same : other ≡ name = cc in same)

present : (node : Option Node) (name : Text) → name_of node ≡ Some name
    → (is_scheduler node ≡ true) ⊎ (is_thread node ≡ true)
present None name e = absurd (cc)
present (Some (Loaded s)) name e = inl refl
present (Some (Admitted t)) name e = inr refl

contained : (h : Hierarchy) → IsListed h → (k : ℕ) (name : Text) → HasName h k name
    → Contains (h.schedulers ++ h.threads) k
contained h listed k name is = elim (present (h.nodes k) name is) [
  | inl on ↦ Contains-append_left h.schedulers h.threads k (listed.schedulers.all k on)
  | inr on ↦ Contains-append_right h.schedulers h.threads k (listed.threads.all k on)
]

-- what is found has the name, and who has the name is found
pub found_named : (h : Hierarchy) (name : Text) (k : ℕ) → number_of h name ≡ Some k → HasName h k name
found_named h name k e =
    is_name-true name (name_of (h.nodes k)) (find_true (has_name h name) (h.schedulers ++ h.threads) k e)

pub named_found : (h : Hierarchy) → IsListed h → (k : ℕ) (name : Text) → HasName h k name
    → number_of h name ≡ Some k
named_found h listed k name is =
    let some = find_some (has_name h name) (h.schedulers ++ h.threads) k (contained h listed k name is)
    (true-is_name name (name_of (h.nodes k)) is) in
    let same : some.0 ≡ k = listed.names some.0 k name (found_named h name some.0 some.1) is in
    some.1 ∙ ap (λ n. Some n) same

pub named_is : (h : Hierarchy) → IsListed h → (k : ℕ) (name : Text) → HasName h k name
    → node_of h name ≡ h.nodes k
named_is h listed k name is = ap (option_and_then h.nodes) (named_found h listed k name is)

-- a node that is named
pub record IsFound (h : Hierarchy) (name : Text) (node : Node) : Type 0 where
  pub number : ℕ
  pub found : number_of h name ≡ Some number
  pub has : HasName h number name
  pub there : h.nodes number ≡ Some node

found_by : (h : Hierarchy) (name : Text) (node : Node) (k : Option ℕ) → number_of h name ≡ k
    → option_and_then h.nodes k ≡ Some node → IsFound h name node
found_by h name node None e f = absurd (cc)
found_by h name node (Some k) e f =
    record { number = k; found = e; has = found_named h name k e; there = f }

pub named_there : (h : Hierarchy) (name : Text) (node : Node) → node_of h name ≡ Some node → IsFound h name node
named_there h name node e = found_by h name node (number_of h name) refl e
