-- Walks that change what stands at each number in turn, or at those of a list.
use Rattle.std.proofs.Common.{◌≡◌, ◌≢◌, ℕ, ◌+◌, ◌<◌, ◌≤◌, length, Option, None, arith, ap, refl, sym, ◌∙◌, subst, inl}
use Rattle.std.proofs.Common.{inr, ◌⊎◌, zero, suc, List, Some, slice_get, true}
use Rattle.std.proofs.lemmas.Bool.{cases_lt, cases_eq}
use Rattle.std.proofs.lemmas.Option.{slice_get_past}
use Rattle.std.proofs.Math.ListN.{get_or-eq_default}
use Rattle.std.specs.declared.dyn_box.DynBox.{DynBox}
use Rattle.std.specs.declared.alloc.Global.{Global}
use Rattle.slab.specs.Slab.{Slab, get}
use Rattle.hls_sched.specs.Seen.{Seen}
use Rattle.hls_tree_nodes.specs.Shown.{Post, What, Scheduler, Thread, Shown, is_sched, is_sched_what, on_post, on_what}
use Rattle.hls_tree_nodes.specs.TreeOf.{IsRoll, IsOn}
use Rattle.hls_tree_nodes.specs.declared.node.Node.{Node}
use Rattle.hls_tree_nodes.specs.declared.nodes.Nodes.{Nodes}
use Rattle.hls_tree_nodes.specs.Behind.{late}
use Rattle.hls_tree_nodes.specs.Views.{shown_opt, stored_at, shown_at, choice_opt, choice_at}

-- below i what is shown of each was changed by f, and from i on each is the old one
pub record IsShown {A B : Type 0} (show : A → B) (f : ℕ → A → B) (old new : ℕ → A) (i : ℕ) : Type 0 where
  pub done : (k : ℕ) → k < i → show (new k) ≡ f k (old k)
  pub rest : (k : ℕ) → i ≤ k → new k ≡ old k

pub shown_start : {A B : Type 0} (show : A → B) (f : ℕ → A → B) (old : ℕ → A) → IsShown show f old old 0
shown_start show f old = record { done = λ k lt. absurd (omega (arith, lt)); rest = λ k le. refl }

pub shown_step : {A B : Type 0} (show : A → B) (f : ℕ → A → B) (old mid new : ℕ → A) (i : ℕ)
    → IsShown show f old mid i → ((k : ℕ) → k ≢ i → new k ≡ mid k) → show (new i) ≡ f i (mid i)
    → IsShown show f old new (i + 1)
shown_step show f old mid new i w others here = record {
  done = λ k lt. elim (cases_eq k i) [
    | inl e ↦ (let e' : i ≡ k = sym e in
        subst (λ n. show (new n) ≡ f n (old n)) e' (here ∙ ap (f i) (w.rest i (omega arith))))
    | inr ne ↦ ap show (others k ne) ∙ w.done k (omega (arith, ne, lt))
  ];
  rest = λ k le. others k (λ e. omega (arith, e, le)) ∙ w.rest k (omega (arith, le));
}

pub shown_all : {A B : Type 0} (show : A → B) (f : ℕ → A → B) (old new : ℕ → A) (i : ℕ)
    → IsShown show f old new i → ((k : ℕ) → i ≤ k → show (old k) ≡ f k (old k))
    → (k : ℕ) → show (new k) ≡ f k (old k)
shown_all show f old new i w none k = elim (cases_lt k i) [
  | inl lt ↦ w.done k lt
  | inr ge ↦ ap show (w.rest k ge) ∙ none k ge
]

-- on a list before a place
abbrev pub Before : List ℕ → (i k : ℕ) → Type 0
Before l i k = (j : ℕ) × (j < i) × (slice_get l j ≡ Some k)

entry_cases : (o : Option ℕ) (k : ℕ) → (o ≡ Some k) ⊎ (o ≢ Some k)
entry_cases None k = inr (λ e. cc)
entry_cases (Some n) k = elim (cases_eq n k) [
  | inl e ↦ inl (ap Some e)
  | inr ne ↦ inr (λ e. ne (cc))
]

pub before_cases : (l : List ℕ) (i k : ℕ) → Before l i k ⊎ (Before l i k → ⊥)
before_cases l zero k = inr (λ w. (let lt = w.1 in omega (arith, lt)))
before_cases l (suc i) k = elim (before_cases l i k) [
  | inl w ↦ inl (w.0, (let lt = w.1 in omega (arith, lt)), w.2)
  | inr none ↦ elim (entry_cases (slice_get l i) k) [
    | inl e ↦ inl (i, omega arith, e)
    | inr ne ↦ inr (λ w. elim (cases_eq w.0 i) [
      | inl j ↦ ne (ap (slice_get l) (sym j) ∙ w.2)
      | inr nj ↦ none (w.0, (let lt = w.1 in omega (arith, lt, nj)), w.2)
    ])
  ]
]

-- what is shown of those on a list before a place was changed by f, and each other is the old one
pub record IsChangedOn {A B : Type 0} (show : A → B) (f : ℕ → A → B) (old new : ℕ → A) (l : List ℕ) (i : ℕ) : Type 0
  where
    pub done : (k : ℕ) → Before l i k → show (new k) ≡ f k (old k)
    pub rest : (k : ℕ) → (Before l i k → ⊥) → new k ≡ old k

pub changes_start : {A B : Type 0} (show : A → B) (f : ℕ → A → B) (old : ℕ → A) (l : List ℕ)
    → IsChangedOn show f old old l 0
changes_start show f old l =
    record { done = λ k w. absurd (let lt = w.1 in omega (arith, lt)); rest = λ k none. refl }

-- the next one was not on the list before
pub not_before : (s : ℕ → Option Shown) (l : List ℕ) → IsRoll s l → (i key : ℕ) → slice_get l i ≡ Some key
    → Before l i key → ⊥
not_before s l roll i key at w =
    let same : w.0 ≡ i = roll.once w.0 i key w.2 at in
    let lt = w.1 in
    omega (arith, same, lt)

pub changes_step : {A B : Type 0} (show : A → B) (f : ℕ → A → B) (old mid new : ℕ → A) (l : List ℕ) (i key : ℕ)
    → slice_get l i ≡ Some key → (Before l i key → ⊥)
    → IsChangedOn show f old mid l i → ((k : ℕ) → k ≢ key → new k ≡ mid k) → show (new key) ≡ f key (mid key)
    → IsChangedOn show f old new l (i + 1)
changes_step show f old mid new l i key at first w others here = record {
  done = λ k b. elim (cases_eq k key) [
    | inl e ↦ (let e' : key ≡ k = sym e in
        subst (λ n. show (new n) ≡ f n (old n)) e' (here ∙ ap (f key) (w.rest key first)))
    | inr ne ↦ ap show (others k ne) ∙ w.done k (
      b.0,
      (let lt = b.1 in elim (cases_eq b.0 i) [
        | inl j ↦ absurd (ne (let same : Some k ≡ Some key = sym b.2 ∙ ap (slice_get l) j ∙ at in cc))
        | inr nj ↦ omega (arith, lt, nj)
      ]),
      b.2,
    )
  ];
  rest = λ k none. others k (λ e. none (i, omega arith, at ∙ ap Some (sym e)))
      ∙ w.rest k (λ b. none (b.0, (let lt = b.1 in omega (arith, lt)), b.2));
}

pub changes_all : {A B : Type 0} (show : A → B) (f : ℕ → A → B) (old new : ℕ → A) (l : List ℕ) (i : ℕ)
    → IsChangedOn show f old new l i → length l ≤ i → ((k : ℕ) → (IsOn l k → ⊥) → show (old k) ≡ f k (old k))
    → (k : ℕ) → show (new k) ≡ f k (old k)
changes_all show f old new l i w le none k = elim (before_cases l i k) [
  | inl b ↦ w.done k b
  | inr not ↦ ap show (w.rest k not) ∙ none k (λ on. not (
    on.0,
    (elim (cases_lt on.0 i) [
      | inl lt ↦ lt
      | inr ge ↦ absurd (let past : slice_get l on.0 ≡ None = slice_get_past l on.0 (omega (arith, le, ge)) in
          let clash : None ≡ Some k = sym past ∙ on.1 in cc)
    ]),
    on.1,
  ))
]

-- what is no scheduler is not changed
kept_what : (f : Post → Post) (w : What) → is_sched_what w ≢ true → on_what f w ≡ w
kept_what f (Scheduler post) not = absurd (not refl)
kept_what f (Thread r) not = refl

pub kept_in : (f : Post → Post) (o : Option Shown) → is_sched o ≢ true → o ≡ on_post f o
kept_in f None not = refl
kept_in f (Some x) not =
    ap (λ w. Some (record { name = x.name; level = x.level; seats = x.seats; what = w })) (sym (kept_what f x.what not))

pub get_none : {V : Type 0} {P : V → Type 0} (nodes : Slab (Node V P)) (k : ℕ) → length nodes.slots ≤ k
    → get nodes k ≡ None
get_none nodes k le = get_or-eq_default nodes.slots None le

pub none_at : {V : Type 0} {P : V → Type 0} (show : DynBox V Global P → Seen) (nodes : Nodes V P)
    (k : ℕ) → length nodes.slab.slots ≤ k → shown_at show nodes k ≡ None
none_at show nodes k le = ap (λ n. late nodes.behind nodes.tick (shown_opt show n)) (get_none nodes.slab k le)

-- what stays of each other node where one is changed
pub stored_others : {V : Type 0} {P : V → Type 0} (show : DynBox V Global P → Seen) (old new : Slab (Node V P))
    (key : ℕ) → ((k : ℕ) → k ≢ key → get new k ≡ get old k)
    → (k : ℕ) → k ≢ key → stored_at show new k ≡ stored_at show old k
stored_others show old new key others k ne = ap (shown_opt show) (others k ne)

pub choice_others : {V : Type 0} {P : V → Type 0} (choice : DynBox V Global P → Option ℕ) (old new : Nodes V P)
    (key : ℕ) → ((k : ℕ) → k ≢ key → get new.slab k ≡ get old.slab k)
    → (k : ℕ) → k ≢ key → choice_at choice new k ≡ choice_at choice old k
choice_others choice old new key others k ne = ap (choice_opt choice) (others k ne)
