-- The commands, with the tree before each.
use Rattle.std.proofs.Common.{◌≡◌, ℕ, ◌+◌, ◌<◌, ◌≤◌, inl, inr, List, [], refl, sym, ap, ◌∙◌, subst, arith}
use Rattle.std.proofs.Common.{take, length, get_or}
use Rattle.std.specs.Prelude.{Bool, true, false, Some, None, slice_get, Option}
use Rattle.std.specs.List.{AllByRecursion}
use Rattle.std.proofs.lemmas.List.Elements.{All-from_recursion}
use Rattle.std.proofs.lemmas.Bool.{cases_eq, cases_lt}
use Rattle.std.proofs.lemmas.List.Sums.{fold_more}
use Rattle.std.proofs.lemmas.Option.{slice_get_read, slice_get_within, get_or_from_slice_get}
use Rattle.hls_report_text.specs.declared.report.Answered.{Answered}
use Rattle.hls_report_text.specs.Content.{Content}
use Rattle.hls_legal.specs.Commands.{is_done}
use Rattle.hls_audit_clauses.specs.Misplaced.{is_misplaced}
use Rattle.hls_audit_clauses.specs.declared.member.Member.{Member}
use Rattle.hls_audit_clauses.specs.Names.{after_answer, tree_of}
use Rattle.hls_audit_clauses.specs.Clauses.{IsMisplacedAt, IsUnderivedAt}
use Rattle.hls_audit_watch.specs.First.{IsFirstAt, FirstAt}
use Rattle.hls_audit_threads.specs.Inside.Order.{AreInOrder, IsSound}
use Rattle.hls_audit.specs.Inside.Sites.{IsMisplacedBy, IsUnderivedBy, HasBad}
use Rattle.hls_audit.specs.Inside.Fits.{IsFit}
use Rattle.hls_audit.proofs.FitLaws.{answer_fit}

-- of the first so many none fails, and this is the tree that they leave
pub record AreGood (bad : List Member → Answered → Type 0) (all : List Answered) (i : ℕ) (tree : List Member)
    : Type 0 where
  pub tree_is : tree ≡ tree_of (take i all)
  pub good : (k : ℕ) (a : Answered) → k < i → slice_get all k ≡ Some a → ¬ bad (tree_of (take k all)) a

pub good_none : (bad : List Member → Answered → Type 0) (all : List Answered) → AreGood bad all 0 []
good_none bad all = record { tree_is = refl; good = λ k a lt. absurd (omega arith) }

pub good_more : (bad : List Member → Answered → Type 0) (all : List Answered) (i : ℕ) (a : Answered)
    (tree more : List Member) → i < length all → a ≡ get_or all i a → more ≡ after_answer tree a
    → ¬ bad tree a → AreGood bad all i tree → AreGood bad all (i + 1) more
good_more bad all i a tree more lt e step not_bad so_far = record {
  tree_is = step ∙ ap (λ (t : List Member). after_answer t a) so_far.tree_is
      ∙ ap (after_answer (tree_of (take i all))) e ∙ sym (fold_more after_answer [] all i a lt);
  good = λ k b less there. elim (cases_eq k i) [
    | inl same ↦
        let at : slice_get all i ≡ Some b = subst (λ n. slice_get all n ≡ Some b) same there in
        let one : a ≡ b = e ∙ get_or_from_slice_get all i b a at in
        let here : ¬ bad (tree_of (take i all)) b =
        subst (λ x. ¬ bad (tree_of (take i all)) x) one
        (subst (λ (t : List Member). ¬ bad t a) so_far.tree_is not_bad) in
        subst (λ n. ¬ bad (tree_of (take n all)) b) (sym same) here
    | inr ne ↦ so_far.good k b (omega arith) there
  ];
}

pub first_bad : (bad : List Member → Answered → Type 0) (all : List Answered) (i : ℕ) (a : Answered)
    (tree : List Member) → AreInOrder all → i < length all → a ≡ get_or all i a → bad tree a
    → AreGood bad all i tree → IsFirstAt (HasBad bad all) a.tick
first_bad bad all i a tree order lt e is so_far =
    let there : slice_get all i ≡ Some a = slice_get_read all (length all) i a refl lt e in
    record {
      here = record {
        at = i;
        a = a;
        there = there;
        tick = refl;
        is = subst (λ (t : List Member). bad t a) so_far.tree_is is;
      };
      earliest = λ t less m. elim (cases_lt m.at i) [
        | inl before ↦ so_far.good m.at m.a before m.there m.is
        | inr behind ↦
            let later = order i m.at a m.a behind there m.there in
            let now = m.tick in omega (arith, later, now, less)
      ];
    }

pub none_bad : (bad : List Member → Answered → Type 0) (all : List Answered) (i : ℕ) (tree : List Member)
    → length all ≤ i → AreGood bad all i tree → (t : ℕ) → ¬ HasBad bad all t
none_bad bad all i tree le so_far t m =
    let within = slice_get_within all m.at m.a m.there in
    so_far.good m.at m.a (omega (arith, within, le)) m.there m.is

-- ---- the clauses

first_both : (P Q : ℕ → Type 0) (first : Option ℕ) → ((t : ℕ) → P t → Q t) → ((t : ℕ) → Q t → P t)
    → FirstAt P first → FirstAt Q first
first_both P Q None to back none = λ t q. none t (back t q)
first_both P Q (Some t) to back first = record {
  here = to t first.here;
  earliest = λ k lt q. first.earliest k lt (back k q);
}

pub misplaced_first : (c : Content) (all : List Answered) (first : Option ℕ) → all ≡ c.answered
    → FirstAt (HasBad IsMisplacedBy all) first → FirstAt (IsMisplacedAt c) first
misplaced_first c all first e f =
    first_both (HasBad IsMisplacedBy c.answered) (IsMisplacedAt c) first
    (λ t m. record {
      at = m.at;
      a = m.a;
      command = record { there = m.there; tick = m.tick; done = m.is.done };
      misplaced = m.is.misplaced;
    })
    (λ t m. record {
      at = m.at;
      a = m.a;
      there = m.command.there;
      tick = m.command.tick;
      is = record { done = m.command.done; misplaced = m.misplaced };
    })
    (subst (λ (l : List Answered). FirstAt (HasBad IsMisplacedBy l) first) e f)

pub underived_first : (c : Content) (all : List Answered) (below : ℕ) (first : Option ℕ) → all ≡ c.answered
    → FirstAt (λ t. HasBad (IsUnderivedBy c.depth) all t × (t < below)) first
    → FirstAt (λ t. IsUnderivedAt c t × (t < below)) first
underived_first c all below first e f =
    first_both (λ t. HasBad (IsUnderivedBy c.depth) c.answered t × (t < below))
    (λ t. IsUnderivedAt c t × (t < below)) first
    (λ t m. (
      record {
        at = m.0.at;
        a = m.0.a;
        command = record { there = m.0.there; tick = m.0.tick; done = m.0.is.done };
        lacks = m.0.is.lacks;
      },
      m.1,
    ))
    (λ t m. (
      record {
        at = m.0.at;
        a = m.0.a;
        there = m.0.command.there;
        tick = m.0.command.tick;
        is = record { done = m.0.command.done; lacks = m.0.lacks };
      },
      m.1,
    ))
    (subst (λ (l : List Answered). FirstAt (λ t. HasBad (IsUnderivedBy c.depth) l t × (t < below)) first) e f)

pub placed_below : (c : Content) (all : List Answered) (below : ℕ) → all ≡ c.answered
    → ((t : ℕ) → t < below → ¬ IsMisplacedAt c t) → (t : ℕ) → t < below → ¬ HasBad IsMisplacedBy all t
placed_below c all below e placed =
    subst (λ (l : List Answered). (t : ℕ) → t < below → ¬ HasBad IsMisplacedBy l t) (sym e)
    (λ t lt m. placed t lt (record {
      at = m.at;
      a = m.a;
      command = record { there = m.there; tick = m.tick; done = m.is.done };
      misplaced = m.is.misplaced;
    }))

-- ---- those before a tick

-- the tree so far, and what stands in it
pub record AreFit (depth : ℕ) (all : List Answered) (i : ℕ) (tree : List Member) : Type 0 where
  pub good : AreGood (IsUnderivedBy depth) all i tree
  pub fit : AllByRecursion IsFit tree

pub fit_none : (depth : ℕ) (all : List Answered) → AreFit depth all 0 []
fit_none depth all = record { good = good_none (IsUnderivedBy depth) all; fit = tt }

pub not_misplaced : (all : List Answered) (i : ℕ) (a : Answered) (below : ℕ) (tree : List Member) → i < length all
    → a ≡ get_or all i a → a.tick < below → ((t : ℕ) → t < below → ¬ HasBad IsMisplacedBy all t)
    → tree ≡ tree_of (take i all) → ¬ IsMisplacedBy tree a
not_misplaced all i a below tree lt e early placed is m =
    placed a.tick early (record {
      at = i;
      a = a;
      there = slice_get_read all (length all) i a refl lt e;
      tick = refl;
      is = subst (λ (t : List Member). IsMisplacedBy t a) is m;
    })

pub is_sound : (all : List Answered) (i : ℕ) (a : Answered) → i < length all → a ≡ get_or all i a
    → AllByRecursion IsSound all → IsSound a
is_sound all i a lt e are =
    subst IsSound (sym e) (All-from_recursion IsSound all are i a lt)

pub fit_more : (depth : ℕ) (all : List Answered) (i : ℕ) (a : Answered) (tree more : List Member) → i < length all
    → a ≡ get_or all i a → more ≡ after_answer tree a → ¬ IsUnderivedBy depth tree a → ¬ IsMisplacedBy tree a
    → IsSound a → AreFit depth all i tree → AreFit depth all (i + 1) more
fit_more depth all i a tree more lt e step not_bad placed sound so_far = record {
  good = good_more (IsUnderivedBy depth) all i a tree more lt e step not_bad so_far.good;
  fit = subst (AllByRecursion IsFit) (sym step)
      (answer_fit tree a so_far.fit sound.command (λ done. not_placed (is_misplaced tree a.command) refl done));
}
  where
    not_placed : (b : Bool) → is_misplaced tree a.command ≡ b → is_done a.answer ≡ true → b ≡ false
    not_placed true is done = absurd (placed (record { done = done; misplaced = is }))
    not_placed false is done = refl

pub first_below : (depth : ℕ) (all : List Answered) (i : ℕ) (a : Answered) (below : ℕ) (tree : List Member)
    → AreInOrder all → i < length all → a ≡ get_or all i a → a.tick < below → IsUnderivedBy depth tree a
    → AreFit depth all i tree → IsFirstAt (λ t. HasBad (IsUnderivedBy depth) all t × (t < below)) a.tick
first_below depth all i a below tree order lt e early is so_far =
    let first = first_bad (IsUnderivedBy depth) all i a tree order lt e is so_far.good in record {
      here = (first.here, early);
      earliest = λ k less m. first.earliest k less m.0;
    }

pub none_below : (depth : ℕ) (all : List Answered) (i : ℕ) (a : Answered) (below : ℕ) (tree : List Member)
    → AreInOrder all → i < length all → a ≡ get_or all i a → below ≤ a.tick → AreFit depth all i tree
    → (t : ℕ) → ¬ (HasBad (IsUnderivedBy depth) all t × (t < below))
none_below depth all i a below tree order lt e late so_far t m = elim (cases_lt m.0.at i) [
  | inl before ↦ so_far.good.good m.0.at m.0.a before m.0.there m.0.is
  | inr behind ↦
      let there : slice_get all i ≡ Some a = slice_get_read all (length all) i a refl lt e in
      let later = order i m.0.at a m.0.a behind there m.0.there in
      let now = m.0.tick in
      let less = m.1 in omega (arith, later, now, less, late)
]

pub none_at_all : (depth : ℕ) (all : List Answered) (i : ℕ) (below : ℕ) (tree : List Member) → length all ≤ i
    → AreFit depth all i tree → (t : ℕ) → ¬ (HasBad (IsUnderivedBy depth) all t × (t < below))
none_at_all depth all i below tree le so_far t m =
    none_bad (IsUnderivedBy depth) all i tree le so_far.good t m.0

-- ---- what an answer tells
