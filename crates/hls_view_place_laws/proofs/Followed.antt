-- What the first commands leave of a report whose commands can be followed.
use Rattle.std.proofs.Common.{◌≡◌, ℕ, zero, suc, ◌+◌, ◌<◌, List, [], ◌∷◌, ◌++◌, Bool, true, false, not, inl, inr}
use Rattle.std.proofs.Common.{refl, sym, ap, subst, ◌∙◌, ◌&&◌, if◌then◌else◌, filter, take, arith}
use Rattle.std.specs.Prelude.{Option, Some, None, slice_get}
use Rattle.std.proofs.lemmas.Bool.{cases_Bool}
use Rattle.std.proofs.lemmas.List.{append-nil}
use Rattle.std.proofs.lemmas.List.Sums.{fold_push}
use Rattle.hls_text.specs.Lines.{Text}
use Rattle.hls_report_text.specs.declared.report.Answered.{Answered}
use Rattle.hls_legal.specs.Commands.{is_done, ends}
use Rattle.hls_legal.specs.Stays.{threads, admits}
use Rattle.hls_legal.proofs.StaySnoc.{threads_snoc}
use Rattle.hls_audit_clauses.specs.declared.member.Member.{Member}
use Rattle.hls_audit_clauses.specs.Names.{member_of, tree_of, after, after_answer}
use Rattle.hls_audit_clauses.specs.Misplaced.{is_misplaced}
use Rattle.hls_audit_stays.proofs.Lists.{take_next, filter_all}
use Rattle.hls_view_tale.specs.declared.standing.Standing.{Standing}
use Rattle.hls_view_tale.specs.Standings.{standing, standing_with, standing_after}
use Rattle.hls_view_tale.specs.Hierarchies.{listed, in_order}
use Rattle.hls_view_place_laws.proofs.Among.{IsIn, AreOnce, in-flat, of-flat, of-map, once-flat, once-map, once-same}
use Rattle.hls_view_place_laws.proofs.Among.{map-flat}
use Rattle.hls_view_place_laws.proofs.Seats.{names_of, IsTree, named-in, member-found, found}
use Rattle.hls_view_place_laws.proofs.Stepping.{command-tree}
use Rattle.hls_view_place_laws.proofs.Listing.{IsListed, threads_then, listed-after}

-- of the first so many commands, those that were carried out were allowed
pub record IsFollowed (answered : List Answered) (came : ℕ) : Type 0 where
  pub allowed : (k : ℕ) (a : Answered) → k < came → slice_get answered k ≡ Some a → is_done a.answer ≡ true
      → is_misplaced (tree_of (take k answered)) a.command ≡ false

pub record IsSoFar (tree : List Member) (names : List Text) (all : List Standing) : Type 0 where
  pub tree_is : IsTree tree
  pub listed_is : IsListed tree names all

abbrev pub SoFar : List Answered → (came : ℕ) → Type 0
SoFar answered came =
    IsSoFar (tree_of (take came answered)) (threads (take came answered)) (standing answered came)

carried : (tree new : List Member) (names more : List Text) (all now : List Standing) → new ≡ tree → more ≡ names
    → now ≡ all → IsSoFar tree names all → IsSoFar new more now
carried tree new names more all now e f g s =
    subst (λ (t : List Member). IsSoFar t more now) (sym e)
    (subst (λ (ns : List Text). IsSoFar tree ns now) (sym f)
    (subst (λ (ss : List Standing). IsSoFar tree names ss) (sym g) s))

-- ---- one command more

take-more : {X : Type 0} (xs : List X) (i : ℕ) (x : X) → slice_get xs i ≡ Some x
    → take (suc i) xs ≡ take i xs ++ x ∷ []
take-more xs i x e =
    let more : suc i ≡ i + 1 = omega arith in
    ap (λ n. take n xs) more ∙ take_next xs i x e

take-end : {X : Type 0} (xs : List X) (i : ℕ) → slice_get xs i ≡ None → take (suc i) xs ≡ take i xs
take-end [] zero e = refl
take-end [] (suc i) e = refl
take-end (x ∷ xs) zero e = absurd (cc)
take-end (x ∷ xs) (suc i) e = ap (λ ys. x ∷ ys) (take-end xs i e)

tree-more : (before : List Answered) (a : Answered)
    → tree_of (before ++ a ∷ []) ≡ (if is_done a.answer then after (tree_of before) a.command else tree_of before)
tree-more before a = fold_push after_answer [] before a

standing-more : (all : List Answered) (came : ℕ)
    → standing all (suc came) ≡ standing_with (take came all) came (slice_get all came) (standing all came)
unfolding standing
standing-more all came = refl

threads-done : (before : List Answered) (a : Answered) → is_done a.answer ≡ true
    → threads (before ++ a ∷ []) ≡ threads_then (threads before) a.command
threads-done before a done =
    threads_snoc before a
    ∙ ap (λ (b : Bool). filter (λ name. not (b && ends name a.command)) (threads before)
    ++ (if b then admits a.command [] else [])) done

threads-refused : (before : List Answered) (a : Answered) → is_done a.answer ≡ false
    → threads (before ++ a ∷ []) ≡ threads before
threads-refused before a refused =
    threads_snoc before a
    ∙ ap (λ (b : Bool). filter (λ name. not (b && ends name a.command)) (threads before)
    ++ (if b then admits a.command [] else [])) refused
    ∙ append-nil (filter (λ (name : Text). true) (threads before))
    ∙ filter_all (λ (name : Text). true) (threads before) (λ name. refl)

done-next : (all : List Answered) (came : ℕ) (a : Answered) → slice_get all came ≡ Some a
    → is_done a.answer ≡ true → is_misplaced (tree_of (take came all)) a.command ≡ false → SoFar all came
    → SoFar all (suc came)
done-next all came a there done good s =
    let before = take came all in
    let tree = tree_of before in
    let here = take-more all came a there in
    carried (after tree a.command) (tree_of (take (suc came) all)) (threads_then (threads before) a.command)
    (threads (take (suc came) all))
    (standing_after tree (threads before) came a.command (standing all came)) (standing all (suc came))
    (ap tree_of here ∙ tree-more before a
    ∙ ap (λ (b : Bool). if b then after tree a.command else tree) done)
    (ap threads here ∙ threads-done before a done)
    (standing-more all came
    ∙ ap (λ (o : Option Answered). standing_with before came o (standing all came)) there
    ∙ ap (λ (b : Bool). if b then standing_after tree (threads before) came a.command (standing all came)
    else standing all came) done)
    (record {
      tree_is = command-tree tree a.command s.tree_is good;
      listed_is = listed-after tree (threads before) came a.command (standing all came) s.tree_is good s.listed_is;
    })

refused-next : (all : List Answered) (came : ℕ) (a : Answered) → slice_get all came ≡ Some a
    → is_done a.answer ≡ false → SoFar all came → SoFar all (suc came)
refused-next all came a there refused s =
    let before = take came all in
    let tree = tree_of before in
    let here = take-more all came a there in
    carried tree (tree_of (take (suc came) all)) (threads before) (threads (take (suc came) all))
    (standing all came) (standing all (suc came))
    (ap tree_of here ∙ tree-more before a
    ∙ ap (λ (b : Bool). if b then after tree a.command else tree) refused)
    (ap threads here ∙ threads-refused before a refused)
    (standing-more all came
    ∙ ap (λ (o : Option Answered). standing_with before came o (standing all came)) there
    ∙ ap (λ (b : Bool). if b then standing_after tree (threads before) came a.command (standing all came)
    else standing all came) refused)
    s

end-next : (all : List Answered) (came : ℕ) → slice_get all came ≡ None → SoFar all came → SoFar all (suc came)
end-next all came none s =
    let before = take came all in
    let here = take-end all came none in
    carried (tree_of before) (tree_of (take (suc came) all)) (threads before) (threads (take (suc came) all))
    (standing all came) (standing all (suc came)) (ap tree_of here) (ap threads here)
    (standing-more all came
    ∙ ap (λ (o : Option Answered). standing_with before came o (standing all came)) none)
    s

next : (all : List Answered) (came : ℕ) (o : Option Answered) → slice_get all came ≡ o
    → IsFollowed all (suc came) → SoFar all came → SoFar all (suc came)
next all came None e f s = end-next all came e s
next all came (Some a) e f s = elim (cases_Bool (is_done a.answer)) [
  | inl done ↦ done-next all came a e done (f.allowed came a (omega arith) e done) s
  | inr refused ↦ refused-next all came a e refused s
]

none-yet : (all : List Answered) → SoFar all zero
unfolding threads standing
none-yet all = record {
  tree_is = record {
    rank = λ name. 0;
    ranked = record { once = tt; seats = λ m perch there sits. absurd there };
  };
  listed_is = record {
    threads_once = tt;
    running = λ name has. absurd has;
    once = tt;
    there = λ name has. absurd has;
    listed = λ name has. absurd has;
  };
}

pub so-far : (all : List Answered) (came : ℕ) → IsFollowed all came → SoFar all came
so-far all zero f = none-yet all
so-far all (suc came) f =
    next all came (slice_get all came) refl f
    (so-far all came
    (record { allowed = λ k a lt there done. f.allowed k a (omega (arith, lt)) there done }))

-- ---- members in the order of stays

of-listed : (m : Member) (o : Option Member) → IsIn m (listed o) → o ≡ Some m
of-listed m None has = absurd has
of-listed m (Some k) (inl is) = ap (λ (n : Member). Some n) is
of-listed m (Some k) (inr none) = absurd none

listed-once : (o : Option Member) → AreOnce (names_of (listed o))
listed-once None = tt
listed-once (Some m) = (λ has. has, tt)

module _ (tree : List Member) (names : List Text) (all : List Standing) (s : IsSoFar tree names all) where
  abbrev by_stay : Standing → List Member
  by_stay stay = listed (member_of tree stay.name)

  pub of-order : (m : Member) → IsIn m (in_order tree all) → IsIn m tree
  of-order m has =
      let o = of-flat by_stay m all has in
      (found tree o.one.name m (of-listed m (member_of tree o.one.name) o.there)).there

  pub in-order : (m : Member) → IsIn m tree → IsIn m (in_order tree all)
  in-order m has =
      let o = of-map (λ (stay : Standing). stay.name) m.name all
      (s.listed_is.listed m.name (named-in m tree has)) in
      let is : member_of tree o.one.name ≡ Some m =
      ap (member_of tree) o.is ∙ member-found tree m s.tree_is.ranked.once has in
      in-flat by_stay o.one m all o.has
      (subst (λ (found : Option Member). IsIn m (listed found)) (sym is) (inl refl))

  named-so : (stay : Standing) (name : Text) → IsIn name (names_of (by_stay stay)) → name ≡ stay.name
  named-so stay name has =
      let o = of-map (λ (m : Member). m.name) name (by_stay stay) has in
      sym o.is ∙ (found tree stay.name o.one (of-listed o.one (member_of tree stay.name) o.has)).named

  pub order-once : AreOnce (names_of (in_order tree all))
  order-once =
      subst AreOnce (sym (map-flat (λ (m : Member). m.name) by_stay all))
      (once-flat (λ stay. names_of (by_stay stay)) all
      (once-map (λ (stay : Standing). stay.name) all s.listed_is.once)
      (λ stay has. listed-once (member_of tree stay.name))
      (λ one other name h k at_one at_other.
      once-same (λ (stay : Standing). stay.name) all one other s.listed_is.once h k
      (sym (named-so one name at_one) ∙ named-so other name at_other)))
