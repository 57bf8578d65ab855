-- The accounts of a list, met one after another.
use Rattle.std.proofs.Common.{◌≡◌, ℕ, zero, suc, ◌+◌, ◌-◌, List, [], ◌∷◌, ◌++◌, length, drop}
use Rattle.std.proofs.Common.{refl, sym, ap, ◌∙◌, subst, arith, append_assoc, add-one, length-drop, drop-cons}
use Rattle.std.proofs.Math.Seq.{drop-length}
use Rattle.std.specs.Prelude.{Bool, true, false, Option, Some, ◌==◌, Decides, slice_get}
use Rattle.std.proofs.lemmas.Bool.{eq-eqb, eqb-true}
use Rattle.std.proofs.lemmas.List.{append_cancel_left, append-nil}
use Rattle.std.proofs.lemmas.Option.{slice_get_within, get_or_from_slice_get}
use Rattle.hls_report_text.specs.declared.report.Account.{Account}
use Rattle.hls_audit_threads.specs.Inside.Meeting.{listed, AreFirst, AreMet}

pub met_none : (all : List Account) (met : Option ℕ) → met ≡ Some 0 → AreMet all [] met
met_none all met e =
    subst (AreMet all []) (sym e) (record { within = omega arith; ahead = refl })

-- nothing more is found
pub met_same : (all found : List Account) (met : Option ℕ) → AreMet all found met → AreMet all (found ++ []) met
met_same all found met are = subst (λ l. AreMet all l met) (sym (append-nil found)) are

-- ---- one more is found

pub met_next : (all found : List Account) (at : ℕ) (one : Account) → slice_get all at ≡ Some one
    → AreFirst all found at → AreFirst all (found ++ one ∷ []) (at + 1)
met_next all found at one there are =
    let lt = slice_get_within all at one there in record {
      within = omega (arith, lt);
      ahead = are.ahead
          ∙ ap (λ l. found ++ l) (drop-cons all at one lt
          ∙ ap (λ x. x ∷ drop (suc at) all) (get_or_from_slice_get all at one one there)
          ∙ ap (λ n. one ∷ drop n all) (sym (add-one at)))
          ∙ sym (append_assoc found (one ∷ []) (drop (at + 1) all));
    }

get_ahead : (all : List Account) (at : ℕ) (one : Account) (rest : List Account) → drop at all ≡ one ∷ rest
    → slice_get all at ≡ Some one
get_ahead [] zero one rest e = absurd (cc)
get_ahead [] (suc at) one rest e = absurd (cc)
get_ahead (x ∷ all) zero one rest e = let same : x ≡ one = cc in ap Some same
get_ahead (x ∷ all) (suc at) one rest e = get_ahead all at one rest e

pub met_apart : (all found : List Account) (at : ℕ) (one : Account) → ¬ (slice_get all at ≡ Some one)
    → AreFirst all found at → (rest : List Account) → ¬ (all ≡ (found ++ one ∷ []) ++ rest)
met_apart all found at one apart are rest e =
    apart (get_ahead all at one rest (sym (append_cancel_left found (one ∷ rest) (drop at all)
    (sym (append_assoc found (one ∷ []) rest) ∙ sym e ∙ are.ahead))))

pub apart_more : (all found more : List Account) → ((rest : List Account) → ¬ (all ≡ found ++ rest))
    → (rest : List Account) → ¬ (all ≡ (found ++ more) ++ rest)
apart_more all found more never rest e = never (more ++ rest) (e ∙ append_assoc found more rest)

-- ---- all are found

pub met_all : (all found : List Account) (at : ℕ) (r : Bool) → r ≡ (at == length all) → AreFirst all found at
    → Decides r (all ≡ found)
met_all all found at r is are = (
  λ on.
      are.ahead ∙ ap (λ n. found ++ drop n all) (eqb-true at (length all) (sym is ∙ on))
      ∙ ap (λ l. found ++ l) (drop-length all) ∙ append-nil found,
  λ e.
      let none : drop at all ≡ [] =
      append_cancel_left found (drop at all) [] (sym are.ahead ∙ e ∙ sym (append-nil found)) in
      let long : length all - at ≡ 0 = sym (length-drop at all) ∙ ap (λ (l : List Account). length l) none in
      let within = are.within in is ∙ eq-eqb at (length all) (omega (arith, long, within)),
)

pub apart_all : (all found : List Account) (r : Bool) → r ≡ false
    → ((rest : List Account) → ¬ (all ≡ found ++ rest)) → Decides r (all ≡ found)
apart_all all found r off never = (
  λ on. absurd (let wrong : true ≡ false = sym on ∙ off in cc),
  λ e. absurd (never [] (e ∙ sym (append-nil found))),
)

-- ---- as they are called

module _ (all before : List Account) (met : Option ℕ) (found : Option Account) (at : ℕ) (one : Account)
    (is : found ≡ Some one) (count : met ≡ Some at) (are : AreMet all before met) where
  pub meets_next : slice_get all at ≡ Some one → AreFirst all (before ++ listed found) (at + 1)
  meets_next there =
      subst (λ o. AreFirst all (before ++ listed o) (at + 1)) (sym is)
      (met_next all before at one there (subst (AreMet all before) count are))

  pub meets_other : ¬ (slice_get all at ≡ Some one) → (rest : List Account)
      → ¬ (all ≡ (before ++ listed found) ++ rest)
  meets_other apart =
      subst (λ o. (rest : List Account) → ¬ (all ≡ (before ++ listed o) ++ rest)) (sym is)
      (met_apart all before at one apart (subst (AreMet all before) count are))

pub met_by : (all items before : List Account) (old new : Option ℕ) (found more : Option Account) → items ≡ all
    → found ≡ more → (AreMet items before old → AreMet items (before ++ listed found) new)
    → AreMet all before old → AreMet all (before ++ listed more) new
met_by all items before old new found more same is meets are =
    subst (λ o. AreMet all (before ++ listed o) new) is
    (subst (λ l. AreMet l (before ++ listed found) new) same
    (meets (subst (λ l. AreMet l before old) (sym same) are)))

pub counted_by : (all items found : List Account) (met : Option ℕ) (r : Bool) → items ≡ all
    → (AreMet items found met → Decides r (items ≡ found)) → AreMet all found met → Decides r (all ≡ found)
counted_by all items found met r same decides are =
    subst (λ l. Decides r (l ≡ found)) same (decides (subst (λ l. AreMet l found met) (sym same) are))
