-- The account lines of tallies that are taken away, the first of them last on their list.
use Rattle.std.proofs.Common.{◌≡◌, ℕ, ◌<◌, ◌^◌, List, [], ◌∷◌, ◌++◌, Bool, true, false, cond}
use Rattle.std.proofs.Common.{length, refl, sym, ap, ◌∙◌, subst, arith, map, reverse, append_assoc}
use Rattle.std.specs.Prelude.{Result, Ok, Err, OnOk}
use Rattle.std.proofs.lemmas.Grind.{flat_map-append}
use Rattle.std.proofs.lemmas.List.{append-nil, reverse-append}
use Rattle.hls_text.specs.Lines.{Text}
use Rattle.hls_report_text.specs.ReportText.{account_text, with_end}
use Rattle.hls_report_text.specs.declared.report.Account.{Account}
use Rattle.hls_machine.specs.Hierarchy.{Hierarchy}
use Rattle.hls_legal.specs.Agrees.{accounts_in}
use Rattle.hls_core_stays.specs.Tallies.{AreStays}
use Rattle.hls_core_stays.specs.Inside.Accounts.{account_by, accounts_by}
use Rattle.hls_core_stays.specs.Told.{lines_of, AreValid, MayTell}
use Rattle.hls_core_stays.specs.declared.stays.Stays.{Stays}
use Rattle.hls_core_stays.specs.declared.tally.Tally.{Tally}
use Rattle.hls_core_stays.proofs.Told.{accounts_append, accounts_told, lasts_at}

-- ---- one tally

pub line_one : (now : ℕ) (tally : Tally) (old new : Text) → lasts_at now tally ≡ true
    → new ≡ old ++ with_end (account_text (account_by now tally))
    → new ≡ old ++ lines_of (accounts_by now (tally ∷ []))
line_one now tally old new on put =
    put ∙ ap (λ l. old ++ l) (sym (append-nil (with_end (account_text (account_by now tally)))))
    ∙ ap (λ (b : Bool). old ++ lines_of (map (account_by now) (cond b (tally ∷ []) []))) (sym on)

pub line_none : (now : ℕ) (tally : Tally) (old : Text) → lasts_at now tally ≡ false
    → old ≡ old ++ lines_of (accounts_by now (tally ∷ []))
line_none now tally old off =
    sym (append-nil old)
    ∙ ap (λ (b : Bool). old ++ lines_of (map (account_by now) (cond b (tally ∷ []) []))) (sym off)

pub valid_one : (now : ℕ) (tally : Tally) → lasts_at now tally ≡ true → AreValid (accounts_by now (tally ∷ []))
    → AreValid (account_by now tally ∷ [])
valid_one now tally on valid =
    subst (λ (b : Bool). AreValid (map (account_by now) (cond b (tally ∷ []) []))) on valid

-- ---- the next of them

valid_apart : (xs ys : List Account) → AreValid (xs ++ ys) → AreValid xs × AreValid ys
valid_apart [] ys valid = (tt, valid)
valid_apart (x ∷ xs) ys valid = (let rest = valid_apart xs ys valid.1 in ((valid.0, rest.0), rest.1))

-- the accounts of those that are left, in the order in which they are taken
abbrev pub left_of : (now : ℕ) → List Tally → List Account
left_of now left = accounts_by now (reverse left)

left_next : (now : ℕ) (left next : List Tally) (tally : Tally) → left ≡ next ++ tally ∷ []
    → left_of now left ≡ accounts_by now (tally ∷ []) ++ left_of now next
left_next now left next tally is =
    ap (left_of now) is ∙ ap (accounts_by now) (reverse-append next (tally ∷ []))
    ∙ accounts_append now (tally ∷ []) (reverse next)

pub next_valid : (now : ℕ) (left next : List Tally) (tally : Tally) → left ≡ next ++ tally ∷ []
    → AreValid (left_of now left)
    → AreValid (accounts_by now (tally ∷ [])) × AreValid (left_of now next)
next_valid now left next tally is valid =
    valid_apart (accounts_by now (tally ∷ [])) (left_of now next)
    (subst AreValid (left_next now left next tally is) valid)

-- the text so far, with the lines that are still to come
abbrev pub whole_of : (now : ℕ) → (out : Text) → List Tally → Text
whole_of now out left = out ++ lines_of (left_of now left)

next_line : (now : ℕ) (left next : List Tally) (tally : Tally) (old new : Text) → left ≡ next ++ tally ∷ []
    → new ≡ old ++ lines_of (accounts_by now (tally ∷ [])) → whole_of now new next ≡ whole_of now old left
next_line now left next tally old new is put =
    ap (λ l. l ++ lines_of (left_of now next)) put
    ∙ append_assoc old (lines_of (accounts_by now (tally ∷ []))) (lines_of (left_of now next))
    ∙ ap (λ l. old ++ l) (sym (flat_map-append (λ (a : Account). with_end (account_text a))
    (accounts_by now (tally ∷ [])) (left_of now next)) ∙ ap lines_of (sym (left_next now left next tally is)))

-- where the line was put, or not for want of memory
pub next_told : {X E : Type 0} (now : ℕ) (left next : List Tally) (tally : Tally) (old new : Text)
    (result : Result X E) → left ≡ next ++ tally ∷ []
    → OnOk result (new ≡ old ++ lines_of (accounts_by now (tally ∷ [])))
    → OnOk result (whole_of now new next ≡ whole_of now old left)
next_told now left next tally old new (Ok x) is put = next_line now left next tally old new is put
next_told now left next tally old new (Err e) is put = tt

pub none_left : (left next : List Tally) → left ≡ next ++ [] → next ≡ left
none_left left next is = sym (append-nil next) ∙ sym is

pub all_told : (now : ℕ) (left : List Tally) (out whole : Text) → length left ≡ 0
    → whole_of now out left ≡ whole → out ≡ whole
all_told now [] out whole none is = sym (append-nil out) ∙ is
all_told now (x ∷ left) out whole none is = absurd (omega (arith, none))

-- ---- all of them

pub stays_valid : (s : Stays) (now : ℕ) → MayTell s now → now < 2 ^ 32
    → AreValid (accounts_by now s.tallies.items)
stays_valid s now may small =
    subst AreValid (sym (accounts_told s may.h now (accounts_by now s.tallies.items) may.stays may.at_now small refl))
    may.valid

pub accounts_worded : {X E : Type 0} (s : Stays) (now : ℕ) (old new : Text) (result : Result X E) → now < 2 ^ 32
    → OnOk result (new ≡ old ++ lines_of (accounts_by now s.tallies.items))
    → OnOk result ((h : Hierarchy) → AreStays s h → h.now ≡ now → new ≡ old ++ lines_of (accounts_in h))
accounts_worded s now old new (Ok x) small put = λ h are at_now.
    put ∙ ap (λ l. old ++ lines_of l)
    (accounts_told s h now (accounts_by now s.tallies.items) are at_now small refl)
accounts_worded s now old new (Err e) small put = tt
