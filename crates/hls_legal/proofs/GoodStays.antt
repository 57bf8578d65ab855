-- Stays of commands of the grammar are of names, keep what is valid, and end early.
use Rattle.std.proofs.Common.{◌≡◌, ℕ, ◌<◌, ◌≤◌, Bool, true, false, List, [], ◌∷◌}
use Rattle.std.proofs.Common.{◌++◌, get_or, refl, sym, subst, arith, cond, reverse}
use Rattle.std.specs.Prelude.{Option, Some, None, All, find}
use Rattle.std.proofs.lemmas.List.{reverse-append}
use Rattle.std.proofs.lemmas.List.Elements.{All-nil, All-cons, All-head, All-tail, All-append, All-filter, All-map}
use Rattle.std.proofs.lemmas.List.Elements.{All-push}
use Rattle.hls_text.specs.Lines.{Text}
use Rattle.hls_chron.specs.Name.{IsName}
use Rattle.hls_guarantee.specs.declared.Guarantee.{Guarantee}
use Rattle.hls_guarantee.specs.declared.Guarantee.TheVariants as kept
use Rattle.hls_guarantee.specs.Limits.{IsValid, IsNarrow}
use Rattle.hls_scenario.specs.declared.scenario.Command.{Command}
use Rattle.hls_scenario.specs.declared.scenario.Command.TheVariants.{Load, Thread, End, Unload, Move, Wake, Block}
use Rattle.hls_scenario.specs.Grammar.{IsCommand}
use Rattle.hls_report_text.specs.declared.report.Answered.{Answered}
use Rattle.hls_report_text.specs.WellFormed.{AreAnswered}
use Rattle.hls_legal.specs.declared.stay.Stay.{Stay}
use Rattle.hls_legal.specs.Commands.{is_done, has_done, last_seating, is_ended, seats}
use Rattle.hls_legal.specs.Under.{is_under}
use Rattle.hls_legal.specs.Stays.{admits, threads, opens, opened, closes, closed, want_in, want_of, stay_of}
use Rattle.hls_legal.specs.Stays.{stays_with}
use Rattle.hls_legal.specs.Stays.{stays_from, stays}
use Rattle.hls_legal.specs.Accounts.{end_by}

-- a command of the grammar, before a tick
pub record IsFit (version horizon : ℕ) (a : Answered) : Type 0 where
  pub command : IsCommand version a.command
  pub early : a.tick < horizon

pub answered_fit : (version horizon last : ℕ) (xs : List Answered) → AreAnswered version horizon last xs
    → All (IsFit version horizon) xs
answered_fit version horizon last [] are = All-nil (IsFit version horizon)
answered_fit version horizon last (a ∷ xs) are =
    All-cons (IsFit version horizon) a xs (record { command = are.0; early = are.3 })
    (answered_fit version horizon a.tick xs are.4)

-- ---- names

one_named : (name : Text) → IsName name → All IsName (name ∷ [])
one_named name is = All-cons IsName name [] is (All-nil IsName)

admits_named : (version : ℕ) (command : Command) (after : List Answered) → IsCommand version command
    → All IsName (admits command after)
admits_named version (Thread name perch) after is = by (is_ended name after)
  where
    by : (b : Bool) → All IsName (cond b [] (name ∷ []))
    by true = All-nil IsName
    by false = one_named name is.0
admits_named version (Load name config perches) after is = All-nil IsName
admits_named version (End name) after is = All-nil IsName
admits_named version (Unload name) after is = All-nil IsName
admits_named version (Move name perch) after is = All-nil IsName
admits_named version (Wake name every burst) after is = All-nil IsName
admits_named version (Block name) after is = All-nil IsName

if_named : (b : Bool) (names : List Text) → All IsName names → All IsName (cond b names [])
if_named true names all = all
if_named false names all = All-nil IsName

threads_named : (version horizon : ℕ) (xs : List Answered) → All (IsFit version horizon) xs → All IsName (threads xs)
unfolding threads
threads_named version horizon [] all = All-nil IsName
threads_named version horizon (a ∷ xs) all =
    All-append IsName (cond (is_done a.answer) (admits a.command xs) []) (threads xs)
    (if_named (is_done a.answer) (admits a.command xs)
    (admits_named version a.command xs (All-head (IsFit version horizon) a xs all).command))
    (threads_named version horizon xs (All-tail (IsFit version horizon) a xs all))

opens_named : (version horizon : ℕ) (before : List Answered) (command : Command) → All (IsFit version horizon) before
    → IsCommand version command → All IsName (opens before command)
opens_named version horizon before (Thread name perch) all is = one_named name is.0
opens_named version horizon before (Move name perch) all is =
    All-filter (is_under before name) IsName (threads before) (threads_named version horizon before all)
opens_named version horizon before (Load name config perches) all is = All-nil IsName
opens_named version horizon before (End name) all is = All-nil IsName
opens_named version horizon before (Unload name) all is = All-nil IsName
opens_named version horizon before (Wake name every burst) all is = All-nil IsName
opens_named version horizon before (Block name) all is = All-nil IsName

-- ---- what is kept

pub valid_narrow : (g : Guarantee) → IsNarrow g → IsValid g
valid_narrow kept.All is = tt
valid_narrow kept.Null is = tt
valid_narrow (kept.Resb hard x y) is = is
valid_narrow (kept.Resc hard x y) is = is
valid_narrow (kept.Psbe s d) is =
    let rate = is.rate in
    let error = is.error in
    record {
      some = is.some;
      fits = is.fits;
      rate = record { num = omega (arith, rate); den = omega (arith, rate) };
      error = record { num = omega (arith, error); den = omega (arith, error) };
    }

want_valid : (version : ℕ) (command : Command) → IsCommand version command → IsValid (want_in command)
want_valid version (Thread name perch) is = valid_narrow perch.want is.1.want
want_valid version (Move name perch) is = valid_narrow perch.want is.1.want
want_valid version (Load name config perches) is = tt
want_valid version (End name) is = tt
want_valid version (Unload name) is = tt
want_valid version (Wake name every burst) is = tt
want_valid version (Block name) is = tt

-- what holds of each holds of the one that is found
found_all : {A : Type 0} (P : A → Type 0) (test : A → Bool) (xs : List A) (x : A) → All P xs
    → find test xs ≡ Some x → P x
found_all P test [] x all e = absurd (cc)
found_all {A = A} P test (y ∷ xs) x all e = by (test y) (found_all P test xs x (All-tail P y xs all)) e
  where
    by : (b : Bool) → (find test xs ≡ Some x → P x) → cond b (Some y) (find test xs) ≡ Some x → P x
    by true more f = let same : y ≡ x = cc in subst P same (All-head P y xs all)
    by false more f = more f

all_reverse : {A : Type 0} (P : A → Type 0) (xs : List A) → All P xs → All P (reverse xs)
all_reverse P [] all = All-nil P
all_reverse P (x ∷ xs) all =
    subst (All P) (sym (reverse-append (x ∷ []) xs))
    (All-push P (reverse xs) x (all_reverse P xs (All-tail P x xs all)) (All-head P x xs all))

want_of_valid : (version horizon : ℕ) (found : Option Answered)
    → ((a : Answered) → found ≡ Some a → IsFit version horizon a)
    → IsValid (want_of found)
want_of_valid version horizon None fit = tt
want_of_valid version horizon (Some a) fit = want_valid version a.command (fit a refl).command

last_valid : (version horizon : ℕ) (name : Text) (xs : List Answered) → All (IsFit version horizon) xs
    → IsValid (want_of (last_seating name xs))
unfolding last_seating
last_valid version horizon name xs all =
    want_of_valid version horizon (find (has_done (seats name)) (reverse xs))
    (λ a e. found_all (IsFit version horizon) (has_done (seats name)) (reverse xs) a
    (all_reverse (IsFit version horizon) xs all) e)

-- ---- when a stay ends

closed_early : (version horizon : ℕ) (before after : List Answered) (name : Text) (t : ℕ)
    → All (IsFit version horizon) after → closed before after name ≡ Some t → t < horizon
unfolding closed
closed_early version horizon before [] name t all e = absurd (cc)
closed_early version horizon before (a ∷ after) name t all e =
    by (has_done (closes before name) a)
    (closed_early version horizon (before ++ a ∷ []) after name t (All-tail (IsFit version horizon) a after all)) e
  where
    by : (b : Bool) → (closed (before ++ a ∷ []) after name ≡ Some t → t < horizon)
        → cond b (Some a.tick) (closed (before ++ a ∷ []) after name) ≡ Some t → t < horizon
    by true more f =
        let same : a.tick ≡ t = cc in
        let early = (All-head (IsFit version horizon) a after all).early in omega (arith, same, early)
    by false more f = more f

-- ---- stays

pub record IsGoodStay (horizon : ℕ) (stay : Stay) : Type 0 where
  pub named : IsName stay.name
  pub kept : IsValid stay.kept
  pub ends : (t : ℕ) → stay.until ≡ Some t → t < horizon

stays_with_good : (version horizon : ℕ) (before after : List Answered) (a : Answered)
    → All (IsFit version horizon) before → All (IsFit version horizon) after
    → IsFit version horizon a → All (IsGoodStay horizon) (stays_with before after a)
stays_with_good version horizon before after a all more fit =
    All-map (IsGoodStay horizon) (stay_of (before ++ a ∷ []) after a.tick) (opened before a)
    (λ k d lt. record {
      named = if_named (is_done a.answer) (opens before a.command)
          (opens_named version horizon before a.command all fit.command) k d lt;
      kept = last_valid version horizon (get_or (opened before a) k d) (before ++ a ∷ [])
          (All-push (IsFit version horizon) before a all fit);
      ends = λ t e. closed_early version horizon (before ++ a ∷ []) after (get_or (opened before a) k d) t more e;
    })

stays_from_good : (version horizon : ℕ) (before after : List Answered) → All (IsFit version horizon) before
    → All (IsFit version horizon) after → All (IsGoodStay horizon) (stays_from before after)
unfolding stays_from
stays_from_good version horizon before [] all more = All-nil (IsGoodStay horizon)
stays_from_good version horizon before (a ∷ after) all more =
    let fit = All-head (IsFit version horizon) a after more in
    let rest = All-tail (IsFit version horizon) a after more in
    All-append (IsGoodStay horizon) (stays_with before after a) (stays_from (before ++ a ∷ []) after)
    (stays_with_good version horizon before after a all rest fit)
    (stays_from_good version horizon (before ++ a ∷ []) after (All-push (IsFit version horizon) before a all fit) rest)

pub stays_good : (version horizon : ℕ) (xs : List Answered) → AreAnswered version horizon 0 xs
    → All (IsGoodStay horizon) (stays xs)
stays_good version horizon xs are =
    stays_from_good version horizon [] xs (All-nil (IsFit version horizon)) (answered_fit version horizon 0 xs are)

-- a stay ends by the horizon
pub end_within : (horizon : ℕ) (until : Option ℕ) → ((t : ℕ) → until ≡ Some t → t < horizon)
    → end_by horizon until ≤ horizon
end_within horizon None ends = omega arith
end_within horizon (Some t) ends = let lt = ends t refl in omega (arith, lt)
